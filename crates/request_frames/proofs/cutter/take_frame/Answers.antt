use Rattle.std.proofs.Common.{◌≡◌, ◌≢◌, ◌++◌, ◌-◌, ◌+◌, ℕ, List, ◌==◌, min, length, take, drop, true, false, subst, sym, ◌∙◌, ap}
use Rattle.std.proofs.lemmas.Bool.{eq-eqb}
use Rattle.std.proofs.lemmas.List.{take_rest}
use Rattle.request_frames.specs.Frames.{has_frame}
use Rattle.request_frames.proofs.CutLaws.{taken, used_up, known}
use Rattle.request_frames.proofs.cutter.take_frame.Goals as goal

pub returns-clause-items : goal.returns-clause-items
returns-clause-items c =
    c.fill-of_body.ensures.items
    ∙ (λ i. c.fill-of_length.ensures.items i ++ take c.fill-of_body.result (take_rest c.args.piece.now c.fill-of_length.result i))
    ∙ taken c.args.held.now.items c.args.piece.now c.fill-of_length.result c.fill-of_body.result

pub returns-clause-none : goal.returns-clause-none
returns-clause-none c = λ ended.
    let held : List ℕ = c.args.held.now.items in
    let piece : List ℕ = c.args.piece.now in
    let u : ℕ = c.fill-of_length.result in
    let v : ℕ = c.fill-of_body.result in
    let first : c.fill-of_length.new.held.items ≡ held ++ take u piece = c.fill-of_length.ensures.items in
    let tail : take (length piece - u) (drop u piece) ≡ drop u piece = take_rest piece u in
    let all : c.fill-of_body.new.held.items ≡ (held ++ take u piece) ++ take v (drop u piece) = c.fill-of_body.ensures.items ∙ (λ i. first i ++ take v (tail i)) in
    let size : c.known_size-size.result ≡ known (held ++ take u piece) = c.known_size-size.ensures.value ∙ ap known (c.as_slice.ensures.value ∙ first) in
    let long : c.len.result ≡ length c.fill-of_body.new.held.items = c.len.ensures ∙ sym c.as_slice-2.ensures.len ∙ ap length c.as_slice-2.ensures.value in
    let wanted : c.known_size.result ≡ known c.fill-of_body.new.held.items = c.known_size.ensures.value ∙ ap known c.as_slice-2.ensures.value in
    let other : length c.fill-of_body.new.held.items ≢ known c.fill-of_body.new.held.items = λ e.
    let yes : (c.len.result == c.known_size.result) ≡ true = eq-eqb c.len.result c.known_size.result (long ∙ e ∙ sym wanted) in
    absurd (cc) in
    subst (λ (h : List ℕ). (has_frame h ≡ false) × (u + v ≡ length piece)) (sym all)
    (used_up held piece u v c.requires.begun c.fill-of_length.ensures.used (c.fill-of_body.ensures.used ∙ (λ i. min (size i - length (first i)) (length (tail i)))) (subst (λ (h : List ℕ). length h ≢ known h) all other))
