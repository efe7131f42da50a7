-- Where a text of frames is cut, and how one feed goes on with it.
use Rattle.std.proofs.Common.{◌≡◌, ◌≢◌, ℕ, zero, suc, ◌+◌, ◌-◌, ◌<◌, ◌≤◌, min, true, false, cond, nat_le, List, [], ◌∷◌, ◌++◌, length, take, drop, refl, sym, ◌∙◌, ap, subst, arith, append_assoc, append-nil}
use Rattle.std.proofs.lemmas.Bool.{leb-true, leb-false, le-leb, lt-leb}
use Rattle.std.proofs.lemmas.List.{length-take, length-drop, length-append, take-append-le, drop-append-le}
use Rattle.std.proofs.Math.Seq.{take-add, drop-length, take-length}
use Rattle.std.specs.Prelude.{MatchBool}
use Rattle.byteorder.specs.Numbers.{little_from-append}
use Rattle.request_frames.specs.Frames.{frame_size, has_frame, Cut, and_then, cut_some, cut, frames, unended}
use Rattle.request_frames.specs.Cutting.{Cutting, frame_body, rest, WasFed, Cuts, FollowOn, text_fed, bodies_held}

-- nothing is cut off
abbrev none_of : List ℕ → Cut
none_of text = record { bodies = []; rest = text }

-- the first frame is cut off, and then others
abbrev first_of : List ℕ → Cut → Cut
first_of text others = and_then (drop 2 (take (frame_size text) text)) others

-- ---- how many frames are cut off doesn't matter, where they are enough

enough : (n m : ℕ) (text : List ℕ) → length text ≤ n → length text ≤ m → cut_some n text ≡ cut_some m text
enough zero zero text hn hm = refl
enough zero (suc m) text hn hm =
    let not : has_frame text ≡ false = lt-leb (frame_size text) (length text) (omega (arith, hn)) in
    ap (λ t. cond t (first_of text (cut_some m (drop (frame_size text) text))) (none_of text)) (sym not)
enough (suc n) zero text hn hm =
    let not : has_frame text ≡ false = lt-leb (frame_size text) (length text) (omega (arith, hm)) in
    ap (λ t. cond t (first_of text (cut_some n (drop (frame_size text) text))) (none_of text)) not
enough (suc n) (suc m) text hn hm =
    elim (has_frame text) as (λ t. has_frame text ≡ t → cond t (first_of text (cut_some n (drop (frame_size text) text))) (none_of text) ≡ cond t (first_of text (cut_some m (drop (frame_size text) text))) (none_of text)) [
      | true ↦ λ p. let h = leb-true (frame_size text) (length text) p in
          let l : length (drop (frame_size text) text) ≤ length text - 2 = omega (arith, length-drop (frame_size text) text) in
          ap (first_of text) (enough n m (drop (frame_size text) text) (omega (arith, l, hn, h)) (omega (arith, l, hm, h)))
      | false ↦ λ p. refl
    ] refl

-- a text is its first frame and what stands after it, or has none
pub cut_first : (text : List ℕ) → cut text ≡ cond (has_frame text) (first_of text (cut (drop (frame_size text) text))) (none_of text)
unfolding cut
cut_first [] = refl
cut_first (b ∷ bs) =
    let text : List ℕ = b ∷ bs in
    elim (has_frame (b ∷ bs)) as (λ t. has_frame (b ∷ bs) ≡ t → cond t (first_of (b ∷ bs) (cut_some (length bs) (drop (frame_size (b ∷ bs)) (b ∷ bs)))) (none_of (b ∷ bs)) ≡ cond t (first_of (b ∷ bs) (cut_some (length (drop (frame_size (b ∷ bs)) (b ∷ bs))) (drop (frame_size (b ∷ bs)) (b ∷ bs)))) (none_of (b ∷ bs))) [
      | true ↦ λ p. let l : length (drop (frame_size (b ∷ bs)) (b ∷ bs)) ≤ length bs = omega (arith, length-drop (frame_size (b ∷ bs)) (b ∷ bs)) in
          ap (first_of (b ∷ bs)) (enough (length bs) (length (drop (frame_size (b ∷ bs)) (b ∷ bs))) (drop (frame_size (b ∷ bs)) (b ∷ bs)) l (omega arith))
      | false ↦ λ p. refl
    ] refl

pub cut_whole : (text : List ℕ) → has_frame text ≡ true → cut text ≡ first_of text (cut (drop (frame_size text) text))
cut_whole text h = cut_first text ∙ ap (λ t. cond t (first_of text (cut (drop (frame_size text) text))) (none_of text)) h

pub cut_none : (text : List ℕ) → has_frame text ≡ false → cut text ≡ none_of text
cut_none text h = cut_first text ∙ ap (λ t. cond t (first_of text (cut (drop (frame_size text) text))) (none_of text)) h

-- ---- a text of two parts

-- the frames of the first part, and then those that what it left makes with the second
abbrev goes_on : Cut → List ℕ → Cut
goes_on c more = let d = cut (c.rest ++ more) in record { bodies = c.bodies ++ d.bodies; rest = d.rest }

pub same_size : (x y : List ℕ) → 2 ≤ length x → frame_size (x ++ y) ≡ frame_size x
same_size x y h = ap (λ n. 2 + n) (little_from-append 2 x y h)

-- a first part that begins with a frame, where what stands after this frame is known
glue_frame : (v w : List ℕ) → has_frame v ≡ true → cut (drop (frame_size v) v ++ w) ≡ goes_on (cut (drop (frame_size v) v)) w → cut (v ++ w) ≡ goes_on (cut v) w
glue_frame v w p more =
    let s = leb-true (frame_size v) (length v) p in
    let two : 2 ≤ length v = omega (arith, s) in
    let e = same_size v w two in
    let some : has_frame (v ++ w) ≡ true = le-leb (frame_size (v ++ w)) (length (v ++ w)) (omega (arith, e, s, length-append v w)) in
    cut_whole (v ++ w) some
    ∙ (λ i. and_then (drop 2 (take (e i) (v ++ w))) (cut (drop (e i) (v ++ w))))
    ∙ (λ i. and_then (drop 2 (take-append-le (frame_size v) v w s i)) (cut (drop-append-le (frame_size v) v w s i)))
    ∙ ap (first_of v) more
    ∙ ap (λ c. goes_on c w) (sym (cut_whole v p))

glue_none : (v w : List ℕ) → has_frame v ≡ false → cut (v ++ w) ≡ goes_on (cut v) w
glue_none v w p = ap (λ c. goes_on c w) (sym (cut_none v p))

glue_some : (n : ℕ) (x y : List ℕ) → length x ≤ n → cut (x ++ y) ≡ goes_on (cut x) y
glue_some zero x y h = glue_none x y (lt-leb (frame_size x) (length x) (omega (arith, h)))
glue_some (suc n) x y h =
    elim (has_frame x) as (λ t. has_frame x ≡ t → cut (x ++ y) ≡ goes_on (cut x) y) [
      | false ↦ λ p. glue_none x y p
      | true ↦ λ p. glue_frame x y p (glue_some n (drop (frame_size x) x) y (omega (arith, length-drop (frame_size x) x, leb-true (frame_size x) (length x) p, h)))
    ] refl

pub glue : (x y : List ℕ) → cut (x ++ y) ≡ goes_on (cut x) y
glue x y = glue_some (length x) x y (omega arith)

-- ---- one feed

-- one frame and no more
one_frame : (h : List ℕ) → length h ≡ frame_size h → cut h ≡ record { bodies = drop 2 h ∷ []; rest = [] }
one_frame h e =
    let some : has_frame h ≡ true = le-leb (frame_size h) (length h) (omega (arith, e)) in
    cut_whole h some
    ∙ ap (λ n. and_then (drop 2 (take n h)) (cut (drop n h))) (sym e)
    ∙ (λ i. and_then (drop 2 (take-length h i)) (cut (drop-length h i)))
    ∙ ap (and_then (drop 2 h)) (cut_none [] refl)

pub cuts_whole : (text more : List ℕ) (old new : Cutting) → WasFed text old → new.held ≡ rest old ++ more → new.whole ≡ true → length new.held ≡ frame_size new.held → Cuts text more new
cuts_whole text more old new fed held w e =
    let all : cut (text ++ more) ≡ goes_on (cut text) more = glue text more in
    let part : cut (unended text ++ more) ≡ record { bodies = drop 2 new.held ∷ []; rest = [] } = ap (λ r. cut (r ++ more)) (sym fed) ∙ ap cut (sym held) ∙ one_frame new.held e in
    subst (λ t. MatchBool t
    ((frames (text ++ more) ≡ frames text ++ frame_body new ∷ []) × (unended (text ++ more) ≡ []))
    ((frames (text ++ more) ≡ frames text) × (unended (text ++ more) ≡ new.held))) (sym w)
    (ap (λ c. c.bodies) all ∙ ap (λ (c : Cut). frames text ++ c.bodies) part, ap (λ c. c.rest) all ∙ ap (λ (c : Cut). c.rest) part)

pub cuts_none : (text more : List ℕ) (old new : Cutting) → WasFed text old → new.held ≡ rest old ++ more → new.whole ≡ false → has_frame new.held ≡ false → Cuts text more new
cuts_none text more old new fed held w e =
    let all : cut (text ++ more) ≡ goes_on (cut text) more = glue text more in
    let part : cut (unended text ++ more) ≡ none_of new.held = ap (λ r. cut (r ++ more)) (sym fed) ∙ ap cut (sym held) ∙ cut_none new.held e in
    subst (λ t. MatchBool t
    ((frames (text ++ more) ≡ frames text ++ frame_body new ∷ []) × (unended (text ++ more) ≡ []))
    ((frames (text ++ more) ≡ frames text) × (unended (text ++ more) ≡ new.held))) (sym w)
    (ap (λ c. c.bodies) all ∙ ap (λ (c : Cut). frames text ++ c.bodies) part ∙ append-nil (frames text), ap (λ c. c.rest) all ∙ ap (λ (c : Cut). c.rest) part)

-- after a feed the cutter holds what stands after the last whole frame
pub fed_more : (text more : List ℕ) (new : Cutting) → Cuts text more new → WasFed (text ++ more) new
fed_more text more new h =
    elim new.whole as (λ t. MatchBool t
    ((frames (text ++ more) ≡ frames text ++ frame_body new ∷ []) × (unended (text ++ more) ≡ []))
    ((frames (text ++ more) ≡ frames text) × (unended (text ++ more) ≡ new.held)) → cond t [] new.held ≡ unended (text ++ more)) [
      | true ↦ λ g. sym g.1
      | false ↦ λ g. sym g.1
    ] h

-- ---- all feeds

held_next : (text more : List ℕ) (new : Cutting) → Cuts text more new → frames text ++ cond new.whole (frame_body new ∷ []) [] ≡ frames (text ++ more)
held_next text more new h =
    elim new.whole as (λ t. MatchBool t
    ((frames (text ++ more) ≡ frames text ++ frame_body new ∷ []) × (unended (text ++ more) ≡ []))
    ((frames (text ++ more) ≡ frames text) × (unended (text ++ more) ≡ new.held)) → frames text ++ cond t (frame_body new ∷ []) [] ≡ frames (text ++ more)) [
      | true ↦ λ g. sym g.0
      | false ↦ λ g. append-nil (frames text) ∙ sym g.0
    ] h

held_all : (text : List ℕ) (feeds : List (List ℕ × Cutting)) → FollowOn text feeds → frames text ++ bodies_held feeds ≡ frames (text ++ text_fed feeds)
held_all text [] h = append-nil (frames text) ∙ ap frames (sym (append-nil text))
held_all text (feed ∷ feeds) h =
    sym (append_assoc (frames text) (cond feed.1.whole (frame_body feed.1 ∷ []) []) (bodies_held feeds))
    ∙ ap (λ bs. bs ++ bodies_held feeds) (held_next text feed.0 feed.1 h.0)
    ∙ held_all (text ++ feed.0) feeds h.1
    ∙ ap frames (append_assoc text feed.0 (text_fed feeds))

pub any_cutting_lem : (feeds : List (List ℕ × Cutting)) → FollowOn [] feeds → bodies_held feeds ≡ frames (text_fed feeds)
unfolding cut
any_cutting_lem feeds h = held_all [] feeds h

-- ---- what one feed takes of a piece

-- how many bytes are wanted, as far as they tell: those of the first frame, or of its length where that isn't there whole
abbrev pub known : List ℕ → ℕ
known bytes = cond (nat_le 2 (length bytes)) (frame_size bytes) 2

-- the length is there whole: the piece is used up, or the frame has come to its end
with_length : (a p u v s t : ℕ) → a < t → (2 ≤ a → s ≡ t) → 2 ≤ s → u ≡ min (2 - a) p → 2 ≤ a + u → v ≡ min (s - (a + u)) (p - u) → a + u + v ≢ s → (a + u + v < s) × (u + v ≡ p)
with_length a p u v s t begun same two hu all hv other = (grind arith, grind arith)

-- it isn't: the piece is used up
without_length : (a p u v : ℕ) → u ≡ min (2 - a) p → a + u < 2 → v ≡ min (2 - (a + u)) (p - u) → (a + u + v < 2) × (u + v ≡ p)
without_length a p u v hu few hv = (omega arith, omega arith)

-- first up to the length, then up to the frame's end
pub taken : (held piece : List ℕ) (u v : ℕ) → (held ++ take u piece) ++ take v (drop u piece) ≡ held ++ take (u + v) piece
taken held piece u v = append_assoc held (take u piece) (take v (drop u piece)) ∙ ap (λ xs. held ++ xs) (sym (take-add u v piece))

pub used_up : (held piece : List ℕ) (u v : ℕ) → has_frame held ≡ false → u ≡ min (2 - length held) (length piece)
    → v ≡ min (known (held ++ take u piece) - length (held ++ take u piece)) (length (drop u piece))
    → length ((held ++ take u piece) ++ take v (drop u piece)) ≢ known ((held ++ take u piece) ++ take v (drop u piece))
    → (has_frame ((held ++ take u piece) ++ take v (drop u piece)) ≡ false) × (u + v ≡ length piece)
used_up held piece u v begun hu hv other =
    let first : List ℕ = held ++ take u piece in
    let all : List ℕ = first ++ take v (drop u piece) in
    let rest : length (drop u piece) ≡ length piece - u = length-drop u piece in
    let l1 : length first ≡ length held + u = omega (arith, length-append held (take u piece), length-take u piece, hu) in
    let l2 : length all ≡ length held + u + v = omega (arith, length-append first (take v (drop u piece)), length-take v (drop u piece), hv, l1) in
    elim (nat_le 2 (length first)) as (λ t. nat_le 2 (length first) ≡ t → v ≡ min (cond t (frame_size first) 2 - length first) (length (drop u piece)) → (has_frame all ≡ false) × (u + v ≡ length piece)) [
      | true ↦ λ p q.
          let two = leb-true 2 (length first) p in
          let same : frame_size all ≡ frame_size first = same_size first (take v (drop u piece)) two in
          let there : nat_le 2 (length all) ≡ true = le-leb 2 (length all) (omega (arith, l1, l2, two)) in
          let unlike : length held + u + v ≢ frame_size first = λ e. other (l2 ∙ e ∙ sym same ∙ ap (λ t. cond t (frame_size all) 2) (sym there)) in
          let w = with_length (length held) (length piece) u v (frame_size first) (frame_size held) (leb-false (frame_size held) (length held) begun) (λ h. same_size held (take u piece) h) (omega arith) hu (omega (arith, l1, two)) (q ∙ (λ i. min (frame_size first - l1 i) (rest i))) unlike in
          (lt-leb (frame_size all) (length all) (omega (arith, same, l2, w.0)), w.1)
      | false ↦ λ p q.
          let w = without_length (length held) (length piece) u v hu (omega (arith, l1, leb-false 2 (length first) p)) (q ∙ (λ i. min (2 - l1 i) (rest i))) in
          (lt-leb (frame_size all) (length all) (omega (arith, l2, w.0)), w.1)
    ] refl hv
