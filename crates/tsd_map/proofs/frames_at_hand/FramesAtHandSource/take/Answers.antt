use Rattle.std.proofs.Common.{◌++◌, take, drop, sym, ◌∙◌, ap}
use Rattle.std.proofs.Math.Seq.{take-add, drop-drop}
use Rattle.std.proofs.lemmas.List.{take-append-drop}
use Rattle.tsd_map.proofs.frames_at_hand.FramesAtHandSource.take.Goals as goal

pub returns-clause-taken : goal.returns-clause-taken
returns-clause-taken c told =
    let n = c.min-count.result in
    let b = c.args.self.now.bytes.now in
    let at = c.args.self.now.at in
    take-add at n b ∙ ap (λ l. take at b ++ l) (sym c.copy_some.ensures.copied)

pub returns-clause-bytes : goal.returns-clause-bytes
returns-clause-bytes c told =
    let n = c.min-count.result in
    let b = c.args.self.now.bytes.now in
    let at = c.args.self.now.at in
    sym (take-append-drop n (drop at b)) ∙ ap (λ l. l ++ drop n (drop at b)) (sym c.copy_some.ensures.copied) ∙ ap (λ l. take n c.copy_some.new.into ++ l) (drop-drop n at b)
