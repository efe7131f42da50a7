use Rattle.std.proofs.Common.{◌≡◌, ℕ, List, ◌++◌, true, false, take, ◌∙◌, ap, refl}
use Rattle.request_frames.specs.Cutting.{Cutting, Cuts, rest}
use Rattle.request_frames.proofs.CutLaws.{cuts_whole, cuts_none, fed_more}
use Rattle.request_frames.proofs.cutter.FrameCutter.feed.Goals as goal

pub returns-clause-cuts : goal.returns-clause-cuts
returns-clause-cuts c = λ text fed.
    let more : List ℕ = take c.take_frame-fed.result.used c.args.piece.now in
    let new : Cutting = record { held = c.take_frame-fed.new.held.items; whole = c.take_frame-fed.result.whole } in
    let held : new.held ≡ rest c.args.self.now ++ more = c.take_frame-fed.ensures.items ∙ ap (λ h. h ++ more) (c.begin_anew.ensures.items ∙ ap rest c.self.view_is) in
    elim c.take_frame-fed.result.whole as (λ t. c.take_frame-fed.result.whole ≡ t → Cuts text more new) [
      | true ↦ λ w. cuts_whole text more c.args.self.now new fed held w (c.take_frame-fed.ensures.whole w).0
      | false ↦ λ w. cuts_none text more c.args.self.now new fed held w (c.take_frame-fed.ensures.none w).0
    ] refl

pub returns-clause-fed : goal.returns-clause-fed
returns-clause-fed c = λ text fed. fed_more text (take c.take_frame-fed.result.used c.args.piece.now) _ (returns-clause-cuts c text fed)
