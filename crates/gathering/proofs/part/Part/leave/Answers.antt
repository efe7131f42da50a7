use Rattle.std.proofs.Common.{◌∙◌, inl, inr, List, sym, ap}
use Rattle.std.proofs.lemmas.Bool.{cases_Bool}
use Rattle.image_layout.specs.declared.offset.Patch.{Patch}
use Rattle.intent_journal.specs.Home.{overlaid}
use Rattle.gathering.specs.Gathered.{cleared}
use Rattle.gathering.proofs.PartLaws.{leaves_stray}
use Rattle.gathering.proofs.part.Part.leave.Goals as goal

pub returns-clause-holds : goal.returns-clause-holds
returns-clause-holds g c told =
    let m = c.args.self in
    elim (cases_Bool m.strayed) [
      | inl strayed ↦ inr (leaves_stray g.K.Going.start g.K.Going.batch m.past.events m.faults m.writes (g.P.Device.view m.dev.now) (m.began_whole told) m.whole (m.stray strayed))
      | inr un ↦ inl (λ n out. ap (λ (b : List Patch). overlaid b (cleared g.K.Going.start.reads) n) (c.room_of-room.ensures.batch un ∙ sym (m.same un)) ∙ sym (m.net n out))
    ]
