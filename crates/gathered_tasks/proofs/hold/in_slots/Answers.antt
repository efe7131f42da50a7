use Rattle.std.proofs.Common.{◌≡◌, ◌∙◌, ap, sym, subst, suc, length, List}
use Rattle.gathered_tasks.proofs.Common.{HasRested, Image, IsLeftNow, IsSound, LeavesEither, LeavesOnly, State, View, gone_on, held_state, part_sound, part_view, state_on, went_on}
use Rattle.image_device.specs.declared.event.Event.{Event}
use Rattle.image_device.specs.History.{after}
use Rattle.gathering.proofs.BelowLaws.{below_rested}
use Rattle.gathered_tasks.proofs.PartGoes.{IsLeftOff, part_given, part_goes}
use Rattle.gathered_tasks.proofs.BelowGoes.{RanBelow}
use Rattle.gathered_tasks.proofs.hold.in_slots.Goals.{After-leave-dev}
use Rattle.gathered_tasks.proofs.hold.in_slots.Goals as goal

module _ (g : _) (c : After-leave-dev g) where
  -- the part as it began, and as it is left
  abbrev p0 : View
  p0 = part_view g.K.Going.start g.K.Going.batch c.new-part.result.past.events c.new-part.result.faults c.new-part.result.writes (g.P.Device.view c.new-part.result.dev.now)

  abbrev p1 : View
  p1 = part_view g.K.Going.start g.K.Going.batch c.run.new.dev.past.events c.run.new.dev.faults c.run.new.dev.writes (g.P.Device.view c.run.new.dev.dev.now)

  reads0 : p0.reads ≡ gone_on g.K.Going.batch g.K.Going.start.reads
  reads0 = ap (λ (l : List Event). (after l (went_on g.K.Going.start g.K.Going.batch)).reads) c.new-part.ensures.past

  left : IsLeftOff g.P.Device.told g.K.Going.batch c.leave-dev.result.room.batch p1 g.K.Going.start (g.P.Device.view c.leave-dev.result.dev.now)
  left =
      let p = c.new-part.result in
      let q = c.run.new.dev in
      let l = c.leave-dev.ensures in
      record {
        reads = l.reads;
        loose = l.loose;
        sent = l.sent;
        any_moment = λ (t : g.P.Device.told). subst (λ (d : g.row.P.Denot). LeavesOnly g.K.Going.start (g.P.Device.view d) (IsLeftNow g.K.Going.start)) (sym l.dev)
            (below_rested g.K.Going.start g.K.Going.batch p.past.events q.past.events p.faults p.writes q.faults q.writes (g.P.Device.view p.dev.now) (g.P.Device.view q.dev.now) _ (c.run.ensures.any_moment t)
            (λ x f left. left.1 ∙ ap (λ (l : List Event). (after l (went_on g.K.Going.start g.K.Going.batch)).sent) c.new-part.ensures.past)
            (subst (λ (d : g.row.P.Denot). HasRested g.K.Going.start (g.P.Device.view d)) (sym c.new-part.ensures.dev) (c.requires.rests t)) q.counts.clock);
        counts = l.counts;
        holds = l.holds;
        is = l.is;
        failed = l.failed;
        unfailed = l.unfailed;
      }

  ran : RanBelow g.P.Device.told c.args.core.now c.run.new.core p0 p1 (g.T.Task.next c.args.task.now (held_state c.args.core.now g.K.Going.batch g.K.Going.start)) c.run.result
  ran =
      let e = c.run.ensures in
      record {
        ready = e.ready;
        empty = e.empty;
        at = e.at;
        closed = e.closed;
        size = e.size;
        spent = e.spent;
        sent = e.sent;
        any_moment = λ t. subst (λ (s : State). LeavesEither p0 p1 (g.T.Task.next c.args.task.now s)) (ap (λ (x : Image). state_on c.args.core.now x) reads0) (e.any_moment t);
        behind = e.behind;
        works = e.works;
        faults = e.faults;
      }

  sound : g.P.Device.told → IsSound p1
  sound t = let q = c.run.new.dev in part_sound g.K.Going.start g.K.Going.batch q.past.events q.faults q.writes (g.P.Device.view q.dev.now) (q.began_whole t) q.whole

pub returns-clause-goes_on : goal.returns-clause-goes_on
returns-clause-goes_on g c =
    let i = (goal.at.returns-clause-goes_on g c).After-leave-dev in
    part_goes (p0 g i) c.requires.fits.0 c.requires.at (reads0 g i) (ap (λ (l : List Event). suc (length l)) c.new-part.ensures.past) c.new-part.ensures.faults c.new-part.ensures.writes (sound g i) c.requires.fits.2 (left g i)
    c.run.result (ran g i) (c.run.ensures.most c.requires.fits.0 c.requires.fits.1)

pub returns-clause-given : goal.returns-clause-given
returns-clause-given g c told =
    let i = (goal.at.returns-clause-given g c).After-leave-dev in
    part_given (p0 g i) c.requires.fits.0 c.requires.at (reads0 g i) (ap (λ (l : List Event). suc (length l)) c.new-part.ensures.past) c.new-part.ensures.faults c.new-part.ensures.writes (sound g i) c.requires.fits.2 (left g i)
    (g.T.Task.given c.args.task.now) c.run.result (ran g i) told (c.run.ensures.given told)
