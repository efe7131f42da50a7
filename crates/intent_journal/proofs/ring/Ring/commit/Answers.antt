use Rattle.std.proofs.Common.{◌≡◌, List, ℕ, inl, sym, ◌∙◌}
use Rattle.intent_journal.proofs.Common.{Image, nil_from_length, on_ok, started, after_sync, IsBeforeOrAfter}
use Rattle.intent_journal.proofs.Committing.{before_now}
use Rattle.intent_journal.proofs.Emptying.{ring_most}
use Rattle.intent_journal.proofs.Roomy.{only_made, then_added, done_added, written_last}
use Rattle.intent_journal.proofs.ring.Ring.commit.Goals as goal

pub returns-then-len-eq0-clause-any_moment : goal.returns-then-len-eq0-clause-any_moment
returns-then-len-eq0-clause-any_moment g c told =
    let v = g.D.Device.view c.args.dev.now in
    let P : Image → List ℕ → Type 0 = λ x f. IsBeforeOrAfter c.args.batch.now v x × (f ≡ v.sent) in
    let now = λ (x : Image) (f : List ℕ) (left : _). let h : P x f = (inl (before_now c.args.self.now v (c.requires told) x f left), left.1) in h in
    after_sync v v _ P (started v P (g.met.D.Device.sound c.args.dev.now told) now) (c.sync.ensures.settles told) now

pub returns-in_err-make_room-clause-any_moment : goal.returns-in_err-make_room-clause-any_moment
returns-in_err-make_room-clause-any_moment g c told =
    let view = g.D.Device.view in
    only_made c.args.batch.now (view c.args.dev.now) (view c.make_room.new.dev) (c.make_room.ensures.any_moment told)

pub returns-clause-any_moment : goal.returns-clause-any_moment
returns-clause-any_moment g c told =
    let view = g.D.Device.view in
    then_added c.args.batch.now (view c.args.dev.now) (view c.make_room.new.dev) (view c.add.new.dev) (c.make_room.ensures.any_moment told) (c.make_room.ensures.sent told) (c.in_ok-make_room.ensures.same told) (c.in_ok-make_room.ensures.loose told)
    (c.add.ensures.any_moment told)

pub returns-clause-done : goal.returns-clause-done
returns-clause-done g c told =
    let view = g.D.Device.view in
    done_added c.args.batch.now (view c.args.dev.now) (view c.make_room.new.dev) (view c.add.new.dev) c.add.result (c.in_ok-make_room.ensures.same told) (c.add.ensures.done told)

pub returns-clause-written : goal.returns-clause-written
returns-clause-written g c told =
    written_last c.add.result c.make_room.new.self c.add.new.self c.args.batch.now (g.D.Device.view c.add.new.dev).reads c.add.ensures.records (c.add.ensures.written told)

pub returns-then-len-eq0-clause-written : goal.returns-then-len-eq0-clause-written
returns-then-len-eq0-clause-written g c told = on_ok c.sync.result (λ some. absurd (some (nil_from_length c.args.batch.now (sym c.len.ensures.value ∙ c.if-len-eq0.true))))

pub returns-then-len-eq0-clause-most : goal.returns-then-len-eq0-clause-most
returns-then-len-eq0-clause-most g c = ring_most c.args.self.now c.records-records.ensures.ring

pub returns-in_err-make_room-clause-most : goal.returns-in_err-make_room-clause-most
returns-in_err-make_room-clause-most g c = ring_most c.args.self.now c.records-records.ensures.ring

pub returns-clause-most : goal.returns-clause-most
returns-clause-most g c = ring_most c.args.self.now c.records-records.ensures.ring
