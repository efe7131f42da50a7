use Rattle.gathering.proofs.Flushing.{none_committed}
use Rattle.gathering.proofs.room.commit_some.Goals as goal

pub returns-then-len-eq0-clause-any_moment : goal.returns-then-len-eq0-clause-any_moment
returns-then-len-eq0-clause-any_moment g c told =
    none_committed c.args.ring.now c.args.batch.now (g.D.Device.view c.args.dev.now) (g.met.D.Device.sound c.args.dev.now told) (c.requires.at told)
