use Rattle.std.proofs.Common.{ap, subst, arith}
use Rattle.volume.proofs.Common.{Volume, checkpoint_writes, Tables, AreSound, told_right, told_size}
use Rattle.intent_journal.proofs.Emptying.{ring_most}
use Rattle.volume.proofs.volume.Volume.geometry.Goals as goal

pub returns-clause-told : goal.returns-clause-told
returns-clause-told c = (told_size c.args.self.now.tables).0

pub returns-clause-version : goal.returns-clause-version
returns-clause-version c = (told_size c.args.self.now.tables).1

pub returns-clause-sized : goal.returns-clause-sized
returns-clause-sized c = (told_right c.args.self.now.tables (subst (λ (t : Tables). AreSound t) (ap (λ (w : Volume). w.tables) c.self.view_is) c.self.invariant.sound)).sized

pub returns-clause-ends : goal.returns-clause-ends
returns-clause-ends c = (told_right c.args.self.now.tables (subst (λ (t : Tables). AreSound t) (ap (λ (w : Volume). w.tables) c.self.view_is) c.self.invariant.sound)).ends

pub returns-clause-ring : goal.returns-clause-ring
returns-clause-ring c =
    let same = ap (λ (w : Volume). checkpoint_writes w.ring) c.self.view_is in
    omega (arith, ring_most c.self.inside.ring c.records-records.ensures.ring, same)
