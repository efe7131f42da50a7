use Rattle.std.proofs.Common.{◌≡◌, List, ℕ}
use Rattle.intent_journal.proofs.Common.{Image, started, IsBefore}
use Rattle.intent_journal.proofs.Committing.{before_now}
use Rattle.intent_journal.proofs.ring.Ring.make_room.Goals as goal

pub returns-else-is_full_for-clause-any_moment : goal.returns-else-is_full_for-clause-any_moment
returns-else-is_full_for-clause-any_moment g c told =
    let v = g.D.Device.view c.args.dev.now in
    let P : Image → List ℕ → Type 0 = λ x f. IsBefore v x × (f ≡ v.sent) in
    let now = λ (x : Image) (f : List ℕ) (left : _). let h : P x f = (before_now c.args.self.now v (c.requires.at told) x f left, left.1) in h in
    started v P (g.met.D.Device.sound c.args.dev.now told) now
