-- What a commit costs.
use Rattle.std.proofs.Common.{◌≡◌, ℕ, ◌+◌, ◌≤◌, List, length, ap, arith, Result, Ok, Err}
use Rattle.volume_laws.proofs.Common.{OnOk, View, Uses, Patch, JournalRecord, committed, checkpoint_writes, commit_writes, owed, Volume, batch_cost, IsPaid}
use Rattle.intent_journal.proofs.Costs as journal

-- what is written now and what a checkpoint would write then
pub commit_pays : (rs : List JournalRecord) (batch : List Patch) → commit_writes rs batch + checkpoint_writes (committed rs batch) ≤ checkpoint_writes rs + batch_cost (length batch)
commit_pays rs batch = journal.commit_pays rs batch

pub paid : {T E : Type 0} (r : Result T E) (vol now : Volume) (batch : List Patch) (k : ℕ) (old new : View) → length batch ≤ k → Uses (commit_writes vol.ring batch) old new → OnOk r (now.ring ≡ committed vol.ring batch)
    → owed now.tables ≡ owed vol.tables → OnOk r (IsPaid (batch_cost k) vol old now new)
paid (Ok u) vol now batch k old new few uses is same =
    let e : checkpoint_writes now.ring ≡ checkpoint_writes (committed vol.ring batch) = ap checkpoint_writes is in
    omega (arith, e, commit_pays vol.ring batch, uses.most, same)
paid (Err f) vol now batch k old new few uses is same = tt
