-- An operation that commits one batch: what its clauses follow from.
use Rattle.std.proofs.Common.{◌≡◌, ℕ, ◌+◌, ◌*◌, ◌≤◌, List, length, replicate, ◌∙◌, ap, arith, Result, Ok, Err}
use Rattle.volume_laws.proofs.Common.{OnOk, Geometry, block_len, World, Uses, View, LeavesOnly, IsFirm, on_ok, Patch, IsBeforeOrAfter, home, overlaid, is_journal, AgreeBut, JournalRecord, committed, commit_writes, IsRingAt, Tables, left_of, world_with, data_on, zeros_of, Volume, IsVolumeAt, world_on, told_by, LeavesEither, owed, batch_cost, lost_cost, IsPaid, Turns, checkpoint_writes}
use Rattle.volume_laws.proofs.Changed.{turned_world, world_is, turned_ok, turned_moments}
use Rattle.volume_laws.proofs.Committed.{ok_map}
use Rattle.volume_laws.proofs.Costs.{commit_pays}

-- The batch has at most so many homes and turns the volume's tables into these, which is this change of the world, whatever the
-- blocks' bytes are as long as they fit, and at most so much more is to be reclaimed.
pub record IsOp (fit : (ℕ → List ℕ) → Type 0) (vol : Volume) (now : Tables) (batch : List Patch) (homes more : ℕ) (change : World → World) : Type 0 where
  pub turns : Turns vol.tables now batch
  pub zeros : fit (zeros_of vol.tables)
  pub world : (c : ℕ → List ℕ) → fit c → left_of now (world_with now c) ≡ change (left_of vol.tables (world_with vol.tables c))
  pub few : length batch ≤ homes
  pub owes : owed now ≤ owed vol.tables + more

-- whatever the bytes are
abbrev pub any_bytes : (ℕ → List ℕ) → Type 0
any_bytes c = Unit {0}

pub op_world : (fit : (ℕ → List ℕ) → Type 0) (vol : Volume) (now : Tables) (batch : List Patch) (homes more : ℕ) (change : World → World) (v : View) → IsOp fit vol now batch homes more change → IsVolumeAt vol v → fit (data_on (home v.reads)) → turned_world now v ≡ change (world_on v)
op_world fit vol now batch homes more change v op at fits = op.world (data_on (home v.reads)) fits ∙ ap change (world_is vol v at)

pub op_told : {T E : Type 0} (r : Result T E) (fit : (ℕ → List ℕ) → Type 0) (vol now : Volume) (batch : List Patch) (homes more : ℕ) (change : World → World) → IsOp fit vol now.tables batch homes more change → OnOk r (told_by now ≡ change (told_by vol))
op_told r fit vol now batch homes more change op =
    on_ok r (ap (λ (g : Geometry). left_of now.tables (world_with now.tables (λ b. replicate (block_len g) 0))) op.turns.size ∙ op.world (zeros_of vol.tables) op.zeros)

pub op_at : {T E : Type 0} (r : Result T E) (fit : (ℕ → List ℕ) → Type 0) (vol now : Volume) (old new : View) (batch : List Patch) (homes more : ℕ) (change : World → World) → IsOp fit vol now.tables batch homes more change → IsVolumeAt vol old → fit (data_on (home old.reads))
    → OnOk r (AgreeBut is_journal (overlaid batch (home old.reads)) (home new.reads)) → OnOk r (IsRingAt now.ring new) → OnOk r (IsFirm new) → OnOk r (IsVolumeAt now new)
op_at r fit vol now old new batch homes more change op at fits done ring firm =
    ok_map r _ _ (λ both. both.0) (turned_ok r vol now old new batch (change (world_on old)) at op.turns (op_world fit vol now.tables batch homes more change old op at fits) done ring firm)

pub op_done : {T E : Type 0} (r : Result T E) (fit : (ℕ → List ℕ) → Type 0) (vol now : Volume) (old new : View) (batch : List Patch) (homes more : ℕ) (change : World → World) → IsOp fit vol now.tables batch homes more change → IsVolumeAt vol old → fit (data_on (home old.reads))
    → OnOk r (AgreeBut is_journal (overlaid batch (home old.reads)) (home new.reads)) → OnOk r (IsRingAt now.ring new) → OnOk r (IsFirm new) → OnOk r (world_on new ≡ change (world_on old))
op_done r fit vol now old new batch homes more change op at fits done ring firm =
    ok_map r _ _ (λ both. both.1) (turned_ok r vol now old new batch (change (world_on old)) at op.turns (op_world fit vol now.tables batch homes more change old op at fits) done ring firm)

pub op_moments : (fit : (ℕ → List ℕ) → Type 0) (vol now : Volume) (old new : View) (batch : List Patch) (homes more : ℕ) (change : World → World) → IsOp fit vol now.tables batch homes more change → IsVolumeAt vol old → fit (data_on (home old.reads))
    → LeavesOnly old new (λ x f. IsBeforeOrAfter batch old x × (f ≡ old.sent)) → LeavesEither old new (change (world_on old))
op_moments fit vol now old new batch homes more change op at fits leaves =
    turned_moments vol old new batch now.tables (change (world_on old)) at op.turns (op_world fit vol now.tables batch homes more change old op at fits) leaves

pub op_paid : {T E : Type 0} (r : Result T E) (fit : (ℕ → List ℕ) → Type 0) (vol now : Volume) (rs : List JournalRecord) (old new : View) (batch : List Patch) (homes more : ℕ) (change : World → World) → IsOp fit vol now.tables batch homes more change
    → rs ≡ vol.ring → Uses (commit_writes rs batch) old new → OnOk r (now.ring ≡ committed rs batch) → OnOk r (IsPaid (batch_cost homes + lost_cost * more) vol old now new)
op_paid (Ok u) fit vol now rs old new batch homes more change op is uses records =
    let e : checkpoint_writes now.ring ≡ checkpoint_writes (committed rs batch) = ap checkpoint_writes records in
    let same : checkpoint_writes rs ≡ checkpoint_writes vol.ring = ap checkpoint_writes is in
    omega (arith, e, same, commit_pays rs batch, uses.most, op.owes, op.few)
op_paid (Err f) fit vol now rs old new batch homes more change op is uses records = tt
