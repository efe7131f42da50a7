-- Batches behind the records of a ring, and how often is written for them.
use Rattle.std.proofs.Common.{◌≡◌, ◌≢◌, ℕ, zero, suc, ◌+◌, ◌-◌, ◌≤◌, ◌<◌, ◌==◌, ◌||◌, nat_lt, Bool, true, false, cond, inl, inr, List, [], ◌++◌, ◌∷◌, length, refl, sym, ◌∙◌, ap, subst, arith, Result, Ok, Err}
use Rattle.volume_laws.proofs.Common.{OnOk, cases_Bool, nat_tests, Uses, View, Failed, records, bodies, Patch, JournalRecord, patches_of, committed, commit_writes, checkpoint_writes, is_full_for, Volume}
use Rattle.volume_laws.specs.Rings.{HasBatch, HasBatches, CommitsOnce, batch_writes}
use Rattle.volume_laws.proofs.Committed.{ok_map}

-- ---- how often is written

-- what has no room for a batch has none for a larger one
full_for_more : (rs : List JournalRecord) (few many : ℕ) → few ≤ many → is_full_for rs few ≡ true → is_full_for rs many ≡ true
full_for_more rs few many less full = at (length rs) (length (patches_of rs)) few many less full
  where
    at : (count held m n : ℕ) → m ≤ n → ((count == records) || nat_lt bodies (held + m)) ≡ true → ((count == records) || nat_lt bodies (held + n)) ≡ true
    at count held m n le full = grind (arith, nat_tests)

not_none : (m n : ℕ) → m ≤ n → (m == 0) ≡ false → (n == 0) ≡ false
not_none m n le some = grind (arith, nat_tests)

pub commit_within : (rs : List JournalRecord) (batch : List Patch) (homes : ℕ) → length batch ≤ homes → commit_writes rs batch ≤ batch_writes rs homes
commit_within rs batch homes few = elim (cases_Bool (length batch == 0)) [
  | inl none ↦ rw none (omega arith)
  | inr some ↦ rw (some, not_none (length batch) homes few some) (elim (cases_Bool (is_full_for rs (length batch))) [
    | inl full ↦ rw (full, full_for_more rs (length batch) homes few full) (omega (arith, few))
    | inr room ↦ rw room (omega (arith, few))
  ])
]

-- ---- batches

pub batch_none : (homes : ℕ) (rs : List JournalRecord) → HasBatch homes rs rs
batch_none homes rs = ([], omega arith, refl)

-- a batch of no homes changes nothing
pub batch_of_none : (old new : List JournalRecord) → HasBatch 0 old new → new ≡ old
batch_of_none old new has = has.2 ∙ empty has.0 has.1
  where
    none : (n : ℕ) → n ≤ 0 → (n == 0) ≡ true
    none n few = grind (arith, nat_tests)

    empty : (batch : List Patch) → length batch ≤ 0 → committed old batch ≡ old
    empty batch few = rw (none (length batch) few) refl

pub batch_with : (homes : ℕ) (rs old new : List JournalRecord) (batch : List Patch) → length batch ≤ homes → rs ≡ old → new ≡ committed rs batch → HasBatch homes old new
batch_with homes rs old new batch few is records = (batch, few, records ∙ ap (λ (qs : List JournalRecord). committed qs batch) is)

pub batch_ok : {T : Type 0} (r : Result T Failed) (homes : ℕ) (rs old new : List JournalRecord) (batch : List Patch) → length batch ≤ homes → rs ≡ old → OnOk r (new ≡ committed rs batch) → OnOk r (HasBatch homes old new)
batch_ok r homes rs old new batch few is records = ok_map r _ _ (λ (e : new ≡ committed rs batch). batch_with homes rs old new batch few is e) records

-- one step more
pub batches_more : (count homes : ℕ) (old new : List JournalRecord) → HasBatches count homes old new → HasBatches (suc count) homes old new
batches_more count homes old new run = (new, run, batch_none homes new)

pub batches_padded : (more count homes : ℕ) (old new : List JournalRecord) → HasBatches count homes old new → HasBatches (more + count) homes old new
batches_padded zero count homes old new run = let same : count ≡ 0 + count = omega arith in subst (λ (n : ℕ). HasBatches n homes old new) same run
batches_padded (suc more) count homes old new run =
    let same : suc (more + count) ≡ suc more + count = omega arith in
    subst (λ (n : ℕ). HasBatches n homes old new) same (batches_more (more + count) homes old new (batches_padded more count homes old new run))

pub batches_within : (count most homes : ℕ) (old new : List JournalRecord) → count ≤ most → HasBatches count homes old new → HasBatches most homes old new
batches_within count most homes old new few run =
    let same : most - count + count ≡ most = omega (arith, few) in
    subst (λ (n : ℕ). HasBatches n homes old new) same (batches_padded (most - count) count homes old new run)

pub batches_step : (count homes : ℕ) (old mid new : List JournalRecord) → HasBatches count homes old mid → HasBatch homes mid new → HasBatches (count + 1) homes old new
batches_step count homes old mid new run more =
    let same : suc count ≡ count + 1 = omega arith in
    subst (λ (n : ℕ). HasBatches n homes old new) same (mid, run, more)

-- no batch at all
pub batches_same : (count homes : ℕ) (old mid new : List JournalRecord) → HasBatches count homes old mid → new ≡ mid → HasBatches count homes old new
batches_same count homes old mid new run same = subst (λ (rs : List JournalRecord). HasBatches count homes old rs) (sym same) run

-- ---- a call that commits one batch

pub commits_once : {T : Type 0} (r : Result T Failed) (vol now : Volume) (rs : List JournalRecord) (old new : View) (batch : List Patch) (homes : ℕ) → length batch ≤ homes → rs ≡ vol.ring
    → Uses (commit_writes rs batch) old new → OnOk r (now.ring ≡ committed rs batch) → CommitsOnce homes vol now old new r
commits_once r vol now rs old new batch homes few is uses records = record {
  ring = batch_ok r homes rs vol.ring now.ring batch few is records;
  most = let same : commit_writes rs batch ≡ commit_writes vol.ring batch = ap (λ (qs : List JournalRecord). commit_writes qs batch) is in
      omega (arith, uses.most, same, commit_within vol.ring batch homes few);
}

-- a call that writes nothing and leaves the records
pub commits_none : {T : Type 0} (r : Result T Failed) (vol now : Volume) (old new : View) → OnOk r (now.ring ≡ vol.ring) → new.writes ≤ old.writes → CommitsOnce 0 vol now old new r
commits_none r vol now old new same few = record {
  ring = ok_map r _ _ (λ (e : now.ring ≡ vol.ring). subst (λ (rs : List JournalRecord). HasBatch 0 vol.ring rs) (sym e) (batch_none 0 vol.ring)) same;
  most = omega (arith, few);
}
