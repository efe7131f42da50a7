-- How many homes a batch adds to a ring, and what its commit costs.
use Rattle.std.proofs.Common.{◌≡◌, ℕ, suc, ◌+◌, ◌*◌, ◌≤◌, ◌==◌, ◌||◌, true, false, cond, inl, inr, List, [], ◌∷◌, ◌++◌, length, length-append, refl, ap, subst, arith}
use Rattle.intent_journal.proofs.Common.{cases_Bool, Patch, has_home, JournalRecord, patches_of, last_patches, distinct_homes, is_full_for, committed, checkpoint_writes, commit_writes}
use Rattle.intent_journal.proofs.Parts.{patches_push}
use Rattle.intent_journal.proofs.Replaying.{lasts_most}

-- a home is held also with more patches behind
pub still_home : (ps qs : List Patch) (n : ℕ) → has_home ps n ≡ true → has_home (ps ++ qs) n ≡ true
still_home [] qs n h = absurd (cc)
still_home (p ∷ ps) qs n h = elim (cases_Bool (p.sector == n)) [
  | inl e ↦ rw e refl
  | inr e ↦ let rest : has_home ps n ≡ true = subst (λ t. (t || has_home ps n) ≡ true) e h in rw e (still_home ps qs n rest)
]

-- more patches bring at most as many homes
pub more_homes : (ps qs : List Patch) → length (last_patches (ps ++ qs)) ≤ length (last_patches ps) + length qs
more_homes [] qs = omega (arith, lasts_most qs)
more_homes (p ∷ ps) qs =
    let rest = more_homes ps qs in
    elim (cases_Bool (has_home ps p.sector)) [
      | inl e ↦ let both : has_home (ps ++ qs) p.sector ≡ true = still_home ps qs p.sector e in rw (e, both) rest
      | inr e ↦ rw e (elim (has_home (ps ++ qs) p.sector) as (λ t. length (cond t (last_patches (ps ++ qs)) (p ∷ last_patches (ps ++ qs))) ≤ suc (length (last_patches ps)) + length qs) [ true ↦ omega arith | false ↦ omega arith ])
    ]

-- a batch adds at most its length to the distinct homes of a ring
pub homes_added : (rs : List JournalRecord) (batch : List Patch) → distinct_homes (rs ++ batch ∷ []) ≤ distinct_homes rs + length batch
homes_added rs batch =
    let same : distinct_homes (rs ++ batch ∷ []) ≡ length (last_patches (patches_of rs ++ batch)) = ap (λ (ps : List Patch). length (last_patches ps)) (patches_push rs batch) in
    omega (arith, same, more_homes (patches_of rs) batch)

-- and to what a checkpoint writes one more, its gate
pub checkpoint_added : (rs : List JournalRecord) (batch : List Patch) → checkpoint_writes (rs ++ batch ∷ []) ≤ checkpoint_writes rs + length batch + 1
checkpoint_added rs batch = omega (arith, homes_added rs batch, length-append rs (batch ∷ []))

-- what a commit writes, with what a checkpoint would write then
pub commit_pays : (rs : List JournalRecord) (batch : List Patch) → commit_writes rs batch + checkpoint_writes (committed rs batch) ≤ checkpoint_writes rs + (2 * length batch + 3)
commit_pays rs batch = elim (cases_Bool (length batch == 0)) [
  | inl e ↦ rw e (omega arith)
  | inr e ↦ rw e (elim (is_full_for rs (length batch)) as (λ t. length batch + 2 + cond t (checkpoint_writes rs) 0 + checkpoint_writes (cond t (batch ∷ []) (rs ++ batch ∷ [])) ≤ checkpoint_writes rs + (2 * length batch + 3)) [
    | true ↦ omega (arith, checkpoint_added [] batch)
    | false ↦ omega (arith, checkpoint_added rs batch)
  ])
]
