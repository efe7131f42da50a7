-- How often a request writes at most, with its records in place behind it.
use Rattle.std.proofs.Common.{◌≡◌, inl, inr, ℕ, ◌+◌, ◌*◌, ◌≤◌, ◌==◌, ◌<◌, true, false, cond, List, [], ◌∷◌, length, refl, ◌∙◌, ap, arith}
use Rattle.gathered_tasks.proofs.Common.{Bool, Failed, Geometry, IsBound, IsTrue, IsVolumeReady, Patch, Request, Result, View, Volume, due, nat_lt, not, once_cost, owed, pairs_of, suc, told_by, zero, zeroed_cost, ◌↔◌}
use Rattle.volume_laws.proofs.Pointed.{settled_pairs}
use Rattle.std.proofs.lemmas.Bool.{cases_Bool}
use Rattle.std.proofs.lemmas.Bool.Decides.{nat_tests}
use Rattle.intent_journal.specs.Ring.{checkpoint_writes, committed, is_full_for}
use Rattle.intent_journal.proofs.Costs.{checkpoint_added}
use Rattle.volume_laws.specs.Rings.{batch_writes, CommitsOnce, HasBatch}
use Rattle.tsd_core.specs.Journal.{count_of, makes_blocks, most_homes, waits}

-- what a commit on an empty journal writes, and leaves to be written
first_writes : (homes : ℕ) → batch_writes [] homes ≤ cond (homes == 0) 0 (homes + 2)
first_writes homes = elim (cases_Bool (homes == 0)) [
  | inl none ↦ rw none (omega arith)
  | inr some ↦ elim (cases_Bool (is_full_for [] homes)) [
    | inl full ↦ rw some (rw full (omega arith))
    | inr room ↦ rw some (rw room (omega arith))
  ]
]

left_writes : (homes : ℕ) (batch : List Patch) → length batch ≤ homes → checkpoint_writes (committed [] batch) ≤ cond (homes == 0) 0 (homes + 1)
left_writes homes batch few = elim (cases_Bool (length batch == 0)) [
  | inl none ↦ rw none (omega arith)
  | inr some ↦
      let added = checkpoint_added [] batch in
      let one : checkpoint_writes (batch ∷ []) ≤ length batch + 1 = omega (arith, added) in
      let homes_too : (homes == 0) ≡ false = grows homes (length batch) some few in
      elim (cases_Bool (is_full_for [] (length batch))) [
        | inl full ↦ rw some (rw full (rw homes_too (omega (arith, one, few))))
        | inr room ↦ rw some (rw room (rw homes_too (omega (arith, one, few))))
      ]
]
  where
    grows : (homes count : ℕ) → (count == 0) ≡ false → count ≤ homes → (homes == 0) ≡ false
    grows homes count some few = grind (arith, nat_tests)

both_writes : (homes first left : ℕ) → first ≤ cond (homes == 0) 0 (homes + 2) → left ≤ cond (homes == 0) 0 (homes + 1) → first + left ≤ once_cost homes
both_writes homes first left a b = elim (cases_Bool (homes == 0)) [
  | inl none ↦ rw none (none_at (rw none at a) (rw none at b))
  | inr some ↦ rw some (some_at (rw some at a) (rw some at b))
]
  where
    none_at : first ≤ 0 → left ≤ 0 → first + left ≤ 0
    none_at a b = omega (arith, a, b)

    some_at : first ≤ homes + 2 → left ≤ homes + 1 → first + left ≤ 2 * homes + 3
    some_at a b = omega (arith, a, b)

module _ {T : Type 0} (old mid : Volume) (q : Request) (v w : View) (r : Result T Failed) (most : ℕ) (empty : old.ring ≡ []) (bound : IsBound old q most)
    (once : waits old q ≡ false → CommitsOnce (most_homes old.tables.geometry q) old mid v w r)
    (new_most : makes_blocks q ≡ true → w.writes ≤ v.writes + due old + zeroed_cost old.tables.geometry (count_of q)) where
  due_none : makes_blocks q ≡ true → due old ≡ 0
  due_none makes = let none = (bound.new makes).0 in let ring : checkpoint_writes old.ring ≡ 0 = ap checkpoint_writes empty in omega (arith, none, ring)

  -- the request, and the records that it leaves
  module _ (ring : waits old q ≡ false → HasBatch (most_homes old.tables.geometry q) old.ring mid.ring) (new_paid : makes_blocks q ≡ true → w.writes + due mid ≤ v.writes + due old + zeroed_cost old.tables.geometry (count_of q))
      (z : View) (emptied : z.writes ≤ w.writes + checkpoint_writes mid.ring) where
    pub task_most : z.writes ≤ v.writes + most
    task_most = elim (cases_Bool (makes_blocks q)) [
      | inl makes ↦ let none = due_none makes in let less = new_paid makes in let fits = (bound.new makes).1 in omega (arith, none, less, fits, emptied)
      | inr not ↦
          let homes = most_homes old.tables.geometry q in
          let did = once (bound.once not).0 in
          let has = ring (bound.once not).0 in
          let is : mid.ring ≡ committed [] has.0 = has.2 ∙ ap (λ rs. committed rs has.0) empty in
          let left = left_writes homes has.0 has.1 in
          let same : checkpoint_writes mid.ring ≡ checkpoint_writes (committed [] has.0) = ap checkpoint_writes is in
          let all = both_writes homes (batch_writes [] homes) (checkpoint_writes (committed [] has.0)) (first_writes homes) left in
          let here : batch_writes old.ring homes ≡ batch_writes [] homes = ap (λ rs. batch_writes rs homes) empty in
          let less = did.most in
          let fits = (bound.once not).1 in
          omega (arith, less, here, all, fits, same, emptied)
    ]

-- ---- one request

-- where nothing is to be reclaimed, the pointers that are told are those on the disk
pub finds_slot : (v : Volume) (is_owed : Bool) (pointers : ℕ) (g : Geometry) → IsVolumeReady v → not is_owed ≡ true → IsTrue is_owed ↔ (0 < owed v.tables) → pointers ≡ length (told_by v).pairs → g ≡ v.tables.geometry
    → nat_lt pointers g.slots ≡ true → length (pairs_of v.tables) < v.tables.geometry.slots
finds_slot v is_owed pointers g ready not_owed owes count size few =
    let none : owed v.tables ≡ 0 = nothing (owed v.tables) (λ some. both (owes.1 some)) in
    let same : length (told_by v).pairs ≡ length (pairs_of v.tables) = ap length (settled_pairs v.tables ready.1 none) in
    let slots : g.slots ≡ v.tables.geometry.slots = ap (λ (h : Geometry). h.slots) size in
    fewer pointers g.slots (length (pairs_of v.tables)) v.tables.geometry.slots few (count ∙ same) slots
  where
    both : is_owed ≡ true → ⊥
    both is = cc

    nothing : (n : ℕ) → (0 < n → ⊥) → n ≡ 0
    nothing zero never = refl
    nothing (suc n) never = absurd (never (omega arith))

    fewer : (a b c d : ℕ) → nat_lt a b ≡ true → a ≡ c → b ≡ d → c < d
    fewer a b c d less e h = grind (arith, nat_tests)

-- and so there is one if those on the disk leave one
pub leaves_slot : (v : Volume) (pointers : ℕ) (g : Geometry) → IsVolumeReady v → pointers ≡ length (told_by v).pairs → g ≡ v.tables.geometry → owed v.tables ≡ 0 → length (pairs_of v.tables) < v.tables.geometry.slots
    → nat_lt pointers g.slots ≡ true
leaves_slot v pointers g ready count size none few =
    let same : length (told_by v).pairs ≡ length (pairs_of v.tables) = ap length (settled_pairs v.tables ready.1 none) in
    let slots : g.slots ≡ v.tables.geometry.slots = ap (λ (h : Geometry). h.slots) size in
    fewer pointers g.slots (length (pairs_of v.tables)) v.tables.geometry.slots few (count ∙ same) slots
  where
    fewer : (a b c d : ℕ) → c < d → a ≡ c → b ≡ d → nat_lt a b ≡ true
    fewer a b c d less e h = grind (arith, nat_tests)
