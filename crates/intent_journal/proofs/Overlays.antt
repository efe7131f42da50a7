-- Images with patches put into place.
use Rattle.std.proofs.Common.{◌≡◌, inl, inr, ℕ, ◌+◌, ◌<◌, ◌==◌, ◌||◌, true, false, cond, IsTrue, List, [], ◌∷◌, ◌++◌, length, drop, get_or, refl, sym, ◌∙◌, ap, arith, add-one}
use Rattle.intent_journal.proofs.Common.{list_all, drop-cons, cases_Bool, nat_tests, Image, put_at, Patch, are_apart, is_lawful_home, homes_of, has_home, overlaid, is_journal, last_patches}
use Rattle.intent_journal.proofs.Bools.{and_true_parts, other_way, equal_numbers}
use Rattle.tsd_model.proofs.ValueLaws.{neither}

-- ---- one sector
pub put_here : (n : ℕ) (bytes : List ℕ) (x : Image) (m : ℕ) → (m == n) ≡ true → put_at n bytes x m ≡ bytes
put_here n bytes x m e = rw e refl

pub put_elsewhere : (n : ℕ) (bytes : List ℕ) (x : Image) (m : ℕ) → (m == n) ≡ false → put_at n bytes x m ≡ x m
put_elsewhere n bytes x m e = rw e refl

-- ---- many
pub overlaid_append : (ps qs : List Patch) (x : Image) → overlaid (ps ++ qs) x ≡ overlaid qs (overlaid ps x)
overlaid_append [] qs x = refl
overlaid_append (p ∷ ps) qs x = overlaid_append ps qs (put_at p.sector p.bytes x)

-- a sector that is no home stays
pub overlaid_missed : (ps : List Patch) (x : Image) (n : ℕ) → has_home ps n ≡ false → overlaid ps x n ≡ x n
overlaid_missed [] x n h = refl
overlaid_missed (p ∷ ps) x n h =
    let parts = neither (p.sector == n) (has_home ps n) h in
    overlaid_missed ps (put_at p.sector p.bytes x) n parts.1 ∙ put_elsewhere p.sector p.bytes x n (other_way p.sector n parts.0)

-- at a home only the patches count
pub overlaid_alike : (ps : List Patch) (x y : Image) (n : ℕ) → (has_home ps n ≡ false → y n ≡ x n) → overlaid ps y n ≡ overlaid ps x n
overlaid_alike [] x y n h = h refl
overlaid_alike (p ∷ ps) x y n h = overlaid_alike ps (put_at p.sector p.bytes x) (put_at p.sector p.bytes y) n (λ missed. elim (cases_Bool (n == p.sector)) [
  | inl e ↦ put_here p.sector p.bytes y n e ∙ sym (put_here p.sector p.bytes x n e)
  | inr e ↦
      let all_missed : has_home (p ∷ ps) n ≡ false = rw (other_way n p.sector e) missed in
      put_elsewhere p.sector p.bytes y n e ∙ h all_missed ∙ sym (put_elsewhere p.sector p.bytes x n e)
])

pub overlaid_twice : (ps : List Patch) (x : Image) (n : ℕ) → overlaid ps (overlaid ps x) n ≡ overlaid ps x n
overlaid_twice ps x n = overlaid_alike ps x (overlaid ps x) n (overlaid_missed ps x n)

-- homes stand outside the journal
pub lawful_apart : (ps : List Patch) (n : ℕ) → IsTrue (list_all is_lawful_home (homes_of ps)) → is_journal n ≡ true → has_home ps n ≡ false
lawful_apart [] n l j = refl
lawful_apart (p ∷ ps) n l j =
    let parts = and_true_parts (is_lawful_home p.sector) (list_all is_lawful_home (homes_of ps)) l in
    let apart : (p.sector == n) ≡ false = not_in_journal p.sector n parts.0 j in
    rw apart (lawful_apart ps n parts.1 j)
  where
    not_in_journal : (m k : ℕ) → is_lawful_home m ≡ true → is_journal k ≡ true → (m == k) ≡ false
    not_in_journal m k lawful inside = grind (arith, nat_tests)

-- ---- the last patch of each home
held_behind : (m n : ℕ) (ps : List Patch) → has_home ps m ≡ true → ((m == n) || has_home ps n) ≡ has_home ps n
held_behind m n ps held = elim (cases_Bool (m == n)) [
  | inl e ↦ rw e (sym (ap (has_home ps) (sym (equal_numbers m n e)) ∙ held))
  | inr e ↦ rw e refl
]

pub last_patches_homes : (ps : List Patch) (n : ℕ) → has_home (last_patches ps) n ≡ has_home ps n
last_patches_homes [] n = refl
last_patches_homes (p ∷ ps) n = elim (cases_Bool (has_home ps p.sector)) [
  | inl e ↦ rw e (last_patches_homes ps n ∙ sym (held_behind p.sector n ps e))
  | inr e ↦ rw e (ap (λ b. (p.sector == n) || b) (last_patches_homes ps n))
]

pub last_patches_distinct : (ps : List Patch) → IsTrue (are_apart (homes_of (last_patches ps)))
last_patches_distinct [] = refl
last_patches_distinct (p ∷ ps) = elim (cases_Bool (has_home ps p.sector)) [
  | inl e ↦ rw e (last_patches_distinct ps)
  | inr e ↦ let absent : has_home (last_patches ps) p.sector ≡ false = last_patches_homes ps p.sector ∙ e in rw (e, absent) (last_patches_distinct ps)
]

pub overlaid_last : (ps : List Patch) (x : Image) (n : ℕ) → overlaid (last_patches ps) x n ≡ overlaid ps x n
overlaid_last [] x n = refl
overlaid_last (p ∷ ps) x n = elim (cases_Bool (has_home ps p.sector)) [
  | inl e ↦ rw e (overlaid_last ps x n ∙ overlaid_alike ps (put_at p.sector p.bytes x) x n (λ missed. sym (put_elsewhere p.sector p.bytes x n (elsewhere e missed))))
  | inr e ↦ rw e (overlaid_last ps (put_at p.sector p.bytes x) n)
]
  where
    elsewhere : has_home ps p.sector ≡ true → has_home ps n ≡ false → (n == p.sector) ≡ false
    elsewhere held missed = elim (cases_Bool (n == p.sector)) [
      | inl same ↦ let at : has_home ps n ≡ has_home ps p.sector = ap (has_home ps) (equal_numbers n p.sector same) in absurd (cc)
      | inr other ↦ other
    ]

-- the same for a loop over positions: the patch at one counts exactly where none behind it has its home
pub last_patches_step : (ps : List Patch) (i : ℕ) (d : Patch) → i < length ps
    → last_patches (drop i ps) ≡ cond (has_home (drop (i + 1) ps) (get_or ps i d).sector) (last_patches (drop (i + 1) ps)) (get_or ps i d ∷ last_patches (drop (i + 1) ps))
last_patches_step ps i d h =
    let split : drop i ps ≡ get_or ps i d ∷ drop (i + 1) ps = drop-cons ps i d h ∙ ap (λ k. get_or ps i d ∷ drop k ps) (sym (add-one i)) in
    ap last_patches split
