-- A directory's list with an entry set or taken out is in order, and fits its block.
use Rattle.std.proofs.Common.{◌≡◌, ℕ, suc, ◌+◌, ◌^◌, ◌≤◌, true, false, cond, ◌&&◌, ◌==◌, nat_lt, List, [], ◌∷◌, length, refl, sym, ◌∙◌, ap, arith, inl, inr, Option, Some, None}
use Rattle.inode_changes.proofs.Common.{and_parts, and_from, or_cases, or_left, or_right, eq-eqb, eqb-true, nat_tests, map, holds, is_pair, Name, name_lt, is_name, is_below_first_name, are_ascending, file, dir, nothing, a_file, a_dir, is_there, Entry, entry_names, all_named, with_listed, without_listed, InodeNode, InodeEntries, with_first, entries_by, named_pairs, held_right, names_meet, are_small, block_is}

-- ---- names in order

name_lt_trans : (a b c : Name) → name_lt a b ≡ true → name_lt b c ≡ true → name_lt a c ≡ true
name_lt_trans a [] c p q = absurd (cc)
name_lt_trans a (y ∷ b) [] p q = absurd (cc)
name_lt_trans [] (y ∷ b) (z ∷ c) p q = refl
name_lt_trans (x ∷ a) (y ∷ b) (z ∷ c) p q =
    elim (or_cases (nat_lt x y) ((x == y) && name_lt a b) p) [
      | inl low ↦ elim (or_cases (nat_lt y z) ((y == z) && name_lt b c) q) [
        | inl high ↦ let far : nat_lt x z ≡ true = grind (arith, nat_tests) in or_left (nat_lt x z) _ far
        | inr same ↦ let eq = eqb-true y z (and_parts (y == z) (name_lt b c) same).0 in let far : nat_lt x z ≡ true = grind (arith, nat_tests) in or_left (nat_lt x z) _ far
      ]
      | inr same ↦
          let one = and_parts (x == y) (name_lt a b) same in
          let eq = eqb-true x y one.0 in
          elim (or_cases (nat_lt y z) ((y == z) && name_lt b c) q) [
            | inl high ↦ let far : nat_lt x z ≡ true = grind (arith, nat_tests) in or_left (nat_lt x z) _ far
            | inr more ↦ let two = and_parts (y == z) (name_lt b c) more in
                or_right (nat_lt x z) _ (and_from (x == z) (name_lt a c) (eq-eqb x z (eq ∙ eqb-true y z two.0)) (name_lt_trans a b c one.1 two.1))
          ]
    ]

-- what is below an ascending list is below what is left of it
below_without : (m n : Name) (es : List Entry) → is_below_first_name m (entry_names es) ≡ true → are_ascending (entry_names es) ≡ true → is_below_first_name m (entry_names (without_listed n es)) ≡ true
below_without m n [] h k = refl
below_without m n (f ∷ fs) h k = elim (name_lt n f.name) as (λ t. is_below_first_name m (entry_names (cond t (f ∷ fs) (cond (name_lt f.name n) (f ∷ without_listed n fs) fs))) ≡ true) [
  | true ↦ h
  | false ↦ elim (name_lt f.name n) as (λ t. is_below_first_name m (entry_names (cond t (f ∷ without_listed n fs) fs)) ≡ true) [
    | true ↦ h
    | false ↦ past fs (and_parts (is_below_first_name f.name (entry_names fs)) (are_ascending (entry_names fs)) k).0
  ]
]
  where
    past : (gs : List Entry) → is_below_first_name f.name (entry_names gs) ≡ true → is_below_first_name m (entry_names gs) ≡ true
    past [] e = refl
    past (g ∷ gs) e = name_lt_trans m f.name g.name h e

pub ascending_without : (n : Name) (es : List Entry) → are_ascending (entry_names es) ≡ true → are_ascending (entry_names (without_listed n es)) ≡ true
ascending_without n [] h = refl
ascending_without n (f ∷ fs) h =
    let parts = and_parts (is_below_first_name f.name (entry_names fs)) (are_ascending (entry_names fs)) h in
    let later = ascending_without n fs parts.1 in
    elim (name_lt n f.name) as (λ t. are_ascending (entry_names (cond t (f ∷ fs) (cond (name_lt f.name n) (f ∷ without_listed n fs) fs))) ≡ true) [
      | true ↦ h
      | false ↦ elim (name_lt f.name n) as (λ t. are_ascending (entry_names (cond t (f ∷ without_listed n fs) fs)) ≡ true) [
        | true ↦ and_from (is_below_first_name f.name (entry_names (without_listed n fs))) _ (below_without f.name n fs parts.0 parts.1) later
        | false ↦ parts.1
      ]
    ]

pub named_without : (n : Name) (es : List Entry) → all_named es ≡ true → all_named (without_listed n es) ≡ true
named_without n [] h = refl
named_without n (f ∷ fs) h =
    let parts = and_parts (is_name f.name) (all_named fs) h in
    let later = named_without n fs parts.1 in
    elim (name_lt n f.name) as (λ t. all_named (cond t (f ∷ fs) (cond (name_lt f.name n) (f ∷ without_listed n fs) fs)) ≡ true) [
      | true ↦ h
      | false ↦ elim (name_lt f.name n) as (λ t. all_named (cond t (f ∷ without_listed n fs) fs) ≡ true) [
        | true ↦ and_from (is_name f.name) _ parts.0 later
        | false ↦ parts.1
      ]
    ]

pub small_without : (n : Name) (es : List Entry) → are_small (map (λ e. e.block) es) ≡ true → are_small (map (λ e. e.block) (without_listed n es)) ≡ true
small_without n [] h = refl
small_without n (f ∷ fs) h =
    let parts = and_parts (nat_lt f.block (2 ^ 32)) (are_small (map (λ e. e.block) fs)) h in
    let later = small_without n fs parts.1 in
    elim (name_lt n f.name) as (λ t. are_small (map (λ e. e.block) (cond t (f ∷ fs) (cond (name_lt f.name n) (f ∷ without_listed n fs) fs))) ≡ true) [
      | true ↦ h
      | false ↦ elim (name_lt f.name n) as (λ t. are_small (map (λ e. e.block) (cond t (f ∷ without_listed n fs) fs)) ≡ true) [
        | true ↦ and_from (nat_lt f.block (2 ^ 32)) _ parts.0 later
        | false ↦ parts.1
      ]
    ]

pub length_without : (n : Name) (es : List Entry) → length (without_listed n es) ≤ length es
length_without n [] = omega arith
length_without n (f ∷ fs) =
    let later = length_without n fs in
    elim (name_lt n f.name) as (λ t. length (cond t (f ∷ fs) (cond (name_lt f.name n) (f ∷ without_listed n fs) fs)) ≤ suc (length fs)) [
      | true ↦ omega arith
      | false ↦ elim (name_lt f.name n) as (λ t. length (cond t (f ∷ without_listed n fs) fs) ≤ suc (length fs)) [
        | true ↦ omega (arith, later)
        | false ↦ omega arith
      ]
    ]

-- ---- with an entry set

below_with : (m : Name) (e : Entry) (es : List Entry) → name_lt m e.name ≡ true → is_below_first_name m (entry_names es) ≡ true → is_below_first_name m (entry_names (with_listed e es)) ≡ true
below_with m e [] h k = h
below_with m e (f ∷ fs) h k = elim (name_lt e.name f.name) as (λ t. is_below_first_name m (entry_names (cond t (e ∷ f ∷ fs) (cond (name_lt f.name e.name) (f ∷ with_listed e fs) (e ∷ fs)))) ≡ true) [
  | true ↦ h
  | false ↦ elim (name_lt f.name e.name) as (λ t. is_below_first_name m (entry_names (cond t (f ∷ with_listed e fs) (e ∷ fs))) ≡ true) [
    | true ↦ k
    | false ↦ h
  ]
]

pub ascending_with : (e : Entry) (es : List Entry) → are_ascending (entry_names es) ≡ true → are_ascending (entry_names (with_listed e es)) ≡ true
ascending_with e [] h = refl
ascending_with e (f ∷ fs) h =
    let parts = and_parts (is_below_first_name f.name (entry_names fs)) (are_ascending (entry_names fs)) h in
    let later = ascending_with e fs parts.1 in
    elim (name_lt e.name f.name) as (λ t. name_lt e.name f.name ≡ t → are_ascending (entry_names (cond t (e ∷ f ∷ fs) (cond (name_lt f.name e.name) (f ∷ with_listed e fs) (e ∷ fs)))) ≡ true) [
      | true ↦ λ k. and_from (name_lt e.name f.name) _ k h
      | false ↦ λ k. elim (name_lt f.name e.name) as (λ t. name_lt f.name e.name ≡ t → are_ascending (entry_names (cond t (f ∷ with_listed e fs) (e ∷ fs))) ≡ true) [
        | true ↦ λ g. and_from (is_below_first_name f.name (entry_names (with_listed e fs))) _ (below_with f.name e fs g parts.0) later
        | false ↦ λ g. let same = names_meet e.name f.name k g in and_from (is_below_first_name e.name (entry_names fs)) _ (ap (λ m. is_below_first_name m (entry_names fs)) same ∙ parts.0) parts.1
      ] refl
    ] refl

pub named_with : (e : Entry) (es : List Entry) → is_name e.name ≡ true → all_named es ≡ true → all_named (with_listed e es) ≡ true
named_with e [] h k = and_from (is_name e.name) true h refl
named_with e (f ∷ fs) h k =
    let parts = and_parts (is_name f.name) (all_named fs) k in
    let later = named_with e fs h parts.1 in
    elim (name_lt e.name f.name) as (λ t. all_named (cond t (e ∷ f ∷ fs) (cond (name_lt f.name e.name) (f ∷ with_listed e fs) (e ∷ fs))) ≡ true) [
      | true ↦ and_from (is_name e.name) _ h k
      | false ↦ elim (name_lt f.name e.name) as (λ t. all_named (cond t (f ∷ with_listed e fs) (e ∷ fs)) ≡ true) [
        | true ↦ and_from (is_name f.name) _ parts.0 later
        | false ↦ and_from (is_name e.name) _ h parts.1
      ]
    ]

pub small_with : (e : Entry) (es : List Entry) → nat_lt e.block (2 ^ 32) ≡ true → are_small (map (λ f. f.block) es) ≡ true → are_small (map (λ f. f.block) (with_listed e es)) ≡ true
small_with e [] h k = and_from (nat_lt e.block (2 ^ 32)) true h refl
small_with e (f ∷ fs) h k =
    let parts = and_parts (nat_lt f.block (2 ^ 32)) (are_small (map (λ g. g.block) fs)) k in
    let later = small_with e fs h parts.1 in
    elim (name_lt e.name f.name) as (λ t. are_small (map (λ g. g.block) (cond t (e ∷ f ∷ fs) (cond (name_lt f.name e.name) (f ∷ with_listed e fs) (e ∷ fs)))) ≡ true) [
      | true ↦ and_from (nat_lt e.block (2 ^ 32)) _ h k
      | false ↦ elim (name_lt f.name e.name) as (λ t. are_small (map (λ g. g.block) (cond t (f ∷ with_listed e fs) (e ∷ fs))) ≡ true) [
        | true ↦ and_from (nat_lt f.block (2 ^ 32)) _ parts.0 later
        | false ↦ and_from (nat_lt e.block (2 ^ 32)) _ h parts.1
      ]
    ]

pub length_with : (e : Entry) (es : List Entry) → length (with_listed e es) ≤ length es + 1
length_with e [] = omega arith
length_with e (f ∷ fs) =
    let later = length_with e fs in
    elim (name_lt e.name f.name) as (λ t. length (cond t (e ∷ f ∷ fs) (cond (name_lt f.name e.name) (f ∷ with_listed e fs) (e ∷ fs))) ≤ suc (length fs) + 1) [
      | true ↦ omega arith
      | false ↦ elim (name_lt f.name e.name) as (λ t. length (cond t (f ∷ with_listed e fs) (e ∷ fs)) ≤ suc (length fs) + 1) [
        | true ↦ omega (arith, later)
        | false ↦ omega arith
      ]
    ]

-- ---- the numbers of blocks that are pointed to are small

small_first : (d : ℕ) (n : Name) (b : ℕ) (x : InodeNode) (o : Option InodeEntries) (xs : InodeEntries) → (is_there x ≡ true → block_is x b) → with_first n x o ≡ Some xs
    → (zs : InodeEntries) × (o ≡ Some zs) × (holds (named_pairs d xs) d b ≡ true) × ((c : ℕ) → holds (named_pairs d zs) d c ≡ true → holds (named_pairs d xs) d c ≡ true)
small_first d n b nothing None xs own e = absurd (cc)
small_first d n b nothing (Some zs) xs own e = absurd (cc)
small_first d n b (a_file f) None xs own e = absurd (cc)
small_first d n b (a_file f) (Some zs) xs own e =
    let same : file n f zs ≡ xs = cc in (
      zs,
      refl,
      ap (λ v. holds (named_pairs d v) d b) (sym same) ∙ or_left (is_pair d b (d, f.block)) _ (and_from (d == d) (f.block == b) (eq-eqb d d refl) (eq-eqb f.block b (own refl))),
      λ c h. ap (λ v. holds (named_pairs d v) d c) (sym same) ∙ or_right (is_pair d c (d, f.block)) _ (held_right (map (λ k. (f.block, k)) f.blocks) (named_pairs d zs) d c h),
    )
small_first d n b (a_dir k inside) None xs own e = absurd (cc)
small_first d n b (a_dir k inside) (Some zs) xs own e =
    let same : dir n k inside zs ≡ xs = cc in (
      zs,
      refl,
      ap (λ v. holds (named_pairs d v) d b) (sym same) ∙ or_left (is_pair d b (d, k)) _ (and_from (d == d) (k == b) (eq-eqb d d refl) (eq-eqb k b (own refl))),
      λ c h. ap (λ v. holds (named_pairs d v) d c) (sym same) ∙ or_right (is_pair d c (d, k)) _ (held_right (named_pairs k inside) (named_pairs d zs) d c h),
    )

pub small_listed : (read : ℕ → InodeNode) → ((c : ℕ) → is_there (read c) ≡ true → block_is (read c) c) → (d : ℕ) (es : List Entry) (xs : InodeEntries) → entries_by read es ≡ Some xs
    → ((b : ℕ) → holds (named_pairs d xs) d b ≡ true → nat_lt b (2 ^ 32) ≡ true) → are_small (map (λ e. e.block) es) ≡ true
small_listed read own d [] xs e small = refl
small_listed read own d (f ∷ fs) xs e small =
    let first = small_first d f.name f.block (read f.block) (entries_by read fs) xs (own f.block) e in
    and_from (nat_lt f.block (2 ^ 32)) _ (small f.block first.2) (small_listed read own d fs first.0 first.1 (λ b h. small b (first.3 b h)))
