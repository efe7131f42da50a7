-- The least names above one, of names in no order, and one name more.
use Rattle.std.proofs.Common.{◌≡◌, ◌⊎◌, inl, inr, ℕ, zero, suc, Bool, true, false, cond, List, [], ◌∷◌, ◌++◌, refl, sym, ◌∙◌, ap, subst, Option, Some, None}
use Rattle.chain_reading.proofs.Common.{take, Name, name_lt, lesser, if_above, least_above, lesser-none, clash, lt_trans}
use Rattle.fs_laws.proofs.OrderLaws.{lt_irreflexive}
use Rattle.fs_laws.proofs.DirectoryLaws.{names_meet}
use Rattle.chain_reading.specs.Nexts.{and_on, least_names, with_name}
use Rattle.chain_reading.proofs.ListLaws.{least-append}

-- ---- names in a line

either : (m n : Name) → (name_lt m n ≡ true) ⊎ (name_lt m n ≡ false)
either m n = by (name_lt m n) refl
  where
    by : (t : Bool) → name_lt m n ≡ t → (name_lt m n ≡ true) ⊎ (name_lt m n ≡ false)
    by true e = inl e
    by false e = inr e

-- what isn't above a name isn't above a higher one
not_above : (a m x : Name) → name_lt a m ≡ true → name_lt a x ≡ false → name_lt m x ≡ false
not_above a m x am ax = elim (either m x) [
  | inl mx ↦ absurd (clash (name_lt a x) (lt_trans a m x am mx) ax)
  | inr other ↦ other
]

-- what is below a name is below what isn't below that one
below_both : (m x y : Name) → name_lt m x ≡ true → name_lt y x ≡ false → name_lt m y ≡ true
below_both m x y mx yx = elim (either x y) [
  | inl xy ↦ lt_trans m x y mx xy
  | inr xy ↦ subst (λ k. name_lt m k ≡ true) (names_meet x y xy yx) mx
]

-- ---- the least name

none_of : (o p : Option Name) → lesser o p ≡ None → (o ≡ None) × (p ≡ None)
none_of None p e = (refl, e)
none_of (Some x) None e = absurd (cc)
none_of (Some x) (Some y) e = by (name_lt y x) e
  where
    by : (t : Bool) → cond t (Some y) (Some x) ≡ None → (◌≡◌ {A = Option Name} (Some x) None) × (◌≡◌ {A = Option Name} (Some y) None)
    by true h = absurd (cc)
    by false h = absurd (cc)

not_there : (a x : Name) → if_above a x ≡ None → name_lt a x ≡ false
not_there a x e = by (name_lt a x) e
  where
    by : (t : Bool) → ◌≡◌ {A = Option Name} (cond t (Some x) None) None → t ≡ false
    by true h = absurd (cc)
    by false h = refl

-- where none is above a name, none is above a higher one
none_higher : (a m : Name) (ms : List Name) → name_lt a m ≡ true → ◌≡◌ {A = Option Name} (least_above a ms) None → ◌≡◌ {A = Option Name} (least_above m ms) None
none_higher a m [] am h = refl
none_higher a m (x ∷ ms) am h =
    let parts = none_of (if_above a x) (least_above a ms) h in
    ap (λ t. lesser (cond t (Some x) None) (least_above m ms)) (not_above a m x am (not_there a x parts.0)) ∙ none_higher a m ms am parts.1

-- The least name above a name is the least one above each name between them.
module _ (m x n : Name) (ms : List Name) (mn : name_lt m n ≡ true) where
  first_or_later : (o : Option Name) → lesser (Some x) o ≡ Some n → (o ≡ None → ◌≡◌ {A = Option Name} (least_above m ms) None) → ((y : Name) → o ≡ Some y → name_lt m y ≡ true → least_above m ms ≡ Some y) → least_above m (x ∷ ms) ≡ Some n
  first_or_later None is none later =
      let same : x ≡ n = cc in
      let mx : name_lt m x ≡ true = subst (λ k. name_lt m k ≡ true) (sym same) mn in
      ap (λ t. lesser (cond t (Some x) None) (least_above m ms)) mx ∙ (ap (lesser (Some x)) (none refl) ∙ ap Some same)
  first_or_later (Some y) is none later = elim (either y x) [
    | inl yx ↦
        let found : Some y ≡ Some n = sym (ap (λ t. cond t (Some y) (Some x)) yx) ∙ is in
        let same : y ≡ n = cc in
        let my : name_lt m y ≡ true = subst (λ k. name_lt m k ≡ true) (sym same) mn in
        ap (λ t. lesser (cond t (Some x) None) (least_above m ms)) (lt_trans m y x my yx) ∙ (ap (lesser (Some x)) (later y refl my) ∙ (ap (λ t. cond t (Some y) (Some x)) yx ∙ found))
    | inr yx ↦
        let found : Some x ≡ Some n = sym (ap (λ t. cond t (Some y) (Some x)) yx) ∙ is in
        let same : x ≡ n = cc in
        let mx : name_lt m x ≡ true = subst (λ k. name_lt m k ≡ true) (sym same) mn in
        ap (λ t. lesser (cond t (Some x) None) (least_above m ms)) mx ∙ (ap (lesser (Some x)) (later y refl (below_both m x y mx yx)) ∙ (ap (λ t. cond t (Some y) (Some x)) yx ∙ found))
  ]

least_between : (a m n : Name) (ms : List Name) → name_lt a m ≡ true → name_lt m n ≡ true → least_above a ms ≡ Some n → least_above m ms ≡ Some n
least_between a m n [] am mn h = absurd (cc)
least_between a m n (x ∷ ms) am mn h = elim (either a x) [
  | inl ax ↦ first_or_later m x n ms mn (least_above a ms) (sym (ap (λ t. lesser (cond t (Some x) None) (least_above a ms)) ax) ∙ h) (none_higher a m ms am) (λ y e my. least_between a m y ms am my e)
  | inr ax ↦
      ap (λ t. lesser (cond t (Some x) None) (least_above m ms)) (not_above a m x am ax)
      ∙ least_between a m n ms am mn (sym (ap (λ t. lesser (cond t (Some x) None) (least_above a ms)) ax) ∙ h)
]

-- it stands above
least_higher : (a n : Name) (ms : List Name) → least_above a ms ≡ Some n → name_lt a n ≡ true
least_higher a n [] h = absurd (cc)
least_higher a n (x ∷ ms) h = elim (either a x) [
  | inl ax ↦ by (least_above a ms) (sym (ap (λ t. lesser (cond t (Some x) None) (least_above a ms)) ax) ∙ h) ax (λ y e. least_higher a y ms e)
  | inr ax ↦ least_higher a n ms (sym (ap (λ t. lesser (cond t (Some x) None) (least_above a ms)) ax) ∙ h)
]
  where
    by : (o : Option Name) → lesser (Some x) o ≡ Some n → name_lt a x ≡ true → ((y : Name) → o ≡ Some y → name_lt a y ≡ true) → name_lt a n ≡ true
    by None e ax later = let same : x ≡ n = cc in subst (λ k. name_lt a k ≡ true) same ax
    by (Some y) e ax later = elim (either y x) [
      | inl yx ↦ let found : Some y ≡ Some n = sym (ap (λ t. cond t (Some y) (Some x)) yx) ∙ e in let same : y ≡ n = cc in subst (λ k. name_lt a k ≡ true) same (later y refl)
      | inr yx ↦ let found : Some x ≡ Some n = sym (ap (λ t. cond t (Some y) (Some x)) yx) ∙ e in let same : x ≡ n = cc in subst (λ k. name_lt a k ≡ true) same ax
    ]

least_with : (a m : Name) (ms : List Name) → least_above a (ms ++ m ∷ []) ≡ lesser (least_above a ms) (if_above a m)
least_with a m ms = least-append a ms (m ∷ []) ∙ ap (lesser (least_above a ms)) (lesser-none (if_above a m))

-- ---- the least names

take_none : (k : ℕ) → ◌≡◌ {A = List Name} (take k []) []
take_none zero = refl
take_none (suc k) = refl

none_left : (k : ℕ) (a : Name) (ms : List Name) → ◌≡◌ {A = Option Name} (least_above a ms) None → ◌≡◌ {A = List Name} (least_names k a ms) []
none_left zero a ms e = refl
none_left (suc k) a ms e = ap (and_on (λ n. least_names k n ms)) e

no_more : (k : ℕ) (a : Name) (ms : List Name) → take k (least_names k a ms) ≡ least_names k a ms
no_more zero a ms = refl
no_more (suc k) a ms = by (least_above a ms) (λ n. no_more k n ms)
  where
    by : (o : Option Name) → ((n : Name) → take k (least_names k n ms) ≡ least_names k n ms) → take (suc k) (and_on (λ n. least_names k n ms) o) ≡ and_on (λ n. least_names k n ms) o
    by None ih = refl
    by (Some n) ih = ap (λ ns. n ∷ ns) (ih n)

fewer : (k : ℕ) (a : Name) (ms : List Name) → take k (least_names (suc k) a ms) ≡ least_names k a ms
fewer zero a ms = refl
fewer (suc k) a ms = by (least_above a ms) (λ n. fewer k n ms)
  where
    by : (o : Option Name) → ((n : Name) → take k (least_names (suc k) n ms) ≡ least_names k n ms) → take (suc k) (and_on (λ n. least_names (suc k) n ms) o) ≡ and_on (λ n. least_names k n ms) o
    by None ih = refl
    by (Some n) ih = ap (λ ns. n ∷ ns) (ih n)

-- a name below the least one comes before it
before_least : (k : ℕ) (a m n : Name) (ms : List Name) → name_lt a m ≡ true → name_lt m n ≡ true → least_above a ms ≡ Some n → least_names k m ms ≡ take k (n ∷ least_names k n ms)
before_least zero a m n ms am mn e = refl
before_least (suc k) a m n ms am mn e = ap (and_on (λ b. least_names k b ms)) (least_between a m n ms am mn e) ∙ ap (λ ns. n ∷ ns) (sym (fewer k n ms))

abbrev with_one : ℕ → Name → Name → List Name → List Name
with_one k a m ms = cond (name_lt a m) (take k (with_name m (least_names k a ms))) (least_names k a ms)

module _ (k : ℕ) (a m : Name) (ms : List Name) (ih : (b : Name) → least_names k b (ms ++ m ∷ []) ≡ with_one k b m ms) where
  abbrev now : Name → List Name
  now n = least_names k n (ms ++ m ∷ [])

  abbrev was : Name → List Name
  was n = least_names k n ms

  -- behind a name that the new one isn't above nothing is new
  nothing_new : (n : Name) → name_lt n m ≡ false → now n ≡ was n
  nothing_new n other = ih n ∙ ap (λ t. cond t (take k (with_name m (was n))) (was n)) other

  lower : name_lt a m ≡ false → (o : Option Name) → ((n : Name) → o ≡ Some n → name_lt a n ≡ true) → and_on now o ≡ and_on was o
  lower am None higher = refl
  lower am (Some n) higher = ap (λ ns. n ∷ ns) (nothing_new n (not_above a n m (higher n refl) am))

  higher : name_lt a m ≡ true → (o : Option Name) → least_above a ms ≡ o → and_on now (lesser o (Some m)) ≡ take (suc k) (with_name m (and_on was o))
  higher am None e = ap (λ ns. m ∷ ns) (nothing_new m (lt_irreflexive m) ∙ (none_left k m ms (none_higher a m ms am e) ∙ sym (take_none k)))
  higher am (Some n) e = elim (either m n) [
    | inl mn ↦
        ap (λ t. and_on now (cond t (Some m) (Some n))) mn
        ∙ (ap (λ ns. m ∷ ns) (nothing_new m (lt_irreflexive m) ∙ before_least k a m n ms am mn e)
        ∙ sym (ap (λ t. take (suc k) (cond t (m ∷ n ∷ was n) (cond (name_lt n m) (n ∷ with_name m (was n)) (n ∷ was n)))) mn))
    | inr mn ↦ elim (either n m) [
      | inl nm ↦
          ap (λ t. and_on now (cond t (Some m) (Some n))) mn
          ∙ (ap (λ ns. n ∷ ns) (ih n ∙ ap (λ t. cond t (take k (with_name m (was n))) (was n)) nm)
          ∙ sym (ap (λ t. take (suc k) (cond t (m ∷ n ∷ was n) (cond (name_lt n m) (n ∷ with_name m (was n)) (n ∷ was n)))) mn ∙ ap (λ t. take (suc k) (cond t (n ∷ with_name m (was n)) (n ∷ was n))) nm))
      | inr nm ↦
          ap (λ t. and_on now (cond t (Some m) (Some n))) mn
          ∙ (ap (λ ns. n ∷ ns) (nothing_new n nm ∙ sym (no_more k n ms))
          ∙ sym (ap (λ t. take (suc k) (cond t (m ∷ n ∷ was n) (cond (name_lt n m) (n ∷ with_name m (was n)) (n ∷ was n)))) mn ∙ ap (λ t. take (suc k) (cond t (n ∷ with_name m (was n)) (n ∷ was n))) nm))
    ]
  ]

-- the least names with one name more
pub one_more : (k : ℕ) (a m : Name) (ms : List Name) → least_names k a (ms ++ m ∷ []) ≡ with_one k a m ms
one_more zero a m ms = elim (either a m) [
  | inl am ↦ sym (ap (λ t. cond t (take 0 (with_name m [])) []) am)
  | inr am ↦ sym (ap (λ t. cond t (take 0 (with_name m [])) []) am)
]
one_more (suc k) a m ms = elim (either a m) [
  | inl am ↦
      ap (and_on (λ n. least_names k n (ms ++ m ∷ []))) (least_with a m ms ∙ ap (λ t. lesser (least_above a ms) (cond t (Some m) None)) am)
      ∙ (higher k a m ms (λ b. one_more k b m ms) am (least_above a ms) refl
      ∙ sym (ap (λ t. cond t (take (suc k) (with_name m (least_names (suc k) a ms))) (least_names (suc k) a ms)) am))
  | inr am ↦
      ap (and_on (λ n. least_names k n (ms ++ m ∷ []))) (least_with a m ms ∙ (ap (λ t. lesser (least_above a ms) (cond t (Some m) None)) am ∙ lesser-none (least_above a ms)))
      ∙ (lower k a m ms (λ b. one_more k b m ms) am (least_above a ms) (λ n e. least_higher a n ms e)
      ∙ sym (ap (λ t. cond t (take (suc k) (with_name m (least_names (suc k) a ms))) (least_names (suc k) a ms)) am))
]
