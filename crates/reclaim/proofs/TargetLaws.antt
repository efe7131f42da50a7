-- The targets of a block, of which a step takes the first ones.
use Rattle.std.proofs.Common.{◌≡◌, ℕ, ◌+◌, ◌<◌, ◌≤◌, true, false, not, cond, ◌&&◌, ◌||◌, ◌==◌, nat_le, List, [], ◌∷◌, length, refl, sym, ◌∙◌, ap, arith, take, append-nil, ◌⊎◌, inl, inr}
use Rattle.reclaim.proofs.Common.{eq-eqb, and_parts, and_from, both_ways, cases_lt, le-leb, lt-ltb, le-ltb, leb-true, length-take, take_more, take-append-le, filter, map, holds, is_below_first, is_rising, targets_from, World, has_number, are_apart, AreTargets, IsStep, IsLost, alone_then}
use Rattle.std.proofs.lemmas.List.{length-append}
use Rattle.std.specs.Prelude.{◌++◌, nat_lt, get_or}
use Rattle.tsd_model.proofs.PairLaws.{first_once}
use Rattle.reclaim.proofs.HeldLaws.{has-take, apart-take, take-whole, has-beyond}

-- all of them
abbrev pub all_targets : List (ℕ × ℕ) → ℕ → List ℕ
all_targets es a = map (λ e. e.1) (filter (λ e. (e.0 == a) && nat_le 0 e.1) es)

has-targets : (es : List (ℕ × ℕ)) (a b : ℕ) → has_number (all_targets es a) b ≡ holds es a b
has-targets [] a b = refl
has-targets (e ∷ es) a b = let rest = has-targets es a b in
    elim (e.0 == a) as (λ t. has_number (map (λ e. e.1) (cond (t && nat_le 0 e.1) (e ∷ filter (λ e. (e.0 == a) && nat_le 0 e.1) es) (filter (λ e. (e.0 == a) && nat_le 0 e.1) es))) b ≡ ((t && (e.1 == b)) || holds es a b)) [
      | true ↦ ap (λ t. has_number (map (λ e. e.1) (cond t (e ∷ filter (λ e. (e.0 == a) && nat_le 0 e.1) es) (filter (λ e. (e.0 == a) && nat_le 0 e.1) es))) b) (le-leb 0 e.1 (omega arith)) ∙ ap (λ t. (e.1 == b) || t) rest
      | false ↦ rest
    ]

apart-targets : (es : List (ℕ × ℕ)) (a : ℕ) → is_rising es ≡ true → are_apart (all_targets es a) ≡ true
apart-targets [] a r = refl
apart-targets (e ∷ es) a r = let parts = and_parts (is_below_first e es) (is_rising es) r in
    elim ((e.0 == a) && nat_le 0 e.1) as (λ t. ((e.0 == a) && nat_le 0 e.1) ≡ t → are_apart (map (λ e. e.1) (cond t (e ∷ filter (λ e. (e.0 == a) && nat_le 0 e.1) es) (filter (λ e. (e.0 == a) && nat_le 0 e.1) es))) ≡ true) [
      | true ↦ λ k. and_from (not (has_number (all_targets es a) e.1)) (are_apart (all_targets es a))
          (ap not (has-targets es a e.1 ∙ first_once e es a e.1 parts.0 parts.1 (and_from (e.0 == a) (e.1 == e.1) (and_parts (e.0 == a) (nat_le 0 e.1) k).0 (eq-eqb e.1 e.1 refl))))
          (apart-targets es a parts.1)
      | false ↦ λ _. apart-targets es a parts.1
    ] refl

-- ---- a step with the first 16 of the least 64

module _ (w : World) (a : ℕ) (rising : is_rising w.pairs ≡ true) where
  apart : are_apart (targets_from w.pairs a 0) ≡ true
  apart = apart-take 64 (all_targets w.pairs a) (apart-targets w.pairs a rising)

  -- where there are no more than 16, it takes all
  pub takes_all : nat_le (length (targets_from w.pairs a 0)) 16 ≡ true → (b : ℕ) → holds w.pairs a b ≡ true → has_number (take 16 (targets_from w.pairs a 0)) b ≡ true
  takes_all few b held =
      let short : length (targets_from w.pairs a 0) ≤ 16 = leb-true (length (targets_from w.pairs a 0)) 16 few in
      let all : targets_from w.pairs a 0 ≡ all_targets w.pairs a = take-whole 64 (all_targets w.pairs a) (omega (arith, short, length-take 64 (all_targets w.pairs a))) in
      ap (λ xs. has_number xs b) (take-whole 16 (targets_from w.pairs a 0) short ∙ all) ∙ (has-targets w.pairs a b ∙ held)

  -- and only there
  pub takes_all_only : ((b : ℕ) → holds w.pairs a b ≡ true → has_number (take 16 (targets_from w.pairs a 0)) b ≡ true) → nat_le (length (targets_from w.pairs a 0)) 16 ≡ true
  takes_all_only all = elim (cases_lt 16 (length (targets_from w.pairs a 0))) [
    | inl more ↦ let beyond = has-beyond 16 (targets_from w.pairs a 0) apart more in
        absurd (both_ways (has_number (take 16 (targets_from w.pairs a 0)) beyond.0) beyond.2 (all beyond.0 (sym (has-targets w.pairs a beyond.0) ∙ has-take 64 (all_targets w.pairs a) beyond.0 beyond.1)))
    | inr few ↦ le-leb (length (targets_from w.pairs a 0)) 16 few
  ]

  pub first_targets_taken : AreTargets w a (take 16 (targets_from w.pairs a 0))
  first_targets_taken = record {
    held = λ b is. sym (has-targets w.pairs a b) ∙ has-take 64 (all_targets w.pairs a) b (has-take 16 (targets_from w.pairs a 0) b is);
    once = apart-take 16 (targets_from w.pairs a 0) apart;
  }

  pub first_targets_step : IsLost w a → IsStep w a (take 16 (targets_from w.pairs a 0)) (nat_le (length (targets_from w.pairs a 0)) 16)
  first_targets_step lost = record {
    taken = first_targets_taken;
    last = λ few. alone_then w a (take 16 (targets_from w.pairs a 0)) lost (takes_all few);
  }

-- it takes one, or there is none
pub first_targets_some : (xs : List ℕ) → (nat_le (length xs) 16 ≡ true) ⊎ (1 ≤ length (take 16 xs))
first_targets_some [] = inl refl
first_targets_some (x ∷ xs) = inr (omega arith)

-- one target more is offered
pub first_more : (xs : List ℕ) (i : ℕ) (first next : List ℕ) (len : ℕ) → first ≡ take 16 (take i xs) → len ≡ length first
    → next ≡ take 64 (first ++ cond (nat_lt len 16) (get_or xs i 0 ∷ []) []) → i < length xs → next ≡ take 16 (take (i + 1) xs)
first_more xs i first next len e l n h = n ∙ (ap (λ m. take 64 (first ++ cond (nat_lt m 16) (get_or xs i 0 ∷ []) [])) l ∙ (ap (λ ys. take 64 (ys ++ cond (nat_lt (length ys) 16) (get_or xs i 0 ∷ []) [])) e
    ∙ (each (take i xs) (get_or xs i 0) ∙ ap (take 16) (sym (take_more xs i 0 h)))))
  where
    shorter : (m n : ℕ) (ys : List ℕ) → m ≤ n → take n (take m ys) ≡ take m ys
    shorter m n ys h = take-whole n (take m ys) (omega (arith, length-take m ys))

    each : (ys : List ℕ) (x : ℕ) → take 64 (take 16 ys ++ cond (nat_lt (length (take 16 ys)) 16) (x ∷ []) []) ≡ take 16 (ys ++ x ∷ [])
    each ys x = elim (cases_lt (length ys) 16) [
      | inl few ↦
          let whole = take-whole 16 ys (omega arith) in
          let more : length (ys ++ x ∷ []) ≡ length ys + 1 = length-append ys (x ∷ []) in
          ap (λ zs. take 64 (zs ++ cond (nat_lt (length zs) 16) (x ∷ []) [])) whole
          ∙ (ap (λ t. take 64 (ys ++ cond t (x ∷ []) [])) (lt-ltb (length ys) 16 few)
          ∙ (take-whole 64 (ys ++ x ∷ []) (omega arith) ∙ sym (take-whole 16 (ys ++ x ∷ []) (omega arith))))
      | inr many ↦
          let full : length (take 16 ys) ≡ 16 = omega (arith, length-take 16 ys) in
          ap (λ t. take 64 (take 16 ys ++ cond t (x ∷ []) [])) (le-ltb (length (take 16 ys)) 16 (omega arith))
          ∙ (ap (take 64) (append-nil (take 16 ys)) ∙ (shorter 16 64 ys (omega arith) ∙ sym (take-append-le 16 ys (x ∷ []) many)))
    ]
