-- The targets of a block one after another.
use Rattle.std.proofs.Common.{◌≡◌, ℕ, ◌+◌, ◌<◌, ◌≤◌, true, false, cond, nat_le, ◌&&◌, ◌==◌, inl, inr, List, [], ◌∷◌, ◌++◌, length, take, refl, sym, ◌∙◌, ap, arith}
use Rattle.std.proofs.Common.{Some, None}
use Rattle.pointer_table.proofs.Common.{filter, or_cases, or_left, or_right, and_parts, and_from, and_right, eqb-true, eq-eqb, leb-true, le-leb, lt-leb, both_ways, false_from_ne_true, nat_tests, append_assoc, append-nil, length_push, take_all, take_at, is_pair, holds, pair_lt, is_below_first, is_rising, IsNextTarget, above_first}
use Rattle.std.specs.Prelude.{map}

-- ---- the targets of a block that are not below a number, ascending

abbrev pub all_targets : List (ℕ × ℕ) → ℕ → ℕ → List ℕ
all_targets es a start = map (λ e. e.1) (filter (λ e. (e.0 == a) && nat_le start e.1) es)

-- where the same targets count, they are the same
targets_same : (es : List (ℕ × ℕ)) (a s t : ℕ) → ((b : ℕ) → holds es a b ≡ true → nat_le s b ≡ nat_le t b) → all_targets es a s ≡ all_targets es a t
targets_same [] a s t same = refl
targets_same (e ∷ es) a s t same =
    let rest = targets_same es a s t (λ b h. same b (or_right (is_pair a b e) (holds es a b) h)) in
    let test : ((e.0 == a) && nat_le s e.1) ≡ ((e.0 == a) && nat_le t e.1) =
    elim (e.0 == a) as (λ u. (e.0 == a) ≡ u → (u && nat_le s e.1) ≡ (u && nat_le t e.1)) [
      | true ↦ λ here. same e.1 (or_left (is_pair a e.1 e) (holds es a e.1) (and_from (e.0 == a) (e.1 == e.1) here (eq-eqb e.1 e.1 refl)))
      | false ↦ λ off. refl
    ] refl in
    let one : all_targets (e ∷ es) a s ≡ map (λ f. f.1) (cond ((e.0 == a) && nat_le t e.1) (e ∷ filter (λ f. (f.0 == a) && nat_le s f.1) es) (filter (λ f. (f.0 == a) && nat_le s f.1) es)) =
    ap (λ u. map (λ f. f.1) (cond u (e ∷ filter (λ f. (f.0 == a) && nat_le s f.1) es) (filter (λ f. (f.0 == a) && nat_le s f.1) es))) test in
    one ∙ elim ((e.0 == a) && nat_le t e.1) as (λ u. map (λ f. f.1) (cond u (e ∷ filter (λ f. (f.0 == a) && nat_le s f.1) es) (filter (λ f. (f.0 == a) && nat_le s f.1) es)) ≡ map (λ f. f.1) (cond u (e ∷ filter (λ f. (f.0 == a) && nat_le t f.1) es) (filter (λ f. (f.0 == a) && nat_le t f.1) es))) [
      | true ↦ ap (λ xs. e.1 ∷ xs) rest
      | false ↦ rest
    ]

pub no_targets : (es : List (ℕ × ℕ)) (a s : ℕ) → IsNextTarget es a s None → all_targets es a s ≡ []
no_targets [] a s none = refl
no_targets (e ∷ es) a s none =
    let rest = no_targets es a s (λ b h. none b (or_right (is_pair a b e) (holds es a b) h)) in
    elim ((e.0 == a) && nat_le s e.1) as (λ u. ((e.0 == a) && nat_le s e.1) ≡ u → map (λ f. f.1) (cond u (e ∷ filter (λ f. (f.0 == a) && nat_le s f.1) es) (filter (λ f. (f.0 == a) && nat_le s f.1) es)) ≡ []) [
      | true ↦ λ h. let parts = and_parts (e.0 == a) (nat_le s e.1) h in
          let below = none e.1 (or_left (is_pair a e.1 e) (holds es a e.1) (and_from (e.0 == a) (e.1 == e.1) parts.0 (eq-eqb e.1 e.1 refl))) in
          let above = leb-true s e.1 parts.1 in
          absurd (omega arith)
      | false ↦ λ h. rest
    ] refl

-- the least one, and then the rest
pub first_target : (es : List (ℕ × ℕ)) (a s t : ℕ) → is_rising es ≡ true → IsNextTarget es a s (Some t) → all_targets es a s ≡ t ∷ all_targets es a (t + 1)
first_target [] a s t rising least = absurd (both_ways false refl least.there)
first_target (e ∷ es) a s t rising least =
    let parts = and_parts (is_below_first e es) (is_rising es) rising in
    elim ((e.0 == a) && nat_le s e.1) as (λ u. ((e.0 == a) && nat_le s e.1) ≡ u
    → map (λ f. f.1) (cond u (e ∷ filter (λ f. (f.0 == a) && nat_le s f.1) es) (filter (λ f. (f.0 == a) && nat_le s f.1) es)) ≡ t ∷ all_targets (e ∷ es) a (t + 1)) [
      | true ↦ λ h. let tests = and_parts (e.0 == a) (nat_le s e.1) h in
          let source : e.0 ≡ a = eqb-true e.0 a tests.0 in
          let from : s ≤ e.1 = leb-true s e.1 tests.1 in
          let below : t ≤ e.1 = least.least e.1 (or_left (is_pair a e.1 e) (holds es a e.1) (and_from (e.0 == a) (e.1 == e.1) tests.0 (eq-eqb e.1 e.1 refl))) from in
          let same : e.1 ≡ t = elim (or_cases (is_pair a t e) (holds es a t) least.there) [
            | inl here ↦ eqb-true e.1 t ((and_parts (e.0 == a) (e.1 == t) here).1)
            | inr later ↦ absurd (not_above e a t source below (above_first e es a t parts.0 parts.1 later))
          ] in
          let rest : all_targets es a s ≡ all_targets es a (t + 1) = targets_same es a s (t + 1) (λ b held.
          let up = above_target e a b source (above_first e es a b parts.0 parts.1 held) in
          le-leb s b (omega arith) ∙ sym (le-leb (t + 1) b (omega arith))) in
          let skipped : all_targets (e ∷ es) a (t + 1) ≡ all_targets es a (t + 1) =
          ap (λ u. map (λ f. f.1) (cond u (e ∷ filter (λ f. (f.0 == a) && nat_le (t + 1) f.1) es) (filter (λ f. (f.0 == a) && nat_le (t + 1) f.1) es)))
          (and_right (e.0 == a) (nat_le (t + 1) e.1) (lt-leb (t + 1) e.1 (omega arith))) in
          ap (λ x. x ∷ all_targets es a s) same ∙ ap (λ xs. t ∷ xs) (rest ∙ sym skipped)
      | false ↦ λ h.
          let later : holds es a t ≡ true = elim (or_cases (is_pair a t e) (holds es a t) least.there) [
            | inl here ↦ let at = and_parts (e.0 == a) (e.1 == t) here in
                let same = eqb-true e.1 t at.1 in
                let from = least.from in
                absurd (both_ways ((e.0 == a) && nat_le s e.1) h (and_from (e.0 == a) (nat_le s e.1) at.0 (le-leb s e.1 (omega arith))))
            | inr later ↦ later
          ] in
          let rest = first_target es a s t parts.1 (record {
            there = later;
            from = least.from;
            least = λ c held from. least.least c (or_right (is_pair a c e) (holds es a c) held) from;
          }) in
          let off : ((e.0 == a) && nat_le (t + 1) e.1) ≡ false = false_from_ne_true ((e.0 == a) && nat_le (t + 1) e.1) (λ on.
          let at = and_parts (e.0 == a) (nat_le (t + 1) e.1) on in
          let up = leb-true (t + 1) e.1 at.1 in
          let from = least.from in
          both_ways ((e.0 == a) && nat_le s e.1) h (and_from (e.0 == a) (nat_le s e.1) at.0 (le-leb s e.1 (omega arith)))) in
          let skipped : all_targets (e ∷ es) a (t + 1) ≡ all_targets es a (t + 1) =
          ap (λ u. map (λ f. f.1) (cond u (e ∷ filter (λ f. (f.0 == a) && nat_le (t + 1) f.1) es) (filter (λ f. (f.0 == a) && nat_le (t + 1) f.1) es))) off in
          rest ∙ ap (λ xs. t ∷ xs) (sym skipped)
    ] refl
  where
    above_target : (e : ℕ × ℕ) (a b : ℕ) → e.0 ≡ a → pair_lt e (a, b) ≡ true → e.1 < b
    above_target e a b source lt = grind (arith, nat_tests)

    not_above : (e : ℕ × ℕ) (a t : ℕ) → e.0 ≡ a → t ≤ e.1 → pair_lt e (a, t) ≡ true → ⊥
    not_above e a t source below lt = grind (arith, nat_tests)

-- ---- a list of targets, one after another

-- one target more
pub targets_more : (most : ℕ) (targets new rest all : List ℕ) (t : ℕ) → length targets < 64 → new ≡ take 64 (targets ++ t ∷ []) → take most (targets ++ t ∷ rest) ≡ all → take most (new ++ rest) ≡ all
targets_more most targets new rest all t room is so_far =
    let longer = length_push targets t in
    ap (λ xs. take most (xs ++ rest)) (is ∙ take_all 64 (targets ++ t ∷ []) (omega arith)) ∙ (ap (take most) (append_assoc targets (t ∷ []) rest) ∙ so_far)

pub targets_longer : (targets new : List ℕ) (t : ℕ) → length targets < 64 → new ≡ take 64 (targets ++ t ∷ []) → length new ≡ length targets + 1
targets_longer targets new t room is =
    let longer = length_push targets t in
    ap length (is ∙ take_all 64 (targets ++ t ∷ []) (omega arith)) ∙ longer

-- as many as there may be
pub targets_full : (many : ℕ) (targets rest all : List ℕ) → length targets ≤ many → many ≤ length targets → take many (targets ++ rest) ≡ all → targets ≡ all
targets_full many targets rest all most least so_far = sym (take_at targets rest many (omega arith)) ∙ so_far

-- no more to come
pub targets_ended : (many : ℕ) (targets rest all : List ℕ) → length targets ≤ many → rest ≡ [] → take many (targets ++ rest) ≡ all → targets ≡ all
targets_ended many targets rest all most none so_far =
    sym (take_all many targets most) ∙ (ap (take many) (sym (append-nil targets)) ∙ (ap (λ xs. take many (targets ++ xs)) (sym none) ∙ so_far))
