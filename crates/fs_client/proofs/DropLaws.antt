-- The world after a deletion: which pairs are held, and which blocks live.
use Rattle.std.proofs.Common.{◌≡◌, ℕ, true, false, Bool, not, cond, ◌&&◌, ◌==◌, refl, sym, ◌∙◌, ap, None}
use Rattle.fs_client.proofs.Common.{and_parts, and_from, eq-eqb, eqb-true, World, contents, is_live, has_number, holds, is_pair, without_pointer, holds-filter, contents-restricted, live-restricted, holds-restricted, dropped}
use Rattle.tsd_model.specs.Doomed.{doomed}
use Rattle.tsd_model.proofs.ValueLaws.{clash}

pub is_false : (t : Bool) → (t ≡ true → ⊥) → t ≡ false
is_false true h = absurd (h refl)
is_false false h = refl

module _ (w : World) (a b : ℕ) where
  pairs_are : (x y : ℕ) → holds (dropped w a b).pairs x y ≡ ((holds w.pairs x y && not (is_pair a b (x, y))) && not (has_number (doomed (without_pointer w a b)) x))
  pairs_are x y = holds-restricted (without_pointer w a b) (λ d. not (has_number (doomed (without_pointer w a b)) d)) x y
      ∙ ap (λ t. t && not (has_number (doomed (without_pointer w a b)) x)) (holds-filter (λ e. not (is_pair a b e)) w.pairs x y)

  live_are : (d : ℕ) → is_live (dropped w a b) d ≡ (not (has_number (doomed (without_pointer w a b)) d) && is_live w d)
  live_are d = live-restricted (without_pointer w a b) (λ x. not (has_number (doomed (without_pointer w a b)) x)) d

  -- what is held and lives was before
  pub fewer_pairs : (x y : ℕ) → holds (dropped w a b).pairs x y ≡ true → holds w.pairs x y ≡ true
  fewer_pairs x y h = (and_parts (holds w.pairs x y) (not (is_pair a b (x, y))) (and_parts (holds w.pairs x y && not (is_pair a b (x, y))) _ (sym (pairs_are x y) ∙ h)).0).0

  pub fewer_live : (d : ℕ) → is_live (dropped w a b) d ≡ true → is_live w d ≡ true
  fewer_live d h = (and_parts (not (has_number (doomed (without_pointer w a b)) d)) (is_live w d) (sym (live_are d) ∙ h)).1

  -- with the same bytes
  pub same_bytes : (d : ℕ) → is_live (dropped w a b) d ≡ true → contents (dropped w a b) d ≡ contents w d
  same_bytes d h =
      let kept = (and_parts (not (has_number (doomed (without_pointer w a b)) d)) (is_live w d) (sym (live_are d) ∙ h)).0 in
      contents-restricted (without_pointer w a b) (λ x. not (has_number (doomed (without_pointer w a b)) x)) d ∙ ap (λ t. cond t (contents w d) None) kept

  -- the pair is gone
  pub pair_gone : holds (dropped w a b).pairs a b ≡ false
  pair_gone = is_false (holds (dropped w a b).pairs a b) (λ h.
      let other = (and_parts (holds w.pairs a b) (not (is_pair a b (a, b))) (and_parts (holds w.pairs a b && not (is_pair a b (a, b))) _ (sym (pairs_are a b) ∙ h)).0).1 in
      clash (not (is_pair a b (a, b))) other (ap not (and_from (a == a) (b == b) (eq-eqb a a refl) (eq-eqb b b refl))))

  -- what is held isn't the pair
  pub other_pair : (x y : ℕ) → holds (dropped w a b).pairs x y ≡ true → is_pair a b (x, y) ≡ false
  other_pair x y h = is_false (is_pair a b (x, y)) (λ e.
      clash (not (is_pair a b (x, y))) (and_parts (holds w.pairs x y) (not (is_pair a b (x, y))) (and_parts (holds w.pairs x y && not (is_pair a b (x, y))) _ (sym (pairs_are x y) ∙ h)).0).1 (ap not e))

  -- another pair is held where its source lives
  pub pair_stays : (x y : ℕ) → is_pair a b (x, y) ≡ false → is_live (dropped w a b) x ≡ true → holds w.pairs x y ≡ true → holds (dropped w a b).pairs x y ≡ true
  pair_stays x y other live h =
      let kept = (and_parts (not (has_number (doomed (without_pointer w a b)) x)) (is_live w x) (sym (live_are x) ∙ live)).0 in
      pairs_are x y ∙ and_from (holds w.pairs x y && not (is_pair a b (x, y))) _ (and_from (holds w.pairs x y) (not (is_pair a b (x, y))) h (ap not other)) kept

  -- one to another block
  pub target_stays : (y : ℕ) → (b == y) ≡ false → is_live (dropped w a b) a ≡ true → holds w.pairs a y ≡ true → holds (dropped w a b).pairs a y ≡ true
  target_stays y off live h =
      let turned : (y == b) ≡ false = is_false (y == b) (λ e. clash (b == y) (eq-eqb b y (sym (eqb-true y b e))) off) in
      pair_stays a y (is_false (is_pair a b (a, y)) (λ e. clash (y == b) (and_parts (a == a) (y == b) e).1 turned)) live h
