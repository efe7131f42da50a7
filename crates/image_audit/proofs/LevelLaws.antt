-- A level of a search, one pair after another.
use Rattle.std.proofs.Common.{◌≡◌, ℕ, zero, suc, ◌+◌, ◌<◌, Bool, true, false, not, ◌&&◌, ◌||◌, ◌==◌, List, [], ◌∷◌, ◌++◌, length, refl, sym, ◌∙◌, ap, subst, arith, inl, inr, Option, Some, None}
use Rattle.image_audit.proofs.Common.{or_cases, or_left, or_right, cases_lt, cases_eq, eq-eqb, eqb-true, ne_eqb, both_ways, nat_tests, append-nil, get_or-set_same, get_or-set_other, slice_set, slice_index_or, holds, IsNextTarget, World, has_number, Entry, entry_at, is_listed, noted, IsSearching, root_entry, HasRoots, NoneSeen, SeenFrom, SeenTo}
use Rattle.std.specs.Prelude.{cond}
use Rattle.reclaim.proofs.HeldLaws.{has-push}
use Rattle.image_audit.proofs.SearchLaws.{noted_goes_on, level_done}
use Rattle.tsd_model.proofs.ValueLaws.{or_false}

-- where the same pairs were looked at, the search is the same
pub same_seen : (w : World) (roots : List ℕ) (d : ℕ) (level next : List ℕ) (seen then_ : ℕ → ℕ → Type 0) (entries : List (Option Entry))
    → ((x y : ℕ) → seen x y → then_ x y) → ((x y : ℕ) → then_ x y → seen x y)
    → IsSearching w roots d level next seen entries → IsSearching w roots d level next then_ entries
same_seen w roots d level next seen then_ entries to from s = record {
  sound = s.sound;
  complete = s.complete;
  bound = s.bound;
  above = s.above;
  below = λ b e h k. let first = s.below b e h k in (first.0, first.1, to first.0 b first.2, λ c g. first.3 c (from c b g));
  held = λ a b g. s.held a b (from a b g);
  from = λ a b g. s.from a b (from a b g);
  led = λ a b g. s.led a b (from a b g);
  level_has = s.level_has;
  level_all = s.level_all;
  next_has = s.next_has;
  next_all = s.next_all;
}

-- ---- the next target of a block

flip : (x b : ℕ) → (x == b) ≡ (b == x)
flip x b = grind (arith, nat_tests)

has_more : (xs : List ℕ) (x b : ℕ) → has_number (xs ++ x ∷ []) b ≡ (has_number xs b || (b == x))
has_more xs x b = has-push xs x b ∙ ap (λ t. has_number xs b || t) (flip x b)

-- one that was listed isn't one of the next level
has_pushed : (before : List ℕ) (t : ℕ) (is : Bool) (c : ℕ) → has_number (before ++ cond is [] (t ∷ [])) c ≡ (has_number before c || ((c == t) && not is))
has_pushed before t true c = ap (λ xs. has_number xs c) (append-nil before) ∙ (or_none (has_number before c) ∙ ap (λ u. has_number before c || u) (and_none (c == t)))
  where
    or_none : (u : Bool) → u ≡ (u || false)
    or_none true = refl
    or_none false = refl

    and_none : (u : Bool) → false ≡ (u && not true)
    and_none true = refl
    and_none false = refl
has_pushed before t false c = has_more before t c ∙ ap (λ u. has_number before c || u) (and_all (c == t))
  where
    and_all : (u : Bool) → u ≡ (u && not false)
    and_all true = refl
    and_all false = refl

-- one root more is listed
pub root_more : (done : List ℕ) (r : ℕ) (entries : List (Option Entry)) → r < length entries → HasRoots done entries → HasRoots (done ++ r ∷ []) (slice_set entries r (Some root_entry))
root_more done r entries inside are b = elim (cases_eq b r) [
  | inl same ↦ ap (entry_at (slice_set entries r (Some root_entry))) same ∙ (get_or-set_same entries r (Some root_entry) None inside
      ∙ ap (λ t. cond t (Some root_entry) None) (sym (has_more done r b ∙ or_right (has_number done b) (b == r) (eq-eqb b r same))))
  | inr apart ↦ get_or-set_other entries r b (Some root_entry) None apart ∙ (are b
      ∙ ap (λ t. cond t (Some root_entry) None) (sym (has_more done r b ∙ (ap (λ u. has_number done b || u) (ne_eqb b r apart) ∙ or_false (has_number done b)))))
]

module _ (w : World) (roots : List ℕ) (d : ℕ) (level done : List ℕ) (source from t : ℕ) (old : List (Option Entry)) (before : List ℕ)
    (in_level : has_number level source ≡ true) (next : IsNextTarget w.pairs source from (Some t)) (inside : t < length old)
    (s : IsSearching w roots d level before (SeenTo w done source from) old) where
  abbrev new : List (Option Entry)
  new = slice_set old t (Some (noted (entry_at old t) (suc d) source))

  pub target_noted : IsSearching w roots d level (before ++ cond (is_listed old t) [] (t ∷ [])) (SeenTo w done source (suc t)) new
  target_noted = noted_goes_on w roots d level old new before (before ++ cond (is_listed old t) [] (t ∷ [])) (SeenTo w done source from) (SeenTo w done source (suc t)) source t
      (λ c apart. get_or-set_other old t c (Some (noted (entry_at old t) (suc d) source)) None apart)
      (has_pushed before t (is_listed old t))
      next.there in_level
      (λ x y g. (g.0, elim g.1 [ inl was ↦ inl was | inr now ↦ inr (now.0, let lt = now.1 in let low = next.from in omega (arith, lt, low)) ]))
      (next.there, inr (refl, omega arith))
      (λ x y g. elim g.1 [
        | inl was ↦ inl (g.0, inl was)
        | inr now ↦ elim (cases_lt y from) [
          | inl lt ↦ inl (g.0, inr (now.0, lt))
          | inr ge ↦ inr (now.0, let least = next.least y (subst (λ z. holds w.pairs z y ≡ true) now.0 g.0) ge in let lt = now.1 in omega (arith, least, lt))
        ]
      ])
      s
      (get_or-set_same old t (Some (noted (entry_at old t) (suc d) source)) None inside)

-- ---- all targets of a block

module _ (w : World) (roots : List ℕ) (d : ℕ) (level done : List ℕ) (source : ℕ) (next : List ℕ) (entries : List (Option Entry)) where
  pub source_begun : IsSearching w roots d level next (SeenFrom w done) entries → IsSearching w roots d level next (SeenTo w done source 0) entries
  source_begun = same_seen w roots d level next (SeenFrom w done) (SeenTo w done source 0) entries
      (λ x y g. (g.0, inl g.1)) (λ x y g. (g.0, elim g.1 [ inl was ↦ was | inr now ↦ absurd (let lt = now.1 in omega (arith, lt)) ]))

  pub source_done : (from : ℕ) → IsNextTarget w.pairs source from None → IsSearching w roots d level next (SeenTo w done source from) entries → IsSearching w roots d level next (SeenFrom w (done ++ source ∷ [])) entries
  source_done from none = same_seen w roots d level next (SeenTo w done source from) (SeenFrom w (done ++ source ∷ [])) entries
      (λ x y g. (g.0, has_more done source x ∙ elim g.1 [ inl was ↦ or_left (has_number done x) (x == source) was | inr now ↦ or_right (has_number done x) (x == source) (eq-eqb x source now.0) ]))
      (λ x y g. (
        g.0,
        elim (or_cases (has_number done x) (x == source) (sym (has_more done source x) ∙ g.1)) [
          | inl was ↦ inl was
          | inr now ↦ let same = eqb-true x source now in inr (same, none y (subst (λ z. holds w.pairs z y ≡ true) same g.0))
        ],
      ))

-- ---- the first block and the last

module _ (w : World) (roots : List ℕ) (d : ℕ) (level next : List ℕ) (entries : List (Option Entry)) where
  pub level_begun : IsSearching w roots d level next NoneSeen entries → IsSearching w roots d level next (SeenFrom w []) entries
  level_begun = same_seen w roots d level next NoneSeen (SeenFrom w []) entries (λ x y none. absurd none) (λ x y g. both_ways false refl g.1)

  pub level_ended : IsSearching w roots d level next (SeenFrom w level) entries → IsSearching w roots (suc d) next [] NoneSeen entries
  level_ended s = level_done w roots d level next (SeenFrom w level) entries s (λ a b held from. (held, from))

-- ---- which blocks a level has

pub has_at : (xs : List ℕ) (k d : ℕ) → k < length xs → has_number xs (slice_index_or xs k d) ≡ true
has_at [] k d h = absurd (omega arith)
has_at (x ∷ xs) zero d h = or_left (x == x) (has_number xs x) (eq-eqb x x refl)
has_at (x ∷ xs) (suc k) d h = or_right (x == slice_index_or xs k d) (has_number xs (slice_index_or xs k d)) (has_at xs k d (omega arith))

pub listed_inside : (entries : List (Option Entry)) (b : ℕ) (e : Entry) → entry_at entries b ≡ Some e → b < length entries
listed_inside [] b e h = absurd (cc)
listed_inside (x ∷ xs) zero e h = omega arith
listed_inside (x ∷ xs) (suc b) e h = omega (arith, listed_inside xs b e h)

pub level_inside : (w : World) (roots : List ℕ) (d : ℕ) (level next : List ℕ) (seen : ℕ → ℕ → Type 0) (entries : List (Option Entry)) (n : ℕ)
    → IsSearching w roots d level next seen entries → length entries ≡ n → (k e : ℕ) → k < length level → slice_index_or level k e < n
level_inside w roots d level next seen entries n s size k e h =
    let at = s.level_has (slice_index_or level k e) (has_at level k e h) in
    let below = listed_inside entries (slice_index_or level k e) at.0 at.1 in omega (arith, below, size)

-- a note of the next target of a block
pub noted_next : (w : World) (d blocks source from t : ℕ) (before first after : List ℕ) (start old new : List (Option Entry)) (to below : ℕ)
    → IsNextTarget w.pairs source from (Some t) → t < blocks → length old ≡ blocks → to ≡ t + 1 → below ≡ d + 1
    → new ≡ slice_set old t (Some (noted (entry_at old t) below source)) → after ≡ before ++ cond (is_listed old t) [] (t ∷ [])
    → ((roots level done : List ℕ) → has_number level source ≡ true → IsSearching w roots d level first (SeenFrom w done) start → IsSearching w roots d level before (SeenTo w done source from) old)
    → (roots level done : List ℕ) → has_number level source ≡ true → IsSearching w roots d level first (SeenFrom w done) start → IsSearching w roots d level after (SeenTo w done source to) new
noted_next w d blocks source from t before first after start old new to below next inside size up deep is pushed so_far roots level done in_level s =
    let end : suc t ≡ to = omega arith in
    let depth : suc d ≡ below = omega arith in
    let within : t < length old = omega arith in
    subst (λ n. IsSearching w roots d level after (SeenTo w done source n) new) end
    (subst (λ ns. IsSearching w roots d level ns (SeenTo w done source (suc t)) new) (sym pushed)
    (subst (λ es. IsSearching w roots d level (before ++ cond (is_listed old t) [] (t ∷ [])) (SeenTo w done source (suc t)) es) (sym is)
    (subst (λ n. IsSearching w roots d level (before ++ cond (is_listed old t) [] (t ∷ [])) (SeenTo w done source (suc t)) (slice_set old t (Some (noted (entry_at old t) n source)))) depth
    (target_noted w roots d level done source from t old before in_level next within (so_far roots level done in_level s)))))
