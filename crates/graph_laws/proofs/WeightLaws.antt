-- How much is doomed, and how much less of it each step leaves.
use Rattle.std.proofs.Common.{◌≡◌, ℕ, zero, suc, ◌+◌, ◌<◌, Bool, true, false, not, cond, ◌&&◌, ◌||◌, ◌==◌, List, [], ◌∷◌, length, refl, sym, ◌∙◌, ap, subst, arith, inl, inr, Option, Some, None}
use Rattle.graph_laws.proofs.Common.{eq-eqb, and_parts, and_from, both_ways, cases_eq, ne_eqb, not-true, and_right, or_left, or_right, length-set, ext_get_or, length-map-range_with_len, get_or-map-range_with_len, filter_agree, slice_index_or, filter, map, count_by, range_with_len, is_pair, holds, World, contents, is_live, all_blocks, has_number, free_count, are_apart, hangs_on, doomed_rounds, doomed, settle, without_pointer, holds-filter, live_below, kept_count, doomed_pairs, IsLaidOut, with_free, without_pointers, stepped, AreTargets, IsStep, IsLost, filter_held, count-without_pair, doomed_is_live}
use Rattle.std.proofs.lemmas.List.Filters.{length-filter_both}
use Rattle.std.proofs.lemmas.List.Sums.{sum_by-set, sum_by-cons}
use Rattle.std.specs.Prelude.{is_none, is_some}
use Rattle.graph_laws.proofs.CountLaws.{filter_self, count_but_number}
use Rattle.graph_laws.proofs.SettleLaws.{contents-settle, length-settle, doomed_freed, freed_is_not_doomed, lost_is_doomed}
use Rattle.graph_laws.proofs.StepLaws.{doomed-without_pointer, doomed-without_pointers, laid_out-without_pointer, laid_out-without_pointers, blocks-without_pointers}
use Rattle.tsd_model.proofs.ValueLaws.{and_true}

-- the doomed blocks are those of the disk that are doomed, ascending
pub doomed_listed : (w : World) → doomed w ≡ filter (has_number (doomed w)) (all_blocks w)
doomed_listed w = each w.geometry.blocks
  where
    none : (xs : List ℕ) → [] ≡ filter (has_number []) xs
    none [] = refl
    none (x ∷ xs) = none xs

    each : (n : ℕ) → doomed_rounds w n ≡ filter (has_number (doomed_rounds w n)) (all_blocks w)
    each zero = none (all_blocks w)
    each (suc n) = sym (filter_self (hangs_on w (doomed_rounds w n)) (all_blocks w))

-- worlds of as many blocks with the same doomed blocks have one list of them
pub doomed_same : (v w : World) → length v.blocks ≡ length w.blocks → ((b : ℕ) → has_number (doomed v) b ≡ has_number (doomed w) b) → doomed v ≡ doomed w
doomed_same v w long same = doomed_listed v ∙ (filter_agree (has_number (doomed v)) (has_number (doomed w)) same (all_blocks v)
    ∙ (ap (λ n. filter (has_number (doomed w)) (range_with_len 0 n)) long ∙ sym (doomed_listed w)))

-- ---- one pointer of a doomed block less

module _ (r : World) (out : IsLaidOut r) (a b : ℕ) (is : has_number (doomed r) a ≡ true) where
  pub doomed_pairs-without_pointer : holds r.pairs a b ≡ true → length (doomed_pairs r) ≡ suc (length (doomed_pairs (without_pointer r a b)))
  doomed_pairs-without_pointer held = count-without_pair (λ e. has_number (doomed r) e.0) r.pairs a b out.rising held
      ∙ (ap (λ t. cond t 1 0 + length (filter (λ e. has_number (doomed r) e.0) (without_pointer r a b).pairs)) is
      ∙ ap (λ es. 1 + length es) (filter_agree (λ e. has_number (doomed r) e.0) (λ e. has_number (doomed (without_pointer r a b)) e.0) (λ e. sym (doomed-without_pointer r out a b is e.0)) (without_pointer r a b).pairs)
      ∙ one (length (doomed_pairs (without_pointer r a b))))
    where
      one : (n : ℕ) → 1 + n ≡ suc n
      one n = omega arith

  -- the counts of pairs from blocks that aren't doomed stay
  pub kept-without_pointer : holds r.pairs a b ≡ true → (c : ℕ) → kept_count (without_pointer r a b) c ≡ kept_count r c
  kept-without_pointer held c =
      ap length (filter_agree (λ e. (e.1 == c) && not (has_number (doomed (without_pointer r a b)) e.0)) (λ e. (e.1 == c) && not (has_number (doomed r) e.0)) (λ e. ap (λ t. (e.1 == c) && not t) (doomed-without_pointer r out a b is e.0)) (without_pointer r a b).pairs)
      ∙ sym (count-without_pair (λ e. (e.1 == c) && not (has_number (doomed r) e.0)) r.pairs a b out.rising held
      ∙ (ap (λ t. cond ((b == c) && not t) 1 0 + length (filter (λ e. (e.1 == c) && not (has_number (doomed r) e.0)) (without_pointer r a b).pairs)) is
      ∙ none (b == c) (length (filter (λ e. (e.1 == c) && not (has_number (doomed r) e.0)) (without_pointer r a b).pairs))))
    where
      none : (t : Bool) (n : ℕ) → cond (t && false) 1 0 + n ≡ n
      none true n = omega arith
      none false n = omega arith

-- ---- a block less

module _ (r : World) (laid : IsLaidOut r) (b : ℕ) (is : has_number (doomed r) b ≡ true) (out : (c : ℕ) → holds r.pairs b c ≡ false) where
  fewer : (c : ℕ) → has_number (doomed (with_free r b)) c ≡ (has_number (doomed r) c && not (c == b))
  fewer c = elim (cases_eq c b) [
    | inl same ↦ ap (λ k. has_number (doomed (with_free r b)) k) same ∙ (freed_is_not_doomed r laid b is out ∙ sym (no (has_number (doomed r) c) (c == b) (eq-eqb c b same)))
    | inr other ↦ doomed_freed r laid b is out c other ∙ sym (all (has_number (doomed r) c) (c == b) (ne_eqb c b other))
  ]
    where
      no : (s t : Bool) → t ≡ true → (s && not t) ≡ false
      no true t e = ap not e
      no false t e = refl

      all : (s t : Bool) → t ≡ false → (s && not t) ≡ s
      all true t e = ap not e
      all false t e = refl

  pub doomed_less : length (doomed r) ≡ suc (length (doomed (with_free r b)))
  doomed_less =
      let within : b < length r.blocks = live_below r.blocks b (doomed_is_live r laid.each_block b is) in
      ap length (doomed_listed r)
      ∙ (count_but_number (has_number (doomed r)) 0 (length r.blocks) b (omega arith) (omega arith) is
      ∙ ap suc (ap length (sym (doomed_listed (with_free r b)
      ∙ (ap (λ n. filter (has_number (doomed (with_free r b))) (range_with_len 0 n)) (length-set r.blocks b None)
      ∙ filter_agree (has_number (doomed (with_free r b))) (λ c. has_number (doomed r) c && not (c == b)) fewer (all_blocks r))))))

  -- as on the pairs that are held
  same_from : (a c : ℕ) → holds r.pairs a c ≡ true → has_number (doomed (with_free r b)) a ≡ has_number (doomed r) a
  same_from a c held = doomed_freed r laid b is out a (λ same. both_ways (holds r.pairs b c) (out c) (subst (λ k. holds r.pairs k c ≡ true) same held))

  pub doomed_pairs-with_free : doomed_pairs (with_free r b) ≡ doomed_pairs r
  doomed_pairs-with_free = filter_held (λ e. has_number (doomed (with_free r b)) e.0) (λ e. has_number (doomed r) e.0) r.pairs same_from

  pub kept-with_free : (c : ℕ) → kept_count (with_free r b) c ≡ kept_count r c
  kept-with_free c = ap length (filter_held (λ e. (e.1 == c) && not (has_number (doomed (with_free r b)) e.0)) (λ e. (e.1 == c) && not (has_number (doomed r) e.0)) r.pairs
      (λ x y held. ap (λ t. (y == c) && not t) (same_from x y held)))

pub free_count-with_free : (w : World) (b : ℕ) → is_live w b ≡ true → free_count (with_free w b) ≡ suc (free_count w)
free_count-with_free w b live =
    let change = sum_by-set (λ o. cond (is_none o) 1 0) w.blocks b None None (live_below w.blocks b live) in
    let was : ◌≡◌ {A = ℕ} (cond (is_none (contents w b)) 1 0) 0 = some_is (contents w b) live in omega (arith, change, was)
  where
    some_is : (o : Option (List ℕ)) → is_some o ≡ true → ◌≡◌ {A = ℕ} (cond (is_none o) 1 0) 0
    some_is None e = absurd (cc)
    some_is (Some x) e = refl

-- ---- a step

next_targets : (r : World) (a b : ℕ) (bs : List ℕ) → AreTargets r a (b ∷ bs) → (holds r.pairs a b ≡ true) × AreTargets (without_pointer r a b) a bs
next_targets r a b bs targets =
    let apart = and_parts (not (has_number bs b)) (are_apart bs) targets.once in (
      targets.held b (or_left (b == b) (has_number bs b) (eq-eqb b b refl)),
      record {
        held = λ c in_. holds-filter (λ e. not (is_pair a b e)) r.pairs a c ∙ and_from (holds r.pairs a c) (not (is_pair a b (a, c)))
            (targets.held c (or_right (b == c) (has_number bs c) in_))
            (ap not (and_right (a == a) (c == b) (ne_eqb c b (λ same. both_ways (has_number bs b) (not-true (has_number bs b) apart.0) (subst (λ k. has_number bs k ≡ true) same in_)))));
        once = apart.1;
      },
    )

pub doomed_pairs-without_pointers : (a : ℕ) (bs : List ℕ) (r : World) → IsLaidOut r → has_number (doomed r) a ≡ true → AreTargets r a bs
    → length (doomed_pairs r) ≡ length bs + length (doomed_pairs (without_pointers r a bs))
doomed_pairs-without_pointers a [] r out is targets = omega arith
doomed_pairs-without_pointers a (b ∷ bs) r out is targets =
    let next = next_targets r a b bs targets in
    let rest = doomed_pairs-without_pointers a bs (without_pointer r a b) (laid_out-without_pointer r a b out) (doomed-without_pointer r out a b is a ∙ is) next.1 in
    let here = doomed_pairs-without_pointer r out a b is next.0 in omega (arith, rest, here)

pub kept-without_pointers : (a : ℕ) (bs : List ℕ) (r : World) → IsLaidOut r → has_number (doomed r) a ≡ true → AreTargets r a bs
    → (c : ℕ) → kept_count (without_pointers r a bs) c ≡ kept_count r c
kept-without_pointers a [] r out is targets c = refl
kept-without_pointers a (b ∷ bs) r out is targets c =
    let next = next_targets r a b bs targets in
    kept-without_pointers a bs (without_pointer r a b) (laid_out-without_pointer r a b out) (doomed-without_pointer r out a b is a ∙ is) next.1 c
    ∙ kept-without_pointer r out a b is next.0 c

pub doomed_list-without_pointers : (a : ℕ) (bs : List ℕ) (r : World) → IsLaidOut r → has_number (doomed r) a ≡ true → doomed (without_pointers r a bs) ≡ doomed r
doomed_list-without_pointers a bs r out is = doomed_same (without_pointers r a bs) r (ap length (blocks-without_pointers a bs r)) (doomed-without_pointers a bs r out is)

-- what a step leaves, where the block is freed only once it has no pairs
module _ (r : World) (a : ℕ) (bs : List ℕ) (out : IsLaidOut r) (lost : IsLost r a) where
  is : has_number (doomed r) a ≡ true
  is = lost_is_doomed r out.each_block a lost

  still : has_number (doomed (without_pointers r a bs)) a ≡ true
  still = doomed-without_pointers a bs r out is a ∙ is

  laid_less : IsLaidOut (without_pointers r a bs)
  laid_less = laid_out-without_pointers a bs r out

  -- a step makes the doomed blocks and the pairs from them fewer by just what it takes
  pub step_lowers : (freed : Bool) → IsStep r a bs freed
      → (length (doomed r) ≡ cond freed 1 0 + length (doomed (stepped r a bs freed)))
      × (length (doomed_pairs r) ≡ length bs + length (doomed_pairs (stepped r a bs freed)))
  step_lowers true step =
      let none_out = (step.last refl).out in (
        ap length (sym (doomed_list-without_pointers a bs r out is)) ∙ (doomed_less (without_pointers r a bs) laid_less a still none_out ∙ one (length (doomed (stepped r a bs true)))),
        doomed_pairs-without_pointers a bs r out is step.taken
            ∙ ap (λ es. length bs + length es) (sym (doomed_pairs-with_free (without_pointers r a bs) laid_less a still none_out)),
      )
    where
      one : (n : ℕ) → suc n ≡ 1 + n
      one n = omega arith
  step_lowers false step = (
    ap length (sym (doomed_list-without_pointers a bs r out is)) ∙ none (length (doomed (without_pointers r a bs))),
    doomed_pairs-without_pointers a bs r out is step.taken,
  )
    where
      none : (n : ℕ) → n ≡ 0 + n
      none n = omega arith

  -- exactly the blocks that were doomed are, but for a freed one
  pub doomed_after_step : (freed : Bool) → IsStep r a bs freed → (c : ℕ) → has_number (doomed (stepped r a bs freed)) c ≡ (has_number (doomed r) c && not (freed && (c == a)))
  doomed_after_step true step c = fewer (without_pointers r a bs) laid_less a still (step.last refl).out c ∙ ap (λ t. t && not (c == a)) (doomed-without_pointers a bs r out is c)
  doomed_after_step false step c = doomed-without_pointers a bs r out is c ∙ sym (and_true (has_number (doomed r) c))

  -- and keeps each count of pairs from blocks that aren't doomed
  pub step_keeps_counts : (freed : Bool) → IsStep r a bs freed → (c : ℕ) → kept_count (stepped r a bs freed) c ≡ kept_count r c
  step_keeps_counts true step c =
      kept-with_free (without_pointers r a bs) laid_less a still (step.last refl).out c
      ∙ kept-without_pointers a bs r out is step.taken c
  step_keeps_counts false step c = kept-without_pointers a bs r out is step.taken c

-- ---- sizes of the settled world

-- as many pairs as there are but from doomed blocks
pub length-settle_pairs : (w : World) → length (settle w).pairs + length (doomed_pairs w) ≡ length w.pairs
length-settle_pairs w = length-filter_both (λ e. not (has_number (doomed w) e.0)) (λ e. has_number (doomed w) e.0) (λ e. not_not (has_number (doomed w) e.0)) w.pairs
  where
    not_not : (t : Bool) → t ≡ not (not t)
    not_not true = refl
    not_not false = refl

free_listed : (w : World) → free_count w ≡ length (filter (λ b. is_none (contents w b)) (all_blocks w))
free_listed w = ap (count_by is_none) all ∙ each (all_blocks w)
  where
    all : w.blocks ≡ map (contents w) (all_blocks w)
    all = ext_get_or None w.blocks (map (contents w) (all_blocks w)) (sym (length-map-range_with_len (contents w) 0 (length w.blocks)))
        (λ b h. sym (get_or-map-range_with_len (contents w) 0 (length w.blocks) b b None h (omega arith)))

    each : (xs : List ℕ) → count_by is_none (map (contents w) xs) ≡ length (filter (λ b. is_none (contents w b)) xs)
    each [] = refl
    each (x ∷ xs) = sum_by-cons (λ o. cond (is_none o) 1 0) (contents w x) (map (contents w) xs) ∙ (ap (λ n. cond (is_none (contents w x)) 1 0 + n) (each xs) ∙ more (is_none (contents w x)) (filter (λ b. is_none (contents w b)) xs))
      where
        more : (t : Bool) (ys : List ℕ) → cond t 1 0 + length ys ≡ length (cond t (x ∷ ys) ys)
        more true ys = omega arith
        more false ys = omega arith

-- as many free blocks as there are, and the doomed ones
pub free_count-settle : (w : World) → length w.blocks ≡ w.geometry.blocks → free_count (settle w) ≡ free_count w + length (doomed w)
free_count-settle w long =
    free_listed (settle w)
    ∙ (ap (λ n. length (filter (λ b. is_none (contents (settle w) b)) (range_with_len 0 n))) (length-settle w)
    ∙ (ap length (filter_agree (λ b. is_none (contents (settle w) b)) (λ b. is_none (contents w b) || has_number (doomed w) b) freed (all_blocks w))
    ∙ (apart (all_blocks w) ∙ (ap (λ n. n + length (filter (has_number (doomed w)) (all_blocks w))) (sym (free_listed w)) ∙ ap (λ xs. free_count w + length xs) (sym (doomed_listed w))))))
  where
    freed : (b : ℕ) → is_none (contents (settle w) b) ≡ (is_none (contents w b) || has_number (doomed w) b)
    freed b = ap is_none (contents-settle w b) ∙ each (has_number (doomed w) b) (contents w b)
      where
        each : (d : Bool) (o : Option (List ℕ)) → is_none (cond (not d) o None) ≡ (is_none o || d)
        each true None = refl
        each true (Some x) = refl
        each false None = refl
        each false (Some x) = refl

    one : (f d : Bool) (x : ℕ) (xs ys zs : List ℕ) → (d ≡ true → f ≡ false) → length xs ≡ length ys + length zs
        → length (cond (f || d) (x ∷ xs) xs) ≡ length (cond f (x ∷ ys) ys) + length (cond d (x ∷ zs) zs)
    one true true x xs ys zs h e = let never = h refl in absurd (cc)
    one true false x xs ys zs h e = omega (arith, e)
    one false true x xs ys zs h e = omega (arith, e)
    one false false x xs ys zs h e = e

    live_some : (o : Option (List ℕ)) → is_some o ≡ true → is_none o ≡ false
    live_some None e = absurd (cc)
    live_some (Some x) e = refl

    apart : (xs : List ℕ) → length (filter (λ b. is_none (contents w b) || has_number (doomed w) b) xs) ≡ length (filter (λ b. is_none (contents w b)) xs) + length (filter (has_number (doomed w)) xs)
    apart [] = refl
    apart (x ∷ xs) = one (is_none (contents w x)) (has_number (doomed w) x) x (filter (λ b. is_none (contents w b) || has_number (doomed w) b) xs) (filter (λ b. is_none (contents w b)) xs) (filter (has_number (doomed w)) xs)
        (λ is. live_some (contents w x) (doomed_is_live w long x is)) (apart xs)

-- ---- what a step takes away

pub pairs-without_pointers : (a : ℕ) (bs : List ℕ) (r : World) → IsLaidOut r → AreTargets r a bs → length r.pairs ≡ length bs + length (without_pointers r a bs).pairs
pairs-without_pointers a [] r out targets = omega arith
pairs-without_pointers a (b ∷ bs) r out targets =
    let next = next_targets r a b bs targets in
    let rest = pairs-without_pointers a bs (without_pointer r a b) (laid_out-without_pointer r a b out) next.1 in
    let here : length r.pairs ≡ 1 + length (without_pointer r a b).pairs =
    ap length (sym (filter_all r.pairs)) ∙ (count-without_pair (λ e. true) r.pairs a b out.rising next.0 ∙ ap (λ es. 1 + length es) (filter_all (without_pointer r a b).pairs)) in
    omega (arith, rest, here)
  where
    filter_all : (es : List (ℕ × ℕ)) → filter (λ e. true) es ≡ es
    filter_all [] = refl
    filter_all (e ∷ es) = ap (λ fs. e ∷ fs) (filter_all es)

pub step_takes : (r : World) (a : ℕ) (bs : List ℕ) (freed : Bool) → IsLaidOut r → is_live r a ≡ true → AreTargets r a bs
    → (length r.pairs ≡ length bs + length (stepped r a bs freed).pairs) × (free_count (stepped r a bs freed) ≡ cond freed 1 0 + free_count r)
step_takes r a bs true out live targets = (
  pairs-without_pointers a bs r out targets,
  free_count-with_free (without_pointers r a bs) a (ap (λ blocks. is_some (slice_index_or blocks a None)) (blocks-without_pointers a bs r) ∙ live) ∙ (ap (λ blocks. suc (count_by is_none blocks)) (blocks-without_pointers a bs r) ∙ one (free_count r)),
)
  where
    one : (n : ℕ) → suc n ≡ 1 + n
    one n = omega arith
step_takes r a bs false out live targets = (pairs-without_pointers a bs r out targets, ap (count_by is_none) (blocks-without_pointers a bs r) ∙ none (free_count r))
  where
    none : (n : ℕ) → n ≡ 0 + n
    none n = omega arith
