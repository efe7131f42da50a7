-- What a deletion dooms besides what was doomed.
use Rattle.std.proofs.Common.{◌≡◌, ℕ, ◌+◌, Bool, true, false, not, cond, ◌&&◌, ◌||◌, ◌==◌, List, [], ◌∷◌, length, refl, sym, ◌∙◌, ap, subst, arith}
use Rattle.graph_laws.proofs.Common.{and_parts, false_from_ne_true, both_ways, not-true, eqb-true, filter_agree, filter, range_with_len, is_pair, holds, World, is_live, has_number, doomed, settle, without_pointer, stays, doomed_pairs, IsLaidOut, doomed_is_live}
use Rattle.graph_laws.specs.Changes.{IsDoomedBesides}
use Rattle.graph_laws.proofs.CountLaws.{filter_twice}
use Rattle.graph_laws.proofs.SettleLaws.{live-settle, length-settle, holds-settle}
use Rattle.graph_laws.proofs.CommuteLaws.{doomed-less}
use Rattle.graph_laws.proofs.WeightLaws.{doomed_listed}

-- ---- lists in two parts

-- what passes one of two tests, of which none passes both
count_parts : {X : Type 0} (d p q : X → Bool) → ((x : X) → d x ≡ (p x || q x)) → ((x : X) → q x ≡ true → p x ≡ false) → (xs : List X) → length (filter d xs) ≡ length (filter p xs) + length (filter q xs)
count_parts d p q either apart [] = refl
count_parts {X = X} d p q either apart (x ∷ xs) = let rest = count_parts d p q either apart xs in one (d x) (p x) (q x) (either x) (apart x) (filter d xs) (filter p xs) (filter q xs) rest
  where
    one : (s t u : Bool) → s ≡ (t || u) → (u ≡ true → t ≡ false) → (ls bs cs : List X) → length ls ≡ length bs + length cs → length (cond s (x ∷ ls) ls) ≡ length (cond t (x ∷ bs) bs) + length (cond u (x ∷ cs) cs)
    one s true true e f ls bs cs h = absurd (both_ways true (f refl) refl)
    one s true false e f ls bs cs h = rw e (omega (arith, h))
    one s false true e f ls bs cs h = rw e (omega (arith, h))
    one s false false e f ls bs cs h = rw e h

-- ---- a deletion

module _ (r : World) (a b : ℕ) (out : IsLaidOut r) (held : holds (settle r).pairs a b ≡ true) where
  abbrev keep : (ℕ × ℕ) → Bool
  keep e = not (is_pair a b e)

  abbrev less : World
  less = without_pointer r a b

  -- the settled world without the pair
  abbrev then_less : World
  then_less = without_pointer (settle r) a b

  then_long : length then_less.blocks ≡ then_less.geometry.blocks
  then_long = length-settle r ∙ out.each_block

  -- what is doomed anew was not before
  anew : (c : ℕ) → has_number (doomed then_less) c ≡ true → has_number (doomed r) c ≡ false
  anew c is = not-true (has_number (doomed r) c) (and_parts (stays r c) (is_live r c) (sym (live-settle r c) ∙ doomed_is_live then_less then_long c is)).0

  -- the pair doesn't come from a doomed block
  from : has_number (doomed r) a ≡ false
  from = not-true (has_number (doomed r) a) (and_parts (holds r.pairs a b) (stays r a) (sym (holds-settle r a b) ∙ held)).1

  blocks_drop : length (doomed less) ≡ length (doomed r) + length (doomed then_less)
  blocks_drop =
      let n = ap (λ (xs : List ℕ). length xs) (doomed_listed less) in
      let m = ap (λ (xs : List ℕ). length xs) (doomed_listed r) in
      let k : length (doomed then_less) ≡ length (filter (has_number (doomed then_less)) (range_with_len 0 (length r.blocks))) = ap (λ (xs : List ℕ). length xs) (doomed_listed then_less) ∙ ap (λ i. length (filter (has_number (doomed then_less)) (range_with_len 0 i))) (length-settle r) in
      let parts = count_parts (has_number (doomed less)) (has_number (doomed r)) (has_number (doomed then_less)) (doomed-less r out keep) anew (range_with_len 0 (length r.blocks)) in
      n ∙ (parts ∙ (λ i. sym m i + sym k i))

  pairs_drop : length (doomed_pairs less) ≡ length (doomed_pairs r) + length (doomed_pairs then_less)
  pairs_drop =
      let parts = count_parts (λ (e : ℕ × ℕ). has_number (doomed less) e.0) (λ (e : ℕ × ℕ). has_number (doomed r) e.0) (λ (e : ℕ × ℕ). has_number (doomed then_less) e.0) (λ e. doomed-less r out keep e.0) (λ e. anew e.0) (filter keep r.pairs) in
      parts ∙ (λ i. length (old i) + length (new i))
    where
      -- the pairs from what was doomed are all there still
      old : filter (λ e. has_number (doomed r) e.0) (filter keep r.pairs) ≡ doomed_pairs r
      old = filter_twice (λ e. has_number (doomed r) e.0) keep r.pairs
          ∙ filter_agree (λ e. has_number (doomed r) e.0 && keep e) (λ e. has_number (doomed r) e.0) (λ e. first (has_number (doomed r) e.0) (keep e) (kept e)) r.pairs
        where
          first : (s t : Bool) → (s ≡ true → t ≡ true) → (s && t) ≡ s
          first true t f = f refl
          first false t f = refl

          kept : (e : ℕ × ℕ) → has_number (doomed r) e.0 ≡ true → keep e ≡ true
          kept e is = ap not (false_from_ne_true (is_pair a b e) (λ p. both_ways (has_number (doomed r) a) from (subst (λ k. has_number (doomed r) k ≡ true) (eqb-true e.0 a (and_parts (e.0 == a) (e.1 == b) p).0) is)))

      -- the pairs from what is doomed anew are those of the settled world
      new : filter (λ e. has_number (doomed then_less) e.0) (filter keep r.pairs) ≡ doomed_pairs then_less
      new = filter_twice (λ e. has_number (doomed then_less) e.0) keep r.pairs
          ∙ (filter_agree (λ e. has_number (doomed then_less) e.0 && keep e) (λ e. (has_number (doomed then_less) e.0 && keep e) && stays r e.0)
          (λ e. more (has_number (doomed then_less) e.0) (keep e) (stays r e.0) (λ is. ap not (anew e.0 is))) r.pairs
          ∙ (sym (filter_twice (λ e. has_number (doomed then_less) e.0 && keep e) (λ e. stays r e.0) r.pairs)
          ∙ sym (filter_twice (λ e. has_number (doomed then_less) e.0) keep (settle r).pairs)))
        where
          more : (s t u : Bool) → (s ≡ true → u ≡ true) → (s && t) ≡ ((s && t) && u)
          more true true u f = sym (f refl)
          more true false u f = refl
          more false t u f = refl

  pub delete_dooms : IsDoomedBesides r a b
  delete_dooms = record { either = doomed-less r out keep; blocks = blocks_drop; pairs = pairs_drop }
