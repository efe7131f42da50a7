-- The step of a sweep at a block.
use Rattle.std.proofs.Common.{◌≡◌, ℕ, ◌+◌, ◌<◌, ◌≤◌, Bool, true, false, not, cond, ◌&&◌, ◌==◌, nat_le, List, [], ◌∷◌, length, refl, sym, ◌∙◌, ap, subst, arith, take, ◌⊎◌, ◌↔◌, inl, inr, Option, Some, None}
use Rattle.std.proofs.lemmas.Bool.{eq-eqb, eqb-true, ne_eqb, and_parts, and_from, both_ways, cases_eq, cases_Bool, false_from_ne_true}
use Rattle.std.proofs.lemmas.Bool.Decides.{nat_tests}
use Rattle.std.proofs.lemmas.List.{length-take, take-take}
use Rattle.std.specs.Prelude.{filter, IfSome}
use Rattle.tsd_model.specs.Pairs.{is_pair, holds, count_to}
use Rattle.tsd_model.specs.Step.{targets_from}
use Rattle.tsd_model.specs.World.{World, is_live, has_number}
use Rattle.tsd_model.specs.Reach.{reach, swept}
use Rattle.tsd_model.proofs.CountLaws.{none_pass, none_passes}
use Rattle.reclaim.specs.declared.out_step.OutStep.{OutStep}
use Rattle.graph_laws.specs.Graph.{HasGraphOf}
use Rattle.graph_laws.specs.RawGraph.{IsRawGraph}
use Rattle.graph_laws.specs.Steps.{without_pointers, AreTargets, IsAlone}
use Rattle.graph_laws.proofs.CountLaws.{count_but_pair, led_or_alone}
use Rattle.graph_laws.proofs.LostLaws.{alone_count, count_alone}
use Rattle.graph_laws.proofs.SameGraphLaws.{raw_by_graph, reach_by_graph, step_by_graph}
use Rattle.graph_laws.proofs.StepLaws.{holds-without_pointers, nothing_out, raw-stepped}
use Rattle.graph_laws.proofs.SweepLaws.{target_reached, unreached_apart, sweeps-stepped, swept_whole}
use Rattle.graph_laws.proofs.WeightLaws.{step_takes}
use Rattle.reclaim.specs.Stepping.{TakesAll}
use Rattle.reclaim.proofs.StepLaws.{few_of}
use Rattle.reclaim.proofs.TargetLaws.{first_targets_taken, takes_all, takes_all_only}
use Rattle.cycle_sweep.specs.Sweep.{MaySweep, AreSweptBy, IsStuck, is_last}
use Rattle.tsd_model.proofs.ValueLaws.{and_false}

-- but for its own pair no pair leads to the block exactly where the count says so
module _ (w : World) (b : ℕ) (raw : IsRawGraph w) where
  own_count : holds w.pairs b b ≡ true → count_to w.pairs b ≡ 1 + length (filter (λ e. (e.1 == b) && not (is_pair b b e)) w.pairs)
  own_count held = count_but_pair (λ e. e.1 == b) w.pairs b b raw.laid_out.rising held ∙ ap (λ s. cond s 1 0 + length (filter (λ e. (e.1 == b) && not (is_pair b b e)) w.pairs)) (eq-eqb b b refl)

  pub last_alone : (own : Bool) → (own ≡ true → holds w.pairs b b ≡ true) → is_last (count_to w.pairs b) own ≡ true → (a : ℕ) → (own ≡ true → a ≡ b → ⊥) → holds w.pairs a b ≡ false
  last_alone true held last a other = false_from_ne_true (holds w.pairs a b) (λ is.
      let none : length (filter (λ e. (e.1 == b) && not (is_pair b b e)) w.pairs) ≡ 0 = omega (arith, own_count (held refl), eqb-true (count_to w.pairs b) 1 last) in
      both_ways ((b == b) && not (is_pair b b (a, b))) (none_passes (λ e. (e.1 == b) && not (is_pair b b e)) w.pairs none a b is)
      (and_from (b == b) (not (is_pair b b (a, b))) (eq-eqb b b refl) (ap not (ap (λ s. s && (b == b)) (ne_eqb a b (other refl))))))
  last_alone false held last a other = count_alone w.pairs b (eqb-true (count_to w.pairs b) 0 last) a

  pub alone_last : (own : Bool) → (own ≡ true → holds w.pairs b b ≡ true) → ((a : ℕ) → (own ≡ true → a ≡ b → ⊥) → holds w.pairs a b ≡ false) → is_last (count_to w.pairs b) own ≡ true
  alone_last true held alone = eq-eqb (count_to w.pairs b) 1 (own_count (held refl) ∙ ap (λ n. 1 + n) (none_pass (λ e. (e.1 == b) && not (is_pair b b e)) w.pairs (λ a c is. elim (cases_eq c b) [
    | inr other ↦ ap (λ s. s && not (is_pair b b (a, c))) (ne_eqb c b other)
    | inl same ↦ elim (cases_eq a b) [
      | inl self ↦ ap (λ s. (c == b) && not s) (and_from (a == b) (c == b) (eq-eqb a b self) (eq-eqb c b same)) ∙ and_false (c == b)
      | inr apart ↦ absurd (both_ways (holds w.pairs a b) (alone a (λ _. apart)) (subst (λ k. holds w.pairs a k ≡ true) same is))
    ]
  ])))
  alone_last false held alone = eq-eqb (count_to w.pairs b) 0 (alone_count w.pairs b (λ a. alone a (λ e. absurd (no e))))
    where
      no : false ≡ true → ⊥
      no e = cc

-- some pairs are taken from the block, `all` where they are all that lead from it
module _ (w : World) (b : ℕ) (raw : IsRawGraph w) (ts : List ℕ) (all : Bool) (taken : AreTargets w b ts)
    (takes : all ≡ true → (c : ℕ) → holds w.pairs b c ≡ true → has_number ts c ≡ true) (only : ((c : ℕ) → holds w.pairs b c ≡ true → has_number ts c ≡ true) → all ≡ true) where
  own_held : has_number ts b ≡ true → holds w.pairs b b ≡ true
  own_held = taken.held b

  next : (a c : ℕ) → holds (without_pointers w b ts).pairs a c ≡ (holds w.pairs a c && not ((a == b) && has_number ts c))
  next a c = holds-without_pointers b ts w a c

  pub freed_alone : (all && is_last (count_to w.pairs b) (has_number ts b)) ≡ true → IsAlone (without_pointers w b ts) b
  freed_alone freed =
      let parts = and_parts all (is_last (count_to w.pairs b) (has_number ts b)) freed in
      record {
        out = nothing_out w b ts (takes parts.0);
        into = λ a. next a b ∙ elim (cases_Bool ((a == b) && has_number ts b)) [
          | inl gone ↦ ap (λ s. holds w.pairs a b && not s) gone ∙ and_false (holds w.pairs a b)
          | inr left ↦ ap (λ h. h && not ((a == b) && has_number ts b)) (last_alone w b raw (has_number ts b) own_held parts.1 a
              (λ own same. both_ways ((a == b) && has_number ts b) left (and_from (a == b) (has_number ts b) (eq-eqb a b same) own)))
        ];
      }

  pub alone_freed : IsAlone (without_pointers w b ts) b → (all && is_last (count_to w.pairs b) (has_number ts b)) ≡ true
  alone_freed alone = and_from all (is_last (count_to w.pairs b) (has_number ts b))
      (only (λ c held. elim (cases_Bool (has_number ts c)) [
        | inl in_ ↦ in_
        | inr out ↦ absurd (both_ways (holds (without_pointers w b ts).pairs b c) (alone.out c) (next b c ∙ and_from (holds w.pairs b c) (not ((b == b) && has_number ts c)) held (ap (λ s. not ((b == b) && s)) out ∙ ap not (and_false (b == b)))))
      ]))
      (alone_last w b raw (has_number ts b) own_held (λ a other. false_from_ne_true (holds w.pairs a b) (λ held.
      both_ways (holds (without_pointers w b ts).pairs a b) (alone.into a) (next a b ∙ and_from (holds w.pairs a b) (not ((a == b) && has_number ts b)) held
      (ap not (false_from_ne_true ((a == b) && has_number ts b) (λ h. let parts = and_parts (a == b) (has_number ts b) h in other parts.1 (eqb-true a b parts.0))))))))

-- the step with the first 16 of these targets, of which there are at most 17, and so many pairs to the block
module _ (w : World) (b : ℕ) (all ts : List ℕ) (count : ℕ) (raw : IsRawGraph w) (is : all ≡ take 17 (targets_from w.pairs b 0)) (first : ts ≡ take 16 all) (counted : count ≡ count_to w.pairs b) where
  here : ts ≡ take 16 (targets_from w.pairs b 0)
  here = first ∙ (ap (λ (xs : List ℕ). take 16 xs) is ∙ take-take 16 17 (targets_from w.pairs b 0) (omega arith))

  taken : AreTargets w b ts
  taken = subst (AreTargets w b) (sym here) (first_targets_taken w b raw.laid_out.rising)

  takes : nat_le (length all) 16 ≡ true → (c : ℕ) → holds w.pairs b c ≡ true → has_number ts c ≡ true
  takes few c held = ap (λ xs. has_number xs c) here ∙ takes_all w b raw.laid_out.rising (sym (few_of (targets_from w.pairs b 0)) ∙ (ap (λ (xs : List ℕ). nat_le (length xs) 16) (sym is) ∙ few)) c held

  only : ((c : ℕ) → holds w.pairs b c ≡ true → has_number ts c ≡ true) → nat_le (length all) 16 ≡ true
  only each = ap (λ (xs : List ℕ). nat_le (length xs) 16) is ∙ (few_of (targets_from w.pairs b 0) ∙ takes_all_only w b raw.laid_out.rising (λ c held. ap (λ xs. has_number xs c) (sym here) ∙ each c held))

  frees : (freed : Bool) → freed ≡ (nat_le (length all) 16 && is_last count (has_number ts b)) → freed ≡ (nat_le (length all) 16 && is_last (count_to w.pairs b) (has_number ts b))
  frees freed fit = fit ∙ ap (λ n. nat_le (length all) 16 && is_last n (has_number ts b)) counted

  pub frees_alone : (freed : Bool) → freed ≡ (nat_le (length all) 16 && is_last count (has_number ts b)) → (freed ≡ true) ↔ IsAlone (without_pointers w b ts) b
  frees_alone freed fit = (
    λ f. freed_alone w b raw ts (nat_le (length all) 16) taken takes only (sym (frees freed fit) ∙ f),
    λ alone. frees freed fit ∙ alone_freed w b raw ts (nat_le (length all) 16) taken takes only alone,
  )

  pub may_sweep : (freed : Bool) → freed ≡ (nat_le (length all) 16 && is_last count (has_number ts b)) → is_live w b ≡ true → has_number (reach w) b ≡ false
      → (freed ≡ true) ⊎ (1 ≤ length ts) → MaySweep w (record { block = b; targets = ts; freed = freed })
  may_sweep freed fit live unreached some = record {
    live = live;
    unreached = unreached;
    step = record { taken = taken; last = (frees_alone freed fit).0 };
    few = omega (arith, ap length first, length-take 16 all);
    some = some;
  }

  -- it takes 16 targets, or all
  pub takes_wide : (freed : Bool) → TakesAll w (record { block = b; targets = ts; freed = freed }) ⊎ (length ts ≡ 16)
  takes_wide freed = elim (cases_Bool (nat_le (length all) 16)) [
    | inl few ↦ inl (λ c held. takes few c held)
    | inr many ↦ inr (let more : 16 < length all = above (length all) many in omega (arith, ap length first, length-take 16 all, more))
  ]
    where
      above : (n : ℕ) → nat_le n 16 ≡ false → 16 < n
      above n e = grind (arith, nat_tests)

  -- no step can be taken at the block
  pub is_stuck : ts ≡ [] → (nat_le (length all) 16 && is_last count (has_number ts b)) ≡ false → IsStuck w b
  is_stuck none never =
      let empty : all ≡ [] = nothing all (sym first ∙ none) in
      let few : nat_le (length all) 16 ≡ true = ap (λ (xs : List ℕ). nat_le (length xs) 16) empty in
      record {
        out = λ c. false_from_ne_true (holds w.pairs b c) (λ held. in_nothing (ap (λ xs. has_number xs c) (sym none) ∙ takes few c held));
        led = elim (led_or_alone w.pairs b) [
          | inl found ↦ found
          | inr alone ↦ absurd (both_ways (nat_le (length all) 16 && is_last count (has_number ts b)) never
              (ap (λ t. t && is_last count (has_number ts b)) few ∙ (ap (λ xs. is_last count (has_number xs b)) none ∙ eq-eqb count 0 (counted ∙ alone_count w.pairs b alone))))
        ];
      }
    where
      nothing : (xs : List ℕ) → take 16 xs ≡ [] → xs ≡ []
      nothing [] e = refl
      nothing (x ∷ xs) e = absurd (cc)

      in_nothing : false ≡ true → ⊥
      in_nothing e = cc

-- where each unmarked block is stuck, there is none
pub all_stuck : (w : World) → IsRawGraph w → ((b : ℕ) → is_live w b ≡ true → has_number (reach w) b ≡ false → IsStuck w b) → (b : ℕ) → is_live w b ≡ true → has_number (reach w) b ≡ true
all_stuck w raw stuck b live = elim (cases_Bool (has_number (reach w) b)) [
  | inl is ↦ is
  | inr not_ ↦
      let here = stuck b live not_ in
      let a = here.led.0 in
      elim (cases_Bool (has_number (reach w) a)) [
        | inl from ↦ absurd (both_ways (has_number (reach w) b) not_ (target_reached w raw a b here.led.1 from))
        | inr far ↦ absurd (both_ways (holds w.pairs a b) ((stuck a (raw.sources a b here.led.1) far).out b) here.led.1)
      ]
]

-- a step that isn't idle takes a pair or frees the block
pub moves : (idle freed : Bool) (ts : List ℕ) → (idle ≡ true) ↔ ((freed ≡ false) × (ts ≡ [])) → idle ≡ false → (freed ≡ true) ⊎ (1 ≤ length ts)
moves idle true ts h e = inl refl
moves idle false [] h e = absurd (both_ways idle e (h.1 (refl, refl)))
moves idle false (x ∷ xs) h e = inr (omega arith)

-- ---- what a step keeps, and what is left in the end

-- in each world of this graph
pub step_sweeps : (w : World) (s : OutStep) → IsRawGraph w → MaySweep w s → AreSweptBy w s
step_sweeps w s raw may r same =
    let graph = raw_by_graph w r same raw in
    let step = step_by_graph w r same s.block s.targets s.freed may.step in
    let unreached : has_number (reach r) s.block ≡ false = ap (λ xs. has_number xs s.block) (sym (reach_by_graph w r same)) ∙ may.unreached in
    let apart = unreached_apart r graph s.block unreached in
    let live : is_live r s.block ≡ true = sym (same.live s.block) ∙ may.live in
    let takes = step_takes r s.block s.targets s.freed graph.laid_out live step.taken in record {
      raw = raw-stepped r s.block s.targets s.freed apart step;
      same = sweeps-stepped r s.block s.targets s.freed graph unreached step;
      pairs = takes.0;
      free = takes.1;
    }

pub if_step_sweeps : (w : World) (o : Option OutStep) → IsRawGraph w → IfSome o (MaySweep w) → IfSome o (AreSweptBy w)
if_step_sweeps w None raw may = tt
if_step_sweeps w (Some s) raw may = step_sweeps w s raw may

-- where each live block is reached, each world of this graph is swept
pub all_swept : (w : World) → IsRawGraph w → ((b : ℕ) → is_live w b ≡ true → has_number (reach w) b ≡ true) → (r : World) → HasGraphOf w r → swept r ≡ r
all_swept w raw all r same = swept_whole r (raw_by_graph w r same raw)
    (λ b live. ap (λ xs. has_number xs b) (sym (reach_by_graph w r same)) ∙ all b (same.live b ∙ live))
