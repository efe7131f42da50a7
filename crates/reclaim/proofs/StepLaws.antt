-- The step at a block that waits.
use Rattle.std.proofs.Common.{◌≡◌, ℕ, ◌+◌, ◌<◌, min, Bool, true, false, cond, ◌==◌, nat_le, Option, Some, None, List, [], length, refl, sym, ◌∙◌, ap, arith, take, ◌⊎◌, ◌↔◌, inl, inr}
use Rattle.reclaim.proofs.Common.{eq-eqb, or_right, cases_Bool, cases_lt, le-leb, lt-leb, nat_tests, length-take, take-take, IsTrue, IfSome, IsNone, World, has_number, doomed, targets_from, OutStep, doomed_pairs, IsLaidOut, IsLost, lost_by_graph, step_by_graph, laid_out_by_graph, none_lost, lost_none, settle-stepped, raw-stepped, step_lowers, HeldTargets, IsPopped, MayStep, TakesAll, AreKeptBy, after_step, HoldsLost}
use Rattle.reclaim.proofs.HeldLaws.{has-push}
use Rattle.reclaim.proofs.TargetLaws.{takes_all, takes_all_only, first_targets_step, first_targets_some}

-- where no block waits, nothing is doomed
pub empty_none : (w : World) (h : HeldTargets) → HoldsLost w h → h.blocks ≡ [] → doomed w ≡ []
empty_none w h holds none = none_lost w (λ b lost. nothing (ap (λ xs. has_number xs b) (sym none) ∙ (holds b).1 lost))
  where
    nothing : false ≡ true → ⊥
    nothing e = cc

-- the block that was popped is lost
pub popped_lost : (w : World) (old new : HeldTargets) (b : ℕ) → HoldsLost w old → IsPopped old new b → IsLost w b
popped_lost w old new b holds pop = (holds b).0 (ap (λ xs. has_number xs b) pop.last ∙ (has-push new.blocks b b ∙ or_right (has_number new.blocks b) (b == b) (eq-eqb b b refl)))

pub some_doomed : (w : World) (old new : HeldTargets) (b : ℕ) → IsLaidOut w → HoldsLost w old → IsPopped old new b → doomed w ≡ [] → ⊥
some_doomed w old new b laid_out holds pop none = lost_none w laid_out.each_block none b (popped_lost w old new b holds pop)

-- where nothing is doomed, no block is found that is lost
pub found_none : (w : World) (found : Option ℕ) → IsLaidOut w → IfSome found (λ b. IsLost w b) → doomed w ≡ [] → IsNone found
found_none w None laid_out lost none = refl
found_none w (Some b) laid_out lost none = absurd (lost_none w laid_out.each_block none b lost)

-- ---- what a step may promise

-- a step that may be taken leaves less that is doomed
pub step_less : (w : World) (s : OutStep) → IsLaidOut w → MayStep w s
    → length (doomed (after_step w s)) + length (doomed_pairs (after_step w s)) < length (doomed w) + length (doomed_pairs w)
step_less w s laid_out may =
    let less = step_lowers w s.block s.targets laid_out may.lost s.freed may.step in elim may.some [
      | inl freed ↦ let one : length (doomed w) ≡ 1 + length (doomed (after_step w s)) = less.0 ∙ ap (λ t. cond t 1 0 + length (doomed (after_step w s))) freed in omega (arith, one, less.1)
      | inr some ↦ omega (arith, less.0, less.1, some)
    ]

-- and so it is of each world with this graph
pub step_keeps : (w : World) (s : OutStep) → IsLaidOut w → MayStep w s → AreKeptBy w s
step_keeps w s laid_out may r same =
    let lost = lost_by_graph w r same s.block may.lost in
    let step = step_by_graph w r same s.block s.targets s.freed may.step in
    let out = laid_out_by_graph w r same laid_out in record {
      raw = raw-stepped r s.block s.targets s.freed lost.apart step;
      settled = settle-stepped r s.block s.targets s.freed out lost step;
      less = step_less r s out (record { lost = lost; step = step; few = may.few; some = may.some });
    }

-- ---- the step with the first 16 targets

abbrev pub first_step : World → ℕ → OutStep
first_step w b = record { block = b; targets = take 16 (targets_from w.pairs b 0); freed = nat_le (length (targets_from w.pairs b 0)) 16 }

-- whether there are more than 16 is known of the first 17
pub few_of : (xs : List ℕ) → nat_le (length (take 17 xs)) 16 ≡ nat_le (length xs) 16
few_of xs = go (length (take 17 xs)) (length xs) (length-take 17 xs)
  where
    go : (m n : ℕ) → m ≡ min 17 n → nat_le m 16 ≡ nat_le n 16
    go m n is = elim (cases_lt 16 n) [
      | inl more ↦ lt-leb m 16 (omega arith) ∙ sym (lt-leb n 16 more)
      | inr few ↦ le-leb m 16 (omega arith) ∙ sym (le-leb n 16 few)
    ]

-- the step of these targets is that
pub this_step : (w : World) (b : ℕ) (first items all : List ℕ) (freed : Bool) (len : ℕ) → first ≡ take 16 items → items ≡ all → all ≡ take 17 (targets_from w.pairs b 0) → freed ≡ nat_le len 16 → len ≡ length all
    → first_step w b ≡ record { block = b; targets = first; freed = freed }
this_step w b first items all freed len is same all_is fit long =
    let targets : take 16 (targets_from w.pairs b 0) ≡ first = sym (is ∙ (ap (λ (xs : List ℕ). take 16 xs) same ∙ (ap (λ (xs : List ℕ). take 16 xs) all_is ∙ take-take 16 17 (targets_from w.pairs b 0) (omega arith)))) in
    let fits : nat_le (length (targets_from w.pairs b 0)) 16 ≡ freed = sym (fit ∙ (ap (λ n. nat_le n 16) long ∙ (ap (λ (xs : List ℕ). nat_le (length xs) 16) all_is ∙ few_of (targets_from w.pairs b 0)))) in
    λ i. record { block = b; targets = targets i; freed = fits i }

pub first_may_step : (w : World) (b : ℕ) → IsLaidOut w → IsLost w b → MayStep w (first_step w b)
first_may_step w b laid_out lost = record {
  lost = lost;
  step = first_targets_step w b laid_out.rising lost;
  few = omega (arith, length-take 16 (targets_from w.pairs b 0));
  some = first_targets_some (targets_from w.pairs b 0);
}

pub first_frees : (w : World) (b : ℕ) → IsLaidOut w → IsTrue (first_step w b).freed ↔ TakesAll w (first_step w b)
first_frees w b laid_out = (takes_all w b laid_out.rising, takes_all_only w b laid_out.rising)

-- where it doesn't free its block it takes 16 pairs
pub first_wide : (w : World) (b : ℕ) → ((first_step w b).freed ≡ true) ⊎ (length (first_step w b).targets ≡ 16)
first_wide w b = elim (cases_Bool (nat_le (length (targets_from w.pairs b 0)) 16)) [
  | inl few ↦ inl few
  | inr many ↦ inr (let more : 16 < length (targets_from w.pairs b 0) = above (length (targets_from w.pairs b 0)) many in omega (arith, length-take 16 (targets_from w.pairs b 0), more))
]
  where
    above : (n : ℕ) → nat_le n 16 ≡ false → 16 < n
    above n e = grind (arith, nat_tests)
