-- Which blocks are reached, by the rule alone, and which steps keep the world on them.
use Rattle.std.proofs.Common.{◌≡◌, ℕ, zero, suc, ◌+◌, ◌<◌, ◌≤◌, Bool, true, false, not, cond, ◌&&◌, ◌||◌, ◌==◌, nat_lt, nat_le, List, [], ◌∷◌, refl, sym, ◌∙◌, ap, subst, arith, ◌⊎◌, inl, inr, Option, None}
use Rattle.graph_laws.proofs.Common.{eqb-true, and_parts, and_from, both_ways, cases_Bool, cases_eq, cases_lt, false_from_ne_true, not-false, or_cases, or_left, or_right, or_from, and_left, eq-eqb, ne_eqb, ltb-true, ltb-false, length-set, map, slice_index_or, is_pair, holds, World, contents, is_live, all_blocks, primary_blocks, has_number, is_led_from, reach_rounds, reach, swept, doomed, settle, without_pointer, IsRaw, IsValid, Geometry, has_number-filter, has_number-range, holds-filter, is_rising-filter, same_tests, live-restricted, holds-restricted, stays, graph, IsRawGraph, with_pairs_that, with_free, without_pointers, stepped, IsStep, IsAlone}
use Rattle.std.specs.Prelude.{is_some}
use Rattle.disk_laws.proofs.ReachLaws.{found_any, target_reached as raw_target_reached, primary_reached as raw_primary_reached, reached_is_led_to as raw_reached_is_led_to, swept_is_valid}
use Rattle.graph_laws.specs.Sweeping.{FollowsPairs, SweepsAs}
use Rattle.graph_laws.proofs.SameLaws.{restricted_same, restricted_whole}
use Rattle.graph_laws.proofs.SameGraphLaws.{reach_by_graph}
use Rattle.graph_laws.proofs.CountLaws.{led_or_alone}
use Rattle.graph_laws.proofs.DoomedLaws.{doomed_least}
use Rattle.graph_laws.proofs.RawGraphLaws.{graph-with_pairs_that, contents-with_free, graph-with_free}
use Rattle.graph_laws.proofs.ToldLaws.{has_graph, raw-graph}
use Rattle.graph_laws.proofs.StepLaws.{graph-without_pointers}
use Rattle.graph_laws.proofs.SettleLaws.{graph-settle, passed, contents-settle, holds-settle, length-settle, led_has_none}

-- ---- the least set

-- What holds of the primary blocks, and of each block that one of which it holds leads to, holds of all that are reached.
pub reach_least : (w : World) (P : ℕ → Type 0) → ((b : ℕ) → b < w.geometry.primaries → P b) → ((a b : ℕ) → holds w.pairs a b ≡ true → P a → P b) → (b : ℕ) → has_number (reach w) b ≡ true → P b
reach_least w P first on = each w.geometry.blocks
  where
    below : (b : ℕ) → (nat_le 0 b && nat_lt b (0 + w.geometry.primaries)) ≡ true → b < w.geometry.primaries
    below b h = let g = ltb-true b (0 + w.geometry.primaries) (and_parts (nat_le 0 b) (nat_lt b (0 + w.geometry.primaries)) h).1 in omega arith

    each : (r b : ℕ) → has_number (reach_rounds w (primary_blocks w) r) b ≡ true → P b
    each zero b h = first b (below b (sym (has_number-range 0 w.geometry.primaries b) ∙ h))
    each (suc r) b h =
        let xs = reach_rounds w (primary_blocks w) r in
        let passes = (and_parts (has_number (all_blocks w) b) (has_number xs b || is_led_from w xs b) (sym (has_number-filter (λ c. has_number xs c || is_led_from w xs c) (all_blocks w) b) ∙ h)).1 in
        elim (or_cases (has_number xs b) (is_led_from w xs b) passes) [
          | inl old ↦ each r b old
          | inr new ↦ let found = found_any xs b w.pairs new in on found.0 b found.1 (each r found.0 found.2)
        ]

pub in_each : (w : World) (set : ℕ → Bool) → FollowsPairs w set → (b : ℕ) → has_number (reach w) b ≡ true → set b ≡ true
in_each w set follows = reach_least w (λ b. set b ≡ true) follows.first follows.on

-- marks that only reached blocks have, and that follow the pairs, are those of the reached blocks
pub marks_are_reach : (w : World) (marked : ℕ → Bool) → ((b : ℕ) → marked b ≡ true → has_number (reach w) b ≡ true) → FollowsPairs w marked
    → (b : ℕ) → marked b ≡ has_number (reach w) b
marks_are_reach w marked sound follows b = same_tests (marked b) (has_number (reach w) b) (sound b) (in_each w marked follows b)

-- ---- what is reached, in a raw graph

module _ (w : World) (raw : IsRawGraph w) where
  abbrev live_list : List Bool
  live_list = map is_some w.blocks

  tells : (b : ℕ) → slice_index_or live_list b false ≡ is_live w b
  tells = each w.blocks
    where
      each : (xs : List (Option (List ℕ))) (b : ℕ) → slice_index_or (map is_some xs) b false ≡ is_some (slice_index_or xs b None)
      each [] b = refl
      each (x ∷ xs) zero = refl
      each (x ∷ xs) (suc b) = each xs b

  -- the raw world of the same graph, with zeros in its blocks
  abbrev blank : World
  blank = graph w.geometry live_list w.pairs

  blank_raw : IsRaw blank
  blank_raw = raw-graph w live_list raw.laid_out.each_block (λ b _. tells b) raw

  blank_reach : reach blank ≡ reach w
  blank_reach = reach_by_graph blank w (has_graph w live_list raw.laid_out.each_block (λ b _. tells b))

  -- the target of a pair from a reached block is reached
  pub target_reached : (a b : ℕ) → holds w.pairs a b ≡ true → has_number (reach w) a ≡ true → has_number (reach w) b ≡ true
  target_reached a b held is = ap (λ xs. has_number xs b) (sym blank_reach) ∙ raw_target_reached blank blank_raw a b held (ap (λ xs. has_number xs a) blank_reach ∙ is)

  pub primary_reached : (b : ℕ) → b < w.geometry.primaries → has_number (reach w) b ≡ true
  primary_reached b h = ap (λ xs. has_number xs b) (sym blank_reach) ∙ raw_primary_reached blank blank_raw b h

  -- a reached block that isn't primary is led to from one
  pub reached_is_led_to : (b : ℕ) → w.geometry.primaries ≤ b → has_number (reach w) b ≡ true → (a : ℕ) × (holds w.pairs a b ≡ true) × (has_number (reach w) a ≡ true)
  reached_is_led_to b apart is =
      let led = raw_reached_is_led_to blank blank_raw b apart (ap (λ xs. has_number xs b) blank_reach ∙ is) in
      (led.0, led.1, ap (λ xs. has_number xs led.0) (sym blank_reach) ∙ led.2)

  pub reach_follows : FollowsPairs w (has_number (reach w))
  reach_follows = record { first = primary_reached; on = target_reached }

  -- an unreached block isn't primary, and only unreached blocks lead to it
  pub unreached_apart : (b : ℕ) → has_number (reach w) b ≡ false → w.geometry.primaries ≤ b
  unreached_apart b no_ = elim (cases_lt b w.geometry.primaries) [ inl h ↦ absurd (both_ways (has_number (reach w) b) no_ (primary_reached b h)) | inr h ↦ h ]

  pub source_unreached : (a b : ℕ) → holds w.pairs a b ≡ true → has_number (reach w) b ≡ false → has_number (reach w) a ≡ false
  source_unreached a b held no_ = false_from_ne_true (has_number (reach w) a) (λ is. both_ways (has_number (reach w) b) no_ (target_reached a b held is))

  -- what is reached isn't doomed
  pub reached_is_not_doomed : (b : ℕ) → has_number (reach w) b ≡ true → has_number (doomed w) b ≡ false
  reached_is_not_doomed b h = false_from_ne_true (has_number (doomed w) b) (λ is. both_ways (has_number (reach w) b)
      (doomed_least w (λ c. has_number (reach w) c ≡ false) (λ c live other all. false_from_ne_true (has_number (reach w) c) (λ in_.
      let led = reached_is_led_to c (ltb-false c w.geometry.primaries other) in_ in both_ways (has_number (reach w) led.0) (all led.0 led.1) led.2)) b is) h)

  pub reached_stays : (b : ℕ) → has_number (reach w) b ≡ true → stays w b ≡ true
  reached_stays b h = ap not (reached_is_not_doomed b h)

-- pairs and primary blocks alone say what is reached
pub reach_by_pairs : (v w : World) → IsRawGraph v → IsRawGraph w → v.geometry ≡ w.geometry → ((a b : ℕ) → holds v.pairs a b ≡ holds w.pairs a b) → (b : ℕ) → has_number (reach v) b ≡ has_number (reach w) b
reach_by_pairs v w rv rw sizes held b = same_tests (has_number (reach v) b) (has_number (reach w) b)
    (reach_least v (λ c. has_number (reach w) c ≡ true)
    (λ c below. primary_reached w rw c (subst (λ (g : Geometry). c < g.primaries) sizes below)) (λ x c h. target_reached w rw x c (sym (held x c) ∙ h)) b)
    (reach_least w (λ c. has_number (reach v) c ≡ true)
    (λ c below. primary_reached v rv c (subst (λ (g : Geometry). c < g.primaries) (sym sizes) below)) (λ x c h. target_reached v rv x c (held x c ∙ h)) b)

-- ---- fewer pairs

module _ (r : World) (raw : IsRawGraph r) (keep : (ℕ × ℕ) → Bool) (gone : (a b : ℕ) → holds r.pairs a b ≡ true → keep (a, b) ≡ false → has_number (reach r) a ≡ false) where
  less_raw : IsRawGraph (with_pairs_that r keep)
  less_raw = graph-with_pairs_that r keep raw

  -- where all that is taken comes from unreached blocks, the same blocks are reached
  pub reach-with_pairs_that : (b : ℕ) → has_number (reach (with_pairs_that r keep)) b ≡ has_number (reach r) b
  reach-with_pairs_that b = same_tests (has_number (reach (with_pairs_that r keep)) b) (has_number (reach r) b)
      (reach_least (with_pairs_that r keep) (λ c. has_number (reach r) c ≡ true)
      (primary_reached r raw) (λ x c held is. target_reached r raw x c (and_parts (holds r.pairs x c) (keep (x, c)) (sym (holds-filter keep r.pairs x c) ∙ held)).0 is) b)
      (λ h. (reach_least r (λ c. (has_number (reach r) c ≡ true) × (has_number (reach (with_pairs_that r keep)) c ≡ true))
      (λ c below. (primary_reached r raw c below, primary_reached (with_pairs_that r keep) less_raw c below))
      (λ x c held both. (
        target_reached r raw x c held both.0,
        target_reached (with_pairs_that r keep) less_raw x c (holds-filter keep r.pairs x c ∙ and_from (holds r.pairs x c) (keep (x, c)) held (kept x c held both.0)) both.1,
      )) b h).1)
    where
      kept : (x c : ℕ) → holds r.pairs x c ≡ true → has_number (reach r) x ≡ true → keep (x, c) ≡ true
      kept x c held is = elim (cases_Bool (keep (x, c))) [ inl k ↦ k | inr taken ↦ absurd (both_ways (has_number (reach r) x) (gone x c held taken) is) ]

  pub swept-with_pairs_that : swept (with_pairs_that r keep) ≡ swept r
  swept-with_pairs_that = restricted_same (with_pairs_that r keep) r (has_number (reach (with_pairs_that r keep))) (has_number (reach r)) refl refl refl refl
      (is_rising-filter keep r.pairs raw.laid_out.rising) raw.laid_out.rising
      (λ b. ap (λ t. cond t (contents r b) None) (reach-with_pairs_that b))
      (λ a b. ap (λ t. t && has_number (reach (with_pairs_that r keep)) a) (holds-filter keep r.pairs a b)
      ∙ (ap (λ t. (holds r.pairs a b && keep (a, b)) && t) (reach-with_pairs_that a)
      ∙ taken (holds r.pairs a b) (keep (a, b)) (has_number (reach r) a) (gone a b)))
    where
      taken : (h k d : Bool) → (h ≡ true → k ≡ false → d ≡ false) → ((h && k) && d) ≡ (h && d)
      taken true true d f = refl
      taken true false d f = sym (f refl refl)
      taken false k d f = refl

-- ---- a block less

module _ (r : World) (raw : IsRawGraph r) (b : ℕ) (unreached : has_number (reach r) b ≡ false) (alone : IsAlone r b) where
  pub reach-with_free : (c : ℕ) → has_number (reach (with_free r b)) c ≡ has_number (reach r) c
  reach-with_free = reach_by_pairs (with_free r b) r (graph-with_free r b (unreached_apart r raw b unreached) alone raw) raw refl (λ x c. refl)

  pub swept-with_free : swept (with_free r b) ≡ swept r
  swept-with_free = restricted_same (with_free r b) r (has_number (reach (with_free r b))) (has_number (reach r)) refl refl refl (length-set r.blocks b None) raw.laid_out.rising raw.laid_out.rising
      (λ c. ap (λ t. cond t (contents (with_free r b) c) None) (reach-with_free c) ∙ inside c)
      (λ a c. ap (λ t. holds r.pairs a c && t) (reach-with_free a))
    where
      inside : (c : ℕ) → cond (has_number (reach r) c) (contents (with_free r b) c) None ≡ cond (has_number (reach r) c) (contents r c) None
      inside c = elim (cases_eq c b) [
        | inl same ↦ let no : has_number (reach r) c ≡ false = subst (λ k. has_number (reach r) k ≡ false) (sym same) unreached in
            ap (λ t. passed t (contents (with_free r b) c)) no ∙ sym (ap (λ t. passed t (contents r c)) no)
        | inr other ↦ ap (λ o. passed (has_number (reach r) c) o) (contents-with_free r b c other)
      ]

-- ---- a step

sweeps_on : (u v w : World) → SweepsAs u v → SweepsAs v w → SweepsAs u w
sweeps_on u v w first then = record { reached = λ b. first.reached b ∙ then.reached b; swept = first.swept ∙ then.swept }

pub sweeps-without_pointers : (a : ℕ) (bs : List ℕ) (r : World) → IsRawGraph r → has_number (reach r) a ≡ false → SweepsAs (without_pointers r a bs) r
sweeps-without_pointers a [] r raw apart = record { reached = λ b. refl; swept = refl }
sweeps-without_pointers a (b ∷ bs) r raw apart =
    let gone : (x y : ℕ) → holds r.pairs x y ≡ true → not (is_pair a b (x, y)) ≡ false → has_number (reach r) x ≡ false =
    λ x y _ taken. subst (λ k. has_number (reach r) k ≡ false) (sym (eqb-true x a (and_parts (x == a) (y == b) (not-false (is_pair a b (x, y)) taken)).0)) apart in
    let keep : (ℕ × ℕ) → Bool = λ e. not (is_pair a b e) in
    let here : SweepsAs (without_pointer r a b) r = record { reached = reach-with_pairs_that r raw keep gone; swept = swept-with_pairs_that r raw keep gone } in
    sweeps_on (without_pointers r a (b ∷ bs)) (without_pointer r a b) r
    (sweeps-without_pointers a bs (without_pointer r a b) (graph-with_pairs_that r keep raw) (here.reached a ∙ apart)) here

pub sweeps-stepped : (r : World) (a : ℕ) (bs : List ℕ) (freed : Bool) → IsRawGraph r → has_number (reach r) a ≡ false → IsStep r a bs freed → SweepsAs (stepped r a bs freed) r
sweeps-stepped r a bs true raw apart step =
    let less = graph-without_pointers a bs r raw in
    let kept = sweeps-without_pointers a bs r raw apart in
    let still = kept.reached a ∙ apart in
    sweeps_on (stepped r a bs true) (without_pointers r a bs) r
    (record { reached = reach-with_free (without_pointers r a bs) less a still (step.last refl); swept = swept-with_free (without_pointers r a bs) less a still (step.last refl) }) kept
sweeps-stepped r a bs false raw apart step = sweeps-without_pointers a bs r raw apart

-- ---- no step

-- where each live block is reached, nothing is swept
pub swept_whole : (r : World) → IsRawGraph r → ((b : ℕ) → is_live r b ≡ true → has_number (reach r) b ≡ true) → swept r ≡ r
swept_whole r raw all = restricted_whole r (has_number (reach r)) raw.laid_out.rising all (λ a b held. all a (raw.sources a b held))

-- a pair leads from the block, or none does
from_or_none : (es : List (ℕ × ℕ)) (a : ℕ) → ((c : ℕ) × (holds es a c ≡ true)) ⊎ ((c : ℕ) → holds es a c ≡ false)
from_or_none [] a = inr (λ c. refl)
from_or_none (e ∷ es) a = elim (cases_eq e.0 a) [
  | inl same ↦ inl (e.1, or_left (is_pair a e.1 e) (holds es a e.1) (and_from (e.0 == a) (e.1 == e.1) (eq-eqb e.0 a same) (eq-eqb e.1 e.1 refl)))
  | inr other ↦ elim (from_or_none es a) [
    | inl found ↦ inl (found.0, or_right (is_pair a found.0 e) (holds es a found.0) found.1)
    | inr none ↦ inr (λ c. or_from (is_pair a c e) (holds es a c) (and_left (e.0 == a) (e.1 == c) (ne_eqb e.0 a other)) (none c))
  ]
]

-- where a live block isn't reached, there is one from which a pair leads, or which is alone
pub sweep_goes_on : (r : World) (b : ℕ) → IsRawGraph r → is_live r b ≡ true → has_number (reach r) b ≡ false
    → (a : ℕ) × (is_live r a ≡ true) × (has_number (reach r) a ≡ false) × (IsAlone r a ⊎ ((c : ℕ) × (holds r.pairs a c ≡ true)))
sweep_goes_on r b raw live unreached = elim (from_or_none r.pairs b) [
  | inl leads ↦ (b, live, unreached, inr leads)
  | inr none ↦ elim (led_or_alone r.pairs b) [
    | inl led ↦ (led.0, raw.sources led.0 b led.1, source_unreached r raw led.0 b led.1 unreached, inr (b, led.1))
    | inr alone ↦ (b, live, unreached, inl (record { out = none; into = alone }))
  ]
]

-- ---- what is swept

-- in the swept world nothing is doomed
pub swept_has_none : (r : World) → IsRawGraph r → doomed (swept r) ≡ []
swept_has_none r raw = led_has_none (swept r) (λ b apart live.
    let here = (and_parts (has_number (reach r) b) (is_live r b) (sym (live-restricted r (has_number (reach r)) b) ∙ live)).0 in
    let led = reached_is_led_to r raw b apart here in
    (led.0, holds-restricted r (has_number (reach r)) led.0 b ∙ and_from (holds r.pairs led.0 b) (has_number (reach r) led.0) led.1 led.2))

-- and a raw world sweeps to a valid one
pub sweeps_to_valid : (r : World) → IsRaw r → IsValid (swept r)
sweeps_to_valid r raw = swept_is_valid r raw

-- ---- a sweep of the settled world

module _ (r : World) (raw : IsRawGraph r) where
  -- a pair that is gone came from a doomed block
  gone : (x c : ℕ) → holds r.pairs x c ≡ true → stays r x ≡ false → has_number (reach r) x ≡ false
  gone x c held doomed_ = false_from_ne_true (has_number (reach r) x) (λ is. both_ways (stays r x) doomed_ (reached_stays r raw x is))

  reach-settled : (b : ℕ) → has_number (reach (settle r)) b ≡ has_number (reach r) b
  reach-settled b =
      reach_by_pairs (settle r) (with_pairs_that r (λ e. stays r e.0)) (graph-settle r raw) (graph-with_pairs_that r (λ e. stays r e.0) raw) refl (λ x c. refl) b
      ∙ reach-with_pairs_that r raw (λ e. stays r e.0) gone b

  -- it sweeps to one, whether it was settled before or not
  swept-settled : swept (settle r) ≡ swept r
  swept-settled = restricted_same (settle r) r (has_number (reach (settle r))) (has_number (reach r)) refl refl refl (length-settle r)
      (is_rising-filter (λ e. stays r e.0) r.pairs raw.laid_out.rising) raw.laid_out.rising
      (λ b. ap (λ t. cond t (contents (settle r) b) None) (reach-settled b) ∙ (ap (λ o. passed (has_number (reach r) b) o) (contents-settle r b) ∙ once (has_number (reach r) b) (has_number (doomed r) b) (contents r b) (reached_is_not_doomed r raw b)))
      (λ a b. ap (λ t. holds (settle r).pairs a b && t) (reach-settled a) ∙ (ap (λ h. h && has_number (reach r) a) (holds-settle r a b) ∙ both (holds r.pairs a b) (has_number (reach r) a) (has_number (doomed r) a) (reached_is_not_doomed r raw a)))
    where
      once : (t d : Bool) (o : Option (List ℕ)) → (t ≡ true → d ≡ false) → cond t (cond (not d) o None) None ≡ cond t o None
      once true d o f = ap (λ s. cond (not s) o None) (f refl)
      once false d o f = refl

      both : (h t d : Bool) → (t ≡ true → d ≡ false) → ((h && not d) && t) ≡ (h && t)
      both false t d f = refl
      both true true d f = ap (λ s. not s && true) (f refl)
      both true false true f = refl
      both true false false f = refl

  pub settled_sweeps : SweepsAs (settle r) r
  settled_sweeps = record { reached = reach-settled; swept = swept-settled }
