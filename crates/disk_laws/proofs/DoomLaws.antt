-- Doomed blocks, and what is left without them.
use Rattle.std.proofs.Common.{◌≡◌, ℕ, zero, suc, ◌<◌, ◌≤◌, Bool, true, false, not, cond, ◌&&◌, ◌||◌, ◌==◌, List, [], ◌∷◌, length, refl, sym, ◌∙◌, ap, subst, arith, Option, None}
use Rattle.disk_laws.proofs.Common.{eqb-true, and_parts, and_from, lt-ltb, not-true, not-false, or_parts, nat_tests, slice_index_or, is_some, list_all, holds, World, contents, is_live, is_primary, all_blocks, has_number, restricted, is_led_only_from, hangs_on, doomed_round, doomed_rounds, doomed, settle, IsRaw, IsValid, contents-restricted, sized-restricted, and_false, holds-filter, is_rising-filter, all_of_held, one_fails}
use Rattle.disk_laws.proofs.GraphLaws.{rounds, round_more, rounds_end, has_number-filter, has_number-range, length-range}

pub live_below : (cs : List (Option (List ℕ))) (b : ℕ) → is_some (slice_index_or cs b None) ≡ true → b < length cs
live_below [] b h = absurd (cc)
live_below (c ∷ cs) zero h = omega arith
live_below (c ∷ cs) (suc b) h = omega (arith, live_below cs b h)

-- ---- a world on the blocks that pass

pub live-restricted : (w : World) (keep : ℕ → Bool) (b : ℕ) → is_live (restricted w keep) b ≡ (keep b && is_live w b)
live-restricted w keep b = ap is_some (contents-restricted w keep b) ∙ elim (keep b) as (λ t. is_some (cond t (contents w b) None) ≡ (t && is_some (contents w b))) [ true ↦ refl | false ↦ refl ]

pub holds-restricted : (w : World) (keep : ℕ → Bool) (a b : ℕ) → holds (restricted w keep).pairs a b ≡ (holds w.pairs a b && keep a)
holds-restricted w keep a b = holds-filter (λ e. keep e.0) w.pairs a b

-- it is valid where primary blocks pass, targets pass with their sources, and each other live block that passes has a source that does
pub restricted_is_valid : (w : World) (keep : ℕ → Bool) → IsRaw w
    → ((b : ℕ) → b < w.geometry.primaries → keep b ≡ true)
    → ((a b : ℕ) → holds w.pairs a b ≡ true → keep a ≡ true → keep b ≡ true)
    → ((b : ℕ) → w.geometry.primaries ≤ b → keep b ≡ true → is_live w b ≡ true → (a : ℕ) × (holds w.pairs a b ≡ true) × (keep a ≡ true))
    → IsValid (restricted w keep)
restricted_is_valid w keep raw first on led = record {
  raw = record {
    sized = sized-restricted w keep raw.sized;
    version = raw.version;
    each_record = raw.each_record;
    of_version = raw.of_version;
    rising = is_rising-filter (λ e. keep e.0) w.pairs raw.rising;
    primaries = λ b h. live-restricted w keep b ∙ and_from _ _ (first b h) (raw.primaries b h);
    sources = λ a b h. let parts = and_parts _ _ (sym (holds-restricted w keep a b) ∙ h) in live-restricted w keep a ∙ and_from _ _ parts.1 (raw.sources a b parts.0);
    targets = λ a b h. let parts = and_parts _ _ (sym (holds-restricted w keep a b) ∙ h) in live-restricted w keep b ∙ and_from _ _ (on a b parts.0 parts.1) (raw.targets a b parts.0);
    apart = λ a b h. raw.apart a b (and_parts _ _ (sym (holds-restricted w keep a b) ∙ h)).0;
  };
  led_to = λ b le live.
      let parts = and_parts _ _ (sym (live-restricted w keep b) ∙ live) in
      let found = led b le parts.0 parts.1 in
      (found.0, holds-restricted w keep found.0 b ∙ and_from _ _ found.1 found.2);
}

-- ---- doomed blocks

rounds_are : (w : World) (r : ℕ) → doomed_rounds w r ≡ rounds (all_blocks w) (hangs_on w) r
rounds_are w zero = refl
rounds_are w (suc r) = ap (doomed_round w) (rounds_are w r)

pub hangs_more : (w : World) (xs ys : List ℕ) → ((b : ℕ) → has_number xs b ≡ true → has_number ys b ≡ true) → (b : ℕ) → hangs_on w xs b ≡ true → hangs_on w ys b ≡ true
hangs_more w xs ys more b h = let parts = and_parts (is_live w b && not (is_primary w b)) (is_led_only_from w xs b) h in
    and_from _ _ parts.0 (all_more w.pairs parts.1)
  where
    one_more : (e : ℕ × ℕ) → (not (e.1 == b) || has_number xs e.0) ≡ true → (not (e.1 == b) || has_number ys e.0) ≡ true
    one_more e g = elim (not (e.1 == b)) as (λ t. (t || has_number xs e.0) ≡ true → (t || has_number ys e.0) ≡ true) [ true ↦ λ _. refl | false ↦ λ k. more e.0 k ] g

    all_more : (es : List (ℕ × ℕ)) → list_all (λ e. not (e.1 == b) || has_number xs e.0) es ≡ true → list_all (λ e. not (e.1 == b) || has_number ys e.0) es ≡ true
    all_more [] g = refl
    all_more (e ∷ es) g = let parts = and_parts (not (e.1 == b) || has_number xs e.0) (list_all (λ f. not (f.1 == b) || has_number xs f.0) es) g in
        and_from _ _ (one_more e parts.0) (all_more es parts.1)

-- what is doomed stays doomed in the next round
pub doomed_more : (w : World) (r b : ℕ) → has_number (doomed_rounds w r) b ≡ true → has_number (doomed_rounds w (suc r)) b ≡ true
doomed_more w r b h = ap (λ xs. has_number xs b) (rounds_are w (suc r)) ∙ round_more (all_blocks w) (hangs_on w) (hangs_more w) r b (ap (λ xs. has_number xs b) (sym (rounds_are w r)) ∙ h)

-- one more round finds no more
pub doomed_is_closed : (w : World) → length w.blocks ≡ w.geometry.blocks → doomed_round w (doomed w) ≡ doomed w
doomed_is_closed w long =
    let n = length (all_blocks w) in
    let count : w.geometry.blocks ≡ length (all_blocks w) = sym long ∙ sym (length-range 0 (length w.blocks)) in
    ap (λ k. doomed_rounds w (suc k)) count ∙ rounds_are w (suc n) ∙ rounds_end (all_blocks w) (hangs_on w) (hangs_more w) ∙ sym (rounds_are w n) ∙ ap (doomed_rounds w) (sym count)

pub in_all : (w : World) (b : ℕ) → b < length w.blocks → has_number (all_blocks w) b ≡ true
in_all w b h = has_number-range 0 (length w.blocks) b ∙ grind (arith, nat_tests)

-- a block is doomed just where it is live, isn't primary and all pairs to it come from doomed blocks
pub is_doomed : (w : World) → length w.blocks ≡ w.geometry.blocks → (b : ℕ) → has_number (doomed w) b ≡ hangs_on w (doomed w) b
is_doomed w long b =
    let closed : has_number (doomed w) b ≡ (has_number (all_blocks w) b && hangs_on w (doomed w) b) = ap (λ xs. has_number xs b) (sym (doomed_is_closed w long)) ∙ has_number-filter (hangs_on w (doomed w)) (all_blocks w) b in
    closed ∙ elim (hangs_on w (doomed w) b) as (λ t. hangs_on w (doomed w) b ≡ t → (has_number (all_blocks w) b && t) ≡ t) [
      | true ↦ λ e. let live = (and_parts (is_live w b) (not (is_primary w b)) (and_parts (is_live w b && not (is_primary w b)) _ e).0).0 in
          and_from (has_number (all_blocks w) b) true (in_all w b (live_below w.blocks b live)) refl
      | false ↦ λ e. and_false (has_number (all_blocks w) b)
    ] refl

not_hanging : (x y z : Bool) → y ≡ true → ((x && not y) && z) ≡ false
not_hanging x y z e = grind (arith, nat_tests)

last_false : (x y z : Bool) → x ≡ true → y ≡ false → ((x && not y) && z) ≡ false → z ≡ false
last_false x y z p q e = grind (arith, nat_tests)

apart_from : (b : ℕ) (t : Bool) → (not (b == b) || t) ≡ true → not t ≡ true → ⊥
apart_from b t e f = grind (arith, nat_tests)

pub not_primary : (w : World) (b : ℕ) → w.geometry.primaries ≤ b → is_primary w b ≡ false
not_primary w b le = grind (arith, nat_tests)

-- ---- a world without its doomed blocks is valid

primary_stays : (w : World) → IsRaw w → (b : ℕ) → b < w.geometry.primaries → not (has_number (doomed w) b) ≡ true
primary_stays w raw b h = ap not (is_doomed w raw.sized.each_block b ∙ not_hanging (is_live w b) (is_primary w b) _ (lt-ltb b w.geometry.primaries h))

-- the target of a pair from a block that stays
pub target_stays : (w : World) → length w.blocks ≡ w.geometry.blocks → (a b : ℕ) → holds w.pairs a b ≡ true → not (has_number (doomed w) a) ≡ true → not (has_number (doomed w) b) ≡ true
target_stays w long a b h k =
    elim (has_number (doomed w) b) as (λ t. has_number (doomed w) b ≡ t → not t ≡ true) [
      | true ↦ λ e.
          let hangs = sym (is_doomed w long b) ∙ e in
          let each = (and_parts (is_live w b && not (is_primary w b)) _ hangs).1 in
          let one = all_of_held (λ f. not (f.1 == b) || has_number (doomed w) f.0) w.pairs a b each h in
          absurd (apart_from b (has_number (doomed w) a) one k)
      | false ↦ λ e. refl
    ] refl

-- a live block that stays and isn't primary has a source that stays
pub source_stays : (w : World) → length w.blocks ≡ w.geometry.blocks → (b : ℕ) → w.geometry.primaries ≤ b → not (has_number (doomed w) b) ≡ true → is_live w b ≡ true → (a : ℕ) × (holds w.pairs a b ≡ true) × (not (has_number (doomed w) a) ≡ true)
source_stays w long b le stay live =
    let hangs : hangs_on w (doomed w) b ≡ false = sym (is_doomed w long b) ∙ not-true _ stay in
    let some = last_false (is_live w b) (is_primary w b) _ live (not_primary w b le) hangs in
    let found = one_fails (λ f. not (f.1 == b) || has_number (doomed w) f.0) w.pairs some in
    let two = or_parts (not (found.1 == b)) (has_number (doomed w) found.0) found.3 in
    (found.0, subst (λ c. holds w.pairs found.0 c ≡ true) (eqb-true found.1 b (not-false _ two.0)) found.2, ap not two.1)

pub settle_is_valid : (w : World) → IsRaw w → IsValid (settle w)
settle_is_valid w raw = restricted_is_valid w (λ b. not (has_number (doomed w) b)) raw (primary_stays w raw) (target_stays w raw.sized.each_block) (source_stays w raw.sized.each_block)
