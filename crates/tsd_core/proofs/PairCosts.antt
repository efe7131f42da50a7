-- Each block that a deletion dooms lost a pair to it: so the cost of a request by the pairs that it removes.
use Rattle.std.proofs.Common.{◌≡◌, ℕ, zero, suc, ◌+◌, ◌-◌, ◌*◌, ◌≤◌, Bool, true, false, not, cond, ◌&&◌, ◌||◌, ◌==◌, List, [], ◌∷◌, length, refl, sym, ◌∙◌, ap, subst, arith, Option, Some, None}
use Rattle.tsd_core.proofs.Common.{and_parts, and_from, both_ways, ltb-false, ne_eqb, false_from_ne_true, not-true, not-false, filter, is_none, range_with_len, is_pair, holds, World, has_number, free_count, doomed, settle, IsValid, is_granted, verdict, State, judged, without_pointer, Shown, Rule, PlaceKind, Request, holds-filter, is_pair_same, target_stays, doomed_is_live, granted_passes, stays, doomed_pairs, made, made_by, made_in, cost_in}
use Rattle.tsd_model.specs.declared.requests.Request.TheVariants as ask
use Rattle.tsd_model.proofs.CountLaws.{filter_held, none_pass, count-without_pair}
use Rattle.tsd_model.proofs.SizeLaws.{length-filter_le}
use Rattle.graph_laws.proofs.DoomedLaws.{doomed_is_no_primary}
use Rattle.graph_laws.proofs.SettleLaws.{holds-settle}
use Rattle.graph_laws.proofs.WeightLaws.{doomed_listed, free_count-settle}
use Rattle.tsd_core.specs.Costs.{removed_by, reclaimed_by}

-- ---- blocks that are each led to are no more than the pairs

-- without the pairs to a block that is led to
fewer_pairs : (es : List (ℕ × ℕ)) (a b : ℕ) → holds es a b ≡ true → suc (length (filter (λ e. not (e.1 == b)) es)) ≤ length es
fewer_pairs [] a b held = absurd (cc)
fewer_pairs (e ∷ es) a b held = elim (e.1 == b) as (λ t. (((e.0 == a) && t) || holds es a b) ≡ true → suc (length (cond (not t) (e ∷ filter (λ f. not (f.1 == b)) es) (filter (λ f. not (f.1 == b)) es))) ≤ suc (length es)) [
  | true ↦ λ h. omega (arith, length-filter_le (λ f. not (f.1 == b)) es)
  | false ↦ λ h. let rest = fewer_pairs es a b (later (e.0 == a) h) in omega (arith, rest)
] held
  where
    later : (t : Bool) → ((t && false) || holds es a b) ≡ true → holds es a b ≡ true
    later true h = h
    later false h = h

led_fit : (p : ℕ → Bool) (i n : ℕ) (es : List (ℕ × ℕ)) → ((b : ℕ) → i ≤ b → p b ≡ true → (a : ℕ) × (holds es a b ≡ true)) → length (filter p (range_with_len i n)) ≤ length es
led_fit p i zero es led = omega arith
led_fit p i (suc n) es led = elim (p i) as (λ t. p i ≡ t → length (cond t (i ∷ filter p (range_with_len (i + 1) n)) (filter p (range_with_len (i + 1) n))) ≤ length es) [
  | true ↦ λ is.
      let here = led i (omega arith) is in
      let rest = led_fit p (i + 1) n (filter (λ e. not (e.1 == i)) es) (λ b above yes.
      let found = led b (omega (arith, above)) yes in
      (found.0, holds-filter (λ e. not (e.1 == i)) es found.0 b ∙ and_from (holds es found.0 b) (not (b == i)) found.1 (ap not (ne_eqb b i (λ (same : b ≡ i). omega (arith, above, same)))))) in
      omega (arith, rest, fewer_pairs es here.0 i here.1)
  | false ↦ λ no. led_fit p (i + 1) n es (λ b above. led b (omega (arith, above)))
] refl

-- ---- a deletion of a held pair

-- the pair isn't held once (a, b) is deleted
abbrev goes : World → ℕ → ℕ → (ℕ × ℕ) → Bool
goes w a b e = not (holds (settle (without_pointer w a b)).pairs e.0 e.1)

abbrev gone_with : World → ℕ → ℕ → List (ℕ × ℕ)
gone_with w a b = filter (goes w a b) w.pairs

none_left : (t u v : Bool) → u ≡ true → ((t && not u) && v) ≡ false
none_left true true v e = refl
none_left false true v e = refl
none_left t false v e = absurd (cc)

itself_goes : (w : World) (a b : ℕ) → goes w a b (a, b) ≡ true
itself_goes w a b = let cut = without_pointer w a b in
    ap not (holds-settle cut a b ∙ (ap (λ t. t && stays cut a) (holds-filter (λ e. not (is_pair a b e)) w.pairs a b) ∙ none_left (holds w.pairs a b) (is_pair a b (a, b)) (stays cut a) (is_pair_same (a, b))))

twice_not : (t : Bool) → not (true && not t) ≡ t
twice_not true = refl
twice_not false = refl

others_go : (w : World) (a b x y : ℕ) → holds (without_pointer w a b).pairs x y ≡ true → goes w a b (x, y) ≡ has_number (doomed (without_pointer w a b)) x
others_go w a b x y there = let cut = without_pointer w a b in
    ap not (holds-settle cut x y ∙ ap (λ t. t && stays cut x) there) ∙ twice_not (has_number (doomed cut) x)

-- they are that pair, and those from doomed blocks
count-gone : (w : World) (a b : ℕ) → IsValid w → holds w.pairs a b ≡ true → length (gone_with w a b) ≡ 1 + length (doomed_pairs (without_pointer w a b))
count-gone w a b valid held = let cut = without_pointer w a b in
    count-without_pair (goes w a b) w.pairs a b valid.raw.rising held
    ∙ (ap (λ t. cond t 1 0 + length (filter (goes w a b) cut.pairs)) (itself_goes w a b)
    ∙ ap (λ es. 1 + length es) (filter_held (goes w a b) (λ e. has_number (doomed cut) e.0) cut.pairs (others_go w a b)))

-- each doomed block lost a pair to it
doomed_led : (w : World) (a b : ℕ) → IsValid w → (c : ℕ) → has_number (doomed (without_pointer w a b)) c ≡ true → (x : ℕ) × (holds (gone_with w a b) x c ≡ true)
doomed_led w a b valid c is =
    let cut = without_pointer w a b in
    let long : length cut.blocks ≡ cut.geometry.blocks = valid.raw.sized.each_block in
    let from = valid.led_to c (ltb-false c w.geometry.primaries (doomed_is_no_primary cut long c is)) (doomed_is_live cut long c is) in
    let lost : holds (settle cut).pairs from.0 c ≡ false = false_from_ne_true (holds (settle cut).pairs from.0 c) (λ stays_held.
    let parts = and_parts (holds cut.pairs from.0 c) (stays cut from.0) (sym (holds-settle cut from.0 c) ∙ stays_held) in
    both_ways (has_number (doomed cut) c) (not-true (has_number (doomed cut) c) (target_stays cut long from.0 c parts.0 parts.1)) is) in
    (from.0, holds-filter (goes w a b) w.pairs from.0 c ∙ and_from (holds w.pairs from.0 c) (not (holds (settle cut).pairs from.0 c)) from.1 (ap not lost))

doomed_fit : (w : World) (a b : ℕ) → IsValid w → length (doomed (without_pointer w a b)) ≤ length (gone_with w a b)
doomed_fit w a b valid =
    let cut = without_pointer w a b in
    let few = led_fit (has_number (doomed cut)) 0 (length cut.blocks) (gone_with w a b) (λ c low is. doomed_led w a b valid c is) in
    subst (λ xs. length xs ≤ length (gone_with w a b)) (sym (doomed_listed cut)) few

-- So five for each block and pair that goes are at most twelve, ten even, for each pair.
pub made_by_pairs : (w : World) (a b : ℕ) → IsValid w → holds w.pairs a b ≡ true → 5 * made w a b ≤ 12 * length (gone_with w a b)
made_by_pairs w a b valid held = bound (length (doomed (without_pointer w a b))) (length (doomed_pairs (without_pointer w a b))) (length (gone_with w a b)) (doomed_fit w a b valid) (count-gone w a b valid held)
  where
    bound : (blocks pairs all : ℕ) → blocks ≤ all → all ≡ 1 + pairs → 5 * (blocks + pairs + 1) ≤ 12 * all
    bound blocks pairs all few same = omega (arith, few, same)

made_is : (w : World) (a b : ℕ) → IsValid w → holds w.pairs a b ≡ true → made w a b ≡ (free_count (settle (without_pointer w a b)) - free_count w) + length (gone_with w a b)
made_is w a b valid held =
    total (length (doomed (without_pointer w a b))) (length (doomed_pairs (without_pointer w a b))) (length (gone_with w a b)) (free_count w) (free_count (settle (without_pointer w a b)))
    (count-gone w a b valid held) (free_count-settle (without_pointer w a b) valid.raw.sized.each_block)
  where
    total : (blocks pairs all free now : ℕ) → all ≡ 1 + pairs → now ≡ free + blocks → blocks + pairs + 1 ≡ (now - free) + all
    total blocks pairs all free now one two = omega (arith, one, two)

-- ---- a request

held_pair : (s : State) (n a : ℕ) (shown : Shown) (b : ℕ) → ◌≡◌ {A = Option Rule} (verdict s.world s.sessions (ask.Delete n a shown b)) None → holds s.world.pairs a b ≡ true
held_pair s n a shown b granted = not-false (holds s.world.pairs a b) (granted_passes s.world s.sessions (ask.Delete n a shown b) granted).old_pair

-- nothing goes by a request that is refused
none_gone : (es : List (ℕ × ℕ)) → length (filter (λ e. not (holds es e.0 e.1)) es) ≡ 0
none_gone es = none_pass (λ e. not (holds es e.0 e.1)) es (λ a b held. ap not held)

granted_cost : (kind : PlaceKind) (s : State) (q : Request) → IsValid s.world → ◌≡◌ {A = Option Rule} (verdict s.world s.sessions q) None
    → 460 + 5 * made_by s.world q ≤ 460 + 12 * length (filter (λ e. not (holds (judged kind s q None).state.world.pairs e.0 e.1)) s.world.pairs)
granted_cost kind s (ask.Delete n a shown b) valid granted = let most = made_by_pairs s.world a b valid (held_pair s n a shown b granted) in omega (arith, most)
granted_cost kind s q valid granted = omega arith

pub costs_by_pairs : (kind : PlaceKind) (s : State) (q : Request) → IsValid s.world → cost_in s q ≤ 460 + 12 * removed_by kind s q
costs_by_pairs kind s q valid = elim (verdict s.world s.sessions q) as (λ x. verdict s.world s.sessions q ≡ x
    → 460 + 5 * cond (is_none x) (made_by s.world q) 0 ≤ 460 + 12 * length (filter (λ e. not (holds (judged kind s q x).state.world.pairs e.0 e.1)) s.world.pairs)) [
      | Some r ↦ λ e. omega arith
      | None ↦ λ e. granted_cost kind s q valid e
    ] refl

pub made_goes : (kind : PlaceKind) (s : State) (n a : ℕ) (shown : Shown) (b : ℕ) → IsValid s.world
    → made_in s (ask.Delete n a shown b) ≡ reclaimed_by kind s (ask.Delete n a shown b) + removed_by kind s (ask.Delete n a shown b)
made_goes kind s n a shown b valid = let q = ask.Delete n a shown b in
    elim (verdict s.world s.sessions q) as (λ x. verdict s.world s.sessions q ≡ x
    → cond (is_none x) (made_by s.world q) 0 ≡ (free_count (judged kind s q x).state.world - free_count s.world) + length (filter (λ e. not (holds (judged kind s q x).state.world.pairs e.0 e.1)) s.world.pairs)) [
      | Some r ↦ λ e. omega (arith, none_gone s.world.pairs)
      | None ↦ λ e. made_is s.world a b valid (held_pair s n a shown b e)
    ] refl

pub made_most : (kind : PlaceKind) (s : State) (q : Request) → IsValid s.world → made_in s q ≤ reclaimed_by kind s q + removed_by kind s q
made_most kind s (ask.Delete n a shown b) valid = omega (arith, made_goes kind s n a shown b valid)
made_most kind s q valid = elim (is_granted s.world s.sessions q) as (λ t. cond t (made_by s.world q) 0 ≤ reclaimed_by kind s q + removed_by kind s q) [ true ↦ omega arith | false ↦ omega arith ]
