-- Replies have a form that lines and frames can send.
use Rattle.std.proofs.Common.{◌≡◌, ℕ, zero, suc, ◌-◌, ◌^◌, ◌<◌, ◌≤◌, Bool, true, false, cond, ◌&&◌, ◌||◌, ◌==◌, nat_lt, nat_le, List, [], ◌∷◌, ◌++◌, length, refl, subst, arith, inl, inr, ◌⊎◌, Option, Some, None}
use Rattle.tsd_core.proofs.Common.{ltb-true, ltb-false, or_parts, and_parts, or_right, length-take, map, filter, take, count_by, is_none, unwrap_or, option_map_or, is_pair, holds, World, contents, is_live, is_free, free_count, Sessions, session_of, needs, wanted_blocks, Check, first_rule, denied, session_rules, block_rules, level_rules, pair_rules, room_rules, rules_before_room, verdict, targets_from, IsSized, AreNumbers, RuleHasNumbers, HasForm, Need, Rule, Request, AllOf, AllOf-map, AllFree, holds_first, live_below, NoRule, none_split, none_apply, NoneApply}
use Rattle.std.proofs.lemmas.List.Sums.{sum_by-cons}
use Rattle.tsd_model.specs.declared.replies.Reply.TheVariants as reply

-- ---- numbers

free_most : (cs : List (Option (List ℕ))) → count_by is_none cs ≤ length cs
free_most [] = omega arith
free_most (c ∷ cs) = omega (arith, free_most cs, sum_by-cons (λ (o : Option (List ℕ)). cond (is_none o) 1 0) c cs, small (is_none c))
  where
    small : (t : Bool) → cond t 1 0 ≤ 1
    small true = omega arith
    small false = omega arith

pub free_fits : (w : World) → IsSized w → free_count w < 2 ^ 32
free_fits w sized = omega (arith, free_most w.blocks, sized.each_block, sized.lawful.blocks.1)

pub gone_fits : (w u : World) → length u.blocks ≡ length w.blocks → IsSized w → free_count u - free_count w < 2 ^ 32
gone_fits w u long sized = omega (arith, free_most u.blocks, long, sized.each_block, sized.lawful.blocks.1)

below_numbers : (n : ℕ) → n ≤ 2 ^ 32 → (bs : List ℕ) → AllOf (λ b. b < n) bs → AreNumbers bs
below_numbers n few [] h = tt
below_numbers n few (b ∷ bs) h = (omega (arith, few, h.0), below_numbers n few bs h.1)

pub free_below : (w : World) (b : ℕ) → is_free w b ≡ true → b < length w.blocks
free_below w b h = ltb_true (and_parts (nat_lt b (length w.blocks)) (not_live b) h).0
  where
    not_live : ℕ → Bool
    not_live c = is_none (contents w c)

    ltb_true : nat_lt b (length w.blocks) ≡ true → b < length w.blocks
    ltb_true e = ltb-true b (length w.blocks) e

-- free blocks have numbers of four bytes
pub free_numbers : (w : World) (bs : List ℕ) → IsSized w → AllFree w bs → AreNumbers bs
free_numbers w bs sized free = below_numbers (length w.blocks) (omega (arith, sized.each_block, sized.lawful.blocks.1)) bs (AllOf-map (λ b. is_free w b ≡ true) (λ b. b < length w.blocks) (free_below w) bs free)

-- ---- targets

take_numbers : (n : ℕ) (bs : List ℕ) → AreNumbers bs → AreNumbers (take n bs)
take_numbers zero [] h = tt
take_numbers zero (b ∷ bs) h = tt
take_numbers (suc n) [] h = tt
take_numbers (suc n) (b ∷ bs) h = (h.0, take_numbers n bs h.1)

-- each pair leads to a live block
abbrev pub HasLiveTargets : World → Type 0
HasLiveTargets w = (a b : ℕ) → holds w.pairs a b ≡ true → is_live w b ≡ true

pub targets_fit : (w : World) (a start : ℕ) → IsSized w → HasLiveTargets w → HasForm (reply.Targets (targets_from w.pairs a start))
targets_fit w a start sized live = record {
  body = omega (arith, length-take 64 (map (λ (e : ℕ × ℕ). e.1) (filter (λ (e : ℕ × ℕ). (e.0 == a) && nat_le start e.1) w.pairs)));
  numbers = take_numbers 64 (map (λ (e : ℕ × ℕ). e.1) (filter (λ (e : ℕ × ℕ). (e.0 == a) && nat_le start e.1) w.pairs)) (each w.pairs (λ x y h. live_below w.blocks y (live x y h)));
}
  where
    each : (es : List (ℕ × ℕ)) → ((x y : ℕ) → holds es x y ≡ true → y < length w.blocks) → AreNumbers (map (λ (e : ℕ × ℕ). e.1) (filter (λ (e : ℕ × ℕ). (e.0 == a) && nat_le start e.1) es))
    each [] below = tt
    each (e ∷ es) below =
        let rest = each es (λ x y h. below x y (or_right (is_pair x y e) (holds es x y) h)) in
        elim ((e.0 == a) && nat_le start e.1) as (λ t. AreNumbers (map (λ (e : ℕ × ℕ). e.1) (cond t (e ∷ filter (λ (e : ℕ × ℕ). (e.0 == a) && nat_le start e.1) es) (filter (λ (e : ℕ × ℕ). (e.0 == a) && nat_le start e.1) es)))) [
          | true ↦ (omega (arith, below e.0 e.1 (holds_first e es), sized.each_block, sized.lawful.blocks.1), rest)
          | false ↦ rest
        ]

-- ---- rules

-- the first of two lists
first_append : (cs ds : List Check) (r : Rule) → first_rule (cs ++ ds) ≡ Some r → (first_rule cs ≡ Some r) ⊎ (NoRule cs × (first_rule ds ≡ Some r))
first_append [] ds r e = inr (refl, e)
first_append (c ∷ cs) ds r e =
    let rest = first_append cs ds r in
    elim c.applies as (λ t. cond t (Some c.answer) (first_rule (cs ++ ds)) ≡ Some r → (cond t (Some c.answer) (first_rule cs) ≡ Some r) ⊎ ((◌≡◌ {A = Option Rule} (cond t (Some c.answer) (first_rule cs)) None) × (first_rule ds ≡ Some r))) [
      | true ↦ λ g. inl g
      | false ↦ λ g. rest g
    ] e

-- the answers of these checks tell no numbers, or numbers of four bytes
abbrev Tell : List Check → Type 0
Tell [] = Unit {0}
Tell (c ∷ cs) = RuleHasNumbers c.answer × Tell cs

first_tells : (cs : List Check) (r : Rule) → Tell cs → first_rule cs ≡ Some r → RuleHasNumbers r
first_tells [] r tell e = absurd (cc)
first_tells (c ∷ cs) r tell e =
    let rest = first_tells cs r tell.1 in
    elim c.applies as (λ t. cond t (Some c.answer) (first_rule cs) ≡ Some r → RuleHasNumbers r) [
      | true ↦ λ g. let same : c.answer ≡ r = cc in subst RuleHasNumbers same tell.0
      | false ↦ λ g. rest g
    ] e

tell_append : (cs ds : List Check) → Tell cs → Tell ds → Tell (cs ++ ds)
tell_append [] ds a b = b
tell_append (c ∷ cs) ds a b = (a.0, tell_append cs ds a.1 b)

tell_levels : (w : World) (v : Sessions) (s : ℕ) (ns : List Need) → Tell (map (denied w v s) ns)
tell_levels w v s [] = tt
tell_levels w v s (n ∷ ns) = (tt, tell_levels w v s ns)

tell_before : (w : World) (v : Sessions) (q : Request) → Tell (rules_before_room w v q)
tell_before w v q =
    tell_append (session_rules v q) (block_rules w q ++ (level_rules w v q ++ pair_rules w q)) (tt, (tt, (tt, (tt, tt))))
    (tell_append (block_rules w q) (level_rules w v q ++ pair_rules w q) (tt, (tt, (tt, (tt, (tt, (tt, tt))))))
    (tell_append (level_rules w v q) (pair_rules w q) (tell_levels w v (unwrap_or (session_of q) 0) (needs q)) (tt, (tt, tt))))

-- no rule before applies, so the count is at most 32
few_wanted : (w : World) (v : Sessions) (q : Request) → NoRule (rules_before_room w v q) → unwrap_or (wanted_blocks q) 0 < 2 ^ 32
few_wanted w v q e =
    let one = none_split (session_rules v q) (block_rules w q ++ (level_rules w v q ++ pair_rules w q)) e in
    let two = none_split (block_rules w q) (level_rules w v q ++ pair_rules w q) one.1 in
    let blocks : NoneApply (block_rules w q) = none_apply (block_rules w q) two.0 in
    go (wanted_blocks q) blocks.0
  where
    go : (o : Option ℕ) → option_map_or (λ count. nat_lt count 1 || nat_lt 32 count) o false ≡ false → unwrap_or o 0 < 2 ^ 32
    go None h = omega arith
    go (Some count) h = let most : count ≤ 32 = ltb-false 32 count (or_parts (nat_lt count 1) (nat_lt 32 count) h).1 in omega (arith, most)

pub refusal_fits : (w : World) (v : Sessions) (q : Request) (r : Rule) → IsSized w → verdict w v q ≡ Some r → HasForm (reply.Refused r)
refusal_fits w v q r sized e = record {
  body = tt;
  numbers = elim (first_append (rules_before_room w v q) (room_rules w q) r e) [
    | inl early ↦ first_tells (rules_before_room w v q) r (tell_before w v q) early
    | inr late ↦ first_tells (room_rules w q) r (
      (free_fits w sized, few_wanted w v q late.0),
      (
        (free_fits w sized, few_wanted w v q late.0),
        ((omega (arith, sized.room, sized.lawful.slots.1), omega (arith, sized.lawful.slots.1)), tt),
      ),
    ) late.1
  ];
}
