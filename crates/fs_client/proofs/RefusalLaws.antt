-- Requests of a client that may write there are refused for want of room alone.
use Rattle.std.proofs.Common.{◌≡◌, ℕ, ◌+◌, ◌≤◌, Bool, true, false, not, cond, ◌&&◌, nat_lt, nat_le, List, [], ◌∷◌, ◌++◌, length, refl, sym, ◌∙◌, ap, arith, Option, Some, None}
use Rattle.fs_client.proofs.Common.{and_parts, not-true, nat_tests, list_all, block_len, World, is_live, is_free, free_count, holds, Sessions, is_open, level_le, attained, Check, first_rule, rules_before_room, room_rules, verdict, IsValid, Shown, Nothing, Hint, Rule, live_below, not_primary, write_is_granted, delete_is_granted, At, first_of, when, FsRefusal, DiskView, state_of, IsValidNow, attains_write, Client, shown_at, write_by, unlink_by, link_by, alloc_by, refusal_of, IsRefused, MayWrite, no_room_in}
use Rattle.tsd_model.specs.declared.requests.Level.TheVariants as level
use Rattle.tsd_model.specs.declared.requests.Request.TheVariants as ask
use Rattle.tsd_model.specs.declared.replies.Rule.TheVariants as rule
use Rattle.fs_trees.specs.declared.refusal.FsRefusal.TheVariants as no
use Rattle.fs_client.proofs.LookLaws.{is_numbered}

-- rules that don't apply are passed by
passed_by : (cs ds : List Check) → list_all (λ c. not c.applies) cs ≡ true → first_rule (cs ++ ds) ≡ first_rule ds
passed_by [] ds h = refl
passed_by (c ∷ cs) ds h = let parts = and_parts (not c.applies) (list_all (λ d. not d.applies) cs) h in
    ap (λ t. cond t (Some c.answer) (first_rule (cs ++ ds))) (not-true c.applies parts.0) ∙ passed_by cs ds parts.1

live_not_free : (w : World) (b : ℕ) → is_live w b ≡ true → is_free w b ≡ false
live_not_free w b h = and_no (nat_lt b (length w.blocks)) (is_live w b) h
  where
    and_no : (s t : Bool) → t ≡ true → (s && not t) ≡ false
    and_no true true e = refl
    and_no false true e = refl
    and_no s false e = absurd (cc)

module _ (w : World) (v : Sessions) (valid : IsValid w) (s : ℕ) (from : 1 ≤ s) (to : s ≤ 64) (there : is_open v s ≡ true) where
  low : nat_lt s 1 ≡ false
  low = grind (arith, nat_tests)

  high : nat_lt 64 s ≡ false
  high = grind (arith, nat_tests)

  on_disk : (b : ℕ) → is_live w b ≡ true → nat_le w.geometry.blocks b ≡ false
  on_disk b h = let below = live_below w.blocks b h in let many = valid.raw.sized.each_block in grind (arith, nat_tests)

  create_verdict : (a b : ℕ) (shown : Shown) → is_live w a ≡ true → is_live w b ≡ true → w.geometry.primaries ≤ b → holds w.pairs a b ≡ false
      → level_le level.Write (attained w v s a shown) ≡ true → level_le level.Write (attained w v s b Nothing) ≡ true
      → verdict w v (ask.Create s a shown b) ≡ first_rule (room_rules w (ask.Create s a shown b))
  create_verdict a b shown live_a live_b above new attains_a attains_b =
      let on_a = on_disk a live_a in
      let on_b = on_disk b live_b in
      let held_a = live_not_free w a live_a in
      let held_b = live_not_free w b live_b in
      let other = not_primary w b above in
      passed_by (rules_before_room w v (ask.Create s a shown b)) (room_rules w (ask.Create s a shown b)) (simp (low, high, there, on_a, on_b, held_a, held_b, attains_a, attains_b, new, other))

  alloc_verdict : (a : ℕ) (shown : Shown) (hint : Hint) (count : ℕ) → 1 ≤ count → count ≤ 32 → is_live w a ≡ true → level_le level.Write (attained w v s a shown) ≡ true
      → verdict w v (ask.Alloc s a shown hint count) ≡ first_rule (room_rules w (ask.Alloc s a shown hint count))
  alloc_verdict a shown hint count some few live attains =
      let on = on_disk a live in
      let held = live_not_free w a live in
      let least : nat_lt count 1 ≡ false = grind (arith, nat_tests) in
      let most : nat_lt 32 count ≡ false = grind (arith, nat_tests) in
      passed_by (rules_before_room w v (ask.Alloc s a shown hint count)) (room_rules w (ask.Alloc s a shown hint count)) (simp (low, high, there, on, held, attains, least, most))

-- ---- by the client

pub write_granted : (c : Client) (v : DiskView) (b : ℕ) (bytes : List ℕ) → IsValidNow v → MayWrite c v b → length bytes ≤ block_len v.world.geometry → ◌≡◌ {A = Option Rule} (verdict v.world v.sessions (write_by c b bytes)) None
write_granted c v b bytes now may fits =
    write_is_granted v.world v.sessions now.valid c.session (is_numbered v.sessions c.session may.begun) may.number may.begun b (shown_at c b) bytes may.live fits may.attains

pub delete_granted : (c : Client) (v : DiskView) (a b : ℕ) → IsValidNow v → MayWrite c v a → holds v.world.pairs a b ≡ true → ◌≡◌ {A = Option Rule} (verdict v.world v.sessions (unlink_by c a b)) None
delete_granted c v a b now may pair =
    delete_is_granted v.world v.sessions now.valid c.session (is_numbered v.sessions c.session may.begun) may.number may.begun a b (shown_at c a) pair may.attains

-- ---- the rules on room, as refusals

none_too_few : (w : World) → nat_lt (free_count w) 0 ≡ false
none_too_few w = let low : 0 ≤ free_count w = omega arith in grind (arith, nat_tests)

clash : (o : Option Rule) (r : Rule) → o ≡ Some r → ◌≡◌ {A = Option Rule} o None → ⊥
clash None r e n = cc
clash (Some x) r e n = cc

inside : (o : Option Rule) (x r : Rule) → o ≡ Some x → o ≡ Some r → x ≡ r
inside o x r e k = let same : Some x ≡ Some r = sym e ∙ k in cc

module _ (w : World) (o : Option Rule) where
  link_room : (s a b : ℕ) (shown : Shown) → o ≡ first_rule (room_rules w (ask.Create s a shown b)) → (◌≡◌ {A = Option Rule} o None → ◌≡◌ {A = Option FsRefusal} (no_room_in w 0 1) None) × ((r : Rule) → o ≡ Some r → no_room_in w 0 1 ≡ Some (refusal_of r))
  link_room s a b shown e = by_test (nat_lt (free_count w) 0) (nat_lt w.geometry.slots (length w.pairs + 1)) (none_too_few w) e
    where
      by_test : (f t : Bool) → f ≡ false → o ≡ cond t (Some (rule.PointersFull (length w.pairs) w.geometry.slots)) None
          → (◌≡◌ {A = Option Rule} o None → ◌≡◌ {A = Option FsRefusal} (first_of (when f (no.Full (free_count w) 0) ∷ when t (no.PointersFull (length w.pairs) w.geometry.slots) ∷ [])) None)
          × ((r : Rule) → o ≡ Some r → first_of (when f (no.Full (free_count w) 0) ∷ when t (no.PointersFull (length w.pairs) w.geometry.slots) ∷ []) ≡ Some (refusal_of r))
      by_test true t g e = absurd (cc)
      by_test false true g e = (λ n. absurd (clash o (rule.PointersFull (length w.pairs) w.geometry.slots) e n), λ r k. let same : rule.PointersFull (length w.pairs) w.geometry.slots ≡ r = inside o _ r e k in ap (λ x. Some (refusal_of x)) same)
      by_test false false g e = (λ n. refl, λ r k. absurd (clash o r k e))

  take_room : (s a : ℕ) (shown : Shown) (hint : Hint) (count : ℕ) → o ≡ first_rule (room_rules w (ask.Alloc s a shown hint count)) → (◌≡◌ {A = Option Rule} o None → ◌≡◌ {A = Option FsRefusal} (no_room_in w count count) None) × ((r : Rule) → o ≡ Some r → no_room_in w count count ≡ Some (refusal_of r))
  take_room s a shown hint count e = by_test (nat_lt (free_count w) count) (nat_lt w.geometry.slots (length w.pairs + count)) e
    where
      by_test : (f t : Bool) → o ≡ cond f (Some (rule.Full (free_count w) count)) (cond t (Some (rule.PointersFull (length w.pairs) w.geometry.slots)) None)
          → (◌≡◌ {A = Option Rule} o None → ◌≡◌ {A = Option FsRefusal} (first_of (when f (no.Full (free_count w) count) ∷ when t (no.PointersFull (length w.pairs) w.geometry.slots) ∷ [])) None)
          × ((r : Rule) → o ≡ Some r → first_of (when f (no.Full (free_count w) count) ∷ when t (no.PointersFull (length w.pairs) w.geometry.slots) ∷ []) ≡ Some (refusal_of r))
      by_test true t e = (λ n. absurd (clash o (rule.Full (free_count w) count) e n), λ r k. let same : rule.Full (free_count w) count ≡ r = inside o _ r e k in ap (λ x. Some (refusal_of x)) same)
      by_test false true e = (λ n. absurd (clash o (rule.PointersFull (length w.pairs) w.geometry.slots) e n), λ r k. let same : rule.PointersFull (length w.pairs) w.geometry.slots ≡ r = inside o _ r e k in ap (λ x. Some (refusal_of x)) same)
      by_test false false e = (λ n. refl, λ r k. absurd (clash o r k e))

module _ (c : Client) (v : DiskView) (now : IsValidNow v) where
  module _ (a b : ℕ) (may : MayWrite c v a) (live : is_live v.world b ≡ true) (above : v.world.geometry.primaries ≤ b) (way : attains_write (state_of v) c.session b Nothing ≡ true) (new : holds v.world.pairs a b ≡ false) where
    link_rooms : (◌≡◌ {A = Option Rule} (verdict v.world v.sessions (link_by c a b)) None → ◌≡◌ {A = Option FsRefusal} (no_room_in v.world 0 1) None) × ((r : Rule) → verdict v.world v.sessions (link_by c a b) ≡ Some r → no_room_in v.world 0 1 ≡ Some (refusal_of r))
    link_rooms = link_room v.world (verdict v.world v.sessions (link_by c a b)) c.session a b (shown_at c a)
        (create_verdict v.world v.sessions now.valid c.session (is_numbered v.sessions c.session may.begun) may.number may.begun a b (shown_at c a) may.live live above new may.attains way)

    pub link_has_room : ◌≡◌ {A = Option Rule} (verdict v.world v.sessions (link_by c a b)) None → ◌≡◌ {A = Option FsRefusal} (no_room_in v.world 0 1) None
    link_has_room = link_rooms.0

    pub link_has_none : (e : FsRefusal) → IsRefused v (link_by c a b) e → no_room_in v.world 0 1 ≡ Some e
    link_has_none e refused = link_rooms.1 refused.0 refused.1 ∙ ap (λ x. Some x) refused.2

  module _ (a count : ℕ) (may : MayWrite c v a) (some : 1 ≤ count) (few : count ≤ 32) where
    take_rooms : (◌≡◌ {A = Option Rule} (verdict v.world v.sessions (alloc_by c a count)) None → ◌≡◌ {A = Option FsRefusal} (no_room_in v.world count count) None) × ((r : Rule) → verdict v.world v.sessions (alloc_by c a count) ≡ Some r → no_room_in v.world count count ≡ Some (refusal_of r))
    take_rooms = take_room v.world (verdict v.world v.sessions (alloc_by c a count)) c.session a (shown_at c a) (At a) count
        (alloc_verdict v.world v.sessions now.valid c.session (is_numbered v.sessions c.session may.begun) may.number may.begun a (shown_at c a) (At a) count some few may.live may.attains)

    pub take_has_room : ◌≡◌ {A = Option Rule} (verdict v.world v.sessions (alloc_by c a count)) None → ◌≡◌ {A = Option FsRefusal} (no_room_in v.world count count) None
    take_has_room = take_rooms.0

    pub take_has_none : (e : FsRefusal) → IsRefused v (alloc_by c a count) e → no_room_in v.world count count ≡ Some e
    take_has_none e refused = take_rooms.1 refused.0 refused.1 ∙ ap (λ x. Some x) refused.2
