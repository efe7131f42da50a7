-- What settling leaves, and which steps it doesn't see.
use Rattle.std.proofs.Common.{◌≡◌, ℕ, Bool, true, false, not, cond, ◌&&◌, ◌==◌, List, [], ◌∷◌, length, refl, sym, ◌∙◌, ap, subst, inl, inr, Option, None}
use Rattle.graph_laws.proofs.Common.{eq-eqb, and_parts, and_from, and_left, both_ways, cases_Bool, cases_eq, false_from_ne_true, ltb-false, or_left, length-set, holds, is_rising, World, contents, is_live, has_number, doomed, settle, IsRaw, IsValid, contents-restricted, holds-filter, is_rising-filter, same_tests, live-restricted, holds-restricted, settle_is_valid, not_primary, target_stays, source_stays, stays, IsLaidOut, IsRawGraph, EachIsLedTo, with_pairs_that, with_free, IsLost, doomed_is_live}
use Rattle.std.specs.Prelude.{is_some}
use Rattle.graph_laws.proofs.SameLaws.{length-restricted, restricted_same, restricted_whole}
use Rattle.graph_laws.proofs.DoomedLaws.{doomed_least, doomed_least_of, doomed_is_no_primary, doomed_from, doomed_in, stays_by_pairs}
use Rattle.graph_laws.proofs.RawGraphLaws.{graph-restricted, laid_out-with_free, contents-with_free, contents-freed}

-- these bytes, if they pass
abbrev pub passed : Bool → Option (List ℕ) → Option (List ℕ)
passed t o = cond t o None

none_either : (t : Bool) → ◌≡◌ {A = Option (List ℕ)} (cond t None None) None
none_either true = refl
none_either false = refl

pub contents-settle : (w : World) (b : ℕ) → contents (settle w) b ≡ cond (stays w b) (contents w b) None
contents-settle w b = contents-restricted w (stays w) b

pub live-settle : (w : World) (b : ℕ) → is_live (settle w) b ≡ (stays w b && is_live w b)
live-settle w b = live-restricted w (stays w) b

pub holds-settle : (w : World) (a b : ℕ) → holds (settle w).pairs a b ≡ (holds w.pairs a b && stays w a)
holds-settle w a b = holds-restricted w (stays w) a b

pub length-settle : (w : World) → length (settle w).blocks ≡ length w.blocks
length-settle w = length-restricted w (stays w)

-- two worlds settle to one where they have the same blocks that stay, and the same pairs from these
pub settle_same : (v w : World) → v.geometry ≡ w.geometry → v.version ≡ w.version → v.records ≡ w.records → length v.blocks ≡ length w.blocks
    → is_rising v.pairs ≡ true → is_rising w.pairs ≡ true
    → ((b : ℕ) → cond (stays v b) (contents v b) None ≡ cond (stays w b) (contents w b) None)
    → ((a b : ℕ) → (holds v.pairs a b && stays v a) ≡ (holds w.pairs a b && stays w a))
    → settle v ≡ settle w
settle_same v w = restricted_same v w (stays v) (stays w)

-- ---- where nothing is doomed

-- a world with no doomed block is settled
pub settle_of_none : (w : World) → is_rising w.pairs ≡ true → ((b : ℕ) → has_number (doomed w) b ≡ false) → settle w ≡ w
settle_of_none w rising none = restricted_whole w (stays w) rising (λ b _. ap not (none b)) (λ a b _. ap not (none a))

empty_of_none : (xs : List ℕ) → ((b : ℕ) → has_number xs b ≡ false) → xs ≡ []
empty_of_none [] h = refl
empty_of_none (x ∷ xs) h = absurd (both_ways (has_number (x ∷ xs) x) (h x) (or_left (x == x) (has_number xs x) (eq-eqb x x refl)))

-- where each live block that isn't primary is led to, nothing is doomed
pub none_doomed : (w : World) → EachIsLedTo w → (b : ℕ) → has_number (doomed w) b ≡ false
none_doomed w led b = false_from_ne_true (has_number (doomed w) b) (doomed_least w (λ _. ⊥)
    (λ c live other all. let from = led c (ltb-false c w.geometry.primaries other) live in all from.0 from.1) b)

pub led_has_none : (w : World) → EachIsLedTo w → doomed w ≡ []
led_has_none w led = empty_of_none (doomed w) (none_doomed w led)

-- and the other way round
pub none_is_led : (w : World) → length w.blocks ≡ w.geometry.blocks → doomed w ≡ [] → EachIsLedTo w
none_is_led w long none b apart live = let from = source_stays w long b apart (ap not (ap (λ xs. has_number xs b) none)) live in (from.0, from.1)

pub settle_none : (w : World) → IsLaidOut w → doomed w ≡ [] → settle w ≡ w
settle_none w out none = settle_of_none w out.rising (λ b. ap (λ xs. has_number xs b) none)

-- a valid world is settled
pub valid_is_settled : (w : World) → IsValid w → settle w ≡ w
valid_is_settled w valid = settle_of_none w valid.raw.rising (none_doomed w valid.led_to)

-- a raw world in which nothing is doomed is valid
pub none_is_valid : (w : World) → IsRaw w → doomed w ≡ [] → IsValid w
none_is_valid w raw none = subst IsValid (settle_of_none w raw.rising (λ b. ap (λ xs. has_number xs b) none)) (settle_is_valid w raw)

-- a lost block is doomed
pub lost_is_doomed : (w : World) → length w.blocks ≡ w.geometry.blocks → (b : ℕ) → IsLost w b → has_number (doomed w) b ≡ true
lost_is_doomed w long b lost = doomed_from w long b lost.live (not_primary w b lost.apart) (λ a held. absurd (both_ways (holds w.pairs a b) (lost.alone a) held))

-- a raw graph settles to one
pub graph-settle : (r : World) → IsRawGraph r → IsRawGraph (settle r)
graph-settle r raw = graph-restricted r (stays r) (λ b h. (stays_by_pairs r b raw.laid_out.each_block (raw.primaries b h)).1 (inl h)) (target_stays r raw.laid_out.each_block) raw

-- ---- fewer pairs

module _ (r : World) (out : IsLaidOut r) (keep : (ℕ × ℕ) → Bool) where
  held_before : (a b : ℕ) → holds (with_pairs_that r keep).pairs a b ≡ true → (holds r.pairs a b ≡ true) × (keep (a, b) ≡ true)
  held_before a b h = and_parts (holds r.pairs a b) (keep (a, b)) (sym (holds-filter keep r.pairs a b) ∙ h)

  -- what is doomed stays doomed
  pub stays_doomed : (b : ℕ) → has_number (doomed r) b ≡ true → has_number (doomed (with_pairs_that r keep)) b ≡ true
  stays_doomed = doomed_in r (with_pairs_that r keep) out.each_block out.each_block
      (λ b is. (doomed_is_live r out.each_block b is, doomed_is_no_primary r out.each_block b is))
      (λ a b is held. inl (held_before a b held).0)

  module _ (gone : (a b : ℕ) → holds r.pairs a b ≡ true → keep (a, b) ≡ false → has_number (doomed r) a ≡ true) where
    -- where all that is taken comes from doomed blocks, the same blocks are doomed
    pub same_doomed : (b : ℕ) → has_number (doomed (with_pairs_that r keep)) b ≡ has_number (doomed r) b
    same_doomed b = same_tests (has_number (doomed (with_pairs_that r keep)) b) (has_number (doomed r) b)
        (doomed_in (with_pairs_that r keep) r out.each_block out.each_block
        (λ c is. (doomed_is_live (with_pairs_that r keep) out.each_block c is, doomed_is_no_primary (with_pairs_that r keep) out.each_block c is))
        (λ a c is held. elim (cases_Bool (keep (a, c))) [
          | inl kept ↦ inl (holds-filter keep r.pairs a c ∙ and_from (holds r.pairs a c) (keep (a, c)) held kept)
          | inr taken ↦ inr (gone a c held taken)
        ]) b)
        (stays_doomed b)

    -- and the world settles as before
    pub settle-with_pairs_that : settle (with_pairs_that r keep) ≡ settle r
    settle-with_pairs_that = settle_same (with_pairs_that r keep) r refl refl refl refl (is_rising-filter keep r.pairs out.rising) out.rising
        (λ b. ap (λ t. cond (not t) (contents r b) None) (same_doomed b))
        (λ a b. ap (λ t. t && stays (with_pairs_that r keep) a) (holds-filter keep r.pairs a b)
        ∙ (ap (λ t. (holds r.pairs a b && keep (a, b)) && not t) (same_doomed a)
        ∙ taken (holds r.pairs a b) (keep (a, b)) (has_number (doomed r) a) (gone a b)))
      where
        taken : (h k d : Bool) → (h ≡ true → k ≡ false → d ≡ true) → ((h && k) && not d) ≡ (h && not d)
        taken true true d f = refl
        taken true false d f = sym (ap not (f refl refl))
        taken false k d f = refl

-- ---- a block less

module _ (r : World) (laid : IsLaidOut r) (b : ℕ) (is : has_number (doomed r) b ≡ true) (out : (c : ℕ) → holds r.pairs b c ≡ false) where
  freed_not_live : is_live (with_free r b) b ≡ true → ⊥
  freed_not_live h = both_ways (is_live (with_free r b) b) (ap is_some (contents-freed r b)) h

  was_live : (c : ℕ) → is_live (with_free r b) c ≡ true → (c ≡ b → ⊥) × (is_live r c ≡ true)
  was_live c h = elim (cases_eq c b) [
    | inl same ↦ absurd (freed_not_live (subst (λ k. is_live (with_free r b) k ≡ true) same h))
    | inr other ↦ (other, ap is_some (sym (contents-with_free r b c other)) ∙ h)
  ]

  freed_long : length (with_free r b).blocks ≡ r.geometry.blocks
  freed_long = (laid_out-with_free r b laid).each_block

  -- all else that was doomed is
  pub doomed_freed : (c : ℕ) → (c ≡ b → ⊥) → has_number (doomed (with_free r b)) c ≡ has_number (doomed r) c
  doomed_freed c other = same_tests (has_number (doomed (with_free r b)) c) (has_number (doomed r) c)
      (doomed_in (with_free r b) r freed_long laid.each_block
      (λ x d. ((was_live x (doomed_is_live (with_free r b) freed_long x d)).1, doomed_is_no_primary (with_free r b) freed_long x d))
      (λ a x d held. inl held) c)
      (λ d. doomed_least_of r laid.each_block (λ x. (x ≡ b → ⊥) → has_number (doomed (with_free r b)) x ≡ true) rule c d other)
    where
      rule : (x : ℕ) → has_number (doomed r) x ≡ true → ((a : ℕ) → holds r.pairs a x ≡ true → (a ≡ b → ⊥) → has_number (doomed (with_free r b)) a ≡ true) → (x ≡ b → ⊥) → has_number (doomed (with_free r b)) x ≡ true
      rule x d all away = doomed_from (with_free r b) freed_long x
          (ap is_some (contents-with_free r b x away) ∙ doomed_is_live r laid.each_block x d)
          (doomed_is_no_primary r laid.each_block x d)
          (λ a held. all a held (λ same. both_ways (holds r.pairs b x) (out x) (subst (λ k. holds r.pairs k x ≡ true) same held)))

  pub freed_is_not_doomed : has_number (doomed (with_free r b)) b ≡ false
  freed_is_not_doomed = false_from_ne_true (has_number (doomed (with_free r b)) b) (λ d. freed_not_live (doomed_is_live (with_free r b) freed_long b d))

  pub settle-with_free : settle (with_free r b) ≡ settle r
  settle-with_free = settle_same (with_free r b) r refl refl refl (length-set r.blocks b None) laid.rising laid.rising inside held
    where
      inside : (c : ℕ) → cond (stays (with_free r b) c) (contents (with_free r b) c) None ≡ cond (stays r c) (contents r c) None
      inside c = elim (cases_eq c b) [
        | inl same ↦ subst (λ k. cond (stays (with_free r b) k) (contents (with_free r b) k) None ≡ cond (stays r k) (contents r k) None) (sym same)
            (ap (passed (stays (with_free r b) b)) (contents-freed r b) ∙ (none_either (stays (with_free r b) b) ∙ sym (ap (λ t. cond (not t) (contents r b) None) is)))
        | inr other ↦ ap (passed (stays (with_free r b) c)) (contents-with_free r b c other) ∙ ap (λ t. cond (not t) (contents r c) None) (doomed_freed c other)
      ]

      held : (a c : ℕ) → (holds r.pairs a c && stays (with_free r b) a) ≡ (holds r.pairs a c && stays r a)
      held a c = elim (cases_eq a b) [
        | inl same ↦ let no : holds r.pairs a c ≡ false = subst (λ k. holds r.pairs k c ≡ false) (sym same) (out c) in
            and_left (holds r.pairs a c) (stays (with_free r b) a) no ∙ sym (and_left (holds r.pairs a c) (stays r a) no)
        | inr other ↦ ap (λ t. holds r.pairs a c && not t) (doomed_freed a other)
      ]
