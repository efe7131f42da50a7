-- Which blocks are lost after a pair or a block is taken away.
use Rattle.std.proofs.Common.{◌≡◌, ℕ, ◌≤◌, Bool, true, false, not, ◌&&◌, ◌||◌, ◌==◌, List, [], ◌∷◌, refl, sym, ◌∙◌, ap, subst, ◌⊎◌, ◌↔◌, inl, inr, None}
use Rattle.graph_laws.proofs.Common.{eq-eqb, eqb-true, and_parts, and_cases, both_ways, cases_eq, ne_eqb, not-false, false_from_ne_true, get_or-set_same, get_or-set_other, slice_index_or, holds, count_to, World, is_live, has_number, without_pointer, Geometry, live_below, IsRawGraph, with_free, without_pointers, stepped, IsStep, IsLost, none_pass, none_passes}
use Rattle.std.specs.Prelude.{is_some}
use Rattle.graph_laws.proofs.CountLaws.{led_or_alone}
use Rattle.graph_laws.proofs.StepLaws.{blocks-without_pointers, geometry-without_pointers, holds-without_pointers, lost-without_pointers}

-- no pair leads to a block exactly where its count is 0
pub alone_count : (es : List (ℕ × ℕ)) (b : ℕ) → ((a : ℕ) → holds es a b ≡ false) → count_to es b ≡ 0
alone_count es b none = none_pass (λ e. e.1 == b) es (λ a c held. ne_eqb c b (λ same. both_ways (holds es a b) (none a) (subst (λ k. holds es a k ≡ true) same held)))

pub count_alone : (es : List (ℕ × ℕ)) (b : ℕ) → count_to es b ≡ 0 → (a : ℕ) → holds es a b ≡ false
count_alone es b none a = false_from_ne_true (holds es a b) (λ held. both_ways (b == b) (none_passes (λ e. e.1 == b) es none a b held) (eq-eqb b b refl))

-- ---- pairs from one block are taken

module _ (r : World) (raw : IsRawGraph r) (a : ℕ) (bs : List ℕ) where
  live_same : (c : ℕ) → is_live (without_pointers r a bs) c ≡ is_live r c
  live_same c = ap (λ blocks. is_some (slice_index_or blocks c None)) (blocks-without_pointers a bs r)

  -- lost blocks are those that were, and the targets to which no pair is left
  pub lost_after_pointers : (c : ℕ) → IsLost (without_pointers r a bs) c → IsLost r c ⊎ ((has_number bs c ≡ true) × ((x : ℕ) → holds (without_pointers r a bs).pairs x c ≡ false))
  lost_after_pointers c lost = elim (led_or_alone r.pairs c) [
    | inr alone ↦ inl (record { live = sym (live_same c) ∙ lost.live; apart = subst (λ (g : Geometry). g.primaries ≤ c) (geometry-without_pointers a bs r) lost.apart; alone = alone })
    | inl led ↦
        let off : (holds r.pairs led.0 c && not ((led.0 == a) && has_number bs c)) ≡ false = sym (holds-without_pointers a bs r led.0 c) ∙ lost.alone led.0 in
        elim (and_cases (holds r.pairs led.0 c) (not ((led.0 == a) && has_number bs c)) off) [
          | inl no_ ↦ absurd (both_ways (holds r.pairs led.0 c) no_ led.1)
          | inr taken ↦ inr ((and_parts (led.0 == a) (has_number bs c) (not-false ((led.0 == a) && has_number bs c) taken)).1, lost.alone)
        ]
  ]

  -- a held target to which no pair is left is lost
  pub target_is_lost : (c : ℕ) → holds r.pairs a c ≡ true → ((x : ℕ) → holds (without_pointers r a bs).pairs x c ≡ false) → IsLost (without_pointers r a bs) c
  target_is_lost c held alone = record {
    live = live_same c ∙ raw.targets a c held;
    apart = subst (λ (g : Geometry). g.primaries ≤ c) (sym (geometry-without_pointers a bs r)) (raw.apart a c held);
    alone = alone;
  }

-- ---- a block is freed

pub lost_after_free : (r : World) (b c : ℕ) → is_live r b ≡ true → IsLost (with_free r b) c → IsLost r c × (c ≡ b → ⊥)
lost_after_free r b c live lost = elim (cases_eq c b) [
  | inl same ↦ absurd (both_ways (is_live (with_free r b) b) (ap is_some (get_or-set_same r.blocks b None None (live_below r.blocks b live))) (subst (λ k. is_live (with_free r b) k ≡ true) same lost.live))
  | inr other ↦ (record { live = ap is_some (sym (get_or-set_other r.blocks b c None None other)) ∙ lost.live; apart = lost.apart; alone = lost.alone }, other)
]

pub still_lost_after_free : (r : World) (b c : ℕ) → IsLost r c → (c ≡ b → ⊥) → IsLost (with_free r b) c
still_lost_after_free r b c lost other = record { live = ap is_some (get_or-set_other r.blocks b c None None other) ∙ lost.live; apart = lost.apart; alone = lost.alone }

-- ---- a step

-- After a step at a lost block the lost ones are those that were, without it if it is freed, and the targets to which no pair is left.
pub lost_after_step : (r : World) (a : ℕ) (bs : List ℕ) (freed : Bool) (c : ℕ) → IsRawGraph r → IsLost r a → IsStep r a bs freed
    → IsLost (stepped r a bs freed) c ↔ ((IsLost r c × (freed ≡ true → c ≡ a → ⊥)) ⊎ ((has_number bs c ≡ true) × ((x : ℕ) → holds (stepped r a bs freed).pairs x c ≡ false)))
lost_after_step r a bs true c raw lost step = (forth, back)
  where
    live : is_live (without_pointers r a bs) a ≡ true
    live = live_same r raw a bs a ∙ lost.live

    forth : IsLost (stepped r a bs true) c → (IsLost r c × (true ≡ true → c ≡ a → ⊥)) ⊎ ((has_number bs c ≡ true) × ((x : ℕ) → holds (stepped r a bs true).pairs x c ≡ false))
    forth l = let before = lost_after_free (without_pointers r a bs) a c live l in
        elim (lost_after_pointers r raw a bs c before.0) [ inl old ↦ inl (old, λ _. before.1) | inr new ↦ inr new ]

    back : (IsLost r c × (true ≡ true → c ≡ a → ⊥)) ⊎ ((has_number bs c ≡ true) × ((x : ℕ) → holds (stepped r a bs true).pairs x c ≡ false)) → IsLost (stepped r a bs true) c
    back h = elim h [
      | inl old ↦ still_lost_after_free (without_pointers r a bs) a c (lost-without_pointers a bs r c old.0) (old.1 refl)
      | inr new ↦ still_lost_after_free (without_pointers r a bs) a c (target_is_lost r raw a bs c (step.taken.held c new.0) new.1)
          (λ same. both_ways (holds r.pairs a c) (subst (λ k. holds r.pairs a k ≡ false) (sym same) (lost.alone a)) (step.taken.held c new.0))
    ]
lost_after_step r a bs false c raw lost step = (forth, back)
  where
    forth : IsLost (without_pointers r a bs) c → (IsLost r c × (false ≡ true → c ≡ a → ⊥)) ⊎ ((has_number bs c ≡ true) × ((x : ℕ) → holds (without_pointers r a bs).pairs x c ≡ false))
    forth l = elim (lost_after_pointers r raw a bs c l) [ inl old ↦ inl (old, λ e. absurd (cc)) | inr new ↦ inr new ]

    back : (IsLost r c × (false ≡ true → c ≡ a → ⊥)) ⊎ ((has_number bs c ≡ true) × ((x : ℕ) → holds (without_pointers r a bs).pairs x c ≡ false)) → IsLost (without_pointers r a bs) c
    back h = elim h [ inl old ↦ lost-without_pointers a bs r c old.0 | inr new ↦ target_is_lost r raw a bs c (step.taken.held c new.0) new.1 ]

-- After a pointer of a world is deleted the lost blocks are those that were, and its target where no pair to it is left.
pub lost_after_delete : (r : World) (a b c : ℕ) → IsRawGraph r → holds r.pairs a b ≡ true
    → IsLost (without_pointer r a b) c ↔ (IsLost r c ⊎ ((c ≡ b) × ((x : ℕ) → holds (without_pointer r a b).pairs x c ≡ false)))
lost_after_delete r a b c raw held = (
  λ l. elim (lost_after_pointers r raw a (b ∷ []) c l) [ inl old ↦ inl old | inr new ↦ inr (one new.0, new.1) ],
  λ h. elim h [ inl old ↦ lost-without_pointers a (b ∷ []) r c old | inr new ↦ target_is_lost r raw a (b ∷ []) c (subst (λ k. holds r.pairs a k ≡ true) (sym new.0) held) new.1 ],
)
  where
    one : ((b == c) || false) ≡ true → c ≡ b
    one h = sym (eqb-true b c (elim (b == c) as (λ t. (t || false) ≡ true → t ≡ true) [ true ↦ λ _. refl | false ↦ λ e. e ] h))
