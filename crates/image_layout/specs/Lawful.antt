-- There is one proof at most that a geometry is lawful, so that a type may keep it beside its fields.
use Rattle.std.proofs.Common.{◌≡◌, ℕ, ◌<◌, ◌≤◌, ◌⊎◌, inl, inr, ⊎_elim, ap, arith}
use Rattle.std.specs.Coded.{×_prop, le_prop, Coded-set, coded_ℕ}
use Rattle.tsd_model.specs.declared.geometry.Geometry.{Geometry}
use Rattle.tsd_model.specs.Geometry.{IsLawful}

pub either_prop : {A B : Type 0} → IsProp A → IsProp B → (A → B → ⊥) → IsProp (A ⊎ B)
either_prop a b never (inl x) (inl y) = ap inl (a x y)
either_prop a b never (inl x) (inr y) = absurd (never x y)
either_prop a b never (inr x) (inl y) = absurd (never y x)
either_prop a b never (inr x) (inr y) = ap inr (b x y)

is_prop : (k n : ℕ) → IsProp (k ≡ n)
is_prop k n = Coded-set coded_ℕ k n

-- no number is one of two different ones
unlike : (k : ℕ) {A : Type 0} (a : ℕ) → (A → a < k) → k ≡ a → A → ⊥
unlike k a above e x = let far = above x in omega (arith, far)

sectors_prop : (k : ℕ) → IsProp ((k ≡ 1) ⊎ (k ≡ 2) ⊎ (k ≡ 4) ⊎ (k ≡ 8))
sectors_prop k =
    let from4 : IsProp ((k ≡ 4) ⊎ (k ≡ 8)) = either_prop (is_prop k 4) (is_prop k 8) (unlike k 4 (λ e. omega arith)) in
    let from2 : IsProp ((k ≡ 2) ⊎ (k ≡ 4) ⊎ (k ≡ 8)) =
    either_prop (is_prop k 2) from4 (unlike k 2 (⊎_elim (λ e. omega arith) (λ e. omega arith))) in
    either_prop (is_prop k 1) from2
    (unlike k 1 (⊎_elim (λ e. omega arith) (⊎_elim (λ e. omega arith) (λ e. omega arith))))

primaries_prop : (g : Geometry) → IsProp ((1 ≤ g.primaries) × (g.primaries ≤ 16) × (g.primaries < g.blocks))
primaries_prop g = hlevel le_prop

pub IsLawful-prop : (g : Geometry) → IsProp (IsLawful g)
IsLawful-prop g x y = λ i. record {
  sectors = sectors_prop g.sectors x.sectors y.sectors i;
  blocks = ×_prop le_prop le_prop x.blocks y.blocks i;
  primaries = primaries_prop g x.primaries y.primaries i;
  slots = ×_prop le_prop le_prop x.slots y.slots i;
}
