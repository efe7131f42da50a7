-- A pointer more: whether it waits for a slot.
use Rattle.std.proofs.Common.{◌≡◌, ◌≢◌, ℕ, ◌+◌, ◌-◌, ◌==◌, ◌||◌, true, false, cond, inl, inr, arith, Result}
use Rattle.tsd_core.proofs.Common.{OnOk, cases_Bool, nat_tests}
use Rattle.tsd_core.proofs.Operations.{then_ok}

pub some_slot : (a b : ℕ) → (false || ((a == b) || false)) ≡ false → a ≢ b
some_slot a b other same = grind (arith, nat_tests)

are_same : (a b : ℕ) → (a == b) ≡ true → a ≡ b
are_same a b e = grind (arith, nat_tests)

differ : (a b : ℕ) → (a == b) ≡ false → a ≢ b
differ a b e same = grind (arith, nat_tests)

pub then_owed : {T E : Type 0} (r : Result T E) (a b before now : ℕ) → (a ≡ b → OnOk r (now ≡ 0)) → (a ≢ b → OnOk r (now ≡ before)) → OnOk r (now ≡ cond (false || ((a == b) || false)) 0 (before + (0 - 1)))
then_owed r a b before now full room = elim (cases_Bool (a == b)) [
  | inl e ↦ rw e (full (are_same a b e))
  | inr e ↦ rw e (then_ok r (λ (same : now ≡ before). omega (arith, same)) (room (differ a b e)))
]
