-- A failed loading of the counts or of the records, told by the fault that the loading of the tables makes of it.
use Rattle.std.proofs.Common.{◌≡◌, ℕ, refl, Ok, Err, Result}
use native.Mathlib.Omega.{arith}
use Rattle.image_world.proofs.Common.{IsErrOf, Rose, LoadFault}
use Rattle.cap_store.specs.declared.fault.LoadFault.{LoadFault as CapFault}
use Rattle.cap_store.specs.declared.fault.LoadFault.TheVariants as cap_fault
use Rattle.ref_counts.specs.declared.fault.LoadFault.{LoadFault as CountFault}
use Rattle.ref_counts.specs.declared.fault.LoadFault.TheVariants as count_fault
use Rattle.image_world.specs.LoadFaults.{of_counts, of_caps}
use Rattle.image_world.specs.declared.fault.LoadFault.TheVariants as fault

module _ {T S : Type 0} where
  -- unless the device failed, its count of faults is as it was
  pub same_after_caps : {n m : ℕ} (r : Result T LoadFault) (why : CapFault) → r ≡ Err (of_caps why) → (¬ IsErrOf {T = S} (Err why) cap_fault.Device → n ≡ m) → ¬ IsErrOf r fault.Device → n ≡ m
  same_after_caps r cap_fault.NoMemory is same other = same (λ (e : IsErrOf {T = S} (Err cap_fault.NoMemory) cap_fault.Device). cc)
  same_after_caps r cap_fault.Device is same other = absurd (other is)

  -- where it failed, the count rose
  pub rose_after_caps : (n m : ℕ) (r : Result T LoadFault) (why : CapFault) → r ≡ Err (of_caps why) → (IsErrOf {T = S} (Err why) cap_fault.Device → Rose n m) → IsErrOf r fault.Device → Rose n m
  rose_after_caps n m r cap_fault.NoMemory is cause device = grind arith
  rose_after_caps n m r cap_fault.Device is cause device = cause refl

  pub same_after_counts : {n m : ℕ} (r : Result T LoadFault) (why : CountFault) → r ≡ Err (of_counts why) → (¬ IsErrOf {T = S} (Err why) count_fault.Device → n ≡ m) → ¬ IsErrOf r fault.Device → n ≡ m
  same_after_counts r count_fault.NoMemory is same other = same (λ (e : IsErrOf {T = S} (Err count_fault.NoMemory) count_fault.Device). cc)
  same_after_counts r count_fault.Device is same other = absurd (other is)

  pub rose_after_counts : (n m : ℕ) (r : Result T LoadFault) (why : CountFault) → r ≡ Err (of_counts why) → (IsErrOf {T = S} (Err why) count_fault.Device → Rose n m) → IsErrOf r fault.Device → Rose n m
  rose_after_counts n m r count_fault.NoMemory is cause device = grind arith
  rose_after_counts n m r count_fault.Device is cause device = cause refl

-- what is loaded didn't fail
pub loaded_is_no_fault : {T E : Type 0} (x : T) (e : E) → IsErrOf (Ok x) e → ⊥
loaded_is_no_fault x e is = grind arith
