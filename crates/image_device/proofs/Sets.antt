-- Sets of sectors, each a test of numbers.
use Rattle.std.proofs.Common.{◌≡◌, ◌≢◌, ℕ, Bool, true, false, ◌==◌, ◌||◌, refl, arith}
use Rattle.std.proofs.lemmas.Bool.Decides.{nat_tests}

-- both tests fail
pub or_false : (a b : Bool) → a ≡ false → b ≡ false → (a || b) ≡ false
or_false true b h k = absurd (cc)
or_false false b h k = k

pub or_false_left : (a b : Bool) → (a || b) ≡ false → a ≡ false
or_false_left true b h = h
or_false_left false b h = refl

pub or_false_right : (a b : Bool) → (a || b) ≡ false → b ≡ false
or_false_right true b h = absurd (cc)
or_false_right false b h = h

pub not_same : (n m : ℕ) → (n == m) ≡ false → n ≢ m
not_same n m h e = grind (arith, nat_tests)
