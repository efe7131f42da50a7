-- Tests of numbers and of two tests together.
use Rattle.std.proofs.Common.{◌≡◌, ℕ, ◌<◌, ◌≤◌, ◌==◌, ◌&&◌, ◌||◌, not, Bool, true, false, refl, arith}
use Rattle.intent_journal.proofs.Common.{nat_tests}

pub and_true_parts : (a b : Bool) → (a && b) ≡ true → (a ≡ true) × (b ≡ true)
and_true_parts true b h = (refl, h)
and_true_parts false b h = absurd (cc)

pub not_true : (a : Bool) → not a ≡ true → a ≡ false
not_true true h = absurd (cc)
not_true false h = refl

pub other_way : (n m : ℕ) → (n == m) ≡ false → (m == n) ≡ false
other_way n m h = grind (arith, nat_tests)

pub equal_numbers : (n m : ℕ) → (n == m) ≡ true → n ≡ m
equal_numbers n m h = grind (arith, nat_tests)

pub still_room : (n most : ℕ) → n ≤ most → (n == most) ≡ false → n < most
still_room n most within h = grind (arith, nat_tests)
