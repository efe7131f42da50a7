-- How often the end of an input was found.
use Rattle.std.proofs.Common.{◌≡◌, ℕ, ◌+◌, ◌≤◌, ◌<◌, ◌==◌, if◌then◌else◌, cond, false, ap, arith}
use Rattle.image_device.specs.Counts.{raised}
use Rattle.serving.specs.declared.protocol.Ending.{Ending}
use Rattle.serving.specs.declared.protocol.Ending.TheVariants as ending
use Rattle.serving.specs.declared.intake.Intake.{Intake}
use Rattle.serving.specs.declared.intake.Next.{Next}
use Rattle.serving.specs.declared.intake.Next.TheVariants as next
use Rattle.serving.specs.Goes.{ends_left, IsNextAtEnd}

pub ends_open : (i : Intake) → i.over ≡ false → ends_left i ≡ 1
ends_open i e = ap (λ b. cond b 0 1) e

pub more_taken : (count before now : ℕ) → 0 < count → now ≡ (if count == 0 then raised before else before) → now ≡ before
more_taken count before now some e = grind arith

pub end_taken : (count before now : ℕ) → count ≡ 0 → now ≡ (if count == 0 then raised before else before) → now ≤ before + 1
end_taken count before now none e = grind arith

pub later_same : (i j : Intake) (before now : ℕ) → i.over ≡ false → j.over ≡ false → now ≡ before → now + ends_left j ≤ before + ends_left i
later_same i j before now io jo e = omega (arith, ends_open i io, ends_open j jo)

pub later_at_end : {Q : Type 0} (e : Ending Q) (r : Next) (i j : Intake) (q : Q) (before now : ℕ) → IsNextAtEnd e r q j.over i.over → i.over ≡ false → now ≤ before + 1 → r ≡ next.Request → now + ends_left j ≤ before + ends_left i
later_at_end ending.Nothing r i j q before now n io le is = absurd cc
later_at_end ending.CutOff r i j q before now n io le is = absurd cc
later_at_end (ending.One x) r i j q before now n io le is = let o : ends_left j ≡ 0 = ap (λ b. cond b 0 1) n.1 in omega (arith, o, ends_open i io, le)
