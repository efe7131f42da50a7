use Rattle.std.proofs.Common.{◌≡◌, ℕ, ◌<◌, false, IsTrue}
use Rattle.image_audit.specs.Entries.{is_listed}
use Rattle.image_copy.proofs.shared.first_in_both.Given as goal

-- of the blocks so far, none that the one lists is listed by the other
abbrev pub invariant-loop-block : goal.invariant-loop-block
invariant-loop-block l = (c : ℕ) → c < l.block → IsTrue (is_listed l.one c) → is_listed l.other c ≡ false
