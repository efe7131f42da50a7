use Rattle.std.proofs.Common.{refl, arith, length, ◌<◌, ◌≤◌, ℕ}
use Rattle.inode_layout.proofs.inode.Inode.parse.Goals as goal

both : (n : ℕ) → n < 16 → 16 ≤ n → ⊥
both n a b = absurd (omega arith)

pub returns-then-len-lt-HEAD_BYTES-clause-said : goal.returns-then-len-lt-HEAD_BYTES-clause-said
returns-then-len-lt-HEAD_BYTES-clause-said c = λ h. absurd (both (length c.args.bytes) (omega (arith, c.len.ensures.value, c.if-len-lt-HEAD_BYTES.true)) h)

pub returns-then-len-lt-HEAD_BYTES-clause-short : goal.returns-then-len-lt-HEAD_BYTES-clause-short
returns-then-len-lt-HEAD_BYTES-clause-short c = λ h. refl

pub parse_whole-requires : goal.parse_whole-requires
parse_whole-requires c = omega (arith, c.len.ensures.value, c.if-len-lt-HEAD_BYTES.false)

pub returns-clause-said : goal.returns-clause-said
returns-clause-said c = λ h. c.parse_whole.ensures.said

pub returns-clause-short : goal.returns-clause-short
returns-clause-short c = λ h. absurd (both (length c.args.bytes) h (omega (arith, c.len.ensures.value, c.if-len-lt-HEAD_BYTES.false)))

pub returns-clause-kept : goal.returns-clause-kept
returns-clause-kept c = c.parse_whole.ensures.kept
