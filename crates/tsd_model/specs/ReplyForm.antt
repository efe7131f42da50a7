-- The form of a reply: which replies have a text and a body.
use Rattle.std.specs.Prelude.{◌≡◌, ℕ, Bool, true, false, ◌^◌, ◌<◌, ◌≤◌, ◌⊎◌, List, [], ◌∷◌, length}
use Rattle.tsd_model.specs.declared.replies.Reply.{Reply}
use Rattle.tsd_model.specs.declared.replies.Reply.TheVariants as reply
use Rattle.tsd_model.specs.declared.replies.Rule.{Rule}
use Rattle.tsd_model.specs.declared.replies.Rule.TheVariants as rule
use Rattle.tsd_model.specs.Step.{targets_max}

-- the request is refused, by a rule or for want of memory
abbrev pub is_refusal : Reply → Bool
is_refusal (reply.Refused r) = true
is_refusal reply.NoMemory = true
is_refusal r = false

-- so many bytes has a block
abbrev pub IsBlockSize : ℕ → Type 0
IsBlockSize n = (n ≡ 512) ⊎ (n ≡ 1024) ⊎ (n ≡ 2048) ⊎ (n ≡ 4096)

-- Bytes are those of a block, new blocks are 1 to 32, targets at most `targets_max`.
abbrev pub HasBody : Reply → Type 0
HasBody (reply.Bytes bytes) = IsBlockSize (length bytes)
HasBody (reply.Blocks blocks) = (1 ≤ length blocks) × (length blocks ≤ 32)
HasBody (reply.Targets blocks) = length blocks ≤ targets_max
HasBody reply.Done = Unit {0}
HasBody (reply.Free n) = Unit {0}
HasBody (reply.Gone n) = Unit {0}
HasBody reply.NoMemory = Unit {0}
HasBody (reply.Refused r) = Unit {0}

-- each has four bytes
abbrev pub AreNumbers : List ℕ → Type 0
AreNumbers [] = Unit {0}
AreNumbers (n ∷ ns) = (n < 2 ^ 32) × AreNumbers ns

-- the numbers that a rule tells have four bytes
abbrev pub RuleHasNumbers : Rule → Type 0
RuleHasNumbers (rule.Full free wanted) = (free < 2 ^ 32) × (wanted < 2 ^ 32)
RuleHasNumbers (rule.NoRun free wanted) = (free < 2 ^ 32) × (wanted < 2 ^ 32)
RuleHasNumbers (rule.PointersFull held most) = (held < 2 ^ 32) × (most < 2 ^ 32)
RuleHasNumbers r = Unit {0}

-- the numbers that a reply tells have four bytes
abbrev pub HasNumbers : Reply → Type 0
HasNumbers (reply.Blocks blocks) = AreNumbers blocks
HasNumbers (reply.Free n) = n < 2 ^ 32
HasNumbers (reply.Gone n) = n < 2 ^ 32
HasNumbers (reply.Targets blocks) = AreNumbers blocks
HasNumbers (reply.Refused r) = RuleHasNumbers r
HasNumbers (reply.Bytes bytes) = Unit {0}
HasNumbers reply.Done = Unit {0}
HasNumbers reply.NoMemory = Unit {0}

-- A reply of this form has a line and a frame, and is read back from each.
pub record HasForm (r : Reply) : Type 0 where
  pub body : HasBody r
  pub numbers : HasNumbers r
