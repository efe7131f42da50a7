-- The bodies that spell replies, said apart from any reading.
use Rattle.std.specs.Prelude.{◌≡◌, ℕ, List, [], ◌∷◌}
use Rattle.tsd_model.specs.ReplyForm.{HasForm}
use Rattle.tsd_model.specs.declared.replies.Reply.{Reply}
use Rattle.tsd_model.specs.declared.replies.Reply.TheVariants as reply
use Rattle.tsd_model.specs.declared.replies.Rule.{Rule}
use Rattle.tsd_model.specs.declared.replies.Rule.TheVariants as rule
use Rattle.request_frames.specs.Fields.{Field, Code, Number, Rank, Bytes, bytes_of}

-- the fields of each rule, a code first
abbrev pub rule_fields : Rule → List Field
rule_fields rule.BadRequest = Code 0 ∷ []
rule_fields rule.BadSession = Code 1 ∷ []
rule_fields rule.NotOpen = Code 2 ∷ []
rule_fields rule.AlreadyOpen = Code 3 ∷ []
rule_fields rule.BadCount = Code 4 ∷ []
rule_fields rule.BadSize = Code 5 ∷ []
rule_fields rule.NoSuchBlock = Code 6 ∷ []
rule_fields rule.FreeBlock = Code 7 ∷ []
rule_fields rule.NotPrimary = Code 8 ∷ []
rule_fields rule.IsPrimary = Code 9 ∷ []
rule_fields (rule.Denied attained needed) = Code 10 ∷ Rank attained ∷ Rank needed ∷ []
rule_fields rule.PointerExists = Code 11 ∷ []
rule_fields rule.NoPointer = Code 12 ∷ []
rule_fields (rule.Full free wanted) = Code 13 ∷ Number free ∷ Number wanted ∷ []
rule_fields (rule.NoRun free wanted) = Code 14 ∷ Number free ∷ Number wanted ∷ []
rule_fields (rule.PointersFull held most) = Code 15 ∷ Number held ∷ Number most ∷ []

-- a number each
abbrev pub number_fields : List ℕ → List Field
number_fields [] = []
number_fields (n ∷ ns) = Number n ∷ number_fields ns

-- the fields of each reply, a code first
abbrev pub reply_fields : Reply → List Field
reply_fields reply.Done = Code 1 ∷ []
reply_fields (reply.Bytes bytes) = Code 2 ∷ Bytes bytes ∷ []
reply_fields (reply.Blocks blocks) = Code 3 ∷ number_fields blocks
reply_fields (reply.Free n) = Code 4 ∷ Number n ∷ []
reply_fields (reply.Gone n) = Code 5 ∷ Number n ∷ []
reply_fields (reply.Targets blocks) = Code 6 ∷ number_fields blocks
reply_fields reply.NoMemory = Code 7 ∷ []
reply_fields (reply.Refused r) = Code 8 ∷ rule_fields r

-- the one body of a reply
abbrev pub reply_body : Reply → List ℕ
reply_body r = bytes_of (reply_fields r)

-- The body spells the reply, from its first byte to its last.
pub record IsReply (body : List ℕ) (r : Reply) : Type 0 where
  pub form : HasForm r
  pub spelled : body ≡ reply_body r
