-- The texts of requests and replies as they are printed.
use Rattle.std.specs.Prelude.{ℕ, Bool, true, cond, ◌==◌, nat_le, List, [], ◌∷◌, length, map, codes, decimal}
use Rattle.std.specs.List.{list_all, join_with_byte}
use Rattle.hex.specs.Hex.{encode_lower}
use Rattle.tsd_model.specs.declared.caps.Shown.TheVariants.{Nothing, Key}
use Rattle.tsd_model.specs.declared.requests.Hint.TheVariants.{Null, At}
use Rattle.tsd_model.specs.declared.requests.Level.{Level}
use Rattle.tsd_model.specs.declared.requests.Level.TheVariants as level
use Rattle.tsd_model.specs.declared.requests.Request.{Request}
use Rattle.tsd_model.specs.declared.replies.Reply.{Reply}
use Rattle.tsd_model.specs.declared.replies.Reply.TheVariants as reply
use Rattle.tsd_model.specs.declared.replies.Rule.{Rule}
use Rattle.tsd_model.specs.declared.replies.Rule.TheVariants as rule
use Rattle.script_text.specs.Grammar.{Field, Verb, Number, Show, New, Near, Bytes, fields}

-- a dash for no bytes, else two lower-case hexadecimal digits a byte
abbrev pub data_text : List ℕ → List ℕ
data_text [] = codes "-"
data_text (b ∷ bs) = encode_lower (b ∷ bs)

-- ---- requests

-- a number without leading zeros, hexadecimal digits in lower case
abbrev pub field_text : Field → List ℕ
field_text (Verb name) = name
field_text (Number n) = decimal n
field_text (Show Nothing) = codes "-"
field_text (Show (Key cap)) = encode_lower cap.bytes
field_text (New cap) = encode_lower cap.bytes
field_text (Near Null) = codes "-"
field_text (Near (At b)) = decimal b
field_text (Bytes bytes) = data_text bytes

-- the line of a request, parted by single spaces
abbrev pub request_text : Request → List ℕ
request_text q = join_with_byte 32 (map field_text (fields q))

-- ---- replies

-- the bytes up to the last that isn't zero
abbrev pub up_to_last : List ℕ → List ℕ
up_to_last [] = []
up_to_last (b ∷ bs) = cond (list_all (λ x. x == 0) (b ∷ bs)) [] (b ∷ up_to_last bs)

-- a dash where there are no targets
abbrev pub target_words : List ℕ → List (List ℕ)
target_words [] = codes "-" ∷ []
target_words (b ∷ bs) = map decimal (b ∷ bs)

abbrev pub level_text : Level → List ℕ
level_text level.Bare = codes "none"
level_text level.Read = codes "read"
level_text level.Write = codes "write"

abbrev pub rule_words : Rule → List (List ℕ)
rule_words rule.BadRequest = codes "bad-request" ∷ []
rule_words rule.BadSession = codes "bad-session" ∷ []
rule_words rule.NotOpen = codes "not-open" ∷ []
rule_words rule.AlreadyOpen = codes "already-open" ∷ []
rule_words rule.BadCount = codes "bad-count" ∷ []
rule_words rule.BadSize = codes "bad-size" ∷ []
rule_words rule.NoSuchBlock = codes "no-such-block" ∷ []
rule_words rule.FreeBlock = codes "free-block" ∷ []
rule_words rule.NotPrimary = codes "not-primary" ∷ []
rule_words rule.IsPrimary = codes "is-primary" ∷ []
rule_words (rule.Denied attained needed) = codes "denied" ∷ level_text attained ∷ level_text needed ∷ []
rule_words rule.PointerExists = codes "pointer-exists" ∷ []
rule_words rule.NoPointer = codes "no-pointer" ∷ []
rule_words (rule.Full free wanted) = codes "full" ∷ decimal free ∷ decimal wanted ∷ []
rule_words (rule.NoRun free wanted) = codes "run" ∷ decimal free ∷ decimal wanted ∷ []
rule_words (rule.PointersFull held most) = codes "pointers-full" ∷ decimal held ∷ decimal most ∷ []

abbrev pub reply_words : Reply → List (List ℕ)
reply_words reply.Done = codes "ok" ∷ []
reply_words (reply.Bytes bytes) = codes "data" ∷ data_text (up_to_last bytes) ∷ []
reply_words (reply.Blocks blocks) = codes "blocks" ∷ map decimal blocks
reply_words (reply.Free n) = codes "free" ∷ decimal n ∷ []
reply_words (reply.Gone n) = codes "gone" ∷ decimal n ∷ []
reply_words (reply.Targets blocks) = codes "list" ∷ target_words blocks
reply_words reply.NoMemory = codes "no" ∷ codes "memory" ∷ []
reply_words (reply.Refused r) = codes "no" ∷ rule_words r

-- the line of a reply, parted by single spaces, without its line feed
abbrev pub reply_text : Reply → List ℕ
reply_text r = join_with_byte 32 (reply_words r)

-- it doesn't tell many bytes
abbrev pub is_short : Reply → Bool
is_short (reply.Bytes bytes) = nat_le (length (up_to_last bytes)) 512
is_short (reply.Blocks blocks) = true
is_short (reply.Targets blocks) = true
is_short reply.Done = true
is_short (reply.Free n) = true
is_short (reply.Gone n) = true
is_short reply.NoMemory = true
is_short (reply.Refused r) = true
