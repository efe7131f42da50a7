-- The reply of a body as a function that computes.
use Rattle.std.specs.Prelude.{ℕ, ◌==◌, Bool, cond, ◌&&◌, ◌||◌, nat_le, List, [], ◌∷◌, length, Option, Some, None}
use Rattle.tsd_model.specs.declared.replies.Reply.{Reply}
use Rattle.tsd_model.specs.declared.replies.Reply.TheVariants as reply
use Rattle.tsd_model.specs.declared.replies.Rule.{Rule}
use Rattle.tsd_model.specs.declared.replies.Rule.TheVariants as rule
use Rattle.request_frames.specs.Reading.{num_of, level_of, data_of, list_of_blocks, ends, dispatch, ◌>>=◌}

-- so many bytes has a block
abbrev pub is_block_size : ℕ → Bool
is_block_size n = (n == 512) || (n == 1024) || (n == 2048) || (n == 4096)

-- ---- the bytes after each code

unfoldable pub bytes_reply : List ℕ → Option Reply
bytes_reply bs = data_of bs >>= λ d. cond (is_block_size (length d.0)) (ends d.1 (reply.Bytes d.0)) None

unfoldable pub blocks_reply : List ℕ → Option Reply
blocks_reply bs =
    list_of_blocks bs >>= λ ns. cond (nat_le 1 (length ns) && nat_le (length ns) 32) (Some (reply.Blocks ns)) None

unfoldable pub free_reply : List ℕ → Option Reply
free_reply bs = num_of bs >>= λ n. ends n.1 (reply.Free n.0)

unfoldable pub gone_reply : List ℕ → Option Reply
gone_reply bs = num_of bs >>= λ n. ends n.1 (reply.Gone n.0)

unfoldable pub targets_reply : List ℕ → Option Reply
targets_reply bs = list_of_blocks bs >>= λ ns. Some (reply.Targets ns)

-- ---- the bytes after the code of each rule

-- a rule without numbers
abbrev pub bare : Rule → List ℕ → Option Reply
bare r bs = ends bs (reply.Refused r)

unfoldable pub denied_reply : List ℕ → Option Reply
denied_reply bs = do
  a ← level_of bs
  n ← level_of a.1
  ends n.1 (reply.Refused (rule.Denied a.0 n.0))

unfoldable pub full_reply : List ℕ → Option Reply
full_reply bs = do
  f ← num_of bs
  w ← num_of f.1
  ends w.1 (reply.Refused (rule.Full f.0 w.0))

unfoldable pub no_run_reply : List ℕ → Option Reply
no_run_reply bs = do
  f ← num_of bs
  w ← num_of f.1
  ends w.1 (reply.Refused (rule.NoRun f.0 w.0))

unfoldable pub pointers_full_reply : List ℕ → Option Reply
pointers_full_reply bs = do
  h ← num_of bs
  m ← num_of h.1
  ends m.1 (reply.Refused (rule.PointersFull h.0 m.0))

abbrev pub rule_forms : List (ℕ × (List ℕ → Option Reply))
rule_forms = (0, bare rule.BadRequest) ∷ (1, bare rule.BadSession) ∷ (2, bare rule.NotOpen) ∷ (3, bare rule.AlreadyOpen)
    ∷ (4, bare rule.BadCount) ∷ (5, bare rule.BadSize) ∷ (6, bare rule.NoSuchBlock) ∷ (7, bare rule.FreeBlock)
    ∷ (8, bare rule.NotPrimary) ∷ (9, bare rule.IsPrimary) ∷ (10, denied_reply) ∷ (11, bare rule.PointerExists)
    ∷ (12, bare rule.NoPointer) ∷ (13, full_reply) ∷ (14, no_run_reply) ∷ (15, pointers_full_reply) ∷ []

unfoldable pub ruled : ℕ → List ℕ → Option Reply
ruled code bs = dispatch rule_forms code bs

unfoldable pub refused_reply : List ℕ → Option Reply
refused_reply [] = None
refused_reply (b ∷ bs) = ruled b bs

-- ---- bodies

abbrev pub reply_forms : List (ℕ × (List ℕ → Option Reply))
reply_forms = (1, λ bs. ends bs reply.Done) ∷ (2, bytes_reply) ∷ (3, blocks_reply) ∷ (4, free_reply) ∷ (5, gone_reply)
    ∷ (6, targets_reply) ∷ (7, λ bs. ends bs reply.NoMemory) ∷ (8, refused_reply) ∷ []

unfoldable pub answered : ℕ → List ℕ → Option Reply
answered code bs = dispatch reply_forms code bs

-- the reply of a body, where it is one
unfoldable pub reply_of : List ℕ → Option Reply
reply_of [] = None
reply_of (b ∷ bs) = answered b bs
