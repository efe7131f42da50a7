-- Frames one behind the other part in one way, and a reply's body fits a frame.
use Rattle.std.proofs.Common.{◌≡◌, ◌≢◌, ℕ, ◌*◌, ◌^◌, ◌<◌, List, [], ◌∷◌, ◌++◌, length, refl, sym, ◌∙◌, ap, arith, append-nil}
use Rattle.request_frames.specs.Fields.{bytes_of}
use Rattle.request_frames.specs.Frames.{frame_of, IsBegun, Cut, cut, frames, unended}
use Rattle.request_frames.specs.Replies.{number_fields, reply_body}
use Rattle.request_frames.proofs.CutLaws.{glue}
use Rattle.request_frames.proofs.FramesLaws.{cut_only}
use Rattle.request_frames.proofs.ReplyLaws.{block_fits}
use Rattle.tsd_model.specs.ReplyForm.{HasBody}
use Rattle.tsd_model.specs.declared.replies.Reply.{Reply}
use Rattle.tsd_model.specs.declared.replies.Reply.TheVariants as reply
use Rattle.tsd_model.specs.declared.replies.Rule.{Rule}
use Rattle.tsd_model.specs.declared.replies.Rule.TheVariants as rule

-- ---- frames

-- the frames of a text come first in a longer one
pub frames_on : (x y : List ℕ) → frames (x ++ y) ≡ frames x ++ frames (unended x ++ y)
frames_on x y = ap (λ (c : Cut). c.bodies) (glue x y)

nothing_begun : IsBegun []
nothing_begun = record { body = []; short = omega arith; more = 0 ∷ 0 ∷ []; some = λ e. cc; whole = refl }

one_cut : (body : List ℕ) → length body < 2 ^ 16 → cut (frame_of body) ≡ record { bodies = body ∷ []; rest = [] }
one_cut body h = cut_only (body ∷ []) (frame_of body) [] (record { short = (h, tt); parts = sym (append-nil (frame_of body ++ []) ∙ append-nil (frame_of body)); begun = nothing_begun })

-- a frame before bytes is the first of their frames
pub frame_first : (body f : List ℕ) → length body < 2 ^ 16 → frames (frame_of body ++ f) ≡ body ∷ frames f
frame_first body f h = ap (λ c. c.bodies) (glue (frame_of body) f) ∙ ap (λ (c : Cut). c.bodies ++ frames (c.rest ++ f)) (one_cut body h)

not_nil : (bs : List ℕ) → 0 < length bs → bs ≢ []
not_nil [] h = absurd (omega (arith, h))
not_nil (b ∷ bs) h = λ e. cc

-- a proper front of a frame has none
pub frame_part : (body front back : List ℕ) → length body < 2 ^ 16 → frame_of body ≡ front ++ back → 0 < length back → frames front ≡ []
frame_part body front back h e some = ap (λ (c : Cut). c.bodies) (cut_only [] front front (record { short = tt; parts = refl; begun = record { body = body; short = h; more = back; some = not_nil back some; whole = sym e } }))

-- ---- bodies of replies

numbers_long : (ns : List ℕ) → length (bytes_of (number_fields ns)) ≡ 4 * length ns
numbers_long [] = refl
numbers_long (n ∷ ns) = let rest = numbers_long ns in omega (arith, rest)

short_rule : (r : Rule) → length (reply_body (reply.Refused r)) < 2 ^ 16
short_rule rule.BadRequest = omega arith
short_rule rule.BadSession = omega arith
short_rule rule.NotOpen = omega arith
short_rule rule.AlreadyOpen = omega arith
short_rule rule.BadCount = omega arith
short_rule rule.BadSize = omega arith
short_rule rule.NoSuchBlock = omega arith
short_rule rule.FreeBlock = omega arith
short_rule rule.NotPrimary = omega arith
short_rule rule.IsPrimary = omega arith
short_rule (rule.Denied attained needed) = omega arith
short_rule rule.PointerExists = omega arith
short_rule rule.NoPointer = omega arith
short_rule (rule.Full free wanted) = omega arith
short_rule (rule.NoRun free wanted) = omega arith
short_rule (rule.PointersFull held most) = omega arith

pub short_body : (r : Reply) → HasBody r → length (reply_body r) < 2 ^ 16
short_body reply.Done h = omega arith
short_body (reply.Bytes bytes) h = omega (arith, block_fits (length bytes) h, ap length (append-nil bytes))
short_body (reply.Blocks blocks) h = omega (arith, h.1, numbers_long blocks)
short_body (reply.Free n) h = omega arith
short_body (reply.Gone n) h = omega arith
short_body (reply.Targets blocks) h = omega (arith, h, numbers_long blocks)
short_body reply.NoMemory h = omega arith
short_body (reply.Refused r) h = short_rule r
