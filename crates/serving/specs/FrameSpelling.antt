-- Requests and replies as frames.
use Rattle.std.specs.Prelude.{ℕ, List, [], ◌∷◌, length, map}
use Rattle.request_frames.specs.Frames.{frame_of, frames, unended}
use Rattle.request_frames.specs.Reading.{request_of}
use Rattle.request_frames.specs.Replies.{reply_body}
use Rattle.tsd_model.specs.declared.requests.Request.{Request}
use Rattle.tsd_model.specs.declared.replies.Reply.{Reply}
use Rattle.serving.specs.Input.{Spelling}
use Rattle.serving.specs.Voice.{Voice}
use Rattle.serving.specs.declared.protocol.Ending.{Ending}
use Rattle.serving.specs.declared.protocol.Ending.TheVariants.{Nothing, CutOff}

-- what stands after the last whole frame is no request
abbrev pub frame_ending : List ℕ → Ending Request
frame_ending [] = Nothing
frame_ending (b ∷ bs) = CutOff

abbrev pub frame_spelling : Spelling Request
frame_spelling = record { requests = λ x. map request_of (frames x); ending = λ x. frame_ending (unended x) }

-- a reply as it is sent
abbrev pub frame_reply : Reply → List ℕ
frame_reply r = frame_of (reply_body r)

abbrev pub frame_voice : Voice
frame_voice = record { text = frame_reply; acked = λ f. length (frames f) }
