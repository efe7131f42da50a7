-- Requests and replies as lines.
use Rattle.std.specs.Prelude.{ℕ, List, [], ◌∷◌, ◌++◌, map}
use Rattle.script_text.specs.Pieces.{lines, unended, line_feeds}
use Rattle.script_text.specs.Reading.{request_of}
use Rattle.script_text.specs.Texts.{reply_text}
use Rattle.tsd_model.specs.declared.requests.Request.{Request}
use Rattle.tsd_model.specs.declared.replies.Reply.{Reply}
use Rattle.serving.specs.Input.{Spelling}
use Rattle.serving.specs.Voice.{Voice}
use Rattle.serving.specs.declared.protocol.Ending.{Ending}
use Rattle.serving.specs.declared.protocol.Ending.TheVariants.{Nothing, One}

-- what stands after the last line feed is one more line, where it is something
abbrev pub line_ending : List ℕ → Ending Request
line_ending [] = Nothing
line_ending (b ∷ bs) = One (request_of (b ∷ bs))

abbrev pub line_spelling : Spelling Request
line_spelling = record { requests = λ x. map request_of (lines x); ending = λ x. line_ending (unended x) }

-- a reply as it is sent
abbrev pub line_of : Reply → List ℕ
line_of r = reply_text r ++ 10 ∷ []

-- each reply has one line feed, its last byte
abbrev pub line_voice : Voice
line_voice = record { text = line_of; acked = line_feeds }
