-- Asks as frames.
use Rattle.std.specs.Prelude.{ℕ, List, [], ◌∷◌, map}
use Rattle.request_frames.specs.Frames.{frames, unended}
use Rattle.fs_trees.specs.declared.ask.ShellKind.{ShellKind}
use Rattle.shell_text.specs.FileReading.{file_ask_of}
use Rattle.shell_text.specs.declared.file_ask.FileAsk.{FileAsk}
use Rattle.serving.specs.Input.{Spelling}
use Rattle.serving.specs.declared.protocol.Ending.{Ending}
use Rattle.serving.specs.declared.protocol.Ending.TheVariants.{Nothing, CutOff}

-- what stands after the last whole frame is no ask
abbrev pub file_ending : List ℕ → Ending FileAsk
file_ending [] = Nothing
file_ending (b ∷ bs) = CutOff

abbrev pub file_spelling : ShellKind → Spelling FileAsk
file_spelling kind = record { requests = λ x. map (file_ask_of kind) (frames x); ending = λ x. file_ending (unended x) }
