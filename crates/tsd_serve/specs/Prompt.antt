-- How promptly requests are answered.
use Rattle.std.specs.Prelude.{◌^◌, ⊤, Option, Some}
use Rattle.image_device.specs.View.{View}
use Rattle.tsd_words.specs.declared.commands.Command.{Command}
use Rattle.tsd_words.specs.declared.commands.Command.TheVariants as command
use Rattle.tsd_words.specs.declared.status.Status.{Status}
use Rattle.serving.specs.FrameSpelling.{frame_spelling, frame_voice}
use Rattle.serving.specs.LineSpelling.{line_spelling, line_voice}
use Rattle.image_world.specs.Stands.{world_of}
use Rattle.serving.specs.Prompt.{IsOfPort, mark}
use Rattle.serving.specs.Ran.{Taking}
use Rattle.image_groups.specs.Served.{ImageRanByRounds}
use Rattle.image_runs.specs.Fresh.{IsPromptFresh, single_world}
use Rattle.image_runs.specs.Served.{IsPromptRun}
use Rattle.image_shell.specs.Served.{IsNotServed, IsPromptShell}
use Rattle.shell_server.specs.Frames.{file_spelling}
use Rattle.shell_server.specs.Lines.{shell_spelling}
use Rattle.shell_server.specs.Shell.{unmounted}

-- Of the commands that answer requests: the first of those that came in were answered so, and all of them unless the
-- device or the sending failed. What is written before each reply has a bound, and what is written behind it; where the
-- input was cut short, nothing is done behind the last reply but that. What is written for an answer about the tree of
-- files has no bound.
abbrev pub AnswersPromptly : {P : Type 0} → Option Command → Status → Taking → (P → View) → P → P → Type 0
AnswersPromptly (Some (command.Fresh fresh)) r source view old new =
    IsPromptFresh r line_voice fresh.kind (single_world fresh.geometry fresh.caps) (IsOfPort view) line_spelling
    (2 ^ 40) source (view old) (view new)
AnswersPromptly (Some (command.Run kind)) r source view old new =
    IsPromptRun r line_voice kind (IsOfPort view) line_spelling (2 ^ 40) source (view old) (view new)
AnswersPromptly (Some (command.Serve kind)) r source view old new =
    IsPromptRun r frame_voice kind (IsOfPort view) frame_spelling (2 ^ 40) source (view old) (view new)
AnswersPromptly (Some (command.Shell shell)) r source view old new =
    ¬ IsNotServed r → IsPromptShell r (unmounted shell.layout shell.root shell.cap) (IsOfPort view)
    (shell_spelling shell.layout) (2 ^ 40) (world_of (view old).reads) source (mark (view old)) (mark (view new))
AnswersPromptly (Some (command.Files shell)) r source view old new =
    ¬ IsNotServed r → IsPromptShell r (unmounted shell.layout shell.root shell.cap) (IsOfPort view)
    (file_spelling shell.layout) (2 ^ 40) (world_of (view old).reads) source (mark (view old)) (mark (view new))
AnswersPromptly words r source view old new = ⊤

-- Of the command that serves in groups: round by round all is answered that is whole in what came, by turns that are
-- groups or requests on the device itself, and what each writes has a bound.
abbrev pub AnswersByRounds : {P : Type 0} → Option Command → Status → Taking → (P → View) → P → P → Type 0
AnswersByRounds (Some (command.Group kind)) r source view old new =
    ImageRanByRounds r frame_voice frame_spelling kind (IsOfPort view) (2 ^ 40) source (view old) (view new)
AnswersByRounds words r source view old new = ⊤
