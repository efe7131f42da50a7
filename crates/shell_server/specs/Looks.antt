-- What asks that only look see, read off what asks of the shell are answered in the same state.
use Rattle.std.specs.Prelude.{ℕ, min, cond, [], ◌∷◌, ◌++◌, length, take, drop, Option, Some, None}
use Rattle.fs_trees.specs.Answer.{Answer, bytes, listed, refused}
use Rattle.fs_trees.specs.Names.{Name, Path}
use Rattle.fs_trees.specs.declared.ask.ShellAsk.{ShellAsk}
use Rattle.fs_trees.specs.declared.ask.ShellAsk.TheVariants as ask
use Rattle.fs_trees.specs.declared.refusal.FsRefusal.TheVariants as no
use Rattle.fs_port.specs.Files.{above}
use Rattle.shell_text.specs.FileBodies.{is_after}
use Rattle.shell_text.specs.Looked.{Looked, file_of, dir_here, part_of, next_file, next_dir, none_left, not_looked}
use Rattle.shell_text.specs.Looked.{not_heard}
use Rattle.shell_text.specs.declared.file_ask.FileAsk.{FileAsk}
use Rattle.shell_text.specs.declared.file_ask.FileAsk.TheVariants as file

-- What stands at a path, by what cat is answered there: a file, with how many bytes it has, or a directory.
abbrev pub entry_seen : (ℕ → Looked) → Looked → Answer → Looked
entry_seen of_file of_dir (bytes x) = of_file (length x)
entry_seen of_file of_dir (refused no.IsDir) = of_dir
entry_seen of_file of_dir (refused e) = not_looked e
entry_seen of_file of_dir a = not_heard

-- the bytes of a file from an offset on, so many and 4,096 at most, by what cat is answered there
abbrev pub part_seen : ℕ → ℕ → Answer → Looked
part_seen start count (bytes x) = part_of (take (min count 4096) (drop start x))
part_seen start count (refused e) = not_looked e
part_seen start count a = not_heard

-- the next name in a directory, if one is left, and what it names
abbrev pub next_seen : (ShellAsk → Answer) → Path → Option Name → Looked
next_seen answer path None = none_left
next_seen answer path (Some n) = entry_seen (next_file n) (next_dir n) (answer (ask.Cat (path ++ n ∷ [])))

-- the least name above one, by what ls is answered there
abbrev pub names_seen : (ShellAsk → Answer) → Path → Name → Answer → Looked
names_seen answer path after (listed ns) = next_seen answer path (above after ns)
names_seen answer path after (refused e) = not_looked e
names_seen answer path after a = not_heard

-- An ask that only looks, where each ask of the shell is answered so. Nothing is said of an ask of the shell.
abbrev pub looked_by : (ShellAsk → Answer) → FileAsk → Looked
looked_by answer (file.Shell q) = not_heard
looked_by answer (file.Size path) = entry_seen file_of dir_here (answer (ask.Cat path))
looked_by answer (file.Read path start count) = part_seen start count (answer (ask.Cat path))
looked_by answer (file.Next path after) =
    cond (is_after after) (names_seen answer path after (answer (ask.Ls path))) not_heard
