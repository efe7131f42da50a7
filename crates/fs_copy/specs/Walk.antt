-- Where a walk over a tree is: in a directory, behind one of its names. What is left of the copy then.
use Rattle.std.specs.Prelude.{◌≡◌, ◌+◌, ◌<◌, ℕ, suc, cond, List, [], ◌∷◌, ◌++◌, length, Result, IfOk, Bool, true, false}
use Rattle.std.specs.Prelude.{Some, None, Option, ⊤}
use Rattle.fs_trees.specs.Copying.{entry_steps}
use Rattle.fs_trees.specs.Names.{Name, Path, name_lt}
use Rattle.fs_trees.specs.Tree.{Entries, none, file, dir, nothing, a_file, a_dir, Tree, child, at, is_dir, names_in}
use Rattle.fs_trees.specs.declared.ask.ShellAsk.{ShellAsk}
use Rattle.fs_trees.specs.declared.ask.ShellAsk.TheVariants as ask
use Rattle.fs_trees.specs.declared.refusal.FsRefusal.{FsRefusal}
use Rattle.fs_laws.specs.Small.{IsNameListing}
use Rattle.fs_port.specs.View.{DiskView}
use Rattle.fs_port.specs.Files.{FilesView, above}
use Rattle.fs_copy.specs.Counted.{capped}
use Rattle.fs_copy.specs.Going.{MakesSteps}
use Rattle.fs_copy.specs.declared.copied.Copied.{Copied}

abbrev pub inside : Tree → Entries ⊤ (List ℕ)
inside nothing = none
inside (a_file x) = none
inside (a_dir d es) = es

-- the entries from the first name above this one on
abbrev pub entries_behind : Name → Entries ⊤ (List ℕ) → Entries ⊤ (List ℕ)
entries_behind after none = none
entries_behind after (file n x rest) = cond (name_lt after n) (file n x rest) (entries_behind after rest)
entries_behind after (dir n d es rest) = cond (name_lt after n) (dir n d es rest) (entries_behind after rest)

-- the steps for what stands behind a path, in the directories that lead to it, the innermost first
abbrev pub outer : Path → Tree → Path → List ShellAsk
outer here t [] = []
outer here t (n ∷ ns) = outer (here ++ n ∷ []) (child n t) ns ++ entry_steps here (entries_behind n (inside t))

-- the steps that are left where the walk is in this directory, behind this name
abbrev pub todo : Tree → Path → Name → List ShellAsk
todo t path after = entry_steps path (entries_behind after (inside (at t path))) ++ outer [] t path

-- ---- how many files, bytes and turns these steps stand for

abbrev pub files_made : List ShellAsk → ℕ
files_made [] = 0
files_made (ask.Put path x ∷ steps) = suc (files_made steps)
files_made (a ∷ steps) = files_made steps

abbrev pub bytes_made : List ShellAsk → ℕ
bytes_made [] = 0
bytes_made (ask.Put path x ∷ steps) = length x + bytes_made steps
bytes_made (ask.Append path x ∷ steps) = length x + bytes_made steps
bytes_made (a ∷ steps) = bytes_made steps

-- one for each entry, and one to leave each directory
abbrev pub turns : List ShellAsk → ℕ
turns [] = 0
turns (ask.Put path x ∷ steps) = suc (turns steps)
turns (ask.MakeDir path ∷ steps) = suc (suc (turns steps))
turns (a ∷ steps) = turns steps

abbrev pub turns_left : Tree → Path → Name → ℕ
turns_left t path after = turns (todo t path after) + length path

-- ---- names that were read ahead

-- of a directory's names each of these is the next one after the one before it
abbrev pub ComeNext : List Name → Name → List Name → Type 0
ComeNext ns after [] = Unit {0}
ComeNext ns after (n ∷ more) = (above after ns ≡ Some n) × ComeNext ns n more

-- the directory at a path has these next, behind a name
abbrev pub AreAhead : Tree → Path → Name → List Name → Type 0
AreAhead t path after ns = ComeNext (names_in (at t path)) after ns

-- ---- one turn

-- this is the next name of the directory
pub record IsNextName (t : Tree) (path : Path) (after n : Name) : Type 0 where
  pub dir : is_dir (at t path) ≡ true
  pub listing : IsNameListing (names_in (at t path))
  pub next : above after (names_in (at t path)) ≡ Some n

-- what was copied, and these steps
pub record CountsOn (old new : Copied) (qs : List ShellAsk) : Type 0 where
  pub files : (n : ℕ) → old.files ≡ capped n → new.files ≡ capped (n + files_made qs)
  pub bytes : (n : ℕ) → old.bytes ≡ capped n → new.bytes ≡ capped (n + bytes_made qs)

-- what was copied, and one entry: a file of so many bytes, or a directory
abbrev pub IsCountedOn : Copied → Copied → Option ℕ → Type 0
IsCountedOn old new None = new ≡ old
IsCountedOn old new (Some n) = (new.files ≡ capped (old.files + 1)) × (new.bytes ≡ capped (old.bytes + n))

-- These steps were made, and it goes on elsewhere, where the others are left; or it is at its end.
pub record WalksOn (told : Type 0) (g : FilesView) (t : Tree) (old new : DiskView) (p q : Path) (a b : Name)
    (c d : Copied) (result : Result Bool FsRefusal) : Type 0 where
  pub made : List ShellAsk
  pub rest : List ShellAsk
  pub parts : told → made ++ rest ≡ todo t p a
  pub goes : MakesSteps told g old new made result
  pub count : told → IfOk result (λ more. CountsOn c d made)
  pub on : told → IfOk result (λ more. more ≡ true
      → (is_dir (at t q) ≡ true) × (rest ≡ todo t q b) × (turns_left t q b < turns_left t p a))
  pub over : told → IfOk result (λ more. more ≡ false → rest ≡ [])
