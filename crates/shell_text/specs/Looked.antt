-- What asks that only look are answered, and the texts of these answers.
use Rattle.std.specs.Prelude.{◌≡◌, ℕ, ◌^◌, ◌<◌, true, List, [], ◌∷◌, codes, decimal}
use Rattle.std.specs.List.{join_with_byte}
use Rattle.fs_trees.specs.Names.{Name, is_name}
use Rattle.fs_trees.specs.Answer.{bytes, listed, bad, refused}
use Rattle.fs_trees.specs.declared.refusal.FsRefusal.{FsRefusal}
use Rattle.fs_trees.specs.declared.refusal.FsRefusal.TheVariants as no
use Rattle.shell_text.specs.Texts.{answer_words}

pub data Looked : Type 0 where
  -- a file, with how many bytes it has
  file_of : ℕ → Looked
  dir_here : Looked
  -- bytes of a file
  part_of : List ℕ → Looked
  -- the least name above, and what it names
  next_file : Name → ℕ → Looked
  next_dir : Name → Looked
  none_left : Looked
  not_looked : FsRefusal → Looked
  -- what came asks nothing
  not_heard : Looked

abbrev pub looked_words : Looked → List (List ℕ)
looked_words (file_of size) = codes "file" ∷ decimal size ∷ []
looked_words dir_here = codes "dir" ∷ []
looked_words (part_of x) = answer_words (bytes x)
looked_words (next_file n size) = codes "next" ∷ n ∷ codes "file" ∷ decimal size ∷ []
looked_words (next_dir n) = codes "next" ∷ n ∷ codes "dir" ∷ []
looked_words none_left = answer_words (listed [])
looked_words (not_looked e) = answer_words (refused e)
looked_words not_heard = answer_words bad

-- the line of an answer, parted by single spaces, without its line feed
abbrev pub looked_text : Looked → List ℕ
looked_text x = join_with_byte 32 (looked_words x)

-- numbers have 32 bits
abbrev pub RefusalFits : FsRefusal → Type 0
RefusalFits (no.Full free wanted) = (free < 2 ^ 32) × (wanted < 2 ^ 32)
RefusalFits (no.PointersFull held most) = (held < 2 ^ 32) × (most < 2 ^ 32)
RefusalFits no.NotThisFs = Unit {0}
RefusalFits no.NoEntry = Unit {0}
RefusalFits no.Exists = Unit {0}
RefusalFits no.NotDir = Unit {0}
RefusalFits no.IsDir = Unit {0}
RefusalFits no.NotEmpty = Unit {0}
RefusalFits no.DirFull = Unit {0}
RefusalFits no.TooBig = Unit {0}
RefusalFits no.Device = Unit {0}

-- names are names, sizes have 64 bits
abbrev pub LookedFits : Looked → Type 0
LookedFits (file_of size) = size < 2 ^ 64
LookedFits dir_here = Unit {0}
LookedFits (part_of x) = Unit {0}
LookedFits (next_file n size) = (is_name n ≡ true) × (size < 2 ^ 64)
LookedFits (next_dir n) = is_name n ≡ true
LookedFits none_left = Unit {0}
LookedFits (not_looked e) = RefusalFits e
LookedFits not_heard = Unit {0}
