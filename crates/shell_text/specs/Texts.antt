-- The texts of answers as they are printed.
use Rattle.std.specs.Prelude.{ℕ, Bool, true, false, List, [], ◌∷◌, codes, decimal}
use Rattle.std.specs.List.{join_with_byte}
use Rattle.script_text.specs.Texts.{data_text}
use Rattle.fs_trees.specs.Names.{Name}
use Rattle.fs_trees.specs.Answer.{Answer, done, bytes, listed, available, bad, refused}
use Rattle.fs_trees.specs.declared.refusal.FsRefusal.{FsRefusal}
use Rattle.fs_trees.specs.declared.refusal.FsRefusal.TheVariants as no

-- Device has no words: no answer says it
abbrev pub refusal_words : FsRefusal → List (List ℕ)
refusal_words no.NotThisFs = codes "not-this-fs" ∷ []
refusal_words no.NoEntry = codes "no-entry" ∷ []
refusal_words no.Exists = codes "exists" ∷ []
refusal_words no.NotDir = codes "not-dir" ∷ []
refusal_words no.IsDir = codes "is-dir" ∷ []
refusal_words no.NotEmpty = codes "not-empty" ∷ []
refusal_words no.DirFull = codes "dir-full" ∷ []
refusal_words no.TooBig = codes "too-big" ∷ []
refusal_words (no.Full free wanted) = codes "full" ∷ decimal free ∷ decimal wanted ∷ []
refusal_words (no.PointersFull held most) = codes "pointers-full" ∷ decimal held ∷ decimal most ∷ []
refusal_words no.Device = []

-- a dash where there are no names
abbrev pub name_words : List Name → List (List ℕ)
name_words [] = codes "-" ∷ []
name_words (n ∷ ns) = n ∷ ns

abbrev pub answer_words : Answer → List (List ℕ)
answer_words done = codes "ok" ∷ []
answer_words (bytes x) = codes "data" ∷ data_text x ∷ []
answer_words (listed ns) = codes "names" ∷ name_words ns
answer_words (available n) = codes "free" ∷ decimal n ∷ []
answer_words bad = codes "no" ∷ codes "bad-request" ∷ []
answer_words (refused e) = codes "no" ∷ refusal_words e

-- the line of an answer, parted by single spaces, without its line feed
abbrev pub answer_text : Answer → List ℕ
answer_text a = join_with_byte 32 (answer_words a)

-- ---- answers that are sent in parts

-- before the digits of a file's bytes; all of the line of a file without bytes
abbrev pub data_head : Bool → List ℕ
data_head true = codes "data -"
data_head false = codes "data "

-- before the names, each with a space before it; all of the line of a directory without names
abbrev pub names_head : Bool → List ℕ
names_head true = codes "names -"
names_head false = codes "names"
