-- The line that says how a copy ended.
use Rattle.std.specs.Prelude.{◌≢◌, ℕ, List, [], ◌∷◌, codes, decimal, ⊤}
use Rattle.tsd_words.specs.Lines.{line_of}
use Rattle.fs_trees.specs.Answer.{refused}
use Rattle.fs_trees.specs.declared.refusal.FsRefusal.TheVariants as fs
use Rattle.shell_text.specs.Grammar.{path_text}
use Rattle.shell_text.specs.Texts.{answer_words}
use Rattle.image_copy.specs.declared.ending.CopyEnd.{CopyEnd}
use Rattle.image_copy.specs.declared.ending.CopyEnd.TheVariants as end

-- a refusal has the words that the shell answers
abbrev pub end_words : CopyEnd → List (List ℕ)
end_words (end.Shared b) = codes "no" ∷ codes "shared" ∷ decimal b ∷ []
end_words end.NotThisFs = answer_words (refused fs.NotThisFs)
end_words (end.Nested path) = codes "no" ∷ codes "nested" ∷ path_text path ∷ []
end_words (end.Refused e) = answer_words (refused e)
end_words (end.Whole c) = codes "copied" ∷ decimal c.files ∷ decimal c.bytes ∷ []

abbrev pub end_line : CopyEnd → List ℕ
end_line e = line_of (end_words e)

-- it has words: the failure of the device has none
abbrev pub HasWords : CopyEnd → Type 0
HasWords (end.Refused e) = e ≢ fs.Device
HasWords e = ⊤
