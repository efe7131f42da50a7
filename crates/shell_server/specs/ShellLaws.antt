-- Answers of the shell part in one way.
use Rattle.std.proofs.Common.{◌≡◌, ℕ, suc, ◌+◌, ◌<◌, List, [], ◌∷◌, ◌++◌, length, refl, sym, ◌∙◌, ap, arith}
use Rattle.std.proofs.Common.{length-append}
use Rattle.tsd_model.specs.World.{World}
use Rattle.script_text.specs.Pieces.{line_feeds}
use Rattle.script_text.proofs.FeedLaws.{feeds-append, front_few}
use Rattle.shell_text.specs.Looked.{looked_text}
use Rattle.shell_text.specs.declared.file_ask.FileAsk.{FileAsk}
use Rattle.shell_text.specs.declared.file_ask.FileAsk.TheVariants as file
use Rattle.serving.specs.Service.{IsCounted}
use Rattle.shell_server.specs.Shell.{ShellState, Answers, look_of, shell_service}

-- a line without line feeds, and one
module _ (w : List ℕ) (none : line_feeds w ≡ 0) where
  line_whole : (line behind : List ℕ) → line ≡ w ++ 10 ∷ [] → line_feeds (line ++ behind) ≡ suc (line_feeds behind)
  line_whole line behind is =
      let one : line_feeds (w ++ 10 ∷ []) ≡ 1 = feeds-append w (10 ∷ []) ∙ ap (λ n. n + 1) none in
      let all : line_feeds (line ++ behind) ≡ line_feeds line + line_feeds behind = feeds-append line behind in
      let same : line_feeds line ≡ line_feeds (w ++ 10 ∷ []) = ap line_feeds is in
      omega (arith, all, same, one)

  line_part : (line front back : List ℕ) → line ≡ w ++ 10 ∷ [] → line ≡ front ++ back → 0 < length back
      → line_feeds front ≡ 0
  line_part line front back is parts some =
      let few = front_few w front back (sym is ∙ parts) some in
      omega (arith, few, none)

  line_some : (line : List ℕ) → line ≡ w ++ 10 ∷ [] → 0 < length line
  line_some line is = let long = ap length is ∙ length-append w (10 ∷ []) in omega (arith, long)

-- each answer is such a line
abbrev IsLine : List ℕ → Type 0
IsLine line = (w : List ℕ) × (line_feeds w ≡ 0) × (line ≡ w ++ 10 ∷ [])

is_line : (start : World) (s : ShellState) (q : FileAsk) (line : List ℕ) (t : ShellState) → Answers start s q line t
    → IsLine line
is_line start s (file.Shell q) line t given = (_, given.one_line, given.text)
is_line start s q line t given = (looked_text (look_of s q), given.one_line, given.text)

pub shell_counted : (start : World) → IsCounted (shell_service start)
shell_counted start = record {
  nothing = refl;
  whole = λ s q line t behind given.
      let is = is_line start s q line t given in
      line_whole is.0 is.1 line behind is.2;
  part = λ s q line t front back given.
      let is = is_line start s q line t given in
      line_part is.0 is.1 line front back is.2;
  some = λ s q line t given.
      let is = is_line start s q line t given in
      line_some is.0 is.1 line is.2;
}
