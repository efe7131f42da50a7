-- What a cutter of lines holds of the text that it was fed.
use Rattle.std.specs.Prelude.{◌≡◌, ℕ, Bool, cond, List, [], ◌∷◌, ◌++◌, take, MatchBool}
use Rattle.script_text.specs.Grammar.{held_max}
use Rattle.script_text.specs.Pieces.{lines, unended}

-- a line, cut to `held_max` bytes, and whether its line feed has come
pub record Cutting : Type 0 where
  pub line : List ℕ
  pub whole : Bool

-- what stands after the last line feed, cut: a whole line is over, and the next byte begins a new one
abbrev pub rest : Cutting → List ℕ
rest c = cond c.whole [] c.line

-- the cutter was fed this text, in whatever pieces
abbrev pub WasFed : List ℕ → Cutting → Type 0
WasFed text c = rest c ≡ take held_max (unended text)

-- More bytes came after a text. Either they end its next line, and the cutter holds this line, or they end none, and it
-- holds what stands after the last line feed. Each is cut to `held_max` bytes.
abbrev pub Cuts : List ℕ → List ℕ → Cutting → Type 0
Cuts text more new = MatchBool new.whole
    ((line : List ℕ) × (lines (text ++ more) ≡ lines text ++ line ∷ []) × (unended (text ++ more) ≡ [])
    × (new.line ≡ take held_max line))
    ((lines (text ++ more) ≡ lines text) × (new.line ≡ take held_max (unended (text ++ more))))

-- Feeds that came one after another, the first of them after this text: the bytes that each used, and what the cutter
-- held after it.
abbrev pub FollowOn : List ℕ → List (List ℕ × Cutting) → Type 0
FollowOn text [] = Unit {0}
FollowOn text (feed ∷ feeds) = Cuts text feed.0 feed.1 × FollowOn (text ++ feed.0) feeds

-- all bytes that these feeds used
abbrev pub text_fed : List (List ℕ × Cutting) → List ℕ
text_fed [] = []
text_fed (feed ∷ feeds) = feed.0 ++ text_fed feeds

-- the lines that were whole after a feed
abbrev pub lines_held : List (List ℕ × Cutting) → List (List ℕ)
lines_held [] = []
lines_held (feed ∷ feeds) = cond feed.1.whole (feed.1.line ∷ []) [] ++ lines_held feeds
