-- A text cut at each index where one byte stands: lines at line feeds, words at spaces.
use Rattle.std.specs.Prelude.{ℕ, ◌+◌, cond, ◌==◌, List, [], ◌∷◌, ◌++◌, Option, Some, None}
use Rattle.std.specs.Borrow.{Bor}

-- the byte stands before the first piece
abbrev pub onto_first : ℕ → List (List ℕ) → List (List ℕ)
onto_first b [] = (b ∷ []) ∷ []
onto_first b (p ∷ ps) = (b ∷ p) ∷ ps

-- what stands before, between and after the cuts: one more piece than there are cuts
abbrev pub pieces : ℕ → List ℕ → List (List ℕ)
pieces at [] = [] ∷ []
pieces at (b ∷ bs) = cond (b == at) ([] ∷ pieces at bs) (onto_first b (pieces at bs))

-- the words of what is left of a line, if something is
abbrev pub words_left : Option (Bor (List ℕ)) → List (List ℕ)
words_left None = []
words_left (Some rest) = pieces 32 rest.now

-- all items but the last
abbrev pub front : List (List ℕ) → List (List ℕ)
front [] = []
front (p ∷ []) = []
front (p ∷ q ∷ ps) = p ∷ front (q ∷ ps)

-- the last item
abbrev pub last_of : List (List ℕ) → List ℕ
last_of [] = []
last_of (p ∷ []) = p
last_of (p ∷ q ∷ ps) = last_of (q ∷ ps)

-- the lines of a text: what stands before each line feed
abbrev pub lines : List ℕ → List (List ℕ)
lines text = front (pieces 10 text)

-- what stands after the last line feed
abbrev pub unended : List ℕ → List ℕ
unended text = last_of (pieces 10 text)

-- one line, where it is something
abbrev pub if_some : List ℕ → List (List ℕ)
if_some [] = []
if_some (b ∷ bs) = (b ∷ bs) ∷ []

-- the lines of a text that has come to its end: what stands after the last line feed is one more, where it is something
abbrev pub all_lines : List ℕ → List (List ℕ)
all_lines text = lines text ++ if_some (unended text)

-- how many line feeds there are
abbrev pub line_feeds : List ℕ → ℕ
line_feeds [] = 0
line_feeds (b ∷ bs) = cond (b == 10) 1 0 + line_feeds bs
