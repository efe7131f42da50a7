-- Entries of a cluster, in whatever order.
use Rattle.std.specs.Prelude.{ℕ, ◌+◌, ◌*◌, Bool, cond, List, [], ◌∷◌, ◌++◌, map, take, drop, Option, Some, None}
use Rattle.std.specs.Prelude.{bytes_eq}
use Rattle.std.specs.List.{list_any}
use Rattle.fs_trees.specs.Names.{Name, name_lt}
use Rattle.fs_trees.specs.Fields.{Entry, entry_in}

-- it is the entry of this name
abbrev pub has_name : Name → Entry → Bool
has_name n e = bytes_eq e.name n

-- the name is one of these
abbrev pub is_among : List Name → Name → Bool
is_among ns n = list_any (bytes_eq n) ns

-- the name of the entry at a position of a list of bytes
abbrev pub name_in : List ℕ → ℕ → Name
name_in x position = (entry_in (drop (32 * position) x)).name

-- the entries with another at a lookup: in place of the one there, or behind all; and without the one there
abbrev pub listed_at : ℕ → Entry → List Entry → List Entry
listed_at position e es = take position es ++ e ∷ drop (position + 1) es

abbrev pub unlisted_at : ℕ → List Entry → List Entry
unlisted_at position es = take position es ++ drop (position + 1) es

-- the lesser of two names that may be there
abbrev pub lesser : Option Name → Option Name → Option Name
lesser None n = n
lesser (Some m) None = Some m
lesser (Some m) (Some n) = cond (name_lt n m) (Some n) (Some m)

-- a name where it stands above another
abbrev pub if_above : Name → Name → Option Name
if_above after n = cond (name_lt after n) (Some n) None

-- the least of the names that stand above another
abbrev pub least_above : Name → List Name → Option Name
least_above after [] = None
least_above after (n ∷ ns) = lesser (if_above after n) (least_above after ns)

-- the next block as a list
abbrev pub next_blocks : Option ℕ → List ℕ
next_blocks None = []
next_blocks (Some b) = b ∷ []

abbrev pub entry_blocks : List Entry → List ℕ
entry_blocks es = map (λ e. e.block) es
