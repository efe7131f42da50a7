-- What a certificate says of blocks: at each listed block an entry.
use Rattle.std.specs.Prelude.{ℕ, Bool, List, Option, None, is_some, slice_index_or}
use Rattle.image_audit.specs.declared.entry.Entry.{Entry}

-- the entry of block b, where it is listed
abbrev pub entry_at : List (Option Entry) → ℕ → Option Entry
entry_at entries b = slice_index_or entries b None

abbrev pub is_listed : List (Option Entry) → ℕ → Bool
is_listed entries b = is_some (entry_at entries b)
