-- The lines that commands over an image put.
use Rattle.std.specs.Prelude.{ℕ, suc, ◌-◌, ◌*◌, List, [], ◌∷◌, ◌++◌, length, codes, decimal}
use Rattle.std.specs.List.{join_with_byte}
use Rattle.hex.specs.Hex.{encode_lower}
use Rattle.tsd_model.specs.World.{World, free_count}
use Rattle.tsd_model.specs.declared.caps.CapPair.{CapPair}
use Rattle.tsd_model.specs.declared.geometry.Geometry.{Geometry}
use Rattle.image_layout.specs.Areas.{total}

-- words parted by one space, and a line feed
abbrev pub line_of : List (List ℕ) → List ℕ
line_of ws = join_with_byte 32 ws ++ 10 ∷ []

-- of `check`: how many blocks are live and how many free, and how many pointers are held
abbrev pub clean_words : ℕ → ℕ → ℕ → List (List ℕ)
clean_words live free pointers = codes "clean" ∷ decimal live ∷ decimal free ∷ decimal pointers ∷ []

abbrev pub clean_line : World → List ℕ
clean_line w = line_of (clean_words (w.geometry.blocks - free_count w) (free_count w) (length w.pairs))

-- a name and its value
abbrev pub value_line : List ℕ → ℕ → List ℕ
value_line name value = line_of (name ∷ decimal value ∷ [])

-- of `info`: the version and the size of a disk, how many of its blocks are live and how many free, how many pointers
-- are held, and how many bytes a whole image of it has
abbrev pub info_lines : ℕ → Geometry → ℕ → ℕ → List ℕ
info_lines version g free pointers =
    value_line (codes "version") version ++ value_line (codes "sectors") g.sectors
    ++ value_line (codes "blocks") g.blocks ++ value_line (codes "primaries") g.primaries
    ++ value_line (codes "slots") g.slots ++ value_line (codes "live") (g.blocks - free)
    ++ value_line (codes "free") free ++ value_line (codes "pointers") pointers
    ++ value_line (codes "size") (total g * 512)

abbrev pub info_text : World → List ℕ
info_text w = info_lines w.version w.geometry (free_count w) (length w.pairs)

-- of `format`: the number of a primary block, and its capabilities to read and to write
abbrev pub cap_words : ℕ → CapPair → List (List ℕ)
cap_words b pair = codes "cap" ∷ decimal b ∷ encode_lower pair.read.bytes ∷ encode_lower pair.write.bytes ∷ []

-- one line for each primary block from this one on
abbrev pub cap_lines : ℕ → List CapPair → List ℕ
cap_lines b [] = []
cap_lines b (pair ∷ pairs) = line_of (cap_words b pair) ++ cap_lines (suc b) pairs

-- of `upgrade`
abbrev pub upgrade_line : List ℕ
upgrade_line = line_of (codes "version" ∷ decimal 2 ∷ [])

-- of `load`: how many requests there were, how many were granted and how many refused, and how many blocks are free and
-- pointers held in the end
abbrev pub load_words : ℕ → ℕ → ℕ → ℕ → ℕ → List (List ℕ)
load_words count granted refused free pointers =
    codes "load" ∷ decimal count ∷ codes "granted" ∷ decimal granted ∷ codes "refused" ∷ decimal refused
    ∷ codes "free" ∷ decimal free ∷ codes "pointers" ∷ decimal pointers ∷ []
