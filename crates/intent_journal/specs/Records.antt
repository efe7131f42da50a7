-- The records that an image has in the ring.
use Rattle.std.specs.Prelude.{◌≡◌, ℕ, zero, suc, ◌+◌, ◌<◌, ◌&&◌, Bool, true, false, cond, List, [], ◌∷◌, ◌++◌, length}
use Rattle.std.specs.Prelude.{map, flat_map, slice_index}
use Rattle.std.specs.List.{range_with_len}
use Rattle.image_layout.specs.declared.offset.Patch.{Patch}
use Rattle.image_layout.specs.Image.{Image, says_open}
use Rattle.image_layout.specs.Ring.{records, gate_sector, descriptor_sector, body_sector}
use Rattle.intent_journal.specs.Descriptor.{count_in, home_in, homes_in, is_valid}

-- what a record says: each of these homes is to have these bytes
abbrev pub JournalRecord : Type 0
JournalRecord = List Patch

-- the patches of all records, in order
abbrev pub patches_of : List JournalRecord → List Patch
patches_of rs = flat_map (λ r. r) rs

abbrev pub descriptor_of : Image → ℕ → List ℕ
descriptor_of image index = image (descriptor_sector index)

abbrev pub is_gate_open : Image → ℕ → Bool
is_gate_open image index = says_open (image (gate_sector index))

-- every gate of the journal reads closed
abbrev pub AreClosed : Image → Type 0
AreClosed x = (index : ℕ) → index < records → is_gate_open x index ≡ false

-- the record of this index, whose bodies begin at this one
abbrev pub record_at : Image → ℕ → ℕ → JournalRecord
record_at image index start =
    map (λ k. record { sector = home_in (descriptor_of image index) k; bytes = image (body_sector (start + k)) })
    (range_with_len 0 (count_in (descriptor_of image index)))

-- of so many records from this index on, those before the first one whose gate is closed or whose descriptor isn't
-- valid; the bodies of each record begin where those of the one before it end
abbrev pub open_from : Image → ℕ → ℕ → ℕ → List JournalRecord
open_from image index start zero = []
open_from image index start (suc left) =
    cond (is_gate_open image index && is_valid start (descriptor_of image index))
    (record_at image index start ∷ open_from image (index + 1) (start + count_in (descriptor_of image index)) left)
    []

-- A record is open where its gate and all gates before it are open. These are the open records before the first whose
-- descriptor isn't valid.
unfoldable pub open_records : Image → List JournalRecord
open_records image = open_from image 0 0 records

-- of so many records from this index on, each that is open has a valid descriptor
abbrev pub are_valid_from : Image → ℕ → ℕ → ℕ → Bool
are_valid_from image index start zero = true
are_valid_from image index start (suc left) =
    cond (is_gate_open image index)
    (is_valid start (descriptor_of image index) && are_valid_from image (index + 1)
    (start + count_in (descriptor_of image index)) left)
    true

-- each open record has a valid descriptor
unfoldable pub has_valid_records : Image → Bool
has_valid_records image = are_valid_from image 0 0 records

-- ---- reading
-- these homes, each with a body: the first with the body of this number, and so on
abbrev pub bodied : Image → ℕ → List ℕ → List Patch
bodied image start homes =
    map (λ k. record { sector = slice_index homes k; bytes = image (body_sector (start + k)) })
    (range_with_len 0 (length homes))

-- the descriptor is valid where the record's bodies begin at this one, and it has these homes
abbrev pub HasHomes : Image → ℕ → ℕ → List ℕ → Type 0
HasHomes image index start homes =
    (is_valid start (descriptor_of image index) ≡ true) × (homes ≡ homes_in (descriptor_of image index))

-- the record is open, but its descriptor isn't valid where its bodies begin at this one
abbrev pub IsBadRecord : Image → ℕ → ℕ → Type 0
IsBadRecord image index start =
    (is_gate_open image index ≡ true) × (is_valid start (descriptor_of image index) ≡ false)

-- the record is open and valid behind these patches, and its own are added to them
abbrev pub AddsRecord : Image → ℕ → List Patch → List Patch → Type 0
AddsRecord image index old new =
    (is_gate_open image index ≡ true)
    × (is_valid (length old) (descriptor_of image index) ≡ true)
    × (new ≡ old ++ record_at image index (length old))
