-- Worked examples: what images of a small disk stand for, and which fault the damaged ones have, by computing.
use Rattle.std.proofs.Common.{◌≡◌, ℕ, ◌-◌, ◌==◌, if◌then◌else◌, true, List, [], ◌∷◌, ◌++◌, length, refl}
use Rattle.std.proofs.Common.{Some, None}
use Rattle.std.specs.Prelude.{replicate}
use Rattle.image_world.proofs.Common.{CapPair, Geometry, fresh_world, with_new_blocks, with_contents, World, zeros, put_at, header_bytes, Image, gate_bytes, descriptor_bytes, open_records, debt, tables_of, world_with, left_of, world_of}

-- ---- images

-- eight blocks of one sector, of which one is primary, and eight slots, so that data begins in sector 137
abbrev pub size : Geometry
size = record { sectors = 1; blocks = 8; primaries = 1; slots = 8 }

abbrev pub caps : CapPair
caps = record { read = record { bytes = replicate 16 161 }; write = record { bytes = replicate 16 178 } }

-- a sector that begins with these bytes
abbrev pub begins : List ℕ → List ℕ
begins bytes = bytes ++ replicate (512 - length bytes) 0

-- a count in four bytes
abbrev pub count : ℕ → List ℕ
count n = n ∷ 0 ∷ 0 ∷ 0 ∷ []

-- a slot in eight bytes, by its two numbers
abbrev pub slot : ℕ → ℕ → List ℕ
slot source target = count source ++ count target

abbrev pub fresh : Image
fresh n =
    if n == 0 then header_bytes (record { version = 1; geometry = size })
    else if n == 1 then gate_bytes true
    else if n == 132 then begins (replicate 16 161 ++ replicate 16 178)
    else if n == 135 then begins (1 ∷ [])
    else zeros

-- the same once three blocks were allocated
abbrev pub allocated : Image
allocated n =
    if n == 134 then begins (count 0 ++ count 1 ++ count 1 ++ count 1)
    else if n == 135 then begins (15 ∷ [])
    else if n == 136 then begins (slot 1 1 ++ slot 1 2 ++ slot 1 3)
    else fresh n

-- that with two open records, each of which has the sector of block 1
abbrev pub committed : Image
committed n =
    if n == 2 then gate_bytes true
    else if n == 3 then descriptor_bytes (138 ∷ [])
    else if n == 4 then replicate 512 7
    else if n == 5 then replicate 512 9
    else if n == 117 then gate_bytes true
    else if n == 118 then descriptor_bytes (138 ∷ [])
    else allocated n

-- two blocks that lead to each other, and to which no other block leads
abbrev pub ring : Image
ring n =
    if n == 134 then begins (count 0 ++ count 1 ++ count 1)
    else if n == 135 then begins (7 ∷ [])
    else if n == 136 then begins (slot 2 2 ++ slot 3 1)
    else fresh n

abbrev pub fresh_disk : World
fresh_disk = fresh_world size (caps ∷ [])

abbrev pub three : World
three = with_new_blocks fresh_disk 0 (1 ∷ 2 ∷ 3 ∷ [])

-- an image with other bytes in one sector
abbrev pub poked : ℕ → List ℕ → Image
poked sector bytes = put_at sector (begins bytes) allocated

-- ---- what they stand for
pub a_fresh_disk_stands_for_the_fresh_world : world_of fresh ≡ fresh_disk
unfolding world_of tables_of world_with left_of open_records
a_fresh_disk_stands_for_the_fresh_world = refl

pub new_blocks_stand_where_they_were_allocated : world_of allocated ≡ three
unfolding world_of tables_of world_with left_of open_records
new_blocks_stand_where_they_were_allocated = refl

pub the_later_record_wins : world_of committed ≡ with_contents three 1 (replicate 512 9)
unfolding world_of tables_of world_with left_of open_records
the_later_record_wins = refl

pub a_ring_stays : world_of ring ≡ record fresh_disk { blocks = Some zeros ∷ Some zeros ∷ Some zeros ∷ None ∷ None ∷ None ∷ None ∷ None ∷ []; pairs = (1, 2) ∷ (2, 1) ∷ [] }
unfolding world_of tables_of world_with left_of open_records
a_ring_stays = refl

pub a_ring_is_swept_where_the_flag_is_open : world_of (put_at 131 (gate_bytes true) ring) ≡ fresh_disk
unfolding world_of tables_of world_with left_of open_records
a_ring_is_swept_where_the_flag_is_open = refl

-- block 4 is live, and no pair leads to it
pub what_is_lost_does_not_stand : (world_of (poked 135 (31 ∷ [])) ≡ three) × (debt (poked 135 (31 ∷ [])) ≡ 1)
unfolding world_of tables_of world_with left_of open_records
what_is_lost_does_not_stand = (refl, refl)

-- a block and the pair from it are lost
pub a_pair_from_a_lost_block_is_owed : debt (put_at 134 (begins (count 0 ++ count 2 ++ count 1 ++ count 1)) (put_at 136 (begins (slot 1 1 ++ slot 1 2 ++ slot 1 3 ++ slot 5 1)) (poked 135 (31 ∷ [])))) ≡ 2
unfolding tables_of world_with open_records
a_pair_from_a_lost_block_is_owed = refl

pub an_open_flag_changes_nothing_where_all_is_reached : world_of (poked 131 (1 ∷ [])) ≡ three
unfolding world_of tables_of world_with left_of open_records
an_open_flag_changes_nothing_where_all_is_reached = refl
