-- Worked examples: the definitions answer these lists of requests with these replies, by computing.
use Rattle.std.specs.Prelude.{true, false, reverse, ◌≡◌, ℕ, Bool, ◌&&◌, List, [], ◌∷◌, ◌++◌, refl, replicate}
use Rattle.std.specs.Bool.{beq}
use Rattle.std.specs.List.{list_all, range_with_len}
use Rattle.sha2.specs.Sha256.{sha256, digest_bytes, hash_after, compress, rounds, schedule, first_words}
use Rattle.tsd_model.specs.Records.{kept_of, upgraded}
use Rattle.tsd_model.specs.Sessions.{level_from, level_le}
use Rattle.tsd_model.specs.Step.{State, filled}
use Rattle.tsd_model.specs.Run.{replies, fresh_world, at_rest}
use Rattle.tsd_model.specs.History.{Asked, has_grant, state_after}
use Rattle.tsd_model.specs.declared.caps.Cap.{Cap}
use Rattle.tsd_model.specs.declared.caps.CapPair.{CapPair}
use Rattle.tsd_model.specs.declared.caps.Shown.{Shown}
use Rattle.tsd_model.specs.declared.caps.Shown.TheVariants.{Nothing, Key}
use Rattle.tsd_model.specs.declared.records.KeptCap.TheVariants.{Digested}
use Rattle.tsd_model.specs.declared.requests.Hint.TheVariants.{Null, At}
use Rattle.tsd_model.specs.declared.requests.Level.{Level}
use Rattle.tsd_model.specs.declared.requests.Level.TheVariants as level
use Rattle.tsd_model.specs.declared.requests.PlaceKind.TheVariants.{Low, Near, Spread, Zone}
use Rattle.tsd_model.specs.declared.requests.Request.{Request}
use Rattle.tsd_model.specs.declared.requests.Request.TheVariants as ask
use Rattle.tsd_model.specs.declared.replies.Reply.TheVariants as reply
use Rattle.tsd_model.specs.declared.replies.Rule.TheVariants as rule

-- ---- a disk of eight blocks of 512 bytes, of which one is primary, with the capabilities aa.. and bb..

abbrev cap : ℕ → Cap
cap b = record { bytes = replicate 16 b }

abbrev read_and_write : ℕ → ℕ → CapPair
read_and_write r w = record { read = cap r; write = cap w }

abbrev start : State
start = at_rest (fresh_world (record { sectors = 1; blocks = 8; primaries = 1; slots = 32 }) (read_and_write 0xaa 0xbb ∷ []))

abbrev R : Shown
R = Key (cap 0xaa)

abbrev W : Shown
W = Key (cap 0xbb)

abbrev C : Shown
C = Key (cap 0xcc)

abbrev D : Shown
D = Key (cap 0xdd)

abbrev zeros : List ℕ
zeros = filled 512 []

pub a_fresh_block_reads_as_zeros : replies Near start [] (ask.Begin 1 ∷ ask.Read 1 0 R ∷ []) ≡ reply.Done ∷ reply.Bytes zeros ∷ []
a_fresh_block_reads_as_zeros = refl

pub a_read_capability_does_not_write : replies Near start [] (ask.Begin 1 ∷ ask.Write 1 0 R (104 ∷ 105 ∷ []) ∷ ask.Read 1 0 R ∷ ask.Write 1 0 W (104 ∷ 105 ∷ 0 ∷ []) ∷ ask.Read 1 0 R ∷ []) ≡ reply.Done ∷ reply.Refused (rule.Denied level.Read level.Write) ∷ reply.Bytes zeros ∷ reply.Done ∷ reply.Bytes (filled 512 (104 ∷ 105 ∷ [])) ∷ []
a_read_capability_does_not_write = refl

pub blocks_are_taken_near_block_0 : replies Near start [] (ask.Begin 1 ∷ ask.Alloc 1 0 W Null 3 ∷ ask.GetFree ∷ []) ≡ reply.Done ∷ reply.Blocks (1 ∷ 2 ∷ 3 ∷ []) ∷ reply.Free 4 ∷ []
blocks_are_taken_near_block_0 = refl

pub a_full_disk_says_so : replies Near start [] (ask.Begin 1 ∷ ask.Alloc 1 0 W Null 3 ∷ ask.GetFree ∷ ask.Alloc 1 0 W Null 5 ∷ ask.GetFree ∷ []) ≡ reply.Done ∷ reply.Blocks (1 ∷ 2 ∷ 3 ∷ []) ∷ reply.Free 4 ∷ reply.Refused (rule.Full 4 5) ∷ reply.Free 4 ∷ []
a_full_disk_says_so = refl

pub a_run_needs_free_blocks_in_a_row : replies Near start [] (ask.Begin 1 ∷ ask.Alloc 1 0 W Null 7 ∷ ask.Delete 1 0 W 2 ∷ ask.Delete 1 0 W 4 ∷ ask.Delete 1 0 W 6 ∷ ask.Contig 1 0 W Null 2 ∷ ask.Alloc 1 0 W (At 5) 2 ∷ ask.GetFree ∷ []) ≡ reply.Done ∷ reply.Blocks (1 ∷ 2 ∷ 3 ∷ 4 ∷ 5 ∷ 6 ∷ 7 ∷ []) ∷ reply.Gone 1 ∷ reply.Gone 1 ∷ reply.Gone 1 ∷ reply.Refused (rule.NoRun 3 2) ∷ reply.Blocks (6 ∷ 4 ∷ []) ∷ reply.Free 1 ∷ []
a_run_needs_free_blocks_in_a_row = refl

pub a_block_is_read_along_a_pointer : replies Near start [] (ask.Begin 1 ∷ ask.Alloc 1 0 W Null 1 ∷ ask.Begin 2 ∷ ask.Read 2 1 Nothing ∷ ask.Read 2 0 R ∷ ask.Read 2 1 Nothing ∷ ask.Write 2 1 Nothing (1 ∷ []) ∷ ask.End 2 ∷ ask.Read 2 1 Nothing ∷ []) ≡ reply.Done ∷ reply.Blocks (1 ∷ []) ∷ reply.Done ∷ reply.Refused (rule.Denied level.Bare level.Read) ∷ reply.Bytes zeros ∷ reply.Bytes zeros ∷ reply.Refused (rule.Denied level.Read level.Write) ∷ reply.Done ∷ reply.Refused rule.NotOpen ∷ []
a_block_is_read_along_a_pointer = refl

pub what_hangs_on_a_block_goes_with_it : replies Near start [] (ask.Begin 1 ∷ ask.Alloc 1 0 W Null 1 ∷ ask.Alloc 1 1 Nothing Null 1 ∷ ask.Alloc 1 2 Nothing Null 1 ∷ ask.Delete 1 0 W 1 ∷ ask.GetFree ∷ []) ≡ reply.Done ∷ reply.Blocks (1 ∷ []) ∷ reply.Blocks (2 ∷ []) ∷ reply.Blocks (3 ∷ []) ∷ reply.Gone 3 ∷ reply.Free 7 ∷ []
what_hangs_on_a_block_goes_with_it = refl

pub a_block_stays_while_a_pointer_leads_to_it : replies Near start [] (ask.Begin 1 ∷ ask.Alloc 1 0 W Null 2 ∷ ask.Alloc 1 1 Nothing Null 1 ∷ ask.Create 1 2 Nothing 3 ∷ ask.List 1 2 Nothing 0 ∷ ask.Delete 1 0 W 1 ∷ ask.Delete 1 0 W 2 ∷ ask.GetFree ∷ []) ≡ reply.Done ∷ reply.Blocks (1 ∷ 2 ∷ []) ∷ reply.Blocks (3 ∷ []) ∷ reply.Done ∷ reply.Targets (3 ∷ []) ∷ reply.Gone 1 ∷ reply.Gone 2 ∷ reply.Free 7 ∷ []
a_block_stays_while_a_pointer_leads_to_it = refl

pub a_cycle_waits_for_a_sweep : replies Near start [] (ask.Begin 1 ∷ ask.Alloc 1 0 W Null 1 ∷ ask.Alloc 1 1 Nothing Null 1 ∷ ask.Create 1 2 Nothing 1 ∷ ask.Delete 1 0 W 1 ∷ ask.GetFree ∷ ask.Sweep 1 R ∷ ask.Sweep 1 W ∷ ask.GetFree ∷ []) ≡ reply.Done ∷ reply.Blocks (1 ∷ []) ∷ reply.Blocks (2 ∷ []) ∷ reply.Done ∷ reply.Gone 0 ∷ reply.Free 5 ∷ reply.Refused (rule.Denied level.Read level.Write) ∷ reply.Gone 2 ∷ reply.Free 7 ∷ []
a_cycle_waits_for_a_sweep = refl

pub a_block_may_point_to_itself : replies Near start [] (ask.Begin 1 ∷ ask.Alloc 1 0 W Null 1 ∷ ask.Create 1 1 Nothing 1 ∷ ask.Create 1 1 Nothing 1 ∷ ask.Create 1 1 Nothing 0 ∷ ask.Delete 1 0 W 1 ∷ ask.Read 1 1 Nothing ∷ ask.Sweep 1 W ∷ ask.Read 1 1 Nothing ∷ []) ≡ reply.Done ∷ reply.Blocks (1 ∷ []) ∷ reply.Done ∷ reply.Refused rule.PointerExists ∷ reply.Refused rule.IsPrimary ∷ reply.Gone 0 ∷ reply.Bytes zeros ∷ reply.Gone 1 ∷ reply.Refused rule.FreeBlock ∷ []
a_block_may_point_to_itself = refl

pub levels_end_with_their_block : replies Near start [] (ask.Begin 1 ∷ ask.Begin 2 ∷ ask.Alloc 1 0 W Null 1 ∷ ask.Alloc 1 1 Nothing Null 1 ∷ ask.Read 2 0 R ∷ ask.Read 2 1 Nothing ∷ ask.Read 2 2 Nothing ∷ ask.Delete 1 0 W 1 ∷ ask.Alloc 1 0 W Null 1 ∷ ask.Alloc 1 1 Nothing Null 1 ∷ ask.Read 2 2 Nothing ∷ ask.Read 2 1 Nothing ∷ ask.Read 2 2 Nothing ∷ []) ≡ reply.Done ∷ reply.Done ∷ reply.Blocks (1 ∷ []) ∷ reply.Blocks (2 ∷ []) ∷ reply.Bytes zeros ∷ reply.Bytes zeros ∷ reply.Bytes zeros ∷ reply.Gone 2 ∷ reply.Blocks (1 ∷ []) ∷ reply.Blocks (2 ∷ []) ∷ reply.Refused (rule.Denied level.Bare level.Read) ∷ reply.Bytes zeros ∷ reply.Bytes zeros ∷ []
levels_end_with_their_block = refl

pub new_capabilities_end_old_levels : replies Near start [] (ask.Begin 1 ∷ ask.Begin 2 ∷ ask.Alloc 1 0 W Null 1 ∷ ask.Read 2 0 R ∷ ask.SetCap 1 0 W (read_and_write 0xcc 0xdd) ∷ ask.Read 2 1 Nothing ∷ ask.Alloc 1 1 Nothing Null 1 ∷ ask.Read 2 0 R ∷ ask.Read 2 0 C ∷ ask.Read 2 1 Nothing ∷ []) ≡ reply.Done ∷ reply.Done ∷ reply.Blocks (1 ∷ []) ∷ reply.Bytes zeros ∷ reply.Done ∷ reply.Refused (rule.Denied level.Bare level.Read) ∷ reply.Refused (rule.Denied level.Bare level.Write) ∷ reply.Refused (rule.Denied level.Bare level.Read) ∷ reply.Bytes zeros ∷ reply.Bytes zeros ∷ []
new_capabilities_end_old_levels = refl

pub spread_goes_upwards_from_the_hint : replies Spread start [] (ask.Begin 1 ∷ ask.Alloc 1 0 W (At 6) 3 ∷ []) ≡ reply.Done ∷ reply.Blocks (6 ∷ 7 ∷ 1 ∷ []) ∷ []
spread_goes_upwards_from_the_hint = refl

-- ---- other disks and kinds of placement

abbrev disk_of_64 : State
disk_of_64 = at_rest (fresh_world (record { sectors = 1; blocks = 64; primaries = 1; slots = 256 }) (read_and_write 0xaa 0xbb ∷ []))

pub counts_and_sessions_have_bounds : replies Low disk_of_64 [] (ask.Begin 1 ∷ ask.Alloc 1 0 W Null 0 ∷ ask.Alloc 1 0 W Null 33 ∷ ask.Alloc 1 0 W Null 32 ∷ ask.Begin 65 ∷ ask.Begin 0 ∷ ask.Begin 1 ∷ ask.End 2 ∷ ask.Read 1 64 Nothing ∷ ask.Bad ∷ ask.Write 1 0 W (replicate 513 7) ∷ ask.SetCap 1 1 Nothing (read_and_write 0xaa 0xbb) ∷ ask.Delete 1 0 W 40 ∷ ask.Delete 1 1 Nothing 2 ∷ [])
    ≡ reply.Done ∷ reply.Refused rule.BadCount ∷ reply.Refused rule.BadCount ∷ reply.Blocks (1 ∷ 2 ∷ 3 ∷ 4 ∷ 5 ∷ 6 ∷ 7 ∷ 8 ∷ 9 ∷ 10 ∷ 11 ∷ 12 ∷ 13 ∷ 14 ∷ 15 ∷ 16 ∷ 17 ∷ 18 ∷ 19 ∷ 20 ∷ 21 ∷ 22 ∷ 23 ∷ 24 ∷ 25 ∷ 26 ∷ 27 ∷ 28 ∷ 29 ∷ 30 ∷ 31 ∷ 32 ∷ []) ∷ reply.Refused rule.BadSession ∷ reply.Refused rule.BadSession ∷ reply.Refused rule.AlreadyOpen ∷ reply.Refused rule.NotOpen ∷ reply.Refused rule.NoSuchBlock ∷ reply.Refused rule.BadRequest ∷ reply.Refused rule.BadSize ∷ reply.Refused rule.NotPrimary ∷ reply.Refused rule.FreeBlock ∷ reply.Refused rule.NoPointer ∷ []
counts_and_sessions_have_bounds = refl

pub near_takes_a_hint_past_the_last_block : replies Near start [] (ask.Begin 1 ∷ ask.Alloc 1 0 W (At 4294967295) 2 ∷ []) ≡ reply.Done ∷ reply.Blocks (7 ∷ 6 ∷ []) ∷ []
near_takes_a_hint_past_the_last_block = refl

abbrev disk_of_one_slot : State
disk_of_one_slot = at_rest (fresh_world (record { sectors = 1; blocks = 8; primaries = 1; slots = 1 }) (read_and_write 0xaa 0xbb ∷ []))

pub pointers_have_slots : replies Near disk_of_one_slot [] (ask.Begin 1 ∷ ask.Alloc 1 0 W Null 2 ∷ ask.Alloc 1 0 W Null 1 ∷ ask.Create 1 1 Nothing 1 ∷ [])
    ≡ reply.Done ∷ reply.Refused (rule.PointersFull 0 1) ∷ reply.Blocks (1 ∷ []) ∷ reply.Refused (rule.PointersFull 1 1) ∷ []
pointers_have_slots = refl

abbrev disk_of_600 : State
disk_of_600 = at_rest (fresh_world (record { sectors = 1; blocks = 600; primaries = 1; slots = 2400 }) (read_and_write 0xaa 0xbb ∷ []))

pub zones_come_in_turns : replies Zone disk_of_600 [] (ask.Begin 1 ∷ ask.Alloc 1 0 W (At 512) 32 ∷ ask.Alloc 1 0 W (At 512) 32 ∷ ask.Alloc 1 0 W (At 512) 32 ∷ ask.Contig 1 0 W (At 512) 32 ∷ [])
    ≡ reply.Done ∷ reply.Blocks (range_with_len 512 32) ∷ reply.Blocks (range_with_len 544 32) ∷ reply.Blocks (range_with_len 576 24 ++ range_with_len 256 8) ∷ reply.Blocks (range_with_len 264 32) ∷ []
zones_come_in_turns = refl

-- ---- version 2

abbrev upgraded_once : State
upgraded_once = at_rest (upgraded start.world)

-- the digest was computed elsewhere
pub version_2_keeps_this_digest : kept_of 2 (cap 0xaa) ≡ Digested (0xbc ∷ 0x14 ∷ 0x43 ∷ 0xa0 ∷ 0xd1 ∷ 0x7a ∷ 0xab ∷ 0x2d ∷ 0xb1 ∷ 0xea ∷ 0x03 ∷ 0x02 ∷ 0xef ∷ 0x28 ∷ 0x07 ∷ 0x17 ∷ 0xac ∷ 0x9a ∷ 0x2f ∷ 0x23 ∷ 0x35 ∷ 0x5c ∷ 0x5b ∷ 0x64 ∷ 0x9e ∷ 0xa8 ∷ 0x7d ∷ 0x60 ∷ 0x54 ∷ 0x30 ∷ 0x45 ∷ 0x8d ∷ [])
unfolding sha256 digest_bytes hash_after compress rounds schedule first_words
version_2_keeps_this_digest = refl

pub new_capabilities_end_old_levels_in_version_2 : replies Near upgraded_once [] (ask.Begin 1 ∷ ask.Begin 2 ∷ ask.Alloc 1 0 W Null 1 ∷ ask.Read 2 0 R ∷ ask.SetCap 1 0 W (read_and_write 0xcc 0xdd) ∷ ask.Read 2 1 Nothing ∷ ask.Alloc 1 1 Nothing Null 1 ∷ ask.Read 2 0 R ∷ ask.Read 2 0 C ∷ ask.Read 2 1 Nothing ∷ [])
    ≡ reply.Done ∷ reply.Done ∷ reply.Blocks (1 ∷ []) ∷ reply.Bytes zeros ∷ reply.Done ∷ reply.Refused (rule.Denied level.Bare level.Read) ∷ reply.Refused (rule.Denied level.Bare level.Write) ∷ reply.Refused (rule.Denied level.Bare level.Read) ∷ reply.Bytes zeros ∷ reply.Bytes zeros ∷ []
unfolding sha256 digest_bytes hash_after compress rounds schedule first_words
new_capabilities_end_old_levels_in_version_2 = refl

pub a_disk_may_be_upgraded_twice : replies Near (at_rest (upgraded upgraded_once.world)) [] (ask.Begin 1 ∷ ask.Write 1 0 R (104 ∷ 105 ∷ []) ∷ ask.Write 1 0 W (104 ∷ 105 ∷ []) ∷ ask.SetCap 1 0 W (read_and_write 0xcc 0xdd) ∷ ask.Read 1 0 R ∷ ask.Read 1 0 C ∷ [])
    ≡ reply.Done ∷ reply.Refused (rule.Denied level.Read level.Write) ∷ reply.Done ∷ reply.Done ∷ reply.Refused (rule.Denied level.Bare level.Read) ∷ reply.Bytes (filled 512 (104 ∷ 105 ∷ [])) ∷ []
unfolding sha256 digest_bytes hash_after compress rounds schedule first_words
a_disk_may_be_upgraded_twice = refl

pub pointers_have_slots_in_version_2 : replies Near (at_rest (upgraded disk_of_one_slot.world)) [] (ask.Begin 1 ∷ ask.Alloc 1 0 W Null 2 ∷ ask.Alloc 1 0 W Null 1 ∷ ask.Create 1 1 Nothing 1 ∷ [])
    ≡ reply.Done ∷ reply.Refused (rule.PointersFull 0 1) ∷ reply.Blocks (1 ∷ []) ∷ reply.Refused (rule.PointersFull 1 1) ∷ []
unfolding sha256 digest_bytes hash_after compress rounds schedule first_words
pointers_have_slots_in_version_2 = refl

-- ---- levels and their origins

pub levels_end_where_their_origin_changes : replies Near start [] (ask.Begin 1 ∷ ask.Begin 2 ∷ ask.Alloc 1 0 W Null 1 ∷ ask.Alloc 1 1 Nothing Null 1 ∷ ask.Read 2 0 R ∷ ask.Read 2 1 Nothing ∷ ask.SetCap 1 0 W (read_and_write 0xcc 0xdd) ∷ ask.Read 2 2 Nothing ∷ ask.Read 1 2 Nothing ∷ ask.Read 2 0 C ∷ ask.Read 2 1 Nothing ∷ ask.Read 2 2 Nothing ∷ [])
    ≡ reply.Done ∷ reply.Done ∷ reply.Blocks (1 ∷ []) ∷ reply.Blocks (2 ∷ []) ∷ reply.Bytes zeros ∷ reply.Bytes zeros ∷ reply.Done ∷ reply.Refused (rule.Denied level.Bare level.Read) ∷ reply.Refused (rule.Denied level.Bare level.Read) ∷ reply.Bytes zeros ∷ reply.Bytes zeros ∷ reply.Bytes zeros ∷ []
levels_end_where_their_origin_changes = refl

abbrev two_primaries : State
two_primaries = at_rest (fresh_world (record { sectors = 1; blocks = 8; primaries = 2; slots = 32 }) (read_and_write 0xaa 0xbb ∷ read_and_write 0xcc 0xdd ∷ []))

pub levels_from_another_origin_stay : replies Near two_primaries [] (ask.Begin 1 ∷ ask.Alloc 1 0 W Null 1 ∷ ask.Create 1 1 D 2 ∷ ask.Alloc 1 2 Nothing Null 1 ∷ ask.SetCap 1 0 W (read_and_write 0xaa 0xbb) ∷ ask.Write 1 3 Nothing (5 ∷ []) ∷ ask.SetCap 1 1 D (read_and_write 0xcc 0xdd) ∷ ask.Read 1 3 Nothing ∷ [])
    ≡ reply.Done ∷ reply.Blocks (2 ∷ []) ∷ reply.Done ∷ reply.Blocks (3 ∷ []) ∷ reply.Done ∷ reply.Done ∷ reply.Done ∷ reply.Refused (rule.Denied level.Bare level.Read) ∷ []
levels_from_another_origin_stay = refl

-- ---- the grants of the requests so far are the levels held, at each block and from each origin

abbrev asked : Request → Asked
asked q = record { request = q; wants = false }

abbrev agrees : List Asked → ℕ → ℕ → Level → Bool
agrees past s a l = beq (level_le l (level_from (state_after Near start past).sessions s 0 a)) (has_grant Near start past s 0 a l)

abbrev all_agree : List Asked → Bool
all_agree past = list_all (λ s. list_all (λ a. agrees past s a level.Read && agrees past s a level.Write) (range_with_len 0 8)) (1 ∷ 2 ∷ [])

pub grants_are_the_levels_held : all_agree (reverse (asked (ask.Begin 1) ∷ asked (ask.Begin 2) ∷ asked (ask.Alloc 1 0 W Null 1) ∷ asked (ask.Alloc 1 1 Nothing Null 1) ∷ asked (ask.Read 2 0 R) ∷ asked (ask.Read 2 1 Nothing) ∷ asked (ask.SetCap 1 0 W (read_and_write 0xcc 0xdd)) ∷ asked (ask.Read 2 2 Nothing) ∷ asked (ask.Read 2 0 C) ∷ [])) ≡ true
grants_are_the_levels_held = refl
