-- Worked examples: what the words answer for a small graph, by computing.
use Rattle.std.specs.Prelude.{◌≡◌, true, false, [], ◌∷◌, refl}
use Rattle.graph_laws.proofs.Common.{World, free_count, reach, swept, doomed, settle, without_pointer, with_pointer, kept_count, doomed_pairs, graph, stepped}

-- A disk of eight blocks, of which one is primary and 1 to 4 are live too. Blocks 1, 2 and 3 are a ring, block 4 leads to it, and nothing leads to block 4.
abbrev ring : World
ring = graph (record { sectors = 1; blocks = 8; primaries = 1; slots = 8 }) (true ∷ true ∷ true ∷ true ∷ true ∷ false ∷ false ∷ false ∷ []) ((1, 2) ∷ (2, 3) ∷ (3, 1) ∷ (4, 1) ∷ [])

pub a_ring_stays_though_a_doomed_block_leads_to_it : doomed ring ≡ 4 ∷ []
a_ring_stays_though_a_doomed_block_leads_to_it = refl

pub pairs_from_doomed_blocks_do_not_count : (kept_count ring 1 ≡ 1) × (doomed_pairs ring ≡ (4, 1) ∷ [])
pairs_from_doomed_blocks_do_not_count = (refl, refl)

pub a_cut_ring_goes_and_the_source_of_the_cut_too : doomed (without_pointer ring 3 1) ≡ 1 ∷ 2 ∷ 3 ∷ 4 ∷ []
a_cut_ring_goes_and_the_source_of_the_cut_too = refl

pub a_step_leaves_the_ring_as_settling_does : (settle (stepped ring 4 (1 ∷ []) true) ≡ settle ring) × (stepped ring 4 (1 ∷ []) true ≡ settle ring)
a_step_leaves_the_ring_as_settling_does = (refl, refl)

pub a_ring_that_is_not_reached_is_swept : (reach ring ≡ 0 ∷ []) × (free_count (swept ring) ≡ 7) × ((swept ring).pairs ≡ [])
a_ring_that_is_not_reached_is_swept = (refl, refl, refl)

pub a_block_that_leads_to_itself_stays : doomed (without_pointer (with_pointer ring 3 3) 2 3) ≡ 4 ∷ []
a_block_that_leads_to_itself_stays = refl
