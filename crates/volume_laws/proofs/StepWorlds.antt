-- The worlds that tables tell after a step of reclamation.
use Rattle.std.proofs.Common.{◌≡◌, ℕ, Bool, true, false, List, [], ◌∷◌, ◌∙◌, refl, sym, ap}
use Rattle.volume_laws.proofs.Common.{World, without_pointer, Geometry, Record, world_of_parts, zeros_in, no_record, with_free, without_pointers, stepped, world_with-set_free, Tables, pairs_of, world_with, graph_in, pairs_without, live_after, IsStepped}
use Rattle.std.specs.Prelude.{replicate}

-- only the pairs are others
pub without_parts : (a : ℕ) (bs : List ℕ) (w : World) → without_pointers w a bs ≡ record w { pairs = pairs_without w.pairs a bs }
without_parts a [] w = refl
without_parts a (b ∷ bs) w = without_parts a bs (without_pointer w a b)

stepped_parts : (g : Geometry) (live : List Bool) (pairs : List (ℕ × ℕ)) (c : ℕ → List ℕ) (version : ℕ) (records : List Record) (a : ℕ) (bs : List ℕ) (freed : Bool)
    → world_of_parts g (live_after live a freed) (pairs_without pairs a bs) c version records ≡ stepped (world_of_parts g live pairs c version records) a bs freed
stepped_parts g live pairs c version records a bs true =
    world_with-set_free g live (pairs_without pairs a bs) c version records a ∙ ap (λ w. with_free w a) (sym (without_parts a bs (world_of_parts g live pairs c version records)))
stepped_parts g live pairs c version records a bs false = sym (without_parts a bs (world_of_parts g live pairs c version records))

pub world_stepped : (t now : Tables) (a : ℕ) (bs : List ℕ) (freed : Bool) (c : ℕ → List ℕ) → IsStepped t now a bs freed → world_with now c ≡ stepped (world_with t c) a bs freed
unfolding world_with
world_stepped t now a bs freed c is =
    (λ i. world_of_parts (ap (λ (u : Tables). u.geometry) is.same i) (is.live i) (is.pairs i) c (ap (λ (u : Tables). u.version) is.same i) (ap (λ (u : Tables). u.records) is.same i))
    ∙ stepped_parts t.geometry t.live (pairs_of t) c t.version t.records a bs freed

pub graph_stepped : (t now : Tables) (a : ℕ) (bs : List ℕ) (freed : Bool) → IsStepped t now a bs freed → graph_in now ≡ stepped (graph_in t) a bs freed
graph_stepped t now a bs freed is =
    (λ i. world_of_parts (ap (λ (u : Tables). u.geometry) is.same i) (is.live i) (is.pairs i) (zeros_in (ap (λ (u : Tables). u.geometry) is.same i)) 2 (replicate (ap (λ (u : Tables). u.geometry) is.same i).primaries no_record))
    ∙ stepped_parts t.geometry t.live (pairs_of t) (zeros_in t.geometry) 2 (replicate t.geometry.primaries no_record) a bs freed
