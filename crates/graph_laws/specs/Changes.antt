-- Changes of a raw world, and of what it settles to.
use Rattle.std.specs.Prelude.{◌≡◌, ℕ, ◌+◌, ◌||◌, List, length, IsTrue}
use Rattle.tsd_model.specs.Pairs.{holds}
use Rattle.tsd_model.specs.World.{World, is_live, has_number}
use Rattle.tsd_model.specs.Doomed.{doomed, settle}
use Rattle.tsd_model.specs.Reach.{swept}
use Rattle.tsd_model.specs.Step.{with_contents, with_pointer, without_pointer}
use Rattle.tsd_model.specs.declared.records.Record.{Record}
use Rattle.graph_laws.specs.Counts.{doomed_pairs}
use Rattle.graph_laws.specs.RawGraph.{IsLaidOut}

-- A pair is deleted: it comes to the same whether what was doomed before is taken away first or not.
abbrev pub DeleteSettles : Type 0
DeleteSettles = (r : World) (a b : ℕ) → IsLaidOut r
    → settle (without_pointer r a b) ≡ settle (without_pointer (settle r) a b)

-- What a deletion dooms is what it dooms in the settled world, and what was doomed is doomed still.
pub record IsDoomedBesides (r : World) (a b : ℕ) : Type 0 where
  pub either : (c : ℕ) → has_number (doomed (without_pointer r a b)) c
      ≡ (has_number (doomed r) c || has_number (doomed (without_pointer (settle r) a b)) c)
  pub blocks : length (doomed (without_pointer r a b))
      ≡ length (doomed r) + length (doomed (without_pointer (settle r) a b))
  pub pairs : length (doomed_pairs (without_pointer r a b))
      ≡ length (doomed_pairs r) + length (doomed_pairs (without_pointer (settle r) a b))

abbrev pub DeleteDooms : Type 0
DeleteDooms = (r : World) (a b : ℕ) → IsLaidOut r → IsTrue (holds (settle r).pairs a b) → IsDoomedBesides r a b

-- A pair is added between blocks of the settled world.
abbrev pub CreateSettles : Type 0
CreateSettles =
    (r : World) (a b : ℕ) → IsLaidOut r → IsTrue (is_live (settle r) a) → IsTrue (is_live (settle r) b)
    → settle (with_pointer r a b) ≡ with_pointer (settle r) a b

-- A block of the settled world, or of the swept one, gets other bytes.
abbrev pub BytesPass : Type 0
BytesPass =
    (r : World) (b : ℕ) (bytes : List ℕ)
    → (IsTrue (is_live (settle r) b) → settle (with_contents r b bytes) ≡ with_contents (settle r) b bytes)
    × (IsTrue (is_live (swept r) b) → swept (with_contents r b bytes) ≡ with_contents (swept r) b bytes)

-- The version and the records have nothing to do with it: new capabilities and an upgrade pass.
abbrev pub RecordsPass : Type 0
RecordsPass =
    (r : World) (version : ℕ) (records : List Record)
    → (settle (record r { version = version; records = records }) ≡ record (settle r) {
      version = version;
      records = records;
    })
    × (swept (record r { version = version; records = records }) ≡ record (swept r) {
      version = version;
      records = records;
    })
