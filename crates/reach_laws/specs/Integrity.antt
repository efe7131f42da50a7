-- Who changes what a block contains, its pointers and its capabilities: one request.
use Rattle.std.specs.Prelude.{◌≡◌, ℕ, Bool, false, ◌&&◌, ◌==◌, slice_get, unwrap_or, IsTrue}
use Rattle.std.specs.List.{list_any, list_all}
use Rattle.tsd_model.specs.Pairs.{holds}
use Rattle.tsd_model.specs.World.{contents, is_live}
use Rattle.tsd_model.specs.Sessions.{level_le}
use Rattle.tsd_model.specs.Attained.{attained}
use Rattle.tsd_model.specs.Needs.{session_of, needs}
use Rattle.tsd_model.specs.Verdict.{is_granted}
use Rattle.tsd_model.specs.Step.{State}
use Rattle.tsd_model.specs.Run.{answer}
use Rattle.tsd_model.specs.History.{is_set_cap_of}
use Rattle.tsd_model.specs.declared.needs.Need.{Need}
use Rattle.tsd_model.specs.declared.requests.Level.TheVariants as level
use Rattle.tsd_model.specs.declared.requests.PlaceKind.{PlaceKind}
use Rattle.tsd_model.specs.declared.requests.Request.{Request}
use Rattle.disk_laws.specs.Reached.{writes_to}
use Rattle.disk_laws.specs.Changes.{has_source, is_create_of, is_removal}

-- ---- who acts

-- the session of the request attains write where the need is
abbrev pub attains_write : State → Request → Need → Bool
attains_write st q n = level_le level.Write (attained st.world st.sessions (unwrap_or (session_of q) 0) n.block n.shown)

-- the request is granted, and its session attained write at block b, where it needed a level
abbrev pub acts_with_write : ℕ → State → Request → Bool
acts_with_write b st q =
    is_granted st.world st.sessions q && list_any (λ (n : Need). (n.block == b) && attains_write st q n) (needs q)

-- such a request that is a Write to b
abbrev pub writes_bytes : ℕ → State → Request → Bool
writes_bytes b st q = writes_to q b && acts_with_write b st q

-- one that is a SetCap at b
abbrev pub sets_record : ℕ → State → Request → Bool
sets_record b st q = is_set_cap_of q b && acts_with_write b st q

-- one that adds pointers out of b, or deletes one
abbrev pub moves_pointers : ℕ → State → Request → Bool
moves_pointers b st q = has_source q b && acts_with_write b st q

-- a granted Create of this pointer, whose session attained write at both ends
abbrev pub gives_pointer : ℕ → ℕ → State → Request → Bool
gives_pointer a b st q = is_create_of q a b && (acts_with_write a st q && acts_with_write b st q)

-- a granted Delete or Sweep, whose session attained write at the source or at block 0
abbrev pub removes_blocks : State → Request → Bool
removes_blocks st q = is_removal q && (is_granted st.world st.sessions q && list_all (attains_write st q) (needs q))

-- ---- what stays where nobody did

-- A block that is live before and after keeps its bytes, but by a granted Write to it of a session that attained write
-- there.
abbrev pub BytesHaveAWriter : Type 0
BytesHaveAWriter =
    (kind : PlaceKind) (s : State) (q : Request) (want : Bool) (b : ℕ)
    → IsTrue (is_live s.world b) → IsTrue (is_live (answer kind s q want).state.world b) → writes_bytes b s q ≡ false
    → contents (answer kind s q want).state.world b ≡ contents s.world b

-- It keeps the pointers out of it, but by a granted request that adds or deletes one, of a session that attained write
-- there.
abbrev pub PointersHaveAWriter : Type 0
PointersHaveAWriter =
    (kind : PlaceKind) (s : State) (q : Request) (want : Bool) (a b : ℕ)
    → IsTrue (is_live s.world a) → IsTrue (is_live (answer kind s q want).state.world a) → moves_pointers a s q ≡ false
    → holds (answer kind s q want).state.world.pairs a b ≡ holds s.world.pairs a b

-- What is kept of a primary block's capabilities stays, but by a granted SetCap at it of a session that attained write
-- there.
abbrev pub RecordsHaveAWriter : Type 0
RecordsHaveAWriter =
    (kind : PlaceKind) (s : State) (q : Request) (want : Bool) (o : ℕ)
    → sets_record o s q ≡ false
    → slice_get (answer kind s q want).state.world.records o ≡ slice_get s.world.records o

-- A pointer to a block that was live is new only by a granted Create of a session that attained write at both ends.
abbrev pub NewPointersHaveAGiver : Type 0
NewPointersHaveAGiver =
    (kind : PlaceKind) (s : State) (q : Request) (want : Bool) (a b : ℕ)
    → IsTrue (is_live s.world b) → IsTrue (holds (answer kind s q want).state.world.pairs a b)
    → gives_pointer a b s q ≡ false
    → IsTrue (holds s.world.pairs a b)

-- A live block stays live, but by a granted Delete, of a session that attained write at the source, or a granted Sweep,
-- of one that attained write at block 0.
abbrev pub BlocksHaveARemover : Type 0
BlocksHaveARemover =
    (kind : PlaceKind) (s : State) (q : Request) (want : Bool) (b : ℕ)
    → IsTrue (is_live s.world b) → removes_blocks s q ≡ false
    → IsTrue (is_live (answer kind s q want).state.world b)
