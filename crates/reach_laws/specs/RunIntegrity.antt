-- Who changes what a block contains, its pointers and its capabilities: a run.
use Rattle.std.specs.Prelude.{◌≡◌, ℕ, Bool, false, List, slice_get, IsTrue}
use Rattle.tsd_model.specs.Pairs.{holds}
use Rattle.tsd_model.specs.World.{contents, is_live}
use Rattle.tsd_model.specs.Step.{State}
use Rattle.tsd_model.specs.Run.{after}
use Rattle.tsd_model.specs.declared.requests.PlaceKind.{PlaceKind}
use Rattle.tsd_model.specs.declared.requests.Request.{Request}
use Rattle.reach_laws.specs.Integrity.{writes_bytes, moves_pointers, sets_record, gives_pointer, removes_blocks}
use Rattle.reach_laws.specs.Runs.{at_some_request, at_each_state}

abbrev pub is_live_in : ℕ → State → Bool
is_live_in b st = is_live st.world b

-- A block that is live at each state of a run contains at its end what it contained at first, but where some request of
-- the run was such a Write to it, at the state at which it was answered.
abbrev pub RunBytesHaveAWriter : Type 0
RunBytesHaveAWriter =
    (kind : PlaceKind) (s : State) (wants : List Bool) (qs : List Request) (b : ℕ)
    → IsTrue (at_each_state (is_live_in b) kind s wants qs) → at_some_request (writes_bytes b) kind s wants qs ≡ false
    → contents (after kind s wants qs).world b ≡ contents s.world b

-- The same of the pointers out of it, and of the requests that add or delete one.
abbrev pub RunPointersHaveAWriter : Type 0
RunPointersHaveAWriter =
    (kind : PlaceKind) (s : State) (wants : List Bool) (qs : List Request) (a b : ℕ)
    → IsTrue (at_each_state (is_live_in a) kind s wants qs) → at_some_request (moves_pointers a) kind s wants qs ≡ false
    → holds (after kind s wants qs).world.pairs a b ≡ holds s.world.pairs a b

-- The same of what is kept of a primary block's capabilities, and of a SetCap there.
abbrev pub RunRecordsHaveAWriter : Type 0
RunRecordsHaveAWriter =
    (kind : PlaceKind) (s : State) (wants : List Bool) (qs : List Request) (o : ℕ)
    → at_some_request (sets_record o) kind s wants qs ≡ false
    → slice_get (after kind s wants qs).world.records o ≡ slice_get s.world.records o

-- A pointer to a block that is live at each state of a run was held at first, but where some request of the run was
-- such a Create of it.
abbrev pub RunNewPointersHaveAGiver : Type 0
RunNewPointersHaveAGiver =
    (kind : PlaceKind) (s : State) (wants : List Bool) (qs : List Request) (a b : ℕ)
    → IsTrue (at_each_state (is_live_in b) kind s wants qs)
    → at_some_request (gives_pointer a b) kind s wants qs ≡ false
    → IsTrue (holds (after kind s wants qs).world.pairs a b)
    → IsTrue (holds s.world.pairs a b)

-- A live block is live at each state of a run, but where some request of the run was such a Delete or Sweep. So it
-- isn't freed and given out again either.
abbrev pub RunBlocksHaveARemover : Type 0
RunBlocksHaveARemover =
    (kind : PlaceKind) (s : State) (wants : List Bool) (qs : List Request) (b : ℕ)
    → IsTrue (is_live s.world b) → at_some_request removes_blocks kind s wants qs ≡ false
    → IsTrue (at_each_state (is_live_in b) kind s wants qs)
