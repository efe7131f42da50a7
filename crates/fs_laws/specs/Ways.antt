-- How a session that may write a root gets to write what hangs from it.
use Rattle.std.specs.Prelude.{ℕ, ◌<◌, ◌≤◌, Bool, ◌&&◌, ◌==◌, IsTrue}
use Rattle.std.specs.List.{list_any}
use Rattle.tsd_model.specs.World.{is_live}
use Rattle.tsd_model.specs.Pairs.{holds}
use Rattle.tsd_model.specs.Sessions.{level_le, level_from, Fits}
use Rattle.tsd_model.specs.Attained.{attained}
use Rattle.tsd_model.specs.Needs.{needs, is_steady}
use Rattle.tsd_model.specs.Verdict.{is_granted}
use Rattle.tsd_model.specs.Valid.{IsValid}
use Rattle.tsd_model.specs.Step.{State}
use Rattle.tsd_model.specs.Run.{answer}
use Rattle.tsd_model.specs.History.{is_of_session}
use Rattle.tsd_model.specs.declared.caps.Shown.{Shown}
use Rattle.tsd_model.specs.declared.requests.Level.TheVariants as level
use Rattle.tsd_model.specs.declared.requests.PlaceKind.{PlaceKind}
use Rattle.tsd_model.specs.declared.requests.Request.{Request}

-- the session holds write at the block, from some primary block
abbrev pub HoldsWrite : State → ℕ → ℕ → Type 0
HoldsWrite st s a = (o : ℕ) × (o < st.world.geometry.primaries)
    × IsTrue (level_le level.Write (level_from st.sessions s o a))

abbrev pub attains_write : State → ℕ → ℕ → Shown → Bool
attains_write st s b shown = level_le level.Write (attained st.world st.sessions s b shown)

-- the request needs something at the block, and what it shows attains write there
abbrev pub writes_through : State → Request → ℕ → ℕ → Bool
writes_through st q s a = list_any (λ n. (n.block == a) && attains_write st s a n.shown) (needs q)

-- What a block points to can be written where the block is held so.
abbrev pub WaysLeadOn : Type 0
WaysLeadOn =
    (st : State) (s a b : ℕ) (shown : Shown)
    → st.world.geometry.primaries ≤ b → IsTrue (holds st.world.pairs a b) → HoldsWrite st s a
    → IsTrue (attains_write st s b shown)

-- A granted request that needs something at a block where it attains write leaves it held so: a Read does.
abbrev pub WaysAreGained : Type 0
WaysAreGained =
    (kind : PlaceKind) (st : State) (q : Request) (want : Bool) (s a : ℕ)
    → IsValid st.world → Fits st.world st.sessions
    → IsTrue (is_granted st.world st.sessions q) → IsTrue (is_of_session q s) → IsTrue (writes_through st q s a)
    → IsTrue (is_steady q) → IsTrue (is_live (answer kind st q want).state.world a)
    → HoldsWrite (answer kind st q want).state s a

-- It stays so while the block is live.
abbrev pub WaysStay : Type 0
WaysStay =
    (kind : PlaceKind) (st : State) (q : Request) (want : Bool) (s a : ℕ)
    → IsValid st.world → Fits st.world st.sessions
    → HoldsWrite st s a → IsTrue (is_steady q) → IsTrue (is_live (answer kind st q want).state.world a)
    → HoldsWrite (answer kind st q want).state s a
