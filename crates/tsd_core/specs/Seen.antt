-- A table of grants that may still hold levels at blocks that are free, and what is seen of it.
use Rattle.std.specs.Prelude.{◌≡◌, ℕ, Bool, true, false, cond, List, [], ◌∷◌, length, map, slice_index_or, option_map}
use Rattle.std.specs.List.{range_with_len}
use Rattle.tsd_model.specs.Pairs.{holds}
use Rattle.tsd_model.specs.World.{World, is_live}
use Rattle.tsd_model.specs.Sessions.{Levels, Sessions, session_begun, session_ended, dropped_from, fitted, no_sessions}
use Rattle.tsd_model.specs.Placing.{chosen, chosen_run}
use Rattle.tsd_model.specs.Step.{State, change, raised_by, run_at}
use Rattle.tsd_model.specs.Verdict.{is_begin}
use Rattle.tsd_model.specs.declared.requests.Level.TheVariants as level
use Rattle.tsd_model.specs.declared.requests.PlaceKind.{PlaceKind}
use Rattle.tsd_model.specs.declared.requests.Request.{Request}
use Rattle.tsd_model.specs.declared.requests.Request.TheVariants as ask
use Rattle.tsd_model.specs.declared.replies.Reply.{Reply}
use Rattle.tsd_model.specs.declared.replies.Reply.TheVariants as reply
use Rattle.disk_laws.specs.Bytes.{AreLike}
use Rattle.grant_table.specs.Table.{Table, IsTable, IsMadeFor, dropped_at}

-- of levels at n blocks those at the blocks that pass
abbrev pub levels_seen : (ℕ → Bool) → ℕ → Levels → Levels
levels_seen pass n levels =
    map (λ b. cond (pass b) (slice_index_or levels b level.Bare) level.Bare) (range_with_len 0 n)

-- the same of all sessions; where the live blocks pass, these are the sessions fitted to the world
abbrev pub seen : (ℕ → Bool) → ℕ → Sessions → Sessions
seen pass n v = map (option_map (map (levels_seen pass n))) v

-- each pair comes from a live block
abbrev pub HasLiveSources : World → Type 0
HasLiveSources w = (a b : ℕ) → holds w.pairs a b ≡ true → is_live w a ≡ true

-- ---- what a granted request makes

-- without what is held at each of these blocks, in every session
abbrev pub dropped_each : List ℕ → Sessions → Sessions
dropped_each [] v = v
dropped_each (b ∷ bs) v = dropped_each bs (dropped_at b v)

-- What becomes of the levels, which have risen where one was needed: blocks that are given out again lose the levels
-- that were left at them, and levels at blocks that become free stay until then.
abbrev pub table_change : PlaceKind → World → Sessions → Request → Sessions
table_change kind w v (ask.Begin s) = session_begun w v s
table_change kind w v (ask.End s) = session_ended v s
table_change kind w v (ask.Alloc s a shown h count) = dropped_each (chosen kind w h count) v
table_change kind w v (ask.Contig s a shown h count) = dropped_each (run_at (chosen_run kind w h count) count) v
table_change kind w v (ask.SetCap s b shown caps) = dropped_from w.geometry.blocks b v
table_change kind w v q = v

-- what the table holds then
abbrev pub table_after : PlaceKind → World → Sessions → Request → Sessions
table_after kind w v q = table_change kind w (raised_by w v q) q

-- the world then, and the reply: neither depends on the sessions
abbrev pub world_after : PlaceKind → World → Request → World
world_after kind w q = (change kind w no_sessions q).state.world

abbrev pub reply_to : PlaceKind → World → Request → Reply
reply_to kind w q = (change kind w no_sessions q).reply

-- it opens or closes a session, reads, or is answered from memory
abbrev pub writes_nothing : Request → Bool
writes_nothing ask.Bad = true
writes_nothing (ask.Begin s) = true
writes_nothing (ask.End s) = true
writes_nothing (ask.Read s b shown) = true
writes_nothing ask.GetFree = true
writes_nothing (ask.List s a shown start) = true
writes_nothing q = false

-- ---- what is told

-- it reads a block, whose bytes tables don't know
abbrev pub is_read : Request → Bool
is_read (ask.Read s b shown) = true
is_read q = false

-- A table of grants over a disk of which all is told but the bytes of blocks: what is told is like the disk, and the
-- table was made for it.
pub record IsOver (g : Table) (t w : World) : Type 0 where
  pub like : AreLike t w
  pub table : IsTable g
  pub made : IsMadeFor t g
  pub each_block : length t.blocks ≡ t.geometry.blocks
  pub sources : HasLiveSources t

-- the state: what is seen of the table over the disk
abbrev pub state_over : World → World → Table → State
state_over t w g = record { world = w; sessions = fitted t g.sessions }

-- No memory was found for a begin, and nothing changed.
pub record IsStarved (old : Table) (q : Request) (r : Reply) (new : Table) : Type 0 where
  pub begin : is_begin q ≡ true
  pub reply : r ≡ reply.NoMemory
  pub table : new ≡ old
