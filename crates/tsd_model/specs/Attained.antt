-- The level that a session attains at a block.
use Rattle.std.specs.Prelude.{ℕ, cond, ◌==◌, List, map, slice_get, slice_index_or, Option, Some, None}
use Rattle.tsd_model.specs.Pairs.{sources_to}
use Rattle.tsd_model.specs.World.{World, is_primary, primary_blocks}
use Rattle.tsd_model.specs.Records.{kept_of, kept_eq}
use Rattle.tsd_model.specs.Sessions.{Sessions, greatest, levels_from}
use Rattle.tsd_model.specs.declared.caps.Shown.{Shown}
use Rattle.tsd_model.specs.declared.caps.Shown.TheVariants.{Nothing, Key}
use Rattle.tsd_model.specs.declared.records.KeptCap.{KeptCap}
use Rattle.tsd_model.specs.declared.records.Record.{Record}
use Rattle.tsd_model.specs.declared.requests.Level.{Level}
use Rattle.tsd_model.specs.declared.requests.Level.TheVariants as level

-- what a capability attains against a record: write where the record keeps the same for writing, else read where it
-- keeps the same for reading
abbrev pub record_level : Option Record → KeptCap → Level
record_level None k = level.Bare
record_level (Some r) k = cond (kept_eq k r.write) level.Write (cond (kept_eq k r.read) level.Read level.Bare)

-- what is shown attains this at a primary block
abbrev pub shown_level : World → ℕ → Shown → Level
shown_level w b Nothing = level.Bare
shown_level w b (Key c) = record_level (slice_get w.records b) (kept_of w.version c)

-- the greatest of these levels at the sources of the pairs to b
abbrev pub led_level : List Level → ℕ → List (ℕ × ℕ) → Level
led_level levels b es = greatest (map (λ a. slice_index_or levels a level.Bare) (sources_to es b))

-- At a primary block what is shown counts, and comes from that block. At another block what is held at the sources of
-- the pairs to it counts, as the pairs are now.
abbrev pub attained_from : World → Sessions → ℕ → ℕ → Shown → ℕ → Level
attained_from w v s b shown o =
    cond (is_primary w b) (cond (o == b) (shown_level w b shown) level.Bare) (led_level (levels_from v s o) b w.pairs)

-- the level attained from each primary block
abbrev pub attained_origins : World → Sessions → ℕ → ℕ → Shown → List Level
attained_origins w v s b shown = map (attained_from w v s b shown) (primary_blocks w)

-- the greatest of them
abbrev pub attained : World → Sessions → ℕ → ℕ → Shown → Level
attained w v s b shown = greatest (attained_origins w v s b shown)
