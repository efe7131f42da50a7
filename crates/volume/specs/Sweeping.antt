-- What a sweep takes away, and how often it writes.
use Rattle.std.specs.Prelude.{ℕ, ◌+◌, ◌-◌, ◌*◌, cond, length}
use Rattle.tsd_model.specs.World.{World, free_count}
use Rattle.tsd_model.specs.Reach.{swept}
use Rattle.intent_journal.specs.Ring.{checkpoint_writes}
use Rattle.image_world.specs.Raw.{blank_of}
use Rattle.image_world.specs.Tables.{Tables}
use Rattle.image_world.specs.Debt.{graph_in, owed}
use Rattle.volume_laws.specs.Volume.{Volume}
use Rattle.volume_laws.specs.Writes.{batch_cost, lost_cost}

-- the pairs and the live blocks
abbrev pub graph_size : World → ℕ
graph_size w = length w.pairs + (w.geometry.blocks - free_count w)

-- how many pairs and blocks a sweep takes from a world
abbrev pub swept_size : World → ℕ
swept_size w = graph_size w - graph_size (swept w)

-- what is left to a sweep at most
abbrev pub sweep_left : Tables → ℕ
sweep_left t = graph_size (graph_in t)

-- what an open sweep still takes away
abbrev pub unswept : Tables → ℕ
unswept t = sweep_left t - graph_size (blank_of t)

-- A pair or a block that a sweep takes away costs at most so much. A step takes up to 16 pairs, and a pair is two
-- homes: the batch of one alone is 7 writes, and more of them cost less each.
abbrev pub taken_cost : ℕ
taken_cost = 7

-- what a sweep takes away, and its flag, which is opened and closed
abbrev pub sweep_cost : World → ℕ
sweep_cost w = taken_cost * swept_size w + 2 * batch_cost 1

-- What the tables of an image leave to be written: an open sweep and its flag, or what is doomed.
abbrev pub left_cost : Tables → ℕ
left_cost t = cond t.is_sweeping (taken_cost * unswept t + batch_cost 1) (lost_cost * owed t)

-- the same of a volume, whose records are put in place too
abbrev pub left_due : Volume → ℕ
left_due v = checkpoint_writes v.ring + left_cost v.tables
