-- How often is written. What is written is paid for when it becomes due: a batch is written again when the ring is
-- emptied, and what is doomed is reclaimed in later calls. So a call's cost counts all three.
use Rattle.std.specs.Prelude.{◌≡◌, ℕ, ◌+◌, ◌*◌, ◌≤◌}
use Rattle.tsd_model.specs.declared.geometry.Geometry.{Geometry}
use Rattle.image_device.specs.View.{View}
use Rattle.intent_journal.specs.Ring.{checkpoint_writes}
use Rattle.image_world.specs.Debt.{owed}
use Rattle.volume_laws.specs.Volume.{Volume}

-- a batch of so many homes: each body now and each home later, a descriptor, and a gate that is opened and closed
abbrev pub batch_cost : ℕ → ℕ
batch_cost homes = 2 * homes + 3

-- So many new blocks: zeros in each of their sectors, and one batch with a slot, a count and a bit for each at most.
abbrev pub zeroed_cost : Geometry → ℕ → ℕ
zeroed_cost g count = g.sectors * count + batch_cost (3 * count)

-- a doomed block, and a pair from one, cost at most so much
abbrev pub lost_cost : ℕ
lost_cost = 5

-- what is to be written later for what is in the volume now
abbrev pub due : Volume → ℕ
due v = checkpoint_writes v.ring + lost_cost * owed v.tables

-- what was written, and what is due then, is at most what was due before and this cost
abbrev pub IsPaid : ℕ → Volume → View → Volume → View → Type 0
IsPaid cost old old_view new new_view = new_view.writes + due new ≤ old_view.writes + due old + cost

-- No count of a device goes down, and nothing was put that failed: of a call that writes as often as it takes.
pub record Works (old new : View) : Type 0 where
  pub clock : old.clock ≤ new.clock
  pub faults : old.faults ≤ new.faults
  pub put_faults : new.put_faults ≡ old.put_faults
  pub writes : old.writes ≤ new.writes
