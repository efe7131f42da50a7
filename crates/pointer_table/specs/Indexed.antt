-- The three ways together, and what a look-up by them answers.
use Rattle.std.specs.Prelude.{◌≡◌, ℕ, ◌<◌, false, List, length, Option, Some, None}
use Rattle.tsd_model.specs.Pairs.{holds}
use Rattle.pointer_table.specs.Slots.{slot_at, pairs_in}
use Rattle.pointer_table.specs.Threads.{group, AreThreads}
use Rattle.pointer_table.specs.declared.index.Index.{Index}
use Rattle.pointer_table.specs.declared.threads.Threads.{Threads}
use Rattle.pointer_table.specs.declared.way.Way.{Way}
use Rattle.pointer_table.specs.declared.way.Way.TheVariants as way

-- the slots are threaded as these threads say
abbrev pub AreThreadsOf : (ℕ → Option (ℕ × ℕ)) → Threads → Type 0
AreThreadsOf held t = AreThreads held (group t.way (length t.heads)) t.heads t.next

-- the slots are threaded this way
pub record IsThreadedBy (way : Way) (held : ℕ → Option (ℕ × ℕ)) (t : Threads) : Type 0 where
  pub way_is : t.way ≡ way
  pub some : 0 < length t.heads
  pub threads : AreThreads held (group t.way (length t.heads)) t.heads t.next

-- the slots are threaded all three ways
pub record IsIndex (held : ℕ → Option (ℕ × ℕ)) (x : Index) : Type 0 where
  pub sources : IsThreadedBy way.Source held x.by_source
  pub targets : IsThreadedBy way.Target held x.by_target
  pub buckets : IsThreadedBy way.Bucket held x.by_bucket

-- there is a head for each block, and a link for each slot
pub record HasLinksAndHeads (blocks slots : ℕ) (x : Index) : Type 0 where
  pub sources : length x.by_source.heads ≡ blocks
  pub targets : length x.by_target.heads ≡ blocks
  pub by_source : length x.by_source.next ≡ slots
  pub by_target : length x.by_target.next ≡ slots
  pub by_bucket : length x.by_bucket.next ≡ slots

-- the slot that holds the pair (a, b), None exactly where none does
abbrev pub IsPlaceOf : List (Option (ℕ × ℕ)) → ℕ → ℕ → Option ℕ → Type 0
IsPlaceOf slots a b None = holds (pairs_in slots) a b ≡ false
IsPlaceOf slots a b (Some k) = slot_at slots k ≡ Some (a, b)

-- one end of the slot's pair
abbrev pub source_of : Option (ℕ × ℕ) → Option ℕ
source_of None = None
source_of (Some e) = Some e.0

abbrev pub target_of : Option (ℕ × ℕ) → Option ℕ
target_of None = None
target_of (Some e) = Some e.1
