use Rattle.std.proofs.Common.{◌≡◌, ℕ, ◌+◌, ◌<◌, Some}
use Rattle.std.specs.Prelude.{slice_get}
use Rattle.cap_store.specs.Stored.{sector_record}
use Rattle.cap_store.proofs.loading.set_records.Given as goal

-- the records below this block are set, and no other
abbrev pub invariant-loop-block : goal.invariant-loop-block
invariant-loop-block l = record {
  before : (block : ℕ) → block < l.first → slice_get l.records block ≡ slice_get l.fn.records block;
  here : (k : ℕ) → l.first + k < l.block → slice_get l.records (l.first + k) ≡ Some (sector_record l.version l.bytes k);
}
