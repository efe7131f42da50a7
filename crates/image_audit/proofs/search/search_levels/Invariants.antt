use Rattle.std.proofs.Common.{◌≡◌, [], length}
use Rattle.image_audit.proofs.Common.{told_by, IsSearching, NoneSeen}
use Rattle.image_audit.proofs.search.search_levels.Given as goal

abbrev pub invariant-loop-depth : goal.invariant-loop-depth
invariant-loop-depth l = record {
  size : length l.entries ≡ length l.fn.entries;
  none : l.next.items ≡ [];
  searched : IsSearching (told_by l.volume) l.fn.level.items l.depth l.level.items [] NoneSeen l.entries;
}
