use Rattle.std.proofs.Common.{◌≡◌, ◌-◌, ◌≤◌, ℕ, List, length}
use Rattle.image_audit.proofs.Common.{IsTrue, has_number, told_by, IsPageOf, IsSearching, SeenFrom, SeenTo}
use Rattle.image_audit.proofs.search.search_from.Given as goal

abbrev pub invariant-loop-next : goal.invariant-loop-next
invariant-loop-next l = record {
  size : length l.entries ≡ length l.fn.entries;
  source : l.targets.source ≡ l.source;
  page : IsPageOf (told_by l.volume).pairs l.targets;
  from : l.targets.from ≤ l.volume.tables.geometry.blocks;
  searched : (roots level done : List ℕ) → IsTrue (has_number level l.source)
      → IsSearching (told_by l.volume) roots l.depth level l.fn.next.items (SeenFrom (told_by l.volume) done) l.fn.entries
      → IsSearching (told_by l.volume) roots l.depth level l.next.items (SeenTo (told_by l.volume) done l.source l.targets.from) l.entries;
}

abbrev pub decreases-loop-next : goal.decreases-loop-next
decreases-loop-next l = l.volume.tables.geometry.blocks - l.targets.from
