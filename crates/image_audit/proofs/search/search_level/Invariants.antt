use Rattle.std.proofs.Common.{◌≡◌, ℕ, List, [], length, take}
use Rattle.image_audit.proofs.Common.{told_by, IsSearching, NoneSeen, SeenFrom}
use Rattle.image_audit.proofs.search.search_level.Given as goal

abbrev pub invariant-loop-source : goal.invariant-loop-source
invariant-loop-source l = record {
  size : length l.entries ≡ length l.fn.entries;
  searched : (roots : List ℕ)
      → IsSearching (told_by l.volume) roots l.depth l.level [] NoneSeen l.fn.entries
      → IsSearching (told_by l.volume) roots l.depth l.level l.next.items (SeenFrom (told_by l.volume) (take l.source-index l.level)) l.entries;
}
