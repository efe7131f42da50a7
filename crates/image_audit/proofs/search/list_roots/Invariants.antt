use Rattle.std.proofs.Common.{◌≡◌, length, take}
use Rattle.image_audit.proofs.Common.{HasRoots}
use Rattle.image_audit.proofs.search.list_roots.Given as goal

abbrev pub invariant-loop-root : goal.invariant-loop-root
invariant-loop-root l = record {
  listed : HasRoots (take l.root-index l.roots) l.entries;
  size : length l.entries ≡ length l.fn.entries;
}
