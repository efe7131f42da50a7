use Rattle.std.proofs.Common.{◌≡◌, ◌≤◌, ◌*◌, List, [], length, drop}
use Rattle.image_layout.specs.declared.offset.Patch.{Patch}
use Rattle.volume_laws.specs.Growing.{Parts, parts_of, PartsFit, HasRoom, HidesNone, IsGrown}
use Rattle.volume_changes.proofs.growing.put_new.Given as goal

-- The rest of the blocks have room, and whatever grows by them from here has grown by all from the start.
abbrev pub invariant-loop-index : goal.invariant-loop-index
invariant-loop-index l = record {
  size : l.live.geometry ≡ l.fn.live.geometry;
  fit : PartsFit l.live.geometry (parts_of l.pointers l.counts l.live);
  room : HasRoom l.live.geometry (parts_of l.pointers l.counts l.live) l.source (drop l.index l.blocks);
  shown : HidesNone l.fn.live → HidesNone l.live;
  few : length l.batch ≤ 3 * l.index;
  goes : (q : Parts) (qs : List Patch) → IsGrown l.fn.live.geometry l.source (drop l.index l.blocks) (parts_of l.pointers l.counts l.live) q l.batch qs
      → IsGrown l.fn.live.geometry l.source l.blocks (parts_of l.fn.pointers l.fn.counts l.fn.live) q [] qs;
}
