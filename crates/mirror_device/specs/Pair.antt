-- Two stations in memory as they stand.
use Rattle.image_device.specs.Image.{Image}
use Rattle.mirror_device.specs.declared.pair.Pair.{Pair}
use Rattle.mirror_device.specs.declared.side.Side.{Side}
use Rattle.mirror_device.specs.declared.side.Side.TheVariants.{First, Second}
use Rattle.mirror_device.specs.MemSide.{side_view, synced_side}
use Rattle.mirror_device.specs.History.{Stand}

abbrev pub pair_view : Pair → Stand
pair_view p = record { first = side_view p.first; second = side_view p.second; sent = p.sent.items }

-- the sectors of a side as its last sync held them
abbrev pub synced_on : Side → Pair → Image
synced_on First p = synced_side p.first
synced_on Second p = synced_side p.second
