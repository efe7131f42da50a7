use Rattle.std.proofs.Common.{◌≡◌, take}
use Rattle.tsd_model.specs.Attained.{led_level}
use Rattle.plain_disk.proofs.sessions.LevelTable.led_level.Given as goal

abbrev pub invariant-loop-pair : goal.invariant-loop-pair
invariant-loop-pair l = l.best ≡ led_level l.self l.block (take l.pair-index l.pairs)
