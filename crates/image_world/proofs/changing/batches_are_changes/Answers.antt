use Rattle.image_world.proofs.ChangeLaws.{caps_change, upgrade_change, flag_change}
use Rattle.image_world.proofs.GrowLaws.{block_more}
use Rattle.image_world.proofs.LikeLaws.{left_contents}
use Rattle.image_world.proofs.TurnLaws.{turned}
use Rattle.image_world.proofs.WrittenLaws.{set_with, written_stands}
use Rattle.image_world.proofs.changing.batches_are_changes.Goals as goal

pub returns : goal.returns
returns c = record {
  written = written_stands;
  turned = turned;
  bytes = set_with;
  passed_on = left_contents;
  blocks = block_more;
  caps = caps_change;
  upgrade = upgrade_change;
  flag = flag_change;
}
