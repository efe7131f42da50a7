use Rattle.block_alloc.proofs.StoredLaws.{change_is_stored, batch_is_stored, one_map, same_sectors}
use Rattle.block_alloc.proofs.patches.patches_keep_the_bitmap.Goals as goal

pub returns : goal.returns
returns c = record { one = change_is_stored; many = batch_is_stored; one_map = one_map; same_sectors = same_sectors }
