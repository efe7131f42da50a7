use Rattle.std.proofs.Common.{◌≡◌, length, ◌∙◌, Some}
use Rattle.block_alloc.proofs.Common.{rank_of}
use Rattle.block_alloc.proofs.GroupLaws.{enough_within}
use Rattle.block_alloc.proofs.map.LiveMap.least_starts.Goals as goal

-- where enough stand up to the ceiling, they are the least of all
pub returns-then-is_full : goal.returns-then-is_full
returns-then-is_full g c =
    let least = c.least_within-least.result in
    let full : length least.kept.items ≡ c.args.wanted = c.is_full.ensures c.if-is_full.true ∙ c.least_within-least.ensures.wanted in
    enough_within (rank_of c.args.placement.now.kind c.args.hint) c.args.self.now.unhidden c.args.run c.args.wanted (Some c.in-Some.ceiling) least.kept.items full c.least_within-least.ensures.kept
