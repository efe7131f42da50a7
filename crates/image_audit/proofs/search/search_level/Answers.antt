use Rattle.std.proofs.Common.{◌≡◌, suc, ◌+◌, [], take, subst, arith}
use Rattle.image_audit.proofs.Common.{take_all, told_by, IsSearching, NoneSeen, SeenFrom}
use Rattle.image_audit.proofs.LevelLaws.{level_ended}
use Rattle.image_audit.proofs.search.search_level.Goals as goal

pub returns-clause-searched : goal.returns-clause-searched
returns-clause-searched c roots s =
    let w = told_by c.args.volume.now in
    let up : suc c.args.depth ≡ c.args.depth + 1 = omega arith in
    let whole : take c.loop-source.source-index c.args.level.now ≡ c.args.level.now = take_all c.loop-source.source-index c.args.level.now (omega arith) in
    subst (λ n. IsSearching w roots n c.loop-source.next.items [] NoneSeen c.loop-source.entries) up
    (level_ended w roots c.args.depth c.args.level.now c.loop-source.next.items c.loop-source.entries
    (subst (λ done. IsSearching w roots c.args.depth c.args.level.now c.loop-source.next.items (SeenFrom w done) c.loop-source.entries) whole (c.loop-source.invariant.searched roots s)))
