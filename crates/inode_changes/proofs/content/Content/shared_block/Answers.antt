use Rattle.std.proofs.Common.{◌∙◌, arith}
use Rattle.inode_changes.proofs.Common.{Regular, length-blocks, shared_count}
use Rattle.inode_layout.proofs.HeadLaws.{block_at}
use Rattle.inode_changes.proofs.content.Content.shared_block.Goals as goal

pub number_at-requires : goal.number_at-requires
number_at-requires c =
    let many = length-blocks Regular 0 (shared_count c.args.self.now) c.args.self.now.shared.now in
    omega (arith, many, c.requires)

pub returns : goal.returns
returns c =
    let many = length-blocks Regular 0 (shared_count c.args.self.now) c.args.self.now.shared.now in
    c.number_at.ensures ∙ block_at Regular 0 (shared_count c.args.self.now) c.args.position c.args.self.now.shared.now (omega (arith, many, c.requires))
