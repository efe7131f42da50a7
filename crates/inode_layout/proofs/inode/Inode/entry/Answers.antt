use Rattle.std.proofs.Common.{◌+◌, ◌*◌, ◌≤◌, length, sym, ◌∙◌, ap, subst, arith}
use Rattle.fs_trees.specs.Fields.{entries}
use Rattle.fs_trees.specs.Inode.{block_named}
use Rattle.inode_layout.specs.Block.{said, body_of}
use Rattle.inode_layout.specs.Kinds.{item_bytes}
use Rattle.inode_layout.specs.Said.{entry_said}
use Rattle.inode_layout.proofs.inode.Inode.entry.Goals as goal

pub block_of-requires : goal.block_of-requires
block_of-requires c = let i = c.args.self.now in let fits = subst (λ k. 16 + item_bytes k * i.count ≤ length i.bytes) c.in-Directory.is i.fits in omega (arith, fits, c.body.ensures.whole)

pub returns-in-Directory : goal.returns-in-Directory
returns-in-Directory c = let i = c.args.self.now in
    c.block_of.ensures ∙ (ap (λ b. block_named c.args.name.now (entries i.count b)) c.body.ensures.value ∙ sym (ap (λ k. entry_said c.args.name.now (said k i.amount i.count (body_of i))) c.in-Directory.is))

pub returns-in-Regular : goal.returns-in-Regular
returns-in-Regular c = let i = c.args.self.now in sym (ap (λ k. entry_said c.args.name.now (said k i.amount i.count (body_of i))) c.in-Regular.is)
