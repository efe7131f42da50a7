use Rattle.std.proofs.Common.{◌+◌, ◌*◌, ◌≤◌, length, sym, ◌∙◌, ap, subst, arith}
use Rattle.std.specs.Prelude.{find}
use Rattle.fs_trees.specs.Names.{name_lt}
use Rattle.fs_trees.specs.Fields.{entries, entry_names}
use Rattle.inode_layout.specs.Block.{said, body_of}
use Rattle.inode_layout.specs.Kinds.{item_bytes}
use Rattle.inode_layout.specs.Said.{next_said}
use Rattle.inode_layout.proofs.inode.Inode.name_after.Goals as goal

pub next_name-requires : goal.next_name-requires
next_name-requires c = let i = c.args.self.now in let fits = subst (λ k. 16 + item_bytes k * i.count ≤ length i.bytes) c.in-Directory.is i.fits in omega (arith, fits, c.body.ensures.whole)

pub returns-in-Directory : goal.returns-in-Directory
returns-in-Directory c = let i = c.args.self.now in
    c.next_name.ensures ∙ (ap (λ b. find (name_lt c.args.after.now) (entry_names (entries i.count b))) c.body.ensures.value ∙ sym (ap (λ k. next_said c.args.after.now (said k i.amount i.count (body_of i))) c.in-Directory.is))

pub returns-in-Regular : goal.returns-in-Regular
returns-in-Regular c = let i = c.args.self.now in sym (ap (λ k. next_said c.args.after.now (said k i.amount i.count (body_of i))) c.in-Regular.is)
