use Rattle.std.proofs.Common.{◌+◌, ◌*◌, ◌≤◌, ◌&&◌, length, sym, ◌∙◌, ap, subst, arith}
use Rattle.fs_trees.specs.Names.{are_ascending}
use Rattle.fs_trees.specs.Fields.{entries, numbers, entry_names, all_named}
use Rattle.tsd_model.specs.World.{are_apart}
use Rattle.inode_layout.specs.Block.{said, body_of}
use Rattle.inode_layout.specs.Kinds.{item_bytes}
use Rattle.inode_layout.specs.Said.{is_in_order}
use Rattle.inode_layout.proofs.inode.Inode.is_in_order.Goals as goal

pub are_in_order-requires : goal.are_in_order-requires
are_in_order-requires c = let i = c.args.self.now in let fits = subst (λ k. 16 + item_bytes k * i.count ≤ length i.bytes) c.in-Directory.is i.fits in omega (arith, fits, c.body.ensures.whole)

pub are_apart-requires : goal.are_apart-requires
are_apart-requires c = let i = c.args.self.now in let fits = subst (λ k. 16 + item_bytes k * i.count ≤ length i.bytes) c.in-Regular.is i.fits in omega (arith, fits, c.body-in-Regular.ensures.whole)

pub returns-in-Directory : goal.returns-in-Directory
returns-in-Directory c = let i = c.args.self.now in
    c.are_in_order.ensures ∙ (ap (λ b. all_named (entries i.count b) && are_ascending (entry_names (entries i.count b))) c.body.ensures.value ∙ sym (ap (λ k. is_in_order (said k i.amount i.count (body_of i))) c.in-Directory.is))

pub returns-in-Regular : goal.returns-in-Regular
returns-in-Regular c = let i = c.args.self.now in
    c.are_apart.ensures ∙ (ap (λ b. are_apart (numbers i.count b)) c.body-in-Regular.ensures.value ∙ sym (ap (λ k. is_in_order (said k i.amount i.count (body_of i))) c.in-Regular.is))
