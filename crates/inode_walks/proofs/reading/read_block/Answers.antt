use Rattle.std.proofs.Common.{◌≡◌, ◌+◌, ◌-◌, ◌/◌, ◌%◌, ◌<◌, ◌≤◌, ◌++◌, length, min, sym, ◌∙◌, ap, subst, arith, Some}
use Rattle.inode_walks.proofs.Common.{mod-lt, slice_index, looks_as, MayWrite, inode_of, blocks_said, contents}
use Rattle.inode_walks.proofs.FileLaws.{place_named_by, number_at_place, may_look, block_part}
use Rattle.inode_walks.proofs.ReadLaws.{block_full}
use Rattle.inode_walks.proofs.reading.read_block.Goals as goal

pub named-requires : goal.named-requires
named-requires g c =
    place_named_by c.args.file.now.inode c.block_len-len.result c.args.at c.args.end c.requires.is_file c.block_len-len.ensures.value c.block_len-len.ensures.whole c.requires.order c.requires.there

pub look-requires-clause-may : goal.look-requires-clause-may
look-requires-clause-may g c = λ t.
    let s = c.requires.stands t in
    let old = g.K.Blocks.view c.args.disk.now in
    let blocks = blocks_said (inode_of c.args.file.now.inode) in
    let below = place_named_by c.args.file.now.inode c.block_len-len.result c.args.at c.args.end c.requires.is_file c.block_len-len.ensures.value c.block_len-len.ensures.whole c.requires.order c.requires.there in
    subst (MayWrite c.args.client.now old) (sym c.named.ensures)
    (may_look c.args.client.now old s.0 c.args.file.now s.1 c.requires.is_file (c.requires.valid t) (c.requires.session t) (slice_index blocks (c.args.at / c.block_len-len.result)) (number_at_place blocks (c.args.at / c.block_len-len.result) below))

pub returns-in-Ok : goal.returns-in-Ok
returns-in-Ok g c =
    let told = g.K.Blocks.told in
    let old = g.K.Blocks.view c.args.disk.now in
    let new = g.K.Blocks.view c.look.new.disk in
    let file = c.args.file.now in
    let at = c.args.at in
    let len = c.block_len-len.result in
    let last = c.min-last.result in
    let some : 0 < len = omega (arith, c.block_len-len.ensures.whole) in
    let first : at % len < len = mod-lt at some in
    let is : last ≡ min (at % len + (c.args.end - at)) len = c.min-last.ensures in
    let order : at % len ≤ last = omega (arith, first, is) in
    let room : last ≤ len = omega (arith, is) in
    let below = place_named_by file.inode len at c.args.end c.requires.is_file c.block_len-len.ensures.value c.block_len-len.ensures.whole c.requires.order c.requires.there in
    record {
      next = (omega (arith, first, is, c.requires.order), omega (arith, first, is, c.requires.order));
      bytes = λ t.
          let s = c.requires.stands t in
          let there : contents old.world (slice_index (blocks_said (inode_of file.inode)) (at / len)) ≡ Some c.in-Ok.bytes = ap (contents old.world) (sym c.named.ensures) ∙ c.in-Ok.ensures.bytes t in
          let full = block_full old.world (slice_index (blocks_said (inode_of file.inode)) (at / len)) c.in-Ok.bytes (c.requires.valid t).valid there in
          let fits : last ≤ length c.in-Ok.bytes = omega (arith, room, full, s.1.whole, c.block_len-len.ensures.value) in
          c.add_part.ensures order fits (omega (arith, is, first, c.requires.room t, c.requires.order))
          ∙ ap (λ x. c.args.into.now ++ x) (block_part c.args.client.now old s.0 file s.1 c.requires.is_file (c.requires.valid t) len at last c.in-Ok.bytes c.block_len-len.ensures.value below there order room);
      only = λ t. tt;
      looks = looks_as told old new c.in-Ok.bytes (at + (last - at % len)) c.in-Ok.ensures.looks;
    }
