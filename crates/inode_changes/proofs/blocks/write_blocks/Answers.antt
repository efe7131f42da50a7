use Rattle.std.proofs.Common.{◌+◌, ◌++◌, length, refl, sym, ◌∙◌, ap, subst, arith, Ok, Err}
use Rattle.inode_changes.proofs.Common.{slice_index_or, length-take, write_by, written, Steps, new_bytes}
use Rattle.inode_changes.proofs.FillLaws.{Writing, writing_begins, writing_ends, writes_on, goes_on, may_now, len_now}
use Rattle.inode_changes.proofs.PartLaws.{drop_behind, enough_blocks, some_blocks}
use Rattle.inode_changes.proofs.blocks.write_blocks.Goals as goal

pub loop-block-init : goal.loop-block-init
loop-block-init g c =
    let content = c.args.content.now in
    let room = c.requires.room in (
      writing_begins g.K.Blocks.told c.args.client.now (g.K.Blocks.view c.args.disk.now) c.args.blocks.now (new_bytes content) content.block_len c.requires.unspent
          (λ t. g.met.K.Blocks.sound c.args.disk.now t c.requires.unspent) c.requires.valid
          (λ t. enough_blocks (length (new_bytes content)) content.block_len (length c.args.blocks.now) (omega (arith, room.front)) c.requires.each),
      omega (arith, room.front),
    )

pub offset_bounds-blocks-block-index : goal.offset_bounds-blocks-block-index
offset_bounds-blocks-block-index g c =
    let few = some_blocks c.args.content.now c.requires.room in
    omega (arith, few, c.requires.each, c.loop-block-test.true)

pub first_bytes-part-requires : goal.first_bytes-part-requires
first_bytes-part-requires g c = record { less = c.loop-block.invariant.1; few = c.requires.room.most }

pub write_block-requires : goal.write_block-requires
write_block-requires g c =
    let told = g.K.Blocks.told in
    let first = g.K.Blocks.view c.args.disk.now in
    let now = g.K.Blocks.view c.loop-block.disk in
    let me = c.args.client.now in
    let i = c.loop-block.block-index in
    let b = slice_index_or c.args.blocks.now i 0 in
    let inv = c.loop-block.invariant.0 in
    let len = c.args.content.now.block_len in
    let rest = c.loop-block.front.now ++ c.loop-block.rest.now in
    record {
      unspent = inv.runs.unspent.0;
      valid = λ t. (inv.runs.valid t).0;
      may = λ t. may_now told me first now now c.args.blocks.now (new_bytes c.args.content.now) len i b rest inv c.loop-block-test.true refl c.requires.len c.requires.apart t (c.requires.may t);
      fits = λ t.
          let is = len_now told me first now now c.args.blocks.now (new_bytes c.args.content.now) len i b rest inv c.loop-block-test.true refl c.requires.len c.requires.apart t in
          let short = length-take len rest in
          let long = ap length c.first_bytes-part.ensures in
          omega (arith, is, short, long);
    }

pub returns-in-Err : goal.returns-in-Err
returns-in-Err g c =
    let told = g.K.Blocks.told in
    let first = g.K.Blocks.view c.args.disk.now in
    let now = g.K.Blocks.view c.loop-block.disk in
    let new = g.K.Blocks.view c.write_block.new.disk in
    let me = c.args.client.now in
    let i = c.loop-block.block-index in
    let b = slice_index_or c.args.blocks.now i 0 in
    let h = c.in-Err.ensures in
    let r = c.in-Err.refusal in
    let steps = subst (λ x. Steps {X = Unit {0}} told me now new (write_by me b x) b (written now.world b x) (Err r)) c.first_bytes-part.ensures h.steps in
    record {
      wrote = λ t. tt;
      only = h.only;
      runs = goes_on told me first now new c.args.blocks.now (new_bytes c.args.content.now) c.args.content.now.block_len i b (c.loop-block.front.now ++ c.loop-block.rest.now) c.loop-block.invariant.0 c.loop-block-test.true refl c.requires.len c.requires.apart (Err r) steps;
    }

pub overflow_sub-content : goal.overflow_sub-content
overflow_sub-content g c = c.loop-block.invariant.1

pub loop-block-preserved : goal.loop-block-preserved
loop-block-preserved g c =
    let told = g.K.Blocks.told in
    let first = g.K.Blocks.view c.args.disk.now in
    let now = g.K.Blocks.view c.loop-block.disk in
    let new = g.K.Blocks.view c.write_block.new.disk in
    let me = c.args.client.now in
    let i = c.loop-block.block-index in
    let b = slice_index_or c.args.blocks.now i 0 in
    let inv = c.loop-block.invariant.0 in
    let len = c.args.content.now.block_len in
    let rest = c.loop-block.front.now ++ c.loop-block.rest.now in
    let h = c.in-Ok.ensures in
    let steps = subst (λ x. Steps {X = Unit {0}} told me now new (write_by me b x) b (written now.world b x) (Ok tt)) c.first_bytes-part.ensures h.steps in (
      subst (Writing told me first new c.args.blocks.now (new_bytes c.args.content.now) len (i + 1)) (drop_behind len c.loop-block.front.now c.loop-block.rest.now c.loop-block.invariant.1 ∙ sym c.bytes_behind-rest.ensures)
          (writes_on told me first now new c.args.blocks.now (new_bytes c.args.content.now) len i b rest inv c.loop-block-test.true refl c.requires.len c.requires.apart steps
          (λ t. may_now told me first now now c.args.blocks.now (new_bytes c.args.content.now) len i b rest inv c.loop-block-test.true refl c.requires.len c.requires.apart t (c.requires.may t))),
      omega arith,
    )

pub returns : goal.returns
returns g c =
    let told = g.K.Blocks.told in
    let first = g.K.Blocks.view c.args.disk.now in
    let now = g.K.Blocks.view c.loop-block.disk in
    let me = c.args.client.now in
    let inv = c.loop-block.invariant.0 in
    record {
      wrote = writing_ends told me first now c.args.blocks.now (new_bytes c.args.content.now) c.args.content.now.block_len c.loop-block.block-index (c.loop-block.front.now ++ c.loop-block.rest.now) inv (omega (arith, c.loop-block-test.false));
      only = λ t. tt;
      runs = inv.runs;
    }
