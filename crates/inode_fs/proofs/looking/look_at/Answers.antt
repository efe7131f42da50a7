use Rattle.std.proofs.Common.{refl, sym, ◌∙◌, ap, Some, None}
use Rattle.std.specs.Prelude.{length}
use Rattle.inode_fs.proofs.Common.{inode_of, blocks_said, named_targets, other_targets, looks_as, looks_refused, may_again}
use Rattle.inode_fs.proofs.SeenLaws.{inode_is, no_inode, wrong_count, right_count, is_seen, then_lost, then_as}
use Rattle.inode_fs.proofs.looking.look_at.Goals as goal

pub look-requires-clause-unspent : goal.look-requires-clause-unspent
look-requires-clause-unspent g c = c.requires.unspent

pub look-requires-clause-valid : goal.look-requires-clause-valid
look-requires-clause-valid g c = c.requires.valid

pub look-requires-clause-may : goal.look-requires-clause-may
look-requires-clause-may g c = c.requires.may

pub returns-in-Err-clause-only : goal.returns-in-Err-clause-only
returns-in-Err-clause-only g c = c.in-Err.ensures.only

pub returns-in-Err-clause-looks : goal.returns-in-Err-clause-looks
returns-in-Err-clause-looks g c = looks_refused g.K.Blocks.told (g.K.Blocks.view c.args.disk.now) (g.K.Blocks.view c.look.new.disk) c.in-Err.refusal c.in-Err.ensures.looks

pub returns-in-None-clause-seen : goal.returns-in-None-clause-seen
returns-in-None-clause-seen g c = λ t.
    let old = g.K.Blocks.view c.args.disk.now in
    no_inode old.world c.args.block (inode_is old.world c.args.block c.in-Ok.bytes None (c.requires.valid t).valid (c.in-Ok.ensures.bytes t) c.in-None.ensures)

pub returns-in-None-clause-looks : goal.returns-in-None-clause-looks
returns-in-None-clause-looks g c = looks_as g.K.Blocks.told (g.K.Blocks.view c.args.disk.now) (g.K.Blocks.view c.look.new.disk) c.in-Ok.bytes None c.in-Ok.ensures.looks

pub count_pairs-requires-clause-unspent : goal.count_pairs-requires-clause-unspent
count_pairs-requires-clause-unspent g c = c.in-Ok.ensures.looks.unspent.0

pub count_pairs-requires-clause-valid : goal.count_pairs-requires-clause-valid
count_pairs-requires-clause-valid g c = λ t. (c.in-Ok.ensures.looks.looked t).0.valid

pub count_pairs-requires-clause-may : goal.count_pairs-requires-clause-may
count_pairs-requires-clause-may g c = λ t.
    may_again c.args.client.now (g.K.Blocks.view c.args.disk.now) (g.K.Blocks.view c.look.new.disk) c.args.block (c.in-Ok.ensures.looks.looked t).0 c.in-Ok.ensures.looks.stays.0 (c.requires.valid t) (c.requires.may t)

pub returns-in-Err-count_pairs-clause-only : goal.returns-in-Err-count_pairs-clause-only
returns-in-Err-count_pairs-clause-only g c = c.in-Err-count_pairs.ensures.only

pub returns-in-Err-count_pairs-clause-looks : goal.returns-in-Err-count_pairs-clause-looks
returns-in-Err-count_pairs-clause-looks g c = then_lost c.in-Ok.ensures.looks c.in-Err-count_pairs.ensures.looks

pub returns-then-count-clause-seen : goal.returns-then-count-clause-seen
returns-then-count-clause-seen g c = λ t.
    let old = g.K.Blocks.view c.args.disk.now in
    let b = c.args.block in
    let i = inode_of c.in-Some.found.inode in
    let is = inode_is old.world b c.in-Ok.bytes (Some i) (c.requires.valid t).valid (c.in-Ok.ensures.bytes t) c.in-Some.ensures.1 in
    wrong_count old.world b i (c.requires.valid t).valid is c.in-Ok-count_pairs.count.named
    (c.in-Ok-count_pairs.ensures.named t ∙ ap (λ w. length (named_targets w b (blocks_said i))) (c.in-Ok.ensures.looks.looked t).0.world)
    (λ e. c.if-count.true (e ∙ sym c.count.ensures.value))

pub returns-then-count-clause-looks : goal.returns-then-count-clause-looks
returns-then-count-clause-looks g c = then_as c.in-Ok.ensures.looks None c.in-Ok-count_pairs.ensures.looks

pub returns-clause-seen : goal.returns-clause-seen
returns-clause-seen g c = λ t.
    let old = g.K.Blocks.view c.args.disk.now in
    let new = g.K.Blocks.view c.count_pairs.new.disk in
    let b = c.args.block in
    let i = inode_of c.in-Some.found.inode in
    let is = inode_is old.world b c.in-Ok.bytes (Some i) (c.requires.valid t).valid (c.in-Ok.ensures.bytes t) c.in-Some.ensures.1 in
    let seen = (c.in-Ok.ensures.looks.looked t).0 in (
      is_seen c.args.client.now old new b _ c.in-Ok-count_pairs.count.others is
          (right_count old.world b i (c.requires.valid t).valid is c.in-Ok-count_pairs.count.named (c.in-Ok-count_pairs.ensures.named t ∙ ap (λ w. length (named_targets w b (blocks_said i))) seen.world) (c.if-count.false ∙ c.count.ensures.value))
          ((c.in-Ok-count_pairs.ensures.looks.looked t).0.ways c.args.client.now.session b (c.in-Ok.ensures.held t))
          (c.in-Ok-count_pairs.ensures.others t ∙ ap (λ w. length (other_targets w b (blocks_said i))) seen.world)
          refl,
      c.in-Some.ensures.0,
    )

pub returns-clause-looks : goal.returns-clause-looks
returns-clause-looks g c = then_as c.in-Ok.ensures.looks _ c.in-Ok-count_pairs.ensures.looks
