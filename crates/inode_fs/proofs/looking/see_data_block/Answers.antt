use Rattle.std.proofs.Common.{sym, ◌∙◌, nat_lt}
use Rattle.inode_fs.proofs.Common.{no_look, looks_as, looks_refused, on_disk}
use Rattle.inode_fs.proofs.SeeLaws.{named_again, names_data, noted_on, noted_data}
use Rattle.inode_fs.proofs.SeenLaws.{no_pairs}
use Rattle.inode_fs.proofs.looking.see_data_block.Goals as goal

pub returns-then-is_data_block-clause-marked : goal.returns-then-is_data_block-clause-marked
returns-then-is_data_block-clause-marked g c = λ t. named_again c.args.marks.now c.args.block (sym c.is_data_block.ensures ∙ c.if-is_data_block.true)

pub returns-then-is_data_block-clause-noted : goal.returns-then-is_data_block-clause-noted
returns-then-is_data_block-clause-noted g c = c.requires.noted

pub returns-then-is_data_block-clause-looks : goal.returns-then-is_data_block-clause-looks
returns-then-is_data_block-clause-looks g c = no_look g.K.Blocks.told (g.K.Blocks.view c.args.disk.now) c.requires.unspent (λ t. g.met.K.Blocks.sound c.args.disk.now t c.requires.unspent) c.requires.valid

pub count_pairs-requires-clause-unspent : goal.count_pairs-requires-clause-unspent
count_pairs-requires-clause-unspent g c = c.requires.unspent

pub count_pairs-requires-clause-valid : goal.count_pairs-requires-clause-valid
count_pairs-requires-clause-valid g c = c.requires.valid

pub count_pairs-requires-clause-may : goal.count_pairs-requires-clause-may
count_pairs-requires-clause-may g c = c.requires.may

pub returns-in-Ok-clause-marked : goal.returns-in-Ok-clause-marked
returns-in-Ok-clause-marked g c = λ t.
    names_data c.args.marks.now c.mark_data_block.new.self c.args.block (nat_lt 0 c.in-Ok.count.others) (on_disk (g.K.Blocks.view c.args.disk.now) c.args.block (c.requires.valid t) (c.requires.may t).live) c.mark_data_block.ensures

pub returns-in-Ok-clause-noted : goal.returns-in-Ok-clause-noted
returns-in-Ok-clause-noted g c = λ t.
    let old = g.K.Blocks.view c.args.disk.now in
    let new = g.K.Blocks.view c.count_pairs.new.disk in
    let b = c.args.block in
    noted_on c.args.client.now old new c.mark_data_block.new.self (c.in-Ok.ensures.looks.looked t).0
    (noted_data c.args.client.now old c.args.marks.now c.mark_data_block.new.self b (nat_lt 0 c.in-Ok.count.others) (on_disk old b (c.requires.valid t) (c.requires.may t).live) (c.requires.noted t) c.mark_data_block.ensures
    (no_pairs old.world b c.in-Ok.count.others (c.in-Ok.ensures.others t)))

pub returns-in-Ok-clause-looks : goal.returns-in-Ok-clause-looks
returns-in-Ok-clause-looks g c = looks_as g.K.Blocks.told (g.K.Blocks.view c.args.disk.now) (g.K.Blocks.view c.count_pairs.new.disk) c.in-Ok.count tt c.in-Ok.ensures.looks

pub returns-in-Err-clause-only : goal.returns-in-Err-clause-only
returns-in-Err-clause-only g c = c.in-Err.ensures.only

pub returns-in-Err-clause-looks : goal.returns-in-Err-clause-looks
returns-in-Err-clause-looks g c = looks_refused g.K.Blocks.told (g.K.Blocks.view c.args.disk.now) (g.K.Blocks.view c.count_pairs.new.disk) c.in-Err.refusal c.in-Err.ensures.looks
