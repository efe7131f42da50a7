use Rattle.fs_client.proofs.LookLaws.{looks_as, looks_refused}
use Rattle.fs_client.proofs.CountLaws.{told_by_count}
use Rattle.fs_client.proofs.held.is_held.Goals as goal

pub count_pairs-requires-clause-unspent : goal.count_pairs-requires-clause-unspent
count_pairs-requires-clause-unspent g c = c.requires.unspent

pub count_pairs-requires-clause-valid : goal.count_pairs-requires-clause-valid
count_pairs-requires-clause-valid g c = c.requires.valid

pub count_pairs-requires-clause-may : goal.count_pairs-requires-clause-may
count_pairs-requires-clause-may g c = c.requires.may

pub returns-in-Ok-clause-held : goal.returns-in-Ok-clause-held
returns-in-Ok-clause-held g c = λ t.
    told_by_count (g.K.Blocks.view c.args.disk.now).world c.args.source c.in-Ok.pairs.named (g.N.Names.blocks c.args.namer.now) c.args.count (c.requires.valid t).valid (c.in-Ok.ensures.named t) c.requires.counted

pub returns-in-Ok-clause-looks : goal.returns-in-Ok-clause-looks
returns-in-Ok-clause-looks g c = looks_as g.K.Blocks.told (g.K.Blocks.view c.args.disk.now) (g.K.Blocks.view c.count_pairs.new.disk) c.in-Ok.pairs _ c.in-Ok.ensures.looks

pub returns-in-Err-clause-only : goal.returns-in-Err-clause-only
returns-in-Err-clause-only g c = c.in-Err.ensures.only

pub returns-in-Err-clause-looks : goal.returns-in-Err-clause-looks
returns-in-Err-clause-looks g c = looks_refused g.K.Blocks.told (g.K.Blocks.view c.args.disk.now) (g.K.Blocks.view c.count_pairs.new.disk) c.in-Err.refusal c.in-Err.ensures.looks
