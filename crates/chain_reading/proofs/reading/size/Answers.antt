use Rattle.chain_reading.proofs.Common.{then_looks}
use Rattle.chain_reading.proofs.reading.size.Goals as goal

pub returns-in-Ok-clause-looks : goal.returns-in-Ok-clause-looks
returns-in-Ok-clause-looks g c =
    then_looks g.K.Blocks.told (g.K.Blocks.view c.args.disk.now) (g.K.Blocks.view c.find_file.new.disk) (g.K.Blocks.view c.chain_size.new.disk) c.in-Ok.first c.chain_size.result c.in-Ok.ensures.looks c.chain_size.ensures.looks
