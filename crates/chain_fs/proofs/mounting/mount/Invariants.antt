use Rattle.chain_fs.proofs.Common.{chains_of}
use Rattle.chain_fs.proofs.mounting.mount.Given as goal

-- the chains that are there
abbrev pub ghost-tidy : goal.ghost-tidy
ghost-tidy g a = chains_of (g.K.Blocks.view a.disk.now).world a.client.now.root
