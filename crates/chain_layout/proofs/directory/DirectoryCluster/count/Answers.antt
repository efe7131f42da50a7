use Rattle.std.proofs.Common.{sym, ◌∙◌}
use Rattle.fs_fields.proofs.WrittenLaws.{length-entries}
use Rattle.chain_layout.specs.Block.{cluster_of}
use Rattle.chain_layout.proofs.directory.DirectoryCluster.count.Goals as goal

pub returns-clause-value : goal.returns-clause-value
returns-clause-value c = let d = c.args.self.now in d.counted ∙ sym (length-entries (cluster_of d.cluster).used (cluster_of d.cluster).body)
