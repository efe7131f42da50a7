use Rattle.std.proofs.Common.{◌*◌, ◌∙◌, ap, arith}
use Rattle.std.specs.Prelude.{drop}
use Rattle.byteorder.specs.Endian.{little_number}
use Rattle.fs_fields.proofs.WrittenLaws.{length-entries}
use Rattle.chain_layout.specs.Block.{cluster_of}
use Rattle.chain_layout.proofs.PlaceLaws.{block_there}
use Rattle.chain_layout.proofs.directory.DirectoryCluster.block.Goals as goal

pub overflow_mul-position : goal.overflow_mul-position
overflow_mul-position c =
    let d = c.args.self.now in
    let n = length-entries (cluster_of d.cluster).used (cluster_of d.cluster).body in
    omega (arith, n, c.requires, d.counted, d.fits, c.body.ensures.whole, c.body.ensures.fits)

pub number_at-requires : goal.number_at-requires
number_at-requires c =
    let d = c.args.self.now in
    let n = length-entries (cluster_of d.cluster).used (cluster_of d.cluster).body in
    omega (arith, n, c.requires, d.counted, d.fits, c.body.ensures.whole, c.body.ensures.fits)

pub returns : goal.returns
returns c =
    let d = c.args.self.now in
    let n = length-entries (cluster_of d.cluster).used (cluster_of d.cluster).body in
    c.number_at.ensures ∙ (ap (λ b. little_number 4 (drop (32 * c.args.position) b)) c.body.ensures.value ∙ block_there (cluster_of d.cluster).used c.args.position (cluster_of d.cluster).body (omega (arith, n, c.requires)))
