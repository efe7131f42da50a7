use Rattle.std.proofs.Common.{Some, sym, ◌∙◌, ap, arith}
use Rattle.fs_fields.proofs.WrittenLaws.{length-entries}
use Rattle.chain_layout.specs.Listed.{name_in}
use Rattle.chain_layout.specs.Block.{cluster_of}
use Rattle.chain_layout.proofs.PlaceLaws.{name_there}
use Rattle.chain_layout.proofs.directory.DirectoryCluster.name.Goals as goal

pub name_at-requires : goal.name_at-requires
name_at-requires c =
    let d = c.args.self.now in
    let n = length-entries (cluster_of d.cluster).used (cluster_of d.cluster).body in
    omega (arith, n, c.requires, d.counted, d.fits, c.body.ensures.whole, c.body.ensures.fits)

pub returns : goal.returns
returns c =
    let d = c.args.self.now in
    let n = length-entries (cluster_of d.cluster).used (cluster_of d.cluster).body in
    name_there (cluster_of d.cluster).used c.args.position (cluster_of d.cluster).body (omega (arith, n, c.requires))
    ∙ ap (λ m. Some m) (sym (c.name_at.ensures.value ∙ ap (λ b. name_in b c.args.position) c.body.ensures.value))
