use Rattle.std.proofs.Common.{◌==◌, sym, ◌∙◌, ap, arith}
use Rattle.std.proofs.lemmas.Bool.{ne_eqb}
use Rattle.fs_fields.proofs.WrittenLaws.{length-entries}
use Rattle.chain_layout.specs.Listed.{entry_blocks}
use Rattle.chain_layout.specs.Block.{cluster_of}
use Rattle.chain_layout.specs.Held.{entries_in}
use Rattle.chain_layout.proofs.PlaceLaws.{is_later, none_later, length-blocks}
use Rattle.chain_layout.proofs.directory.DirectoryCluster.enters.Goals as goal

pub loop-position-preserved : goal.loop-position-preserved
loop-position-preserved c =
    let d = c.args.self.now in
    let n = length-entries (cluster_of d.cluster).used (cluster_of d.cluster).body in
    let m = length-blocks (cluster_of d.cluster).used (cluster_of d.cluster).body in
    c.loop-position.invariant
    ∙ is_later (entry_blocks (entries_in d)) c.loop-position.position c.args.block (omega (arith, n, m, c.loop-position-test.true, c.count-position-end.ensures.value))
    (ap (λ k. k == c.args.block) (sym c.block.ensures) ∙ ne_eqb c.block.result c.args.block c.if-block.false)

pub returns : goal.returns
returns c =
    let d = c.args.self.now in
    let n = length-entries (cluster_of d.cluster).used (cluster_of d.cluster).body in
    let m = length-blocks (cluster_of d.cluster).used (cluster_of d.cluster).body in
    sym (c.loop-position.invariant ∙ none_later (entry_blocks (entries_in d)) c.loop-position.position c.args.block (omega (arith, n, m, c.loop-position-test.false, c.count-position-end.ensures.value)))
