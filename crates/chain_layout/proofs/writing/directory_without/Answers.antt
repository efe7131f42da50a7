use Rattle.std.proofs.Common.{◌≡◌, ◌+◌, ◌-◌, [], refl, ◌∙◌, ap, arith}
use Rattle.std.specs.Prelude.{take, drop, flat_map}
use Rattle.fs_trees.specs.Fields.{entries, entry_bytes}
use Rattle.fs_trees.specs.Cluster.{cluster_bytes}
use Rattle.chain_layout.specs.Block.{cluster_of}
use Rattle.chain_layout.specs.Held.{entries_in}
use Rattle.chain_layout.proofs.WritingLaws.{same_list, without_written}
use Rattle.chain_layout.proofs.writing.directory_without.Goals as goal

pub returns : goal.returns
returns c =
    let d = c.args.old.now in
    let count = c.count-count.result in
    let list : entries count c.body.result.now ≡ entries_in d =
    same_list count (cluster_of d.cluster).used c.body.result.now (cluster_of d.cluster).body c.count-count.ensures.value (c.body.ensures.value ∙ ap (λ k. (cluster_of k).body) c.cluster.ensures) in
    let next = (cluster_of d.cluster).next in
    let position = c.args.position in
    let linked = c.next.ensures.value ∙ ap (λ k. (cluster_of k).next) c.cluster-2.ensures in
    without_written next (count - 1) position count (entries_in d) c.head-bytes.result c.add.new.into c.add-2.new.into c.parts.result.0.now c.parts.result.1.now
    c.count-count.ensures.value (omega (arith, c.requires, c.count-count.ensures.value)) refl
    (c.head-bytes.ensures.value ∙ ap (λ n. cluster_bytes n (count - 1) []) linked) c.add.ensures c.add-2.ensures
    (c.parts.ensures.before ∙ ap (λ es. flat_map entry_bytes (take position es)) list) (c.parts.ensures.behind ∙ ap (λ es. flat_map entry_bytes (drop (position + 1) es)) list)
