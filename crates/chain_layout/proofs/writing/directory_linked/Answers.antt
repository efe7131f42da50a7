use Rattle.std.proofs.Common.{◌≡◌, Some, ◌∙◌, ap}
use Rattle.std.specs.Prelude.{take, flat_map}
use Rattle.fs_trees.specs.Fields.{entries, entry_bytes}
use Rattle.chain_layout.specs.Block.{cluster_of}
use Rattle.chain_layout.specs.Held.{entries_in}
use Rattle.chain_layout.proofs.WritingLaws.{same_list, linked_written}
use Rattle.chain_layout.proofs.writing.directory_linked.Goals as goal

pub returns : goal.returns
returns c =
    let d = c.args.old.now in
    let count = c.count-count.result in
    let list : entries count c.body.result.now ≡ entries_in d =
    same_list count (cluster_of d.cluster).used c.body.result.now (cluster_of d.cluster).body c.count-count.ensures.value (c.body.ensures.value ∙ ap (λ k. (cluster_of k).body) c.cluster.ensures) in
    linked_written (Some c.args.next) count (entries_in d) c.head-bytes.result c.add.new.into c.parts.result.0.now c.head-bytes.ensures.value c.add.ensures
    (c.parts.ensures.before ∙ ap (λ es. flat_map entry_bytes (take count es)) list) c.count-count.ensures.value
