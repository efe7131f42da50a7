use Rattle.std.proofs.Common.{◌≡◌, ◌+◌, ◌-◌, [], refl, ◌∙◌, ap, arith}
use Rattle.std.specs.Prelude.{take, drop, flat_map}
use Rattle.fs_trees.specs.Fields.{Entry, entries, entry_bytes}
use Rattle.fs_trees.specs.Cluster.{cluster_bytes}
use Rattle.chain_layout.specs.Block.{cluster_of}
use Rattle.chain_layout.specs.Held.{entries_in}
use Rattle.chain_layout.proofs.WritingLaws.{same_list, with_written}
use Rattle.chain_layout.proofs.writing.directory_with.Goals as goal

pub returns : goal.returns
returns c =
    let d = c.args.old.now in
    let count = c.count-count.result in
    let list : entries count c.body-list.result.now ≡ entries_in d =
    same_list count (cluster_of d.cluster).used c.body-list.result.now (cluster_of d.cluster).body c.count-count.ensures.value (c.body-list.ensures.value ∙ ap (λ k. (cluster_of k).body) c.cluster.ensures) in
    let next = (cluster_of d.cluster).next in
    let e : Entry = record { name = c.args.name.now; block = c.args.block } in
    let behind = c.min-next_place.result in
    let used = c.args.position + 1 + (count - behind) in
    let linked = c.next.ensures.value ∙ ap (λ k. (cluster_of k).next) c.cluster-2.ensures in
    with_written next used c.args.position behind count e (entries_in d) c.head-bytes.result c.add.new.into c.add_entry.new.into c.add-2.new.into c.parts.result.0.now c.parts.result.1.now
    c.count-count.ensures.value (omega (arith, c.requires.within, c.count-count.ensures.value)) c.min-next_place.ensures refl
    (c.head-bytes.ensures.value ∙ ap (λ n. cluster_bytes n used []) linked) c.add.ensures c.add_entry.ensures c.add-2.ensures
    (c.parts.ensures.before ∙ ap (λ es. flat_map entry_bytes (take c.args.position es)) list) (c.parts.ensures.behind ∙ ap (λ es. flat_map entry_bytes (drop behind es)) list)
