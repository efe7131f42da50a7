use Rattle.std.proofs.Common.{◌++◌, length, refl, ◌∙◌, ap}
use Rattle.std.specs.Prelude.{flat_map}
use Rattle.std.specs.Option.{option_and_then}
use Rattle.fs_trees.specs.Fields.{entry_bytes}
use Rattle.fs_trees.specs.Cluster.{entries_of}
use Rattle.chain_layout.proofs.BackLaws.{entries_back, head_back}
use Rattle.chain_layout.proofs.laws.what_is_written_reads_back.Goals as goal

pub returns-clause-entries : goal.returns-clause-entries
returns-clause-entries c = λ len next es rest linked few room named small.
    let body = flat_map entry_bytes es in
    ap (option_and_then (entries_of len)) (head_back next (length es) body rest linked few)
    ∙ entries_back len next es rest (record { next = next; used = length es; body = body ++ rest }) room named small refl refl

pub returns-clause-head : goal.returns-clause-head
returns-clause-head c = head_back
