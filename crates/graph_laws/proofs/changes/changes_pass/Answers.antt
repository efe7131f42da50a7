use Rattle.graph_laws.proofs.CommuteLaws.{settle-without_pointer, create_settles, settle-with_contents, swept-with_contents, settle-of_records, swept-of_records}
use Rattle.graph_laws.proofs.DropLaws.{delete_dooms}
use Rattle.graph_laws.proofs.changes.changes_pass.Goals as goal

pub returns-clause-delete : goal.returns-clause-delete
returns-clause-delete c = settle-without_pointer

pub returns-clause-dooms : goal.returns-clause-dooms
returns-clause-dooms c = delete_dooms

pub returns-clause-create : goal.returns-clause-create
returns-clause-create c = create_settles

pub returns-clause-bytes : goal.returns-clause-bytes
returns-clause-bytes c = λ r b bytes. (settle-with_contents r b bytes, swept-with_contents r b bytes)

pub returns-clause-records : goal.returns-clause-records
returns-clause-records c = λ r version records. (settle-of_records r version records, swept-of_records r version records)
