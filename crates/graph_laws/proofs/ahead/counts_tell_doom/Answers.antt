use Rattle.graph_laws.proofs.Common.{not-true, has_number, doomed}
use Rattle.graph_laws.proofs.AheadLaws.{kept-new_blocks, kept_is_settled_count, kept-with_pointer, doomed_list-with_pointer, doomed_pairs-with_pointer, kept_deleted}
use Rattle.graph_laws.proofs.MarkingLaws.{doomed_by_count, marking_of_deleted, marking_goes_on, marking_ends, count_ends, off_ends}
use Rattle.graph_laws.proofs.WeightLaws.{step_keeps_counts}
use Rattle.graph_laws.proofs.ahead.counts_tell_doom.Goals as goal

pub returns-clause-told : goal.returns-clause-told
returns-clause-told c = λ r b long. (doomed_by_count r long b, kept_is_settled_count r b)

pub returns-clause-create : goal.returns-clause-create
returns-clause-create c = λ r a t out new from to.
    let source = not-true (has_number (doomed r) a) from in
    let target = not-true (has_number (doomed r) t) to in
    (λ b. kept-with_pointer r a t b out new source target, doomed_list-with_pointer r a t out target, doomed_pairs-with_pointer r a t out new source target)

pub returns-clause-alloc : goal.returns-clause-alloc
returns-clause-alloc c = kept-new_blocks

pub returns-clause-step : goal.returns-clause-step
returns-clause-step c = λ r a targets freed b out lost step. step_keeps_counts r a targets out lost freed step b

pub returns-clause-begins : goal.returns-clause-begins
returns-clause-begins c = λ r a t out held from. (marking_of_deleted r a t out, λ b. kept_deleted r a t b out held (not-true (has_number (doomed r) a) from))

pub returns-clause-goes_on : goal.returns-clause-goes_on
returns-clause-goes_on c = marking_goes_on

pub returns-clause-ends : goal.returns-clause-ends
returns-clause-ends c = λ w gone left marking off. record { blocks = marking_ends w gone left marking off; counts = count_ends w gone left marking off; pairs = off_ends w gone left marking off }
