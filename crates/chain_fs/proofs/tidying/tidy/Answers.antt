use Rattle.std.proofs.Common.{sym, ◌∙◌, ap}
use Rattle.chain_fs.proofs.Common.{cluster_of}
use Rattle.chain_fs.proofs.TidyLaws.{lost_trims, turn_trims}
use Rattle.chain_fs.proofs.PageLaws.{first_page, page_is, pages_over, page_may, page_last, page_next}
use Rattle.chain_fs.proofs.tidying.tidy.Goals as goal

pub loop-turn-init : goal.loop-turn-init
loop-turn-init g c = first_page c.requires.1 (g.met.K.Blocks.sound c.args.disk.now)

pub read_page-requires-clause-unspent : goal.read_page-requires-clause-unspent
read_page-requires-clause-unspent g c = c.loop-turn.invariant.tree.ready.unspent

pub read_page-requires-clause-valid : goal.read_page-requires-clause-valid
read_page-requires-clause-valid g c = c.loop-turn.invariant.tree.valid

pub read_page-requires-clause-may : goal.read_page-requires-clause-may
read_page-requires-clause-may g c = λ t. (c.loop-turn.invariant.left t).walked.ahead.may

pub read_page-requires-clause-there : goal.read_page-requires-clause-there
read_page-requires-clause-there g c = page_is c.loop-turn.invariant

pub returns-in-Err-clause-trims : goal.returns-in-Err-clause-trims
returns-in-Err-clause-trims g c =
    let here = c.loop-turn.invariant in
    lost_trims here.tree here.trims c.in-Err.ensures.looks c.in-Err.ensures.only

pub tidy_page-requires : goal.tidy_page-requires
tidy_page-requires g c κs within =
    let read = c.in-Ok.ensures in
    (within, page_may c.loop-turn.invariant read.looks read.page read.held)

pub returns-in-Err-tidy_page-clause-trims : goal.returns-in-Err-tidy_page-clause-trims
returns-in-Err-tidy_page-clause-trims g c =
    let here = c.loop-turn.invariant in
    turn_trims here.tree here.trims c.in-Ok.ensures.looks c.in-Err-tidy_page.ensures.trims

pub returns-in-None-clause-trims : goal.returns-in-None-clause-trims
returns-in-None-clause-trims g c =
    let here = c.loop-turn.invariant in
    turn_trims here.tree here.trims c.in-Ok.ensures.looks c.in-Ok-tidy_page.ensures.trims

pub returns-in-None-clause-clean : goal.returns-in-None-clause-clean
returns-in-None-clause-clean g c =
    let read = c.in-Ok.ensures in
    let tidied = c.in-Ok-tidy_page.ensures in
    let none = sym (c.next.ensures.value ∙ ap (λ x. (cluster_of x).next) c.cluster.ensures) ∙ c.in-None.is in
    page_last c.loop-turn.invariant read.looks read.page read.held tidied.trims tidied.own tidied.clean none

pub loop-turn-preserved : goal.loop-turn-preserved
loop-turn-preserved g c =
    let read = c.in-Ok.ensures in
    let tidied = c.in-Ok-tidy_page.ensures in
    let some = sym (c.next.ensures.value ∙ ap (λ x. (cluster_of x).next) c.cluster.ensures) ∙ c.in-Some.is in
    page_next c.loop-turn.invariant read.looks read.page read.held tidied.trims tidied.own tidied.clean some

pub returns-clause-trims : goal.returns-clause-trims
returns-clause-trims g c =
    pages_over c.loop-turn.invariant (g.met.K.Blocks.sound c.loop-turn.disk) c.geometry-turn-end.ensures c.loop-turn-test.false
