use Rattle.std.proofs.Common.{sym, ◌∙◌, ap, ◌≡◌, ◌<◌, length, take, arith, List}
use Rattle.std.specs.Prelude.{slice_index_or, map}
use Rattle.tsd_model.specs.Sessions.{greater, greatest}
use Rattle.tsd_model.specs.declared.requests.Level.{Level}
use Rattle.tsd_model.specs.declared.requests.Level.TheVariants as level
use Rattle.grant_table.proofs.LevelLaws.{greatest_map_more}
use Rattle.grant_table.proofs.holding.Holding.level.Goals as goal

pub loop-table-preserved : goal.loop-table-preserved
loop-table-preserved c =
    let at : List Level → Level = λ levels. slice_index_or levels c.args.block level.Bare in
    let items : c.as_slice-table-items.result.now ≡ c.args.self.now = c.as_slice-table-items.ensures.value ∙ c.self.view_is in
    let within : c.loop-table.table-index < length c.args.self.now = omega (arith, ap length items, c.loop-table-test.true) in
    let read : c.table-item.result ≡ slice_index_or c.args.self.now c.loop-table.table-index c.table-item.result = c.table-item.is ∙ ap (λ tables. slice_index_or tables c.loop-table.table-index c.table-item.result) items in
    c.greater-best.ensures ∙ (ap (λ l. greater c.loop-table.best l) c.level.ensures ∙ (ap (λ l. greater l (at c.table-item.result)) c.loop-table.invariant
    ∙ (ap (λ levels. greater (greatest (map at (take c.loop-table.table-index c.args.self.now))) (at levels)) read ∙ sym (greatest_map_more at c.args.self.now c.loop-table.table-index c.table-item.result within))))
