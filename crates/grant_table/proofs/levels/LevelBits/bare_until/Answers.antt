use Rattle.std.proofs.Common.{◌∙◌, sym, ap, arith, false}
use Rattle.std.specs.Prelude.{slice_index_or}
use Rattle.tsd_model.specs.declared.requests.Level.TheVariants as level
use Rattle.grant_table.specs.Levels.{level_of_bits}
use Rattle.grant_table.proofs.LevelLaws.{get-levels_of_bits, unset_before, least_most}
use Rattle.grant_table.proofs.levels.LevelBits.bare_until.Goals as goal

pub returns-clause-on : goal.returns-clause-on
returns-clause-on c =
    let first = least_most c.self.inside.writes c.args.start c.args.end c.next_set-end.result c.requires c.next_set-end.ensures in
    let second = least_most c.self.inside.reads c.args.start c.next_set-end.result c.next_set.result c.next_set-end.ensures.from c.next_set.ensures in
    (c.next_set.ensures.from, omega (arith, first, second))

pub returns-clause-bare : goal.returns-clause-bare
returns-clause-bare c = λ b from within.
    let reads = c.self.inside.reads in let writes = c.self.inside.writes in
    let second = least_most reads c.args.start c.next_set-end.result c.next_set.result c.next_set-end.ensures.from c.next_set.ensures in
    ap (λ levels. slice_index_or levels b level.Bare) (sym c.self.view_is) ∙ (get-levels_of_bits reads writes b c.self.invariant
    ∙ (ap (λ r. level_of_bits r (slice_index_or writes b false)) (unset_before reads c.args.start c.next_set-end.result c.next_set.result b c.next_set.ensures from within)
    ∙ ap (level_of_bits false) (unset_before writes c.args.start c.args.end c.next_set-end.result b c.next_set-end.ensures from (omega (arith, second, within)))))
