use Rattle.std.proofs.Common.{inl, inr, ◌≡◌, ◌≤◌, length, sym, ◌∙◌, ap, subst, arith, []}
use Rattle.std.specs.Prelude.{slice_index_or, slice_set}
use Rattle.std.proofs.lemmas.Bool.{cases_eq}
use Rattle.std.proofs.lemmas.List.{get_or-set_same, get_or-set_other, length-set}
use Rattle.tsd_model.specs.Sessions.{greater}
use Rattle.tsd_model.specs.declared.requests.Level.TheVariants as level
use Rattle.grant_table.proofs.holding.Holding.add_to.Goals as goal

pub loop-origin-preserved : goal.loop-origin-preserved
loop-origin-preserved c =
    let best = c.loop-origin.best in let o = c.loop-origin.origin in
    let to = greater (slice_index_or best o level.Bare) c.level_from.result in
    let long : length best ≡ 16 = c.raise.ensures.sized in
    let few : length c.self.inside.tables.items ≤ 16 = c.self.invariant in
    record {
      sized = ap length c.raise.ensures.value ∙ (length-set best o to ∙ c.loop-origin.invariant.sized);
      risen = λ k h. ap (λ ls. slice_index_or ls k level.Bare) c.raise.ensures.value ∙ elim (cases_eq k o) [
        | inl e ↦ subst (λ j. slice_index_or (slice_set best o to) j level.Bare ≡ greater (slice_index_or c.args.best.now j level.Bare) (slice_index_or (slice_index_or c.args.self.now j []) c.args.block level.Bare)) (sym e)
            (get_or-set_same best o to level.Bare (omega arith)
            ∙ (ap (λ l. greater l c.level_from.result) (c.loop-origin.invariant.others o (omega arith)) ∙ ap (greater (slice_index_or c.args.best.now o level.Bare)) c.level_from.ensures))
        | inr ne ↦ get_or-set_other best o k to level.Bare ne ∙ c.loop-origin.invariant.risen k (omega arith)
      ];
      others = λ k h. ap (λ ls. slice_index_or ls k level.Bare) c.raise.ensures.value ∙ (get_or-set_other best o k to level.Bare (λ e. omega arith) ∙ c.loop-origin.invariant.others k (omega arith));
    }
