use Rattle.std.proofs.Common.{inl, inr, ◌≡◌, ◌∙◌, sym, ap, arith}
use Rattle.std.specs.Prelude.{slice_index_or}
use Rattle.std.proofs.lemmas.Bool.{cases_lt}
use Rattle.tsd_model.specs.declared.requests.Level.TheVariants as level
use Rattle.grant_table.proofs.LevelLaws.{from_write}
use Rattle.grant_table.proofs.origins.Origins.are_write.Goals as goal

pub loop-primary-preserved : goal.loop-primary-preserved
loop-primary-preserved c = λ o h. elim (cases_lt o c.loop-primary.primary) [
  | inl l ↦ c.loop-primary.invariant o l
  | inr g ↦
      let here : o ≡ c.loop-primary.primary = omega arith in
      ap (λ k. slice_index_or c.args.self.now k level.Bare) here
      ∙ (sym c.at.ensures ∙ from_write c.at.result (sym c.level_le.ensures ∙ c.if-not-level_le.false))
]

pub returns : goal.returns
returns c = λ yes o h. c.loop-primary.invariant o (let end = c.loop-primary-test.false in omega arith)
