use Rattle.std.proofs.Common.{◌≡◌, ◌<◌, length, sym, ◌∙◌, ap, arith, inl, inr}
use Rattle.std.proofs.lemmas.Bool.{cases_lt}
use Rattle.disk_laws.proofs.DoomLaws.{live_below}
use Rattle.tsd_model.specs.declared.geometry.Geometry.{Geometry}
use Rattle.reclaim.specs.Tables.{graph_of}
use Rattle.cycle_sweep.proofs.step.step_around.Goals as goal

-- each block is in one part or the other
pub returns-clause-stuck : goal.returns-clause-stuck
returns-clause-stuck c = λ none b live out. elim (cases_lt b c.min-position.result) [
  | inl before ↦ c.step_within.ensures.stuck none b (omega arith) before live out
  | inr behind ↦
      let below : b < length (graph_of c.args.pointers.now c.args.live.now).blocks = live_below (graph_of c.args.pointers.now c.args.live.now).blocks b live in
      let size : c.geometry-blocks.result.blocks ≡ c.args.pointers.now.geometry.blocks = ap (λ (g : Geometry). g.blocks) (c.geometry-blocks.ensures.value ∙ c.requires.tables.geometry) in
      let within : b < c.geometry-blocks.result.blocks = omega (arith, below, size, c.requires.tables.raw.laid_out.each_block) in
      c.step_within-step.ensures.stuck (sym c.is_some.ensures ∙ c.if-is_some.false) b behind within live out
]
