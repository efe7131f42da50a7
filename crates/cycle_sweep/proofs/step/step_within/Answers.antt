use Rattle.std.proofs.Common.{◌≡◌, ◌<◌, not, true, false, sym, ◌∙◌, ap, subst, arith, inl, inr}
use Rattle.std.proofs.lemmas.Bool.{cases_eq, both_ways, and_from, and_parts}
use Rattle.tsd_model.specs.World.{is_live}
use Rattle.block_alloc.specs.LiveMap.{is_live as is_live_in}
use Rattle.cycle_sweep.specs.Marked.{is_marked}
use Rattle.cycle_sweep.specs.Sweep.{IsStuck}
use Rattle.reclaim.specs.Tables.{graph_of}
use Rattle.reclaim.proofs.CollectLaws.{live_told}
use Rattle.cycle_sweep.proofs.step.step_within.Goals.{then-is_unmarked+else-is_some, else-is_unmarked}
use Rattle.cycle_sweep.proofs.step.step_within.Goals as goal

pub step_at-step-requires-clause-live : goal.step_at-step-requires-clause-live
step_at-step-requires-clause-live c =
    let block = c.loop-block.block in
    let within : block < c.args.pointers.now.geometry.blocks = let below = c.loop-block-test.true in let fits = c.requires.end in omega arith in
    live_told c.args.pointers.now c.args.live.now block within
    ∙ (and_parts (is_live_in c.args.live.now.live block) (not (is_marked c.args.marks.now block)) (sym c.is_unmarked.ensures ∙ c.if-is_unmarked.true)).0

pub loop-block-preserved : goal.loop-block-preserved
loop-block-preserved c = λ b from below live out. elim (cases_eq b c.loop-block.block) [
  | inr other ↦ c.loop-block.invariant b from (omega arith) live out
  | inl same ↦
      let within : c.loop-block.block < c.args.pointers.now.geometry.blocks = let inside = c.loop-block-test.true in let fits = c.requires.end in omega arith in
      subst (λ k. IsStuck (graph_of c.args.pointers.now c.args.live.now) k) (sym same) (elim c.if-is_unmarked.branch [
        | then-is_unmarked+else-is_some w ↦ w.step_at-step.ensures.none (sym w.is_some.ensures ∙ w.if-is_some.false)
        | else-is_unmarked w ↦ absurd (both_ways c.is_unmarked.result w.if-is_unmarked.false (c.is_unmarked.ensures
            ∙ and_from (is_live_in c.args.live.now.live c.loop-block.block) (not (is_marked c.args.marks.now c.loop-block.block))
            (sym (live_told c.args.pointers.now c.args.live.now c.loop-block.block within)
            ∙ subst (λ k. is_live (graph_of c.args.pointers.now c.args.live.now) k ≡ true) same live)
            (ap not (subst (λ k. is_marked c.args.marks.now k ≡ false) same out))))
      ])
]
