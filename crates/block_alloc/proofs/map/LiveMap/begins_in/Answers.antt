use Rattle.std.proofs.Common.{◌≡◌, ◌+◌, ◌*◌, ◌-◌, ◌<◌, ◌≤◌, length, inl, inr, sym, ◌∙◌, ap, arith, ℕ}
use Rattle.block_alloc.proofs.Common.{is_free_run, cases_eq}
use Rattle.block_alloc.proofs.RunLaws.{found-in, no_run_past}
use Rattle.block_alloc.proofs.map.LiveMap.begins_in.Goals as goal

pub loop-block-init : goal.loop-block-init
loop-block-init c =
    let live = c.args.self.now.unhidden in
    record {
      low = omega (arith, c.min-end.ensures, ap (λ m. m.blocks) c.geometry-blocks.ensures.value, c.requires.group);
      none = λ b low high. no_run_past live c.args.run b c.requires.run.0 (omega (arith, low, high, c.min-end.ensures, c.geometry-blocks.ensures.table.each_unhidden, ap (λ m. m.blocks) c.geometry-blocks.ensures.value));
    }

pub loop-block-preserved : goal.loop-block-preserved
loop-block-preserved c =
    let live = c.args.self.now.unhidden in
    let block = c.loop-block.block - 1 in
    record {
      low = omega (arith, c.loop-block-test.true);
      none = λ b low high. elim (cases_eq block b) [
        | inl e ↦ ap (is_free_run live c.args.run) (sym e) ∙ (sym c.is_run.ensures ∙ c.if-is_run.false)
        | inr ne ↦ c.loop-block.invariant.none b (omega (arith, low, ne, c.loop-block-test.true)) high
      ];
    }

pub returns-then-is_run-clause-found : goal.returns-then-is_run-clause-found
returns-then-is_run-clause-found c = λ yes.
    let live = c.args.self.now.unhidden in
    let block = c.loop-block.block - 1 in
    let within : block < 0 + length live = omega (arith, c.loop-block-test.true, c.loop-block.auto.block, c.min-end.ensures, c.geometry-blocks.ensures.table.each_unhidden, ap (λ m. m.blocks) c.geometry-blocks.ensures.value) in
    found-in (is_free_run live c.args.run) 0 (length live) block (omega arith) within (sym c.is_run.ensures ∙ c.if-is_run.true)

pub returns-clause-none : goal.returns-clause-none
returns-clause-none c = λ no b low high. c.loop-block.invariant.none b (omega (arith, low, c.loop-block-test.false, c.loop-block.invariant.low)) high
