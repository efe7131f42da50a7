use Rattle.std.proofs.Common.{◌≡◌, ◌==◌, cond, ◌∙◌, sym, ap}
use Rattle.block_alloc.proofs.Common.{eq-eqb, ne_eqb}
use Rattle.block_alloc.proofs.FreshLaws.{fresh_bytes}
use Rattle.block_alloc.proofs.fresh.fresh_sector.Goals as goal
use Rattle.block_alloc.proofs.fresh.fresh_sector.Goals.{then-part-eq0, else-part-eq0}

pub returns : goal.returns
returns c =
    let most = c.args.geometry.now.primaries in
    let count : c.if-part-eq0.first_bits ≡ cond (c.args.part == 0) most 0 = elim c.if-part-eq0.branch [
      | then-part-eq0 w ↦ w.first_bits-is ∙ sym (ap (λ t. cond t most 0) (eq-eqb c.args.part 0 w.if-part-eq0.true))
      | else-part-eq0 w ↦ w.first_bits-is ∙ sym (ap (λ t. cond t most 0) (ne_eqb c.args.part 0 w.if-part-eq0.false))
    ] in
    fresh_bytes c.args.geometry.now c.args.part c.if-part-eq0.first_bits c.first_bits.result c.requires count c.first_bits.ensures.size c.first_bits.ensures.fits c.first_bits.ensures.bits
