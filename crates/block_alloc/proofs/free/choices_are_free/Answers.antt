use Rattle.block_alloc.proofs.ChosenLaws.{chosen-free, chosen-apart, run-free, run-inside}
use Rattle.block_alloc.proofs.free.choices_are_free.Goals as goal

pub returns : goal.returns
returns c = record { free = chosen-free; apart = chosen-apart; run = run-free; inside = run-inside }
