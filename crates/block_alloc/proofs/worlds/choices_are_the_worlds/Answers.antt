use Rattle.block_alloc.proofs.WorldLaws.{free_count_same, free_blocks_same, chosen_same, runs_same, chosen_run_same}
use Rattle.block_alloc.proofs.worlds.choices_are_the_worlds.Goals as goal

pub returns : goal.returns
returns c = record { count = free_count_same; free = free_blocks_same; blocks = chosen_same; runs = runs_same; run = chosen_run_same }
