use Rattle.reclaim.proofs.Common.{none_lost, graph_of}
use Rattle.reclaim.proofs.CollectLaws.{lost_within}
use Rattle.reclaim.proofs.StepLaws.{found_none}
use Rattle.reclaim.proofs.guesses.find_lost.Goals as goal

pub returns-then-is_some-clause-none : goal.returns-then-is_some-clause-none
returns-then-is_some-clause-none c = (
  λ none. absurd (cc),
  λ none. found_none (graph_of c.args.pointers.now c.args.live.now) c.pop_lost-guessed.result c.requires.tables.raw.laid_out c.pop_lost-guessed.ensures none,
)

pub returns-else-is_some-clause-none : goal.returns-else-is_some-clause-none
returns-else-is_some-clause-none c =
    let w = graph_of c.args.pointers.now c.args.live.now in (
      λ none. none_lost w (λ b lost. c.look_for_lost.ensures.none none b (lost_within c.args.pointers.now c.args.live.now b c.requires.tables lost) lost),
      λ none. found_none w c.look_for_lost.result c.requires.tables.raw.laid_out c.look_for_lost.ensures.lost none,
    )
