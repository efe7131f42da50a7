use Rattle.std.proofs.Common.{List, take, ◌∙◌, ap}
use Rattle.image_runs.proofs.Common.{take_all, CapPair}
use Rattle.image_runs.proofs.format.caps_of.Goals as goal

pub returns-clause-value : goal.returns-clause-value
returns-clause-value c =
    c.loop-pair.invariant.caps
    ∙ take_all c.loop-pair.pair-index _ c.loop-pair-test.false
    ∙ ap (λ (l : List CapPair). take c.args.words.now.geometry.primaries l) (c.as_slice.ensures.value ∙ c.seed_caps-all.ensures)
