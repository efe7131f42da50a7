use Rattle.std.proofs.Common.{◌≡◌, ◌++◌, ◌≤◌, length}
use Rattle.std.specs.Prelude.{option_map}
use Rattle.tsd_model.specs.Step.{targets_max}
use Rattle.request_frames.specs.Reading.{numbers_of}
use Rattle.request_frames.proofs.reader.BodyReader.blocks.Given as goal

abbrev pub invariant-loop-self : goal.invariant-loop-self
invariant-loop-self l = (numbers_of l.initial.self ≡ option_map (λ ns. l.blocks ++ ns) (numbers_of l.self)) × (length l.blocks ≤ targets_max)

abbrev pub decreases-loop-self : goal.decreases-loop-self
decreases-loop-self l = length l.self
