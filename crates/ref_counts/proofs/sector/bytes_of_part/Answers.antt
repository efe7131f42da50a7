use Rattle.std.proofs.Common.{ℕ, ◌-◌, ◌*◌, List, ◌++◌, length, replicate, ◌∙◌, ap}
use Rattle.std.specs.List.{flat_map}
use Rattle.byteorder.specs.Endian.{little_bytes}
use Rattle.ref_counts.proofs.Sectors.{part_of_counts}
use Rattle.ref_counts.proofs.sector.bytes_of_part.Goals as goal

pub returns-clause-bytes : goal.returns-clause-bytes
returns-clause-bytes c =
    c.bytes_of.ensures
    ∙ ap (λ (xs : List ℕ). flat_map (little_bytes 4) xs ++ replicate (512 - 4 * length xs) 0) (part_of_counts c.args.counts.now c.args.part c.min-end.result c.min-end.ensures)
