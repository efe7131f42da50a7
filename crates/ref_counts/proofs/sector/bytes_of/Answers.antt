use Rattle.std.proofs.Common.{refl}
use Rattle.std.proofs.lemmas.List.{drop-replicate}
use Rattle.ref_counts.proofs.sector.bytes_of.Goals as goal

-- behind the counts stand the zeros that stood there
pub returns : goal.returns
returns c = rw (c.write_u32_into.ensures, drop-replicate) refl
