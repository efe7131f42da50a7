use Rattle.image_files.specs.Held.{overlaid}
use Rattle.image_files.proofs.followed.Followed.new.Goals as goal

pub invariant_of-result : goal.invariant_of-result
invariant_of-result g c =
    let joined = c.new.result in
    record { agrees = λ told. c.none.ensures.holds (overlaid joined.waiting (g.F.Sectors.content joined.file)) }
