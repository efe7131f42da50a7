use Rattle.image_files.proofs.Overlaid.{own}
use Rattle.image_files.specs.Held.{overlaid}
use Rattle.image_files.proofs.joined.Joined.copy_waiting.Goals as goal

pub returns-clause-bytes : goal.returns-clause-bytes
returns-clause-bytes g c =
    let waiting = c.args.self.now.waiting in
    λ content is i below. c.copy.ensures.bytes (overlaid waiting content)
    (own waiting.first waiting.count waiting.room.items content) is i below
