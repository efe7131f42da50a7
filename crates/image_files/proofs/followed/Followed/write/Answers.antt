use Rattle.std.proofs.Common.{ℕ, ◌*◌, List, subst}
use Rattle.image_files.specs.Bytes.{IsWritten}
use Rattle.image_files.specs.Held.{overlaid}
use Rattle.image_files.proofs.followed.Followed.write.Goals as goal

pub invariant_of-self : goal.invariant_of-self
invariant_of-self g c =
    let content = g.F.Sectors.content in
    let file = c.args.self.now.file in
    let old = overlaid file.waiting (content file.file) in
    let new = overlaid c.write.new.self.waiting (content c.write.new.self.file) in
    record {
      agrees = λ told. c.renew.ensures old new (c.args.self.now.agrees told)
          (subst (λ (l : List ℕ). IsWritten (512 * c.args.sector) l old new) c.as_slice.ensures (c.in-Ok.ensures.written told));
    }
