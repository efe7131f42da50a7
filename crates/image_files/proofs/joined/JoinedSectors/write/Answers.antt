use Rattle.std.proofs.Common.{ℕ, ◌*◌, ◌≡◌, ap, ◌∙◌, subst}
use Rattle.image_files.specs.Bytes.{IsWritten}
use Rattle.image_files.specs.Held.{overlaid}
use Rattle.image_files.specs.declared.held.Held.{Held}
use Rattle.image_files.proofs.joined.JoinedSectors.write.Goals as goal

pub returns-then-put-clause-written : goal.returns-then-put-clause-written
returns-then-put-clause-written g c = λ told. c.put.ensures.taken (g.F.Sectors.content c.args.self.now.file) c.if-put.true

pub returns-then-put-2-clause-written : goal.returns-then-put-2-clause-written
returns-then-put-2-clause-written g c =
    let new = g.F.Sectors.content c.send.new.self.file in
    let first = g.F.Sectors.content c.args.self.now.file in
    λ told. subst (λ (old : ℕ → ℕ). IsWritten (512 * c.args.sector) c.args.from.now old (overlaid c.put-2.new.self new))
    (c.in_ok-send.ensures.same told ∙ ap (λ (waiting : Held). overlaid waiting first) (c.put.ensures.kept c.if-put.false))
    (c.put-2.ensures.taken new c.if-put-2.true)
