use Rattle.std.proofs.Common.{ℕ, ◌+◌, ◌*◌, ap, sym, ◌∙◌}
use Rattle.image_files.specs.Held.{overlaid}
use Rattle.image_files.proofs.followed.Followed.read.Goals as goal

pub returns-then-copy-clause-bytes : goal.returns-then-copy-clause-bytes
returns-then-copy-clause-bytes g c =
    let file = c.follow.new.self in
    λ told i below.
    c.copy.ensures.bytes (overlaid file.file.waiting (g.F.Sectors.content file.file.file)) (file.agrees told) c.if-copy.true i below
    ∙ ap (λ (content : ℕ → ℕ). content (512 * c.args.sector + i)) (c.follow.ensures told)

pub invariant_of-self : goal.invariant_of-self
invariant_of-self g c =
    let file = c.follow.new.self in
    record {
      agrees = λ told i below. file.agrees told i below
          ∙ ap (λ (content : ℕ → ℕ). content (512 * file.held.first + i)) (sym (c.read.ensures.rests told));
    }

pub returns-clause-bytes : goal.returns-clause-bytes
returns-clause-bytes g c = λ told i below. c.in_ok-read.ensures.bytes told i below
    ∙ ap (λ (content : ℕ → ℕ). content (512 * c.args.sector + i)) (c.follow.ensures told)
