use Rattle.std.proofs.Common.{ℕ, ◌+◌, ◌*◌, ap, sym, ◌∙◌}
use Rattle.image_files.proofs.followed.Followed.send.Goals as goal

pub invariant_of-self-in_default : goal.invariant_of-self-in_default
invariant_of-self-in_default g c =
    let old = c.args.self.now in
    record {
      agrees = λ told i below. old.agrees told i below
          ∙ ap (λ (content : ℕ → ℕ). content (512 * old.held.first + i)) (sym (c.in_default.ensures.same told));
    }
