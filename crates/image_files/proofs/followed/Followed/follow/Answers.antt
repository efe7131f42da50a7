use Rattle.std.proofs.Common.{ℕ, ◌+◌, ◌*◌, ap, sym, ◌∙◌}
use Rattle.image_files.proofs.followed.Followed.follow.Goals as goal

pub invariant_of-self : goal.invariant_of-self
invariant_of-self g c =
    let held = c.fill.new.self in
    record {
      agrees = λ told i below. c.fill.ensures.holds told i below
          ∙ ap (λ (content : ℕ → ℕ). content (512 * held.first + i)) (sym (c.fill.ensures.rests told));
    }
