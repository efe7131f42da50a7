use Rattle.std.proofs.Common.{ℕ, refl, sym, subst, Option}
use Rattle.fs_copy.proofs.Common.{IsCountedOn}
use Rattle.fs_copy.proofs.walk.counted.Goals as goal

pub returns-in-Some : goal.returns-in-Some
returns-in-Some c = subst (λ (o : Option ℕ). IsCountedOn c.args.copied (record { files = c.saturating_add.result; bytes = c.saturating_add-in-Some.result }) o) (sym c.in-Some.is) (c.saturating_add.ensures, c.saturating_add-in-Some.ensures)

pub returns-in-None : goal.returns-in-None
returns-in-None c = subst (λ (o : Option ℕ). IsCountedOn c.args.copied c.args.copied o) (sym c.in-None.is) refl
