use Rattle.std.proofs.Common.{sym, ap, subst, arith}
use Rattle.image_audit.proofs.Common.{leb-true, Listed, MayFollow}
use Rattle.image_audit.proofs.ListingLaws.{too_low}
use Rattle.image_audit.proofs.certificate.Certificate.may_follow.Goals as goal

pub returns-else-self-block : goal.returns-else-self-block
returns-else-self-block c =
    let inside = c.self.inside in
    let below = c.if-self-block.false in (
      λ h. let at = leb-true inside.next c.args.block h in absurd (omega (arith, at, below)),
      λ f. absurd (too_low inside.entries.items inside.next c.args.block c.self.invariant.2 below (subst (λ es. MayFollow es c.args.block) (sym (ap (λ (v : Listed). v.entries) c.self.view_is)) f)),
    )
