use Rattle.std.proofs.Common.{◌≡◌, refl, sym, ◌∙◌, ap, subst, false, Option}
use Rattle.image_audit.proofs.Common.{unwrap_or, both_ways, Listing, Listed, MayFollow}
use Rattle.image_audit.proofs.certificate.Certificate.take.Goals as goal

pub returns-in_default-clause-refused : goal.returns-in_default-clause-refused
returns-in_default-clause-refused c l says f = c.in_default.not-Some l says

pub returns-else-list-clause-refused : goal.returns-else-list-clause-refused
returns-else-list-clause-refused c l says f =
    let listing = c.in-Some.listing in
    let same : l ≡ listing = sym (ap (λ (o : Option Listing). unwrap_or o listing) (sym c.in-Some.is ∙ says)) in
    both_ways false refl (c.if-list.ensures.listed.1
    (subst (λ (x : Listing). MayFollow c.self.inside.entries.items x.block) same
    (subst (λ es. MayFollow es l.block) (sym (ap (λ (v : Listed). v.entries) c.self.view_is)) f)))
