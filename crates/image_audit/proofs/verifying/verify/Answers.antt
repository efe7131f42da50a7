use Rattle.std.proofs.Common.{◌≡◌, ◌≤◌, ℕ, true, length, ap, subst, arith}
use Rattle.image_audit.proofs.Common.{both_ways, holds, Geometry, World, is_live, told_by, IsLeastPrimaryOut, IsLeastBadEntry, IsLeastOut, ListsPrimaries, HasGoodEntries, IsClosed, IsWholeWorld}
use Rattle.tsd_model.specs.Valid.{IsSized}
use Rattle.volume_laws.proofs.QuestionLaws.{told_size}
use Rattle.image_audit.proofs.VerdictLaws.{shown_reached, found_primaries, found_closed, found_no_bad}
use Rattle.image_audit.proofs.verifying.verify.Goals as goal

whole_of : (w : World) → IsSized w → ((a b : ℕ) → holds w.pairs a b ≡ true → (is_live w a ≡ true) × (is_live w b ≡ true)) → IsWholeWorld w
whole_of w sized ends = record { each_block = sized.each_block; targets = λ a b held. (ends a b held).1 }

pub returns-in-Some-clause-found : goal.returns-in-Some-clause-found
returns-in-Some-clause-found c found =
    let w = told_by c.args.volume.now in
    let size = c.primary_out.ensures in
    let out = subst (λ es. IsLeastPrimaryOut w es c.in-Some.block) c.entries-entries.ensures c.in-Some.ensures.out in
    absurd (both_ways _ out.out (found_primaries w (whole_of w size.sized size.ends) size.sized.lawful.primaries.2 c.args.certificate.now.entries found c.in-Some.block out.primary))

pub returns-in-Some-first_bad-clause-found : goal.returns-in-Some-first_bad-clause-found
returns-in-Some-first_bad-clause-found c found =
    let w = told_by c.args.volume.now in
    let size = c.primary_out.ensures in
    let out = subst (λ es. IsLeastBadEntry w es c.in-Some-first_bad.block) c.entries-entries.ensures c.in-Some-first_bad.ensures in
    absurd (found_no_bad w (whole_of w size.sized size.ends) size.sized.lawful.primaries.2 c.args.certificate.now.entries found c.in-Some-first_bad.block out.bad)

pub returns-in-Some-first_out-clause-found : goal.returns-in-Some-first_out-clause-found
returns-in-Some-first_out-clause-found c found =
    let w = told_by c.args.volume.now in
    let size = c.primary_out.ensures in
    let out = subst (λ es. IsLeastOut w es c.in-Some-first_out.source c.in-Some-first_out.target) c.entries-entries.ensures c.in-Some-first_out.ensures in
    absurd (found_closed w (whole_of w size.sized size.ends) size.sized.lawful.primaries.2 c.args.certificate.now.entries found c.in-Some-first_out.source c.in-Some-first_out.target out.leaves)

pub count_listed-requires : goal.count_listed-requires
count_listed-requires c =
    let size = c.primary_out.ensures in
    let most : (told_by c.args.volume.now).geometry.blocks ≤ 1048576 = size.sized.lawful.blocks.1 in
    let told : (told_by c.args.volume.now).geometry.blocks ≡ c.args.volume.now.tables.geometry.blocks = ap (λ (g : Geometry). g.blocks) (told_size c.args.volume.now.tables).0 in
    let long : length c.entries-entries.result.now ≡ length c.args.certificate.now.entries = ap length c.entries-entries.ensures in
    let same : length c.args.certificate.now.entries ≡ c.args.volume.now.tables.geometry.blocks = c.requires.blocks in
    omega (arith, most, told, long, same)

pub returns-clause-reached : goal.returns-clause-reached
returns-clause-reached c n is =
    let w = told_by c.args.volume.now in
    let size = c.primary_out.ensures in
    shown_reached w (whole_of w size.sized size.ends) size.sized.lawful.primaries.2 c.args.certificate.now.entries
    (subst (ListsPrimaries w) c.entries-entries.ensures c.in_default.ensures.out)
    (subst (HasGoodEntries w) c.entries-entries.ensures c.in_default-first_bad.ensures)
    (subst (IsClosed w) c.entries-entries.ensures c.in_default-first_out.ensures)
