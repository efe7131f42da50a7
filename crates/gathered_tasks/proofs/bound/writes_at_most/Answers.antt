use Rattle.std.proofs.Common.{◌∙◌, ◌≡◌, ◌≤◌, Some, refl, sym, ap, subst}
use Rattle.gathered_tasks.proofs.Common.{Geometry, IsBound, ReclaimsNothing, Request, batch_cost, once_cost, room_for, zeroed_cost}
use Rattle.std.proofs.lemmas.Option.{IfSome_then}
use Rattle.volume_laws.proofs.QuestionLaws.{told_size}
use Rattle.image_layout.specs.Ring.{bodies}
use Rattle.gathered_tasks.proofs.bound.writes_at_most.Goals as goal

pub has_slot-requires-clause-size : goal.has_slot-requires-clause-size
has_slot-requires-clause-size c = c.geometry-geometry.ensures ∙ (told_size c.args.core.now.volume.tables).0

pub returns-in-Write-clause-most : goal.returns-in-Write-clause-most
returns-in-Write-clause-most c =
    let size = c.geometry-geometry.ensures ∙ (told_size c.args.core.now.volume.tables).0 in
    IfSome_then c.of_homes.result c.of_homes.ensures.most (λ most le.
    let bound : IsBound c.args.core.now.volume _ most = record {
      once = λ makes. (refl, subst (λ (g : Geometry). once_cost g.sectors ≤ most) size le);
      new = λ makes. absurd (cc);
    } in
    subst (λ (q : Request). IsBound c.args.core.now.volume q most) (sym c.in-Write.is) bound)

pub returns-in-Alloc-clause-most : goal.returns-in-Alloc-clause-most
returns-in-Alloc-clause-most c =
    let size = (told_size c.args.core.now.volume.tables).0 in
    IfSome_then c.blocks_at_most.result c.blocks_at_most.ensures.most (λ most le.
    let bound : IsBound c.args.core.now.volume _ most = record {
      once = λ makes. absurd (cc);
      new = λ makes. (le.0, subst (λ (g : Geometry). zeroed_cost g c.in-Alloc.count ≤ most) size le.1);
    } in
    subst (λ (q : Request). IsBound c.args.core.now.volume q most) (sym c.in-Alloc.is) bound)

pub returns-in-Contig-clause-most : goal.returns-in-Contig-clause-most
returns-in-Contig-clause-most c =
    let size = (told_size c.args.core.now.volume.tables).0 in
    IfSome_then c.blocks_at_most-in-Contig.result c.blocks_at_most-in-Contig.ensures.most (λ most le.
    let bound : IsBound c.args.core.now.volume _ most = record {
      once = λ makes. absurd (cc);
      new = λ makes. (le.0, subst (λ (g : Geometry). zeroed_cost g c.in-Contig.count ≤ most) size le.1);
    } in
    subst (λ (q : Request). IsBound c.args.core.now.volume q most) (sym c.in-Contig.is) bound)

-- the room for a request
pub returns-in-Write-clause-room : goal.returns-in-Write-clause-room
returns-in-Write-clause-room c =
    let v = c.args.core.now.volume in
    let size = c.geometry-geometry.ensures ∙ (told_size v.tables).0 in
    subst (λ (q : Request). ReclaimsNothing c.args.core.now q → room_for v.tables.geometry q ≤ bodies → c.of_homes.result ≡ Some (room_for v.tables.geometry q)) (sym c.in-Write.is)
    (λ at_once fits. subst (λ (g : Geometry). batch_cost g.sectors ≤ bodies → c.of_homes.result ≡ Some (batch_cost g.sectors)) size c.of_homes.ensures.room fits)

pub returns-in-Alloc-clause-room : goal.returns-in-Alloc-clause-room
returns-in-Alloc-clause-room c =
    let v = c.args.core.now.volume in
    let result = c.blocks_at_most.result in
    let n = c.in-Alloc.count in
    subst (λ (q : Request). ReclaimsNothing c.args.core.now q → room_for v.tables.geometry q ≤ bodies → result ≡ Some (room_for v.tables.geometry q)) (sym c.in-Alloc.is)
    (λ at_once fits. subst (λ (g : Geometry). zeroed_cost g n ≤ bodies → result ≡ Some (zeroed_cost g n)) (told_size v.tables).0 (c.blocks_at_most.ensures.room (at_once.settled refl)) fits)

pub returns-in-Contig-clause-room : goal.returns-in-Contig-clause-room
returns-in-Contig-clause-room c =
    let v = c.args.core.now.volume in
    let result = c.blocks_at_most-in-Contig.result in
    let n = c.in-Contig.count in
    subst (λ (q : Request). ReclaimsNothing c.args.core.now q → room_for v.tables.geometry q ≤ bodies → result ≡ Some (room_for v.tables.geometry q)) (sym c.in-Contig.is)
    (λ at_once fits. subst (λ (g : Geometry). zeroed_cost g n ≤ bodies → result ≡ Some (zeroed_cost g n)) (told_size v.tables).0 (c.blocks_at_most-in-Contig.ensures.room (at_once.settled refl)) fits)

-- it is that room or none
pub returns-in-Write-clause-some : goal.returns-in-Write-clause-some
returns-in-Write-clause-some c =
    let v = c.args.core.now.volume in
    let size = c.geometry-geometry.ensures ∙ (told_size v.tables).0 in
    IfSome_then c.of_homes.result c.of_homes.ensures.some (λ most is.
    subst (λ (q : Request). ReclaimsNothing c.args.core.now q × (most ≡ room_for v.tables.geometry q)) (sym c.in-Write.is)
    (record { settled = λ makes. absurd (cc); slot = λ makes. absurd (cc); no_sweep = refl }, is ∙ ap (λ (g : Geometry). batch_cost g.sectors) size))

pub returns-in-Alloc-clause-some : goal.returns-in-Alloc-clause-some
returns-in-Alloc-clause-some c =
    let v = c.args.core.now.volume in
    let n = c.in-Alloc.count in
    IfSome_then c.blocks_at_most.result c.blocks_at_most.ensures.some (λ most is.
    subst (λ (q : Request). ReclaimsNothing c.args.core.now q × (most ≡ room_for v.tables.geometry q)) (sym c.in-Alloc.is)
    (record { settled = λ makes. is.0; slot = λ makes. absurd (cc); no_sweep = refl }, is.1 ∙ ap (λ (g : Geometry). zeroed_cost g n) (told_size v.tables).0))

pub returns-in-Contig-clause-some : goal.returns-in-Contig-clause-some
returns-in-Contig-clause-some c =
    let v = c.args.core.now.volume in
    let n = c.in-Contig.count in
    IfSome_then c.blocks_at_most-in-Contig.result c.blocks_at_most-in-Contig.ensures.some (λ most is.
    subst (λ (q : Request). ReclaimsNothing c.args.core.now q × (most ≡ room_for v.tables.geometry q)) (sym c.in-Contig.is)
    (record { settled = λ makes. is.0; slot = λ makes. absurd (cc); no_sweep = refl }, is.1 ∙ ap (λ (g : Geometry). zeroed_cost g n) (told_size v.tables).0))
