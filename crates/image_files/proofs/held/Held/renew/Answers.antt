use Rattle.std.proofs.Common.{ℕ, ◌+◌, ◌-◌, ◌*◌, ◌<◌, ◌≤◌, ◌⊎◌, List, length, drop, ap, sym, subst, ◌∙◌, arith}
use Rattle.std.specs.Prelude.{slice_index}
use borrow.Rule.Slice.PartMut.{put_mid}
use Rattle.image_files.proofs.Rooms.{renewed, part_long}
use Rattle.image_files.proofs.held.Held.renew.Goals as goal

pub returns-in-Some : goal.returns-in-Some
returns-in-Some c =
    let at = c.in-Some.at in
    let room = c.deref_mut.result.now in
    let put = c.copy_from_slice.new.self in
    let held = c.args.self.now in
    let same = c.copy_from_slice.ensures.after in
    let start = c.deref_mut.ensures.value in
    let place = c.in-Some.ensures.held in
    let fits : 512 * held.count ≤ length room = omega (arith, held.fits, c.deref_mut.ensures.len) in
    λ old new holds written i below.
    renewed held.room.len at (at + 512 - at) c.args.sector held.first held.count i room put
    (drop (length (put_mid at (at + 512 - at) room put)) held.room.items) old new
    (sym c.deref_mut.ensures.len) fits (omega arith)
    (part_long at room put c.copy_from_slice.ensures.len (omega (arith, place.fits, fits)))
    place.fits place.is
    (λ j is. ap (λ (l : List ℕ). slice_index l j) start ∙ holds j is)
    (λ j is. ap (λ (l : List ℕ). slice_index l j) same ∙ written.there j (subst (λ (l : List ℕ). j < length l) same is))
    (λ offset side. written.elsewhere offset
    (subst (λ (l : List ℕ). (offset < 512 * c.args.sector) ⊎ (512 * c.args.sector + length l ≤ offset)) same side))
    below
