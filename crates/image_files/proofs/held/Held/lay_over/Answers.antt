use Rattle.std.proofs.Common.{ℕ, ◌+◌, ◌-◌, ◌*◌, ◌<◌, ◌≤◌, ◌≡◌, List, length, take, drop, ap, sym, subst, ◌∙◌, arith}
use Rattle.std.specs.Prelude.{slice_index, min}
use Rattle.std.proofs.lemmas.List.{get_or-take, get_or-drop}
use borrow.Rule.Slice.PartMut.{put_mid}
use Rattle.image_files.proofs.Rooms.{long}
use Rattle.image_files.proofs.Overlaid.{laid, mid_long}
use Rattle.image_files.proofs.held.Held.lay_over.Goals as goal

pub returns-then-count-gt0 : goal.returns-then-count-gt0
returns-then-count-gt0 c =
    let held = c.args.self.now in
    let xs = c.args.room.now in
    let ys = c.copy_from_slice.new.self in
    let at = c.saturating_sub-at.result in
    let passed = c.saturating_sub-passed.result in
    let count = c.min-count.result in
    let k = at + count - at in
    let part = passed + count - passed in
    let some : 0 < count = omega (arith, c.if-count-gt0.true) in
    let most : count ≡ min (length xs - at) (512 * held.count - passed) =
    omega (arith, c.min-count.ensures, c.saturating_sub-left.ensures, c.saturating_sub.ensures) in
    let fits : at + k ≤ length xs = omega arith in
    let size_k : length ys ≡ k = mid_long at k xs ys c.copy_from_slice.ensures.len fits in
    let size : length ys ≡ count = omega arith in
    let all : length (put_mid at k xs ys) ≡ length xs = long at k xs ys fits size_k in
    λ content is i below.
    laid at k count passed c.args.sector held.first held.count i xs ys held.room.items content
    (omega (arith, c.saturating_sub-passed.ensures)) (omega (arith, c.saturating_sub-at.ensures)) most some (omega arith) size
    (λ j within. ap (λ (l : List ℕ). slice_index l j) c.copy_from_slice.ensures.after
    ∙ get_or-take part (drop passed c.deref.result.now) j 0 (omega arith)
    ∙ get_or-drop passed c.deref.result.now j 0
    ∙ ap (λ (l : List ℕ). slice_index l (passed + j)) c.deref.ensures.value)
    is (subst (λ (n : ℕ). i < n) all below)
