use Rattle.std.proofs.Common.{ℕ, ◌+◌, ◌-◌, ◌*◌, ◌/◌, ◌<◌, ◌≤◌, ◌≡◌, ◌⊎◌, inl, inr, List, length, drop, sym, arith}
use Rattle.std.specs.Prelude.{slice_index}
use Rattle.std.proofs.lemmas.Bool.{cases_lt}
use borrow.Rule.Slice.PartMut.{put_mid}
use Rattle.image_files.proofs.Overlaid.{taken, mid_long}
use Rattle.image_files.proofs.held.Held.put.Goals.{then-self-eq0, else-self-eq0}
use Rattle.image_files.proofs.held.Held.put.Goals as goal

pub returns-clause-taken : goal.returns-clause-taken
returns-clause-taken c =
    let held = c.args.self.now in
    let room = c.deref_mut.result.now in
    let put = c.copy_from_slice.new.self in
    let from = c.args.from.now in
    let position = c.in-Some.position in
    let sectors = length from / 512 in
    let at = position * 512 in
    let k = at + length from - at in
    let all = c.max-self.result in
    let size : length from ≡ 512 * sectors = omega (arith, c.if-sectors-from.false) in
    let fits : 512 * all ≤ length room = omega (arith, held.fits, c.deref_mut.ensures.len, c.max-self.ensures, c.saturating_sub-room.ensures, c.len.ensures, c.if-sectors-room.false) in
    let starts : (held.count ≡ 0) ⊎ (c.if-self-eq0.first ≡ held.first) = elim c.if-self-eq0.branch [
      | then-self-eq0 w ↦ inl (omega (arith, w.if-self-eq0))
      | else-self-eq0 w ↦ inr w.first-is
    ] in
    λ content is.
    taken held.room.len k position sectors held.first held.count c.if-self-eq0.first all c.args.sector room put
    (drop (length (put_mid at k room put)) held.room.items) held.room.items from content
    (sym c.deref_mut.ensures.len) (omega (arith, fits, c.deref_mut.ensures.len)) c.deref_mut.ensures.value
    c.copy_from_slice.ensures.after (omega arith)
    (omega arith)
    (omega (arith, c.in-Some.ensures)) (omega (arith, c.if-position-self.false)) starts
    (omega (arith, c.max-self.ensures)) (omega (arith, c.max-self.ensures))
    (elim (cases_lt held.count (position + sectors)) [
      | inl l ↦ inr (omega (arith, c.max-self.ensures))
      | inr r ↦ inl (omega (arith, c.max-self.ensures))
    ])
