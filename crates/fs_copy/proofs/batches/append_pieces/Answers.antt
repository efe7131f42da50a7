use Rattle.std.proofs.Common.{◌≡◌, ◌<◌, length, refl, ◌∙◌, ap, arith, slice_index_or}
use Rattle.fs_copy.proofs.BatchLaws.{append_end, append_lost, append_next, append_target, none_appended}
use Rattle.fs_copy.proofs.batches.append_pieces.Goals as goal

pub loop-position-init : goal.loop-position-init
loop-position-init g c = none_appended c.args.path.now c.args.pieces.now.items c.requires.set (g.met.K.Blocks.sound c.args.disk.now)

pub bounds-as_slice-position : goal.bounds-as_slice-position
bounds-as_slice-position g c = let value = ap length c.as_slice.ensures.value in omega (arith, c.loop-position-test.true, c.len-position-end.ensures.value, value)

pub append-requires : goal.append-requires
append-requires g c =
    let target = append_target c.loop-position.invariant in
    record { ready = target.ready; valid = target.valid; tree = λ t _. target.there t }

pub returns-in-Err : goal.returns-in-Err
returns-in-Err g c =
    let here = c.loop-position.invariant in
    let lost = c.in-Err.ensures in
    let items = c.args.pieces.now.items in
    let inside : c.loop-position.position < length items = omega (arith, c.loop-position-test.true, c.len-position-end.ensures.value) in
    let n = c.index-as_slice-position.result in
    let is : c.bytes.result.now ≡ slice_index_or items c.loop-position.position n = c.bytes.ensures ∙ (c.index-as_slice-position.is ∙ ap (λ ys. slice_index_or ys c.loop-position.position n) c.as_slice.ensures.value) in
    record { goes = append_lost here n inside is (g.met.K.Blocks.sound c.loop-position.disk) (g.met.K.Blocks.sound c.append.new.disk) lost.answer lost.changes refl; same = lost.same ∙ here.into_same }

pub loop-position-preserved : goal.loop-position-preserved
loop-position-preserved g c =
    let here = c.loop-position.invariant in
    let next = c.in-Ok.ensures in
    let items = c.args.pieces.now.items in
    let inside : c.loop-position.position < length items = omega (arith, c.loop-position-test.true, c.len-position-end.ensures.value) in
    let n = c.index-as_slice-position.result in
    let is : c.bytes.result.now ≡ slice_index_or items c.loop-position.position n = c.bytes.ensures ∙ (c.index-as_slice-position.is ∙ ap (λ ys. slice_index_or ys c.loop-position.position n) c.as_slice.ensures.value) in
    append_next here n inside is (g.met.K.Blocks.sound c.loop-position.disk) (g.met.K.Blocks.sound c.append.new.disk) next.answer next.changes refl next.same

pub returns : goal.returns
returns g c =
    let here = c.loop-position.invariant in
    record { goes = append_end here (omega (arith, c.loop-position-test.false, c.len-position-end.ensures.value)); same = here.into_same }
