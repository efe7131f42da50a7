use Rattle.std.proofs.Common.{◌≡◌, ◌<◌, ◌≤◌, length, take, sym, ◌∙◌, ap, arith, slice_get, slice_index_or, Some, true, false, refl, take_all}
use Rattle.chain_reading.proofs.Common.{Name, name_lt, eqb-true}
use Rattle.chain_reading.specs.Nexts.{with_name}
use Rattle.chain_reading.proofs.PutLaws.{comes_here, comes_last, goes_on, not_pushed, pushed, room_left, stands_at, stands_here}
use Rattle.chain_reading.proofs.listing.put_name.Goals as goal

pub bounds-as_slice-position : goal.bounds-as_slice-position
bounds-as_slice-position c =
    let same = ap (λ xs. length xs) c.loop-position.invariant.0 in
    let value = ap (λ xs. length xs) c.as_slice.ensures.value in
    omega (arith, c.loop-position-test.true, c.len-position-end.ensures.value, same, value)

pub put_at-requires : goal.put_at-requires
put_at-requires c = let same = ap (λ xs. length xs) c.loop-position.invariant.0 in omega (arith, c.loop-position-test.true, c.len-position-end.ensures.value, same)

pub returns-then-is_below : goal.returns-then-is_below
returns-then-is_below c =
    let m = c.args.name in
    let xs = c.loop-position.into.items in
    let p = c.loop-position.position in
    let n = c.index-as_slice-position.result in
    let same = c.loop-position.invariant.0 in
    let long = ap (λ ys. length ys) same in
    let at : slice_get xs p ≡ Some n = stands_at xs p n n (omega (arith, c.loop-position-test.true, c.len-position-end.ensures.value, long)) (c.index-as_slice-position.is ∙ ap (λ ys. slice_index_or ys p n) c.as_slice.ensures.value) in
    let tested : c.is_below.result ≡ name_lt m n = c.is_below.ensures ∙ (ap (λ x. name_lt x c.as_slice-other.result.now) c.as_slice-in-loop-position.ensures.value ∙ ap (name_lt m) c.as_slice-other.ensures.value) in
    c.put_at.ensures ∙ (ap (take 64) (sym (comes_here m xs p c.loop-position.invariant.1 n at (sym tested ∙ c.if-is_below.true))) ∙ ap (λ ys. take 64 (with_name m ys)) same)

pub returns-then-not-is_below : goal.returns-then-not-is_below
returns-then-not-is_below c =
    let m = c.args.name in
    let xs = c.loop-position.into.items in
    let p = c.loop-position.position in
    let n = c.index-as_slice-position.result in
    let same = c.loop-position.invariant.0 in
    let long = ap (λ ys. length ys) same in
    let value = ap (λ ys. length ys) c.as_slice.ensures.value in
    let at : slice_get xs p ≡ Some n = stands_at xs p n n (omega (arith, c.loop-position-test.true, c.len-position-end.ensures.value, long)) (c.index-as_slice-position.is ∙ ap (λ ys. slice_index_or ys p n) c.as_slice.ensures.value) in
    let tested : c.is_below.result ≡ name_lt m n = c.is_below.ensures ∙ (ap (λ x. name_lt x c.as_slice-other.result.now) c.as_slice-in-loop-position.ensures.value ∙ ap (name_lt m) c.as_slice-other.ensures.value) in
    let other : c.is_below-in-loop-position.result ≡ name_lt n m = c.is_below-in-loop-position.ensures ∙ (ap (λ x. name_lt x c.as_slice-in-loop-position-2.result.now) c.as_slice-other.ensures.value ∙ ap (name_lt n) c.as_slice-in-loop-position-2.ensures.value) in
    sym (take_all 64 xs (omega (arith, c.as_slice.ensures.fits, value)))
    ∙ (ap (take 64) (sym (stands_here m xs p c.loop-position.invariant.1 n at (sym tested ∙ c.if-is_below.false) (sym other ∙ c.if-not-is_below.true))) ∙ ap (λ ys. take 64 (with_name m ys)) same)

pub loop-position-preserved : goal.loop-position-preserved
loop-position-preserved c =
    let m = c.args.name in
    let xs = c.loop-position.into.items in
    let p = c.loop-position.position in
    let n = c.index-as_slice-position.result in
    let same = c.loop-position.invariant.0 in
    let long = ap (λ ys. length ys) same in
    let at : slice_get xs p ≡ Some n = stands_at xs p n n (omega (arith, c.loop-position-test.true, c.len-position-end.ensures.value, long)) (c.index-as_slice-position.is ∙ ap (λ ys. slice_index_or ys p n) c.as_slice.ensures.value) in
    let tested : c.is_below.result ≡ name_lt m n = c.is_below.ensures ∙ (ap (λ x. name_lt x c.as_slice-other.result.now) c.as_slice-in-loop-position.ensures.value ∙ ap (name_lt m) c.as_slice-other.ensures.value) in
    let other : c.is_below-in-loop-position.result ≡ name_lt n m = c.is_below-in-loop-position.ensures ∙ (ap (λ x. name_lt x c.as_slice-in-loop-position-2.result.now) c.as_slice-other.ensures.value ∙ ap (name_lt n) c.as_slice-in-loop-position-2.ensures.value) in
    (same, goes_on m xs p c.loop-position.invariant.1 n at (sym tested ∙ c.if-is_below.false) (sym other ∙ c.if-not-is_below.false))

pub returns-then-is_full : goal.returns-then-is_full
returns-then-is_full c =
    let m = c.args.name in
    let xs = c.loop-position.into.items in
    let p = c.loop-position.position in
    let same = c.loop-position.invariant.0 in
    let long = ap (λ ys. length ys) same in
    let last = comes_last m xs p c.loop-position.invariant.1 (omega (arith, c.loop-position-test.false, c.len-position-end.ensures.value, long)) in
    let full : length xs ≡ 64 = eqb-true (length xs) 64 (sym c.is_full.ensures.value ∙ c.if-is_full.true) in
    not_pushed xs m full ∙ (ap (take 64) (sym last) ∙ ap (λ ys. take 64 (with_name m ys)) same)

pub returns : goal.returns
returns c =
    let m = c.args.name in
    let xs = c.loop-position.into.items in
    let p = c.loop-position.position in
    let same = c.loop-position.invariant.0 in
    let long = ap (λ ys. length ys) same in
    let last = comes_last m xs p c.loop-position.invariant.1 (omega (arith, c.loop-position-test.false, c.len-position-end.ensures.value, long)) in
    pushed xs c.push.new.self.items m (room_left (length xs) c.is_full.ensures.fits (sym c.is_full.ensures.value ∙ c.if-is_full.false)) c.push.ensures.items ∙ (ap (take 64) (sym last) ∙ ap (λ ys. take 64 (with_name m ys)) same)
