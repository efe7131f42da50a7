use Rattle.std.proofs.Common.{◌≡◌, ◌≤◌, ◌++◌, length, take, sym, ◌∙◌, ap, arith, slice_get, Some, take_all}
use Rattle.std.proofs.lemmas.List.{length-map}
use Rattle.chain_reading.proofs.Common.{name_lt, entry_names, entries_in}
use Rattle.chain_reading.specs.Nexts.{least_names, with_name}
use Rattle.chain_reading.proofs.PutLaws.{each_fits, put_more, put_none}
use Rattle.chain_reading.proofs.listing.put_names.Goals.{then-is_below, else-is_below}
use Rattle.chain_reading.proofs.listing.put_names.Goals as goal

pub loop-position-preserved : goal.loop-position-preserved
loop-position-preserved c = λ named ns is.
    let after = c.args.after.now in
    let all = entry_names (entries_in c.args.cluster.now) in
    let m = c.name-name.result.now in
    let xs = c.loop-position.into.items in
    let p = c.loop-position.position in
    let at : slice_get all p ≡ Some m = c.name-name.ensures in
    let so_far = c.loop-position.invariant named ns is in
    let tested : c.is_below.result ≡ name_lt after m = c.is_below.ensures ∙ ap (λ x. name_lt x m) c.as_slice.ensures.value in
    elim c.if-is_below.branch [
      | then-is_below w ↦
          put_more after m ns all xs p at so_far c.if-is_below.into.items (sym tested ∙ w.if-is_below.true)
          (ap (λ v. v.items) w.into-is ∙ (w.put_name.ensures ∙ ap (λ k. take 64 (with_name k xs)) (w.name_of.ensures (each_fits all p m named at))))
      | else-is_below w ↦ ap (λ v. v.items) w.into-is ∙ put_none after m ns all xs p at so_far (sym tested ∙ w.if-is_below.false)
    ]

pub returns : goal.returns
returns c = λ named ns is.
    let all = entry_names (entries_in c.args.cluster.now) in
    let p = c.loop-position.position in
    let long = length-map (entries_in c.args.cluster.now) (λ e. e.name) in
    c.loop-position.invariant named ns is ∙ ap (λ ys. least_names 64 c.args.after.now (ns ++ ys)) (take_all p all (omega (arith, c.loop-position-test.false, c.count-position-end.ensures.value, long)))
