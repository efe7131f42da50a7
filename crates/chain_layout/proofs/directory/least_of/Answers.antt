use Rattle.std.proofs.Common.{◌≡◌, ◌*◌, ◌-◌, ◌+◌, sym, ◌∙◌, ap, arith}
use Rattle.std.specs.Prelude.{drop}
use Rattle.fs_trees.specs.Fields.{entries, entry_names}
use Rattle.chain_layout.specs.Listed.{name_in, lesser, if_above, least_above}
use Rattle.chain_layout.proofs.PlaceLaws.{least_goes_on, one_above, lesser-assoc, lesser-none}
use Rattle.chain_layout.proofs.directory.least_of.Goals as goal

pub returns : goal.returns
returns c =
    let n = c.args.after.now in
    let xs = c.args.list.now in
    let i = c.loop-position.position in
    let none : c.args.count - i ≡ 0 = omega (arith, c.loop-position-test.false) in
    sym (c.loop-position.invariant ∙ (ap (λ k. lesser c.loop-position.least (least_above n (entry_names (entries k (drop (32 * i) xs))))) none ∙ lesser-none c.loop-position.least))

pub loop-position-preserved : goal.loop-position-preserved
loop-position-preserved c =
    let n = c.args.after.now in
    let xs = c.args.list.now in
    let i = c.loop-position.position in
    let later = least_above n (entry_names (entries (c.args.count - (i + 1)) (drop (32 * (i + 1)) xs))) in
    let now = c.lesser-least.ensures ∙ ap (lesser c.loop-position.least) (c.next_name.ensures ∙ one_above n xs (32 * i)) in
    c.loop-position.invariant ∙ (ap (lesser c.loop-position.least) (least_goes_on xs c.args.count i (omega arith) n)
    ∙ (sym (lesser-assoc c.loop-position.least (if_above n (name_in xs i)) later) ∙ ap (λ m. lesser m later) (sym now)))
