use Rattle.std.proofs.Common.{◌≡◌, ◌+◌, ◌*◌, ◌-◌, ◌∙◌, [], length, not, sym, ap, subst, arith, ℕ}
use Rattle.tsd_model.specs.Verdict.{is_empty}
use Rattle.block_alloc.proofs.Common.{filter, range_with_len, is_free_run}
use Rattle.block_alloc.proofs.RunLaws.{none_by, none_past}
use Rattle.block_alloc.proofs.map.LiveMap.has_run.Goals as goal

pub loop-group-init : goal.loop-group-init
loop-group-init c =
    let live = c.args.self.now.unhidden in
    none_past (is_free_run live c.args.count) (length live) (256 * c.groups-group.result) (omega (arith, c.groups-group.ensures.last, c.groups-group.ensures.table.each_unhidden))

pub loop-group-preserved : goal.loop-group-preserved
loop-group-preserved c =
    let live = c.args.self.now.unhidden in
    let group = c.loop-group.group - 1 in
    let next : 256 * c.loop-group.group ≡ 256 * group + 256 = omega (arith, c.loop-group-test.true) in
    none_by (is_free_run live c.args.count) (length live) (256 * group) 256 (c.begins_in.ensures.none c.if-begins_in.false)
    (subst (λ (n : ℕ). filter (is_free_run live c.args.count) (range_with_len n (length live - n)) ≡ []) next c.loop-group.invariant)

pub returns-then-begins_in-clause-value : goal.returns-then-begins_in-clause-value
returns-then-begins_in-clause-value c = sym (ap not (c.begins_in.ensures.found c.if-begins_in.true))

pub returns-clause-value : goal.returns-clause-value
returns-clause-value c =
    let live = c.args.self.now.unhidden in
    let here : 256 * c.loop-group.group ≡ 0 = omega (arith, c.loop-group-test.false) in
    let size : length live - 0 ≡ length live = omega arith in
    let none = ap (λ (n : ℕ). filter (is_free_run live c.args.count) (range_with_len 0 n)) (sym size) ∙ subst (λ (n : ℕ). filter (is_free_run live c.args.count) (range_with_len n (length live - n)) ≡ []) here c.loop-group.invariant in
    sym (ap (λ bs. not (is_empty bs)) none)
