use Rattle.std.proofs.Common.{◌≡◌, ◌+◌, [], ◌∷◌, length, refl, ap, ◌∙◌, arith}
use Rattle.pointer_table.proofs.Common.{length-append, all_slots}
use Rattle.pointer_table.proofs.RawLaws.{touched}
use Rattle.pointer_table.proofs.slots.touch.Goals as goal

pub loop-items-init : goal.loop-items-init
loop-items-init c = record { kept = c.requires.kept; same = refl }

pub push_reserved-requires : goal.push_reserved-requires
push_reserved-requires c = let enough = c.loop-items.invariant.kept.enough in let inside = c.requires.inside in omega arith

pub loop-items-smaller : goal.loop-items-smaller
loop-items-smaller c = let longer = c.push_reserved.ensures.len in omega arith

pub loop-items-preserved : goal.loop-items-preserved
loop-items-preserved c =
    let so_far = c.loop-items.invariant in
    let items = c.loop-items.items.items in
    let same_len = c.loop-items.items.ok.0 in
    let inside = c.requires.inside in
    let longer : length c.push_reserved.new.self.items ≡ length items + 1 = ap length c.push_reserved.ensures.items ∙ length-append items (record { source = 0; target = 0 } ∷ []) in
    record {
      kept = record {
        few = so_far.kept.few;
        within = omega arith;
        enough = (let enough = so_far.kept.enough in let room = c.push_reserved.ensures.capacity in omega arith);
      };
      same = ap (all_slots c.args.count) c.push_reserved.ensures.items ∙ (touched c.args.count items (omega arith) ∙ so_far.same);
    }

pub returns-clause-kept : goal.returns-clause-kept
returns-clause-kept c = c.loop-items.invariant.kept

pub returns-clause-same : goal.returns-clause-same
returns-clause-same c = c.loop-items.invariant.same
