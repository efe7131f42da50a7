use Rattle.std.proofs.Common.{◌≡◌, true, ap, subst, sym, ◌∙◌}
use Rattle.image_device.specs.Image.{Image}
use Rattle.image_world.specs.Faults.{IsFormatGateOpen}
use Rattle.image_probe.specs.Tested.{IsTested}
use Rattle.image_probe.proofs.StillCalls.{settled_formatted, tested_by}
use Rattle.intent_journal.specs.Records.{has_valid_records}
use Rattle.image_probe.proofs.testing.test_over.Goals as goal

pub test_tables-tested-requires-clause-formatted : goal.test_tables-tested-requires-clause-formatted
test_tables-tested-requires-clause-formatted g c told =
    let view = g.P.Sides.view in
    let x = (view c.new-settled.result.first.sides).first.reads in
    let same : x ≡ (view c.new-first.result.sides).first.reads =
    ap (λ f. (view f.sides).first.reads) c.new-settled.ensures.first ∙ (c.read_head.ensures.rests told).reads in
    settled_formatted x (subst IsFormatGateOpen (sym same) (c.in-Ok.ensures.head told).formatted)

pub returns-clause-tested : goal.returns-clause-tested
returns-clause-tested g c told =
    let view = g.P.Sides.view in
    let x = (view c.new-settled.result.first.sides).first.reads in
    let r = c.test_tables-tested.result in
    let same : x ≡ (view c.new-first.result.sides).first.reads =
    ap (λ f. (view f.sides).first.reads) c.new-settled.ensures.first ∙ (c.read_head.ensures.rests told).reads in
    let given : (view c.new-first.result.sides).first.reads ≡ (view c.args.sides).first.reads =
    ap (λ s. (view s).first.reads) c.new-first.ensures.sides in
    let valid = subst (λ (y : Image). has_valid_records y ≡ true) (sym same) (c.in-Ok.ensures.head told).journal in
    subst (λ (y : Image). IsTested y r) (same ∙ given) (tested_by x valid r (c.test_tables-tested.ensures.tested told))
