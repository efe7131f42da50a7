use Rattle.std.proofs.Common.{◌≡◌, sym, ◌∙◌}
use Rattle.intent_journal.proofs.Common.{Image}
use Rattle.intent_journal.proofs.Bodies.{record_added}
use Rattle.intent_journal.proofs.replay.read_record.Goals as goal

pub returns-clause-more : goal.returns-clause-more
returns-clause-more g c told =
    let view = g.D.Device.view in
    let v = view c.args.dev.now in
    let mid : Image = (view c.is_gate_open.new.dev).reads in
    let late : Image = (view c.read_homes.new.dev).reads in
    let first : mid ≡ v.reads = (c.is_gate_open.ensures.rests told).reads in
    let second : late ≡ v.reads = (c.read_homes.ensures.rests told).reads ∙ first in
    let both = record_added v.reads mid late c.args.index c.len.result c.args.patches.now c.in_ok-homes.homes.items c.as_slice.result.now c.read_bodies.new.patches first second c.len.ensures.value c.as_slice.ensures.value
    (c.in_ok-homes.ensures.valid told) (c.in_ok-read_bodies.ensures.read told) in
    λ yes. (sym (c.in_ok-is_gate_open.ensures.gate told) ∙ c.if-not-branch.false, both.0, both.1)
