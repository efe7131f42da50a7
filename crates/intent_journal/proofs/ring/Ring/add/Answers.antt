use Rattle.std.proofs.Common.{List, sym, ◌∙◌, ap, subst}
use Rattle.intent_journal.proofs.Common.{says_open, gate_sector, Patch, JournalRecord, IsRingAt}
use Rattle.intent_journal.proofs.Committing.{IsAdded, record_run, record_named, record_filled, writing, opening, added}
use Rattle.intent_journal.proofs.ring.Ring.add.Given
use Rattle.intent_journal.proofs.ring.Ring.add.Goals as goal

pub returns-in_err-write_record-clause-any_moment : goal.returns-in_err-write_record-clause-any_moment
returns-in_err-write_record-clause-any_moment g c told =
    let view = g.D.Device.view in
    let rs : List JournalRecord = c.args.self.now in
    let b : List Patch = c.args.batch.now in
    let v = view c.args.dev.now in
    let v1 = view c.write_record.new.dev in
    let run = record_run rs b v v1 c.records.result c.bodies.result c.records.ensures.value c.bodies.ensures (c.write_record.ensures.confined told) in
    writing rs b v (c.requires.at told) c.records.ensures.ring c.write_record.ensures.batch c.requires.some c.requires.room v1 run

pub returns-in_err-write_through-clause-any_moment : goal.returns-in_err-write_through-clause-any_moment
returns-in_err-write_through-clause-any_moment g c told =
    let view = g.D.Device.view in
    let rs : List JournalRecord = c.args.self.now in
    let b : List Patch = c.args.batch.now in
    let v = view c.args.dev.now in
    let v1 = view c.write_record.new.dev in
    let run = record_run rs b v v1 c.records.result c.bodies.result c.records.ensures.value c.bodies.ensures (c.write_record.ensures.confined told) in
    let named = record_named rs b v1 c.records.result c.records.ensures.value (c.in_ok-write_record.ensures.descriptor told) in
    let filled = record_filled rs b v1 c.bodies.result c.bodies.ensures (c.in_ok-write_record.ensures.bodies told) in
    opening rs b v (c.requires.at told) c.records.ensures.ring c.write_record.ensures.batch c.requires.some c.requires.room v1 run (c.in_ok-write_record.ensures.firm told) named filled (view c.write_through.new.dev) c.gate_sector.result (c.gate_sector.ensures.value ∙ ap gate_sector c.records-2.ensures.value) (c.write_through.ensures.confined told)

added_now : (g : Given.Over) (c : goal.After-keep g) → g.D.Device.told → IsAdded c.args.self.now c.args.batch.now (g.D.Device.view c.args.dev.now) (g.D.Device.view c.write_through.new.dev)
added_now g c told =
    let view = g.D.Device.view in
    let rs : List JournalRecord = c.args.self.now in
    let b : List Patch = c.args.batch.now in
    let v = view c.args.dev.now in
    let v1 = view c.write_record.new.dev in
    let run = record_run rs b v v1 c.records.result c.bodies.result c.records.ensures.value c.bodies.ensures (c.write_record.ensures.confined told) in
    let named = record_named rs b v1 c.records.result c.records.ensures.value (c.in_ok-write_record.ensures.descriptor told) in
    let filled = record_filled rs b v1 c.bodies.result c.bodies.ensures (c.in_ok-write_record.ensures.bodies told) in
    let gate = c.in_ok-write_through.ensures.written told in
    added rs b v (c.requires.at told) c.records.ensures.ring c.write_record.ensures.batch c.requires.some c.requires.room v1 run (c.in_ok-write_record.ensures.firm told) named filled
    (view c.write_through.new.dev) c.gate_sector.result (c.gate_sector.ensures.value ∙ ap gate_sector c.records-2.ensures.value) (c.write_through.ensures.confined told)
    (gate ∙ c.gate_bytes.ensures.value) (ap says_open gate ∙ c.gate_bytes.ensures.reads_back) (c.in_ok-write_through.ensures.firm told)

pub returns-clause-any_moment : goal.returns-clause-any_moment
returns-clause-any_moment g c told = (added_now g c told).any_moment

pub returns-clause-done : goal.returns-clause-done
returns-clause-done g c told = (added_now g c told).done

pub returns-clause-at : goal.returns-clause-at
returns-clause-at g c told =
    subst (λ (l : List JournalRecord). IsRingAt l (g.D.Device.view c.write_through.new.dev)) (sym c.keep.ensures) (added_now g c told).at

pub returns-clause-sent : goal.returns-clause-sent
returns-clause-sent g c told = (added_now g c told).sent

pub returns-clause-written : goal.returns-clause-written
returns-clause-written g c told = (added_now g c told).written
