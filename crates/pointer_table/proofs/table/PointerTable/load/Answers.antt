use Rattle.pointer_table.proofs.TableLaws.{load_answers}
use Rattle.pointer_table.proofs.table.PointerTable.load.Goals as goal

pub returns-clause-read : goal.returns-clause-read
returns-clause-read g c told =
    load_answers (g.D.Device.view c.args.dev.now).reads c.args.geometry.now c.read_slots.new.slots c.of_slots.result c.in_ok-read_slots.ensures.all
    (c.in_ok-read_slots.ensures.read told) c.of_slots.ensures.table c.of_slots.ensures.repeated
