use Rattle.pointer_table.proofs.TableLaws.{batch_stored}
use Rattle.pointer_table.proofs.laws.patches_keep_the_slots.Goals as goal

pub returns : goal.returns
returns c = record { many = batch_stored }
