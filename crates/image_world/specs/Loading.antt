-- What a loading answers.
use Rattle.std.specs.Prelude.{Result, Ok, Err, ⊤}
use Rattle.image_layout.specs.declared.header.Header.{Header}
use Rattle.image_layout.specs.Image.{Image}
use Rattle.image_world.specs.Faults.{AreRight, IsTableFault}
use Rattle.image_world.specs.declared.fault.LoadFault.{LoadFault}
use Rattle.image_world.specs.declared.fault.LoadFault.TheVariants as fault
use Rattle.image_world.specs.declared.tables.ImageTables.{ImageTables}
use Rattle.image_world.specs.Loaded.{AreStored}

-- Where neither memory nor the device is at fault, each answer comes exactly where its line holds, since no two of them
-- hold together: the tables where the tests of slots, primary blocks, ends and counts pass, else the first of these
-- tests that fails, with what fails it.
abbrev pub AnswersTables : Image → Header → Result ImageTables LoadFault → Type 0
AnswersTables x h (Ok t) = AreRight x h.geometry × AreStored h t x
AnswersTables x h (Err fault.NoMemory) = ⊤
AnswersTables x h (Err fault.Device) = ⊤
AnswersTables x h (Err (fault.Image why)) = IsTableFault x h.geometry why
