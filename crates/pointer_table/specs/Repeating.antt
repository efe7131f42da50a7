-- What comes of a search for repeated pairs in slots of which none is bad.
use Rattle.std.specs.Prelude.{ℕ, List, Option, Some, None, Result, Ok, Err, ⊤}
use Rattle.pointer_table.specs.Repeats.{IsLeastOfAll}
use Rattle.pointer_table.specs.Table.{Table, IsTable}
use Rattle.pointer_table.specs.declared.fault.TableFault.{TableFault}
use Rattle.pointer_table.specs.declared.fault.TableFault.TheVariants as fault

-- why they are no table
abbrev pub IsRefusal : List (Option (ℕ × ℕ)) → TableFault → Type 0
IsRefusal slots fault.NoMemory = ⊤
IsRefusal slots fault.Device = ⊥
IsRefusal slots (fault.Slot k source target) = ⊥
IsRefusal slots (fault.Repeated a b) = IsLeastOfAll slots (Some (a, b))

abbrev pub IsRepeating : List (Option (ℕ × ℕ)) → Result Table TableFault → Type 0
IsRepeating slots (Ok t) = IsTable t × IsLeastOfAll slots None
IsRepeating slots (Err e) = IsRefusal slots e
