-- What a slot for one boxed value owns: nothing at null, and else the value with the right to free its block. Assumes
-- nothing: these are definitions.
use Rattle.std.specs.Prelude.{Option, None, Some}
use mir.Syntax.{Ty}
use base.Fml.{Fml, feq}
use denote.RattleType.{RattleType}
use denote.RawPtr.{Ptr, null_ptr}
use Rattle.std.specs.Box.Ownership.{box_owns}

abbrev pub slot_owns : (Ty → Ptr → Fml) → (R : RattleType) → Ptr → Option R.Denot → Fml
slot_owns holds R p None = feq Ptr p null_ptr
slot_owns holds R p (Some x) = box_owns holds R p x
