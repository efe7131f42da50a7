-- Facts on the outcome of a call.
use Rattle.std.specs.Prelude.{Result, Ok, Err, OnOk, OnErr, is_err}
use Rattle.std.proofs.Common.{◌≡◌, Bool, true, false}

-- a fact holds for an outcome where it holds anyway
pub on_err : {T E P : Type 0} (r : Result T E) → P → OnErr r P
on_err (Ok x) p = tt
on_err (Err e) p = p

pub on_ok : {T E P : Type 0} (r : Result T E) → P → OnOk r P
on_ok (Ok x) p = p
on_ok (Err e) p = tt

-- what a test of an outcome tells
pub unless_err : {T E P : Type 0} (r : Result T E) (b : Bool) → b ≡ false → b ≡ is_err r → OnOk r P → P
unless_err (Ok x) b h k p = p
unless_err (Err e) b h k p = absurd (cc)

pub where_err : {T E P : Type 0} (r : Result T E) (b : Bool) → b ≡ true → b ≡ is_err r → OnErr r P → P
where_err (Ok x) b h k p = absurd (cc)
where_err (Err e) b h k p = p
