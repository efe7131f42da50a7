-- What an answer says of one that is known to be Ok.
use Rattle.std.proofs.Common.{◌≡◌, refl, subst, Result, Ok, Err}
use Rattle.volume_laws.proofs.Common.{IsErr, IsOk, OnOk, IfOk}

pub ok_here : {T E : Type 0} (r : Result T E) (P : Type 0) (v : T) → r ≡ Ok v → OnOk r P → P
ok_here {T = T} {E = E} r P v is h = subst (λ (x : Result T E). OnOk x P) is h

pub if_here : {T E : Type 0} (r : Result T E) (P : T → Type 0) (v : T) → r ≡ Ok v → IfOk r P → P v
if_here {T = T} {E = E} r P v is h = subst (λ (x : Result T E). IfOk x P) is h

pub ok_if : {T E : Type 0} (r : Result T E) → (IsErr r → ⊥) → IsOk r
ok_if (Ok v) never = refl
ok_if (Err e) never = absurd (never refl)
