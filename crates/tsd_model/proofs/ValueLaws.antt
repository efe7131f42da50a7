-- What truth values do with one that is known; what is there is one.
use Rattle.std.proofs.Common.{◌≡◌, Bool, true, false, ◌&&◌, ◌||◌, refl, Option, Some}

-- no value is both
pub clash : (t : Bool) → t ≡ true → t ≡ false → ⊥
clash t p q = cc

pub and_true : (t : Bool) → (t && true) ≡ t
and_true true = refl
and_true false = refl

pub and_false : (t : Bool) → (t && false) ≡ false
and_false true = refl
and_false false = refl

pub or_true : (t : Bool) → (t || true) ≡ true
or_true true = refl
or_true false = refl

pub or_false : (t : Bool) → (t || false) ≡ t
or_false true = refl
or_false false = refl

pub neither : (s t : Bool) → (s || t) ≡ false → (s ≡ false) × (t ≡ false)
neither true t e = absurd (cc)
neither false t e = (refl, e)

pub some_same : {X : Type 0} {x y : X} → Some x ≡ Some y → x ≡ y
some_same e = cc
