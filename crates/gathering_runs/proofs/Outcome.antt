-- What the outcome of a call tells.
use Rattle.std.proofs.Common.{◌≡◌, ◌⊎◌, inl, inr, ℕ, refl, sym, ◌∙◌, ap, subst}
use Rattle.std.specs.Prelude.{Result, Ok, Err, OnOk, OnErr, IfOk, IfErr}
use Rattle.std.specs.Result.{result_unwrap_or}
use Rattle.image_device.specs.Counts.{CountsFaultOf, Rose}
use Rattle.image_device.specs.View.{View}
use Rattle.tsd_words.specs.declared.status.Status.{Status}
use Rattle.tsd_words.specs.declared.status.Status.TheVariants as status
use Rattle.serving.specs.Faults.{TellsFaults}
use Rattle.gathering_runs.specs.Turns.{StopsBy}

pub ok_is : {T E P : Type 0} (r : Result T E) (x : T) → r ≡ Ok x → OnOk r P → P
ok_is (Ok y) x is p = p
ok_is (Err e) x is p = absurd (cc)

pub err_is : {T E P : Type 0} (r : Result T E) (x : E) → r ≡ Err x → OnErr r P → P
err_is (Ok y) x is p = absurd (cc)
err_is (Err e) x is p = p

pub ok_or_err : {T E : Type 0} (r : Result T E) → ((x : T) × (r ≡ Ok x)) ⊎ ((x : E) × (r ≡ Err x))
ok_or_err (Ok y) = inl (y, refl)
ok_or_err (Err e) = inr (e, refl)

-- a call that went well left each count of faults
pub counts_ok : {T E : Type 0} (why : E) (r : Result T E) (x : T) (before now : ℕ) → r ≡ Ok x → CountsFaultOf why r before now → now ≡ before
counts_ok why (Ok y) x before now is counts = counts.1 (λ e. cc)
counts_ok why (Err e) x before now is counts = absurd (cc)

pub err_is_if : {T E : Type 0} (P : E → Type 0) (r : Result T E) (x : E) → r ≡ Err x → IfErr r P → P x
err_is_if P (Ok y) x is p = absurd (cc)
err_is_if P (Err e) x is p = subst (λ y. P y) (err_same e x is) p
  where
    err_same : {T E : Type 0} (a b : E) → ◌≡◌ {A = Result T E} (Err a) (Err b) → a ≡ b
    err_same a b same = cc

pub ok_is_if : {T E : Type 0} (P : T → Type 0) (r : Result T E) (x : T) → r ≡ Ok x → IfOk r P → P x
ok_is_if P (Ok y) x is p = subst (λ z. P z) (ok_same y x is) p
  where
    ok_same : {T E : Type 0} (a b : T) → ◌≡◌ {A = Result T E} (Ok a) (Ok b) → a ≡ b
    ok_same a b same = cc
ok_is_if P (Err e) x is p = absurd (cc)

-- A call stopped that takes from no source, and until then no count rose: what its counts tell.
pub stopped_faults : {T : Type 0} (r : Result T Status) (why : Status) (before now : ℕ) (old mid new : View)
    → r ≡ Err why → IfErr r StopsBy → now ≡ before → mid.faults ≡ old.faults → mid.put_faults ≡ old.put_faults
    → CountsFaultOf status.DeviceFault r mid.faults new.faults
    → CountsFaultOf status.PutFault r mid.put_faults new.put_faults → TellsFaults why before now old new
stopped_faults r why before now old mid new is stops taken faults put_faults device put = record {
  source_fault = λ e. absurd (none_of_source why (err_is_if StopsBy r why is stops) e);
  no_source_fault = λ other. taken;
  port = record {
    device_fault = λ e. subst (λ (n : ℕ). Rose n new.faults) faults (device.0 (is ∙ ap (λ w. Err w) e));
    put_fault = λ e. subst (λ (n : ℕ). Rose n new.put_faults) put_faults (put.0 (is ∙ ap (λ w. Err w) e));
    no_device_fault = λ other. device.1 (λ e. other (err_same _ _ (sym is ∙ e))) ∙ faults;
    no_put_fault = λ other. put.1 (λ e. other (err_same _ _ (sym is ∙ e))) ∙ put_faults;
  };
}
  where
    none_of_source : (w : Status) → StopsBy w → w ≡ status.SourceFault → ⊥
    none_of_source w (inl e) same = absurd (cc)
    none_of_source w (inr (inl e)) same = absurd (cc)
    none_of_source w (inr (inr e)) same = absurd (cc)

    err_same : {S : Type 0} (a b : Status) → ◌≡◌ {A = Result S Status} (Err a) (Err b) → a ≡ b
    err_same a b same = cc

-- what is taken out of a call that went well
pub ok_by : {T E : Type 0} (r : Result T E) (b u other : T) → r ≡ Ok b → u ≡ result_unwrap_or r other → r ≡ Ok u
ok_by (Ok x) b u other is value = ap (λ y. Ok y) (sym value)
ok_by (Err e) b u other is value = absurd (cc)

pub on_ok : {T E P R : Type 0} (r : Result T E) → (P → R) → OnOk r P → OnOk r R
on_ok (Ok x) f p = f p
on_ok (Err e) f p = tt

pub if_ok_then : {T E : Type 0} {P R : T → Type 0} (r : Result T E) → ((x : T) → P x → R x) → IfOk r P → IfOk r R
if_ok_then (Ok x) f p = f x p
if_ok_then (Err e) f p = tt
