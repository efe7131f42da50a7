-- The free blocks are counted, which changes nothing.
use Rattle.std.proofs.Common.{◌≡◌, ℕ, Bool, true, false, refl, sym, ◌∙◌, ap, subst, Result, Ok, Err}
use Rattle.fs_client.proofs.Common.{IfOk, IfErr, Rose, is_live, Fits, IsValid, answer, answer_valid, answer_fits, HoldsWrite, ways_stay, DiskView, state_of, Counts, IsAskCarriedOut, IsValidNow, LeavesWorldsOnly, Stays, OnAnswer, led_by, FsRefusal, Looked, OnlyLooks}
use Rattle.tsd_model.specs.declared.requests.Request.TheVariants as ask
use Rattle.tsd_model.specs.declared.replies.Reply.TheVariants as reply
use Rattle.fs_trees.specs.declared.refusal.FsRefusal.TheVariants as no
use Rattle.fs_client.proofs.MayLaws.{held_live}

pub free_same : (v : DiskView) (want : Bool) → (answer v.kind (state_of v) ask.GetFree want).state.world ≡ v.world
free_same v true = refl
free_same v false = refl

pub free_looked : (old new : DiskView) (n : ℕ) → IsValidNow old → IsAskCarriedOut old new ask.GetFree (reply.Free n) → Looked old new
free_looked old new n now done = record {
  world = ap (λ st. st.world) (sym done.1) ∙ free_same old done.0;
  valid = record {
    valid = subst (λ st. IsValid st.world) done.1 (answer_valid old.kind (state_of old) ask.GetFree done.0 now.valid);
    fits = subst (λ st. Fits st.world st.sessions) done.1 (answer_fits old.kind (state_of old) ask.GetFree done.0 now.valid now.fits);
  };
  ways = λ s a held. subst (λ st. HoldsWrite st s a) done.1
      (ways_stay old.kind (state_of old) ask.GetFree done.0 s a now.valid now.fits held refl (ap (λ w. is_live w a) (free_same old done.0) ∙ held_live old now s a held));
  led = led_by old new ask.GetFree (reply.Free n) refl done;
}

-- counting only looks, whatever came of it
pub free_looks : (told : Type 0) (old new : DiskView) (result : Result ℕ FsRefusal) → (told → IsValidNow old) → (told → IfOk result (λ n. IsAskCarriedOut old new ask.GetFree (reply.Free n)))
    → (told → IfErr result (λ e. e ≡ no.Device)) → (told → LeavesWorldsOnly old new (λ w. w ≡ old.world)) → OnAnswer result (Stays old new) → Counts old new → OnAnswer result (new.spent ≡ false)
    → OnAnswer result (new.faults ≡ old.faults) → IfErr result (λ e. e ≡ no.Device → new.spent ≡ true) → IfErr result (λ e. e ≡ no.Device → Rose old.faults new.faults) → OnlyLooks told old new result
free_looks told old new result valid step only crash stays counts unspent faultless spent cause = record {
  looked = λ t. seen result (step t) (only t) (valid t);
  crash = crash;
  stays = stays;
  counts = counts;
  unspent = unspent;
  faultless = faultless;
  cause = cause;
  spent = spent;
}
  where
    seen : (r : Result ℕ FsRefusal) → IfOk r (λ n. IsAskCarriedOut old new ask.GetFree (reply.Free n)) → IfErr r (λ e. e ≡ no.Device) → IsValidNow old → OnAnswer r (Looked old new)
    seen (Ok n) carried fault now = (free_looked old new n now carried, tt)
    seen (Err e) carried fault now = (tt, λ ne. absurd (ne fault))
