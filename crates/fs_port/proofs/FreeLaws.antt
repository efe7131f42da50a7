-- The free blocks are counted: the world stays valid, and the sessions fit it.
use Rattle.std.proofs.Common.{subst}
use Rattle.tsd_model.specs.Sessions.{Fits}
use Rattle.tsd_model.specs.Step.{State}
use Rattle.tsd_model.specs.Valid.{IsValid}
use Rattle.tsd_model.specs.declared.requests.Request.TheVariants as ask
use Rattle.tsd_model.specs.declared.replies.Reply.{Reply}
use Rattle.disk_laws.proofs.RunLaws.{answer_valid, answer_fits}
use Rattle.fs_port.specs.View.{DiskView, state_of}
use Rattle.fs_port.specs.Calls.{IsAskCarriedOut, IsValidNow}

pub free_keeps : (old new : DiskView) (r : Reply) → IsValidNow old → IsAskCarriedOut old new ask.GetFree r → IsValidNow new
free_keeps old new r now done = record {
  valid = subst (λ (st : State). IsValid st.world) done.1 (answer_valid old.kind (state_of old) ask.GetFree done.0 now.valid);
  fits = subst (λ (st : State). Fits st.world st.sessions) done.1 (answer_fits old.kind (state_of old) ask.GetFree done.0 now.valid now.fits);
}
