-- What was sent where a run stopped.
use Rattle.std.proofs.Common.{◌≡◌, ◌⊎◌, inl, inr, ℕ, List, [], ◌++◌, refl, sym, ◌∙◌, ap, subst, append_assoc, append-nil}
use Rattle.std.proofs.Math.Logic.{∥∥₁_elim}
use Rattle.std.proofs.lemmas.List.{append_cancel_left}
use Rattle.std.specs.Coded.{coded_ℕ, coded_list}
use base.Stored.{Coded-set}
use Rattle.std.specs.Prelude.{Result, Err}
use Rattle.image_device.specs.Runs.{LeavesOnly}
use Rattle.image_device.specs.View.{View, IsPart, IsSound}
use Rattle.image_device.proofs.Moments.{ends_in}
use Rattle.gathering.specs.Left.{IsLeftAtStart, IsSentBetween, moment_of}
use Rattle.gathering.specs.declared.flush.FlushFault.{FlushFault}
use Rattle.gathering.specs.declared.flush.FlushFault.TheVariants as fault
use Rattle.tsd_words.specs.declared.status.Status.{Status}
use Rattle.tsd_words.specs.declared.status.Status.TheVariants as status
use Rattle.serving.specs.Runs.{IsBroken, Run, Served, texts}
use Rattle.serving.specs.Service.{IsCounted, Service}
use Rattle.serving.proofs.Runs.{broken}
use Rattle.gathering_runs.specs.Sent.{IsSentBy, IsSentInPart, IsSentWhole, SentInGroups}
use Rattle.gathering_runs.specs.Turns.{StopsBy, status_by}
use Rattle.gathering_runs.proofs.Joined.{run_joined, served_joined, served_none}
use Rattle.serving.proofs.Runs.{texts-append}

bytes_set : IsSet (List ℕ)
bytes_set = Coded-set (coded_list coded_ℕ)

-- where nothing of a group was sent, by the outcome of its flush
pub unsent_by : {T P : Type 0} (r : Result T FlushFault) (e : FlushFault) → r ≡ Err e → ((r ≡ Err fault.Device) ⊎ (r ≡ Err fault.Room) → P) → (e ≡ fault.Device) ⊎ (e ≡ fault.Room) → P
unsent_by r e is here (inl device) = here (inl (is ∙ ap (λ x. Err x) device))
unsent_by r e is here (inr room) = here (inr (is ∙ ap (λ x. Err x) room))

-- a group that was given up sent nothing
pub sent_given_up : (start new : View) → IsSound new → ∥ LeavesOnly start new (IsLeftAtStart (moment_of start)) ∥₁ → new.sent ≡ start.sent
sent_given_up start new sound leaves =
    let prop : IsProp (new.sent ≡ start.sent) = hlevel bytes_set in
    ∥∥₁_elim leaves prop (λ (l : LeavesOnly start new (IsLeftAtStart (moment_of start))). (ends_in start new (IsLeftAtStart (moment_of start)) sound l).1)

module _ {Q : Type 0} (k : Service Q) where
  -- these were answered, and their answers sent whole
  pub whole_of : (s t : k.States) (before now : List ℕ) (qs more : List Q) → Served k s before qs t now → IsSentWhole k s before (qs ++ more) now
  whole_of s t before now qs more served = record { answered = qs; rest = more; parts = refl; state = t; served = served }

  pub part_of : (s : k.States) (before now : List ℕ) (qs : List Q) → IsSentWhole k s before qs now → IsSentInPart k s before qs now
  part_of s before now qs w = record {
    answered = w.answered;
    rest = w.rest;
    parts = w.parts;
    answers = w.served.answers;
    state = w.state;
    run = w.served.run;
    sent = record { front = texts w.served.answers; back = []; sent = w.served.sent; whole = sym (append-nil (texts w.served.answers)) };
  }

  by_whole : (why : Status) (s : k.States) (before now : List ℕ) (qs : List Q) → IsSentWhole k s before qs now → IsSentBy why k s before qs now
  by_whole why s before now qs w = record { part = part_of s before now qs w; whole = λ other. w }

  -- nothing more was sent behind the answers to these
  pub sent_served : (why : Status) (s t : k.States) (before mid now : List ℕ) (qs : List Q) → Served k s before qs t mid → now ≡ mid → IsSentBy why k s before qs now
  sent_served why s t before mid now qs served same =
      subst (λ l. IsSentBy why k s before l now) (append-nil qs)
      (by_whole why s before now (qs ++ []) (whole_of s t before now qs [] (subst (λ l. Served k s before qs t l) (sym same) served)))

  -- nothing was sent
  pub sent_none : (why : Status) (s : k.States) (before now : List ℕ) (qs : List Q) → now ≡ before → IsSentBy why k s before qs now
  sent_none why s before now qs same = by_whole why s before now qs (whole_of s s before now [] qs (subst (λ l. Served k s before [] s l) (sym same) (served_none k s before)))

  -- a put failed, inside the answers to these
  pub sent_part : (s t : k.States) (before now : List ℕ) (qs more : List Q) (answers : List (List ℕ)) → Run k s qs answers t → IsPart before (texts answers) now → IsSentBy status.PutFault k s before (qs ++ more) now
  sent_part s t before now qs more answers run part = record {
    part = record { answered = qs; rest = more; parts = refl; answers = answers; state = t; run = run; sent = part };
    whole = λ other. absurd (other refl);
  }

  -- more requests behind
  pub sent_longer : (why : Status) (s : k.States) (before now : List ℕ) (qs more : List Q) → IsSentBy why k s before qs now → IsSentBy why k s before (qs ++ more) now
  sent_longer why s before now qs more b = record {
    part = record { answered = b.part.answered; rest = b.part.rest ++ more; parts = ap (λ l. l ++ more) b.part.parts ∙ append_assoc b.part.answered b.part.rest more; answers = b.part.answers; state = b.part.state; run = b.part.run; sent = b.part.sent };
    whole = λ other. let w = b.whole other in
        record { answered = w.answered; rest = w.rest ++ more; parts = ap (λ l. l ++ more) w.parts ∙ append_assoc w.answered w.rest more; state = w.state; served = w.served };
  }

  -- behind the answers to those before
  pub sent_then : (why : Status) (s m : k.States) (before mid now : List ℕ) (qs more : List Q) → Served k s before qs m mid → IsSentBy why k m mid more now → IsSentBy why k s before (qs ++ more) now
  sent_then why s m before mid now qs more served b = record {
    part = record {
      answered = qs ++ b.part.answered;
      rest = b.part.rest;
      parts = ap (λ l. qs ++ l) b.part.parts ∙ sym (append_assoc qs b.part.answered b.part.rest);
      answers = served.answers ++ b.part.answers;
      state = b.part.state;
      run = run_joined k qs b.part.answered served.answers b.part.answers s m b.part.state served.run b.part.run;
      sent = record {
        front = texts served.answers ++ b.part.sent.front;
        back = b.part.sent.back;
        sent = b.part.sent.sent ∙ ap (λ l. l ++ b.part.sent.front) served.sent ∙ append_assoc before (texts served.answers) b.part.sent.front;
        whole = texts-append served.answers b.part.answers ∙ ap (λ l. texts served.answers ++ l) b.part.sent.whole ∙ sym (append_assoc (texts served.answers) b.part.sent.front b.part.sent.back);
      };
    };
    whole = λ other. let w = b.whole other in record {
      answered = qs ++ w.answered;
      rest = w.rest;
      parts = ap (λ l. qs ++ l) w.parts ∙ sym (append_assoc qs w.answered w.rest);
      state = w.state;
      served = served_joined k s m w.state before mid now qs w.answered served w.served;
    };
  }

  -- a flush failed, behind requests that were carried out in memory
  pub sent_flushed : (e : FlushFault) (s t : k.States) (start v new : View) (qs more : List Q) → Served k s start.sent qs t v.sent → ((e ≡ fault.Device) ⊎ (e ≡ fault.Room) → new.sent ≡ start.sent) → (e ≡ fault.Put → IsSentBetween start.sent v.sent new.sent)
      → IsSentBy (status_by e) k s start.sent (qs ++ more) new.sent
  sent_flushed fault.Device s t start v new qs more served unsent put = sent_none status.DeviceFault s start.sent new.sent (qs ++ more) (unsent (inl refl))
  sent_flushed fault.Room s t start v new qs more served unsent put = sent_none status.NoMemory s start.sent new.sent (qs ++ more) (unsent (inr refl))
  sent_flushed fault.Put s t start v new qs more served unsent put =
      let p = put refl in
      sent_part s t start.sent new.sent qs more served.answers served.run (record {
        front = p.front;
        back = p.back;
        sent = p.sent;
        whole = append_cancel_left start.sent (texts served.answers) (p.front ++ p.back) (sym served.sent ∙ p.rest ∙ ap (λ l. l ++ p.back) p.sent ∙ append_assoc start.sent p.front p.back);
      })

  -- in the end
  module _ (counted : IsCounted k) (s : k.States) (before : List ℕ) (qs : List Q) (now : List ℕ) where
    broken_of : IsSentWhole k s before qs now → IsBroken k s before qs now
    broken_of w = subst (λ l. IsBroken k s before l now) (sym w.parts) (broken k counted s before w.answered w.rest w.state now w.served).0

    pub sent_stopped : (why : Status) → StopsBy why → IsSentBy why k s before qs now → SentInGroups why k s before qs now
    sent_stopped why (inl e) b = subst (λ r. SentInGroups r k s before qs now) (sym e) (broken_of (b.whole (λ put. device_no_put (sym e ∙ put))))
      where
        device_no_put : status.DeviceFault ≡ status.PutFault → ⊥
        device_no_put is = cc
    sent_stopped why (inr (inl e)) b = subst (λ r. SentInGroups r k s before qs now) (sym e) b.part
    sent_stopped why (inr (inr e)) b = subst (λ r. SentInGroups r k s before qs now) (sym e) (broken_of (b.whole (λ put. memory_no_put (sym e ∙ put))))
      where
        memory_no_put : status.NoMemory ≡ status.PutFault → ⊥
        memory_no_put is = cc
