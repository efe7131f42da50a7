-- Calls one after the other, whatever they answer.
use Rattle.std.proofs.Common.{◌≡◌, ◌≢◌, ℕ, Bool, true, false, ◌&&◌, nat_lt, refl, sym, ◌∙◌, ap, subst, arith, inl, inr, ◌⊎◌, ◌<◌, length, List, [], Option, Some, None, Result, Ok, Err}
use Rattle.fs_client.proofs.Common.{IfErr, OnOk, is_some, is_none, slice_get, Rose, World, contents, is_live, is_free, kept_of, record_level, Fits, IsValid, Request, IsTidy, OthersStay, RoomNeed, ShellAsk, FsRefusal, DiskView, state_of, Counts, IsLedTo, IsValidNow, LeavesWorldsOnly, Stays, FilesView, IsClientReady, IsEitherTree, IsTreeAlone, IsLeft, KeepsRoom, LeavesTidyWorld, OnAnswer, need_on, both_leave, leaves_more, on_answer, if_fault, both_stay, both_count, led_both, Client, Looked, OnlyLooks, Leads, Went, Steps, Changes, Runs}
use Rattle.fs_trees.specs.declared.refusal.FsRefusal.TheVariants as no
use Rattle.tsd_model.proofs.ValueLaws.{clash}

-- ---- of any answer

pub on_ok : {X : Type 0} (P Q : Type 0) (result : Result X FsRefusal) → (P → Q) → OnOk result P → OnOk result Q
on_ok P Q (Ok x) f h = f h
on_ok P Q (Err e) f h = tt

pub on_both : {X : Type 0} (P Q R : Type 0) (result : Result X FsRefusal) → (P → Q → R) → OnOk result P → OnOk result Q → OnOk result R
on_both P Q R (Ok x) f p q = f p q
on_both P Q R (Err e) f p q = tt

pub on_any : {X : Type 0} (P : Type 0) (result : Result X FsRefusal) → P → OnOk result P
on_any P (Ok x) h = h
on_any P (Err e) h = tt

-- what holds after every answer holds after Ok
pub ok_of : {X : Type 0} (P Q : Type 0) (result : Result X FsRefusal) → (P → Q) → OnAnswer result P → OnOk result Q
ok_of P Q (Ok x) f h = f h.0
ok_of P Q (Err e) f h = tt

-- where only a fault refuses, what holds after Ok holds after every answer
pub answer_ok : {X : Type 0} (P : Type 0) (result : Result X FsRefusal) → OnOk result P → IfErr result (λ e. e ≡ no.Device) → OnAnswer result P
answer_ok P (Ok x) h only = (h, tt)
answer_ok P (Err e) h only = (tt, λ ne. absurd (ne only))

pub device_alone : {X : Type 0} (result : Result X FsRefusal) → IfErr result (λ e. e ≡ no.Device) → IfErr result (λ e. (e ≡ no.NotThisFs) ⊎ (e ≡ no.Device))
device_alone (Ok x) h = tt
device_alone (Err e) h = inr h

-- ---- one after the other

pub runs_look : {X : Type 0} (told : Type 0) (old new : DiskView) (P : World → Type 0) (result : Result X FsRefusal) → (told → (w : World) → w ≡ old.world → P w) → OnlyLooks told old new result → Runs told old new P result
runs_look told old new P result on looks = record {
  valid = λ t. on_answer (Looked old new) (IsValidNow new) result (λ l. l.valid) (looks.looked t);
  led = λ t. on_answer (Looked old new) (IsLedTo old new) result (λ l. l.led) (looks.looked t);
  crash = λ t. leaves_more old new (λ w. w ≡ old.world) P (on t) (looks.crash t);
  stays = looks.stays;
  counts = looks.counts;
  unspent = looks.unspent;
  faultless = looks.faultless;
  cause = looks.cause;
  spent = looks.spent;
}

pub runs_step : {X : Type 0} (told : Type 0) (c : Client) (old new : DiskView) (q : Request) (a : ℕ) (after : World) (P : World → Type 0) (result : Result X FsRefusal) → (told → IsValidNow old)
    → (told → (w : World) → (w ≡ old.world) ⊎ ((w ≡ after) × Leads old.world q after) → P w) → Steps told c old new q a after result → Runs told old new P result
runs_step {X} told c old new q a after P result now on steps = record {
  valid = λ t. stays_valid result (steps.went t) (steps.same t) (now t);
  led = λ t. leads result (steps.went t) (steps.same t);
  crash = λ t. leaves_more old new (λ w. (w ≡ old.world) ⊎ ((w ≡ after) × Leads old.world q after)) P (on t) (steps.crash t);
  stays = steps.stays;
  counts = steps.counts;
  unspent = steps.unspent;
  faultless = steps.faultless;
  cause = steps.cause;
  spent = steps.spent;
}
  where
    leads : (r : Result X FsRefusal) → OnOk r (Went c old new q a after) → IfErr r (λ e. e ≢ no.Device → state_of new ≡ state_of old) → OnAnswer r (IsLedTo old new)
    leads (Ok x) went same = (went.led, tt)
    leads (Err e) went same = (tt, λ ne. ([], same ne))

    stays_valid : (r : Result X FsRefusal) → OnOk r (Went c old new q a after) → IfErr r (λ e. e ≢ no.Device → state_of new ≡ state_of old) → IsValidNow old → OnAnswer r (IsValidNow new)
    stays_valid (Ok x) went same now = (went.valid, tt)
    stays_valid (Err e) went same now = (
      tt,
      λ ne. record {
        valid = subst (λ st. IsValid st.world) (sym (same ne)) now.valid;
        fits = subst (λ st. Fits st.world st.sessions) (sym (same ne)) now.fits;
      },
    )

pub then_runs : {X Y : Type 0} (told : Type 0) (old mid new : DiskView) (P : World → Type 0) (x : X) (result : Result Y FsRefusal) → Runs told old mid P (Ok x) → Runs told mid new P result → Runs told old new P result
then_runs told old mid new P x result first second = record {
  valid = second.valid;
  led = λ t. on_answer (IsLedTo mid new) (IsLedTo old new) result (led_both old mid new first.counts.kind (first.led t).0) (second.led t);
  crash = λ t. both_leave old mid new P (first.crash t) (second.crash t);
  stays = on_answer (Stays mid new) (Stays old new) result (both_stay old mid new first.stays.0) second.stays;
  counts = both_count old mid new first.counts second.counts;
  unspent = second.unspent;
  faultless = on_answer (new.faults ≡ mid.faults) (new.faults ≡ old.faults) result (λ e. e ∙ first.faultless.0) second.faultless;
  cause = if_fault (Rose mid.faults new.faults) (Rose old.faults new.faults) result (subst (λ n. Rose n new.faults) first.faultless.0) second.cause;
  spent = second.spent;
}

pub runs_as : {X Y : Type 0} (told : Type 0) (old new : DiskView) (P : World → Type 0) (x : X) (y : Y) → Runs told old new P (Ok x) → Runs told old new P (Ok y)
runs_as told old new P x y h = record { valid = h.valid; led = h.led; crash = h.crash; stays = h.stays; counts = h.counts; unspent = h.unspent; faultless = h.faultless; cause = tt; spent = tt }

pub runs_refused : {X Y : Type 0} (told : Type 0) (old new : DiskView) (P : World → Type 0) (e : FsRefusal) → Runs {X = X} told old new P (Err e) → Runs {X = Y} told old new P (Err e)
runs_refused told old new P e h = record { valid = h.valid; led = h.led; crash = h.crash; stays = h.stays; counts = h.counts; unspent = h.unspent; faultless = h.faultless; cause = h.cause; spent = h.spent }

-- a refusal of its own, not the disk's
pub runs_but_refuses : {X Y : Type 0} (told : Type 0) (old new : DiskView) (P : World → Type 0) (x : X) (e : FsRefusal) → e ≢ no.Device → Runs told old new P (Ok x) → Runs {X = Y} told old new P (Err e)
runs_but_refuses told old new P x e ne h = record {
  valid = λ t. (tt, λ _. (h.valid t).0);
  led = λ t. (tt, λ _. (h.led t).0);
  crash = h.crash;
  stays = (tt, λ _. h.stays.0);
  counts = h.counts;
  unspent = (tt, λ _. h.unspent.0);
  faultless = (tt, λ _. h.faultless.0);
  cause = λ d. absurd (ne d);
  spent = λ d. absurd (ne d);
}

-- what a stop leaves has Q as well
pub runs_more : {X : Type 0} (told : Type 0) (old new : DiskView) (P Q : World → Type 0) (result : Result X FsRefusal) → (told → (w : World) → P w → Q w) → Runs told old new P result → Runs told old new Q result
runs_more told old new P Q result on h = record {
  valid = h.valid;
  led = h.led;
  crash = λ t. leaves_more old new P Q (on t) (h.crash t);
  stays = h.stays;
  counts = h.counts;
  unspent = h.unspent;
  faultless = h.faultless;
  cause = h.cause;
  spent = h.spent;
}

-- ---- what a file system's calls leave

-- a call that ran so, took no more and left the world so, changes no more than its ask does
pub changes_so : {X : Type 0} (told : Type 0) (f : FilesView) (old new : DiskView) (a : ShellAsk) (result : Result X FsRefusal) → (told → OnOk result (KeepsRoom (need_on f old a) old.world new.world)) → (told → OnAnswer result (LeavesTidyWorld f old new))
    → (told → f.mounted ≡ false → LeavesWorldsOnly old new (λ w. w ≡ old.world)) → Runs told old new (IsEitherTree f old a) result → Changes told f old new a result
changes_so told f old new a result room world unmounted h = record {
  world = world;
  room = room;
  crash = h.crash;
  unmounted = unmounted;
  valid = h.valid;
  led = h.led;
  stays = h.stays;
  counts = h.counts;
  unspent = h.unspent;
  faultless = h.faultless;
  cause = h.cause;
  spent = h.spent;
}

-- where a tree is mounted
pub changes_of : {X : Type 0} (told : Type 0) (f : FilesView) → f.mounted ≡ true → (old new : DiskView) (a : ShellAsk) (result : Result X FsRefusal) → (told → OnOk result (KeepsRoom (need_on f old a) old.world new.world)) → (told → OnAnswer result (LeavesTidyWorld f old new)) → Runs told old new (IsEitherTree f old a) result → Changes told f old new a result
changes_of told f is old new a result room world h = changes_so told f old new a result room world (λ t off. absurd (clash f.mounted is off)) h

-- the client stays ready
pub ready_still : (f : FilesView) (old new : DiskView) → Stays old new → Counts old new → new.spent ≡ false → IsClientReady f old → IsClientReady f new
ready_still f old new stays counts unspent ready = record {
  unspent = unspent;
  number = ready.number;
  begun = stays.sessions f.session ∙ ready.begun;
  primary = subst (λ g. f.root < g.primaries) (sym counts.geometry) ready.primary;
  attains = ap (λ rs. record_level (slice_get rs f.root) (kept_of new.version f.cap)) stays.records ∙ (ap (λ n. record_level (slice_get old.records f.root) (kept_of n f.cap)) counts.version ∙ ready.attains);
}

-- ---- where nothing has changed

pub others_same : (root : ℕ) (w : World) → OthersStay root w w
others_same root w = record { records = refl; bytes = λ b live away. refl; pairs = λ x y live away. refl; apart = λ b live away. away }

left_same : (f : FilesView) (old : DiskView) → IsValid old.world → IsLeft f old old.world
left_same f old valid = record { valid = valid; geometry = refl; others = others_same f.root old.world }

pub same_room : (n : RoomNeed) (w next : World) → next ≡ w → KeepsRoom n w next
same_room n w next e = subst (KeepsRoom n w) (sym e) (record { blocks = omega arith; pairs = omega arith })

pub as_before : (f : FilesView) (old : DiskView) (a : ShellAsk) (w : World) → IsValid old.world → w ≡ old.world → IsEitherTree f old a w
as_before f old a w valid e = subst (IsEitherTree f old a) (sym e) (inl refl, left_same f old valid)

pub alone_same : (f : FilesView) (v : DiskView) (w : World) → IsValid v.world → w ≡ v.world → IsTreeAlone f v w
alone_same f v w valid e = subst (IsTreeAlone f v) (sym e) (refl, left_same f v valid, record { pairs = λ a b h. h; bytes = λ b h. refl; named = refl; none = λ off. refl })

clash_by : (t : Bool) (o : Option (List ℕ)) → (t && is_none o) ≡ true → is_some o ≡ true → ⊥
clash_by true None h k = cc
clash_by true (Some x) h k = cc
clash_by false o h k = cc

-- no block is both free and live
pub clash_free_live : (w : World) (b : ℕ) → is_free w b ≡ true → is_live w b ≡ true → ⊥
clash_free_live w b h k = clash_by (nat_lt b (length w.blocks)) (contents w b) h k

pub leaves_same : (f : FilesView) (old new : DiskView) → new.world ≡ old.world → new.spent ≡ false → LeavesTidyWorld f old new
leaves_same f old new e unspent = record {
  unspent = unspent;
  tidy = subst (λ w. IsTidy f.kind w f.root) (sym e);
  others = subst (OthersStay f.root old.world) (sym e) (others_same f.root old.world);
  taken = λ b free live. absurd (clash_free_live old.world b free (ap (λ w. is_live w b) (sym e) ∙ live));
}

-- a call that only looked
pub looks_change : {X : Type 0} (told : Type 0) (f : FilesView) (old new : DiskView) (a : ShellAsk) (result : Result X FsRefusal) → (told → IsValid old.world) → OnlyLooks told old new result → Changes told f old new a result
looks_change {X} told f old new a result valid looks = changes_so told f old new a result (λ t. ok_of (Looked old new) (KeepsRoom (need_on f old a) old.world new.world) result (λ l. same_room (need_on f old a) old.world new.world l.world) (looks.looked t))
    (λ t. left result (looks.looked t) looks.unspent) (λ t off. looks.crash t)
    (runs_look told old new (IsEitherTree f old a) result (λ t w e. as_before f old a w (valid t) e) looks)
  where
    left : (r : Result X FsRefusal) → OnAnswer r (Looked old new) → OnAnswer r (new.spent ≡ false) → OnAnswer r (LeavesTidyWorld f old new)
    left (Ok x) seen unspent = (leaves_same f old new seen.0.world unspent.0, tt)
    left (Err e) seen unspent = (tt, λ ne. leaves_same f old new (seen.1 ne).world (unspent.1 ne))

-- what is refused by the disk leaves the world
pub leaves_refused : (f : FilesView) (first mid new : DiskView) → mid.world ≡ first.world → new.spent ≡ false → state_of new ≡ state_of mid → LeavesTidyWorld f first new
leaves_refused f first mid new e unspent same = leaves_same f first new (ap (λ st. st.world) same ∙ e) unspent
