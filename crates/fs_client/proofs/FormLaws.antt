-- A reply, by the form that was wanted.
use Rattle.std.proofs.Common.{◌≡◌, ℕ, true, false, List, refl, sym, subst, inl, inr, ◌⊎◌, Result, Ok, Err}
use Rattle.fs_client.proofs.Common.{IfOk, Request, Hint, Shown, Reply, Rule, FsRefusal, DiskView, Counts, IsAskCarriedOut, IsEitherSide, LeavesWorldsOnly, Stays, refusal_in, bytes_replied, done_replied, gone_replied, blocks_replied, targets_replied, has_wanted_form, AsksOnce}
use Rattle.tsd_model.specs.declared.requests.Request.TheVariants as ask
use Rattle.tsd_model.specs.declared.replies.Reply.TheVariants as reply
use Rattle.fs_trees.specs.declared.refusal.FsRefusal.TheVariants as no
use Rattle.fs_client.proofs.RefusedLaws.{is_of_files}
use Rattle.fs_client.proofs.OnceLaws.{carried_out, replied_otherwise}

-- what is wanted is in the reply, or it has another form
abbrev pub IsEither : {X : Type 0} → Request → Reply → Result X FsRefusal → Type 0
IsEither {X} q r result = ((x : X) × (result ≡ Ok x)) ⊎ ((result ≡ Err (refusal_in r)) × (has_wanted_form q r ≡ false))

pub bytes_form : (s b : ℕ) (shown : Shown) (r : Reply) → IsEither (ask.Read s b shown) r (bytes_replied r)
bytes_form s b shown (reply.Bytes x) = inl (x, refl)
bytes_form s b shown r = inr (refl, refl)

pub written_form : (s b : ℕ) (shown : Shown) (bytes : List ℕ) (r : Reply) → IsEither (ask.Write s b shown bytes) r (done_replied r)
written_form s b shown bytes reply.Done = inl (tt, refl)
written_form s b shown bytes r = inr (refl, refl)

pub linked_form : (s a : ℕ) (shown : Shown) (b : ℕ) (r : Reply) → IsEither (ask.Create s a shown b) r (done_replied r)
linked_form s a shown b reply.Done = inl (tt, refl)
linked_form s a shown b r = inr (refl, refl)

pub gone_form : (s a : ℕ) (shown : Shown) (b : ℕ) (r : Reply) → IsEither (ask.Delete s a shown b) r (gone_replied r)
gone_form s a shown b (reply.Gone n) = inl (n, refl)
gone_form s a shown b r = inr (refl, refl)

pub blocks_form : (s a : ℕ) (shown : Shown) (h : Hint) (count : ℕ) (r : Reply) → IsEither (ask.Alloc s a shown h count) r (blocks_replied r)
blocks_form s a shown h count (reply.Blocks bs) = inl (bs, refl)
blocks_form s a shown h count r = inr (refl, refl)

pub targets_form : (s a : ℕ) (shown : Shown) (start : ℕ) (r : Reply) → IsEither (ask.List s a shown start) r (targets_replied r)
targets_form s a shown start (reply.Targets bs) = inl (bs, refl)
targets_form s a shown start r = inr (refl, refl)

-- ---- what holds of the reply holds of what is in it

pub bytes_step : (P : Reply → Type 0) (r : Reply) → P r → IfOk (bytes_replied r) (λ x. P (reply.Bytes x))
bytes_step P (reply.Bytes x) h = h
bytes_step P r h = tt

pub done_step : (P : Reply → Type 0) (r : Reply) → P r → IfOk (done_replied r) (λ x. P reply.Done)
done_step P reply.Done h = h
done_step P r h = tt

pub gone_step : (P : Reply → Type 0) (r : Reply) → P r → IfOk (gone_replied r) (λ n. P (reply.Gone n))
gone_step P (reply.Gone n) h = h
gone_step P r h = tt

pub blocks_step : (P : Reply → Type 0) (r : Reply) → P r → IfOk (blocks_replied r) (λ bs. P (reply.Blocks bs))
blocks_step P (reply.Blocks bs) h = h
blocks_step P r h = tt

pub targets_step : (P : Reply → Type 0) (r : Reply) → P r → IfOk (targets_replied r) (λ bs. P (reply.Targets bs))
targets_step P (reply.Targets bs) h = h
targets_step P r h = tt

-- ---- one request that was answered

pub answered : {X : Type 0} (told : Type 0) (old new : DiskView) (q : Request) (r : Reply) (result given : Result X FsRefusal) → given ≡ result → IsEither q r result → is_of_files q ≡ true
    → (told → IsAskCarriedOut old new q r) → (told → LeavesWorldsOnly old new (IsEitherSide old q)) → Stays old new → Counts old new → new.faults ≡ old.faults → new.spent ≡ false
    → AsksOnce told old new q given
answered told old new q r result given is either own step crash stays counts faultless unspent =
    subst (AsksOnce told old new q) (sym is) (elim either [
      | inl ok ↦ subst (AsksOnce told old new q) (sym ok.1) (carried_out told old new q crash counts ok.0 stays unspent faultless)
      | inr err ↦ subst (AsksOnce told old new q) (sym err.0) (replied_otherwise told old new q crash counts r own step err.1 stays unspent faultless)
    ])

-- ---- of another form

pub no_bytes : (r : Reply) → ((x : List ℕ) → r ≡ reply.Bytes x → ⊥) → ((k : Rule) → r ≡ reply.Refused k → ⊥) → Err no.NotThisFs ≡ bytes_replied r
no_bytes (reply.Bytes x) h k = absurd (h x refl)
no_bytes (reply.Refused y) h k = absurd (k y refl)
no_bytes r h k = refl

pub no_gone : (r : Reply) → ((x : ℕ) → r ≡ reply.Gone x → ⊥) → ((k : Rule) → r ≡ reply.Refused k → ⊥) → Err no.NotThisFs ≡ gone_replied r
no_gone (reply.Gone x) h k = absurd (h x refl)
no_gone (reply.Refused y) h k = absurd (k y refl)
no_gone r h k = refl

pub no_blocks : (r : Reply) → ((x : List ℕ) → r ≡ reply.Blocks x → ⊥) → ((k : Rule) → r ≡ reply.Refused k → ⊥) → Err no.NotThisFs ≡ blocks_replied r
no_blocks (reply.Blocks x) h k = absurd (h x refl)
no_blocks (reply.Refused y) h k = absurd (k y refl)
no_blocks r h k = refl

pub no_targets : (r : Reply) → ((x : List ℕ) → r ≡ reply.Targets x → ⊥) → ((k : Rule) → r ≡ reply.Refused k → ⊥) → Err no.NotThisFs ≡ targets_replied r
no_targets (reply.Targets x) h k = absurd (h x refl)
no_targets (reply.Refused y) h k = absurd (k y refl)
no_targets r h k = refl

pub not_done : (r : Reply) → (r ≡ reply.Done → ⊥) → ((k : Rule) → r ≡ reply.Refused k → ⊥) → Err no.NotThisFs ≡ done_replied r
not_done reply.Done h k = absurd (h refl)
not_done (reply.Refused y) h k = absurd (k y refl)
not_done r h k = refl
