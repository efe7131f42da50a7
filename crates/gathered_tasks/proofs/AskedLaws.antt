-- What one request leaves of the disk of blocks.
use Rattle.std.proofs.Common.{◌≡◌, ◌⊎◌, inl, inr, ℕ, zero, suc, ◌+◌, ◌≤◌, Bool, true, false, List, ◌∷◌, length, Option, Some, None, refl, sym, ◌∙◌, ap, arith}
use Rattle.gathered_tasks.proofs.Common.{AtFirst, Err, Failed, GoesOn, HasLeft, HasRoomFor, IfOk, IsAmong, Ok, OnErr, OnOk, PlaceKind, Request, Result, State, There, View, WasWorld, WentBelow, World, blocks_view, gathered, held_state, held_world, judged, room_for, told_state, world_below}
use Rattle.tsd_model.specs.Needs.{is_steady}
use Rattle.tsd_model.specs.Run.{IsAnswer, answer}
use Rattle.tsd_model.specs.Sessions.{is_open}
use Rattle.tsd_model.specs.declared.replies.Reply.{Reply}
use Rattle.disk_laws.proofs.AnswerLaws.{after_answer}
use Rattle.volume_laws.proofs.QuestionLaws.{told_size}
use Rattle.fs_port.specs.View.{DiskView, Left}
use Rattle.fs_port.specs.Calls.{Counts, IsAskCarriedOut, IsEitherSide, LeavesWorldsOnly, Stays}
use Rattle.fs_port.proofs.PlainLaws.{steady_records, steady_open}
use Rattle.tsd_core.specs.Applying.{IsToldAnswer, next_world}
use Rattle.gathered_tasks.specs.declared.asked.Before.{Before}
use Rattle.gathered_tasks.specs.BlockLaws.{none_since}

-- the world after an answer is that before, or the next one
next_or_same : (kind : PlaceKind) (s : State) (q : Request) (want : Bool) → ((answer kind s q want).state.world ≡ s.world) ⊎ ((answer kind s q want).state.world ≡ next_world kind s q)
next_or_same kind s q want =
    after_answer (λ t. (t.world ≡ s.world) ⊎ (t.world ≡ next_world kind s q)) kind s q want (inl refl) (λ none. inr (sym (ap (λ o. (judged kind s q o).state.world) none)))

module _ {P : Type 0} (view : P → View) (lenders : ℕ × ℕ) (kind : PlaceKind) (start : View) (old new : There P) (bs : List (Before P)) (q : Request) where
  abbrev b : Before P
  b = record { dev = old.dev; core = old.core; room = old.room; request = q }

  abbrev s0 : State
  s0 = held_state old.core (gathered old.room) (view old.dev)

  abbrev s1 : State
  s1 = held_state new.core (gathered new.room) (view new.dev)

  abbrev before : DiskView
  before = blocks_view view lenders kind start old bs

  abbrev after : DiskView
  after = blocks_view view lenders kind start new (b ∷ bs)

  pub ask_carried : {E : Type 0} (result : Result Reply E) → IfOk result (λ r. IsAnswer kind s0 q r s1) → IfOk result (λ r. IsAskCarriedOut before after q r)
  ask_carried (Ok x) given = (given.want, sym given.state, sym given.reply)
  ask_carried (Err e) given = tt

  -- the world in memory afterwards
  now_is : (result : Result Reply Failed) → IfOk result (λ r. IsAnswer kind s0 q r s1) → OnErr result (new.core.volume.is_spent ≡ true) → new.core.volume.is_spent ≡ false
      → (held_world view new.room new.dev ≡ s0.world) ⊎ (held_world view new.room new.dev ≡ next_world kind s0 q)
  now_is (Ok x) given spent unspent =
      let is : s1.world ≡ (answer kind s0 q given.want).state.world = ap (λ (s : State). s.world) given.state in
      elim (next_or_same kind s0 q given.want) [ inl same ↦ inl (is ∙ same) | inr next ↦ inr (is ∙ next) ]
  now_is (Err e) given spent unspent = let clash : true ≡ false = sym spent ∙ unspent in absurd (cc)

  module _ (result : Result Reply Failed) (unspent : old.core.volume.is_spent ≡ false) (given : IfOk result (λ r. IsAnswer kind s0 q r s1)) {told : Type 0} (t : told) (goes : GoesOn told old.core new.core new.room.ring (gathered old.room) (gathered new.room) (view old.dev) (view new.dev) (next_world kind s0 q) result)
      (base : OnOk result (IsAmong (world_below view old.dev) (held_world view old.room old.dev) (held_world view new.room new.dev) (world_below view new.dev)))
      (quiet : HasRoomFor old.core (gathered old.room) q → (view new.dev).writes ≡ (view old.dev).writes) (grows : HasRoomFor old.core (gathered old.room) q → length (gathered new.room) ≤ length (gathered old.room) + room_for old.core.volume.tables.geometry q) where
    sent : (view new.dev).sent ≡ (view old.dev).sent
    sent = goes.sent t

    went : WentBelow view kind b new
    went = record {
      unspent = unspent;
      size = goes.size;
      sent = sent;
      leaves = goes.any_moment t;
      behind = goes.behind t;
      base = λ fine. among result goes.spent base fine;
      quiet = quiet;
      grows = grows;
    }
      where
        among : (r : Result Reply Failed) → OnErr r (new.core.volume.is_spent ≡ true) → OnOk r (IsAmong (world_below view old.dev) (held_world view old.room old.dev) (held_world view new.room new.dev) (world_below view new.dev))
            → new.core.volume.is_spent ≡ false → IsAmong (world_below view old.dev) (held_world view old.room old.dev) (held_world view new.room new.dev) (world_below view new.dev)
        among (Ok x) spent is fine = is
        among (Err e) spent is fine = let clash : true ≡ false = sym spent ∙ fine in absurd (cc)

    -- a world since a request is one from before this one, or is of this one
    was_or_now : (t : ℕ) (u : World) → WasWorld view kind t new (b ∷ bs) u → WasWorld view kind t old bs u ⊎ IsEitherSide before q u
    was_or_now t u (inl is) = elim (now_is result given goes.spent is.0) [ inl same ↦ inr (inl (is.1 ∙ same)) | inr next ↦ inr (inr (is.1 ∙ next)) ]
    was_or_now t u (inr (inl is)) = inr is.1
    was_or_now t u (inr (inr was)) = inl (inr was)

    still : (t : ℕ) (u : World) → t ≤ length bs → WasWorld view kind t old bs u → WasWorld view kind t new (b ∷ bs) u
    still t u le (inl is) = inr (inl (le, inl is.1))
    still t u le (inr was) = inr (inr was)

    -- of this one alone
    of_this : (u : World) → WasWorld view kind (length bs) new (b ∷ bs) u → IsEitherSide before q u
    of_this u (inl is) = elim (now_is result given goes.spent is.0) [ inl same ↦ inl (is.1 ∙ same) | inr next ↦ inr (is.1 ∙ next) ]
    of_this u (inr (inl is)) = is.1
    of_this u (inr (inr was)) = absurd (none_since view kind (length bs) bs u (omega arith) was)

    back : (t : ℕ) (o : Option World) (f : List ℕ) → AtFirst view kind start new (b ∷ bs) o f → AtFirst view kind start old bs o f ⊎ ((u : World) × (o ≡ Some u) × IsEitherSide before q u × (f ≡ (view old.dev).sent))
    back t None f left = inl left.1
    back t (Some u) f left = elim (was_or_now 0 u left.0) [ inl was ↦ inl (was, left.1 ∙ sent) | inr is ↦ inr (u, refl, is, left.1 ∙ sent) ]

    forth : (o : Option World) (f : List ℕ) → AtFirst view kind start old bs o f → AtFirst view kind start new (b ∷ bs) o f
    forth None f left = (went, left)
    forth (Some u) f left = (still 0 u (omega arith) left.0, left.1 ∙ sym sent)

    earlier : (t : ℕ) (x : Left) (f : List ℕ) → HasLeft view kind start new (b ∷ bs) t x f → HasLeft view kind start old bs t x f ⊎ ((u : World) × (x.world ≡ Some u) × IsEitherSide before q u × (f ≡ (view old.dev).sent))
    earlier zero x f left = back 0 x.world f left
    earlier (suc t) x f left = elim (was_or_now t left.0 left.2) [ inl was ↦ inl (left.0, left.1, was, left.3 ∙ sent) | inr is ↦ inr (left.0, left.1, is, left.3 ∙ sent) ]

    later : (t : ℕ) (x : Left) (f : List ℕ) → t ≤ suc (length bs) → HasLeft view kind start old bs t x f → HasLeft view kind start new (b ∷ bs) t x f
    later zero x f le left = forth x.world f left
    later (suc t) x f le left = (left.0, left.1, still t left.0 (omega (arith, le)) left.2, left.3 ∙ sym sent)

    pub asked_leaves : LeavesWorldsOnly before after (IsEitherSide before q)
    asked_leaves = record {
      later = omega arith;
      sent = sent;
      each = λ x f left. (left.0, left.1, of_this left.0 left.2, left.3 ∙ sent);
      before = λ t x f le left. earlier t x f left;
      keeps = later;
    }

  pub asked_stays : {E : Type 0} (result : Result Reply E) → is_steady q ≡ true → IfOk result (λ r. IsToldAnswer kind old.core q r new.core) → OnOk result (Stays before after)
  asked_stays (Ok r) steady told = record {
    records = told.world.records ∙ steady_records kind (told_state old.core) q told.want steady;
    sessions = λ s. ap (λ u. is_open u s) told.sessions ∙ steady_open kind (told_state old.core) q told.want s steady;
  }
  asked_stays (Err e) steady told = tt

  pub asked_counts : {T : Type 0} (told : Type 0) (next : World) (result : Result T Failed) → GoesOn told old.core new.core new.room.ring (gathered old.room) (gathered new.room) (view old.dev) (view new.dev) next result → Counts before after
  asked_counts told next result goes = record {
    geometry = (told_size new.core.volume.tables).0 ∙ (goes.size.geometry ∙ sym (told_size old.core.volume.tables).0);
    version = (told_size new.core.volume.tables).1 ∙ (goes.size.version ∙ sym (told_size old.core.volume.tables).1);
    kind = refl;
    clock = omega arith;
    faults = goes.works.faults;
    put_faults = goes.works.put_faults;
    lenders = refl;
  }
