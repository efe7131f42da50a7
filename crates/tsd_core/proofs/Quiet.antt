-- Requests that ask nothing of the device.
use Rattle.std.proofs.Common.{◌≡◌, ◌⊎◌, ℕ, ◌+◌, ◌≤◌, true, false, refl, sym, ◌∙◌, ap, subst, arith, inl}
use Rattle.tsd_core.proofs.Common.{Ok, World, HasForm, Reply, PlaceKind, Request, View, IsSound, started, firm_image, Image, home, tables_of, Stands, world_after, is_read, IsStarved, Volume, world_on, told_by, IsVolumeAt, IsVolumeReady, owed, StandsForEither, LeavesEither, LeavesOwed, Core, IsCoreReady, IsCoreAt, told_world, made_by, bytes_given, most_homes, owed_then, makes_blocks, Rests, data_none, batch_none, DoesRequest, IsChanged, IsCarriedOut}
use Rattle.volume_laws.proofs.OperationLaws.{works_none}
use Rattle.tsd_core.proofs.AtLaws.{at_volume, stands_at}
use Rattle.tsd_core.proofs.Likes.{like_as}

pub still_stands : (vol : Volume) (v : View) (x : World) → IsSound v → IsVolumeAt vol v → LeavesEither v v x
still_stands vol v x sound at = started v (λ y f. StandsForEither (world_on v) x y × (f ≡ v.sent)) sound
    (λ y f left. (inl (subst (λ (z : Image). Stands z (world_on v)) (sym (firm_image v at.firm y f left)) (stands_at vol v at)), left.1))

pub still_owes : (vol : Volume) (v : View) (more : ℕ) → IsSound v → IsVolumeAt vol v → LeavesOwed v v (owed vol.tables + more)
still_owes vol v more sound at = started v (λ y f. owed (tables_of (home y)) ≤ owed vol.tables + more) sound
    (λ y f left. subst (λ (z : Image). owed (tables_of (home z)) ≤ owed vol.tables + more) (sym (firm_image v at.firm y f left))
    (let same : owed (tables_of (home v.reads)) ≡ owed vol.tables = ap owed at.tables in omega (arith, same)))

clash : false ≡ true → ⊥
clash k = cc

pub rests_none : (v : View) → Rests v v
rests_none v = record { reads = refl; loose = refl; sent = refl; time = record { later = omega arith; nothing_else = λ t x f le left. inl left; keeps = λ t x f le left. left } }

-- it makes no blocks and dooms nothing
pub record IsIdle (vol : Volume) (q : Request) : Type 0 where
  pub none : makes_blocks q ≡ false
  pub owes : owed_then vol q ≡ owed vol.tables

still_there : (told : Type 0) (kind : PlaceKind) (q : Request) (vol : Volume) (v : View) (r : Reply) → ((w : World) → world_after kind w q ≡ w)
    → IsIdle vol q
    → (told → IsSound v) → (told → IsVolumeAt vol v) → IsVolumeReady vol → vol.is_spent ≡ false
    → DoesRequest told kind q vol vol v v (Ok r)
still_there told kind q vol v r same idle sound at ready unspent = record {
  operation = record {
    at = at;
    done = λ t. sym (same (world_on v));
    any_moment = λ t. still_stands vol v (world_after kind (world_on v) q) (sound t) (at t);
    sent = λ t. refl;
    data_kept = λ t. data_none vol.tables.geometry (bytes_given kind (told_by vol) q) v r (sound t) (at t).firm;
    unspent = unspent;
    spent = tt;
    faults = refl;
    works = works_none v;
    geometry = refl;
  };
  version = refl;
  like = like_as (told_by vol) (world_after kind (told_by vol) q) (sym (same (told_by vol)));
  ready = ready;
  once = λ b. record { ring = batch_none (most_homes vol.tables.geometry q) vol.ring; most = omega arith };
  owes = sym idle.owes;
  grown = λ b. absurd (clash (sym idle.none ∙ b));
  rests = λ t b. rests_none v;
  any_owed = λ t b. still_owes vol v (made_by (told_by vol) q) (sound t) (at t);
  paid = λ b. omega arith;
  most = λ b. omega arith;
  limit = λ b. omega arith;
  new_paid = λ b. absurd (clash (sym idle.none ∙ b));
  new_most = λ b. absurd (clash (sym idle.none ∙ b));
  sweep_paid = λ b. omega arith;
  swept = λ b. omega arith;
}

-- the volume and the device stay as they are
pub quiet : (told : Type 0) (kind : PlaceKind) (q : Request) (old new : Core) (v : View) (r : Reply) → ((w : World) → world_after kind w q ≡ w)
    → IsIdle old.volume q
    → (told → IsSound v) → (told → IsCoreAt old v) → IsCoreReady old → new.volume ≡ old.volume
    → (IsChanged kind (told_world old) old.grants q r new.grants ⊎ IsStarved old.grants q r new.grants) → is_read q ≡ false → HasForm r
    → IsCarriedOut told kind q old new v v (Ok r)
quiet told kind q old new v r same idle sound at ready stays kept unread form = record {
  kept = kept;
  bytes = λ t e. absurd (clash (sym unread ∙ e));
  form = form;
  volume = subst (λ (x : Volume). DoesRequest told kind q old.volume x v v (Ok r)) (sym stays)
      (still_there told kind q old.volume v r same idle sound (λ t. at_volume old v (at t)) ready.volume ready.unspent);
}
