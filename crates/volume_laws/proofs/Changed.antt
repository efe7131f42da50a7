-- What images stand for around a commit that changes tables.
use Rattle.std.proofs.Common.{◌≡◌, inl, inr, ⊎_elim, List, sym, ◌∙◌, ap, subst, Result, Ok, Err}
use Rattle.volume_laws.proofs.Common.{OnOk, World, View, LeavesOnly, IsFirm, weakened, Image, Patch, home, overlaid, is_journal, AgreeBut, IsRingAt, IsAfter, IsBeforeOrAfter, at_valid, HasTables, Tables, tables_of, left_of, world_with, data_on, world_of, Stands, tables_had, has_one, after_turned, turned_have, Volume, IsVolumeAt, world_on, Turns, StandsForEither, LeavesEither}
use Rattle.volume_laws.proofs.Committed.{before_stands}

-- the world of other tables with the bytes that an image has
abbrev pub turned_world : Tables → View → World
turned_world t v = left_of t (world_with t (data_on (home v.reads)))

-- the world of a device is that of its own tables
pub world_is : (vol : Volume) (v : View) → IsVolumeAt vol v → turned_world vol.tables v ≡ world_on v
unfolding world_of
world_is vol v at = ap (λ (t : Tables). left_of t (world_with t (data_on (home v.reads)))) (sym at.tables)

pub has_its_tables : (vol : Volume) (v : View) → IsVolumeAt vol v → HasTables vol.tables (home v.reads)
has_its_tables vol v at = subst (λ (t : Tables). HasTables t (home v.reads)) at.tables (tables_had (home v.reads) at.good.header)

-- the batch turns the image's own tables
its_turns : (vol : Volume) (v : View) (t : Tables) (batch : List Patch) → IsVolumeAt vol v → Turns vol.tables t batch → Turns (tables_of (home v.reads)) t batch
its_turns vol v t batch at turns = subst (λ (u : Tables). Turns u t batch) (sym at.tables) turns

pub turned_had : (vol : Volume) (old : View) (x : Image) (batch : List Patch) (t : Tables) → IsVolumeAt vol old → Turns vol.tables t batch → AgreeBut is_journal (overlaid batch (home old.reads)) (home x) → HasTables t (home x)
turned_had vol old x batch t at turns agree = turned_have old.reads x t batch at.good (its_turns vol old t batch at turns) agree

pub turned_stands : (vol : Volume) (old : View) (x : Image) (batch : List Patch) (t : Tables) → IsVolumeAt vol old → Turns vol.tables t batch → IsAfter batch old x → Stands x (turned_world t old)
turned_stands vol old x batch t at turns after = (after_turned old x t batch at.good (its_turns vol old t batch at turns) after).stands

-- the images that a commit leaves
pub turned_moments : (vol : Volume) (old new : View) (batch : List Patch) (t : Tables) (w : World) → IsVolumeAt vol old → Turns vol.tables t batch → turned_world t old ≡ w
    → LeavesOnly old new (λ x f. IsBeforeOrAfter batch old x × (f ≡ old.sent)) → LeavesEither old new w
turned_moments vol old new batch t w at turns is leaves =
    weakened old new (λ x f. IsBeforeOrAfter batch old x × (f ≡ old.sent)) (λ x f. StandsForEither (world_on old) w x × (f ≡ old.sent)) leaves
    (λ x f left. (⊎_elim (λ before. inl (before_stands vol old x at before)) (λ after. inr (subst (Stands x) is (turned_stands vol old x batch t at turns after))) left.0, left.1))

-- the device after it
pub turned_ok : {T E : Type 0} (r : Result T E) (vol now : Volume) (old new : View) (batch : List Patch) (w : World) → IsVolumeAt vol old → Turns vol.tables now.tables batch → turned_world now.tables old ≡ w
    → OnOk r (AgreeBut is_journal (overlaid batch (home old.reads)) (home new.reads)) → OnOk r (IsRingAt now.ring new) → OnOk r (IsFirm new)
    → OnOk r (IsVolumeAt now new × (world_on new ≡ w))
turned_ok (Ok u) vol now old new batch w at turns is agree ring firm =
    let stands = turned_stands vol old new.reads batch now.tables at turns (record { valid = at_valid ring; stands = agree }) in (
      record {
        firm = firm;
        ring = ring;
        good = stands.good;
        tables = has_one now.tables (home new.reads) turns.sound (turned_had vol old new.reads batch now.tables at turns agree);
      },
      sym stands.world ∙ is,
    )
turned_ok (Err e) vol now old new batch w at turns is agree ring firm = tt
