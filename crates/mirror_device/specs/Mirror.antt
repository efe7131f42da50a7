-- A mirror: which sides count, which are sound in an item, and what is told of the two as one device.
--
-- A side is sound in an item where it has failed no call since the mirror began and, the second one, where the copying
-- was done. A side that is left never serves stale bytes: a side that failed once is never read again, so each write
-- that is read was made on every side that counts.
use Rattle.std.specs.Prelude.{ℕ, ◌-◌, ◌^◌, ◌<◌, ◌≤◌, ◌≡◌, ◌≢◌, ◌⊎◌, ◌||◌, Bool, List, Result, OnErr}
use Rattle.image_device.specs.Counts.{Rose}
use Rattle.image_device.specs.Image.{Image}
use Rattle.image_device.specs.View.{View}
use Rattle.mirror_device.specs.declared.side.Side.{Side}
use Rattle.mirror_device.specs.declared.side.Side.TheVariants.{First as FirstSide, Second as SecondSide}
use Rattle.mirror_device.specs.declared.side.Serving.{Serving}
use Rattle.mirror_device.specs.declared.side.Serving.TheVariants.{Both, First, Second}
use Rattle.mirror_device.specs.SidesView.{SideView, SidesView, Item}

-- the counts as the mirror began, the time, and the bytes sent by then
pub record Start : Type 0 where
  pub first_faults : ℕ
  pub second_faults : ℕ
  pub second_syncs : ℕ
  pub clock : ℕ
  pub sent : List ℕ

-- the same as they stand
abbrev pub start_at : SidesView → Start
start_at v = record {
  first_faults = v.first.faults;
  second_faults = v.second.faults;
  second_syncs = v.second.syncs;
  clock = v.clock;
  sent = v.sent;
}

-- the first side has failed no call
abbrev pub IsFirstSound : Start → Item → Type 0
IsFirstSound s i = i.first.faults ≤ s.first_faults

-- the second side has failed no call, and the copying was done
abbrev pub IsSecondSound : Start → Item → Type 0
IsSecondSound s i = (i.second.faults ≤ s.second_faults) × (s.second_syncs < i.second.syncs)

-- the image of the side that is left, or of the first one while none is lost
abbrev pub image_left : Serving → Item → Image
image_left Both i = i.first.image
image_left First i = i.first.image
image_left Second i = i.second.image

-- A mirror shows this image of an item: that of a side that is sound in it or, where neither is, of the side that is
-- left.
abbrev pub Shows : Start → Serving → Item → Image → Type 0
Shows s c i x =
    (IsFirstSound s i × (x ≡ i.first.image))
    ⊎ ((IsSecondSound s i × (x ≡ i.second.image))
    ⊎ ((IsFirstSound s i → ⊥) × (IsSecondSound s i → ⊥) × (x ≡ image_left c i)))

-- a crash at some moment since then may have left this, as a mirror shows it
pub record IsShown (v : SidesView) (s : Start) (c : Serving) (t : ℕ) (x : Image) (f : List ℕ) : Type 0 where
  pub item : Item
  pub left : v.left t item
  pub sent : f ≡ item.sent
  pub shows : Shows s c item x

-- the reads of the sides that count, which read alike
abbrev pub reads_of : Serving → SidesView → Image
reads_of Both v = v.first.reads
reads_of First v = v.first.reads
reads_of Second v = v.second.reads

-- the loose sectors of either side that counts
abbrev pub loose_of : Serving → SidesView → ℕ → Bool
loose_of Both v n = v.first.loose n || v.second.loose n
loose_of First v n = v.first.loose n
loose_of Second v n = v.second.loose n

-- two sides as one device, with the counts of the calls that failed on the side that was left, and of the writes
abbrev pub mirror_view : SidesView → Start → Serving → ℕ → ℕ → View
mirror_view v s c faults writes = record {
  reads = reads_of c v;
  loose = loose_of c v;
  sent = v.sent;
  clock = v.clock;
  left = λ t x f. IsShown v s c t x f;
  faults = faults;
  put_faults = v.put_faults;
  writes = writes;
}

-- the second side isn't sound now
abbrev pub IsSecondOut : Start → SideView → Type 0
IsSecondOut s v = v.faults ≤ s.second_faults → v.syncs ≤ s.second_syncs

-- The counts agree with which sides count.
pub record CountsAgree (v : SidesView) (s : Start) (c : Serving) : Type 0 where
  -- counts never fell, and no count stood at its end
  pub first_later : s.first_faults ≤ v.first.faults
  pub second_later : s.second_faults ≤ v.second.faults
  pub first_fits : s.first_faults < 2 ^ 64 - 1
  pub second_fits : c ≢ First → s.second_faults < 2 ^ 64 - 1
  pub syncs_fit : c ≢ First → s.second_syncs < 2 ^ 64 - 1
  -- the copying was done
  pub copied : c ≢ First → s.second_syncs < v.second.syncs
  -- both count: neither has failed a call
  pub first_in : c ≡ Both → v.first.faults ≤ s.first_faults
  pub second_in : c ≡ Both → v.second.faults ≤ s.second_faults
  -- one is left: the other isn't sound now
  pub second_out : c ≡ First → IsSecondOut s v.second
  pub first_out : c ≡ Second → s.first_faults < v.first.faults
  -- the second one alone isn't lost but by a call of it that failed, where its counts could rise
  pub second_failed : c ≡ First → s.second_faults < 2 ^ 64 - 1 → s.second_syncs < 2 ^ 64 - 1
      → s.second_faults < v.second.faults

-- sides that both count read alike, and the same sectors are loose
pub record SidesReadAlike (v : SidesView) (c : Serving) : Type 0 where
  pub reads : c ≡ Both → v.first.reads ≡ v.second.reads
  pub loose : c ≡ Both → v.first.loose ≡ v.second.loose

-- a call has failed on the side that was left, so neither is sound now
pub record NoneIsSound (v : SidesView) (s : Start) : Type 0 where
  pub first : s.first_faults < v.first.faults
  pub second : IsSecondOut s v.second

-- no call has failed on the side that was left, so it is sound now where it counts
pub record LeftIsSound (v : SidesView) (s : Start) (c : Serving) : Type 0 where
  pub first : c ≡ First → v.first.faults ≤ s.first_faults
  pub second : c ≡ Second → v.second.faults ≤ s.second_faults

-- both counts of a side stay
pub record StayCounts (old new : SideView) : Type 0 where
  pub faults : new.faults ≡ old.faults
  pub syncs : new.syncs ≡ old.syncs

-- no write and no sync of a side answered Ok
pub record IsLeftAlone (old new : SideView) : Type 0 where
  pub writes : new.writes ≡ old.writes
  pub syncs : new.syncs ≡ old.syncs

-- A side that is lost after a call was neither written nor synced by it, not by the call that lost it either.
pub record LostRest (c' : Serving) (old new : SidesView) : Type 0 where
  pub first : c' ≡ Second → IsLeftAlone old.first new.first
  pub second : c' ≡ First → IsLeftAlone old.second new.second

-- a call failed on the side that is left
abbrev pub LeftFailed : Serving → SidesView → SidesView → Type 0
LeftFailed Both old new = ⊥
LeftFailed First old new = Rose old.first.faults new.first.faults
LeftFailed Second old new = Rose old.second.faults new.second.faults

-- One call of a mirror, which sides counted before it and count after it.
pub record OneCall {T E : Type 0} (result : Result T E) (c c' : Serving) (old new : SidesView) : Type 0 where
  -- no call is made on a side that is lost, and it stays lost
  pub first_lost : c ≡ Second → StayCounts old.first new.first × (c' ≡ Second)
  pub second_lost : c ≡ First → StayCounts old.second new.second × (c' ≡ First)
  -- a side is lost by a call of it that failed in this one
  pub first_failed : c ≢ Second → c' ≡ Second → Rose old.first.faults new.first.faults
  pub second_failed : c ≢ First → c' ≡ First → Rose old.second.faults new.second.faults
  -- it fails only where the side that is left failed in this call
  pub failed : OnErr result (LeftFailed c' old new)

-- a side is lost: a call on it failed while the other one was left
abbrev pub IsSideLost : Side → Serving → Type 0
IsSideLost FirstSide c = c ≡ Second
IsSideLost SecondSide c = c ≡ First

-- what holds of the image of each side that is sound in an item and, where neither is, of that of the side that is left
abbrev pub EachSound : Start → Serving → Item → (Image → Type 0) → Type 0
EachSound s c i P =
    (IsFirstSound s i → P i.first.image)
    × (IsSecondSound s i → P i.second.image)
    × ((IsFirstSound s i → ⊥) → (IsSecondSound s i → ⊥) → P (image_left c i))
