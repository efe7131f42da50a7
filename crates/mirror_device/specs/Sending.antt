-- When bytes are sent: only once the copying has ended or the second side has failed.
use Rattle.std.specs.Prelude.{◌-◌, ◌^◌, ◌<◌, ◌≤◌, ◌≡◌}
use Rattle.mirror_device.specs.SidesView.{SideItem, SidesView, Item}
use Rattle.mirror_device.specs.Mirror.{Start}
use Rattle.mirror_device.specs.Copying.{InCopying}

-- Both counts of the second side can rise. Where one stood at its end as the mirror began, nothing is copied and that
-- side is lost.
pub record CanRise (s : Start) : Type 0 where
  pub faults : s.second_faults < 2 ^ 64 - 1
  pub syncs : s.second_syncs < 2 ^ 64 - 1

-- the second side has failed no call and no sync of it has answered Ok
pub record IsIdle (s : Start) (i : SideItem) : Type 0 where
  pub faults : i.faults ≤ s.second_faults
  pub syncs : i.syncs ≤ s.second_syncs

-- No byte was sent while the second side had neither failed nor been synced, and by now it has.
pub record SendsLate (v : SidesView) (s : Start) : Type 0 where
  pub later : s.clock ≤ v.clock
  pub moved : CanRise s → v.second.faults ≤ s.second_faults → s.second_syncs < v.second.syncs
  pub only_then : CanRise s → (i : Item) → v.left s.clock i → IsIdle s i.second → i.sent ≡ s.sent

-- ---- where a mirror begins

-- The counts are those of the start. Time may have gone on.
pub record StartsAt (s : Start) (v : SidesView) : Type 0 where
  pub first_faults : v.first.faults ≡ s.first_faults
  pub second_faults : v.second.faults ≡ s.second_faults
  pub second_syncs : v.second.syncs ≡ s.second_syncs
  pub clock : s.clock ≤ v.clock

-- Since the start nothing was sent, and a crash left of the first side what one now leaves.
pub record IsIdleSince (s : Start) (v : SidesView) : Type 0 where
  pub sent : v.sent ≡ s.sent
  pub left : (i : Item) → v.left s.clock i → InCopying v i
