-- What is left to be reclaimed, of a core over an image that it fits.
use Rattle.std.specs.Prelude.{◌≡◌, ℕ, List, []}
use Rattle.std.proofs.Common.{sym, ◌∙◌, ap, arith}
use Rattle.image_layout.specs.Image.{Image}
use Rattle.intent_journal.specs.Home.{home}
use Rattle.intent_journal.specs.Records.{AreClosed, JournalRecord}
use Rattle.intent_journal.specs.Ring.{checkpoint_writes}
use Rattle.image_world.specs.Debt.{debt, owed}
use Rattle.image_world.proofs.AgreeLaws.{same_owe}
use Rattle.gathering.specs.Left.{IsHomeOf}
use Rattle.gathering.proofs.Closed.{closed_ring}
use Rattle.volume_laws.specs.Writes.{due}
use Rattle.tsd_core.specs.Core.{Core, FitsReads}

-- how much a core owes
abbrev pub owed_by : Core → ℕ
owed_by c = owed c.volume.tables

-- it owes what an image owes that it fits
pub core_owes : (c : Core) (x : Image) → FitsReads c x → debt x ≡ owed_by c
core_owes c x held = ap owed held.tables

-- and an image with the home of that one owes as much
pub core_owed_alike : (c : Core) (x y : Image) → FitsReads c x → IsHomeOf (home x) y → debt y ≡ debt x
core_owed_alike c x y held same =
    same_owe x y held.good.header (record { valid = same.valid ∙ sym held.good.journal; stands = same.stands })

-- where nothing is owed and the journal is closed, no write is due
pub core_due_none : (c : Core) (x : Image) → FitsReads c x → AreClosed x → owed_by c ≡ 0 → due c.volume ≡ 0
core_due_none c x held closed none =
    let ring : c.volume.ring ≡ [] = sym held.shows ∙ (closed_ring x closed).shows in
    let writes : checkpoint_writes c.volume.ring ≡ 0 = ap (λ (rs : List JournalRecord). checkpoint_writes rs) ring in
    omega (arith, writes, none)
