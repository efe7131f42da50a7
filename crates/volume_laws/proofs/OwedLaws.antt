-- What is owed in the images that a run leaves which changes no table, or makes new blocks.
use Rattle.std.proofs.Common.{◌≡◌, ℕ, ◌≤◌, Bool, ⊎_elim, List, sym, ◌∙◌, ap, subst, arith}
use Rattle.volume_laws.proofs.Common.{View, IsLeftWithin, LeavesOnly, IsConfined, weakened, Image, Patch, IsBefore, IsAfter, IsBeforeOrAfter, home, overlaid, Geometry, Tables, header_on, tables_of, IsWritten, alike_tables, written_tables, AreFree, LeavesOwed, owed, Turns, AreUnused, Volume, IsVolumeAt, IsZeroedAt, firmed, or_false, unused_agree}
use Rattle.volume_laws.proofs.Committed.{image_geometry, written_after}
use Rattle.volume_laws.proofs.StepOps.{before_tables, after_tables}
use Rattle.volume_laws.proofs.ZeroedLaws.{loosely_tables}

same_owed : (t u : Tables) → t ≡ u → owed t ≤ owed u
same_owed t u same = let e : owed t ≡ owed u = ap owed same in omega (arith, e)

-- the ring is emptied
pub kept_owed : (vol : Volume) (old new : View) → IsVolumeAt vol old → LeavesOnly old new (λ x f. IsBefore old x × (f ≡ old.sent)) → LeavesOwed old new (owed vol.tables)
kept_owed vol old new at leaves = weakened old new (λ x f. IsBefore old x × (f ≡ old.sent)) (λ x f. owed (tables_of (home x)) ≤ owed vol.tables) leaves
    (λ x f left. same_owed (tables_of (home x)) vol.tables (before_tables vol old x at left.0))

-- unused sectors are written
pub unused_owed : (vol : Volume) (old new : View) (some : ℕ → Bool) → IsVolumeAt vol old → AreUnused (header_on (home old.reads)).geometry (home old.reads) some → IsConfined some old new → LeavesOwed old new (owed vol.tables)
unused_owed vol old new some at unused run = weakened old new (IsLeftWithin some old) (λ x f. owed (tables_of (home x)) ≤ owed vol.tables) run.leaves
    (λ x f left. same_owed (tables_of (home x)) vol.tables
    (alike_tables (home old.reads) (home x) at.good.header (unused_agree old.reads x some unused (λ n out. left.0.agrees n (or_false (some n) (old.loose n) out (at.firm n)))).homes ∙ at.tables))

-- a block's bytes are committed
pub written_owed : (vol : Volume) (old new : View) (batch : List Patch) (g : Geometry) (b : ℕ) (bytes : List ℕ) → IsVolumeAt vol old → g ≡ vol.tables.geometry
    → ((z : Image) → IsWritten g b bytes z (overlaid batch z)) → LeavesOnly old new (λ x f. IsBeforeOrAfter batch old x × (f ≡ old.sent)) → LeavesOwed old new (owed vol.tables)
written_owed vol old new batch g b bytes at same written leaves = weakened old new (λ x f. IsBeforeOrAfter batch old x × (f ≡ old.sent)) (λ x f. owed (tables_of (home x)) ≤ owed vol.tables) leaves
    (λ x f left. same_owed (tables_of (home x)) vol.tables (⊎_elim (λ before. before_tables vol old x at before) (after x) left.0))
  where
    size : g ≡ (header_on (home old.reads)).geometry
    size = same ∙ sym (image_geometry vol old at)

    after : (x : Image) → IsAfter batch old x → tables_of (home x) ≡ vol.tables
    after x is = written_tables b bytes (home old.reads) (home x) at.good.header (subst (λ k. IsWritten k b bytes (home old.reads) (home x)) size (written_after batch g b bytes old.reads x written is.stands)) ∙ at.tables

-- new blocks are committed whose zeros may be loose
pub zeroed_owed : (vol : Volume) (old new : View) (bs : List ℕ) (batch : List Patch) (now : Tables) → IsZeroedAt vol old bs → AreFree vol.tables.live vol.tables.geometry.blocks bs → Turns vol.tables now batch → owed now ≤ owed vol.tables
    → LeavesOnly old new (λ x f. IsBeforeOrAfter batch old x × (f ≡ old.sent)) → LeavesOwed old new (owed vol.tables)
zeroed_owed vol old new bs batch now z free turns less leaves = weakened old new (λ x f. IsBeforeOrAfter batch old x × (f ≡ old.sent)) (λ x f. owed (tables_of (home x)) ≤ owed vol.tables) leaves
    (λ x f left. ⊎_elim
    (λ before. same_owed (tables_of (home x)) vol.tables (loosely_tables vol old bs x z free before))
    (λ after. subst (λ (t : Tables). owed t ≤ owed vol.tables) (sym (after_tables vol (firmed old) x batch now z.at turns (record { valid = after.valid; stands = after.stands }))) less) left.0)
