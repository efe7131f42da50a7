-- What holds of the disk of blocks at each moment.
use Rattle.std.proofs.Common.{◌≡◌, inl, inr, ℕ, zero, suc, ◌≤◌, false, List, [], ◌∷◌, length, Some}
use Rattle.std.proofs.Common.{refl, sym, ◌∙◌, ap, subst, arith}
use Rattle.std.proofs.Props.{props}
use Rattle.tsd_model.specs.World.{World}
use Rattle.tsd_model.specs.declared.requests.PlaceKind.{PlaceKind}
use Rattle.disk_laws.specs.Bytes.{AreLike}
use Rattle.image_device.specs.View.{View}
use Rattle.image_layout.specs.declared.offset.Patch.{Patch}
use Rattle.image_world.specs.Tables.{Tables}
use Rattle.image_world.specs.Raw.{blank_of}
use Rattle.image_world.proofs.WorldLaws.{told_like}
use Rattle.intent_journal.specs.Records.{JournalRecord}
use Rattle.fs_port.specs.View.{IsDiskSound, Left}
use Rattle.tsd_core.specs.Core.{Core, told_world}
use Rattle.core_blocks.specs.Once.{good_prop, holds_prop}
use Rattle.gathered_tasks.specs.Held.{IsInMemory, IsReadyInMemory}
use Rattle.gathered_tasks.specs.Rooms.{gathered}
use Rattle.gathered_tasks.specs.declared.asked.Before.{Before}
use Rattle.gathered_tasks.specs.Blocks.{There, IsOfSince, HasLeft, blocks_view, held_world}

pub memory_prop : (told : Type 0) (c : Core) (ring : List JournalRecord) (batch : List Patch) (v : View)
    → IsProp (told → c.volume.is_spent ≡ false → IsInMemory c ring batch v)
memory_prop told c ring batch v = hlevel (props, holds_prop, good_prop)

pub ready_prop : (c : Core) → IsProp (c.volume.is_spent ≡ false → IsReadyInMemory c)
ready_prop c = hlevel props

module _ {P : Type 0} (view : P → View) (kind : PlaceKind) where
  -- none came since the last one
  pub none_since : (t : ℕ) (bs : List (Before P)) (u : World) → length bs ≤ t → IsOfSince view kind t bs u → ⊥
  none_since t [] u le was = was
  none_since t (b ∷ bs) u le (inl is) = let early : t ≤ length bs = is.0 in omega (arith, le, early)
  none_since t (b ∷ bs) u le (inr was) = none_since t bs u (omega (arith, le)) was

  pub blocks_sound : (lenders : ℕ × ℕ) (start : View) (here : There P) (bs : List (Before P))
      → here.core.volume.is_spent ≡ false → IsInMemory here.core here.room.ring (gathered here.room) (view here.dev)
      → IsDiskSound (blocks_view view lenders kind start here bs)
  blocks_sound lenders start here bs unspent at = record {
    geometry = sym like.geometry;
    version = sym like.version;
    records = sym like.records;
    counts_now = λ t le. (record { image = (view here.dev).reads; world = Some now }, refl, stands_at t);
    only_now = λ x f left. only x f left;
  }
    where
      now : World
      now = held_world view here.room here.dev

      like : AreLike (told_world here.core) now
      like = subst (λ (t : Tables). AreLike (blank_of t) now) at.fits.tables (told_like _)

      stands_at : (t : ℕ)
          → HasLeft view kind start here bs t (record { image = (view here.dev).reads; world = Some now })
          (view here.dev).sent
      stands_at zero = (inl (unspent, refl), refl)
      stands_at (suc t) = (now, refl, inl (unspent, refl), refl)

      only : (x : Left) (f : List ℕ) → HasLeft view kind start here bs (suc (length bs)) x f
          → (x.world ≡ Some now) × (f ≡ (view here.dev).sent)
      only x f left = elim left.2 [
        | inl is ↦ (left.1 ∙ ap (λ (u : World). Some u) is.1, left.3)
        | inr was ↦ absurd (none_since (length bs) bs left.0 (omega arith) was)
      ]
