-- A world whose parts are those of another one of the right sizes.
use Rattle.std.proofs.Common.{◌≡◌, ℕ, List, sym, subst}
use Rattle.std.proofs.Common.{Option}
use Rattle.tsd_model.specs.World.{World}
use Rattle.tsd_model.specs.Valid.{IsSized}
use Rattle.tsd_model.specs.declared.geometry.Geometry.{Geometry}
use Rattle.tsd_model.specs.declared.records.Record.{Record}

-- whatever the version and the records are
pub sized_parts : (w : World) (g : Geometry) (version : ℕ) (blocks : List (Option (List ℕ))) (pairs : List (ℕ × ℕ)) (records : List Record) →
    g ≡ w.geometry → blocks ≡ w.blocks → pairs ≡ w.pairs → IsSized w → IsSized (record { geometry = g; version = version; blocks = blocks; pairs = pairs; records = records })
sized_parts w g version blocks pairs records eg eb ep h =
    let P : Geometry → List (Option (List ℕ)) → List (ℕ × ℕ) → Type 0 = λ x y z. IsSized (record { geometry = x; version = version; blocks = y; pairs = z; records = records }) in
    let base : P w.geometry w.blocks w.pairs = record { lawful = h.lawful; each_block = h.each_block; full = h.full; room = h.room } in
    subst (λ x. P x blocks pairs) (sym eg) (subst (λ y. P w.geometry y pairs) (sym eb) (subst (λ z. P w.geometry w.blocks z) (sym ep) base))
