-- Where no call is made.
use Rattle.std.proofs.Common.{◌≡◌, ℕ, ◌≤◌, inl, refl, sym, ◌∙◌, ap, subst, arith}
use Rattle.volume_laws.proofs.Common.{View, IsSound, started, firm_image, joined, weakened, Image, home, tables_of, Stands, Volume, IsVolumeAt, world_on, LeavesEither, LeavesWorld, LeavesOwed, StandsForEither, owed}

here_stands : (vol : Volume) (v : View) → IsVolumeAt vol v → Stands v.reads (world_on v)
here_stands vol v at = record { good = at.good; world = refl }

pub idle_world : (vol : Volume) (v : View) → IsSound v → IsVolumeAt vol v → LeavesWorld v v
idle_world vol v sound at = started v (λ x f. Stands x (world_on v) × (f ≡ v.sent)) sound (λ x f left. (subst (λ (y : Image). Stands y (world_on v)) (sym (firm_image v at.firm x f left)) (here_stands vol v at), left.1))

pub idle_either : (vol : Volume) (v : View) → IsSound v → IsVolumeAt vol v → LeavesEither v v (world_on v)
idle_either vol v sound at =
    weakened v v (λ x f. Stands x (world_on v) × (f ≡ v.sent)) (λ x f. StandsForEither (world_on v) (world_on v) x × (f ≡ v.sent)) (idle_world vol v sound at) (λ x f left. (inl left.0, left.1))

pub idle_owed : (vol : Volume) (v : View) → IsSound v → IsVolumeAt vol v → LeavesOwed v v (owed vol.tables)
idle_owed vol v sound at = started v (λ x f. owed (tables_of (home x)) ≤ owed vol.tables) sound (λ x f left.
    subst (λ (y : Image). owed (tables_of (home y)) ≤ owed vol.tables) (sym (firm_image v at.firm x f left))
    (let e : owed (tables_of (home v.reads)) ≡ owed vol.tables = ap owed at.tables in omega (arith, e)))

-- one after the other
pub world_joined : (old mid new : View) → LeavesWorld old mid → LeavesWorld mid new → world_on mid ≡ world_on old → mid.sent ≡ old.sent → LeavesWorld old new
world_joined old mid new one two same sent = joined old mid new _ _ one two (λ x f left. (subst (λ w. Stands x w) same left.0, left.1 ∙ sent))

pub owed_joined : (old mid new : View) (few most : ℕ) → LeavesOwed old mid most → LeavesOwed mid new few → few ≤ most → LeavesOwed old new most
owed_joined old mid new few most one two less = joined old mid new _ _ one two (λ x f left. omega (arith, left, less))
