-- The world for which an image stands.
use Rattle.std.proofs.Common.{◌≡◌, ℕ, ◌==◌, true, false, inl, inr, cond, List, [], ◌∷◌, suc, refl, sym, ◌∙◌, subst, arith}
use Rattle.std.proofs.Common.{Some}
use Rattle.image_world.proofs.Common.{Contains, slice_get, cases_Bool, World, IsRaw, IsValid, AreLike, settle_is_valid, IsSector, put_at, Image, Patch, home, overlaid, JournalRecord, patches_of, open_records, overlaid_append, put_here, put_elsewhere, world_with, left_of, blank_of, zeros_of, data_on, raw_of, world_of, Stands, Tables, tables_of}
use Rattle.graph_laws.proofs.SweepLaws.{sweeps_to_valid}
use Rattle.intent_journal.specs.Batch.{IsBatch}
use Rattle.intent_journal.proofs.OpenedRing.{opened_ring}
use Rattle.image_world.proofs.LikeLaws.{left_like, tables_like}
use Rattle.image_world.proofs.RawLaws.{raw_is_raw}

pub one_world : (image : Image) (v w : World) → Stands image v → Stands image w → v ≡ w
one_world image v w one other = one.world ∙ sym other.world

-- ---- sectors of 512 bytes stay so
overlaid_whole : (ps : List Patch) (x : Image) → ((i : ℕ) (p : Patch) → slice_get ps i ≡ Some p → IsSector p.bytes) → ((n : ℕ) → IsSector (x n)) → (n : ℕ) → IsSector (overlaid ps x n)
overlaid_whole [] x each whole = whole
overlaid_whole (p ∷ ps) x each whole =
    overlaid_whole ps (put_at p.sector p.bytes x) (λ i q at. each (suc i) q at) (λ n. elim (cases_Bool (n == p.sector)) [
      | inl e ↦ subst IsSector (sym (put_here p.sector p.bytes x n e)) (each 0 p refl)
      | inr e ↦ subst IsSector (sym (put_elsewhere p.sector p.bytes x n e)) (whole n)
    ])

records_whole : (rs : List JournalRecord) (x : Image) → ((r : JournalRecord) → Contains rs r → IsBatch r) → ((n : ℕ) → IsSector (x n)) → (n : ℕ) → IsSector (overlaid (patches_of rs) x n)
records_whole [] x each whole = whole
records_whole (r ∷ rs) x each whole = λ n.
    subst IsSector (sym (λ i. overlaid_append r (patches_of rs) x i n))
    (records_whole rs (overlaid r x) (λ q has. each q (suc has.0, (let less = has.1 in omega arith), has.2)) (overlaid_whole r x (each r (0, omega arith, refl)).whole whole) n)

pub home_whole : (x : Image) → ((n : ℕ) → IsSector (x n)) → (n : ℕ) → IsSector (home x n)
home_whole x whole = records_whole (open_records x) x (λ r has. ((opened_ring x whole).each r has).0) whole

-- ---- it is valid
pub left_valid : (t : Tables) (r : World) → IsRaw r → IsValid (left_of t r)
unfolding left_of
left_valid t r raw = elim t.is_sweeping as (λ s. IsValid (cond s _ _)) [ true ↦ sweeps_to_valid r raw | false ↦ settle_is_valid r raw ]

pub world_valid : (image : Image) (w : World) → ((n : ℕ) → IsSector (image n)) → Stands image w → IsValid w
unfolding world_of
world_valid image w whole stands =
    subst IsValid (sym stands.world) (left_valid (tables_of (home image)) (raw_of (home image)) (raw_is_raw (home image) (home_whole image whole) stands.good.header stands.good.tables))

-- ---- what tables tell of it
pub told_like : (image : Image) → AreLike (blank_of (tables_of (home image))) (world_of image)
unfolding world_of
told_like image = let t = tables_of (home image) in left_like t (world_with t (zeros_of t)) (world_with t (data_on (home image))) (tables_like t (zeros_of t) (data_on (home image)))

pub geometry_left : (t : Tables) (c : ℕ → List ℕ) → (left_of t (world_with t c)).geometry ≡ t.geometry
unfolding left_of world_with
geometry_left t c = elim (cases_Bool t.is_sweeping) [ inl e ↦ rw e refl | inr e ↦ rw e refl ]
