-- Bytes in the sectors of a live block are the bytes of that block.
use Rattle.std.proofs.Common.{◌≡◌, ◌≢◌, ℕ, zero, suc, ◌+◌, ◌*◌, ◌<◌, ◌≤◌, true, false, inl, inr, cond, List, ◌++◌, length, take, drop, refl, sym, ◌∙◌, ap, subst, arith}
use Rattle.std.proofs.Common.{Option, Some, None, Ok}
use Rattle.image_world.proofs.Common.{drop_of_length-le, nat_tests, slice_set, slice_index_or, cases_eq, drop-drop, take-append-drop, length-set, ext_get_or, get_or-set_same, get_or-set_other, Geometry, block_len, World, contents, is_live, with_contents, header_sector, data_start, data_sector, Image, sector_bytes, data_bytes, is_marked_in, home, is_journal, IsHeaderReading, header_of, IsFormatGateOpen, HasJournal, HasHeader, AreRight, world_of, Stands, Tables, header_on, tables_of, world_with, left_of, data_on, raw_of}
use Rattle.image_layout.proofs.ThingLaws.{parts_apart}
use Rattle.image_world.specs.Written.{IsWritten}
use Rattle.image_world.proofs.AlikeLaws.{same_data, tables_alike}
use Rattle.image_world.proofs.AreaLaws.{SameAreas}
use Rattle.image_world.proofs.StandLaws.{right_alike}
use Rattle.image_world.proofs.LikeLaws.{live_inside, left_contents, left_live}
use Rattle.image_world.proofs.RawLaws.{contents_with, live_with, blocks_with}

-- ---- the bytes of the block
joined : (bytes : List ℕ) (y : Image) (first k at : ℕ) → ((i : ℕ) → i < k → y (first + i) ≡ take 512 (drop (512 * (at + i)) bytes)) → length bytes ≡ 512 * (at + k) → sector_bytes y first k ≡ drop (512 * at) bytes
joined bytes y first zero at parts long = sym (drop_of_length-le bytes (omega (arith, long)))
joined bytes y first (suc k) at parts long =
    let here : y first ≡ take 512 (drop (512 * at) bytes) = ap y (omega arith) ∙ (parts 0 (omega arith) ∙ ap (λ (n : ℕ). take 512 (drop (512 * n) bytes)) (omega arith)) in
    let rest : sector_bytes y (first + 1) k ≡ drop (512 * (at + 1)) bytes =
    joined bytes y (first + 1) k (at + 1) (λ i h. ap y (omega arith) ∙ (parts (i + 1) (omega arith) ∙ ap (λ (n : ℕ). take 512 (drop (512 * n) bytes)) (omega arith))) (omega (arith, long)) in
    let further : drop (512 * (at + 1)) bytes ≡ drop 512 (drop (512 * at) bytes) = ap (λ (n : ℕ). drop n bytes) (omega arith) ∙ sym (drop-drop 512 (512 * at) bytes) in
    (λ i. here i ++ (rest ∙ further) i) ∙ take-append-drop 512 (drop (512 * at) bytes)

pub written_bytes : (g : Geometry) (b : ℕ) (bytes : List ℕ) (x y : Image) → IsWritten g b bytes x y → length bytes ≡ block_len g → data_bytes y g b ≡ bytes
written_bytes g b bytes x y written long = joined bytes y (data_sector g b 0) g.sectors 0 (λ i h. ap y (omega arith) ∙ (written.parts i h ∙ ap (λ (k : ℕ). take 512 (drop (512 * k) bytes)) (omega arith))) (omega (arith, long))

-- ---- what the sectors say then
below_data : (g : Geometry) (b part n : ℕ) → n < 134 → n ≢ data_sector g b part
below_data g b part n low same = omega arith

before_data : (g : Geometry) (b part n : ℕ) → n < data_start g → n ≢ data_sector g b part
before_data g b part n low same = omega arith

pub above_journal : (n : ℕ) → 131 ≤ n → is_journal n ≡ false
above_journal n high = grind (arith, nat_tests)

pub written_header : (g : Geometry) (b : ℕ) (bytes : List ℕ) (x y : Image) → IsWritten g b bytes x y → y header_sector ≡ x header_sector
written_header g b bytes x y written = written.others header_sector refl (λ part h. below_data g b part header_sector (omega arith))

pub written_areas : (g : Geometry) (b : ℕ) (bytes : List ℕ) (x y : Image) → IsWritten g b bytes x y → SameAreas g x y
written_areas g b bytes x y written = λ n from to. written.others n (above_journal n from) (λ part h. before_data g b part n to)

pub written_others : (g : Geometry) (b c : ℕ) (bytes : List ℕ) (x y : Image) → IsWritten g b bytes x y → c ≢ b → data_bytes y g c ≡ data_bytes x g c
written_others g b c bytes x y written other =
    same_data x y g c (λ part h. written.others (data_sector g c part) (above_journal (data_sector g c part) (omega arith)) (λ k inside. parts_apart g c b part k h inside other))

pub written_tables : (b : ℕ) (bytes : List ℕ) (x y : Image) → HasHeader x → IsWritten (header_on x).geometry b bytes x y → tables_of y ≡ tables_of x
written_tables b bytes x y right written =
    tables_alike x y right (written_header (header_on x).geometry b bytes x y written) (written_areas (header_on x).geometry b bytes x y written)

-- the world of tables where one block has other bytes
pub set_with : (t : Tables) (c d : ℕ → List ℕ) (b : ℕ) (bytes : List ℕ) → b < t.geometry.blocks → is_marked_in t.live b ≡ true → d b ≡ bytes → ((k : ℕ) → k ≢ b → d k ≡ c k)
    → world_with t d ≡ with_contents (world_with t c) b bytes
unfolding world_with
set_with t c d b bytes inside live here others = λ i. record (world_with t c) { blocks = blocks i }
  where
    old : List (Option (List ℕ))
    old = (world_with t c).blocks

    each : (k : ℕ) → k < length (world_with t d).blocks → slice_index_or (world_with t d).blocks k None ≡ slice_index_or (slice_set old b (Some bytes)) k None
    each k h =
        let below : k < t.geometry.blocks = omega (arith, blocks_with t d) in
        elim (cases_eq k b) [
          | inl same ↦
              let now : contents (world_with t d) b ≡ Some bytes = contents_with t d b inside ∙ (ap (λ v. cond v (Some (d b)) None) live ∙ ap Some here) in
              subst (λ n. slice_index_or (world_with t d).blocks n None ≡ slice_index_or (slice_set old b (Some bytes)) n None) (sym same)
              (now ∙ sym (get_or-set_same old b (Some bytes) None (omega (arith, blocks_with t c))))
          | inr other ↦
              contents_with t d k below ∙ (ap (λ bs. cond (is_marked_in t.live k) (Some bs) None) (others k other)
              ∙ (sym (contents_with t c k below) ∙ sym (get_or-set_other old b k (Some bytes) None other)))
        ]

    blocks : (world_with t d).blocks ≡ slice_set old b (Some bytes)
    blocks = ext_get_or None (world_with t d).blocks (slice_set old b (Some bytes)) (blocks_with t d ∙ sym (length-set old b (Some bytes) ∙ blocks_with t c)) each

geometry_is : (x : Image) → (tables_of x).geometry ≡ (header_on x).geometry
unfolding tables_of
geometry_is x = refl

pub written_raw : (b : ℕ) (bytes : List ℕ) (x y : Image) → HasHeader x → IsWritten (header_on x).geometry b bytes x y → length bytes ≡ block_len (header_on x).geometry → is_live (raw_of x) b ≡ true
    → raw_of y ≡ with_contents (raw_of x) b bytes
unfolding tables_of
written_raw b bytes x y right written long live =
    let t = tables_of x in
    let g = (header_on x).geometry in
    let inside : b < t.geometry.blocks = omega (arith, live_inside (raw_of x) b live, blocks_with t (data_on x)) in
    let marked : is_marked_in t.live b ≡ true = sym (live_with t (data_on x) b inside) ∙ live in
    ap (λ (s : Tables). world_with s (λ k. data_bytes y s.geometry k)) (written_tables b bytes x y right written)
    ∙ set_with t (data_on x) (λ k. data_bytes y g k) b bytes inside marked (written_bytes g b bytes x y written long) (λ k other. written_others g b k bytes x y written other)

-- ---- images
pub written_stands : (image y : Image) (w : World) (b : ℕ) (bytes : List ℕ) → Stands image w → is_live w b ≡ true → length bytes ≡ block_len (header_on (home image)).geometry
    → IsWritten (header_on (home image)).geometry b bytes (home image) (home y) → IsFormatGateOpen y → HasJournal y → Stands y (with_contents w b bytes)
unfolding world_of
written_stands image y w b bytes stands live long written formatted journal =
    let x = home image in
    let h = header_on x in
    let right = stands.good.header in
    let left : is_live (left_of (tables_of x) (raw_of x)) b ≡ true = ap (λ v. is_live v b) (sym stands.world) ∙ live in
    let raw : is_live (raw_of x) b ≡ true = left_live (tables_of x) (raw_of x) b left in
    let header = written_header h.geometry b bytes x (home y) written in
    record {
      good = record {
        formatted = formatted;
        journal = journal;
        header = subst (λ bs. IsHeaderReading bs (Ok (header_of bs))) (sym header) right;
        tables = subst (λ bs. AreRight (home y) (header_of bs).geometry) (sym header) (right_alike h.geometry x (home y) right.2 (written_areas h.geometry b bytes x (home y) written) stands.good.tables);
      };
      world =
          ap (λ v. with_contents v b bytes) stands.world
          ∙ (sym (left_contents (tables_of x) (raw_of x) b bytes left)
          ∙ sym (λ i. left_of (written_tables b bytes x (home y) right written i) (written_raw b bytes x (home y) right written long raw i)));
    }
