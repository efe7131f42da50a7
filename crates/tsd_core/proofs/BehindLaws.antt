-- What lies behind an image isn't touched by what is written to the blocks of its disk.
use Rattle.std.proofs.Common.{◌≡◌, ℕ, ◌+◌, ◌*◌, ◌<◌, ◌≤◌, true, false, ◌||◌, ◌&&◌, nat_le, nat_lt, List, [], ◌∷◌, refl, arith, Option, None}
use Rattle.std.specs.Prelude.{Result}
use Rattle.tsd_core.proofs.Common.{nat_tests, World, is_free, Sessions, chosen, chosen_run, run_at, IsSized, verdict, Geometry, Rule, PlaceKind, Request, LeavesPart, View, Failed, weakened, Image, behind, AllOf, AllOf-map, AllFree, chosen_are_free, chosen_run_is_free, granted_passes, HasSameData, KeepsData, bytes_given}
use Rattle.std.proofs.Math.Nat.{mul-le-mul_left}
use Rattle.tsd_model.specs.declared.requests.Request.TheVariants as ask
use Rattle.image_device.proofs.Sets.{or_false}
use Rattle.image_layout.specs.Areas.{total}
use Rattle.image_layout.specs.Offsets.{data_sector}
use Rattle.volume_laws.specs.Zeroed.{is_part, is_data}
use Rattle.tsd_core.proofs.FormLaws.{free_below}

-- these blocks are of a disk of this size
abbrev pub AreInside : Geometry → List ℕ → Type 0
AreInside g bs = AllOf (λ b. b < g.blocks) bs

-- the data of a block of the disk ends before the image does
part_inside : (g : Geometry) (b n : ℕ) → b < g.blocks → total g ≤ n → is_part g b n ≡ false
part_inside g b n inside from =
    let fits : g.sectors * (b + 1) ≤ g.sectors * g.blocks = mul-le-mul_left g.sectors (omega (arith, inside)) in
    over (data_sector g b 0) n (data_sector g b 0 + g.sectors) (omega (arith, from, fits))
  where
    over : (first m end : ℕ) → end ≤ m → (nat_le first m && nat_lt m end) ≡ false
    over first m end h = grind (arith, nat_tests)

data_inside : (g : Geometry) (bs : List ℕ) (n : ℕ) → AreInside g bs → total g ≤ n → is_data g bs n ≡ false
data_inside g [] n inside from = refl
data_inside g (b ∷ bs) n inside from = or_false (is_part g b n) (is_data g bs n) (part_inside g b n inside.0 from) (data_inside g bs n inside.1 from)

-- where all but these blocks have the same data, the same lies behind the image
pub behind_of_data : (g : Geometry) (bs : List ℕ) (image x : Image) → AreInside g bs → HasSameData g bs image x → behind g x ≡ behind g image
behind_of_data g bs image x inside same = λ i n. same (total g + n) (omega arith) (data_inside g bs (total g + n) inside (omega arith)) i

-- so a call that gives bytes to these blocks alone leaves it
pub leaves_behind : {T : Type 0} (r : Result T Failed) (g : Geometry) (bs : List ℕ) (old new : View) → AreInside g bs → KeepsData g bs old new r → LeavesPart (behind g) old new
leaves_behind r g bs old new inside keeps =
    weakened old new (λ x f. HasSameData g bs old.reads x) (λ x f. behind g x ≡ behind g old.reads) keeps.left
    (λ x f same. behind_of_data g bs old.reads x inside same)

-- ---- the blocks that get bytes by a request that is granted are of the disk

free_inside : (w : World) (bs : List ℕ) → IsSized w → AllFree w bs → AreInside w.geometry bs
free_inside w bs sized free = AllOf-map (λ b. is_free w b ≡ true) (λ b. b < w.geometry.blocks) (λ b is. omega (arith, free_below w b is, sized.each_block)) bs free

named_inside : (most b : ℕ) → (nat_le most b || false) ≡ false → b < most
named_inside most b e = grind (arith, nat_tests)

pub given_inside : (kind : PlaceKind) (w : World) (v : Sessions) (q : Request) → IsSized w → ◌≡◌ {A = Option Rule} (verdict w v q) None → AreInside w.geometry (bytes_given kind w q)
given_inside kind w v (ask.Write s b shown bytes) sized granted = (named_inside w.geometry.blocks b (granted_passes w v (ask.Write s b shown bytes) granted).there, tt)
given_inside kind w v (ask.Alloc s a shown h count) sized granted = free_inside w (chosen kind w h count) sized (chosen_are_free kind w h count)
given_inside kind w v (ask.Contig s a shown h count) sized granted = free_inside w (run_at (chosen_run kind w h count) count) sized (chosen_run_is_free kind w h count)
given_inside kind w v q sized granted = tt
