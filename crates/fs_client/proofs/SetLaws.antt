-- What a set of blocks has, told by a list.
use Rattle.std.proofs.Common.{◌≡◌, ℕ, ◌<◌, Bool, true, false, not, ◌||◌, ◌==◌, List, [], ◌∷◌, sym, ◌∙◌, ap, arith}
use Rattle.fs_client.proofs.Common.{is_live, has_number, live_below, DiskView, IsValidNow}
use Rattle.fs_client.specs.Marked.{has_block, HasNone, Gains, Agrees}
use Rattle.fs_client.specs.declared.block_set.BlockSet.{BlockSet}

-- a live block is within every set
pub on_disk : (v : DiskView) (b : ℕ) → IsValidNow v → is_live v.world b ≡ true → b < 1048576
on_disk v b now live =
    let below = live_below v.world.blocks b live in
    let many = now.valid.raw.sized.each_block in
    let most = now.valid.raw.sized.lawful.blocks.1 in
    omega (arith, below, many, most)

pub agrees_none : (m : BlockSet) → HasNone m → Agrees m []
agrees_none m none b = none b

pub agrees_more : (m next : BlockSet) (bs : List ℕ) (b : ℕ) → b < 1048576 → Agrees m bs → Gains m next b → Agrees next (b ∷ bs)
agrees_more m next bs b small agrees gains a = gains small a ∙ ap (λ t. (b == a) || t) (agrees a)

flipped : (p q : Bool) → p ≡ not q → q ≡ not p
flipped p true e = ap not (sym e)
flipped p false e = ap not (sym e)

-- what putting in tells
pub is_new : (m : BlockSet) (bs : List ℕ) (b : ℕ) (result : Bool) → Agrees m bs → result ≡ not (has_block m b) → has_number bs b ≡ not result
is_new m bs b result agrees e = sym (agrees b) ∙ flipped result (has_block m b) e
