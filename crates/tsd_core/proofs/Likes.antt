-- Worlds that are like, and what is told of them.
use Rattle.std.proofs.Common.{◌≡◌, ℕ, ◌+◌, ◌*◌, ◌≤◌, refl, sym, subst, arith, inl, inr}
use Rattle.tsd_core.proofs.Common.{World, IsLawful, block_len, IsBlockSize, Geometry, AreLike, zeroed_cost}
use Rattle.std.proofs.Math.Nat.{mul-le-mul_left}

pub like_itself : (w : World) → AreLike w w
like_itself w = record { geometry = refl; version = refl; count = refl; live = λ b. refl; pairs = refl; records = refl }

pub like_back : (v w : World) → AreLike v w → AreLike w v
like_back v w like = record { geometry = sym like.geometry; version = sym like.version; count = sym like.count; live = λ b. sym (like.live b); pairs = sym like.pairs; records = sym like.records }

pub like_as : (v w : World) → v ≡ w → AreLike v w
like_as v w same = subst (AreLike v) same (like_itself v)

-- at most 32 blocks have at most 256 sectors
pub sectors_of_blocks : (g : Geometry) (len : ℕ) → IsLawful g → len ≤ 32 → g.sectors * len ≤ 256
sectors_of_blocks g len lawful few = elim lawful.sectors [
  | inl one ↦ subst (λ k. k * len ≤ 256) (sym one) (omega (arith, few))
  | inr more ↦ elim more [
    | inl two ↦ subst (λ k. k * len ≤ 256) (sym two) (omega (arith, few))
    | inr rest ↦ elim rest [ inl four ↦ subst (λ k. k * len ≤ 256) (sym four) (omega (arith, few)) | inr eight ↦ subst (λ k. k * len ≤ 256) (sym eight) (omega (arith, few)) ]
  ]
]

-- a block's bytes have one of four lengths
pub block_size_of : (g : Geometry) (n : ℕ) → IsLawful g → n ≡ block_len g → IsBlockSize n
block_size_of g n lawful e = elim lawful.sectors [
  | inl one ↦ inl (omega (arith, e, one))
  | inr more ↦ elim more [
    | inl two ↦ inr (inl (omega (arith, e, two)))
    | inr rest ↦ elim rest [ inl four ↦ inr (inr (inl (omega (arith, e, four)))) | inr eight ↦ inr (inr (inr (omega (arith, e, eight)))) ]
  ]
]

-- more new blocks cost no less
pub zeroed_more : (g : Geometry) (few many : ℕ) → few ≤ many → zeroed_cost g few ≤ zeroed_cost g many
zeroed_more g few many less = let sectors = mul-le-mul_left g.sectors less in omega (arith, sectors, less)

pub due_more : (due few many : ℕ) → few ≤ many → due + few ≤ due + many
due_more due few many less = omega (arith, less)
