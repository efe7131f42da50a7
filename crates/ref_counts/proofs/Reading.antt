-- The counts of the sectors, one sector after another.
use Rattle.std.proofs.Common.{◌≡◌, inl, inr, ℕ, ◌+◌, ◌-◌, ◌*◌, ◌/◌, ◌%◌, ◌<◌, List, get_or, sym, ◌∙◌, ap, arith}
use Rattle.std.proofs.lemmas.Bool.{cases_lt}
use Rattle.byteorder.specs.Endian.{little_from}
use Rattle.tsd_model.specs.declared.geometry.Geometry.{Geometry}
use Rattle.image_layout.specs.Image.{Image, stored_count}
use Rattle.ref_counts.specs.Loading.{FrontIsRead}
use Rattle.ref_counts.specs.Stored.{IsStored}

-- the count of a block as its sector has it
abbrev pub number_of : Image → ℕ → ℕ
number_of x block = little_from (4 * (block % 128)) 4 (x (134 + block / 128))

-- the k-th count of a sector is that of a block
pub number_in : (x : Image) (part k : ℕ) → k < 128 → number_of x (128 * part + k) ≡ little_from (4 * k) 4 (x (134 + part))
number_in x part k less =
    let rest : (128 * part + k) % 128 ≡ k = omega arith in
    let whole : (128 * part + k) / 128 ≡ part = omega arith in
    ap (λ r. little_from (4 * r) 4 (x (134 + (128 * part + k) / 128))) rest ∙ ap (λ w. little_from (4 * k) 4 (x (134 + w))) whole

-- the counts of one sector more
pub read_more : (x : Image) (part len : ℕ) (old new bytes : List ℕ) → bytes ≡ x (134 + part)
    → ((k : ℕ) → k < 128 → 128 * part + k < len → get_or new (128 * part + k) 0 ≡ little_from (4 * k) 4 bytes)
    → ((block : ℕ) → block < 128 * part → get_or new block 0 ≡ get_or old block 0)
    → ((block : ℕ) → block < 128 * part → block < len → get_or old block 0 ≡ number_of x block)
    → (block : ℕ) → block < 128 * (part + 1) → block < len → get_or new block 0 ≡ number_of x block
read_more x part len old new bytes is here before so_far block less inside = elim (cases_lt block (128 * part)) [
  | inl below ↦ before block below ∙ so_far block below inside
  | inr at ↦
      let k : ℕ = block - 128 * part in
      let fits : k < 128 = omega arith in
      let position : block ≡ 128 * part + k = omega arith in
      ap (λ b. get_or new b 0) position ∙ here k fits (omega arith) ∙ ap (λ bs. little_from (4 * k) 4 bs) is ∙ sym (number_in x part k fits) ∙ ap (number_of x) (sym position)
]

-- what the sectors have is what the image stores
pub stored_is : (x : Image) (g : Geometry) (block : ℕ) → stored_count x g block ≡ number_of x block
stored_is x g block =
    let byte : 4 * block % 512 ≡ 4 * (block % 128) = omega arith in
    let sector : 4 * block / 512 ≡ block / 128 = omega arith in
    ap (λ b. little_from b 4 (x (134 + 4 * block / 512))) byte ∙ ap (λ s. little_from (4 * (block % 128)) 4 (x (134 + s))) sector

pub all_stored : (x : Image) (g : Geometry) (counts : List ℕ) (len : ℕ) → len ≡ g.blocks → FrontIsRead len counts x → IsStored counts g x
all_stored x g counts len is read block inside = stored_is x g block ∙ sym (read block (omega arith))
