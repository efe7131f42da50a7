-- A new file, of its clusters.
use Rattle.std.proofs.Common.{◌≡◌, ℕ, suc, ◌+◌, ◌*◌, ◌<◌, ◌≤◌, true, List, [], ◌∷◌, length, refl, sym, ◌∙◌, ap, subst, arith, inl, inr, Result, Ok}
use Rattle.std.proofs.Common.{mul_comm}
use Rattle.chain_changes.proofs.Common.{cases_lt, length-drop, div_ceil_times, div-le_self, mul-le-mul_right, max, drop, div_ceil, block_len, World, has_number, are_apart, IsValid, bytes_room, clusters_for, Link, blocks_of, is_filled, FsRefusal, DiskView, IsValidNow, Runs, Client, MayWrite, runs_more, then_runs, Stage, IsAside, AreNew, AsideWith, NewChain, ArePartsOf, Wrote, NewFile}
use Rattle.chain_changes.proofs.WriteLaws.{in_drop, apart_drop}
use Rattle.chain_changes.proofs.PartLaws.{parts_bytes, parts_filled, part_filled}

-- the clusters of so many bytes, where there is room for so many in each
abbrev pub clusters : ℕ → ℕ → ℕ
clusters size room = max 1 (div_ceil size room)

pub any_clusters : (size room : ℕ) → size ≤ 4096 → clusters size room ≤ 4097
any_clusters size room h = let whole = div-le_self size room in let most : div_ceil size room ≤ 4097 = omega (arith, whole, h) in omega (arith, most)

pub some_clusters : (size room : ℕ) → 1 ≤ clusters size room
some_clusters size room = omega arith

pub few_clusters : (size room : ℕ) → size ≤ 4096 → 496 ≤ room → clusters size room ≤ 9
few_clusters size room h some =
    let bound = (div_ceil_times size room (omega (arith, some))).1 in
    let most : div_ceil size room ≤ 9 = elim (cases_lt 9 (div_ceil size room)) [
      | inl many ↦ absurd (never (div_ceil size room * room) (mul-le-mul_right {m = 10} {n = div_ceil size room} room (omega (arith, many))) bound)
      | inr few ↦ few
    ] in
    omega (arith, most)
  where
    never : (x : ℕ) → 10 * room ≤ x → x < size + room → ⊥
    never x p q = omega (arith, p, q, h, some)

pub enough_clusters : (size room : ℕ) → 0 < room → size ≤ room * clusters size room
enough_clusters size room some =
    let bound = (div_ceil_times size room some).0 in
    let more : div_ceil size room * room ≤ clusters size room * room = mul-le-mul_right {m = div_ceil size room} {n = clusters size room} room (omega arith) in
    let all : size ≤ clusters size room * room = omega (arith, bound, more) in
    subst (λ k. size ≤ k) (mul_comm (clusters size room) room) all

-- it is full but for the last one
pub file_filled : (room : ℕ) → 0 < room → (bytes : List ℕ) (ls : List Link) → ArePartsOf room bytes ls → length ls ≡ clusters (length bytes) room → is_filled room ls ≡ true
file_filled room some bytes [] parts many = absurd (omega (arith, many))
file_filled room some bytes (l ∷ []) parts many = part_filled room bytes l parts
file_filled room some bytes (l ∷ m ∷ ms) parts many = parts_filled room some bytes l (m ∷ ms) parts less
  where
    less : room * suc (length ms) < length bytes
    less =
        let bound = (div_ceil_times (length bytes) room some).1 in
        let is : div_ceil (length bytes) room ≡ suc (suc (length ms)) = omega (arith, many) in
        let times : div_ceil (length bytes) room * room ≡ suc (suc (length ms)) * room = ap (λ k. k * room) is in
        let turned : suc (suc (length ms)) * room ≡ room * suc (length ms) + room = omega arith in
        omega (arith, bound, times, turned)

-- a block of a disk has room for 496 bytes of a file at least
pub long_room : (w : World) → IsValid w → 496 ≤ bytes_room (block_len w.geometry)
long_room w valid = elim valid.raw.sized.lawful.sectors [
  | inl one ↦ omega (arith, one)
  | inr more ↦ elim more [
    | inl two ↦ omega (arith, two)
    | inr most ↦ elim most [ inl four ↦ omega (arith, four) | inr eight ↦ omega (arith, eight) ]
  ]
]

-- ---- its blocks and its bytes together

module _ (c : Client) (old mid new : DiskView) (source ahead wanted : ℕ) (bytes blocks : List ℕ) (at : Stage c.root old.world source) (valid : IsValid old.world) (is : wanted ≡ clusters_for old.world.geometry (length bytes) + ahead)
    (chain : NewChain c old mid source wanted blocks) where
  -- those behind are new
  pub behind_new : AreNew (drop ahead blocks) blocks
  behind_new b h = in_drop blocks ahead b h

  pub behind_may : (b : ℕ) → has_number (drop ahead blocks) b ≡ true → MayWrite c mid b
  behind_may b h = chain.own b (in_drop blocks ahead b h)

  pub behind_apart : are_apart (drop ahead blocks) ≡ true
  behind_apart = apart_drop blocks ahead chain.making.once

  pub behind_many : length (drop ahead blocks) ≡ clusters_for old.world.geometry (length bytes)
  behind_many = let many = chain.many in let left = length-drop ahead blocks in omega (arith, many, left, is)

  pub behind_enough : length bytes ≤ bytes_room (block_len old.world.geometry) * length (drop ahead blocks)
  behind_enough = let some = long_room old.world valid in
      subst (λ n. length bytes ≤ bytes_room (block_len old.world.geometry) * n) (sym behind_many) (enough_clusters (length bytes) (bytes_room (block_len old.world.geometry)) (omega (arith, some)))

  pub aside_so : (w : World) → AsideWith c.root (drop ahead blocks) mid.world w → IsAside c.root old.world w
  aside_so w aside = aside old.world source blocks at chain.making behind_new

  pub is_file : Wrote c mid new (drop ahead blocks) bytes → NewFile c old new source ahead bytes blocks
  is_file wrote =
      let room = bytes_room (block_len old.world.geometry) in
      let same : bytes_room (block_len mid.world.geometry) ≡ bytes_room (block_len old.world.geometry) = ap (λ g. bytes_room (block_len g)) chain.making.geometry in
      let parts = subst (λ r. ArePartsOf r bytes wrote.here.links) same wrote.here.parts in
      let some = long_room old.world valid in
      record {
        making = wrote.here.making old.world source blocks at chain.making behind_new;
        many = chain.many ∙ is;
        links = wrote.here.links;
        blocks_are = wrote.here.blocks_are;
        from = wrote.here.from;
        filled = file_filled room (omega (arith, some)) bytes wrote.here.links parts (blocks-length wrote.here.links ∙ (ap length wrote.here.blocks_are ∙ behind_many));
        holds = parts_bytes room bytes wrote.here.links parts;
        may = λ b m. wrote.may b (chain.may b m);
        own = λ b h. wrote.may b (chain.own b h);
      }
    where
      blocks-length : (ls : List Link) → length ls ≡ length (blocks_of ls)
      blocks-length [] = refl
      blocks-length (l ∷ ls) = ap suc (blocks-length ls)

-- ---- the stages of it

-- the new blocks: as many as the bytes take, and so many ahead
pub record NewBlocks (told : Type 0) (c : Client) (old mid : DiskView) (source ahead wanted : ℕ) (bytes blocks : List ℕ) : Type 0 where
  pub stage : told → Stage c.root old.world source
  pub valid : told → IsValidNow old
  pub is : told → wanted ≡ clusters_for old.world.geometry (length bytes) + ahead
  pub made : told → NewChain c old mid source wanted blocks
  pub runs : Runs told old mid (IsAside c.root old.world) (Ok blocks)

module _ {told : Type 0} {c : Client} {old mid : DiskView} {source ahead wanted : ℕ} {bytes blocks own given : List ℕ} (x : NewBlocks told c old mid source ahead wanted bytes blocks) (own_is : own ≡ drop ahead blocks) (given_is : given ≡ bytes) where
  -- those behind are written
  pub file_runs : (new : DiskView) (result : Result (Unit {0}) FsRefusal) → Runs told mid new (AsideWith c.root own mid.world) result → Runs told old new (IsAside c.root old.world) result
  file_runs new result runs = then_runs told old mid new (IsAside c.root old.world) blocks result x.runs
      (runs_more told mid new (AsideWith c.root own mid.world) (IsAside c.root old.world) result
      (λ t w aside. aside_so c old mid new source ahead wanted bytes blocks (x.stage t) (x.valid t).valid (x.is t) (x.made t) w (subst (λ bs. AsideWith c.root bs mid.world w) own_is aside)) runs)

  pub file_made : (new : DiskView) → (told → Wrote c mid new own given) → told → NewFile c old new source ahead bytes blocks
  file_made new wrote t = is_file c old mid new source ahead wanted bytes blocks (x.stage t) (x.valid t).valid (x.is t) (x.made t) (subst (Wrote c mid new (drop ahead blocks)) given_is (subst (λ bs. Wrote c mid new bs given) own_is (wrote t)))
