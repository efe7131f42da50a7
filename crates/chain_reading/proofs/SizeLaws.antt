-- How many bytes of a file were counted.
use Rattle.std.proofs.Common.{◌≡◌, ℕ, ◌+◌, ◌*◌, ◌≤◌, ◌<◌, true, List, [], ◌∷◌, ◌++◌, length, refl, ◌∙◌, ap, arith, append-nil, length-append, Some, None, Ok}
use Rattle.chain_reading.proofs.Common.{flat_map-append, take, block_len, Cluster, bytes_room, Link, chain_bytes, cluster_at, is_filled, DiskView, state_of, Stays, HoldsWrite, Client, Looked, OnlyLooks, has_part, IsFileAhead}
use Rattle.chain_reading.proofs.WalkLaws.{link_of, IsWalked, walk_starts, walk_on, walk_ends, one_more, part_there}

-- after so many clusters the walk is at a block, and those before it have so many bytes
pub record IsCounted (c : Client) (now : DiskView) (ls : List Link) (i b size : ℕ) : Type 0 where
  pub before : List Link
  pub walked : IsWalked c now ls before b
  pub count : length before ≡ i
  pub bytes : size ≡ length (chain_bytes before)

pub record Sizing (told : Type 0) (c : Client) (first now : DiskView) (start i b size : ℕ) : Type 0 where
  pub looks : OnlyLooks {X = Unit {0}} told first now (Ok tt)
  pub counted : told → (ls : List Link) → IsFileAhead c first start ls → IsCounted c now ls i b size
  pub few : size ≤ 4096 * i

pub more_bytes : (before : List Link) (b : ℕ) (cl : Cluster) → chain_bytes (before ++ link_of b cl ∷ []) ≡ chain_bytes before ++ take cl.used cl.body
more_bytes before b cl = flat_map-append (λ l. take l.cluster.used l.cluster.body) before (link_of b cl ∷ []) ∙ ap (λ xs. chain_bytes before ++ xs) (append-nil (take cl.used cl.body))

pub count_starts : (c : Client) (v : DiskView) (start : ℕ) (ls : List Link) → IsFileAhead c v start ls → IsCounted c v ls 0 start 0
count_starts c v start ls file = record { before = []; walked = walk_starts c v start ls file.ahead; count = refl; bytes = refl }

unfoldable pub count_on : (c : Client) (now new : DiskView) (ls : List Link) (i b d size more : ℕ) (cl : Cluster) → IsCounted c now ls i b size → cluster_at now.world b ≡ Some cl → cl.next ≡ Some d → more ≡ length (take cl.used cl.body)
    → Looked now new → Stays now new → HoldsWrite (state_of new) c.session b → IsCounted c new ls (i + 1) d (size + more)
count_on c now new ls i b d size more cl counted at next part seen stays held = record {
  before = counted.before ++ link_of b cl ∷ [];
  walked = walk_on c now new ls counted.before b d cl counted.walked at next seen stays held;
  count = let sum = length-append counted.before (link_of b cl ∷ []) in omega (arith, sum, counted.count);
  bytes = let all = ap length (more_bytes counted.before b cl) ∙ length-append (chain_bytes counted.before) (take cl.used cl.body) in omega (arith, all, part, counted.bytes);
}

pub count_ends : (c : Client) (now : DiskView) (ls : List Link) (i b size more : ℕ) (cl : Cluster) → IsCounted c now ls i b size → cluster_at now.world b ≡ Some cl → cl.next ≡ None → more ≡ length (take cl.used cl.body) → size + more ≡ length (chain_bytes ls)
count_ends c now ls i b size more cl counted at next part =
    let all = ap length (more_bytes counted.before b cl) ∙ length-append (chain_bytes counted.before) (take cl.used cl.body) in
    let same = ap (λ xs. length (chain_bytes xs)) (walk_ends c now ls counted.before b cl counted.walked at next) in
    omega (arith, all, same, part, counted.bytes)

pub count_part : (c : Client) (first now : DiskView) (start i b size : ℕ) (ls : List Link) → Looked first now → IsFileAhead c first start ls → IsCounted c now ls i b size → has_part now.world b ≡ true
count_part c first now start i b size ls seen file counted =
    part_there c now ls counted.before b counted.walked (ap (λ w. is_filled (bytes_room (block_len w.geometry)) ls) seen.world ∙ file.filled)

-- there are no more than the disk has blocks
pub count_below : (c : Client) (first now : DiskView) (start i b size : ℕ) (ls : List Link) → IsFileAhead c first start ls → IsCounted c now ls i b size → first.world.geometry.blocks ≤ i → ⊥
count_below c first now start i b size ls file counted over = let more = one_more c now ls counted.before b counted.walked in too_many (length counted.before) (length ls) first.world.geometry.blocks i more counted.count file.short over
  where
    too_many : (m n k i : ℕ) → m < n → m ≡ i → n ≤ k → k ≤ i → ⊥
    too_many m n k i a b c d = absurd (omega arith)
