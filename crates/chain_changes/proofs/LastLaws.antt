-- The last cluster of a file, to which its chain is walked.
use Rattle.std.proofs.Common.{◌≡◌, ℕ, ◌+◌, ◌≤◌, ◌<◌, true, List, [], ◌∷◌, ◌++◌, length, refl, sym, ◌∙◌, ap, subst, arith, length-append, Some, None, Ok}
use Rattle.chain_changes.proofs.Common.{block_len, Cluster, bytes_room, Link, cluster_at, is_filled, DiskView, state_of, Stays, HoldsWrite, Client, MayWrite, Looked, OnlyLooks, may_again, cluster_of, part_cluster, Part, has_part, IsPartOfRoot, IsFileAhead, IsLastCluster}
use Rattle.chain_reading.proofs.WalkLaws.{link_of, IsWalked, walk_starts, walk_on, walk_ends, one_more, part_there}

-- after so many clusters the walk is at a block
pub record IsStepped (c : Client) (now : DiskView) (ls : List Link) (i b : ℕ) : Type 0 where
  pub before : List Link
  pub walked : IsWalked c now ls before b
  pub count : length before ≡ i

pub record Stepping (told : Type 0) (c : Client) (first now : DiskView) (start i b : ℕ) : Type 0 where
  pub looks : OnlyLooks {X = Unit {0}} told first now (Ok tt)
  pub stepped : told → (ls : List Link) → IsFileAhead c first start ls → IsStepped c now ls i b

pub step_starts : (c : Client) (v : DiskView) (start : ℕ) (ls : List Link) → IsFileAhead c v start ls → IsStepped c v ls 0 start
step_starts c v start ls file = record { before = []; walked = walk_starts c v start ls file.ahead; count = refl }

pub step_on : (c : Client) (now new : DiskView) (ls : List Link) (i b d : ℕ) (cl : Cluster) → IsStepped c now ls i b → cluster_at now.world b ≡ Some cl → cl.next ≡ Some d → Looked now new → Stays now new → HoldsWrite (state_of new) c.session b → IsStepped c new ls (i + 1) d
step_on c now new ls i b d cl stepped at next seen stays held = record {
  before = stepped.before ++ link_of b cl ∷ [];
  walked = walk_on c now new ls stepped.before b d cl stepped.walked at next seen stays held;
  count = let sum = length-append stepped.before (link_of b cl ∷ []) in omega (arith, sum, stepped.count);
}

pub step_part : (c : Client) (first now : DiskView) (start i b : ℕ) (ls : List Link) → Looked first now → IsFileAhead c first start ls → IsStepped c now ls i b → has_part now.world b ≡ true
step_part c first now start i b ls seen file stepped =
    part_there c now ls stepped.before b stepped.walked (ap (λ w. is_filled (bytes_room (block_len w.geometry)) ls) seen.world ∙ file.filled)

-- there are no more than the disk has blocks
pub step_below : (c : Client) (first now : DiskView) (start i b : ℕ) (ls : List Link) → IsFileAhead c first start ls → IsStepped c now ls i b → first.world.geometry.blocks ≤ i → ⊥
step_below c first now start i b ls file stepped over = let more = one_more c now ls stepped.before b stepped.walked in too_many (length stepped.before) (length ls) first.world.geometry.blocks i more stepped.count file.short over
  where
    too_many : (m n k i : ℕ) → m < n → m ≡ i → n ≤ k → k ≤ i → ⊥
    too_many m n k i a b c d = absurd (omega arith)

-- the walk ends at the last one
pub step_ends : (c : Client) (first now new : DiskView) (ls : List Link) (i b : ℕ) (part : Part) → IsStepped c now ls i b → Looked first now → Looked now new → Stays now new → IsPartOfRoot now.world b part → (cluster_of (part_cluster part.cluster)).next ≡ None → IsLastCluster c new ls part
step_ends c first now new ls i b part stepped before seen stays read next =
    let cl = cluster_of (part_cluster part.cluster) in
    let here : part.block ≡ b = read.block in
    record {
      before = stepped.before;
      parts = walk_ends c now ls stepped.before b cl stepped.walked read.read.says next ∙ ap (λ k. stepped.before ++ link_of k cl ∷ []) (sym here);
      read = subst (λ k. IsPartOfRoot new.world k part) (sym here) (subst (λ w. IsPartOfRoot w b part) (sym seen.world) read);
      may = may_again c now new part.block seen stays before.valid (subst (MayWrite c now) (sym here) stepped.walked.ahead.may);
    }
