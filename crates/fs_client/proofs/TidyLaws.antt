-- What is tidy, and what is left, after deletions of pairs that aren't named.
use Rattle.std.proofs.Common.{◌≡◌, ℕ, Bool, true, false, ◌==◌, List, [], ◌∷◌, refl, sym}
use Rattle.fs_client.proofs.Common.{and_parts, or_left, World, has_number, holds, IsValid, is_there, Named, tree_at, named_at, IsTidy, is_under, ShellKind, SameTree, IsUnder, hang_from, each_named, read_from_named, each_under, root_under, target_under, DiskView, LeavesTidyWorld, IsTreeAlone, OnlyDeletes, Client, files_by, Trimmed, IsTrim, IsClean}
use Rattle.fs_client.proofs.RunLaws.{clash_free_live}
use Rattle.fs_client.proofs.TrimLaws.{freed}
use Rattle.tsd_model.proofs.ValueLaws.{clash}

-- ---- when a world is tidy

pub both_ways : (s t : Bool) → (s ≡ true → t ≡ true) → (t ≡ true → s ≡ true) → s ≡ t
both_ways true t f g = sym (f refl)
both_ways false true f g = g refl
both_ways false false f g = refl

pub root_named : (w : World) (root : ℕ) (n : Named) → IsUnder w root n → has_number n.blocks root ≡ true
root_named w root n u = by_first n.blocks u.order
  where
    by_first : (bs : List ℕ) → hang_from root n.pairs bs ≡ true → has_number bs root ≡ true
    by_first [] h = absurd (cc)
    by_first (b ∷ bs) h = or_left (b == root) _ (and_parts (b == root) _ h).0

-- what is named is reached
pub named_reached : (w : World) (root : ℕ) (n : Named) → IsValid w → IsUnder w root n → (b : ℕ) → has_number n.blocks b ≡ true → is_under w root b ≡ true
named_reached w root n valid under = each_named (λ x. is_under w root x ≡ true) root n.pairs n.blocks under.order (root_under w valid.raw root under.primary)
    (λ a d k before. target_under w valid.raw root under.primary a d (under.held a d k) before)

-- where pairs out of named blocks are named alone
pub is_tidy : (kind : ShellKind) (w : World) (root : ℕ) → IsValid w → IsUnder w root (named_at kind w root) → ((a b : ℕ) → holds (named_at kind w root).pairs a b ≡ true → has_number (named_at kind w root).blocks b ≡ true)
    → ((a : ℕ) → IsClean (named_at kind w root) w a) → IsTidy kind w root
is_tidy kind w root valid under targets clean =
    let n = named_at kind w root in
    record {
      blocks = λ b. both_ways (is_under w root b) (has_number n.blocks b)
          (λ h. each_under w root (λ x. has_number n.blocks x ≡ true) (root_named w root n under) (λ a d held named. targets a d (clean a named d held)) b h)
          (named_reached w root n valid under b);
      pairs = λ a b named. both_ways (holds w.pairs a b) (holds n.pairs a b) (λ h. clean a named b h) (λ h. under.held a b h);
    }

-- fewer pairs are as clean
pub still_clean : (n : Named) (w next : World) (a : ℕ) → ((x y : ℕ) → holds next.pairs x y ≡ true → holds w.pairs x y ≡ true) → IsClean n w a → IsClean n next a
still_clean n w next a fewer clean named b held = clean named b (fewer a b held)

-- a block that isn't named is clean
pub clean_unnamed : (n : Named) (w : World) (a : ℕ) → has_number n.blocks a ≡ false → IsClean n w a
clean_unnamed n w a off named b held = absurd (clash (has_number n.blocks a) named off)

-- ---- what is left

module _ (kind : ShellKind) (c : Client) (old : DiskView) (there : is_there (tree_at kind old.world c.root) ≡ true) where
  pub same_tree : (new : DiskView) → Trimmed c (named_at kind old.world c.root) old new → SameTree kind c.root old.world new.world
  same_tree new h = read_from_named kind old.world new.world c.root there h.keeps

  pub tree_alone : (w : World) → IsTrim c (named_at kind old.world c.root) old w → IsTreeAlone (files_by kind c) old w
  tree_alone w h =
      let same = read_from_named kind old.world w c.root there h.keeps in (
        same.tree,
        record { valid = h.valid; geometry = h.keeps.geometry; others = h.others },
        record { pairs = h.fewer; bytes = h.bytes; named = same.named; none = λ off. absurd (clash (is_there (tree_at kind old.world c.root)) there off) },
      )

  pub only_deletes : (new : DiskView) → Trimmed c (named_at kind old.world c.root) old new → OnlyDeletes (files_by kind c) old.world new.world
  only_deletes new h = record { pairs = h.fewer; bytes = h.bytes; named = (same_tree new h).named; none = λ off. absurd (clash (is_there (tree_at kind old.world c.root)) there off) }

pub trimmed_left : (kind : ShellKind) (c : Client) (n : Named) (old new : DiskView) → new.spent ≡ false → IsTidy kind new.world c.root → Trimmed c n old new → LeavesTidyWorld (files_by kind c) old new
trimmed_left kind c n old new unspent tidy trimmed = record {
  unspent = unspent;
  tidy = λ _. tidy;
  others = trimmed.others;
  taken = λ b free live. absurd (clash_free_live old.world b free (freed c n old new trimmed b live));
}
