-- When a world is tidy: where the pairs out of named blocks are those that are named.
use Rattle.std.proofs.Common.{◌≡◌, ℕ, ◌<◌, true, ◌==◌, ◌∷◌, ◌++◌, sym, ◌∙◌, ap, inl, inr}
use Rattle.inode_changes.proofs.Common.{or_right, World, has_number, holds, IsValid, is_there, InodeEntries, inode_blocks, data_blocks, named_pairs, inode_tree, by_inodes, named_at, IsTidy, is_under, number_left, number_right, HasRoot, under_is, inodes_under_root, named_reached, is_tidy}
use Rattle.fs_trees.specs.declared.ask.ShellKind.TheVariants as kind
use Rattle.inode_changes.proofs.ExchangeLaws.{named_target}

-- what is named, by the entries of the root
pub named_of : (w : World) (root : ℕ) (es : InodeEntries) → HasRoot w root es → named_at kind.Inode w root ≡ record { blocks = root ∷ (inode_blocks es ++ data_blocks es); pairs = named_pairs root es }
named_of w root es has = ap by_inodes (under_is w root es has)

-- what is named is reached
pub named_under : (w : World) (root : ℕ) → IsValid w → root < w.geometry.primaries → is_there (inode_tree w root) ≡ true → (b : ℕ) → has_number (named_at kind.Inode w root).blocks b ≡ true → is_under w root b ≡ true
named_under w root valid primary there = named_reached w root (named_at kind.Inode w root) valid (inodes_under_root w root primary there)

module _ (w : World) (root : ℕ) (valid : IsValid w) (primary : root < w.geometry.primaries) (es : InodeEntries) (named_is : named_at kind.Inode w root ≡ record { blocks = root ∷ (inode_blocks es ++ data_blocks es); pairs = named_pairs root es }) (there : is_there (inode_tree w root) ≡ true)
    (only : (a b : ℕ) → has_number (root ∷ (inode_blocks es ++ data_blocks es)) a ≡ true → holds w.pairs a b ≡ true → holds (named_pairs root es) a b ≡ true) where
  target_named : (a b : ℕ) → holds (named_pairs root es) a b ≡ true → has_number (root ∷ (inode_blocks es ++ data_blocks es)) b ≡ true
  target_named a b h = elim (named_target root es a b h) [
    | inl inode ↦ or_right (root == b) _ (number_left (inode_blocks es) (data_blocks es) b inode)
    | inr bytes ↦ or_right (root == b) _ (number_right (inode_blocks es) (data_blocks es) b bytes)
  ]

  pub tidy_by_pairs : IsTidy kind.Inode w root
  tidy_by_pairs = is_tidy kind.Inode w root valid (inodes_under_root w root primary there)
      (λ a b h. ap (λ n. has_number n.blocks b) named_is ∙ target_named a b (ap (λ n. holds n.pairs a b) (sym named_is) ∙ h))
      (λ a from b h. ap (λ n. holds n.pairs a b) named_is ∙ only a b (ap (λ n. has_number n.blocks a) (sym named_is) ∙ from) h)
