-- A root that is written as an empty directory.
use Rattle.std.proofs.Common.{◌≡◌, ℕ, ◌-◌, ◌<◌, ◌≤◌, List, [], length, refl, ◌∙◌, ap, arith, Some}
use Rattle.inode_fs.proofs.Common.{replicate, option_and_then, block_len, World, IsValid, path_max, none, a_dir, directory, inode_in, inode_bytes, inode_at, node_by, node_at, as_root, inodes_under, tree_of, by_inodes, written, IsEmptied}
use Rattle.fs_trees.specs.declared.ask.ShellKind.TheVariants as kind
use Rattle.fs_client.proofs.WriteLaws.{block_long, written_here}
use Rattle.inode_layout.proofs.BackLaws.{reads_back}

pub empty_fits : (w : World) → IsValid w → length (inode_bytes (directory [])) ≤ block_len w.geometry
empty_fits w valid = let room = block_long w valid in omega (arith, room)

module _ (w : World) (root : ℕ) (valid : IsValid w) (primary : root < w.geometry.primaries) where
  abbrev zero_bytes : List ℕ
  zero_bytes = inode_bytes (directory [])

  abbrev next : World
  next = written w root zero_bytes

  says_next : inode_at next root ≡ Some (directory [])
  says_next =
      let len = block_len w.geometry in
      ap (option_and_then (inode_in len)) (written_here w root zero_bytes (valid.raw.primaries root primary))
      ∙ reads_back len (directory []) (replicate (len - length (inode_bytes (directory []))) 0) (omega arith, omega arith, refl) refl

  under_next : inodes_under next root ≡ a_dir root none
  under_next = ap (λ i. as_root next (node_by (λ b. node_at next path_max b) root i)) says_next

  pub emptied : IsEmptied kind.Inode (written w root (inode_bytes (directory []))) root
  emptied = record { tree = ap (tree_of next) under_next; named = ap by_inodes under_next }
