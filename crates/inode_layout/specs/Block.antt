-- An inode that was read from its block.
use Rattle.std.specs.Prelude.{ℕ, List, length, drop}
use Rattle.fs_trees.specs.Fields.{numbers, entries}
use Rattle.fs_trees.specs.Inode as tree
use Rattle.inode_layout.specs.declared.kind.InodeKind.{InodeKind}
use Rattle.inode_layout.specs.declared.kind.InodeKind.TheVariants.{Directory, Regular}
use Rattle.inode_layout.specs.declared.inode.Inode.{Inode}

abbrev pub said : InodeKind → ℕ → ℕ → List ℕ → tree.Inode
said Directory amount count body = tree.directory (entries count body)
said Regular amount count body = tree.regular amount (numbers count body)

-- its block, the length of that, and what stands behind the head
abbrev pub bytes_of : Inode → List ℕ
bytes_of i = i.bytes

abbrev pub block_len_of : Inode → ℕ
block_len_of i = length (bytes_of i)

abbrev pub body_of : Inode → List ℕ
body_of i = drop 16 (bytes_of i)

-- what the block says
abbrev pub inode_of : Inode → tree.Inode
inode_of i = said i.kind i.amount i.count (body_of i)
