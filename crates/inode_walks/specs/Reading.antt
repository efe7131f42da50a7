-- The bytes of a file, block by block.
use Rattle.std.specs.Prelude.{ℕ, ◌-◌, List, [], take, drop, flat_map, unwrap_or}
use Rattle.tsd_model.specs.World.{World, contents}
use Rattle.fs_trees.specs.Inode.{Inode, directory, regular}

-- of a list what stands from one offset to another
abbrev pub part : List ℕ → ℕ → ℕ → List ℕ
part xs start end = take (end - start) (drop start xs)

-- the bytes of a block that is live
abbrev pub bytes_at : World → ℕ → List ℕ
bytes_at w b = unwrap_or (contents w b) []

-- all bytes of a file's blocks, also those behind its size
abbrev pub bytes_said : World → Inode → List ℕ
bytes_said w (directory es) = []
bytes_said w (regular size blocks) = flat_map (bytes_at w) blocks
