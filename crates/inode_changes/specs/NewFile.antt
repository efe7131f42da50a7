-- What a new file holds.
use Rattle.std.specs.Prelude.{ℕ, List, take}
use Rattle.tsd_model.specs.World.{World}
use Rattle.inode_changes.specs.declared.content.Content.{Content}
use Rattle.inode_changes.specs.Content.{shared_of, new_bytes}
use Rattle.inode_changes.specs.Filling.{joined}

-- the bytes of the blocks that it shares, as they stand in a world, and then its own, as far as its size goes
abbrev pub bytes_of : World → Content → List ℕ
bytes_of w content = take content.size (joined w (shared_of content) (new_bytes content))
