-- What a request asks to change.
use Rattle.std.specs.Prelude.{ℕ, Bool, true, false, ◌&&◌, ◌==◌}
use Rattle.tsd_model.specs.declared.requests.Request.{Request}
use Rattle.tsd_model.specs.declared.requests.Request.TheVariants as ask

-- it adds pointers out of the block, or deletes one
abbrev pub has_source : Request → ℕ → Bool
has_source (ask.Alloc s a shown hint count) b = a == b
has_source (ask.Contig s a shown hint count) b = a == b
has_source (ask.Create s a shown x) b = a == b
has_source (ask.Delete s a shown x) b = a == b
has_source q b = false

-- it adds the pointer between these two blocks
abbrev pub is_create_of : Request → ℕ → ℕ → Bool
is_create_of (ask.Create s x shown y) a b = (x == a) && (y == b)
is_create_of q a b = false

-- it may make live blocks free
abbrev pub is_removal : Request → Bool
is_removal (ask.Delete s a shown b) = true
is_removal (ask.Sweep s shown) = true
is_removal q = false
