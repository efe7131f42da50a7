-- The pairs out of a block, some of which its contents name.
use Rattle.std.specs.Prelude.{ℕ, ◌+◌, ◌-◌, ◌==◌, not, cond, ◌&&◌, nat_lt, nat_le, List, map, filter, length}
use Rattle.std.specs.Prelude.{slice_index}
use Rattle.tsd_model.specs.World.{World, has_number}
use Rattle.fs_trees.specs.declared.refusal.FsRefusal.{FsRefusal}
use Rattle.fs_trees.specs.declared.refusal.FsRefusal.TheVariants as no

-- where the pairs out of a block lead
abbrev pub targets_of : World → ℕ → List ℕ
targets_of w a = map (λ e. e.1) (filter (λ e. e.0 == a) w.pairs)

-- those that the contents name, and the others
abbrev pub named_targets : World → ℕ → List ℕ → List ℕ
named_targets w a names = filter (has_number names) (targets_of w a)

abbrev pub other_targets : World → ℕ → List ℕ → List ℕ
other_targets w a names = filter (λ b. not (has_number names b)) (targets_of w a)

-- Where the targets behind a page of them begin that was listed from a start on; the end where there are none.
abbrev pub next_in : List ℕ → ℕ → ℕ → ℕ
next_in page start end =
    let last = slice_index page 63 in
    cond (nat_lt (length page) 64) end (cond (nat_le start last && nat_lt last end) (last + 1) end)

-- the refusal as it would have been before so many pairs were made
abbrev pub refusal_before : FsRefusal → ℕ → FsRefusal
refusal_before (no.PointersFull held most) made = no.PointersFull (held - made) most
refusal_before e made = e
