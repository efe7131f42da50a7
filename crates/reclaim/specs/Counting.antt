-- How the counts are brought up to date after a deletion, a pair at a time.
use Rattle.std.specs.Prelude.{◌≡◌, ℕ, ◌<◌, Bool, not, ◌||◌, ◌&&◌, ◌==◌, nat_le, List, length, filter, slice_index}
use Rattle.std.specs.Prelude.{IsTrue}
use Rattle.std.specs.List.{range_with_len}
use Rattle.tsd_model.specs.World.{World, has_number}
use Rattle.graph_laws.specs.Counts.{count_where}
use Rattle.graph_laws.specs.Marking.{IsMarking}
use Rattle.reclaim.specs.Ahead.{is_gone}

-- The pairs that aren't counted off yet: those from blocks that aren't marked, from blocks that wait, and those from
-- block `open_` to blocks from `from` on.
abbrev pub left_at : List Bool → List ℕ → ℕ → ℕ → (ℕ × ℕ) → Bool
left_at gone waiting open_ from e =
    (not (is_gone gone e.0) || has_number waiting e.0) || ((e.0 == open_) && nat_le from e.1)

-- In the middle of it: some blocks are marked, of which some still wait, and the counts are those of the pairs that are
-- left.
pub record IsCounting (w : World) (counts : List ℕ) (gone : List Bool) (waiting : List ℕ) (doomed_count pairs : ℕ)
    (left : (ℕ × ℕ) → Bool) : Type 0 where
  pub marking : IsMarking w (is_gone gone) left
  pub counted : (b : ℕ) → b < w.geometry.blocks → slice_index counts b ≡ count_where left w.pairs b
  pub waits : (b : ℕ) → IsTrue (has_number waiting b) → IsTrue (is_gone gone b)
  pub number : doomed_count ≡ length (filter (is_gone gone) (range_with_len 0 w.geometry.blocks))
  pub off : pairs ≡ length (filter (λ e. not (left e)) w.pairs)
