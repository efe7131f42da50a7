-- What the counts of pairs from blocks that stay tell, and how they change.
use Rattle.std.specs.Prelude.{◌≡◌, ℕ, ◌+◌, ◌==◌, ◌&&◌, ◌||◌, Bool, false, not, cond, List, [], length, filter, IsTrue}
use Rattle.tsd_model.specs.Pairs.{is_pair, holds, count_to}
use Rattle.tsd_model.specs.World.{World, is_live, is_free, is_primary, has_number, are_apart}
use Rattle.tsd_model.specs.Doomed.{doomed, settle}
use Rattle.tsd_model.specs.Step.{with_pointer, without_pointer, with_new_blocks}
use Rattle.graph_laws.specs.Counts.{stays, count_where, kept_count, doomed_pairs}
use Rattle.graph_laws.specs.Marking.{IsMarking, IsMarkingBut, IsCountedOff}
use Rattle.graph_laws.specs.RawGraph.{IsLaidOut, IsRawGraph}
use Rattle.graph_laws.specs.Steps.{stepped, IsStep, IsLost}

-- A live block that isn't primary is doomed exactly where its count is 0; and the count is that of all pairs of the
-- settled world.
abbrev pub DoomedByCount : Type 0
DoomedByCount =
    (r : World) (b : ℕ) → length r.blocks ≡ r.geometry.blocks
    → (has_number (doomed r) b ≡ ((is_live r b && not (is_primary r b)) && (kept_count r b == 0)))
    × (kept_count r b ≡ count_to (settle r).pairs b)

-- A pair that is added between blocks that stay raises the count of its target by one, and changes nothing else.
abbrev pub CountsAfterCreate : Type 0
CountsAfterCreate =
    (r : World) (a t : ℕ) → IsLaidOut r → holds r.pairs a t ≡ false → IsTrue (stays r a) → IsTrue (stays r t)
    → ((b : ℕ) → kept_count (with_pointer r a t) b ≡ cond (t == b) 1 0 + kept_count r b)
    × (doomed (with_pointer r a t) ≡ doomed r)
    × (length (doomed_pairs (with_pointer r a t)) ≡ length (doomed_pairs r))

-- Where nothing is doomed and free blocks become live, nothing is doomed then, and the count of each of them is one
-- more.
abbrev pub CountsAfterAlloc : Type 0
CountsAfterAlloc =
    (w : World) (a : ℕ) (bs : List ℕ) → IsRawGraph w → doomed w ≡ []
    → IsTrue (are_apart bs) → ((b : ℕ) → IsTrue (has_number bs b) → IsTrue (is_free w b))
    → (doomed (with_new_blocks w a bs) ≡ [])
    × ((c : ℕ) → kept_count (with_new_blocks w a bs) c ≡ cond (has_number bs c) 1 0 + kept_count w c)

-- A step of reclamation changes no count.
abbrev pub CountsAfterStep : Type 0
CountsAfterStep =
    (r : World) (a : ℕ) (targets : List ℕ) (freed : Bool) (b : ℕ) → IsLaidOut r → IsLost r a → IsStep r a targets freed
    → kept_count (stepped r a targets freed) b ≡ kept_count r b

-- ---- a deletion: a work list finds what it dooms

-- A pair from a block that stays is deleted. What was doomed is marked, all pairs from it are counted off, the target
-- of the deleted pair is looked at next, and of its count one is counted off.
abbrev pub MarkingBegins : Type 0
MarkingBegins =
    (r : World) (a t : ℕ) → IsLaidOut r → IsTrue (holds r.pairs a t) → IsTrue (stays r a)
    → IsMarkingBut (without_pointer r a t) t (has_number (doomed r)) (λ e. stays r e.0)
    × ((b : ℕ) → kept_count r b ≡ cond (t == b) 1 0 + count_where (λ e. stays r e.0) (without_pointer r a t).pairs b)

-- the pairs left once (a, t) is counted off too
abbrev pub left_but : ((ℕ × ℕ) → Bool) → ℕ → ℕ → (ℕ × ℕ) → Bool
left_but left a t e = left e && not (is_pair a t e)

-- A pair from a marked block is counted off. Its target is marked where none is left to it, and only there.
abbrev pub MarkingGoesOn : Type 0
MarkingGoesOn =
    (w : World) (gone : ℕ → Bool) (left : (ℕ × ℕ) → Bool) (a t : ℕ) → IsRawGraph w → IsMarking w gone left
    → IsTrue (gone a) → IsTrue (holds w.pairs a t) → IsTrue (left (a, t))
    → ((b : ℕ) → count_where left w.pairs b ≡ cond (t == b) 1 0 + count_where (left_but left a t) w.pairs b)
    × (count_where (left_but left a t) w.pairs t ≡ 0 → IsMarking w (λ b. gone b || (b == t)) (left_but left a t))
    × (¬ (count_where (left_but left a t) w.pairs t ≡ 0) → IsMarking w gone (left_but left a t))

-- Once no pair from a marked block is left, exactly the doomed blocks are marked, each count is right, and as many
-- pairs are counted off as come from doomed blocks.
pub record IsMarked (w : World) (gone : ℕ → Bool) (left : (ℕ × ℕ) → Bool) : Type 0 where
  pub blocks : (b : ℕ) → gone b ≡ has_number (doomed w) b
  pub counts : (b : ℕ) → count_where left w.pairs b ≡ kept_count w b
  pub pairs : length (filter (λ e. not (left e)) w.pairs) ≡ length (doomed_pairs w)

abbrev pub MarkingEnds : Type 0
MarkingEnds = (w : World) (gone : ℕ → Bool) (left : (ℕ × ℕ) → Bool) → IsMarking w gone left → IsCountedOff w gone left
    → IsMarked w gone left
