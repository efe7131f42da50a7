-- How slots are threaded, so that no question reads them all.
--
--   heads, one a group          slots, by number               links behind, one a slot
--   group 7 ───────────────▶  slot 4 holds (7, 2)  ─────────▶  slot 9
--                             slot 9 holds (7, 5)  ─────────▶  none
--
-- The pairs in the slots are grouped three ways: those of one source, those of one target, and those that a mix of both
-- numbers sends to one bucket. Each way has a head for each group and a link behind each slot. A head leads to the
-- first pair of its group, and the link behind a pair leads to the next one of its group, ascending: that is the
-- invariant, said of each head and each link alone. Where an ascending walk through a group stands is therefore known
-- without the walk. A pair is looked for in its bucket, the targets of a source and the sources of a target in their
-- groups. A walk to a position in a group begins near it: two searches take turns, up from the head of the group and
-- down from the number that is sought, over the heads to the next number that has pairs and by the buckets, and the
-- first that finds a pair of the group below the position ends both. What they find is a guess, of which no word is
-- said here. The empty slots are linked to a list (Empties.antt).
--
-- Slots are given as a function from their numbers, so that the same words serve for slots of which some are threaded
-- only.
use Rattle.std.specs.Prelude.{◌≡◌, ℕ, ◌+◌, ◌*◌, ◌/◌, ◌%◌, ◌^◌, ◌<◌, ◌≤◌, ◌==◌, nat_lt, cond, Bool, false, List, length}
use Rattle.std.specs.Prelude.{slice_index_or, slice_set, Option, Some, None, ⊤}
use Rattle.pointer_table.specs.declared.way.Way.{Way}
use Rattle.pointer_table.specs.declared.way.Way.TheVariants as way

-- ---- groups

-- the position of a pair among all pairs, by source and then by target
abbrev pub rank : (ℕ × ℕ) → ℕ
rank e = 4294967296 * e.0 + e.1

-- the rank of the slot's pair is below the limit
abbrev pub is_below : ℕ → Option (ℕ × ℕ) → Bool
is_below limit None = false
is_below limit (Some e) = nat_lt (rank e) limit

-- a fixed odd number
abbrev pub odd : ℕ
odd = 11400714819323198485

-- the product's upper half is added to it
abbrev pub folded : ℕ → ℕ
folded x = (x + x / 2 ^ 32) % 2 ^ 64

-- the numbers of a pair, mixed: multiplied by the odd number, folded, and both once more
unfoldable pub mixed : ℕ → ℕ
mixed x = folded (folded (x * odd % 2 ^ 64) * odd % 2 ^ 64) / 2 ^ 32

-- the group of a pair
abbrev pub group : Way → ℕ → (ℕ × ℕ) → ℕ
group way.Source groups e = e.0
group way.Target groups e = e.1
group way.Bucket groups e = mixed (rank e) % groups

-- slot k holds the pair e, which belongs to the group
pub record IsMember (held : ℕ → Option (ℕ × ℕ)) (by : (ℕ × ℕ) → ℕ) (of k : ℕ) (e : ℕ × ℕ) : Type 0 where
  pub here : held k ≡ Some e
  pub belongs : by e ≡ of

-- ---- links

-- the link that leads nowhere
abbrev pub no_link : ℕ
no_link = 4294967295

-- the slot that a link leads to
abbrev pub linked : ℕ → Option ℕ
linked link = cond (link == no_link) None (Some link)

-- slot k holds the first pair of the group whose rank isn't below `from`
pub record IsFirstFrom (held : ℕ → Option (ℕ × ℕ)) (by : (ℕ × ℕ) → ℕ) (of from k : ℕ) : Type 0 where
  pub pair : ℕ × ℕ
  pub member : IsMember held by of k pair
  pub above : from ≤ rank pair
  pub least : (j : ℕ) (f : ℕ × ℕ) → IsMember held by of j f → from ≤ rank f → rank pair ≤ rank f

-- that slot, None exactly where no pair of the group is that far
abbrev pub IsFirstThatFar : (ℕ → Option (ℕ × ℕ)) → ((ℕ × ℕ) → ℕ) → ℕ → ℕ → Option ℕ → Type 0
IsFirstThatFar held by of from None = (j : ℕ) (f : ℕ × ℕ) → IsMember held by of j f → rank f < from
IsFirstThatFar held by of from (Some k) = IsFirstFrom held by of from k

-- slot k holds the last pair of the group whose rank is below the limit
pub record IsLast (held : ℕ → Option (ℕ × ℕ)) (by : (ℕ × ℕ) → ℕ) (of limit k : ℕ) : Type 0 where
  pub pair : ℕ × ℕ
  pub member : IsMember held by of k pair
  pub below : rank pair < limit
  pub greatest : (j : ℕ) (f : ℕ × ℕ) → IsMember held by of j f → rank f < limit → rank f ≤ rank pair

-- that slot, None exactly where no pair of the group is below the limit
abbrev pub IsLastBelow : (ℕ → Option (ℕ × ℕ)) → ((ℕ × ℕ) → ℕ) → ℕ → ℕ → Option ℕ → Type 0
IsLastBelow held by of limit None = (j : ℕ) (f : ℕ × ℕ) → IsMember held by of j f → limit ≤ rank f
IsLastBelow held by of limit (Some k) = IsLast held by of limit k

-- a slot of the group whose pair is below the limit, or none
abbrev pub IsNear : (ℕ → Option (ℕ × ℕ)) → ((ℕ × ℕ) → ℕ) → ℕ → ℕ → Option ℕ → Type 0
IsNear held by of limit None = ⊤
IsNear held by of limit (Some k) = (e : ℕ × ℕ) × (IsMember held by of k e × (rank e < limit))

-- ---- the invariant

-- Each head leads to the first pair of its group, and the link behind each pair to the next one of its group.
-- Groups and slots are within, targets fit, and no pair stands in two slots.
pub record AreThreads (held : ℕ → Option (ℕ × ℕ)) (by : (ℕ × ℕ) → ℕ) (heads next : List ℕ) : Type 0 where
  pub first : (of : ℕ) → of < length heads → IsFirstThatFar held by of 0 (linked (slice_index_or heads of 0))
  pub follow : (k : ℕ) (e : ℕ × ℕ) → held k ≡ Some e
      → IsFirstThatFar held by (by e) (rank e + 1) (linked (slice_index_or next k 0))
  pub groups : (k : ℕ) (e : ℕ × ℕ) → held k ≡ Some e → by e < length heads
  pub inside : (k : ℕ) (e : ℕ × ℕ) → held k ≡ Some e → k < length next
  pub fits : (k : ℕ) (e : ℕ × ℕ) → held k ≡ Some e → e.1 < 4294967296
  pub apart : (i j : ℕ) (e : ℕ × ℕ) → held i ≡ Some e → held j ≡ Some e → i ≡ j

-- ---- changes

-- `now` is `held` with the pair e in slot `position`, which was empty
pub record IsWith (held : ℕ → Option (ℕ × ℕ)) (position : ℕ) (e : ℕ × ℕ) (now : ℕ → Option (ℕ × ℕ)) : Type 0 where
  pub empty : held position ≡ None
  pub filled : now position ≡ Some e
  pub others : (k : ℕ) → (k ≡ position → ⊥) → now k ≡ held k

-- the pair e comes before each pair that is held
abbrev pub IsBelowAll : (ℕ → Option (ℕ × ℕ)) → (ℕ × ℕ) → Type 0
IsBelowAll held e = (k : ℕ) (f : ℕ × ℕ) → held k ≡ Some f → rank e < rank f

-- the link behind a slot, or the head of a group
abbrev pub link_after : List ℕ → List ℕ → ℕ → Option ℕ → ℕ
link_after heads next of None = slice_index_or heads of 0
link_after heads next of (Some k) = slice_index_or next k 0

-- the heads and the links with that one changed
abbrev pub heads_with : List ℕ → ℕ → Option ℕ → ℕ → List ℕ
heads_with heads of None link = slice_set heads of link
heads_with heads of (Some k) link = heads

abbrev pub next_with : List ℕ → Option ℕ → ℕ → List ℕ
next_with next None link = next
next_with next (Some k) link = slice_set next k link
