-- A search level by level: what it has found while it looks at the pairs from the blocks of one depth.
use Rattle.std.specs.Prelude.{◌≡◌, ℕ, suc, ◌<◌, ◌≤◌, ◌==◌, ◌⊎◌, ◌++◌, ◌∷◌, [], false, min, cond, List, Option, Some}
use Rattle.std.specs.Prelude.{None, IsTrue}
use Rattle.tsd_model.specs.Pairs.{holds}
use Rattle.tsd_model.specs.World.{World, has_number}
use Rattle.image_audit.specs.declared.entry.Entry.{Entry}
use Rattle.image_audit.specs.Entries.{entry_at, is_listed}
use Rattle.image_audit.specs.Depths.{IsPath, IsParent}

-- the lesser of a parent, if there is one, and a
abbrev pub lesser : Option ℕ → ℕ → ℕ
lesser None a = a
lesser (Some p) a = min p a

-- the entry of a block once a pair to it from block a was looked at, which would give it this depth
abbrev pub noted : Option Entry → ℕ → ℕ → Entry
noted None depth a = record { depth = depth; parent = Some a }
noted (Some e) depth a = cond (e.depth == depth) (record { depth = depth; parent = Some (lesser e.parent a) }) e

-- block b is listed with this depth
abbrev pub HasDepth : List (Option Entry) → ℕ → ℕ → Type 0
HasDepth entries b depth = (e : Entry) × (entry_at entries b ≡ Some e) × (e.depth ≡ depth)

-- block b is listed, and its depth is at most n
abbrev pub HasDepthTo : List (Option Entry) → ℕ → ℕ → Type 0
HasDepthTo entries b n = (e : Entry) × (entry_at entries b ≡ Some e) × (e.depth ≤ n)

-- a parent that is the least source of a pair to b that was looked at
abbrev pub IsFirstSeen : (ℕ → ℕ → Type 0) → ℕ → Option ℕ → Type 0
IsFirstSeen seen b parent = (a : ℕ) × (parent ≡ Some a) × seen a b × ((c : ℕ) → seen c b → a ≤ c)

-- Every block of depth d or less is listed as it will be, and `level` has those of depth d. Of the pairs from them some
-- were looked at, and the blocks to which these led are listed too: with depth d + 1 those that weren't before, which
-- are in `next`.
pub record IsSearching (w : World) (roots : List ℕ) (d : ℕ) (level next : List ℕ) (seen : ℕ → ℕ → Type 0)
    (entries : List (Option Entry)) : Type 0 where
  pub sound : (b : ℕ) (e : Entry) → entry_at entries b ≡ Some e → IsPath w roots e.depth b
  pub complete : (n b : ℕ) → n ≤ d → IsPath w roots n b → HasDepthTo entries b n
  pub bound : (b : ℕ) (e : Entry) → entry_at entries b ≡ Some e → e.depth ≤ suc d
  pub above : (b : ℕ) (e : Entry) → entry_at entries b ≡ Some e → e.depth ≤ d → IsParent w roots b e.depth e.parent
  pub below : (b : ℕ) (e : Entry) → entry_at entries b ≡ Some e → e.depth ≡ suc d → IsFirstSeen seen b e.parent
  pub held : (a b : ℕ) → seen a b → IsTrue (holds w.pairs a b)
  pub from : (a b : ℕ) → seen a b → IsTrue (has_number level a)
  pub led : (a b : ℕ) → seen a b → IsTrue (is_listed entries b)
  pub level_has : (b : ℕ) → IsTrue (has_number level b) → HasDepth entries b d
  pub level_all : (b : ℕ) → HasDepth entries b d → IsTrue (has_number level b)
  pub next_has : (b : ℕ) → IsTrue (has_number next b) → HasDepth entries b (suc d)
  pub next_all : (b : ℕ) → HasDepth entries b (suc d) → IsTrue (has_number next b)

-- ---- the parts of a search

-- the entry of a root
abbrev pub root_entry : Entry
root_entry = record { depth = 0; parent = None }

-- the roots are listed, and nothing else
abbrev pub HasRoots : List ℕ → List (Option Entry) → Type 0
HasRoots roots entries = (b : ℕ) → entry_at entries b ≡ cond (has_number roots b) (Some root_entry) None

-- no pair was looked at
abbrev pub NoneSeen : ℕ → ℕ → Type 0
NoneSeen a b = ⊥

-- the pairs from these blocks were
abbrev pub SeenFrom : World → List ℕ → ℕ → ℕ → Type 0
SeenFrom w done a b = IsTrue (holds w.pairs a b) × IsTrue (has_number done a)

-- the pairs from these blocks were, and those from block `source` to the blocks below `end`
abbrev pub SeenTo : World → List ℕ → ℕ → ℕ → ℕ → ℕ → Type 0
SeenTo w done source end a b = IsTrue (holds w.pairs a b) × (IsTrue (has_number done a) ⊎ ((a ≡ source) × (b < end)))

-- the pairs from one block of the level more were looked at
abbrev pub SearchesOn : World → ℕ → ℕ → List ℕ → List ℕ → List (Option Entry) → List (Option Entry) → Type 0
SearchesOn w d source before after old new =
    (roots level done : List ℕ) → IsTrue (has_number level source)
    → IsSearching w roots d level before (SeenFrom w done) old
    → IsSearching w roots d level after (SeenFrom w (done ++ source ∷ [])) new

-- every level was searched: there were as many as there are blocks, or the last one is empty
pub record IsSearched (w : World) (roots : List ℕ) (entries : List (Option Entry)) : Type 0 where
  pub depth : ℕ
  pub level : List ℕ
  pub searched : IsSearching w roots depth level [] NoneSeen entries
  pub ended : (depth ≡ w.geometry.blocks) ⊎ ((b : ℕ) → has_number level b ≡ false)
