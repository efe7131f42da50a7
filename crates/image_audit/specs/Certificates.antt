-- What a certificate shows of a world.
use Rattle.std.specs.Prelude.{◌≡◌, ℕ, ◌+◌, ◌<◌, false, List, Option, Some, None, IfSome, IsTrue, MatchBool, count_by}
use Rattle.std.specs.Prelude.{is_some}
use Rattle.tsd_model.specs.Pairs.{holds, pair_lt}
use Rattle.tsd_model.specs.World.{World, is_primary}
use Rattle.image_audit.specs.declared.entry.Entry.{Entry}
use Rattle.image_audit.specs.declared.verdict.Verdict.{Verdict}
use Rattle.image_audit.specs.declared.verdict.Verdict.TheVariants as verdict
use Rattle.image_audit.specs.Entries.{entry_at, is_listed}

-- the entry of a primary block is good where its depth is 0 and it has no parent
pub record IsPrimaryEntry (e : Entry) : Type 0 where
  pub depth : e.depth ≡ 0
  pub parent : e.parent ≡ None

-- block a is listed and points to b, and b is one level further down
pub record IsBelow (w : World) (entries : List (Option Entry)) (b down a : ℕ) : Type 0 where
  pub listed : IsTrue (is_listed entries a)
  pub points : IsTrue (holds w.pairs a b)
  pub depth : IfSome (entry_at entries a) (λ above. down ≡ above.depth + 1)

-- the entry of another block is good where that is so of its parent
abbrev pub HasParent : World → List (Option Entry) → ℕ → ℕ → Option ℕ → Type 0
HasParent w entries b down None = ⊥
HasParent w entries b down (Some a) = IsBelow w entries b down a

abbrev pub IsGoodEntry : World → List (Option Entry) → ℕ → Entry → Type 0
IsGoodEntry w entries b e = MatchBool (is_primary w b) (IsPrimaryEntry e) (HasParent w entries b e.depth e.parent)

-- block b is listed with an entry that isn't good
abbrev pub IsBad : World → List (Option Entry) → ℕ → Type 0
IsBad w entries b = (e : Entry) × (entry_at entries b ≡ Some e) × (IsGoodEntry w entries b e → ⊥)

-- the pair is held, and leads from a listed block to one that isn't
pub record LeavesList (w : World) (entries : List (Option Entry)) (a b : ℕ) : Type 0 where
  pub points : IsTrue (holds w.pairs a b)
  pub from : IsTrue (is_listed entries a)
  pub out : is_listed entries b ≡ false

-- ---- the three things that a certificate has to show

-- each primary block is listed
abbrev pub ListsPrimaries : World → List (Option Entry) → Type 0
ListsPrimaries w entries = (b : ℕ) → IsTrue (is_primary w b) → IsTrue (is_listed entries b)

-- each entry is good
abbrev pub HasGoodEntries : World → List (Option Entry) → Type 0
HasGoodEntries w entries = (b : ℕ) → IfSome (entry_at entries b) (IsGoodEntry w entries b)

-- no pair leads from a listed block to one that isn't
abbrev pub IsClosed : World → List (Option Entry) → Type 0
IsClosed w entries = (a b : ℕ) → LeavesList w entries a b → ⊥

-- ---- where each fails first

-- b is the least primary block that isn't listed
pub record IsLeastPrimaryOut (w : World) (entries : List (Option Entry)) (b : ℕ) : Type 0 where
  pub primary : IsTrue (is_primary w b)
  pub out : is_listed entries b ≡ false
  pub least : (c : ℕ) → c < b → IsTrue (is_listed entries c)

-- b is the least block that is listed with an entry that isn't good
pub record IsLeastBadEntry (w : World) (entries : List (Option Entry)) (b : ℕ) : Type 0 where
  pub bad : IsBad w entries b
  pub least : (c : ℕ) → c < b → IfSome (entry_at entries c) (IsGoodEntry w entries c)

-- (a, b) is the least pair from a listed block to one that isn't
pub record IsLeastOut (w : World) (entries : List (Option Entry)) (a b : ℕ) : Type 0 where
  pub leaves : LeavesList w entries a b
  pub least : (c d : ℕ) → LeavesList w entries c d → pair_lt (c, d) (a, b) ≡ false

-- ---- the pairs from one block

-- each of them leads to a listed block
abbrev pub IsClosedAt : World → List (Option Entry) → ℕ → Type 0
IsClosedAt w entries a = (b : ℕ) → IsTrue (holds w.pairs a b) → IsTrue (is_listed entries b)

-- b is the least target of a that isn't listed
pub record IsLeastOutAt (w : World) (entries : List (Option Entry)) (a b : ℕ) : Type 0 where
  pub points : IsTrue (holds w.pairs a b)
  pub out : is_listed entries b ≡ false
  pub least : (c : ℕ) → c < b → IsTrue (holds w.pairs a c) → IsTrue (is_listed entries c)

-- ---- the verdict: the first of these that applies

abbrev pub IsVerdict : World → List (Option Entry) → Verdict → Type 0
IsVerdict w entries (verdict.Primary b) = IsLeastPrimaryOut w entries b
IsVerdict w entries (verdict.Entry b) = ListsPrimaries w entries × IsLeastBadEntry w entries b
IsVerdict w entries (verdict.Open a b) = ListsPrimaries w entries × HasGoodEntries w entries × IsLeastOut w entries a b
IsVerdict w entries (verdict.Yes n) = ListsPrimaries w entries × HasGoodEntries w entries × IsClosed w entries
    × (n ≡ count_by is_some entries)
