-- What a request names and needs.
use Rattle.std.specs.Prelude.{ℕ, Bool, true, false, List, [], ◌∷◌, Option, Some, None}
use Rattle.tsd_model.specs.declared.needs.Need.{Need}
use Rattle.tsd_model.specs.declared.requests.Level.TheVariants as level
use Rattle.tsd_model.specs.declared.caps.Shown.TheVariants.{Nothing}
use Rattle.tsd_model.specs.declared.requests.Request.{Request}
use Rattle.tsd_model.specs.declared.requests.Request.TheVariants as ask

-- it neither opens nor closes a session, nor sets a capability
abbrev pub is_steady : Request → Bool
is_steady (ask.Begin s) = false
is_steady (ask.End s) = false
is_steady (ask.SetCap s b shown caps) = false
is_steady q = true

-- whose it is
abbrev pub session_of : Request → Option ℕ
session_of ask.Bad = None
session_of (ask.Begin s) = Some s
session_of (ask.End s) = Some s
session_of (ask.Read s b shown) = Some s
session_of (ask.Write s b shown bytes) = Some s
session_of (ask.Alloc s a shown h count) = Some s
session_of (ask.Contig s a shown h count) = Some s
session_of ask.GetFree = None
session_of (ask.Create s a shown b) = Some s
session_of (ask.Delete s a shown b) = Some s
session_of (ask.SetCap s b shown caps) = Some s
session_of (ask.Sweep s shown) = Some s
session_of (ask.List s a shown start) = Some s

-- the block or the source, then the target; a sweep names block 0
abbrev pub named_blocks : Request → List ℕ
named_blocks ask.Bad = []
named_blocks (ask.Begin s) = []
named_blocks (ask.End s) = []
named_blocks (ask.Read s b shown) = b ∷ []
named_blocks (ask.Write s b shown bytes) = b ∷ []
named_blocks (ask.Alloc s a shown h count) = a ∷ []
named_blocks (ask.Contig s a shown h count) = a ∷ []
named_blocks ask.GetFree = []
named_blocks (ask.Create s a shown b) = a ∷ b ∷ []
named_blocks (ask.Delete s a shown b) = a ∷ b ∷ []
named_blocks (ask.SetCap s b shown caps) = b ∷ []
named_blocks (ask.Sweep s shown) = 0 ∷ []
named_blocks (ask.List s a shown start) = a ∷ []

-- A capability is shown at the block or the source; a sweep needs write at block 0.
abbrev pub needs : Request → List Need
needs ask.Bad = []
needs (ask.Begin s) = []
needs (ask.End s) = []
needs (ask.Read s b shown) = record { block = b; level = level.Read; shown = shown } ∷ []
needs (ask.Write s b shown bytes) = record { block = b; level = level.Write; shown = shown } ∷ []
needs (ask.Alloc s a shown h count) = record { block = a; level = level.Write; shown = shown } ∷ []
needs (ask.Contig s a shown h count) = record { block = a; level = level.Write; shown = shown } ∷ []
needs ask.GetFree = []
needs (ask.Create s a shown b) = record { block = a; level = level.Write; shown = shown } ∷ record {
  block = b;
  level = level.Write;
  shown = Nothing;
} ∷ []
needs (ask.Delete s a shown b) = record { block = a; level = level.Write; shown = shown } ∷ []
needs (ask.SetCap s b shown caps) = record { block = b; level = level.Write; shown = shown } ∷ []
needs (ask.Sweep s shown) = record { block = 0; level = level.Write; shown = shown } ∷ []
needs (ask.List s a shown start) = record { block = a; level = level.Read; shown = shown } ∷ []

-- how many free blocks it takes
abbrev pub wanted_blocks : Request → Option ℕ
wanted_blocks (ask.Alloc s a shown h count) = Some count
wanted_blocks (ask.Contig s a shown h count) = Some count
wanted_blocks q = None

-- how many pointers it adds
abbrev pub wanted_pairs : Request → Option ℕ
wanted_pairs (ask.Alloc s a shown h count) = Some count
wanted_pairs (ask.Contig s a shown h count) = Some count
wanted_pairs (ask.Create s a shown b) = Some 1
wanted_pairs q = None
