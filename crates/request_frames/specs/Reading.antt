-- The request of a body as a function that computes.
use Rattle.std.specs.Prelude.{ℕ, ◌==◌, cond, nat_le, List, [], ◌∷◌, length, drop, take, Option, Some, None, option_map}
use Rattle.std.specs.Prelude.{unwrap_or}
use Rattle.byteorder.specs.Endian.{little_number}
use Rattle.tsd_model.specs.Step.{targets_max}
use Rattle.tsd_model.specs.declared.caps.Cap.{Cap}
use Rattle.tsd_model.specs.declared.caps.Shown.{Shown}
use Rattle.tsd_model.specs.declared.caps.Shown.TheVariants.{Nothing, Key}
use Rattle.tsd_model.specs.declared.requests.Hint.{Hint}
use Rattle.tsd_model.specs.declared.requests.Hint.TheVariants.{Null, At}
use Rattle.tsd_model.specs.declared.requests.Level.{Level}
use Rattle.tsd_model.specs.declared.requests.Level.TheVariants as level
use Rattle.tsd_model.specs.declared.requests.Request.{Request}
use Rattle.tsd_model.specs.declared.requests.Request.TheVariants as ask
use Rattle.script_text.specs.declared.parsed.Access.{Access}

-- the second step, where the first gave a value
infixl 10 ◌>>=◌
abbrev pub ◌>>=◌ : {A B : Type 0} → Option A → (A → Option B) → Option B
None >>= f = None
(Some x) >>= f = f x

-- ---- what the next bytes say, and the bytes after them

abbrev pub byte_of : List ℕ → Option (ℕ × List ℕ)
byte_of [] = None
byte_of (b ∷ bs) = Some (b, bs)

-- so many bytes
abbrev pub taken : ℕ → List ℕ → Option (List ℕ × List ℕ)
taken k bs = cond (nat_le k (length bs)) (Some (take k bs, drop k bs)) None

unfoldable pub num_of : List ℕ → Option (ℕ × List ℕ)
num_of bs = cond (nat_le 4 (length bs)) (Some (little_number 4 bs, drop 4 bs)) None

abbrev pub cap_of : List ℕ → Option (Cap × List ℕ)
cap_of bs = cond (nat_le 16 (length bs)) (Some (record { bytes = take 16 bs }, drop 16 bs)) None

-- what was read, as part of something, and the bytes after it
abbrev pub wrapped : {A B : Type 0} → (B → A) → B × List ℕ → A × List ℕ
wrapped something x = (something x.0, x.1)

-- a byte 0 for nothing, or a byte 1 and something
abbrev pub flagged : {A B : Type 0} → A → (B → A) → (List ℕ → Option (B × List ℕ)) → List ℕ → Option (A × List ℕ)
flagged nothing something read [] = None
flagged nothing something read (b ∷ bs) =
    cond (b == 0) (Some (nothing, bs)) (cond (b == 1) (option_map (wrapped something) (read bs)) None)

abbrev pub shown_of : List ℕ → Option (Shown × List ℕ)
shown_of bs = flagged Nothing (λ cap. Key cap) cap_of bs

abbrev pub hint_of : List ℕ → Option (Hint × List ℕ)
hint_of bs = flagged Null (λ b. At b) num_of bs

abbrev pub level_of : List ℕ → Option (Level × List ℕ)
level_of [] = None
level_of (b ∷ bs) =
    cond (b == 0) (Some (level.Bare, bs)) (cond (b == 1) (Some (level.Read, bs))
    (cond (b == 2) (Some (level.Write, bs)) None))

-- all bytes that are left, where a block may have so many
abbrev pub data_of : List ℕ → Option (List ℕ × List ℕ)
data_of bs = cond (nat_le (length bs) 4096) (Some (bs, [])) None

-- all bytes that are left as numbers
abbrev pub numbers_of : List ℕ → Option (List ℕ)
numbers_of [] = Some []
numbers_of (a ∷ []) = None
numbers_of (a ∷ b ∷ []) = None
numbers_of (a ∷ b ∷ c ∷ []) = None
numbers_of (a ∷ b ∷ c ∷ d ∷ bs) = option_map (λ ns. little_number 4 (a ∷ b ∷ c ∷ d ∷ bs) ∷ ns) (numbers_of bs)

-- so many numbers a list of blocks has room for
unfoldable pub list_of_blocks : List ℕ → Option (List ℕ)
list_of_blocks bs = numbers_of bs >>= λ ns. cond (nat_le (length ns) targets_max) (Some ns) None

-- no byte is left
abbrev pub ends : {A : Type 0} → List ℕ → A → Option A
ends [] x = Some x
ends (b ∷ bs) x = None

-- the request, where no byte is left
abbrev pub ended : List ℕ → Option Request → Option Request
ended bs None = None
ended bs (Some q) = ends bs q

unfoldable pub access_of : List ℕ → Option (Access × List ℕ)
access_of bs = do
  s ← num_of bs
  b ← num_of s.1
  c ← shown_of b.1
  Some (record { session = s.0; block = b.0; shown = c.0 }, c.1)

-- ---- the bytes after each code

unfoldable pub begin_of : List ℕ → Option Request
begin_of bs = num_of bs >>= λ s. ends s.1 (ask.Begin s.0)

unfoldable pub end_of : List ℕ → Option Request
end_of bs = num_of bs >>= λ s. ends s.1 (ask.End s.0)

unfoldable pub read_of : List ℕ → Option Request
read_of bs = access_of bs >>= λ p. ends p.1 (ask.Read p.0.session p.0.block p.0.shown)

unfoldable pub write_of : List ℕ → Option Request
write_of bs = do
  p ← access_of bs
  d ← data_of p.1
  ends d.1 (ask.Write p.0.session p.0.block p.0.shown d.0)

unfoldable pub alloc_of : List ℕ → Option Request
alloc_of bs = do
  p ← access_of bs
  h ← hint_of p.1
  n ← num_of h.1
  ends n.1 (ask.Alloc p.0.session p.0.block p.0.shown h.0 n.0)

unfoldable pub contig_of : List ℕ → Option Request
contig_of bs = do
  p ← access_of bs
  h ← hint_of p.1
  n ← num_of h.1
  ends n.1 (ask.Contig p.0.session p.0.block p.0.shown h.0 n.0)

abbrev pub free_of : List ℕ → Option Request
free_of bs = ends bs ask.GetFree

unfoldable pub create_of : List ℕ → Option Request
create_of bs = do
  p ← access_of bs
  b ← num_of p.1
  ends b.1 (ask.Create p.0.session p.0.block p.0.shown b.0)

unfoldable pub delete_of : List ℕ → Option Request
delete_of bs = do
  p ← access_of bs
  b ← num_of p.1
  ends b.1 (ask.Delete p.0.session p.0.block p.0.shown b.0)

unfoldable pub set_cap_of : List ℕ → Option Request
set_cap_of bs = do
  p ← access_of bs
  r ← cap_of p.1
  w ← cap_of r.1
  ends w.1 (ask.SetCap p.0.session p.0.block p.0.shown (record { read = r.0; write = w.0 }))

unfoldable pub sweep_of : List ℕ → Option Request
sweep_of bs = do
  s ← num_of bs
  c ← shown_of s.1
  ends c.1 (ask.Sweep s.0 c.0)

unfoldable pub list_of : List ℕ → Option Request
list_of bs = do
  p ← access_of bs
  b ← num_of p.1
  ends b.1 (ask.List p.0.session p.0.block p.0.shown b.0)

-- ---- bodies

-- the first of these codes that the byte is says how the bytes after it are read
abbrev pub dispatch : {A : Type 0} → List (ℕ × (List ℕ → Option A)) → ℕ → List ℕ → Option A
dispatch [] code bs = None
dispatch (form ∷ forms) code bs = cond (code == form.0) (form.1 bs) (dispatch forms code bs)

abbrev pub forms : List (ℕ × (List ℕ → Option Request))
forms = (1, begin_of) ∷ (2, end_of) ∷ (3, read_of) ∷ (4, write_of) ∷ (5, alloc_of) ∷ (6, contig_of)
    ∷ (7, free_of) ∷ (8, create_of) ∷ (9, delete_of) ∷ (10, set_cap_of) ∷ (11, sweep_of) ∷ (12, list_of) ∷ []

unfoldable pub coded : ℕ → List ℕ → Option Request
coded code bs = dispatch forms code bs

unfoldable pub asked : List ℕ → Option Request
asked [] = None
asked (b ∷ bs) = coded b bs

-- the request of a body, Bad where it isn't one
unfoldable pub request_of : List ℕ → Request
request_of body = unwrap_or (asked body) ask.Bad
