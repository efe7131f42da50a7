-- The request of a line as a function that computes.
use Rattle.std.specs.Prelude.{ℕ, ◌^◌, ◌/◌, Bool, cond, ◌&&◌, nat_lt, nat_le, List, [], ◌∷◌, length, codes, bytes_eq}
use Rattle.std.specs.Prelude.{Option, Some, None, option_map, unwrap_or}
use Rattle.std.specs.List.{list_all}
use Rattle.std.specs.Result.{result_ok}
use Rattle.std.specs.Char.{is_ascii_digit}
use Rattle.std.specs.Str.Parse.{digits_value}
use Rattle.hex.specs.Hex.{decode_sized}
use Rattle.tsd_model.specs.declared.caps.Cap.{Cap}
use Rattle.tsd_model.specs.declared.caps.Shown.{Shown}
use Rattle.tsd_model.specs.declared.caps.Shown.TheVariants.{Nothing, Key}
use Rattle.tsd_model.specs.declared.requests.Hint.{Hint}
use Rattle.tsd_model.specs.declared.requests.Hint.TheVariants.{Null, At}
use Rattle.tsd_model.specs.declared.requests.Request.{Request}
use Rattle.tsd_model.specs.declared.requests.Request.TheVariants as ask
use Rattle.script_text.specs.declared.parsed.Access.{Access}
use Rattle.script_text.specs.Grammar.{line_max}
use Rattle.script_text.specs.Pieces.{pieces}

abbrev pub Words : Type 0
Words = List (List ℕ)

-- the second step, where the first gave a value
infixl 10 ◌>>=◌
abbrev pub ◌>>=◌ : {A B : Type 0} → Option A → (A → Option B) → Option B
None >>= f = None
(Some x) >>= f = f x

-- ---- what one word says

-- the words whose value is a number that we serve
abbrev pub is_number : List ℕ → Bool
is_number w =
    (nat_le (length w) 10 && list_all is_ascii_digit w) && (nat_le 1 (length w) && nat_lt (digits_value 10 w) (2 ^ 32))

abbrev pub num_of : List ℕ → Option ℕ
num_of w = cond (is_number w) (Some (digits_value 10 w)) None

abbrev pub new_of : List ℕ → Option Cap
new_of w = option_map (λ bytes. record { bytes = bytes }) (result_ok (decode_sized w 16))

abbrev pub shown_of : List ℕ → Option Shown
shown_of w = cond (bytes_eq w (codes "-")) (Some Nothing) (option_map (λ cap. Key cap) (new_of w))

abbrev pub hint_of : List ℕ → Option Hint
hint_of w = cond (bytes_eq w (codes "-")) (Some Null) (option_map (λ b. At b) (num_of w))

abbrev pub data_of : List ℕ → Option (List ℕ)
data_of w =
    cond (bytes_eq w (codes "-")) (Some []) (cond (nat_le 2 (length w) && nat_le (length w) 8192)
    (result_ok (decode_sized w (length w / 2))) None)

-- ---- what the next words say, and the words after them

abbrev pub reads : {A : Type 0} → (List ℕ → Option A) → Words → Option (A × Words)
reads f [] = None
reads f (w ∷ ws) = option_map (λ x. (x, ws)) (f w)

-- no word is left
abbrev pub ends : {A : Type 0} → Words → A → Option A
ends [] x = Some x
ends (w ∷ ws) x = None

unfoldable pub access_of : Words → Option (Access × Words)
access_of ws = do
  s ← reads num_of ws
  b ← reads num_of s.1
  c ← reads shown_of b.1
  Some (record { session = s.0; block = b.0; shown = c.0 }, c.1)

-- ---- the words after each name

unfoldable pub begin_of : Words → Option Request
begin_of ws = reads num_of ws >>= λ s. ends s.1 (ask.Begin s.0)

unfoldable pub end_of : Words → Option Request
end_of ws = reads num_of ws >>= λ s. ends s.1 (ask.End s.0)

unfoldable pub read_of : Words → Option Request
read_of ws = access_of ws >>= λ p. ends p.1 (ask.Read p.0.session p.0.block p.0.shown)

unfoldable pub write_of : Words → Option Request
write_of ws = do
  p ← access_of ws
  d ← reads data_of p.1
  ends d.1 (ask.Write p.0.session p.0.block p.0.shown d.0)

unfoldable pub alloc_of : Words → Option Request
alloc_of ws = do
  p ← access_of ws
  h ← reads hint_of p.1
  n ← reads num_of h.1
  ends n.1 (ask.Alloc p.0.session p.0.block p.0.shown h.0 n.0)

unfoldable pub contig_of : Words → Option Request
contig_of ws = do
  p ← access_of ws
  h ← reads hint_of p.1
  n ← reads num_of h.1
  ends n.1 (ask.Contig p.0.session p.0.block p.0.shown h.0 n.0)

abbrev pub free_of : Words → Option Request
free_of ws = ends ws ask.GetFree

unfoldable pub create_of : Words → Option Request
create_of ws = do
  p ← access_of ws
  b ← reads num_of p.1
  ends b.1 (ask.Create p.0.session p.0.block p.0.shown b.0)

unfoldable pub delete_of : Words → Option Request
delete_of ws = do
  p ← access_of ws
  b ← reads num_of p.1
  ends b.1 (ask.Delete p.0.session p.0.block p.0.shown b.0)

unfoldable pub set_cap_of : Words → Option Request
set_cap_of ws = do
  p ← access_of ws
  r ← reads new_of p.1
  w ← reads new_of r.1
  ends w.1 (ask.SetCap p.0.session p.0.block p.0.shown (record { read = r.0; write = w.0 }))

unfoldable pub sweep_of : Words → Option Request
sweep_of ws = do
  s ← reads num_of ws
  c ← reads shown_of s.1
  ends c.1 (ask.Sweep s.0 c.0)

unfoldable pub list_of : Words → Option Request
list_of ws = do
  p ← access_of ws
  b ← reads num_of p.1
  ends b.1 (ask.List p.0.session p.0.block p.0.shown b.0)

-- ---- lines

-- the first of these names that the word is says how the words after it are read
abbrev pub dispatch : List (List ℕ × (Words → Option Request)) → List ℕ → Words → Option Request
dispatch [] name ws = None
dispatch (form ∷ forms) name ws = cond (bytes_eq name form.0) (form.1 ws) (dispatch forms name ws)

abbrev pub forms : List (List ℕ × (Words → Option Request))
forms = (codes "open", begin_of) ∷ (codes "close", end_of) ∷ (codes "read", read_of) ∷ (codes "write", write_of)
    ∷ (codes "alloc", alloc_of) ∷ (codes "contig", contig_of) ∷ (codes "free", free_of) ∷ (codes "create", create_of)
    ∷ (codes "delete", delete_of) ∷ (codes "setcap", set_cap_of) ∷ (codes "sweep", sweep_of)
    ∷ (codes "list", list_of) ∷ []

unfoldable pub named : List ℕ → Words → Option Request
named name ws = dispatch forms name ws

unfoldable pub asked : Words → Option Request
asked [] = None
asked (w ∷ ws) = named w ws

-- the request of a line, Bad where it isn't one
unfoldable pub request_of : List ℕ → Request
request_of line = cond (nat_lt line_max (length line)) ask.Bad (unwrap_or (asked (pieces 32 line)) ask.Bad)
