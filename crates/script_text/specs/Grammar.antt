-- The lines that spell requests, said apart from any reading.
use Rattle.std.specs.Prelude.{◌≡◌, ℕ, ◌^◌, ◌<◌, ◌≤◌, ◌⊎◌, List, [], ◌∷◌, length, codes, Ok}
use Rattle.std.specs.List.{join_with_byte}
use Rattle.std.specs.Str.Parse.{IsNumeral, digits_value}
use Rattle.hex.specs.Hex.{decode_of}
use Rattle.tsd_model.specs.declared.caps.Cap.{Cap}
use Rattle.tsd_model.specs.declared.caps.Shown.{Shown}
use Rattle.tsd_model.specs.declared.caps.Shown.TheVariants.{Nothing, Key}
use Rattle.tsd_model.specs.declared.requests.Hint.{Hint}
use Rattle.tsd_model.specs.declared.requests.Hint.TheVariants.{Null, At}
use Rattle.tsd_model.specs.declared.requests.Request.{Request}
use Rattle.tsd_model.specs.declared.requests.Request.TheVariants as ask

-- the most bytes of a line, its line feed not counted
abbrev pub line_max : ℕ
line_max = 8400

-- how many bytes of a line are held at most: one more, so that a line too long is told apart from every other
abbrev pub held_max : ℕ
held_max = 8401

-- what one word of a line says
pub data Field : Type 0 where
  Verb : List ℕ → Field
  Number : ℕ → Field
  Show : Shown → Field
  New : Cap → Field
  Near : Hint → Field
  Bytes : List ℕ → Field

-- the line of each request, word by word, and no line for Bad
abbrev pub fields : Request → List Field
fields ask.Bad = []
fields (ask.Begin s) = Verb (codes "open") ∷ Number s ∷ []
fields (ask.End s) = Verb (codes "close") ∷ Number s ∷ []
fields (ask.Read s b shown) = Verb (codes "read") ∷ Number s ∷ Number b ∷ Show shown ∷ []
fields (ask.Write s b shown bytes) = Verb (codes "write") ∷ Number s ∷ Number b ∷ Show shown ∷ Bytes bytes ∷ []
fields (ask.Alloc s a shown hint n) =
    Verb (codes "alloc") ∷ Number s ∷ Number a ∷ Show shown ∷ Near hint ∷ Number n ∷ []
fields (ask.Contig s a shown hint n) =
    Verb (codes "contig") ∷ Number s ∷ Number a ∷ Show shown ∷ Near hint ∷ Number n ∷ []
fields ask.GetFree = Verb (codes "free") ∷ []
fields (ask.Create s a shown b) = Verb (codes "create") ∷ Number s ∷ Number a ∷ Show shown ∷ Number b ∷ []
fields (ask.Delete s a shown b) = Verb (codes "delete") ∷ Number s ∷ Number a ∷ Show shown ∷ Number b ∷ []
fields (ask.SetCap s b shown caps) =
    Verb (codes "setcap") ∷ Number s ∷ Number b ∷ Show shown ∷ New caps.read ∷ New caps.write ∷ []
fields (ask.Sweep s shown) = Verb (codes "sweep") ∷ Number s ∷ Show shown ∷ []
fields (ask.List s a shown start) = Verb (codes "list") ∷ Number s ∷ Number a ∷ Show shown ∷ Number start ∷ []

-- one to ten decimal digits, of value n, at most 4,294,967,295; zeros may lead
pub record IsNumber (w : List ℕ) (n : ℕ) : Type 0 where
  pub digits : IsNumeral 10 w
  pub few : length w ≤ 10
  pub value : digits_value 10 w ≡ n
  pub fits : n < 2 ^ 32

-- 32 hexadecimal digits of either case
abbrev pub IsCapText : List ℕ → Cap → Type 0
IsCapText w cap = (length w ≡ 32) × (decode_of w ≡ Ok cap.bytes)

-- a dash for nothing, or a capability
abbrev pub IsShownText : List ℕ → Shown → Type 0
IsShownText w Nothing = w ≡ codes "-"
IsShownText w (Key cap) = IsCapText w cap

-- a dash for nowhere, or a block
abbrev pub IsHint : List ℕ → Hint → Type 0
IsHint w Null = w ≡ codes "-"
IsHint w (At b) = IsNumber w b

-- a dash for no bytes, or an even number of hexadecimal digits of either case, 2 to 8,192
abbrev pub IsData : List ℕ → List ℕ → Type 0
IsData w bytes = ((w ≡ codes "-") × (bytes ≡ [])) ⊎ ((2 ≤ length w) × (length w ≤ 8192) × (decode_of w ≡ Ok bytes))

-- the word spells this
abbrev pub IsField : Field → List ℕ → Type 0
IsField (Verb name) w = w ≡ name
IsField (Number n) w = IsNumber w n
IsField (Show shown) w = IsShownText w shown
IsField (New cap) w = IsCapText w cap
IsField (Near hint) w = IsHint w hint
IsField (Bytes bytes) w = IsData w bytes

-- the words spell these, one each
abbrev pub AreFields : List Field → List (List ℕ) → Type 0
AreFields [] [] = Unit {0}
AreFields [] (w ∷ ws) = ⊥
AreFields (f ∷ fs) [] = ⊥
AreFields (f ∷ fs) (w ∷ ws) = IsField f w × AreFields fs ws

-- The line spells the request: its words are parted by one space each, and there is at least one.
pub record IsLine (line : List ℕ) (q : Request) : Type 0 where
  pub short : length line ≤ line_max
  pub words : List (List ℕ)
  pub some : 1 ≤ length words
  pub spelled : AreFields (fields q) words
  pub parted : line ≡ join_with_byte 32 words
