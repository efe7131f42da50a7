-- A frame is the length of a body in two bytes, the lowest first, and the body. A text of frames is frames one after
-- another; its last may not be whole.
use Rattle.std.specs.Prelude.{◌≡◌, ◌≢◌, ℕ, zero, suc, ◌+◌, ◌^◌, ◌<◌, Bool, cond, nat_le, List, [], ◌∷◌, ◌++◌, length}
use Rattle.std.specs.Prelude.{take, drop}
use Rattle.byteorder.specs.Endian.{little_number, little_bytes}

-- the frame of a body, which has fewer than 65,536 bytes
abbrev pub frame_of : List ℕ → List ℕ
frame_of body = little_bytes 2 (length body) ++ body

-- ---- what the frames of a text are

-- the frames of these bodies, one after another
abbrev pub frames_of : List (List ℕ) → List ℕ
frames_of [] = []
frames_of (body ∷ bodies) = frame_of body ++ frames_of bodies

-- each can be the body of a frame
abbrev pub AllShort : List (List ℕ) → Type 0
AllShort [] = Unit {0}
AllShort (body ∷ bodies) = (length body < 2 ^ 16) × AllShort bodies

-- a frame that hasn't come to its end, or nothing: more bytes, and at least one, would make it a frame
pub record IsBegun (bytes : List ℕ) : Type 0 where
  pub body : List ℕ
  pub short : length body < 2 ^ 16
  pub more : List ℕ
  pub some : more ≢ []
  pub whole : bytes ++ more ≡ frame_of body

-- a text as whole frames and what stands after them
pub record IsCut (text : List ℕ) (bodies : List (List ℕ)) (rest : List ℕ) : Type 0 where
  pub short : AllShort bodies
  pub parts : text ≡ frames_of bodies ++ rest
  pub begun : IsBegun rest

-- ---- the same as functions that compute

-- how many bytes the first frame has, by its length
abbrev pub frame_size : List ℕ → ℕ
frame_size bytes = 2 + little_number 2 bytes

-- the first frame is there whole
abbrev pub has_frame : List ℕ → Bool
has_frame bytes = nat_le (frame_size bytes) (length bytes)

-- the bodies of the whole frames, and what stands after them
pub record Cut : Type 0 where
  pub bodies : List (List ℕ)
  pub rest : List ℕ

-- the first body, and then others
abbrev pub and_then : List ℕ → Cut → Cut
and_then body others = record { bodies = body ∷ others.bodies; rest = others.rest }

-- at most so many frames are cut off
abbrev pub cut_some : ℕ → List ℕ → Cut
cut_some zero text = record { bodies = []; rest = text }
cut_some (suc n) text =
    cond (has_frame text) (and_then (drop 2 (take (frame_size text) text)) (cut_some n (drop (frame_size text) text)))
    (record { bodies = []; rest = text })

-- a frame has at least two bytes, so a text has fewer frames than bytes
unfoldable pub cut : List ℕ → Cut
cut text = cut_some (length text) text

-- the bodies of a text's frames
abbrev pub frames : List ℕ → List (List ℕ)
frames text = (cut text).bodies

-- what stands after the last whole frame
abbrev pub unended : List ℕ → List ℕ
unended text = (cut text).rest
