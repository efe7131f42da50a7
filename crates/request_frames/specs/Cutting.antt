-- What a cutter of frames holds of the text that it was fed.
use Rattle.std.specs.Prelude.{◌≡◌, ℕ, Bool, cond, List, [], ◌∷◌, ◌++◌, drop, MatchBool}
use Rattle.request_frames.specs.Frames.{frames, unended}

-- the bytes of a frame, and whether they are all
pub record Cutting : Type 0 where
  pub held : List ℕ
  pub whole : Bool

-- the bytes after the length
abbrev pub frame_body : Cutting → List ℕ
frame_body c = drop 2 c.held

-- what stands after the last whole frame: a whole frame is over, and the next byte begins a new one
abbrev pub rest : Cutting → List ℕ
rest c = cond c.whole [] c.held

-- the cutter was fed this text, in whatever pieces
abbrev pub WasFed : List ℕ → Cutting → Type 0
WasFed text c = rest c ≡ unended text

-- More bytes came after a text. Either they end its next frame, and the cutter holds this frame, or they end none, and
-- it holds what stands after the last whole frame.
abbrev pub Cuts : List ℕ → List ℕ → Cutting → Type 0
Cuts text more new = MatchBool new.whole
    ((frames (text ++ more) ≡ frames text ++ frame_body new ∷ []) × (unended (text ++ more) ≡ []))
    ((frames (text ++ more) ≡ frames text) × (unended (text ++ more) ≡ new.held))

-- Feeds that came one after another, the first of them after this text: the bytes that each used, and what the cutter
-- held after it.
abbrev pub FollowOn : List ℕ → List (List ℕ × Cutting) → Type 0
FollowOn text [] = Unit {0}
FollowOn text (feed ∷ feeds) = Cuts text feed.0 feed.1 × FollowOn (text ++ feed.0) feeds

-- all bytes that these feeds used
abbrev pub text_fed : List (List ℕ × Cutting) → List ℕ
text_fed [] = []
text_fed (feed ∷ feeds) = feed.0 ++ text_fed feeds

-- the bodies of the frames that were whole after a feed
abbrev pub bodies_held : List (List ℕ × Cutting) → List (List ℕ)
bodies_held [] = []
bodies_held (feed ∷ feeds) = cond feed.1.whole (frame_body feed.1 ∷ []) [] ++ bodies_held feeds
