-- The bodies that spell requests, said apart from any reading.
use Rattle.std.specs.Prelude.{◌≡◌, ◌≢◌, ℕ, List, [], ◌∷◌}
use Rattle.tsd_model.specs.declared.requests.Request.{Request}
use Rattle.tsd_model.specs.declared.requests.Request.TheVariants as ask
use Rattle.request_frames.specs.Fields.{Field, Code, Number, Show, New, Near, Bytes, AllFit, bytes_of}

-- the fields of each request, a code first, and none for Bad
abbrev pub fields : Request → List Field
fields ask.Bad = []
fields (ask.Begin s) = Code 1 ∷ Number s ∷ []
fields (ask.End s) = Code 2 ∷ Number s ∷ []
fields (ask.Read s b shown) = Code 3 ∷ Number s ∷ Number b ∷ Show shown ∷ []
fields (ask.Write s b shown bytes) = Code 4 ∷ Number s ∷ Number b ∷ Show shown ∷ Bytes bytes ∷ []
fields (ask.Alloc s a shown hint n) = Code 5 ∷ Number s ∷ Number a ∷ Show shown ∷ Near hint ∷ Number n ∷ []
fields (ask.Contig s a shown hint n) = Code 6 ∷ Number s ∷ Number a ∷ Show shown ∷ Near hint ∷ Number n ∷ []
fields ask.GetFree = Code 7 ∷ []
fields (ask.Create s a shown b) = Code 8 ∷ Number s ∷ Number a ∷ Show shown ∷ Number b ∷ []
fields (ask.Delete s a shown b) = Code 9 ∷ Number s ∷ Number a ∷ Show shown ∷ Number b ∷ []
fields (ask.SetCap s b shown caps) = Code 10 ∷ Number s ∷ Number b ∷ Show shown ∷ New caps.read ∷ New caps.write ∷ []
fields (ask.Sweep s shown) = Code 11 ∷ Number s ∷ Show shown ∷ []
fields (ask.List s a shown start) = Code 12 ∷ Number s ∷ Number a ∷ Show shown ∷ Number start ∷ []

-- the one body of a request
abbrev pub request_body : Request → List ℕ
request_body q = bytes_of (fields q)

-- The body spells the request, from its first byte to its last. No body spells Bad.
pub record IsBody (body : List ℕ) (q : Request) : Type 0 where
  pub some : q ≢ ask.Bad
  pub fits : AllFit (fields q)
  pub spelled : body ≡ request_body q
