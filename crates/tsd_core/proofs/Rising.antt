-- Levels that have risen.
use Rattle.std.proofs.Common.{◌≡◌, ℕ, ◌-◌, ◌<◌, refl, sym, ◌∙◌, arith}
use Rattle.tsd_core.proofs.Common.{get_or_append_left, length-map-range_with_len, get_or-map-range_with_len, slice_get, slice_index_or, unwrap_or, replicate, World, Sessions, attained_from, attained_origins, session_of, needs, raised_by, Shown, Request, attained_at, raised_need}
use Rattle.tsd_model.specs.declared.requests.Level.TheVariants as level
use Rattle.tsd_model.specs.declared.requests.Request.TheVariants as ask

-- the level attained from a primary block, in the list of them
pub attained_at_origin : (w : World) (v : Sessions) (s b : ℕ) (shown : Shown) (o : ℕ) → o < w.geometry.primaries → attained_from w v s b shown o ≡ slice_index_or (attained_at w v s b shown) o level.Bare
attained_at_origin w v s b shown o inside =
    let f = attained_from w v s b shown in
    let size = length-map-range_with_len f 0 w.geometry.primaries in
    sym (get_or_append_left (attained_origins w v s b shown) (replicate (16 - w.geometry.primaries) level.Bare) level.Bare o (omega (arith, inside, size))
    ∙ get_or-map-range_with_len f 0 w.geometry.primaries o o level.Bare inside (omega arith))

-- first at the block or the source, then at the target
pub both_risen : (w : World) (v : Sessions) (q : Request) →
    raised_need w v (unwrap_or (session_of q) 0) (slice_get (needs q) 1) (raised_need w v (unwrap_or (session_of q) 0) (slice_get (needs q) 0) v) ≡ raised_by w v q
both_risen w v ask.Bad = refl
both_risen w v (ask.Begin s) = refl
both_risen w v (ask.End s) = refl
both_risen w v (ask.Read s b shown) = refl
both_risen w v (ask.Write s b shown bytes) = refl
both_risen w v (ask.Alloc s a shown h count) = refl
both_risen w v (ask.Contig s a shown h count) = refl
both_risen w v ask.GetFree = refl
both_risen w v (ask.Create s a shown b) = refl
both_risen w v (ask.Delete s a shown b) = refl
both_risen w v (ask.SetCap s b shown caps) = refl
both_risen w v (ask.Sweep s shown) = refl
both_risen w v (ask.List s a shown start) = refl
