-- Which requests may have to wait for what is left to be reclaimed.
use Rattle.std.specs.Prelude.{⊤}
use Rattle.tsd_model.specs.declared.requests.Request.{Request}
use Rattle.tsd_model.specs.declared.requests.Request.TheVariants as ask

-- New blocks and a new pointer, whose room may be reclaimed first, and a sweep.
abbrev pub MayWait : Request → Type 0
MayWait (ask.Alloc s a shown h count) = ⊤
MayWait (ask.Contig s a shown h count) = ⊤
MayWait (ask.Create s a shown b) = ⊤
MayWait (ask.Sweep s shown) = ⊤
MayWait q = ⊥
