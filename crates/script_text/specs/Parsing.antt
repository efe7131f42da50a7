-- The request that the words of a line say, or the fields of a body, where the bytes to write still stand as they were
-- sent.
use Rattle.std.specs.Prelude.{ℕ, Bool, true, false, cond, nat_le, List, length, Option, Some, None, option_map}
use Rattle.tsd_model.specs.declared.requests.Request.{Request}
use Rattle.tsd_model.specs.declared.requests.Request.TheVariants as ask
use Rattle.script_text.specs.declared.parsed.Access.{Access}
use Rattle.script_text.specs.declared.parsed.Parsed.{Parsed}
use Rattle.script_text.specs.declared.parsed.Parsed.TheVariants as say
use Rattle.script_text.specs.declared.parsed.Sent.{Sent}
use Rattle.script_text.specs.declared.parsed.Sent.TheVariants as sent
use Rattle.script_text.specs.Reading.{Words, data_of, ends}

-- the bytes to write, where a block may have them
abbrev pub data_sent : Sent → Option (List ℕ)
data_sent (sent.Word w) = data_of w.now
data_sent (sent.Bytes bs) = cond (nat_le (length bs.now) 4096) (Some bs.now) None

abbrev pub write_parsed : Access → Sent → Option Request
write_parsed p s = option_map (λ d. ask.Write p.session p.block p.shown d) (data_sent s)

abbrev pub request_parsed : Parsed → Option Request
request_parsed say.Bad = None
request_parsed (say.Begin s) = Some (ask.Begin s)
request_parsed (say.End s) = Some (ask.End s)
request_parsed (say.Read p) = Some (ask.Read p.session p.block p.shown)
request_parsed (say.Write p s) = write_parsed p s
request_parsed (say.Alloc p h n) = Some (ask.Alloc p.session p.block p.shown h n)
request_parsed (say.Contig p h n) = Some (ask.Contig p.session p.block p.shown h n)
request_parsed say.GetFree = Some ask.GetFree
request_parsed (say.Create p b) = Some (ask.Create p.session p.block p.shown b)
request_parsed (say.Delete p b) = Some (ask.Delete p.session p.block p.shown b)
request_parsed (say.SetCap p caps) = Some (ask.SetCap p.session p.block p.shown caps)
request_parsed (say.Sweep s c) = Some (ask.Sweep s c)
request_parsed (say.List p b) = Some (ask.List p.session p.block p.shown b)

-- whether it names pointers of a block, or is to make some
abbrev pub names_pointers : Parsed → Bool
names_pointers say.Bad = false
names_pointers (say.Begin s) = false
names_pointers (say.End s) = false
names_pointers (say.Read p) = false
names_pointers (say.Write p s) = false
names_pointers say.GetFree = false
names_pointers (say.Sweep s c) = false
names_pointers (say.Alloc p h n) = true
names_pointers (say.Contig p h n) = true
names_pointers (say.Create p b) = true
names_pointers (say.Delete p b) = true
names_pointers (say.SetCap p caps) = true
names_pointers (say.List p b) = true

-- whether it makes blocks, or capabilities
abbrev pub is_making : Parsed → Bool
is_making say.Bad = false
is_making (say.Begin s) = false
is_making (say.End s) = false
is_making (say.Read p) = false
is_making (say.Write p s) = false
is_making say.GetFree = false
is_making (say.Sweep s c) = false
is_making (say.Alloc p h n) = true
is_making (say.Contig p h n) = true
is_making (say.Create p b) = false
is_making (say.Delete p b) = false
is_making (say.SetCap p caps) = true
is_making (say.List p b) = false

abbrev pub request_said : Option Parsed → Option Request
request_said None = None
request_said (Some x) = request_parsed x

-- the request, where no word is left
abbrev pub ended : Words → Option Request → Option Request
ended ws None = None
ended ws (Some q) = ends ws q
