-- What a client asks: it shows its capability at the root alone.
use Rattle.std.specs.Prelude.{ℕ, List, cond, ◌==◌}
use Rattle.tsd_model.specs.declared.caps.Shown.{Shown}
use Rattle.tsd_model.specs.declared.caps.Shown.TheVariants.{Nothing, Key}
use Rattle.tsd_model.specs.declared.requests.Hint.TheVariants.{At}
use Rattle.tsd_model.specs.declared.requests.Request.{Request}
use Rattle.tsd_model.specs.declared.requests.Request.TheVariants as ask
use Rattle.fs_client.specs.declared.client.Client.{Client}

abbrev pub shown_at : Client → ℕ → Shown
shown_at c b = cond (b == c.root) (Key c.cap) Nothing

abbrev pub read_by : Client → ℕ → Request
read_by c b = ask.Read c.session b (shown_at c b)

abbrev pub write_by : Client → ℕ → List ℕ → Request
write_by c b bytes = ask.Write c.session b (shown_at c b) bytes

abbrev pub link_by : Client → ℕ → ℕ → Request
link_by c a b = ask.Create c.session a (shown_at c a) b

abbrev pub unlink_by : Client → ℕ → ℕ → Request
unlink_by c a b = ask.Delete c.session a (shown_at c a) b

-- new blocks are to stand near the source
abbrev pub alloc_by : Client → ℕ → ℕ → Request
alloc_by c a count = ask.Alloc c.session a (shown_at c a) (At a) count

abbrev pub list_by : Client → ℕ → ℕ → Request
list_by c a start = ask.List c.session a (shown_at c a) start
