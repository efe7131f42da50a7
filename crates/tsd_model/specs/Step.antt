-- One request: what it changes and what is answered.
use Rattle.std.specs.Prelude.{ℕ, ◌-◌, ◌&&◌, ◌==◌, nat_le, List, [], ◌∷◌, ◌++◌, length, map, filter, take, replicate}
use Rattle.std.specs.Prelude.{slice_set, Option, Some, None, unwrap_or}
use Rattle.std.specs.List.{range_with_len}
use Rattle.tsd_model.specs.Geometry.{block_len}
use Rattle.tsd_model.specs.Pairs.{with_pair, without_pair}
use Rattle.tsd_model.specs.World.{World, contents, free_count}
use Rattle.tsd_model.specs.Records.{kept}
use Rattle.tsd_model.specs.Reach.{swept}
use Rattle.tsd_model.specs.Doomed.{settle}
use Rattle.tsd_model.specs.Placing.{chosen, chosen_run}
use Rattle.tsd_model.specs.Sessions.{Sessions, session_begun, session_ended, raised_sessions, dropped_from, fitted}
use Rattle.tsd_model.specs.Attained.{attained_from}
use Rattle.tsd_model.specs.Needs.{session_of, needs}
use Rattle.tsd_model.specs.Verdict.{verdict}
use Rattle.tsd_model.specs.declared.requests.PlaceKind.{PlaceKind}
use Rattle.tsd_model.specs.declared.needs.Need.{Need}
use Rattle.tsd_model.specs.declared.requests.Request.{Request}
use Rattle.tsd_model.specs.declared.requests.Request.TheVariants as ask
use Rattle.tsd_model.specs.declared.replies.Reply.{Reply}
use Rattle.tsd_model.specs.declared.replies.Reply.TheVariants as reply
use Rattle.tsd_model.specs.declared.replies.Rule.{Rule}
use Rattle.tsd_model.specs.declared.records.Record.{Record}

pub record State : Type 0 where
  pub world : World
  pub sessions : Sessions

pub record Outcome : Type 0 where
  pub state : State
  pub reply : Reply

abbrev pub gives : World → Sessions → Reply → Outcome
gives w v r = record { state = record { world = w; sessions = v }; reply = r }

-- ---- first, levels rise where one was needed

-- at each of these blocks, what is held from each origin becomes the greater of the old level and the one attained
-- before the request
abbrev pub raised_at : World → Sessions → ℕ → List Need → Sessions → Sessions
raised_at w v s [] now = now
raised_at w v s (n ∷ ns) now = raised_at w v s ns (raised_sessions now s n.block (attained_from w v s n.block n.shown))

abbrev pub raised_for : World → Sessions → Option ℕ → List Need → Sessions
raised_for w v None ns = v
raised_for w v (Some s) ns = raised_at w v s ns v

abbrev pub raised_by : World → Sessions → Request → Sessions
raised_by w v q = raised_for w v (session_of q) (needs q)

-- ---- second, one line of this table

-- the bytes, then zeros up to a block's length
abbrev pub filled : ℕ → List ℕ → List ℕ
filled len bytes = bytes ++ replicate (len - length bytes) 0

-- block b contains these bytes
abbrev pub with_contents : World → ℕ → List ℕ → World
with_contents w b bytes = record w { blocks = slice_set w.blocks b (Some bytes) }

-- block b contains these bytes, and zeros behind them
abbrev pub written : World → ℕ → List ℕ → World
written w b bytes = with_contents w b (filled (block_len w.geometry) bytes)

-- the pair (a, b) is held
abbrev pub with_pointer : World → ℕ → ℕ → World
with_pointer w a b = record w { pairs = with_pair (a, b) w.pairs }

abbrev pub without_pointer : World → ℕ → ℕ → World
without_pointer w a b = record w { pairs = without_pair a b w.pairs }

-- a block of zeros
abbrev pub zeros : World → List ℕ
zeros w = replicate (block_len w.geometry) 0

-- each of these blocks is live and contains zeros, and a pair leads to it from a
abbrev pub with_new_blocks : World → ℕ → List ℕ → World
with_new_blocks w a [] = w
with_new_blocks w a (b ∷ bs) = with_new_blocks (with_pointer (with_contents w b (zeros w)) a b) a bs

abbrev pub with_caps : World → ℕ → Record → World
with_caps w b r = record w { records = slice_set w.records b r }

abbrev pub done : World → Sessions → Outcome
done w v = gives w v reply.Done

abbrev pub allocated : World → Sessions → ℕ → List ℕ → Outcome
allocated w v a bs = gives (with_new_blocks w a bs) v (reply.Blocks bs)

-- how many blocks became free
abbrev pub reclaimed : World → Sessions → World → Outcome
reclaimed w v left = gives left v (reply.Gone (free_count left - free_count w))

-- so many blocks in a row
abbrev pub run_at : Option ℕ → ℕ → List ℕ
run_at None count = []
run_at (Some b) count = range_with_len b count

-- how many targets one request lists
abbrev pub targets_max : ℕ
targets_max = 64

-- the least targets of a that are not below `start`
abbrev pub targets_from : List (ℕ × ℕ) → ℕ → ℕ → List ℕ
targets_from es a start = take targets_max (map (λ e. e.1) (filter (λ e. (e.0 == a) && nat_le start e.1) es))

-- what a granted request changes, and its reply; what is no request is never granted
abbrev pub change : PlaceKind → World → Sessions → Request → Outcome
change kind w v ask.Bad = done w v
change kind w v (ask.Begin s) = done w (session_begun w v s)
change kind w v (ask.End s) = done w (session_ended v s)
change kind w v (ask.Read s b shown) = gives w v (reply.Bytes (unwrap_or (contents w b) []))
change kind w v (ask.Write s b shown bytes) = done (with_contents w b (filled (block_len w.geometry) bytes)) v
change kind w v (ask.Alloc s a shown h count) = allocated w v a (chosen kind w h count)
change kind w v (ask.Contig s a shown h count) = allocated w v a (run_at (chosen_run kind w h count) count)
change kind w v ask.GetFree = gives w v (reply.Free (free_count w))
change kind w v (ask.Create s a shown b) = done (with_pointer w a b) v
change kind w v (ask.Delete s a shown b) = reclaimed w v (settle (without_pointer w a b))
change kind w v (ask.SetCap s b shown caps) =
    done (with_caps w b (kept w.version caps)) (dropped_from (length w.blocks) b v)
change kind w v (ask.Sweep s shown) = reclaimed w v (swept w)
change kind w v (ask.List s a shown start) = gives w v (reply.Targets (targets_from w.pairs a start))

-- ---- third, levels at blocks that aren't live now are dropped

abbrev pub fitted_outcome : Outcome → Outcome
fitted_outcome o = gives o.state.world (fitted o.state.world o.state.sessions) o.reply

-- a refused request changes nothing
abbrev pub judged : PlaceKind → State → Request → Option Rule → Outcome
judged kind s q (Some r) = gives s.world s.sessions (reply.Refused r)
judged kind s q None = fitted_outcome (change kind s.world (raised_by s.world s.sessions q) q)

abbrev pub step : PlaceKind → State → Request → Outcome
step kind s q = judged kind s q (verdict s.world s.sessions q)
