-- What a grant table tells: for how many blocks and primary blocks it was made, and what each session holds.
use Rattle.std.specs.Prelude.{◌≡◌, ℕ, ◌<◌, ◌≤◌, [], length, map, replicate, slice_index_or, slice_set, Option, Some}
use Rattle.std.specs.Prelude.{None, option_map, IfSome}
use Rattle.tsd_model.specs.World.{World}
use Rattle.tsd_model.specs.Sessions.{Held, Sessions, sessions_max, with_held}
use Rattle.tsd_model.specs.Verdict.{first_rule, session_rules}
use Rattle.tsd_model.specs.declared.requests.Level.TheVariants as level
use Rattle.tsd_model.specs.declared.requests.Request.TheVariants as ask
use Rattle.tsd_model.specs.declared.replies.Rule.{Rule}
use Rattle.tsd_model.specs.declared.replies.Rule.TheVariants as rule
use Rattle.grant_table.specs.declared.grants.BeginRefusal.{BeginRefusal}
use Rattle.grant_table.specs.declared.grants.BeginRefusal.TheVariants as begin
use Rattle.grant_table.specs.declared.grants.EndRefusal.{EndRefusal}
use Rattle.grant_table.specs.declared.grants.EndRefusal.TheVariants as end

pub record Table : Type 0 where
  pub blocks : ℕ
  pub primaries : ℕ
  pub sessions : Sessions

-- levels from each of p origins at each of n blocks
pub record IsHeldAt (n p : ℕ) (held : Held) : Type 0 where
  pub origins : length held ≡ p
  pub blocks : (o : ℕ) → o < p → length (slice_index_or held o []) ≡ n

-- There are 64 sessions, and each that is open has levels from each primary block at each block.
pub record IsTable (t : Table) : Type 0 where
  pub few : t.primaries ≤ 16
  pub count : length t.sessions ≡ sessions_max
  pub held : (position : ℕ) → IfSome (slice_index_or t.sessions position None) (IsHeldAt t.blocks t.primaries)

-- the table was made for a disk of this size
pub record IsMadeFor (w : World) (t : Table) : Type 0 where
  pub blocks : t.blocks ≡ w.geometry.blocks
  pub primaries : t.primaries ≡ w.geometry.primaries

abbrev pub with_sessions : Table → Sessions → Table
with_sessions t v = record t { sessions = v }

-- with this session open, holding nothing
abbrev pub begun_in : Table → ℕ → Table
begun_in t s = with_sessions t (with_held t.sessions s (Some (replicate t.primaries (replicate t.blocks level.Bare))))

-- without what is held at block b, in every session
abbrev pub dropped_at : ℕ → Sessions → Sessions
dropped_at b v = map (option_map (map (λ levels. slice_set levels b level.Bare))) v

-- the rule that refuses to open a session, and to close one, if one does
abbrev pub begin_verdict : Sessions → ℕ → Option Rule
begin_verdict v s = first_rule (session_rules v (ask.Begin s))

abbrev pub end_verdict : Sessions → ℕ → Option Rule
end_verdict v s = first_rule (session_rules v (ask.End s))

-- the rule that a refusal tells; want of memory is none
abbrev pub begin_rule : BeginRefusal → Option Rule
begin_rule begin.BadSession = Some rule.BadSession
begin_rule begin.AlreadyOpen = Some rule.AlreadyOpen
begin_rule begin.NoMemory = None

abbrev pub end_rule : EndRefusal → Option Rule
end_rule end.BadSession = Some rule.BadSession
end_rule end.NotOpen = Some rule.NotOpen
