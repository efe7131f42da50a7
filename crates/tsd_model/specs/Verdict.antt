-- Which rule refuses a request: the first in this order that applies.
use Rattle.std.specs.Prelude.{ℕ, ◌+◌, Bool, true, false, not, cond, ◌&&◌, ◌||◌, nat_lt, nat_le, List, [], ◌∷◌, ◌++◌}
use Rattle.std.specs.Prelude.{length, map, Option, Some, None, is_none, unwrap_or}
use Rattle.std.specs.List.{list_any}
use Rattle.std.specs.Option.{option_map_or}
use Rattle.tsd_model.specs.Geometry.{block_len}
use Rattle.tsd_model.specs.Pairs.{holds}
use Rattle.tsd_model.specs.World.{World, is_free, is_primary, free_count}
use Rattle.tsd_model.specs.Placing.{runs}
use Rattle.tsd_model.specs.Sessions.{Sessions, sessions_max, is_open, level_le}
use Rattle.tsd_model.specs.Attained.{attained}
use Rattle.tsd_model.specs.Needs.{session_of, named_blocks, needs, wanted_blocks, wanted_pairs}
use Rattle.tsd_model.specs.declared.needs.Need.{Need}
use Rattle.tsd_model.specs.declared.requests.Request.{Request}
use Rattle.tsd_model.specs.declared.requests.Request.TheVariants as ask
use Rattle.tsd_model.specs.declared.replies.Rule.{Rule}
use Rattle.tsd_model.specs.declared.replies.Rule.TheVariants as rule

-- Whether a rule applies, and the answer where it does.
pub record Check : Type 0 where
  pub applies : Bool
  pub answer : Rule

abbrev pub check : Bool → Rule → Check
check applies answer = record { applies = applies; answer = answer }

abbrev pub first_rule : List Check → Option Rule
first_rule [] = None
first_rule (c ∷ cs) = cond c.applies (Some c.answer) (first_rule cs)

-- ---- when each rule applies

abbrev pub is_bad : Request → Bool
is_bad ask.Bad = true
is_bad q = false

abbrev pub is_begin : Request → Bool
is_begin (ask.Begin s) = true
is_begin q = false

-- sessions are numbered from 1
abbrev pub is_no_session : ℕ → Bool
is_no_session s = nat_lt s 1 || nat_lt sessions_max s

abbrev pub has_bad_session : Request → Bool
has_bad_session q = option_map_or is_no_session (session_of q) false

abbrev pub is_already_open : Sessions → Request → Bool
is_already_open v q = is_begin q && option_map_or (is_open v) (session_of q) false

abbrev pub is_not_open : Sessions → Request → Bool
is_not_open v q = not (is_begin q) && option_map_or (λ s. not (is_open v s)) (session_of q) false

-- how many blocks one request may take, at least 1
abbrev pub count_max : ℕ
count_max = 32

abbrev pub has_bad_count : Request → Bool
has_bad_count q = option_map_or (λ count. nat_lt count 1 || nat_lt count_max count) (wanted_blocks q) false

abbrev pub has_bad_size : World → Request → Bool
has_bad_size w (ask.Write s b shown bytes) = nat_lt (block_len w.geometry) (length bytes)
has_bad_size w q = false

abbrev pub names_missing_block : World → Request → Bool
names_missing_block w q = list_any (λ b. nat_le w.geometry.blocks b) (named_blocks q)

abbrev pub names_free_block : World → Request → Bool
names_free_block w q = list_any (is_free w) (named_blocks q)

-- only primary blocks have capabilities
abbrev pub sets_caps_elsewhere : World → Request → Bool
sets_caps_elsewhere w (ask.SetCap s b shown caps) = not (is_primary w b)
sets_caps_elsewhere w q = false

-- nothing points to a primary block
abbrev pub points_to_primary : World → Request → Bool
points_to_primary w (ask.Create s a shown b) = is_primary w b
points_to_primary w q = false

abbrev pub adds_held_pair : World → Request → Bool
adds_held_pair w (ask.Create s a shown b) = holds w.pairs a b
adds_held_pair w q = false

abbrev pub deletes_missing_pair : World → Request → Bool
deletes_missing_pair w (ask.Delete s a shown b) = not (holds w.pairs a b)
deletes_missing_pair w q = false

abbrev pub wants_too_many : World → Request → Bool
wants_too_many w q = option_map_or (nat_lt (free_count w)) (wanted_blocks q) false

abbrev pub is_empty : {A : Type 0} → List A → Bool
is_empty [] = true
is_empty (x ∷ xs) = false

abbrev pub finds_no_run : World → Request → Bool
finds_no_run w (ask.Contig s a shown h count) = is_empty (runs w count)
finds_no_run w q = false

abbrev pub has_no_room : World → Request → Bool
has_no_room w q = option_map_or (λ more. nat_lt w.geometry.slots (length w.pairs + more)) (wanted_pairs q) false

-- ---- the rules in their order

-- the level attained at a block is below the one needed there
abbrev pub denied : World → Sessions → ℕ → Need → Check
denied w v s n =
    check (not (level_le n.level (attained w v s n.block n.shown)))
    (rule.Denied (attained w v s n.block n.shown) n.level)

abbrev pub session_rules : Sessions → Request → List Check
session_rules v q =
    check (is_bad q) rule.BadRequest
    ∷ check (has_bad_session q) rule.BadSession
    ∷ check (is_already_open v q) rule.AlreadyOpen
    ∷ check (is_not_open v q) rule.NotOpen
    ∷ []

abbrev pub block_rules : World → Request → List Check
block_rules w q =
    check (has_bad_count q) rule.BadCount
    ∷ check (has_bad_size w q) rule.BadSize
    ∷ check (names_missing_block w q) rule.NoSuchBlock
    ∷ check (names_free_block w q) rule.FreeBlock
    ∷ check (sets_caps_elsewhere w q) rule.NotPrimary
    ∷ check (points_to_primary w q) rule.IsPrimary
    ∷ []

abbrev pub level_rules : World → Sessions → Request → List Check
level_rules w v q = map (denied w v (unwrap_or (session_of q) 0)) (needs q)

abbrev pub pair_rules : World → Request → List Check
pair_rules w q =
    check (adds_held_pair w q) rule.PointerExists
    ∷ check (deletes_missing_pair w q) rule.NoPointer
    ∷ []

abbrev pub room_rules : World → Request → List Check
room_rules w q =
    check (wants_too_many w q) (rule.Full (free_count w) (unwrap_or (wanted_blocks q) 0))
    ∷ check (finds_no_run w q) (rule.NoRun (free_count w) (unwrap_or (wanted_blocks q) 0))
    ∷ check (has_no_room w q) (rule.PointersFull (length w.pairs) w.geometry.slots)
    ∷ []

-- all rules but those on room: no rule before Full applies where none of these does
abbrev pub rules_before_room : World → Sessions → Request → List Check
rules_before_room w v q = session_rules v q ++ (block_rules w q ++ (level_rules w v q ++ pair_rules w q))

abbrev pub rules : World → Sessions → Request → List Check
rules w v q = rules_before_room w v q ++ room_rules w q

-- the first rule that applies, if one does; else the request is granted
abbrev pub verdict : World → Sessions → Request → Option Rule
verdict w v q = first_rule (rules w v q)

abbrev pub is_granted : World → Sessions → Request → Bool
is_granted w v q = is_none (verdict w v q)
