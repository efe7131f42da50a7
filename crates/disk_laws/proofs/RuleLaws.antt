-- What is known of a request that no rule refuses.
use Rattle.std.proofs.Common.{◌≡◌, true, false, cond, List, [], ◌∷◌, ◌++◌, refl, ◌∙◌, ap}
use Rattle.std.proofs.Common.{Option, Some, None}
use Rattle.disk_laws.proofs.Common.{World, Sessions, Check, first_rule, session_rules, block_rules, level_rules, pair_rules, room_rules, rules_before_room, rules, is_bad, has_bad_session, is_already_open, is_not_open, has_bad_count, has_bad_size, names_missing_block, names_free_block, sets_caps_elsewhere, points_to_primary, adds_held_pair, deletes_missing_pair, wants_too_many, finds_no_run, has_no_room, Request, Rule}

abbrev pub NoRule : List Check → Type 0
NoRule cs = ◌≡◌ {A = Option Rule} (first_rule cs) None

-- the first of the list doesn't apply, nor do the others
pub none_first : (c : Check) (cs : List Check) → NoRule (c ∷ cs) → (c.applies ≡ false) × NoRule cs
none_first c cs e = elim c.applies as (λ t. ◌≡◌ {A = Option Rule} (cond t (Some c.answer) (first_rule cs)) None → (t ≡ false) × NoRule cs) [
  | true ↦ λ g. absurd (cc)
  | false ↦ λ g. (refl, g)
] e

pub none_split : (cs ds : List Check) → NoRule (cs ++ ds) → NoRule cs × NoRule ds
none_split [] ds e = (refl, e)
none_split (c ∷ cs) ds e =
    let at = none_first c (cs ++ ds) e in
    let rest = none_split cs ds at.1 in
    (ap (λ t. cond t (Some c.answer) (first_rule cs)) at.0 ∙ rest.0, rest.1)

-- none of the list applies
abbrev pub NoneApply : List Check → Type 0
NoneApply [] = Unit {0}
NoneApply (c ∷ cs) = (c.applies ≡ false) × NoneApply cs

pub none_apply : (cs : List Check) → NoRule cs → NoneApply cs
none_apply [] e = tt
none_apply (c ∷ cs) e = let at = none_first c cs e in (at.0, none_apply cs at.1)

-- No rule applies.
pub record Passes (w : World) (v : Sessions) (q : Request) : Type 0 where
  pub good : is_bad q ≡ false
  pub in_range : has_bad_session q ≡ false
  pub opens_new : is_already_open v q ≡ false
  pub opened : is_not_open v q ≡ false
  pub count : has_bad_count q ≡ false
  pub size : has_bad_size w q ≡ false
  pub there : names_missing_block w q ≡ false
  pub live : names_free_block w q ≡ false
  pub on_primary : sets_caps_elsewhere w q ≡ false
  pub to_others : points_to_primary w q ≡ false
  pub levels : NoRule (level_rules w v q)
  pub new_pair : adds_held_pair w q ≡ false
  pub old_pair : deletes_missing_pair w q ≡ false
  pub enough : wants_too_many w q ≡ false
  pub run : finds_no_run w q ≡ false
  pub room : has_no_room w q ≡ false

pub granted_passes : (w : World) (v : Sessions) (q : Request) → NoRule (rules w v q) → Passes w v q
granted_passes w v q e =
    let halves = none_split (rules_before_room w v q) (room_rules w q) e in
    let one = none_split (session_rules v q) (block_rules w q ++ (level_rules w v q ++ pair_rules w q)) halves.0 in
    let two = none_split (block_rules w q) (level_rules w v q ++ pair_rules w q) one.1 in
    let three = none_split (level_rules w v q) (pair_rules w q) two.1 in
    let s : NoneApply (session_rules v q) = none_apply (session_rules v q) one.0 in
    let b : NoneApply (block_rules w q) = none_apply (block_rules w q) two.0 in
    let p : NoneApply (pair_rules w q) = none_apply (pair_rules w q) three.1 in
    let r : NoneApply (room_rules w q) = none_apply (room_rules w q) halves.1 in
    record {
      good = s.0;
      in_range = s.1.0;
      opens_new = s.1.1.0;
      opened = s.1.1.1.0;
      count = b.0;
      size = b.1.0;
      there = b.1.1.0;
      live = b.1.1.1.0;
      on_primary = b.1.1.1.1.0;
      to_others = b.1.1.1.1.1.0;
      levels = three.0;
      new_pair = p.0;
      old_pair = p.1.0;
      enough = r.0;
      run = r.1.0;
      room = r.1.1.0;
    }
