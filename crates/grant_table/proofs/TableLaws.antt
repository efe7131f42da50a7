-- Grant tables keep their shape.
use Rattle.std.proofs.Common.{inl, inr, ◌≡◌, ℕ, ◌<◌, ◌≤◌, List, [], ◌++◌, length, take, drop, replicate, refl, sym, ◌∙◌, ap, subst, arith, Option, Some, None}
use Rattle.std.specs.Prelude.{map, slice_index_or, slice_set, option_map, IfSome}
use Rattle.std.proofs.lemmas.Bool.{cases_eq, cases_lt}
use Rattle.std.proofs.lemmas.List.{ext_get_or, get_or-set_same, get_or-set_other, length-set, get_or_past, set_past, get_or-replicate, length-replicate, get_or-map, length-map}
use Rattle.std.proofs.lemmas.Grind.{common_steps}
use Rattle.tsd_model.specs.Sessions.{Held, Sessions, no_sessions, dropped_from, raised_held}
use Rattle.tsd_model.specs.declared.requests.Level.{Level}
use Rattle.tsd_model.specs.declared.requests.Level.TheVariants as level
use Rattle.grant_table.specs.Table.{Table, IsHeldAt, IsTable, with_sessions}
use Rattle.grant_table.proofs.HeldLaws.{length-raised_held, get-raised_held, raised_held_same}

pub refill_whole : {X : Type 0} (xs ws : List X) → length ws ≡ length xs → take (length xs) (ws ++ drop (length ws) xs) ≡ ws
refill_whole xs ws same = search (arith, common_steps)

-- one place changed
IfSome-set : (n p : ℕ) (v : Sessions) (k : ℕ) (x : Option Held) → ((position : ℕ) → IfSome (slice_index_or v position None) (IsHeldAt n p)) → IfSome x (IsHeldAt n p) →
    (position : ℕ) → IfSome (slice_index_or (slice_set v k x) position None) (IsHeldAt n p)
IfSome-set n p v k x old here position = elim (cases_eq position k) [
  | inl e ↦ elim (cases_lt k (length v)) [
    | inl h ↦ subst (λ y. IfSome y (IsHeldAt n p)) (sym (ap (λ j. slice_index_or (slice_set v k x) j None) e ∙ get_or-set_same v k x None h)) here
    | inr h ↦ subst (λ w. IfSome (slice_index_or w position None) (IsHeldAt n p)) (sym (set_past v k x h)) (old position)
  ]
  | inr ne ↦ subst (λ y. IfSome y (IsHeldAt n p)) (sym (get_or-set_other v k position x None ne)) (old position)
]

pub table_set : (t : Table) (k : ℕ) (x : Option Held) → IsTable t → IfSome x (IsHeldAt t.blocks t.primaries) → IsTable (with_sessions t (slice_set t.sessions k x))
table_set t k x h here = record { few = h.few; count = length-set t.sessions k x ∙ h.count; held = IfSome-set t.blocks t.primaries t.sessions k x h.held here }

pub table_none : (n p : ℕ) → p ≤ 16 → IsTable (record { blocks = n; primaries = p; sessions = no_sessions })
table_none n p few = record { few = few; count = length-replicate {A = Option Held} 64 None; held = each }
  where
    each : (position : ℕ) → IfSome (slice_index_or no_sessions position None) (IsHeldAt n p)
    each position = elim (cases_lt position 64) [
      | inl h ↦ subst (λ y. IfSome y (IsHeldAt n p)) (sym (get_or-replicate 64 position None None h)) tt
      | inr h ↦ subst (λ y. IfSome y (IsHeldAt n p)) (sym (get_or_past no_sessions position None h)) tt
    ]

pub held_nothing : (n p : ℕ) → IsHeldAt n p (replicate p (replicate n level.Bare))
held_nothing n p = record {
  origins = length-replicate p (replicate n level.Bare);
  blocks = λ o h. ap length (get_or-replicate p o (replicate n level.Bare) [] h) ∙ length-replicate n level.Bare;
}

-- what each session holds is changed alike
pub IfSome-map : (n p : ℕ) (f : Held → Held) → ((h : Held) → IsHeldAt n p h → IsHeldAt n p (f h)) → (x : Option Held) → IfSome x (IsHeldAt n p) → IfSome (option_map f x) (IsHeldAt n p)
IfSome-map n p f keeps None g = tt
IfSome-map n p f keeps (Some h) g = keeps h g

pub table_map : (t : Table) (f : Held → Held) → ((h : Held) → IsHeldAt t.blocks t.primaries h → IsHeldAt t.blocks t.primaries (f h)) → IsTable t → IsTable (with_sessions t (map (option_map f) t.sessions))
table_map t f keeps h = record { few = h.few; count = length-map t.sessions (option_map f) ∙ h.count; held = each }
  where
    each : (position : ℕ) → IfSome (slice_index_or (map (option_map f) t.sessions) position None) (IsHeldAt t.blocks t.primaries)
    each position = elim (cases_lt position (length t.sessions)) [
      | inl g ↦ subst (λ y. IfSome y (IsHeldAt t.blocks t.primaries)) (sym (get_or-map (option_map f) t.sessions position None None g)) (IfSome-map t.blocks t.primaries f keeps (slice_index_or t.sessions position None) (h.held position))
      | inr g ↦ subst (λ y. IfSome y (IsHeldAt t.blocks t.primaries)) (sym (get_or_past (map (option_map f) t.sessions) position None (let e = length-map t.sessions (option_map f) in omega (arith, e)))) tt
    ]

pub held_raised : (n p b : ℕ) (f : ℕ → Level) (h : Held) → IsHeldAt n p h → IsHeldAt n p (raised_held b f h)
held_raised n p b f h g = record {
  origins = length-raised_held b f h ∙ g.origins;
  blocks = λ o l. ap length (get-raised_held b f h o (omega (arith, g.origins))) ∙ (length-set (slice_index_or h o []) b _ ∙ g.blocks o l);
}

pub held_dropped_at : (n p b : ℕ) (h : Held) → IsHeldAt n p h → IsHeldAt n p (map (λ levels. slice_set levels b level.Bare) h)
held_dropped_at n p b h g = record {
  origins = length-map h (λ levels. slice_set levels b level.Bare) ∙ g.origins;
  blocks = λ o l. ap length (get_or-map (λ levels. slice_set levels b level.Bare) h o [] [] (omega (arith, g.origins))) ∙ (length-set (slice_index_or h o []) b level.Bare ∙ g.blocks o l);
}

-- clearing what came from an origin
pub held_cleared : (n p o : ℕ) (h : Held) → IsHeldAt n p h → slice_set h o (replicate (length (slice_index_or h o [])) level.Bare) ≡ slice_set h o (replicate n level.Bare)
held_cleared n p o h g = elim (cases_lt o p) [
  | inl l ↦ ap (λ k. slice_set h o (replicate k level.Bare)) (g.blocks o l)
  | inr l ↦ set_past h o _ (omega (arith, g.origins)) ∙ sym (set_past h o _ (omega (arith, g.origins)))
]

pub held_dropped_from : (n p o : ℕ) (h : Held) → IsHeldAt n p h → IsHeldAt n p (slice_set h o (replicate n level.Bare))
held_dropped_from n p o h g = record { origins = length-set h o (replicate n level.Bare) ∙ g.origins; blocks = each }
  where
    each : (k : ℕ) → k < p → length (slice_index_or (slice_set h o (replicate n level.Bare)) k []) ≡ n
    each k l = elim (cases_eq k o) [
      | inl e ↦ ap length (ap (λ j. slice_index_or (slice_set h o (replicate n level.Bare)) j []) e ∙ get_or-set_same h o (replicate n level.Bare) [] (omega (arith, g.origins))) ∙ length-replicate n level.Bare
      | inr ne ↦ ap length (get_or-set_other h o k (replicate n level.Bare) [] ne) ∙ g.blocks k l
    ]

abbrev cleared : ℕ → Held → Held
cleared o h = slice_set h o (replicate (length (slice_index_or h o [])) level.Bare)

option_cleared : (n p o : ℕ) (x : Option Held) → IfSome x (IsHeldAt n p) → option_map (cleared o) x ≡ option_map (λ h. slice_set h o (replicate n level.Bare)) x
option_cleared n p o None g = refl
option_cleared n p o (Some h) g = ap Some (held_cleared n p o h g)

pub cleared_all : (t : Table) (o : ℕ) → IsTable t → map (option_map (λ h. slice_set h o (replicate (length (slice_index_or h o [])) level.Bare))) t.sessions ≡ dropped_from t.blocks o t.sessions
cleared_all t o g =
    let f : Option Held → Option Held = option_map (cleared o) in
    let e : Option Held → Option Held = option_map (λ h. slice_set h o (replicate t.blocks level.Bare)) in
    ext_get_or None (map f t.sessions) (map e t.sessions) (length-map t.sessions f ∙ sym (length-map t.sessions e))
    (λ k h. get_or-map f t.sessions k None None (omega (arith, length-map t.sessions f)) ∙ (option_cleared t.blocks t.primaries o (slice_index_or t.sessions k None) (g.held k) ∙ sym (get_or-map e t.sessions k None None (omega (arith, length-map t.sessions f)))))

-- only what is attained from the primary blocks counts
pub option_raised_same : (n p b : ℕ) (f g : ℕ → Level) → ((o : ℕ) → o < p → f o ≡ g o) → (x : Option Held) → IfSome x (IsHeldAt n p) → option_map (raised_held b f) x ≡ option_map (raised_held b g) x
option_raised_same n p b f g same None h = refl
option_raised_same n p b f g same (Some held) h = ap Some (raised_held_same b f g held (λ o l. same o (omega (arith, h.origins))))

pub held_short : (n p : ℕ) (h : Held) (o : ℕ) → IsHeldAt n p h → length (slice_index_or h o []) ≤ n
held_short n p h o g = elim (cases_lt o p) [
  | inl l ↦ omega (arith, g.blocks o l)
  | inr l ↦ omega (arith, ap length (get_or_past h o [] (omega (arith, g.origins))))
]
