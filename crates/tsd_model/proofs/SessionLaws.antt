-- What a session holds once something was put at the place of one.
use Rattle.std.proofs.Common.{◌≡◌, ℕ, zero, suc, ◌-◌, ◌≤◌, ◌==◌, true, false, cond, List, [], ◌∷◌, length, refl, sym, ◌∙◌, ap, subst, arith, Option, None, inl, inr}
use Rattle.std.proofs.lemmas.Bool.{cases_eq, cases_lt, ne_eqb}
use Rattle.std.proofs.lemmas.List.{get_or-set_same, get_or-set_other, get_or_past, length-set}
use Rattle.std.specs.Prelude.{map, replicate, slice_index_or, slice_set, option_map}
use Rattle.tsd_model.specs.Sessions.{Held, Sessions, sessions_max, no_sessions, held_by, with_held}

-- one place of a list
set_keeps : {X : Type 0} (P : X → Type 0) (v : List X) (i j : ℕ) (x d : X) → P x → P (slice_index_or v j d) → P (slice_index_or (slice_set v i x) j d)
set_keeps P v i j x d new old = elim (cases_eq j i) [
  | inr other ↦ subst P (sym (get_or-set_other v i j x d other)) old
  | inl same ↦ elim (cases_lt i (length v)) [
    | inl within ↦ subst (λ k. P (slice_index_or (slice_set v i x) k d)) (sym same) (subst P (sym (get_or-set_same v i x d within)) new)
    | inr past ↦ subst P (get_or_past v j d (omega (arith, past, same)) ∙ sym (get_or_past (slice_set v i x) j d (omega (arith, past, same, length-set v i x)))) old
  ]
]

-- what holds of the new thing and of what the session held holds of what it holds now
pub held_keeps : (P : Option Held → Type 0) (v : Sessions) (t s : ℕ) (x : Option Held) → P x → P (held_by v s) → P (held_by (with_held v t x) s)
held_keeps P v t s x new old =
    elim (s == 0) as (λ z. P (cond z None (slice_index_or v (s - 1) None)) → P (cond z None (slice_index_or (with_held v t x) (s - 1) None))) [
      | true ↦ λ k. k
      | false ↦ λ k. elim (t == 0) as (λ y. P (slice_index_or (cond y v (slice_set v (t - 1) x)) (s - 1) None)) [
        | true ↦ k
        | false ↦ set_keeps P v (t - 1) (s - 1) x None new k
      ]
    ] old

-- a session with another number than 0 has a place
pub held-placed : (v : Sessions) (s : ℕ) → (s ≡ 0 → ⊥) → held_by v s ≡ slice_index_or v (s - 1) None
held-placed v s some = ap (λ z. cond z None (slice_index_or v (s - 1) None)) (ne_eqb s 0 some)

pub with_held-placed : (v : Sessions) (t : ℕ) (x : Option Held) → (t ≡ 0 → ⊥) → with_held v t x ≡ slice_set v (t - 1) x
with_held-placed v t x some = ap (λ z. cond z v (slice_set v (t - 1) x)) (ne_eqb t 0 some)

-- another session
pub held-with_other : (v : Sessions) (t s : ℕ) (x : Option Held) → (s ≡ t → ⊥) → held_by (with_held v t x) s ≡ held_by v s
held-with_other v t s x other = elim (cases_eq s 0) [
  | inl none ↦ subst (λ k. held_by (with_held v t x) k ≡ held_by v k) (sym none) refl
  | inr there ↦ elim (cases_eq t 0) [
    | inl none ↦ subst (λ k. held_by (with_held v k x) s ≡ held_by v s) (sym none) refl
    | inr placed ↦
        held-placed (with_held v t x) s there
        ∙ (ap (λ u. slice_index_or u (s - 1) None) (with_held-placed v t x placed)
        ∙ (get_or-set_other v (t - 1) (s - 1) x None (λ e. other (omega arith))
        ∙ sym (held-placed v s there)))
  ]
]

-- the session itself
pub held-with_same : (v : Sessions) (t : ℕ) (x : Option Held) → 1 ≤ t → t ≤ length v → held_by (with_held v t x) t ≡ x
held-with_same v t x some most =
    held-placed (with_held v t x) t (λ e. absurd (omega arith))
    ∙ (ap (λ u. slice_index_or u (t - 1) None) (with_held-placed v t x (λ e. absurd (omega arith)))
    ∙ get_or-set_same v (t - 1) x None (omega arith))

pub length-with_held : (v : Sessions) (t : ℕ) (x : Option Held) → length (with_held v t x) ≡ length v
length-with_held v t x = elim (t == 0) as (λ z. length (cond z v (slice_set v (t - 1) x)) ≡ length v) [
  | true ↦ refl
  | false ↦ length-set v (t - 1) x
]

-- each session changed alike
pub held-map : (g : Held → Held) (v : Sessions) (s : ℕ) → held_by (map (option_map g) v) s ≡ option_map g (held_by v s)
held-map g v s =
    elim (s == 0) as (λ z. cond z None (slice_index_or (map (option_map g) v) (s - 1) None) ≡ option_map g (cond z None (slice_index_or v (s - 1) None))) [
      | true ↦ refl
      | false ↦ at v (s - 1)
    ]
  where
    at : (u : Sessions) (i : ℕ) → slice_index_or (map (option_map g) u) i None ≡ option_map g (slice_index_or u i None)
    at [] i = refl
    at (o ∷ u) zero = refl
    at (o ∷ u) (suc i) = at u i

-- no session is open
pub no_held : (s : ℕ) → ◌≡◌ {A = Option Held} (held_by no_sessions s) None
no_held s =
    elim (s == 0) as (λ z. ◌≡◌ {A = Option Held} (cond z None (slice_index_or no_sessions (s - 1) None)) None) [
      | true ↦ refl
      | false ↦ none_in sessions_max (s - 1)
    ]
  where
    none_in : (n i : ℕ) → ◌≡◌ {A = Option Held} (slice_index_or (replicate n None) i None) None
    none_in zero i = refl
    none_in (suc n) zero = refl
    none_in (suc n) (suc i) = none_in n i
