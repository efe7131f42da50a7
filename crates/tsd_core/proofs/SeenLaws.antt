-- What is seen of a table, after a change.
use Rattle.std.proofs.Common.{◌≡◌, ℕ, zero, suc, ◌-◌, ◌<◌, Bool, true, false, cond, not, ◌&&◌, ◌||◌, ◌==◌, List, [], ◌∷◌, length, refl, sym, ◌∙◌, ap, subst, arith, inl, inr, Option, Some, None}
use Rattle.tsd_core.proofs.Common.{cases_eq, cases_lt, eq-eqb, ne_eqb, ext_get_or, get_or-set_same, get_or-set_other, get_or_past, get_or-map, length-set, length-map, length-map-range_with_len, get_or-map-range_with_len, map, replicate, slice_index_or, slice_set, option_map, is_some, IfSome, range_with_len, has_number, Levels, Held, Sessions, held_by, with_held, is_open, raised_level, raised_held, raised_sessions, dropped_from, greater, Level, Table, IsTable, IsHeldAt, with_sessions, dropped_at, levels_seen, seen, dropped_each}
use Rattle.tsd_model.specs.declared.requests.Level.TheVariants as level
use Rattle.tsd_model.proofs.SessionLaws.{held-map}
use Rattle.grant_table.proofs.HeldLaws.{length-raised_held, get-raised_held}
use Rattle.grant_table.proofs.TableLaws.{table_set, held_raised, IfSome-map}

-- ---- at one block

bare_if : (t : Bool) → cond t level.Bare level.Bare ≡ level.Bare
bare_if true = refl
bare_if false = refl

length-seen : (pass : ℕ → Bool) (n : ℕ) (levels : Levels) → length (levels_seen pass n levels) ≡ n
length-seen pass n levels = length-map-range_with_len (λ b. cond (pass b) (slice_index_or levels b level.Bare) level.Bare) 0 n

seen_within : (pass : ℕ → Bool) (n : ℕ) (levels : Levels) (a : ℕ) → a < n → slice_index_or (levels_seen pass n levels) a level.Bare ≡ cond (pass a) (slice_index_or levels a level.Bare) level.Bare
seen_within pass n levels a within = get_or-map-range_with_len (λ b. cond (pass b) (slice_index_or levels b level.Bare) level.Bare) 0 n a a level.Bare within (omega arith)

pub level-seen : (pass : ℕ → Bool) (n : ℕ) (levels : Levels) (a : ℕ) → (pass a ≡ true → a < n) → slice_index_or (levels_seen pass n levels) a level.Bare ≡ cond (pass a) (slice_index_or levels a level.Bare) level.Bare
level-seen pass n levels a inside = elim (cases_lt a n) [
  | inl within ↦ seen_within pass n levels a within
  | inr past ↦
      get_or_past (levels_seen pass n levels) a level.Bare (omega (arith, past, length-seen pass n levels))
      ∙ (elim (pass a) as (λ t. pass a ≡ t → level.Bare ≡ cond t (slice_index_or levels a level.Bare) level.Bare) [
        | true ↦ λ e. absurd (omega (arith, inside e, past))
        | false ↦ λ e. refl
      ] refl)
]

nested : (s t : Bool) (x : Level) → cond s (cond t x level.Bare) level.Bare ≡ cond (s && t) x level.Bare
nested true t x = refl
nested false t x = refl

levels_twice : (p q : ℕ → Bool) (n : ℕ) → ((c : ℕ) → q c ≡ true → c < n) → (levels : Levels) → levels_seen p n (levels_seen q n levels) ≡ levels_seen (λ c. p c && q c) n levels
levels_twice p q n inside levels =
    let here : (c : ℕ) → cond (p c) (slice_index_or (levels_seen q n levels) c level.Bare) level.Bare ≡ cond (p c && q c) (slice_index_or levels c level.Bare) level.Bare =
    λ c. ap (λ x. cond (p c) x level.Bare) (level-seen q n levels c (inside c)) ∙ nested (p c) (q c) (slice_index_or levels c level.Bare) in
    λ i. map (λ c. here c i) (range_with_len 0 n)

level-dropped : (levels : Levels) (a c : ℕ) → slice_index_or (slice_set levels a level.Bare) c level.Bare ≡ cond (not (a == c)) (slice_index_or levels c level.Bare) level.Bare
level-dropped levels a c = elim (cases_eq c a) [
  | inr other ↦ get_or-set_other levels a c level.Bare level.Bare other ∙ ap (λ t. cond (not t) (slice_index_or levels c level.Bare) level.Bare) (sym (ne_eqb a c (λ e. other (sym e))))
  | inl same ↦ gone same ∙ ap (λ t. cond (not t) (slice_index_or levels c level.Bare) level.Bare) (sym (eq-eqb a c (sym same)))
]
  where
    gone : c ≡ a → slice_index_or (slice_set levels a level.Bare) c level.Bare ≡ level.Bare
    gone same = elim (cases_lt a (length levels)) [
      | inl within ↦ ap (λ k. slice_index_or (slice_set levels a level.Bare) k level.Bare) same ∙ get_or-set_same levels a level.Bare level.Bare within
      | inr past ↦ get_or_past (slice_set levels a level.Bare) c level.Bare (omega (arith, past, same, length-set levels a level.Bare))
    ]

levels_dropped : (p : ℕ → Bool) (n a : ℕ) (levels : Levels) → levels_seen p n (slice_set levels a level.Bare) ≡ levels_seen (λ c. p c && not (a == c)) n levels
levels_dropped p n a levels =
    let here : (c : ℕ) → cond (p c) (slice_index_or (slice_set levels a level.Bare) c level.Bare) level.Bare ≡ cond (p c && not (a == c)) (slice_index_or levels c level.Bare) level.Bare =
    λ c. ap (λ x. cond (p c) x level.Bare) (level-dropped levels a c) ∙ nested (p c) (not (a == c)) (slice_index_or levels c level.Bare) in
    λ i. map (λ c. here c i) (range_with_len 0 n)

-- ---- in all sessions

pub each_origin : (f g k : Levels → Levels) → ((levels : Levels) → f (g levels) ≡ k levels) → (held : Held) → map f (map g held) ≡ map k held
each_origin f g k e [] = refl
each_origin f g k e (levels ∷ held) = λ i. e levels i ∷ each_origin f g k e held i

pub each_session : (f g k : Held → Held) → ((held : Held) → f (g held) ≡ k held) → (v : Sessions) → map (option_map f) (map (option_map g) v) ≡ map (option_map k) v
each_session f g k e [] = refl
each_session f g k e (None ∷ v) = λ i. None ∷ each_session f g k e v i
each_session f g k e (Some held ∷ v) = λ i. Some (e held i) ∷ each_session f g k e v i

pub same_seen : (p q : ℕ → Bool) (n : ℕ) → ((c : ℕ) → p c ≡ q c) → (v : Sessions) → seen p n v ≡ seen q n v
same_seen p q n e v = λ i. map (option_map (map (λ (levels : Levels). map (λ c. cond (e c i) (slice_index_or levels c level.Bare) level.Bare) (range_with_len 0 n)))) v

pub seen_twice : (p q : ℕ → Bool) (n : ℕ) → ((c : ℕ) → q c ≡ true → c < n) → (v : Sessions) → seen p n (seen q n v) ≡ seen (λ c. p c && q c) n v
seen_twice p q n inside v =
    each_session (map (levels_seen p n)) (map (levels_seen q n)) (map (levels_seen (λ c. p c && q c) n))
    (each_origin (levels_seen p n) (levels_seen q n) (levels_seen (λ c. p c && q c) n) (levels_twice p q n inside)) v

seen_dropped : (p : ℕ → Bool) (n a : ℕ) (v : Sessions) → seen p n (dropped_at a v) ≡ seen (λ c. p c && not (a == c)) n v
seen_dropped p n a v =
    each_session (map (levels_seen p n)) (map (λ levels. slice_set levels a level.Bare)) (map (levels_seen (λ c. p c && not (a == c)) n))
    (each_origin (levels_seen p n) (λ levels. slice_set levels a level.Bare) (levels_seen (λ c. p c && not (a == c)) n) (levels_dropped p n a)) v

and_true : (s : Bool) → s ≡ (s && true)
and_true true = refl
and_true false = refl

and_not : (s t u : Bool) → ((s && not t) && not u) ≡ (s && not (u || t))
and_not true true true = refl
and_not true true false = refl
and_not true false true = refl
and_not true false false = refl
and_not false t u = refl

pub seen_dropped_each : (p : ℕ → Bool) (n : ℕ) (bs : List ℕ) (v : Sessions) → seen p n (dropped_each bs v) ≡ seen (λ c. p c && not (has_number bs c)) n v
seen_dropped_each p n [] v = same_seen p (λ c. p c && not (has_number [] c)) n (λ c. and_true (p c)) v
seen_dropped_each p n (b ∷ bs) v =
    seen_dropped_each p n bs (dropped_at b v)
    ∙ (seen_dropped (λ c. p c && not (has_number bs c)) n b v
    ∙ same_seen (λ c. (p c && not (has_number bs c)) && not (b == c)) (λ c. p c && not (has_number (b ∷ bs) c)) n (λ c. and_not (p c) (has_number bs c) (b == c)) v)

-- ---- one session changed

map-set : {X Y : Type 0} (g : X → Y) (xs : List X) (i : ℕ) (x : X) → map g (slice_set xs i x) ≡ slice_set (map g xs) i (g x)
map-set g [] i x = refl
map-set g (y ∷ xs) zero x = refl
map-set g (y ∷ xs) (suc i) x = ap (λ ys. g y ∷ ys) (map-set g xs i x)

pub map-with_held : (f : Held → Held) (v : Sessions) (s : ℕ) (x : Option Held) → map (option_map f) (with_held v s x) ≡ with_held (map (option_map f) v) s (option_map f x)
map-with_held f v s x = elim (s == 0) as (λ z. map (option_map f) (cond z v (slice_set v (s - 1) x)) ≡ cond z (map (option_map f) v) (slice_set (map (option_map f) v) (s - 1) (option_map f x))) [
  | true ↦ refl
  | false ↦ map-set (option_map f) v (s - 1) x
]

pub open-map : (f : Held → Held) (v : Sessions) (s : ℕ) → is_open (map (option_map f) v) s ≡ is_open v s
open-map f v s = ap is_some (held-map f v s) ∙ some_map (held_by v s)
  where
    some_map : (x : Option Held) → is_some (option_map f x) ≡ is_some x
    some_map None = refl
    some_map (Some held) = refl

-- ---- without what came from an origin

-- what is dropped from an origin doesn't depend on what isn't seen
pub seen_dropped_from : (p q : ℕ → Bool) (n m o : ℕ) → ((c : ℕ) → q c ≡ true → c < n) → ((c : ℕ) → (p c && q c) ≡ p c) → (v : Sessions) → seen p n (dropped_from m o (seen q n v)) ≡ seen p n (dropped_from m o v)
seen_dropped_from p q n m o inside within v =
    let see : Held → Held = map (levels_seen p n) in
    let drop : Held → Held = λ held. slice_set held o (replicate m level.Bare) in
    let twice : (held : Held) → map (levels_seen p n) (map (levels_seen q n) held) ≡ map (levels_seen p n) held =
    λ held. each_origin (levels_seen p n) (levels_seen q n) (levels_seen (λ c. p c && q c) n) (levels_twice p q n inside) held
    ∙ (λ i. map (λ (levels : Levels). map (λ c. cond (within c i) (slice_index_or levels c level.Bare) level.Bare) (range_with_len 0 n)) held) in
    let here : (held : Held) → see (drop (map (levels_seen q n) held)) ≡ see (drop held) =
    λ held. map-set (levels_seen p n) (map (levels_seen q n) held) o (replicate m level.Bare)
    ∙ (ap (λ h. slice_set h o (levels_seen p n (replicate m level.Bare))) (twice held)
    ∙ sym (map-set (levels_seen p n) held o (replicate m level.Bare))) in
    ap (map (option_map see)) (each_session drop (map (levels_seen q n)) (λ held. drop (map (levels_seen q n) held)) (λ held. refl) v)
    ∙ (each_session see (λ held. drop (map (levels_seen q n) held)) (λ held. see (drop held)) here v
    ∙ sym (each_session see drop (λ held. see (drop held)) (λ held. refl) v))

-- ---- raising

levels_raised : (p : ℕ → Bool) (n b : ℕ) (x : Level) (levels : Levels) → p b ≡ true → b < n → length levels ≡ n → levels_seen p n (raised_level b x levels) ≡ raised_level b x (levels_seen p n levels)
levels_raised p n b x levels live within long =
    let at_b : slice_index_or (levels_seen p n levels) b level.Bare ≡ slice_index_or levels b level.Bare = seen_within p n levels b within ∙ ap (λ t. cond t (slice_index_or levels b level.Bare) level.Bare) live in
    let up = greater (slice_index_or levels b level.Bare) x in
    let all : levels_seen p n (slice_set levels b up) ≡ slice_set (levels_seen p n levels) b up =
    ext_get_or level.Bare (levels_seen p n (slice_set levels b up)) (slice_set (levels_seen p n levels) b up)
    (length-seen p n (slice_set levels b up) ∙ (sym (length-seen p n levels) ∙ sym (length-set (levels_seen p n levels) b up)))
    (λ c h. each up c (omega (arith, h, length-seen p n (slice_set levels b up)))) in
    all ∙ ap (λ l. slice_set (levels_seen p n levels) b (greater l x)) (sym at_b)
  where
    each : (up : Level) (c : ℕ) → c < n → slice_index_or (levels_seen p n (slice_set levels b up)) c level.Bare ≡ slice_index_or (slice_set (levels_seen p n levels) b up) c level.Bare
    each up c inside = elim (cases_eq c b) [
      | inl same ↦ subst (λ k. slice_index_or (levels_seen p n (slice_set levels b up)) k level.Bare ≡ slice_index_or (slice_set (levels_seen p n levels) b up) k level.Bare) (sym same)
          (seen_within p n (slice_set levels b up) b within
          ∙ (ap (λ t. cond t (slice_index_or (slice_set levels b up) b level.Bare) level.Bare) live
          ∙ (get_or-set_same levels b up level.Bare (omega (arith, within, long))
          ∙ sym (get_or-set_same (levels_seen p n levels) b up level.Bare (omega (arith, within, length-seen p n levels))))))
      | inr other ↦
          seen_within p n (slice_set levels b up) c inside
          ∙ (ap (λ l. cond (p c) l level.Bare) (get_or-set_other levels b c up level.Bare other)
          ∙ (sym (seen_within p n levels c inside)
          ∙ sym (get_or-set_other (levels_seen p n levels) b c up level.Bare other)))
    ]

held_raised_seen : (p : ℕ → Bool) (n k b : ℕ) (f : ℕ → Level) (held : Held) → p b ≡ true → b < n → IsHeldAt n k held → map (levels_seen p n) (raised_held b f held) ≡ raised_held b f (map (levels_seen p n) held)
held_raised_seen p n k b f held live within at =
    ext_get_or [] (map (levels_seen p n) (raised_held b f held)) (raised_held b f (map (levels_seen p n) held))
    (length-map (raised_held b f held) (levels_seen p n) ∙ (length-raised_held b f held ∙ (sym (length-map held (levels_seen p n)) ∙ sym (length-raised_held b f (map (levels_seen p n) held)))))
    (λ o h. each o (omega (arith, h, length-map (raised_held b f held) (levels_seen p n), length-raised_held b f held)))
  where
    each : (o : ℕ) → o < length held → slice_index_or (map (levels_seen p n) (raised_held b f held)) o [] ≡ slice_index_or (raised_held b f (map (levels_seen p n) held)) o []
    each o inside =
        get_or-map (levels_seen p n) (raised_held b f held) o [] [] (omega (arith, inside, length-raised_held b f held))
        ∙ (ap (levels_seen p n) (get-raised_held b f held o inside)
        ∙ (levels_raised p n b (f o) (slice_index_or held o []) live within (at.blocks o (omega (arith, inside, at.origins)))
        ∙ (ap (raised_level b (f o)) (sym (get_or-map (levels_seen p n) held o [] [] inside))
        ∙ sym (get-raised_held b f (map (levels_seen p n) held) o (omega (arith, inside, length-map held (levels_seen p n)))))))

option_raised_seen : (p : ℕ → Bool) (n k b : ℕ) (f : ℕ → Level) (x : Option Held) → p b ≡ true → b < n → IfSome x (IsHeldAt n k) → option_map (map (levels_seen p n)) (option_map (raised_held b f) x) ≡ option_map (raised_held b f) (option_map (map (levels_seen p n)) x)
option_raised_seen p n k b f None live within at = refl
option_raised_seen p n k b f (Some held) live within at = ap Some (held_raised_seen p n k b f held live within at)

-- what a session holds has the table's shape
pub held_shape : (t : Table) (s : ℕ) → IsTable t → IfSome (held_by t.sessions s) (IsHeldAt t.blocks t.primaries)
held_shape t s table = elim (s == 0) as (λ z. IfSome (cond z None (slice_index_or t.sessions (s - 1) None)) (IsHeldAt t.blocks t.primaries)) [ true ↦ tt | false ↦ table.held (s - 1) ]

-- raising at a block that is seen
pub raised_seen : (p : ℕ → Bool) (t : Table) (s b : ℕ) (f : ℕ → Level) → IsTable t → p b ≡ true → b < t.blocks → seen p t.blocks (raised_sessions t.sessions s b f) ≡ raised_sessions (seen p t.blocks t.sessions) s b f
raised_seen p t s b f table live within =
    map-with_held (map (levels_seen p t.blocks)) t.sessions s (option_map (raised_held b f) (held_by t.sessions s))
    ∙ ap (with_held (seen p t.blocks t.sessions) s)
    (option_raised_seen p t.blocks t.primaries b f (held_by t.sessions s) live within (held_shape t s table)
    ∙ ap (option_map (raised_held b f)) (sym (held-map (map (levels_seen p t.blocks)) t.sessions s)))

pub table_raised : (t : Table) (s b : ℕ) (f : ℕ → Level) → IsTable t → IsTable (with_sessions t (raised_sessions t.sessions s b f))
table_raised t s b f table =
    elim (s == 0) as (λ z. IsTable (with_sessions t (cond z t.sessions (slice_set t.sessions (s - 1) (option_map (raised_held b f) (held_by t.sessions s)))))) [
      | true ↦ table
      | false ↦ table_set t (s - 1) (option_map (raised_held b f) (held_by t.sessions s)) table (IfSome-map t.blocks t.primaries (raised_held b f) (λ h. held_raised t.blocks t.primaries b f h) (held_by t.sessions s) (held_shape t s table))
    ]
