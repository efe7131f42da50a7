-- A granted request over a table that may still hold levels at free blocks: what is seen of the table is what the rules say.
use Rattle.std.proofs.Common.{◌≡◌, ℕ, Bool, true, false, cond, not, ◌&&◌, ◌||◌, ◌==◌, nat_le, List, [], ◌∷◌, length, refl, sym, ◌∙◌, ap, subst, arith, Option, Some, None}
use Rattle.tsd_core.proofs.Common.{and_parts, or_parts, eq-eqb, eqb-true, length-set, length-map-range_with_len, map, replicate, is_some, is_none, option_map, block_len, holds, World, contents, is_live, is_free, has_number, reach, restricted, swept, doomed, settle, chosen, chosen_run, Sessions, with_held, raised_sessions, levels_at_live, fitted, dropped_from, attained_from, session_of, needs, verdict, gives, change, fitted_outcome, judged, step, raised_at, raised_for, raised_by, filled, with_contents, with_pointer, without_pointer, with_new_blocks, zeros, run_at, Need, Rule, Level, PlaceKind, Request, AreLike, contents_like, attained_from_like, verdict_like, chosen_like, chosen_run_like, fitted_like, AllFree, contents-other, chosen_are_free, chosen_run_is_free, live_below, live-restricted, Passes, granted_passes, Table, IsTable, with_sessions, seen, IsOver, dropped_each, table_after, world_after, reply_to}
use Rattle.tsd_model.specs.declared.requests.Level.TheVariants as level
use Rattle.tsd_model.specs.declared.requests.Request.TheVariants as ask
use Rattle.disk_laws.proofs.ValidLaws.{named_is_live, one_is_live}
use Rattle.tsd_core.proofs.SeenLaws.{same_seen, seen_twice, seen_dropped_each, seen_dropped_from, map-with_held, raised_seen, table_raised}
use Rattle.tsd_core.proofs.VerdictSeen.{ComesFrom, attained_from-fitted, verdict-fitted}

-- ---- levels rise alike

raised_fitted : (t : World) (g : Table) (s b : ℕ) (f : ℕ → Level) → IsTable g → g.blocks ≡ length t.blocks → is_live t b ≡ true → fitted t (raised_sessions g.sessions s b f) ≡ raised_sessions (fitted t g.sessions) s b f
raised_fitted t g s b f table long live =
    subst (λ n. seen (is_live t) n (raised_sessions g.sessions s b f) ≡ raised_sessions (seen (is_live t) n g.sessions) s b f) long (raised_seen (is_live t) g s b f table live (omega (arith, long, live_below t.blocks b live)))

-- each need is at a live block
abbrev NeedsLive : World → List Need → Type 0
NeedsLive t [] = Unit {0}
NeedsLive t (n ∷ ns) = (is_live t n.block ≡ true) × NeedsLive t ns

raised_at_fitted : (w t : World) → ComesFrom w t → (v : Sessions) (s : ℕ) (ns : List Need) (g : Table) → IsTable g → g.blocks ≡ length t.blocks → NeedsLive t ns
    → raised_at w (fitted t v) s ns (fitted t g.sessions) ≡ fitted t (raised_at w v s ns g.sessions)
raised_at_fitted w t from v s [] g table long live = refl
raised_at_fitted w t from v s (n ∷ ns) g table long live =
    let f : ℕ → Level = attained_from w v s n.block n.shown in
    (λ i. raised_at w (fitted t v) s ns (raised_sessions (fitted t g.sessions) s n.block (λ o. attained_from-fitted w t from v s n.block n.shown o i)))
    ∙ (ap (raised_at w (fitted t v) s ns) (sym (raised_fitted t g s n.block f table long live.0))
    ∙ raised_at_fitted w t from v s ns (with_sessions g (raised_sessions g.sessions s n.block f)) (table_raised g s n.block f table) long live.1)

raised_for_fitted : (w t : World) → ComesFrom w t → (g : Table) → IsTable g → g.blocks ≡ length t.blocks → (x : Option ℕ) (ns : List Need) → NeedsLive t ns
    → raised_for w (fitted t g.sessions) x ns ≡ fitted t (raised_for w g.sessions x ns)
raised_for_fitted w t from g table long None ns live = refl
raised_for_fitted w t from g table long (Some s) ns live = raised_at_fitted w t from g.sessions s ns g table long live

raised_at_like : (t w : World) → AreLike t w → (v : Sessions) (s : ℕ) (ns : List Need) (now : Sessions) → raised_at w v s ns now ≡ raised_at t v s ns now
raised_at_like t w like v s [] now = refl
raised_at_like t w like v s (n ∷ ns) now =
    sym (λ i. raised_at w v s ns (raised_sessions now s n.block (λ o. attained_from_like t w like v s n.block n.shown o i)))
    ∙ raised_at_like t w like v s ns (raised_sessions now s n.block (attained_from t v s n.block n.shown))

raised_for_like : (t w : World) → AreLike t w → (v : Sessions) (x : Option ℕ) (ns : List Need) → raised_for w v x ns ≡ raised_for t v x ns
raised_for_like t w like v None ns = refl
raised_for_like t w like v (Some s) ns = raised_at_like t w like v s ns v

-- ---- where the needs are

needs_live : (t : World) (v : Sessions) (q : Request) → length t.blocks ≡ t.geometry.blocks → Passes t v q → NeedsLive t (needs q)
needs_live t v (ask.Read s b shown) long pass = (one_is_live t b long pass.there pass.live, tt)
needs_live t v (ask.Write s b shown bytes) long pass = (one_is_live t b long pass.there pass.live, tt)
needs_live t v (ask.Alloc s a shown h count) long pass = (one_is_live t a long pass.there pass.live, tt)
needs_live t v (ask.Contig s a shown h count) long pass = (one_is_live t a long pass.there pass.live, tt)
needs_live t v (ask.Create s a shown b) long pass =
    let there = or_parts (nat_le t.geometry.blocks a) (nat_le t.geometry.blocks b || false) pass.there in
    let live = or_parts (is_free t a) (is_free t b || false) pass.live in
    (named_is_live t a long there.0 live.0, (one_is_live t b long there.1 live.1, tt))
needs_live t v (ask.Delete s a shown b) long pass =
    let there = or_parts (nat_le t.geometry.blocks a) (nat_le t.geometry.blocks b || false) pass.there in
    let live = or_parts (is_free t a) (is_free t b || false) pass.live in
    (named_is_live t a long there.0 live.0, tt)
needs_live t v (ask.SetCap s b shown caps) long pass = (one_is_live t b long pass.there pass.live, tt)
needs_live t v (ask.Sweep s shown) long pass = (one_is_live t 0 long pass.there pass.live, tt)
needs_live t v (ask.List s a shown start) long pass = (one_is_live t a long pass.there pass.live, tt)
needs_live t v q long pass = tt

-- ---- fitted twice

if_then : (s t : Bool) → (s ≡ true → t ≡ true) → (s && t) ≡ s
if_then true t h = h refl
if_then false t h = refl

-- fitted to a world and then to one with no live blocks more
fitted_again : (t x : World) → length x.blocks ≡ length t.blocks → ((c : ℕ) → is_live x c ≡ true → is_live t c ≡ true) → (v : Sessions) → fitted x (fitted t v) ≡ fitted x v
fitted_again t x long fewer v = subst (λ n. seen (is_live x) n (fitted t v) ≡ seen (is_live x) n v) (sym long)
    (seen_twice (is_live x) (is_live t) (length t.blocks) (λ c e. live_below t.blocks c e) v
    ∙ same_seen (λ c. is_live x c && is_live t c) (is_live x) (length t.blocks) (λ c. if_then (is_live x c) (is_live t c) (fewer c)) v)

-- ---- new blocks

length-new_blocks : (a : ℕ) (bs : List ℕ) (w : World) → length (with_new_blocks w a bs).blocks ≡ length w.blocks
length-new_blocks a [] w = refl
length-new_blocks a (b ∷ bs) w = length-new_blocks a bs (with_pointer (with_contents w b (zeros w)) a b) ∙ length-set w.blocks b (Some (zeros w))

contents-apart : (a : ℕ) (bs : List ℕ) (w : World) (c : ℕ) → has_number bs c ≡ false → contents (with_new_blocks w a bs) c ≡ contents w c
contents-apart a [] w c h = refl
contents-apart a (b ∷ bs) w c h =
    let parts = or_parts (b == c) (has_number bs c) h in
    contents-apart a bs (with_pointer (with_contents w b (zeros w)) a b) c parts.1
    ∙ contents-other w b c (zeros w) (λ e. clash (sym (eq-eqb b c (sym e)) ∙ parts.0))
  where
    clash : true ≡ false → ⊥
    clash k = cc

free_not_live : (o : Option (List ℕ)) → is_none o ≡ true → is_some o ≡ false
free_not_live None e = refl
free_not_live (Some x) e = absurd (cc)

not_live : (w : World) (bs : List ℕ) (c : ℕ) → AllFree w bs → has_number bs c ≡ true → is_live w c ≡ false
not_live w [] c free h = absurd (cc)
not_live w (b ∷ bs) c free h = elim (b == c) as (λ t. (b == c) ≡ t → (t || has_number bs c) ≡ true → is_live w c ≡ false) [
  | true ↦ λ e g. subst (λ k. is_live w k ≡ false) (eqb-true b c e) (free_not_live (contents w b) (and_parts _ (is_none (contents w b)) free.0).1)
  | false ↦ λ e g. not_live w bs c free.1 g
] refl h

-- of the live blocks then, those that were live before are those that aren't new
new_or_old : (a : ℕ) (bs : List ℕ) (w : World) (c : ℕ) → AllFree w bs → (is_live (with_new_blocks w a bs) c && is_live w c) ≡ (is_live (with_new_blocks w a bs) c && not (has_number bs c))
new_or_old a bs w c free = elim (has_number bs c) as (λ t. has_number bs c ≡ t → (is_live (with_new_blocks w a bs) c && is_live w c) ≡ (is_live (with_new_blocks w a bs) c && not t)) [
  | true ↦ λ e. ap (λ t. is_live (with_new_blocks w a bs) c && t) (not_live w bs c free e)
  | false ↦ λ e. ap (λ o. is_some o && is_live w c) (contents-apart a bs w c e) ∙ (same (is_live w c) ∙ ap (λ o. is_some o && true) (sym (contents-apart a bs w c e)))
] refl
  where
    same : (t : Bool) → (t && t) ≡ (t && true)
    same true = refl
    same false = refl

fitted_new : (w : World) (a : ℕ) (bs : List ℕ) → AllFree w bs → (v : Sessions) → fitted (with_new_blocks w a bs) (fitted w v) ≡ fitted (with_new_blocks w a bs) (dropped_each bs v)
fitted_new w a bs free v =
    let x = with_new_blocks w a bs in
    subst (λ n. seen (is_live x) n (fitted w v) ≡ seen (is_live x) n (dropped_each bs v)) (sym (length-new_blocks a bs w))
    (seen_twice (is_live x) (is_live w) (length w.blocks) (λ c e. live_below w.blocks c e) v
    ∙ (same_seen (λ c. is_live x c && is_live w c) (λ c. is_live x c && not (has_number bs c)) (length w.blocks) (λ c. new_or_old a bs w c free) v
    ∙ sym (seen_dropped_each (is_live x) (length w.blocks) bs v)))

-- ---- what is seen afterwards

-- a session's place, put over what is seen
fitted-with_held : (t : World) (v : Sessions) (s : ℕ) (x : Option (List (List Level))) → fitted t (with_held (fitted t v) s x) ≡ fitted t (with_held v s x)
fitted-with_held t v s x =
    map-with_held (map (levels_at_live t)) (fitted t v) s x
    ∙ (ap (λ u. with_held u s (option_map (map (levels_at_live t)) x)) (fitted_again t t refl (λ c e. e) v)
    ∙ sym (map-with_held (map (levels_at_live t)) v s x))

both_live : (t : Bool) → (t && t) ≡ t
both_live true = refl
both_live false = refl

fitted-dropped_from : (t x : World) (m o : ℕ) → length x.blocks ≡ length t.blocks → ((c : ℕ) → is_live x c ≡ true → is_live t c ≡ true) → (v : Sessions) → fitted x (dropped_from m o (fitted t v)) ≡ fitted x (dropped_from m o v)
fitted-dropped_from t x m o long fewer v = subst (λ n. seen (is_live x) n (dropped_from m o (fitted t v)) ≡ seen (is_live x) n (dropped_from m o v)) (sym long)
    (seen_dropped_from (is_live x) (is_live t) (length t.blocks) m o (λ c e. live_below t.blocks c e) (λ c. if_then (is_live x c) (is_live t c) (fewer c)) v)

pub length-restricted : (w : World) (keep : ℕ → Bool) → length (restricted w keep).blocks ≡ length w.blocks
length-restricted w keep = length-map-range_with_len (λ b. cond (keep b) (contents w b) None) 0 (length w.blocks)

kept_live : (w : World) (keep : ℕ → Bool) (c : ℕ) → is_live (restricted w keep) c ≡ true → is_live w c ≡ true
kept_live w keep c e = (and_parts (keep c) (is_live w c) (sym (live-restricted w keep c) ∙ e)).1

-- what is seen after the change of a granted request, in one world
seen_change : (kind : PlaceKind) (w : World) (v : Sessions) (q : Request) → length w.blocks ≡ w.geometry.blocks → Passes w v q
    → fitted (world_after kind w q) (change kind w (fitted w (raised_by w v q)) q).state.sessions ≡ fitted (world_after kind w q) (table_after kind w v q)
seen_change kind w v ask.Bad long pass = fitted_again w w refl (λ c e. e) v
seen_change kind w v (ask.Begin s) long pass = fitted-with_held w v s (Some (replicate w.geometry.primaries (replicate (length w.blocks) level.Bare)))
seen_change kind w v (ask.End s) long pass = fitted-with_held w v s None
seen_change kind w v (ask.Read s b shown) long pass = fitted_again w w refl (λ c e. e) (raised_by w v (ask.Read s b shown))
seen_change kind w v (ask.Write s b shown bytes) long pass =
    let like = contents_like w b (filled (block_len w.geometry) bytes) (one_is_live w b long pass.there pass.live) in
    fitted_again w (with_contents w b (filled (block_len w.geometry) bytes)) like.count (λ c e. sym (like.live c) ∙ e) (raised_by w v (ask.Write s b shown bytes))
seen_change kind w v (ask.Alloc s a shown h count) long pass = fitted_new w a (chosen kind w h count) (chosen_are_free kind w h count) (raised_by w v (ask.Alloc s a shown h count))
seen_change kind w v (ask.Contig s a shown h count) long pass = fitted_new w a (run_at (chosen_run kind w h count) count) (chosen_run_is_free kind w h count) (raised_by w v (ask.Contig s a shown h count))
seen_change kind w v ask.GetFree long pass = fitted_again w w refl (λ c e. e) v
seen_change kind w v (ask.Create s a shown b) long pass = fitted_again w (with_pointer w a b) refl (λ c e. e) (raised_by w v (ask.Create s a shown b))
seen_change kind w v (ask.Delete s a shown b) long pass =
    let cut = without_pointer w a b in
    fitted_again w (settle cut) (length-restricted cut (λ c. not (has_number (doomed cut) c))) (kept_live cut (λ c. not (has_number (doomed cut) c))) (raised_by w v (ask.Delete s a shown b))
seen_change kind w v (ask.SetCap s b shown caps) long pass =
    fitted-dropped_from w w (length w.blocks) b refl (λ c e. e) (raised_by w v (ask.SetCap s b shown caps))
    ∙ ap (λ n. fitted w (dropped_from n b (raised_by w v (ask.SetCap s b shown caps)))) long
seen_change kind w v (ask.Sweep s shown) long pass =
    fitted_again w (swept w) (length-restricted w (has_number (reach w))) (kept_live w (has_number (reach w))) (raised_by w v (ask.Sweep s shown))
seen_change kind w v (ask.List s a shown start) long pass = fitted_again w w refl (λ c e. e) (raised_by w v (ask.List s a shown start))

-- ---- the step

-- the sessions count for nothing in the world and the reply of a change
outcome_is : (kind : PlaceKind) (w : World) (u : Sessions) (q : Request) → fitted_outcome (change kind w u q) ≡ gives (world_after kind w q) (fitted (world_after kind w q) (change kind w u q).state.sessions) (reply_to kind w q)
outcome_is kind w u ask.Bad = refl
outcome_is kind w u q = refl

-- the table afterwards is told by the one world as by the other
table_like : (kind : PlaceKind) (t w : World) (v : Sessions) (q : Request) → AreLike t w → table_after kind t v q ≡ table_after kind w v q
table_like kind t w v q like = sym (go q)
  where
    rise : (p : Request) → raised_by w v p ≡ raised_by t v p
    rise p = raised_for_like t w like v (session_of p) (needs p)

    go : (p : Request) → table_after kind w v p ≡ table_after kind t v p
    go (ask.Begin s) = λ i. with_held v s (Some (replicate (sym like.geometry i).primaries (replicate (sym like.count i) level.Bare)))
    go (ask.End s) = refl
    go (ask.Alloc s a shown h count) = λ i. dropped_each (sym (chosen_like t w like kind h count) i) (rise (ask.Alloc s a shown h count) i)
    go (ask.Contig s a shown h count) = λ i. dropped_each (run_at (sym (chosen_run_like t w like kind h count) i) count) (rise (ask.Contig s a shown h count) i)
    go (ask.SetCap s b shown caps) = λ i. dropped_from (sym like.geometry i).blocks b (rise (ask.SetCap s b shown caps) i)
    go p = rise p

pub from_live : (g : Table) (t w : World) → IsOver g t w → ComesFrom w t
from_live g t w over a b h = over.sources a b (ap (λ es. holds es a b) over.like.pairs ∙ h)

-- the verdict by what is told is that at the disk
pub verdict_over : (g : Table) (t w : World) (q : Request) → IsOver g t w → verdict w (fitted t g.sessions) q ≡ verdict t g.sessions q
verdict_over g t w q over = verdict-fitted w t (from_live g t w over) g.sessions q ∙ sym (verdict_like t w over.like g.sessions q)

-- A request that is granted by what is told, and the step at the disk: the world and the reply are those of the change, and what is
-- seen of the sessions is what is seen of the table afterwards.
pub step_over : (kind : PlaceKind) (g : Table) (t w : World) (q : Request) → IsOver g t w → ◌≡◌ {A = Option Rule} (verdict t g.sessions q) None
    → step kind (record { world = w; sessions = fitted t g.sessions }) q
    ≡ gives (world_after kind w q) (fitted (world_after kind w q) (table_after kind t g.sessions q)) (reply_to kind w q)
step_over kind g t w q over granted =
    let v = g.sessions in
    let long : length w.blocks ≡ w.geometry.blocks = sym over.like.count ∙ (over.each_block ∙ ap (λ x. x.blocks) over.like.geometry) in
    let from : ComesFrom w t = from_live g t w over in
    let pass : Passes t v q = granted_passes t v q granted in
    let alike : verdict w v q ≡ verdict t v q = sym (verdict_like t w over.like v q) in
    let granted_there : ◌≡◌ {A = Option Rule} (verdict w v q) None = alike ∙ granted in
    let seen_granted : ◌≡◌ {A = Option Rule} (verdict w (fitted t v) q) None = verdict_over g t w q over ∙ granted in
    let reach_blocks : g.blocks ≡ length t.blocks = over.made.blocks ∙ sym over.each_block in
    let rise : raised_by w (fitted t v) q ≡ fitted w (raised_by w v q) =
    raised_for_fitted w t from g over.table reach_blocks (session_of q) (needs q) (needs_live t v q over.each_block pass) ∙ fitted_like t w over.like (raised_by w v q) in
    ap (judged kind (record { world = w; sessions = fitted t v }) q) seen_granted
    ∙ (ap (λ u. fitted_outcome (change kind w u q)) rise
    ∙ (outcome_is kind w (fitted w (raised_by w v q)) q
    ∙ (ap (λ u. gives (world_after kind w q) u (reply_to kind w q)) (seen_change kind w v q long (granted_passes w v q granted_there))
    ∙ ap (λ u. gives (world_after kind w q) (fitted (world_after kind w q) u) (reply_to kind w q)) (sym (table_like kind t w v q over.like)))))
