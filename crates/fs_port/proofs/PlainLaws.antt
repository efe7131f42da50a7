-- What an ask of a plain disk leaves.
use Rattle.std.proofs.Common.{◌≡◌, ℕ, zero, suc, ◌≤◌, ◌+◌, ◌-◌, ◌==◌, cond, ◌⊎◌, Bool, true, false, List, [], ◌∷◌, ◌++◌, length, drop, refl, sym, ◌∙◌, ap, subst, arith, inl, inr, ⊎_elim, Option, Some, None, length-append}
use Rattle.std.specs.Prelude.{is_some, option_map, slice_set, slice_index_or}
use Rattle.tsd_model.specs.World.{World}
use Rattle.tsd_model.specs.Sessions.{Sessions, Held, held_by, is_open, raised_held, raised_sessions, fitted}
use Rattle.tsd_model.specs.Attained.{attained_from}
use Rattle.tsd_model.specs.Needs.{session_of, needs, is_steady}
use Rattle.tsd_model.specs.Step.{State, change, raised_by, raised_at, raised_for, with_pointer, with_contents, with_new_blocks, zeros, run_at}
use Rattle.tsd_model.specs.Placing.{chosen, chosen_run}
use Rattle.tsd_model.specs.Run.{answer}
use Rattle.tsd_model.specs.declared.needs.Need.{Need}
use Rattle.tsd_model.specs.declared.requests.Level.{Level}
use Rattle.tsd_model.specs.declared.requests.PlaceKind.{PlaceKind}
use Rattle.tsd_model.specs.declared.requests.Request.{Request}
use Rattle.tsd_model.specs.declared.requests.Request.TheVariants as ask
use Rattle.tsd_model.proofs.SessionLaws.{held-map}
use Rattle.disk_laws.proofs.AnswerLaws.{after_answer}
use Rattle.disk_laws.proofs.FitLaws.{geometry-change, version-change}
use Rattle.fs_port.specs.Calls.{LeavesWorldsOnly}
use Rattle.fs_port.specs.Plain.{IsOneOf, HadSince, plain_view, none_behind, GoesOn}
use Rattle.fs_port.specs.declared.plain.PlainBlocks.{PlainBlocks}

-- ---- the worlds that it had

split_last : (t : ℕ) (ws : List World) (w : World) (x : Option World) → t ≤ length ws → IsOneOf (drop t (ws ++ w ∷ [])) x → IsOneOf (drop t ws) x ⊎ (x ≡ Some w)
split_last zero [] w x le h = ⊎_elim (λ e. inr e) (λ n. absurd n) h
split_last zero (v ∷ ws) w x le h = ⊎_elim (λ e. inl (inl e)) (λ k. ⊎_elim (λ g. inl (inr g)) (λ e. inr e) (split_last zero ws w x (omega arith) k)) h
split_last (suc t) [] w x le h = absurd (omega arith)
split_last (suc t) (v ∷ ws) w x le h = split_last t ws w x (omega arith) h

join_last : (t : ℕ) (ws : List World) (w : World) (x : Option World) → t ≤ length ws → IsOneOf (drop t ws) x ⊎ (x ≡ Some w) → IsOneOf (drop t (ws ++ w ∷ [])) x
join_last zero [] w x le h = ⊎_elim (λ n. absurd n) (λ e. inl e) h
join_last zero (v ∷ ws) w x le h = ⊎_elim (λ k. ⊎_elim (λ e. inl e) (λ g. inr (join_last zero ws w x (omega arith) (inl g))) k) (λ e. inr (join_last zero ws w x (omega arith) (inr e))) h
join_last (suc t) [] w x le h = absurd (omega arith)
join_last (suc t) (v ∷ ws) w x le h = join_last t ws w x (omega arith) h

pub gone_on : (old new : PlainBlocks) (w : World) (v : Sessions) (P : World → Type 0) → GoesOn old new w v → P old.world → P w → LeavesWorldsOnly (plain_view old) (plain_view new) P
gone_on old new w v P on before after = record {
  later = let long : length new.earlier.items ≡ length old.earlier.items + 1 = ap length on.earlier ∙ length-append old.earlier.items (old.world ∷ []) in omega arith;
  sent = refl;
  each = λ x f h. ⊎_elim (λ k. ⊎_elim (λ g. absurd (none_behind old.earlier.items x.world g)) (λ e. (old.world, e, before, h.1)) (split_last (length old.earlier.items) old.earlier.items old.world x.world (omega arith) (subst (λ ws. IsOneOf (drop (length old.earlier.items) ws) x.world) on.earlier k)))
      (λ e. (w, e ∙ ap (λ u. Some u) on.world, after, h.1)) h.0;
  before = λ t x f le h. ⊎_elim (λ k. inl (split_last t old.earlier.items old.world x.world le (subst (λ ws. IsOneOf (drop t ws) x.world) on.earlier k), h.1))
      (λ e. inr (w, e ∙ ap (λ u. Some u) on.world, after, h.1)) h.0;
  keeps = λ t x f le h. (inl (subst (λ ws. IsOneOf (drop t ws) x.world) (sym on.earlier) (join_last t old.earlier.items old.world x.world le h.0)), h.1);
}

pub failed_leaves : (old new : PlainBlocks) (P : World → Type 0) → new.world ≡ old.world → new.earlier.items ≡ old.earlier.items → P old.world → LeavesWorldsOnly (plain_view old) (plain_view new) P
failed_leaves old new P same earlier before = record {
  later = let long = ap length earlier in omega (arith, long);
  sent = refl;
  each = λ x f h. ⊎_elim (λ k. absurd (none_behind old.earlier.items x.world (subst (λ ws. IsOneOf (drop (length old.earlier.items) ws) x.world) earlier k))) (λ e. (old.world, e ∙ ap (λ u. Some u) same, before, h.1)) h.0;
  before = λ t x f le h. inl (back t x.world h.0, h.1);
  keeps = λ t x f le h. (forth t x.world h.0, h.1);
}
  where
    back : (t : ℕ) (x : Option World) → HadSince t new.earlier.items new.world x → HadSince t old.earlier.items old.world x
    back t x h = ⊎_elim (λ k. inl (subst (λ ws. IsOneOf (drop t ws) x) earlier k)) (λ e. inr (e ∙ ap (λ u. Some u) same)) h

    forth : (t : ℕ) (x : Option World) → HadSince t old.earlier.items old.world x → HadSince t new.earlier.items new.world x
    forth t x h = ⊎_elim (λ k. inl (subst (λ ws. IsOneOf (drop t ws) x) (sym earlier) k)) (λ e. inr (e ∙ sym (ap (λ u. Some u) same))) h

-- ---- what a steady request leaves

open-mapped : (f : Held → Held) (o : Option Held) → is_some (option_map f o) ≡ is_some o
open-mapped f None = refl
open-mapped f (Some h) = refl

open-set : (f : Held → Held) (v : Sessions) (i j : ℕ) → is_some (slice_index_or (slice_set v i (option_map f (slice_index_or v i None))) j None) ≡ is_some (slice_index_or v j None)
open-set f [] i j = refl
open-set f (h ∷ v) zero zero = open-mapped f h
open-set f (h ∷ v) zero (suc j) = refl
open-set f (h ∷ v) (suc i) zero = refl
open-set f (h ∷ v) (suc i) (suc j) = open-set f v i j

open-raised : (v : Sessions) (s b : ℕ) (from : ℕ → Level) (n : ℕ) → is_open (raised_sessions v s b from) n ≡ is_open v n
open-raised v s b from n =
    elim (s == 0) as (λ z. is_open (cond z v (slice_set v (s - 1) (option_map (raised_held b from) (cond z None (slice_index_or v (s - 1) None))))) n ≡ is_open v n) [
      | true ↦ refl
      | false ↦ elim (n == 0) as (λ z. is_some (cond z None (slice_index_or (slice_set v (s - 1) (option_map (raised_held b from) (slice_index_or v (s - 1) None))) (n - 1) None)) ≡ is_some (cond z None (slice_index_or v (n - 1) None))) [
        | true ↦ refl
        | false ↦ open-set (raised_held b from) v (s - 1) (n - 1)
      ]
    ]

open-raised_by : (w : World) (v : Sessions) (q : Request) (n : ℕ) → is_open (raised_by w v q) n ≡ is_open v n
open-raised_by w v q n = for_session (session_of q)
  where
    at : (s : ℕ) (ns : List Need) (now : Sessions) → is_open (raised_at w v s ns now) n ≡ is_open now n
    at s [] now = refl
    at s (m ∷ ms) now = at s ms _ ∙ open-raised now s m.block (attained_from w v s m.block m.shown) n

    for_session : (o : Option ℕ) → is_open (raised_for w v o (needs q)) n ≡ is_open v n
    for_session None = refl
    for_session (Some s) = at s (needs q) v

open-fitted : (w : World) (v : Sessions) (n : ℕ) → is_open (fitted w v) n ≡ is_open v n
open-fitted w v n = ap is_some (held-map _ v _) ∙ open-mapped _ (held_by v n)

records-new_blocks : (a : ℕ) (bs : List ℕ) (w : World) → (with_new_blocks w a bs).records ≡ w.records
records-new_blocks a [] w = refl
records-new_blocks a (b ∷ bs) w = records-new_blocks a bs (with_pointer (with_contents w b (zeros w)) a b)

records-change : (kind : PlaceKind) (w : World) (u : Sessions) (q : Request) → is_steady q ≡ true → ((change kind w u q).state.world.records ≡ w.records) × ((change kind w u q).state.sessions ≡ u)
records-change kind w u (ask.Begin s) h = absurd (cc)
records-change kind w u (ask.End s) h = absurd (cc)
records-change kind w u (ask.SetCap s b shown caps) h = absurd (cc)
records-change kind w u (ask.Alloc s a shown hint count) h = (records-new_blocks a (chosen kind w hint count) w, refl)
records-change kind w u (ask.Contig s a shown hint count) h = (records-new_blocks a (run_at (chosen_run kind w hint count) count) w, refl)
records-change kind w u q h = (refl, refl)

pub steady_records : (kind : PlaceKind) (s : State) (q : Request) (want : Bool) → is_steady q ≡ true → (answer kind s q want).state.world.records ≡ s.world.records
steady_records kind s q want h = after_answer (λ t. t.world.records ≡ s.world.records) kind s q want refl (λ _. (records-change kind s.world (raised_by s.world s.sessions q) q h).0)

pub steady_open : (kind : PlaceKind) (s : State) (q : Request) (want : Bool) (n : ℕ) → is_steady q ≡ true → is_open (answer kind s q want).state.sessions n ≡ is_open s.sessions n
steady_open kind s q want n h = after_answer (λ t. is_open t.sessions n ≡ is_open s.sessions n) kind s q want refl
    (λ _. let u = raised_by s.world s.sessions q in let next = (change kind s.world u q).state in
    open-fitted next.world next.sessions n ∙ (ap (λ v. is_open v n) (records-change kind s.world u q h).1 ∙ open-raised_by s.world s.sessions q n))

pub same_size : (kind : PlaceKind) (s : State) (q : Request) (want : Bool) → ((answer kind s q want).state.world.geometry ≡ s.world.geometry) × ((answer kind s q want).state.world.version ≡ s.world.version)
same_size kind s q want = after_answer (λ t. (t.world.geometry ≡ s.world.geometry) × (t.world.version ≡ s.world.version)) kind s q want (refl, refl)
    (λ _. (geometry-change kind s.world (raised_by s.world s.sessions q) q, version-change kind s.world (raised_by s.world s.sessions q) q))

pub set_last : (ws : List World) (a b : World) → slice_set (ws ++ a ∷ []) (length ws) b ≡ ws ++ b ∷ []
set_last [] a b = refl
set_last (w ∷ ws) a b = ap (λ xs. w ∷ xs) (set_last ws a b)

pub item_last : (ws : List World) (a d : World) → slice_index_or (ws ++ a ∷ []) (length ws) d ≡ a
item_last [] a d = refl
item_last (w ∷ ws) a d = item_last ws a d
