-- One request more of a load.
use Rattle.std.proofs.Common.{◌≡◌, ◌≢◌, ℕ, ◌+◌, ◌/◌, ◌%◌, ◌==◌, Bool, true, false, not, List, [], ◌∷◌, ◌++◌, refl, sym, ◌∙◌, ap, arith}
use Rattle.image_runs.proofs.Common.{count_by, if◌then◌else◌, World, State, Outcome, step, judged, is_begin, verdict, answer, starved, after, replies, at_rest, CapPair, Geometry, PlaceKind, Request, Reply, Rule, seed_request, request_of_words, request_of_kind, shown_at, stream_word, window, words_place, requests_of, loaded, loaded_replies, is_refused, granted_count, refused_count, HasApplied, IsAnswer, more_granted, more_refused}
use Rattle.std.specs.Prelude.{Option, Some, None, cond}
use Rattle.std.proofs.lemmas.List.Sums.{sum_by_push}
use Rattle.std.proofs.lemmas.List.FromFn.{map-range_with_len_more}
use Rattle.tsd_model.specs.declared.caps.Shown.{Shown}
use Rattle.tsd_model.specs.declared.requests.Request.TheVariants as ask
use Rattle.tsd_model.specs.declared.replies.Reply.TheVariants as replied
use Rattle.rand_chacha.specs.ChaCha.{key_of}
use Rattle.cap_store.specs.Seeds.{seed_pairs}

-- ---- runs

pub after_more : (kind : PlaceKind) (s : State) (qs : List Request) (q : Request) → after kind s [] (qs ++ q ∷ []) ≡ (step kind (after kind s [] qs) q).state
after_more kind s [] q = refl
after_more kind s (p ∷ qs) q = after_more kind (step kind s p).state qs q

pub replies_more : (kind : PlaceKind) (s : State) (qs : List Request) (q : Request) → replies kind s [] (qs ++ q ∷ []) ≡ replies kind s [] qs ++ (step kind (after kind s [] qs) q).reply ∷ []
replies_more kind s [] q = refl
replies_more kind s (p ∷ qs) q = ap (λ (rs : List Reply). (step kind s p).reply ∷ rs) (replies_more kind (step kind s p).state qs q)

requests_more : (seed : List ℕ) (g : Geometry) (n : ℕ) → requests_of seed g (n + 1) ≡ requests_of seed g n ++ seed_request seed g n ∷ []
requests_more seed g n = map-range_with_len_more (seed_request seed g) 0 n n (omega arith)

pub loaded_more : (kind : PlaceKind) (seed : List ℕ) (w : World) (n : ℕ) → loaded kind seed w (n + 1) ≡ (step kind (loaded kind seed w n) (seed_request seed w.geometry n)).state
loaded_more kind seed w n = ap (λ (qs : List Request). after kind (at_rest w) [] qs) (requests_more seed w.geometry n) ∙ after_more kind (at_rest w) (requests_of seed w.geometry n) (seed_request seed w.geometry n)

loaded_replies_more : (kind : PlaceKind) (seed : List ℕ) (w : World) (n : ℕ)
    → loaded_replies kind seed w (n + 1) ≡ loaded_replies kind seed w n ++ (step kind (loaded kind seed w n) (seed_request seed w.geometry n)).reply ∷ []
loaded_replies_more kind seed w n = ap (λ (qs : List Request). replies kind (at_rest w) [] qs) (requests_more seed w.geometry n) ∙ replies_more kind (at_rest w) (requests_of seed w.geometry n) (seed_request seed w.geometry n)

-- ---- answers

starved_step : (s : State) (n : ℕ) (r : Option Rule) (o : Outcome) → (starved s (ask.Begin n) r o).reply ≢ replied.NoMemory → starved s (ask.Begin n) r o ≡ o
starved_step s n None o found = absurd (found refl)
starved_step s n (Some r) o found = refl

-- an answer that isn't for want of memory is the step
pub answer_is_step : (kind : PlaceKind) (s : State) (q : Request) (want : Bool) → (answer kind s q want).reply ≢ replied.NoMemory → answer kind s q want ≡ step kind s q
answer_is_step kind s q false found = refl
answer_is_step kind s (ask.Begin n) true found = starved_step s n (verdict s.world s.sessions (ask.Begin n)) (step kind s (ask.Begin n)) found
answer_is_step kind s q true found = refl

-- no step is without memory
judged_memory : (kind : PlaceKind) (s : State) (q : Request) (r : Option Rule) → (judged kind s q r).reply ≡ replied.NoMemory → ⊥
judged_memory kind s q (Some r) e = cc
judged_memory kind s ask.Bad None e = cc
judged_memory kind s q None e = cc

step_memory : (kind : PlaceKind) (s : State) (q : Request) → (step kind s q).reply ≡ replied.NoMemory → ⊥
step_memory kind s q e = judged_memory kind s q (verdict s.world s.sessions q) e

-- memory is wanted by a begin alone
pub starved_begins : (kind : PlaceKind) (s : State) (q : Request) (want : Bool) → (answer kind s q want).reply ≡ replied.NoMemory → is_begin q ≡ true
starved_begins kind s q false e = absurd (step_memory kind s q e)
starved_begins kind s (ask.Begin n) true e = refl
starved_begins kind s q true e = absurd (step_memory kind s q e)

-- ---- the requests of a seed

either : (t : Bool) (p q : Request) → is_begin p ≡ false → is_begin q ≡ false → is_begin (if t then p else q) ≡ false
either true p q one other = one
either false p q one other = other

kind_begins : (kind a b : ℕ) (shown : Shown) (y : ℕ) → is_begin (request_of_kind kind a b shown y) ≡ false
kind_begins kind a b shown y =
    either (kind == 0) _ _ refl (either (kind == 1) _ _ refl (either (kind == 2) _ _ refl (either (kind == 3) _ _ refl
    (either (kind == 4) _ _ refl (either (kind == 5) _ _ refl (either (kind == 6) _ _ refl refl))))))

words_begins : (pairs : List CapPair) (primaries named x y : ℕ) → is_begin (request_of_words pairs primaries named x y) ≡ false
words_begins pairs primaries named x y = kind_begins (x % 8) (x / 8 % named) (y % named) (shown_at pairs primaries (x / 8 % named)) y

at_begins : (t : Bool) (q : Request) → is_begin q ≡ false → is_begin (if t then ask.Begin 1 else q) ≡ true → t ≡ true
at_begins true q other e = refl
at_begins false q other e = absurd (cc)

-- only request 0 begins a session
pub seed_begins : (seed : List ℕ) (g : Geometry) (n : ℕ) → is_begin (seed_request seed g n) ≡ true → (n == 0) ≡ true
seed_begins seed g n e =
    let word = stream_word (key_of seed) in
    at_begins (n == 0) _ (words_begins (seed_pairs seed) g.primaries (window g.blocks n) (word (words_place n)) (word (words_place n + 1))) e

-- ---- one more

counted_more : (f : Reply → Bool) (rs : List Reply) (r : Reply) → count_by f (rs ++ r ∷ []) ≡ count_by f rs + cond (f r) 1 0
counted_more f rs r = sum_by_push (λ (x : Reply). cond (f x) 1 0) rs r

pub applied_more : (kind : PlaceKind) (seed : List ℕ) (w : World) (n : ℕ) (s t : State) (q : Request) (reply : Reply) (granted refused all_granted all_refused : ℕ) → HasApplied kind seed w n s granted refused
    → q ≡ seed_request seed w.geometry n → IsAnswer kind s q reply t → reply ≢ replied.NoMemory → all_granted ≡ granted + more_granted reply → all_refused ≡ refused + more_refused reply
    → HasApplied kind seed w (n + 1) t all_granted all_refused
applied_more kind seed w n s t q reply granted refused all_granted all_refused had asked given found more fewer =
    let is = answer_is_step kind s q given.want (λ e. found (given.reply ∙ e)) in
    let stepped : step kind s q ≡ step kind (loaded kind seed w n) (seed_request seed w.geometry n) = ap (λ (u : State). step kind u q) had.state ∙ ap (λ (p : Request). step kind (loaded kind seed w n) p) asked in
    let outcome = is ∙ stepped in
    let reply_is = given.reply ∙ ap (λ (o : Outcome). o.reply) outcome in
    let all = loaded_replies_more kind seed w n ∙ ap (λ (r : Reply). loaded_replies kind seed w n ++ r ∷ []) (sym reply_is) in
    record {
      state = given.state ∙ ap (λ (o : Outcome). o.state) outcome ∙ sym (loaded_more kind seed w n);
      granted_are = more ∙ ap (λ (k : ℕ). k + more_granted reply) had.granted_are ∙ ap (λ (k : ℕ). granted_count (loaded_replies kind seed w n) + k) (granted_of reply)
          ∙ sym (counted_more (λ r. not (is_refused r)) (loaded_replies kind seed w n) reply) ∙ ap (λ (rs : List Reply). granted_count rs) (sym all);
      refused_are = fewer ∙ ap (λ (k : ℕ). k + more_refused reply) had.refused_are
          ∙ sym (counted_more is_refused (loaded_replies kind seed w n) reply) ∙ ap (λ (rs : List Reply). refused_count rs) (sym all);
    }
  where
    turned : (t : Bool) → cond {A = ℕ} t 0 1 ≡ cond {A = ℕ} (not t) 1 0
    turned true = refl
    turned false = refl

    granted_of : (r : Reply) → more_granted r ≡ cond {A = ℕ} (not (is_refused r)) 1 0
    granted_of r = turned (is_refused r)
