-- What each request keeps that passes a test, a run of such requests keeps.
use Rattle.std.proofs.Common.{◌≡◌, Bool, true, false, List, [], ◌∷◌, drop}
use Rattle.reach_laws.proofs.Common.{and_from, and_parts, or_parts, State, answer, after, wants_now, PlaceKind, Request, at_some_request, at_each_state}

first_state : (there : State → Bool) (kind : PlaceKind) (s : State) (wants : List Bool) (qs : List Request) → at_each_state there kind s wants qs ≡ true → there s ≡ true
first_state there kind s wants [] h = h
first_state there kind s wants (q ∷ qs) h = (and_parts (there s) (at_each_state there kind (answer kind s q (wants_now wants)).state (drop 1 wants) qs) h).0

-- where a test of states holds at each of them
pub run_keeps_there : (P : State → Type 0) (there : State → Bool) (test : State → Request → Bool) (kind : PlaceKind)
    → ((s : State) (q : Request) (want : Bool) → there s ≡ true → there (answer kind s q want).state ≡ true → test s q ≡ false → P s → P (answer kind s q want).state)
    → (s : State) (wants : List Bool) (qs : List Request) → at_each_state there kind s wants qs ≡ true → at_some_request test kind s wants qs ≡ false → P s → P (after kind s wants qs)
run_keeps_there P there test kind each s wants [] live none h = h
run_keeps_there P there test kind each s wants (q ∷ qs) live none h =
    let next = (answer kind s q (wants_now wants)).state in
    let lives = and_parts (there s) (at_each_state there kind next (drop 1 wants) qs) live in
    let no = or_parts (test s q) (at_some_request test kind next (drop 1 wants) qs) none in
    run_keeps_there P there test kind each next (drop 1 wants) qs lives.1 no.1
    (each s q (wants_now wants) lives.0 (first_state there kind next (drop 1 wants) qs lives.1) no.0 h)

-- a test of states that holds at first, and that each request keeps that doesn't pass the other test, holds at each state
pub run_stays : (there : State → Bool) (test : State → Request → Bool) (kind : PlaceKind)
    → ((s : State) (q : Request) (want : Bool) → test s q ≡ false → there s ≡ true → there (answer kind s q want).state ≡ true)
    → (s : State) (wants : List Bool) (qs : List Request) → at_some_request test kind s wants qs ≡ false → there s ≡ true → at_each_state there kind s wants qs ≡ true
run_stays there test kind each s wants [] none h = h
run_stays there test kind each s wants (q ∷ qs) none h =
    let next = (answer kind s q (wants_now wants)).state in
    let no = or_parts (test s q) (at_some_request test kind next (drop 1 wants) qs) none in
    and_from (there s) (at_each_state there kind next (drop 1 wants) qs) h
    (run_stays there test kind each next (drop 1 wants) qs no.1 (each s q (wants_now wants) no.0 h))

pub run_keeps : (P : State → Type 0) (test : State → Request → Bool) (kind : PlaceKind)
    → ((s : State) (q : Request) (want : Bool) → test s q ≡ false → P s → P (answer kind s q want).state)
    → (s : State) (wants : List Bool) (qs : List Request) → at_some_request test kind s wants qs ≡ false → P s → P (after kind s wants qs)
run_keeps P test kind each s wants [] none h = h
run_keeps P test kind each s wants (q ∷ qs) none h =
    let next = (answer kind s q (wants_now wants)).state in
    let no = or_parts (test s q) (at_some_request test kind next (drop 1 wants) qs) none in
    run_keeps P test kind each next (drop 1 wants) qs no.1 (each s q (wants_now wants) no.0 h)
