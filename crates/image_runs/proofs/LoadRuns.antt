-- What a crash leaves of a load, request by request.
use Rattle.std.proofs.Common.{◌≡◌, inl, inr, ℕ, ◌+◌, ◌<◌, ◌≤◌, true, List, refl, sym, ◌∙◌, ap, subst, arith}
use Rattle.image_runs.proofs.Common.{eqb-true, World, State, is_begin, PlaceKind, Request, View, IsSound, IsFirm, started, joined, weakened, firm_image, Image, IsGood, Stands, world_of, seed_request, IsAnswer, next_world, LeavesEither, LeavesWorld, world_on, loaded, LeavesRun, Geometry, Core, Generator, IsCoreAt, at_volume, like_at, load_after, next_request, told_world}
use Rattle.tsd_model.specs.declared.replies.Reply.TheVariants as replied
use Rattle.image_runs.proofs.Requests.{loaded_more, starved_begins, seed_begins}

-- before the first request
pub run_started : (kind : PlaceKind) (seed : List ℕ) (v : View) → IsSound v → IsFirm v → IsGood v.reads → LeavesRun kind seed 0 v v
run_started kind seed v sound firm good =
    started v _ sound (λ x f now.
    ((0, omega arith, subst (λ (y : Image). Stands y (world_of v.reads)) (sym (firm_image v firm x f now)) (record { good = good; world = refl })), now.1))

pub run_within : (kind : PlaceKind) (seed : List ℕ) (few many : ℕ) (old new : View) → few ≤ many → LeavesRun kind seed few old new → LeavesRun kind seed many old new
run_within kind seed few many old new le run =
    weakened old new _ _ run (λ x f left. ((left.0.0, omega (arith, left.0.1, le), left.0.2), left.1))

-- one request more
pub run_more : (kind : PlaceKind) (seed : List ℕ) (n : ℕ) (old mid new : View) (s : State) (q : Request) → s.world ≡ world_on mid → s ≡ loaded kind seed (world_of old.reads) n
    → q ≡ seed_request seed (world_of old.reads).geometry n → mid.sent ≡ old.sent → LeavesRun kind seed n old mid → LeavesEither mid new (next_world kind s q) → LeavesRun kind seed (n + 1) old new
run_more kind seed n old mid new s q here at asked sent run more =
    let w = world_of old.reads in
    let before : world_on mid ≡ (loaded kind seed w n).world = sym here ∙ ap (λ (u : State). u.world) at in
    let after : next_world kind s q ≡ (loaded kind seed w (n + 1)).world =
    ap (λ (u : State). next_world kind u q) at ∙ ap (λ (p : Request). next_world kind (loaded kind seed w n) p) asked ∙ ap (λ (u : State). u.world) (sym (loaded_more kind seed w n)) in
    joined old mid new _ _ (run_within kind seed n (n + 1) old mid (omega arith) run) more
    (λ x f left. (
      elim left.0 [
        | inl was ↦ (n, omega arith, subst (λ (v : World). Stands x v) before was)
        | inr now ↦ (n + 1, omega arith, subst (λ (v : World). Stands x v) after now)
      ],
      left.1 ∙ sent,
    ))

-- and so it is of all, where it was one of them
pub run_next : (kind : PlaceKind) (seed : List ℕ) (n count : ℕ) (old mid new : View) (s : State) (q : Request) → n < count → s.world ≡ world_on mid → s ≡ loaded kind seed (world_of old.reads) n
    → q ≡ seed_request seed (world_of old.reads).geometry n → mid.sent ≡ old.sent → LeavesRun kind seed n old mid → LeavesEither mid new (next_world kind s q) → LeavesRun kind seed count old new
run_next kind seed n count old mid new s q few here at asked sent run more = run_within kind seed (n + 1) count old new (omega (arith, few)) (run_more kind seed n old mid new s q here at asked sent run more)

-- calls that leave the world, behind some of the requests
pub run_ended : (kind : PlaceKind) (seed : List ℕ) (n count : ℕ) (old mid new : View) (s : State) → s.world ≡ world_on mid → n ≤ count → s ≡ loaded kind seed (world_of old.reads) n → mid.sent ≡ old.sent
    → LeavesRun kind seed n old mid → LeavesWorld mid new → LeavesRun kind seed count old new
run_ended kind seed n count old mid new s here few at sent run more =
    joined old mid new _ _ (run_within kind seed n count old mid few run) more
    (λ x f left. ((n, few, subst (λ (v : World). Stands x v) (sym here ∙ ap (λ (u : State). u.world) at) left.0), left.1 ∙ sent))

-- a request that had no memory is the first one
pub starved_first : (kind : PlaceKind) (seed : List ℕ) (g : Geometry) (n : ℕ) (s t : State) (q : Request) → q ≡ seed_request seed g n → IsAnswer kind s q replied.NoMemory t → n ≡ 0
starved_first kind seed g n s t q asked given =
    eqb-true n 0 (seed_begins seed g n (subst (λ (p : Request). is_begin p ≡ true) asked (starved_begins kind s q given.want (sym given.reply))))

-- what is drawn next is the next request of the seed, for the world of the device at the start
pub drawn : (c : Core) (v : View) (seed : List ℕ) (n : ℕ) (draws : Generator) (q : Request) → IsCoreAt c v → draws ≡ load_after seed (told_world c).geometry n → q ≡ next_request draws → q ≡ seed_request seed (world_of v.reads).geometry n
drawn c v seed n draws q at so_far is = is ∙ ap (λ (d : Generator). next_request d) so_far ∙ ap (λ (g : Geometry). seed_request seed g n) (like_at c.volume v (at_volume c v at)).geometry
