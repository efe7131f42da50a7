-- A run over an image, from its start: opened, and then served from the core.
use Rattle.std.proofs.Common.{Err, arith, ◌≡◌, inl, inr, ℕ, ◌≤◌, List, [], ◌++◌, refl, sym, ◌∙◌, ap, subst}
use Rattle.recovery.specs.Opening.{IsUntouched}
use Rattle.image_world.specs.Behind.{LeavesBehind}
use Rattle.image_shell.specs.Served.{OpensNoMore}
use Rattle.serving.specs.Faults.{TellsFaults}
use Rattle.image_shell.proofs.Common.{ByStatus, Cap, Core, CountsFaultOf, EndsFrom, FileAsk, FilesView, Fits, Image, IsAdmitted, IsAsAtStart, IsAsItWas, IsAtStart, IsCoreAt, IsFirm, IsGood, IsLeftInRun, IsLeftOf, IsNotServed, IsRootDenied, IsShellJudged, IsSound, IsUnopened, IsValid, LeavesOnly, Moments, NoAskServed, NoAskServedFrom, RanFrom, Sessions, ShellEnds, ShellKind, ShellRan, Spelling, StandAlike, Stands, State, Status, Taking, View, World, at_rest, behind, firm_image, fitted, joined, level_at, no_sessions, no_sessions_fit, part_stays, resting, shell_service, size_of_image, spared_start, started, state_on, told_world, unmounted, weakened, world_of, world_valid}
use Rattle.tsd_words.specs.declared.status.Status.TheVariants as status
use Rattle.serving.proofs.Still.{still_before}
use Rattle.serving.specs.Runs.{texts}
use Rattle.image_shell.proofs.FromLaws.{first_moment, seen_before}

-- ---- an image that was opened

pub start_here : (start : World) (c : Core) (old mid : View) → start ≡ world_of old.reads → IsSound old → IsGood old.reads → IsCoreAt c mid → state_on c mid.reads ≡ at_rest (world_of old.reads) → c.grants.sessions ≡ no_sessions → IsAtStart start c mid
start_here start c old mid is sound good at state none = record {
  core = at;
  world = ap (λ (s : State). s.world) state ∙ sym is;
  valid = subst IsValid (sym is) (world_valid old.reads (world_of old.reads) sound.own.whole (record { good = good; world = refl }));
  fits = subst (λ (v : Sessions). Fits start v) (sym (ap (fitted (told_world c)) none)) (no_sessions_fit start);
}

pub judged_start : (image : Image) (root : ℕ) (cap : Cap) (start : World) (r : Status) → start ≡ world_of image → IsGood image → IsAdmitted root cap start r → IsShellJudged root cap image r
judged_start image root cap start (status.RootDenied attained) is good may = (good, subst (λ (w : World). IsRootDenied w root cap attained) is may)
judged_start image root cap start (status.NotImage why) is good may = absurd may
judged_start image root cap start status.DeviceFault is good may = tt
judged_start image root cap start status.NoMemory is good may = tt
judged_start image root cap start r is good may = (good, ap (λ (w : World). level_at w root cap) (sym is) ∙ may)

-- ---- one that wasn't

pub not_served_by : (r : Status) → IsUnopened r → IsNotServed r
not_served_by (status.NotImage why) h = tt
not_served_by status.DeviceFault h = tt
not_served_by status.NoMemory h = tt
not_served_by r h = absurd h

pub ran_unopened : (r : Status) (kind : ShellKind) (p : Spelling FileAsk) (root : ℕ) (cap : Cap) (limit : ℕ) (source : Taking) (told same : Type 0) (old new : View)
    → IsUnopened r → source.came [] → source.untouched → (told → new.sent ≡ old.sent) → (told → IsFirm old → LeavesOnly old new (λ x s. StandAlike old.reads x × (s ≡ old.sent))) → ShellRan r kind p root cap limit source (record { tells = told; untouched = same; old = old; new = new })
ran_unopened r kind p root cap limit source told same old new why came_in untouched sent any = record {
  bytes = [];
  came_in = came_in;
  asked = [];
  these = inl (record {
    why = not_served_by r why;
    untouched = untouched;
    none = refl;
    sent = sent;
    alike = λ t firm. weakened old new (λ x s. StandAlike old.reads x × (s ≡ old.sent)) (λ x s. IsAsItWas r (unmounted kind root cap) old.reads x × (s ≡ old.sent)) (any t firm) (λ x s left. (inl left.0, left.1));
  });
}

pub unopened_faults : {T : Type 0} (why : Status) (n : ℕ) (old new : View) → IsUnopened why → new.put_faults ≡ old.put_faults → CountsFaultOf {T = T} status.DeviceFault (Err why) old.faults new.faults → TellsFaults why n n old new
unopened_faults why n old new h put counts = record {
  source_fault = λ e. absurd (subst IsUnopened e h);
  no_source_fault = λ other. refl;
  port = record { device_fault = λ e. counts.0 (ap Err e); put_fault = λ e. absurd (subst IsUnopened e h); no_device_fault = λ other. counts.1 (λ e. other (cc)); no_put_fault = λ other. put };
}

-- nothing was called
pub idle_moments : (v : View) → IsSound v → IsFirm v → LeavesOnly v v (λ x s. StandAlike v.reads x × (s ≡ v.sent))
idle_moments v sound firm = started v (λ x s. StandAlike v.reads x × (s ≡ v.sent)) sound
    (λ x s left. (subst (λ (y : Image). StandAlike v.reads y) (sym (firm_image v firm x s left)) (λ w. (λ is. is, λ is. is)), left.1))

pub idle_untouched : (v : View) → IsUntouched v v
idle_untouched v = record { writes = refl; reads = refl }

pub idle_opened : (v : View) → OpensNoMore v v
idle_opened v = record { most = omega arith; quiet = λ quiet. omega arith }

pub idle_behind : (v : View) → IsSound v → IsFirm v → LeavesBehind v v
idle_behind v sound firm = part_stays (behind (size_of_image v.reads)) v sound firm

pub ruleset idle = (idle_untouched, idle_opened, idle_behind, spared_start)

-- nothing was begun: no memory was found
pub ran_unstarted : (kind : ShellKind) (p : Spelling FileAsk) (root : ℕ) (cap : Cap) (limit : ℕ) (source : Taking) (told same : Type 0) (v : View) → (told → IsSound v) → source.came [] → source.untouched
    → ShellRan status.NoMemory kind p root cap limit source (record { tells = told; untouched = same; old = v; new = v })
ran_unstarted kind p root cap limit source told same v sound came_in untouched =
    ran_unopened status.NoMemory kind p root cap limit source told same v v tt came_in untouched (λ t. refl) (λ t firm. idle_moments v (sound t) firm)

-- ---- the whole

pub alike_of : (old x : Image) → IsGood old → Stands x (world_of old) → StandAlike old x
alike_of old x good stands w = (λ s. record { good = stands.good; world = s.world ∙ stands.world }, λ s. record { good = good; world = s.world ∙ sym stands.world })

stands_by : (old x : Image) → IsGood old → StandAlike old x → Stands x (world_of old)
stands_by old x good alike = (alike (world_of old)).0 (record { good = good; world = refl })

module _ (r : Status) (kind : ShellKind) (p : Spelling FileAsk) (root : ℕ) (cap : Cap) (limit : ℕ) (source : Taking) (told later_same same : Type 0) (start : World) (old mid new : View)
    (is : told → start ≡ world_of old.reads) (good : told → IsGood old.reads) (sent : told → mid.sent ≡ old.sent) (any : told → IsFirm old → LeavesOnly old mid (λ x s. StandAlike old.reads x × (s ≡ old.sent))) (clock : old.clock ≤ mid.clock) where
  abbrev files : FilesView
  files = unmounted kind root cap

  abbrev later : Moments
  later = record { tells = told; untouched = later_same; old = mid; new = new }

  abbrev all : Moments
  all = record { tells = told; untouched = same; old = old; new = new }

  as_it_was : told → (x : Image) → IsAsAtStart r files start x → IsAsItWas r files old.reads x
  as_it_was t x (inl stands) = inl (alike_of old.reads x (good t) (subst (λ (w : World). Stands x w) (is t) stands))
  as_it_was t x (inr left) = inr (left.0, good t, subst (λ (w : World). IsLeftOf w (resting files w) x) (is t) left.1)

  none_from : (asked : List FileAsk) → NoAskServedFrom r files source start later asked → NoAskServed r files source all asked
  none_from asked none = record {
    why = none.why;
    untouched = none.untouched;
    none = none.none;
    sent = λ t. none.sent t ∙ sent t;
    alike = λ t firm. joined old mid new (λ x s. IsAsItWas r files old.reads x × (s ≡ old.sent)) (λ x s. IsAsAtStart r files start x × (s ≡ mid.sent))
        (weakened old mid (λ x s. StandAlike old.reads x × (s ≡ old.sent)) (λ x s. IsAsItWas r files old.reads x × (s ≡ old.sent)) (any t firm) (λ x s left. (inl left.0, left.1)))
        (none.alike t) (λ x s left. (as_it_was t x left.0, left.1 ∙ sent t));
  }

  ends_from : told → (asked : List FileAsk) → EndsFrom r files (world_of old.reads) mid new asked → ShellEnds r files old new asked
  ends_from t asked ends =
      let k = shell_service (world_of old.reads) in
      record {
        good = good t;
        first = ends.first;
        is_first = ends.is_first;
        final = ends.final;
        at_rest = ends.at_rest;
        sent = subst (λ (b : List ℕ). ByStatus r k ends.first b asked ends.final new.sent) (sent t) ends.sent;
        any_moment = λ firm. joined old mid new (IsLeftInRun k (new.left old.clock) ends.first old.sent asked) (IsLeftInRun k (new.left old.clock) ends.first old.sent asked)
            (weakened old mid (λ x s. StandAlike old.reads x × (s ≡ old.sent)) (IsLeftInRun k (new.left old.clock) ends.first old.sent asked) (any t firm)
            (λ x s left. first_moment (world_of old.reads) (new.left old.clock) ends.first old.sent asked x s (ends.at_start x (stands_by old.reads x (good t) left.0)) left.1))
            (subst (λ (b : List ℕ). LeavesOnly mid new (IsLeftInRun k (new.left old.clock) ends.first b asked)) (sent t) (ends.any_moment old.clock clock)) (λ x s acked. acked);
        seen = seen_before k (new.left old.clock) ends.first mid.sent old.sent asked new.sent (sent t) (ends.seen old.clock clock);
        all_seen = λ fine. ends.all_seen fine old.clock clock;
        still = λ firm cut more. let s = ends.seen old.clock clock in still_before old mid new (StandAlike old.reads) (texts s.answers ++ s.front) (sent t) s.sent (any t firm) more (ends.still cut (λ e. more (e ∙ sent t)));
        done = ends.done;
      }

  ran_here : RanFrom r files p limit source start later → ShellRan r kind p root cap limit source all
  ran_here ran = record {
    bytes = ran.bytes;
    came_in = ran.came_in;
    asked = ran.asked;
    these = elim ran.these [
      | inl none ↦ inl (none_from ran.asked none)
      | inr asked ↦ inr (asked.0, λ t. ends_from t ran.asked (subst (λ (w : World). EndsFrom r files w mid new ran.asked) (is t) (asked.1 t)))
    ];
  }

  pub ran_opened : (f : FilesView) → f ≡ files → RanFrom r f p limit source start later → ShellRan r kind p root cap limit source all
  ran_opened f is_new ran = ran_here (subst (λ (h : FilesView). RanFrom r h p limit source start later) is_new ran)
