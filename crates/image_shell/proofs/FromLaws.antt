-- A run from a core that was opened, joined from its steps.
use Rattle.std.proofs.Common.{◌≡◌, ◌≢◌, ◌⊎◌, inl, inr, ℕ, ◌≤◌, Bool, true, false, cond, nat_lt, List, [], ◌++◌, refl, sym, ◌∙◌, ap, subst, arith, append-nil, Result, Ok, Err, None, slice_get}
use Rattle.image_shell.proofs.Common.{AreLike, AreSeen, AskedBy, ByStatus, Cap, Core, Ends, EndsFrom, FileAsk, FilesView, FsRefusal, Geometry, Image, IsAdmitted, IsAsAtStart, IsAtStart, IsCoreAt, IsFirstState, IsLeftInRun, IsLeftOf, IsNotServed, IsOpeningAlone, IsPromptShell, IsQuiet, IsSeenRun, IsSound, IsValid, LeavesOnly, Level, Mark, OnAnswer, OthersStay, Ran, RanFrom, Rose, ShellState, Spelling, Stands, Status, Taking, View, World, at_volume, firm_image, is_below_write, is_device, is_there, joined, level_at, like_at, nothing, resting, shell_service, shell_state, shell_work, started, texts, told_world, tree_by, tree_under, weakened, world_of}
use Rattle.tsd_model.specs.Records.{kept_of}
use Rattle.tsd_model.specs.Attained.{record_level}
use Rattle.tsd_model.specs.declared.records.Record.{Record}
use Rattle.tsd_model.specs.declared.requests.Level.TheVariants as level
use Rattle.tsd_words.specs.declared.status.Status.TheVariants as status
use Rattle.serving.specs.Faults.{TellsFaults}
use Rattle.serving.proofs.Still.{still_before}
use Rattle.serving.specs.Prompt.{EndsBySending, IsCutShort}
use Rattle.serving.specs.Service.{Service}

-- an answer that isn't the failure of the disk
pub on_answer : {X P : Type 0} (r : Result X FsRefusal) (b : Bool) → b ≡ is_device r → b ≡ false → OnAnswer r P → P
on_answer (Ok x) b told shut h = h.0
on_answer {X = X} (Err e) b told shut h = h.1 (λ is. let same = told ∙ ap (λ (d : FsRefusal). is_device {X = X} (Err d)) is in absurd (cc))

-- ---- levels

pub is_write : (l : Level) (b : Bool) → b ≡ is_below_write l → b ≡ false → l ≡ level.Write
is_write level.Write b told shut = refl
is_write l b told shut = absurd (cc)

pub not_write : (l : Level) (b : Bool) → b ≡ is_below_write l → b ≡ true → l ≢ level.Write
not_write l b told on is = let told_so = told ∙ ap is_below_write is in cc

module _ (root : ℕ) (cap : Cap) where
  level_by : Geometry → ℕ → List Record → Level
  level_by g n rs = cond (nat_lt root g.primaries) (record_level (slice_get rs root) (kept_of n cap)) level.Bare

  pub level_like : (u w : World) → AreLike u w → level_at u root cap ≡ level_at w root cap
  unfolding level_by
  level_like u w like = ap (λ (g : Geometry). level_by g u.version u.records) like.geometry ∙ (ap (λ (n : ℕ). level_by w.geometry n u.records) like.version ∙ ap (λ (rs : List Record). level_by w.geometry w.version rs) like.records)

  pub level_told : (start : World) (c : Core) (v : View) → IsAtStart start c v → level_at (told_world c) root cap ≡ level_at start root cap
  level_told start c v at = level_like (told_world c) (world_of v.reads) (like_at c.volume v (at_volume c v at.core)) ∙ ap (λ (w : World). level_at w root cap) at.world

-- where asks were served, it was let in
pub allowed_by : (root : ℕ) (cap : Cap) (start : World) (r : Status) (p : Spelling FileAsk) (limit : ℕ) (bytes : List ℕ) (ended : Type 0) (asked : List FileAsk) → AskedBy r p limit bytes ended asked → level_at start root cap ≡ level.Write → IsAdmitted root cap start r
allowed_by root cap start (status.RootDenied attained) p limit bytes ended asked these is = absurd these
allowed_by root cap start (status.NotImage why) p limit bytes ended asked these is = absurd these
allowed_by root cap start status.DeviceFault p limit bytes ended asked these is = tt
allowed_by root cap start status.NoMemory p limit bytes ended asked these is = tt
allowed_by root cap start r p limit bytes ended asked these is = is

pub opened_or_served : (r : Status) (p : Spelling FileAsk) (limit : ℕ) (bytes : List ℕ) (ended : Type 0) (asked : List FileAsk) → IsOpeningAlone r → AskedBy r p limit bytes ended asked → ⊥
opened_or_served (status.NotImage why) p limit bytes ended asked alone these = these
opened_or_served (status.RootDenied attained) p limit bytes ended asked alone these = these
opened_or_served status.NoMemory p limit bytes ended asked alone these = these
opened_or_served r p limit bytes ended asked alone these = alone

-- ---- the first moment

-- with nothing answered, an image of the first state
pub first_moment : (start : World) (seen : Image → List ℕ → Type 0) (s : ShellState) (before : List ℕ) (qs : List FileAsk) (x : Image) (f : List ℕ) → IsLeftOf start s x → f ≡ before → IsLeftInRun (shell_service start) seen s before qs x f
first_moment start seen s before qs x f left e = inl (
  record {
    answered = [];
    rest = qs;
    parts = refl;
    answers = [];
    state = s;
    run = refl;
    sent = e ∙ sym (append-nil before);
    count = refl;
  },
  left,
)

left_first : (f : FilesView) (start : World) (s : ShellState) → IsFirstState f start s → (x : Image) → IsLeftOf start (resting f start) x → IsLeftOf start s x
left_first f start s first x left = record {
  world = left.world;
  stands = left.stands;
  valid = left.valid;
  geometry = left.geometry;
  tree = subst (λ (h : FilesView). tree_under h left.world ≡ tree_under h s.world) (sym first.files) (left.tree ∙ sym first.tree) ∙ sym (ap (tree_by s.files s.world) first.at_rest);
  others = subst (λ (h : FilesView). OthersStay h.root start left.world) (sym first.files) left.others;
  still = λ none.
      let gone : tree_under f start ≡ nothing = sym first.tree ∙ sym (ap (λ (h : FilesView). tree_under h s.world) first.files) ∙ sym (ap (tree_by s.files s.world) first.at_rest) ∙ none in
      left.still gone ∙ sym (first.deletes.none (ap is_there gone));
}

pub stays_put : (root : ℕ) (w : World) → OthersStay root w w
stays_put root w = record { records = refl; bytes = λ b live away. refl; pairs = λ a b live away. refl; apart = λ b live away. away }

-- an image of the world at the start is one that may be left of it
pub left_at_start : (f : FilesView) (start : World) → IsValid start → (x : Image) → Stands x start → IsLeftOf start (resting f start) x
left_at_start f start valid x stands = record { world = start; stands = stands; valid = valid; geometry = refl; tree = refl; others = stays_put f.root start; still = λ none. refl }

-- states that were seen, with other bytes sent before that are the same
abbrev pub seen_before : {Q : Type 0} (k : Service Q) (left : Image → List ℕ → Type 0) (s : k.States) (one other : List ℕ) (qs : List Q) (now : List ℕ) → one ≡ other → IsSeenRun k left s one qs now → IsSeenRun k left s other qs now
seen_before k left s one other qs now e was = record {
  answered = was.answered;
  rest = was.rest;
  parts = was.parts;
  answers = was.answers;
  state = was.state;
  run = was.run;
  seen = subst (λ (b : List ℕ). AreSeen k left b s was.answered was.answers was.state was.run) e was.seen;
  front = was.front;
  sent = subst (λ (b : List ℕ). now ≡ b ++ (texts was.answers ++ was.front)) e was.sent;
  one_more = was.one_more;
  of_next = was.of_next;
}

done_or_fault : (r : Status) → r ≡ status.Done → r ≡ status.DeviceFault → ⊥
done_or_fault r e f = cc

-- ---- no ask was served

pub none_served : (r : Status) (f : FilesView) (p : Spelling FileAsk) (limit : ℕ) (source : Taking) (told same : Type 0) (start : World) (v w : View) (Q : Image → Type 0) → IsNotServed r → source.came [] → source.untouched → (told → w.sent ≡ v.sent)
    → (told → LeavesOnly v w (λ x h. Q x × (h ≡ v.sent))) → (told → (x : Image) → Q x → IsAsAtStart r f start x) → RanFrom r f p limit source start (record { tells = told; untouched = same; old = v; new = w })
none_served r f p limit source told same start v w Q why came_in untouched sent any here = record {
  bytes = [];
  came_in = came_in;
  asked = [];
  these = inl (record {
    why = why;
    untouched = untouched;
    none = refl;
    sent = sent;
    alike = λ t. weakened v w (λ x h. Q x × (h ≡ v.sent)) (λ x h. IsAsAtStart r f start x × (h ≡ v.sent)) (any t) (λ x h left. (here t x left.0, left.1));
  });
}

-- a session begun, and the tree mounted after that
pub mounted_moments : (f : FilesView) (start : World) (v u m : View) → IsValid start → world_of v.reads ≡ start → u.sent ≡ v.sent → LeavesOnly v u (λ x h. Stands x (world_of v.reads) × (h ≡ v.sent)) → LeavesOnly u m (λ x h. IsLeftOf start (resting f start) x × (h ≡ u.sent)) → LeavesOnly v m (λ x h. IsLeftOf start (resting f start) x × (h ≡ v.sent))
mounted_moments f start v u m valid here sent begun mounted =
    let P : Image → List ℕ → Type 0 = λ x h. IsLeftOf start (resting f start) x × (h ≡ v.sent) in
    joined v u m P (λ x h. IsLeftOf start (resting f start) x × (h ≡ u.sent))
    (weakened v u (λ x h. Stands x (world_of v.reads) × (h ≡ v.sent)) P begun (λ x h left. (left_at_start f start valid x (subst (λ (w : World). Stands x w) here left.0), left.1)))
    mounted (λ x h left. (left.0, left.1 ∙ sent))

-- ---- mounting before the loop

module _ (r : Status) (f g : FilesView) (p : Spelling FileAsk) (limit : ℕ) (source : Taking) (told later_same same : Type 0) (start : World) (c : Core) (v m new : View) (due : ℕ)
    (valid : told → IsValid start) (sent : told → m.sent ≡ v.sent) (any : told → LeavesOnly v m (λ x h. IsLeftOf start (resting f start) x × (h ≡ v.sent)))
    (first : told → IsFirstState f start (shell_state g m.reads)) (at : r ≢ status.DeviceFault → told → IsCoreAt c new) (closed : r ≡ status.Done → told → IsQuiet new.reads)
    (still : told → IsCutShort r → EndsBySending m new) where
  abbrev one : ShellState
  one = shell_state g m.reads

  ends_mounted : (t : told) (final : ShellState) (asked : List FileAsk) → final.world ≡ world_of new.reads → final.under_way ≡ None → Ends r (shell_service start) shell_work one final due m new asked → EndsFrom r f start v new asked
  ends_mounted t final asked last rests ends =
      let k = shell_service start in
      let later : (n : ℕ) → n ≤ v.clock → n ≤ m.clock = λ n le. omega (arith, le, (any t).later) in
      record {
        first = one;
        is_first = first t;
        at_start = λ x stands. left_first f start one (first t) x (left_at_start f start (valid t) x stands);
        final = final;
        at_rest = rests;
        sent = subst (λ (b : List ℕ). ByStatus r k one b asked final new.sent) (sent t) ends.sent;
        any_moment = λ n le. joined v m new (IsLeftInRun k (new.left n) one v.sent asked) (IsLeftInRun k (new.left n) one v.sent asked)
            (weakened v m (λ x h. IsLeftOf start (resting f start) x × (h ≡ v.sent)) (IsLeftInRun k (new.left n) one v.sent asked) (any t)
            (λ x h left. first_moment start (new.left n) one v.sent asked x h (left_first f start one (first t) x left.0) left.1))
            (subst (λ (b : List ℕ). LeavesOnly m new (IsLeftInRun k (new.left n) one b asked)) (sent t) (ends.any_moment n (later n le))) (λ x h acked. acked);
        seen = λ n le. seen_before k (new.left n) one m.sent v.sent asked new.sent (sent t) (ends.seen n (later n le));
        all_seen = λ fine n le. ends.all_seen fine n (later n le);
        still = λ cut more. let s = ends.seen m.clock (omega arith) in still_before v m new (IsLeftOf start (resting f start)) (texts s.answers ++ s.front) (sent t) s.sent (any t) more (still t cut);
        done = λ e.
            let here = at (done_or_fault r e) t in
            record { firm = here.0; stands = record { good = here.1.good; world = last }; quiet = closed e t };
      }

  pub ran_mounted : (ran : (final : ShellState) × Ran r (shell_service start) shell_work p one final limit source due (record { tells = told; untouched = later_same; old = m; new = new }) × (final.world ≡ world_of new.reads) × (final.under_way ≡ None)) → RanFrom r f p limit source start (record { tells = told; untouched = same; old = v; new = new })
  ran_mounted ran = record {
    bytes = ran.1.bytes;
    came_in = ran.1.came_in;
    asked = ran.1.asked;
    these = inr (ran.1.these, λ t. ends_mounted t ran.0 ran.1.asked ran.2 ran.3 (ran.1.ends t));
  }

-- ---- where nothing was done

pub moments_of_start : (start : World) (c : Core) (v : View) → IsSound v → IsAtStart start c v → LeavesOnly v v (λ x h. Stands x start × (h ≡ v.sent))
moments_of_start start c v sound at =
    started v (λ x h. Stands x start × (h ≡ v.sent)) sound
    (λ x h left. (subst (λ (y : Image). Stands y start) (sym (firm_image v at.core.0 x h left)) (record { good = at.core.1.good; world = sym at.world }), left.1))

pub not_served : (r : Status) → (r ≡ status.DeviceFault) ⊎ (r ≡ status.NoMemory) → IsNotServed r
not_served r (inl e) = subst IsNotServed (sym e) tt
not_served r (inr e) = subst IsNotServed (sym e) tt

-- ---- how much was done

-- the device didn't fail
pub alone_no_fault : {X : Type 0} (r : Status) → IsOpeningAlone r → (result : Result X Status) → result ≡ Err r → result ≢ Err status.DeviceFault
alone_no_fault r alone result is e = let both : Err r ≡ result = sym is in let same : r ≡ status.DeviceFault = cc in subst IsOpeningAlone same alone

-- from an earlier moment at which as much was sent
pub prompt_earlier : (r : Status) (f : FilesView) (port : Mark → Type 0) (p : Spelling FileAsk) (limit : ℕ) (start : World) (source : Taking) (mid old new : Mark) → mid.sent ≡ old.sent → old.clock ≤ mid.clock → IsPromptShell r f port p limit start source mid new → IsPromptShell r f port p limit start source old new
prompt_earlier r f port p limit start source mid old new same later run = record {
  first = run.first;
  is_first = run.is_first;
  mounted = run.mounted;
  of_port = run.of_port;
  not_before = let then = run.not_before in omega (arith, later, then);
  sent = run.sent ∙ same;
  prompt = run.prompt;
}

-- no count rose before
pub faults_later : (r : Status) (source_before source_now : ℕ) (old mid new : View) → mid.faults ≡ old.faults → mid.put_faults ≡ old.put_faults → TellsFaults r source_before source_now mid new → TellsFaults r source_before source_now old new
faults_later r source_before source_now old mid new device put f = record {
  source_fault = f.source_fault;
  no_source_fault = f.no_source_fault;
  port = record {
    device_fault = λ e. subst (λ (n : ℕ). Rose n new.faults) device (f.port.device_fault e);
    put_fault = λ e. subst (λ (n : ℕ). Rose n new.put_faults) put (f.port.put_fault e);
    no_device_fault = λ other. f.port.no_device_fault other ∙ device;
    no_put_fault = λ other. f.port.no_put_fault other ∙ put;
  };
}
