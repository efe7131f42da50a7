-- An ask for which the disk is read.
use Rattle.std.proofs.Common.{◌≡◌, ◌≢◌, ℕ, true, false, sym, ◌∙◌, ap, subst}
use Rattle.shell_server.proofs.Common.{Result, Ok, Err, IsTrue, IfOk, IfErr, World, PlaceKind, Rose, DeviceView, weakened, world_of, Answer, refused, is_there, step_in, ShellAsk, FsRefusal, DiskView, Counts, IsValidNow, LeavesWorldsOnly, Stays, FilesView, OnAnswer, step_on, tree_on, Answers, Looks, Core, IsCoreAt, IsCoreReady, KeepsBehind, core_view, IsImageOf, IsSound, behind_called, images_left, ShellState, IsKeptSince, IsLeftOf, resting, heard, shell_step, tree_under, AreReady, FitsShell, shell_state, IsLooked}
use Rattle.fs_trees.specs.declared.refusal.FsRefusal.TheVariants as no
use Rattle.shell_server.proofs.KeptLaws.{client_still, left_still}
use Rattle.shell_server.proofs.SendLaws.{on_both}

module _ (start : World) (f : FilesView) (q a : ShellAsk) (hears : heard f.kind q ≡ a) (l m : ℕ × ℕ) (kind placement : PlaceKind) (c0 c1 : Core) (v w : DeviceView) where
  abbrev old : DiskView
  old = core_view l kind c0 v

  abbrev new : DiskView
  new = core_view m placement c1 w

  abbrev state : ShellState
  state = shell_state f v.reads

  answer_same : (shell_step state q).answer ≡ (step_on f old a).answer
  answer_same = ap (λ b. (step_in f.kind (world_of v.reads) f.root (tree_on f old) b).answer) hears

  pub looked_so : {X : Type 0} (told : Type 0) (of_answer : X → Answer → Type 0) (result : Result X FsRefusal) → AreReady f c0 → (told → FitsShell start f c0 v.reads) → (c1.volume.is_spent ≡ false → IsCoreReady c1) → (told → c1.volume.is_spent ≡ false → IsCoreAt c1 w)
      → (told → IfOk result (λ x. of_answer x (step_on f old a).answer)) → (told → IfErr result (λ e. e ≢ no.Device → (step_on f old a).answer ≡ refused e)) → (told → OnAnswer result (new.world ≡ old.world)) → (told → LeavesWorldsOnly old new (λ u. u ≡ old.world)) → (told → OnAnswer result (IsValidNow new))
      → OnAnswer result (Stays old new) → Counts old new → OnAnswer result (new.spent ≡ false) → OnAnswer result (new.faults ≡ old.faults)
      → IfErr result (λ e. e ≡ no.Device → new.spent ≡ true) → IfErr result (λ e. e ≡ no.Device → Rose old.faults new.faults)
      → KeepsBehind told c0 c1 v w → IsLooked told start q f f c0 c1 v w of_answer result
  looked_so {X = X} told of_answer result ready keeps core_ready core_at ok err world crash valid stays counts unspent faultless spent cause aside = record {
    called = record {
      ready = on_both result ready_now stays unspent;
      at = λ t. on_both result (λ (same : new.world ≡ old.world) (is : IsValidNow new × (new.spent ≡ false)). ((core_at t is.1).0, keeps_now t same is.0 is.1)) (world t) (on_both result (λ (good : IsValidNow new) (fine : new.spent ≡ false). (good, fine)) (valid t) unspent);
      sent = λ t. (crash t).sent;
      any_moment = λ t. weakened v w (IsImageOf (λ u. u ≡ old.world) v.sent) (λ x g. IsLeftOf start state x × (g ≡ v.sent)) (images_left l m kind placement c0 c1 v w (λ u. u ≡ old.world) (crash t))
          (λ x g left. (left_still start f (world_of v.reads) (keeps t).kept x left.0 left.1 left.2, left.3));
      behind = aside;
      put_faults = counts.put_faults;
      faultless = faultless;
      spent = spent;
      cause = cause;
    };
    state = λ t. on_both result (λ (same : new.world ≡ old.world) (_ : new.world ≡ old.world). ap (λ (u : World). resting f u) same) (world t) (world t);
    read = λ t. read_by result (ok t);
    refused = λ t. refused_by result (err t);
  }
    where
      ready_now : Stays old new → new.spent ≡ false → AreReady f c1
      ready_now still fine = record { core = core_ready fine; client = client_still f c0 c1 still.records counts.version counts.geometry still.sessions ready.client }

      keeps_now : told → new.world ≡ old.world → IsValidNow new → new.spent ≡ false → FitsShell start f c1 w.reads
      keeps_now t same good fine = record {
        core = (core_at t fine).1;
        kept = subst (λ (u : World). IsKeptSince start (resting f u)) (sym same) (keeps t).kept;
        fits = good.fits;
        there = subst (λ (u : World). f.mounted ≡ true → IsTrue (is_there (tree_under f u))) (sym same) (keeps t).there;
      }

      read_by : (r : Result X FsRefusal) → IfOk r (λ x. of_answer x (step_on f old a).answer) → IfOk r (λ x. of_answer x (shell_step state q).answer)
      read_by (Ok x) is = subst (λ (b : Answer). of_answer x b) (sym answer_same) is
      read_by (Err e) is = tt

      refused_by : (r : Result X FsRefusal) → IfErr r (λ e. e ≢ no.Device → (step_on f old a).answer ≡ refused e) → IfErr r (λ e. e ≢ no.Device → (shell_step state q).answer ≡ refused e)
      refused_by (Ok x) is = tt
      refused_by (Err e) is = λ other. answer_same ∙ is other

  pub looked : {X : Type 0} (told : Type 0) (of_answer : X → Answer → Type 0) (result : Result X FsRefusal) → AreReady f c0 → (told → FitsShell start f c0 v.reads) → (c1.volume.is_spent ≡ false → IsCoreReady c1) → (told → c1.volume.is_spent ≡ false → IsCoreAt c1 w)
      → (told → Answers f old new a result of_answer) → Looks told old new result
      → KeepsBehind told c0 c1 v w → IsLooked told start q f f c0 c1 v w of_answer result
  looked {X = X} told of_answer result ready keeps core_ready core_at answer looks aside =
      let runs = looks.runs in
      looked_so told of_answer result ready keeps core_ready core_at (λ t. ok_by result (answer t)) (λ t. err_by result (answer t)) looks.world runs.crash runs.valid runs.stays runs.counts runs.unspent runs.faultless runs.spent runs.cause aside
    where
      ok_by : (r : Result X FsRefusal) → Answers f old new a r of_answer → IfOk r (λ x. of_answer x (step_on f old a).answer)
      ok_by (Ok x) is = is.ok.0
      ok_by (Err e) is = tt

      err_by : (r : Result X FsRefusal) → Answers f old new a r of_answer → IfErr r (λ e. e ≢ no.Device → (step_on f old a).answer ≡ refused e)
      err_by (Ok x) is = tt
      err_by (Err e) is = λ other. (is.err other).0

-- ---- over a device

-- A file system was called on the disk of a core, which was lent and is given back.
pub looked_on : {D X : Type 0} {told : Type 0} (view : D → DeviceView) (sound : (d : D) → told → IsSound (view d)) (start : World) (f : FilesView) {g : FilesView} (q : ShellAsk) (hears : heard f.kind q ≡ q) (l m : ℕ × ℕ) (kind placement : PlaceKind) (of_answer : X → Answer → Type 0) (result : Result X FsRefusal)
    {c0 lent back c1 : Core} {d0 dev_lent dev_back d1 : D} → lent ≡ c0 → dev_lent ≡ d0 → c1 ≡ back → d1 ≡ dev_back → g ≡ f → AreReady f c0 → (told → ((n : ℕ) → (view d0).loose n ≡ false) × FitsShell start f c0 (view d0).reads)
    → (back.volume.is_spent ≡ false → IsCoreReady back) → (told → back.volume.is_spent ≡ false → IsCoreAt back (view dev_back)) → (told → Answers f (core_view l kind lent (view dev_lent)) (core_view m placement back (view dev_back)) q result of_answer)
    → Looks told (core_view l kind lent (view dev_lent)) (core_view m placement back (view dev_back)) result → IsLooked told start q f g c0 c1 (view d0) (view d1) of_answer result
looked_on {told = told} view sound start f q hears l m kind placement of_answer result {lent = lent} {back = back} {dev_lent = dev_lent} {dev_back = dev_back} core_was dev_was core_is dev_is same ready at core_ready core_at answer looks =
    let firm_at : told → ((n : ℕ) → (view dev_lent).loose n ≡ false) × FitsShell start f lent (view dev_lent).reads = λ t. rw (core_was, dev_was) (at t) in
    rw (core_is, dev_is, ← core_was, ← dev_was, same)
    (looked start f q q hears l m kind placement lent back (view dev_lent) (view dev_back) told of_answer result (rw core_was ready) (λ t. (firm_at t).1) core_ready core_at answer looks
    (behind_called told l m kind placement lent back (view dev_lent) (view dev_back) _ (λ t. sound dev_lent t) (λ t. sound dev_back t) (λ t. (firm_at t).0) looks.runs.counts looks.runs.crash))
