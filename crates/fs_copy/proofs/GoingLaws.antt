-- Some of the asks of a copy, made one after the other.
use Rattle.std.proofs.Common.{◌≡◌, ◌≢◌, ◌<◌, ℕ, true, false, cond, List, [], ◌∷◌, ◌++◌, refl, sym, ◌∙◌, ap, subst, inl, inr, append_assoc, append-nil, length, arith, ◌⊎◌, Result, Ok, Err, Option, Some, None}
use Rattle.fs_copy.proofs.Common.{IfErr, OnOk, slice_get, IsValid, World, free_count, done, after_asks, tree_at, IsTidy, step_in, Path, need_of, OthersStay, refusal, change, judged, nothing, a_file, a_dir, Tree, is_there, with_at, ShellAsk, FsRefusal, AreApart, StaysApart, DiskView, IsDiskSound, Counts, IsLedTo, IsValidNow, LeavesWorldsOnly, Stays, FilesView, Answers, IsClientReady, IsEitherTree, LeavesTidyWorld, OnAnswer, step_on, tree_on, tree_after, unless_refused, Changes, Looks, Runs, both_leave, leaves_more, on_answer, if_fault, both_stay, both_count, led_both, tree_under, AreSet, IsSource, IsPartly, IsRefusedAmong, MakesSteps}
use Rattle.image_device.specs.Counts.{Rose}
use Rattle.tsd_model.specs.Attained.{record_level}
use Rattle.tsd_model.specs.Records.{kept_of}
use Rattle.fs_trees.specs.declared.ask.ShellAsk.TheVariants as ask
use Rattle.fs_trees.specs.declared.refusal.FsRefusal.TheVariants as no
use Rattle.fs_laws.proofs.ApartLaws.{apart_stays}
use Rattle.fs_laws.proofs.OutsideLaws.{outside_twice}

-- ---- runs

pub runs_more : {X : Type 0} (told : Type 0) (old new : DiskView) (P Q : World → Type 0) (result : Result X FsRefusal) → (told → (w : World) → P w → Q w) → Runs told old new P result → Runs told old new Q result
runs_more told old new P Q result on h = record {
  valid = h.valid;
  led = h.led;
  crash = λ t. leaves_more old new P Q (on t) (h.crash t);
  stays = h.stays;
  counts = h.counts;
  unspent = h.unspent;
  faultless = h.faultless;
  cause = h.cause;
  spent = h.spent;
}

pub then_runs : {X Y : Type 0} (told : Type 0) (old mid new : DiskView) (P : World → Type 0) (x : X) (result : Result Y FsRefusal) → Runs told old mid P (Ok x) → Runs told mid new P result → Runs told old new P result
then_runs told old mid new P x result first second = record {
  valid = second.valid;
  led = λ t. on_answer (IsLedTo mid new) (IsLedTo old new) result (led_both old mid new first.counts.kind (first.led t).0) (second.led t);
  crash = λ t. both_leave old mid new P (first.crash t) (second.crash t);
  stays = on_answer (Stays mid new) (Stays old new) result (both_stay old mid new first.stays.0) second.stays;
  counts = both_count old mid new first.counts second.counts;
  unspent = second.unspent;
  faultless = on_answer (new.faults ≡ mid.faults) (new.faults ≡ old.faults) result (λ e. e ∙ first.faultless.0) second.faultless;
  cause = if_fault (Rose mid.faults new.faults) (Rose old.faults new.faults) result (subst (λ n. Rose n new.faults) first.faultless.0) second.cause;
  spent = second.spent;
}

-- the client stays ready
pub ready_still : (f : FilesView) (old new : DiskView) → Stays old new → Counts old new → new.spent ≡ false → IsClientReady f old → IsClientReady f new
ready_still f old new stays counts unspent ready = record {
  unspent = unspent;
  number = ready.number;
  begun = stays.sessions f.session ∙ ready.begun;
  primary = subst (λ g. f.root < g.primaries) (sym counts.geometry) ready.primary;
  attains = ap (λ rs. record_level (slice_get rs f.root) (kept_of new.version f.cap)) stays.records ∙ (ap (λ n. record_level (slice_get old.records f.root) (kept_of n f.cap)) counts.version ∙ ready.attains);
}

-- of any answer that isn't Device, from two facts
on_both : {X : Type 0} (P Q R : Type 0) (result : Result X FsRefusal) → (P → Q → R) → OnAnswer result P → OnAnswer result Q → OnAnswer result R
on_both P Q R (Ok x) on p q = (on p.0 q.0, tt)
on_both P Q R (Err e) on p q = (tt, λ ne. on (p.1 ne) (q.1 ne))

-- ---- trees

pub after-append : (t : Tree) (qs rs : List ShellAsk) → after_asks t (qs ++ rs) ≡ after_asks (after_asks t qs) rs
after-append t [] rs = refl
after-append t (q ∷ qs) rs = after-append (change t 0 q).tree qs rs

pub there_with : (p : Path) (x t : Tree) → is_there x ≡ true → is_there t ≡ true → is_there (with_at p x t) ≡ true
there_with [] x t there h = there
there_with (n ∷ ns) x nothing there h = absurd (cc)
there_with (n ∷ ns) x (a_file y) there h = refl
there_with (n ∷ ns) x (a_dir d es) there h = refl

-- an ask of a copy but the first
abbrev pub Makes : ShellAsk → Type 0
Makes (ask.Put path x) = Unit {0}
Makes (ask.Append path x) = Unit {0}
Makes (ask.MakeDir path) = Unit {0}
Makes a = ⊥

made_there : (t : Tree) (a : ShellAsk) → Makes a → is_there t ≡ true → is_there (change t 0 a).tree ≡ true
made_there t (ask.Put path x) m h = there_with path (a_file x) t refl h
made_there t (ask.Append path x) m h = there_with path _ t refl h
made_there t (ask.MakeDir path) m h = there_with path _ t refl h
made_there t ask.Bad m h = absurd m
made_there t ask.Make m h = absurd m
made_there t (ask.Cat path) m h = absurd m
made_there t (ask.Ls path) m h = absurd m
made_there t (ask.Rm path) m h = absurd m
made_there t (ask.Copy path new) m h = absurd m
made_there t ask.Df m h = absurd m

changed_so : (t : Tree) (free : ℕ) (a : ShellAsk) → Makes a → (change t free a).tree ≡ (change t 0 a).tree
changed_so t free (ask.Put path x) m = refl
changed_so t free (ask.Append path x) m = refl
changed_so t free (ask.MakeDir path) m = refl
changed_so t free ask.Bad m = refl
changed_so t free ask.Make m = refl
changed_so t free (ask.Cat path) m = refl
changed_so t free (ask.Ls path) m = refl
changed_so t free (ask.Rm path) m = refl
changed_so t free (ask.Copy path new) m = refl
changed_so t free ask.Df m = refl

made_so : (t : Tree) (free : ℕ) (a : ShellAsk) (o : Option FsRefusal) → Makes a → (judged t free a o).answer ≡ done → (judged t free a o).tree ≡ (change t 0 a).tree
made_so t free a (Some r) m e = absurd (cc)
made_so t free a None m e = changed_so t free a m

either_so : (t : Tree) (free : ℕ) (a : ShellAsk) (o : Option FsRefusal) → Makes a → (unless_refused (judged t free a o).answer (judged t free a o).tree t ≡ t) ⊎ (unless_refused (judged t free a o).answer (judged t free a o).tree t ≡ (change t 0 a).tree)
either_so t free a (Some r) m = inl refl
either_so t free (ask.Put path x) None m = inr refl
either_so t free (ask.Append path x) None m = inr refl
either_so t free (ask.MakeDir path) None m = inr refl
either_so t free ask.Bad None m = absurd m
either_so t free ask.Make None m = absurd m
either_so t free (ask.Cat path) None m = absurd m
either_so t free (ask.Ls path) None m = absurd m
either_so t free (ask.Rm path) None m = absurd m
either_so t free (ask.Copy path new) None m = absurd m
either_so t free ask.Df None m = absurd m

others_same : (root : ℕ) (w : World) → OthersStay root w w
others_same root w = record { records = refl; bytes = λ b live away. refl; pairs = λ x y live away. refl; apart = λ b live away. away }

-- ---- one call

module _ {X told : Type 0} {g : FilesView} {old new : DiskView} {result : Result X FsRefusal} (valid : told → IsValid old.world) where
  -- where it only looked, and wasn't refused
  pub look_goes : (told → IfErr result (λ e. e ≢ no.Device → ⊥)) → Looks told old new result → MakesSteps told g old new [] result
  look_goes only looks = record {
    done = λ t. ok_tree result (looks.world t);
    refused = λ t. never result (only t);
    there = λ t. on_answer (new.world ≡ old.world) (is_there (tree_under g old) ≡ true → is_there (tree_under g new) ≡ true) result (λ e h. ap (λ w. is_there (tree_at g.kind w g.root)) e ∙ h) (looks.world t);
    tidy = λ t. on_answer (new.world ≡ old.world) (IsTidy g.kind old.world g.root → IsTidy g.kind new.world g.root) result (λ e h. subst (λ w. IsTidy g.kind w g.root) (sym e) h) (looks.world t);
    size = λ t. on_answer (new.world ≡ old.world) (new.world.geometry ≡ old.world.geometry) result (ap (λ w. w.geometry)) (looks.world t);
    others = λ t. on_answer (new.world ≡ old.world) (OthersStay g.root old.world new.world) result (λ e. subst (λ w. OthersStay g.root old.world w) (sym e) (others_same g.root old.world)) (looks.world t);
    runs = runs_more told old new (λ w. w ≡ old.world) (IsPartly g old []) result (λ t w e. record {
      front = [];
      back = [];
      parts = refl;
      tree = ap (λ v. tree_at g.kind v g.root) e;
      left = record { valid = subst IsValid (sym e) (valid t); geometry = ap (λ v. v.geometry) e; others = subst (λ v. OthersStay g.root old.world v) (sym e) (others_same g.root old.world) };
    }) looks.runs;
  }
    where
      ok_tree : (r : Result X FsRefusal) → OnAnswer r (new.world ≡ old.world) → OnOk r (tree_under g new ≡ tree_under g old)
      ok_tree (Ok x) h = ap (λ w. tree_at g.kind w g.root) h.0
      ok_tree (Err e) h = tt

      never : (r : Result X FsRefusal) → IfErr r (λ e. e ≢ no.Device → ⊥) → IfErr r (λ e. e ≢ no.Device → IsRefusedAmong g old new [] e)
      never (Ok x) h = tt
      never (Err e) h = λ ne. absurd (h ne)

-- where it was asked to change the tree
pub change_goes : {X told : Type 0} {g : FilesView} {old new : DiskView} {a : ShellAsk} {result : Result X FsRefusal} → IsSource told g old → (told → old.spent ≡ false → IsDiskSound old) → (told → new.spent ≡ false → IsDiskSound new)
    → (told → Answers g old new a result (λ _ answer. answer ≡ done)) → Changes told g old new a result → Makes a → MakesSteps told g old new (a ∷ []) result
change_goes {X} {told} {g} {old} {new} {a} {result} source sound_old sound_new answers changes makes = record {
  done = λ t. ok_tree result (answers t);
  refused = λ t. is_refused result (answers t);
  there = λ t. still_there result (answers t);
  tidy = λ t. on_answer (LeavesTidyWorld g old new) (IsTidy g.kind old.world g.root → IsTidy g.kind new.world g.root) result (λ l. l.tidy) (changes.world t);
  size = λ t. on_answer (new.spent ≡ false) (new.world.geometry ≡ old.world.geometry) result (λ u. (sound_new t u).geometry ∙ (changes.counts.geometry ∙ sym (sound_old t source.ready.unspent).geometry)) changes.unspent;
  others = λ t. on_answer (LeavesTidyWorld g old new) (OthersStay g.root old.world new.world) result (λ l. l.others) (changes.world t);
  runs = runs_more told old new (IsEitherTree g old a) (IsPartly g old (a ∷ [])) result (λ t w either. partly w either)
      (record { valid = changes.valid; led = changes.led; crash = changes.crash; stays = changes.stays; counts = changes.counts; unspent = changes.unspent; faultless = changes.faultless; cause = changes.cause; spent = changes.spent });
}
  where
    on_tree : (v : DiskView) → tree_on g v ≡ tree_under g v
    on_tree v = ap (λ m. cond m (tree_under g v) nothing) source.mounted

    tree_done : (step_on g old a).answer ≡ done → (step_on g old a).tree ≡ (change (tree_under g old) 0 a).tree
    tree_done e =
        let t = tree_under g old in
        let same : step_on g old a ≡ step_in g.kind old.world g.root t a = ap (λ u. step_in g.kind old.world g.root u a) (on_tree old) in
        ap (λ o. o.tree) same ∙ made_so t (free_count old.world) a _ makes (ap (λ o. o.answer) (sym same) ∙ e)

    ok_tree : (r : Result X FsRefusal) → Answers g old new a r (λ _ answer. answer ≡ done) → OnOk r (tree_under g new ≡ (change (tree_under g old) 0 a).tree)
    ok_tree (Ok x) h = h.ok.1 ∙ tree_done h.ok.0
    ok_tree (Err e) h = tt

    is_refused : (r : Result X FsRefusal) → Answers g old new a r (λ _ answer. answer ≡ done) → IfErr r (λ e. e ≢ no.Device → IsRefusedAmong g old new (a ∷ []) e)
    is_refused (Ok x) h = tt
    is_refused (Err e) h = λ ne. let k = h.err ne in record {
      front = [];
      here = a;
      back = [];
      parts = refl;
      tree = ap (λ w. tree_at g.kind w g.root) k.1;
      answer = ap (λ w. (step_in g.kind w g.root (cond g.mounted (tree_at g.kind w g.root) nothing) a).answer) k.1 ∙ k.0;
    }

    still_there : (r : Result X FsRefusal) → Answers g old new a r (λ _ answer. answer ≡ done) → OnAnswer r (is_there (tree_under g old) ≡ true → is_there (tree_under g new) ≡ true)
    still_there (Ok x) k = (λ h. ap is_there (ok_tree (Ok x) k) ∙ made_there (tree_under g old) a makes h, tt)
    still_there (Err e) k = (tt, λ ne h. ap (λ w. is_there (tree_at g.kind w g.root)) (k.err ne).1 ∙ h)

    partly : (w : World) → IsEitherTree g old a w → IsPartly g old (a ∷ []) w
    partly w either = elim either.0 [
      | inl before ↦ record { front = []; back = a ∷ []; parts = refl; tree = before; left = either.1 }
      | inr after ↦
          let t = tree_under g old in
          let same : tree_after g old a ≡ unless_refused (step_in g.kind old.world g.root t a).answer (step_in g.kind old.world g.root t a).tree t = ap (λ u. unless_refused (step_in g.kind old.world g.root u a).answer (step_in g.kind old.world g.root u a).tree t) (on_tree old) in
          elim (either_so t (free_count old.world) a (refusal g.kind old.world.geometry t (free_count old.world) (length old.world.pairs) (need_of g.kind old.world g.root t a) a) makes) [
            | inl none ↦ record { front = []; back = a ∷ []; parts = refl; tree = after ∙ (same ∙ none); left = either.1 }
            | inr made ↦ record { front = a ∷ []; back = []; parts = refl; tree = after ∙ (same ∙ made); left = either.1 }
          ]
    ]

-- ---- one after the other

-- nothing was asked yet
pub none_goes : {told : Type 0} {g : FilesView} {v : DiskView} → v.spent ≡ false → (told → IsDiskSound v) → (told → IsValidNow v) → MakesSteps {X = Unit {0}} told g v v [] (Ok tt)
none_goes {g = g} {v = v} unspent sound valid = record {
  done = λ t. refl;
  refused = λ t. tt;
  there = λ t. (λ h. h, tt);
  tidy = λ t. (λ h. h, tt);
  size = λ t. (refl, tt);
  others = λ t. (others_same g.root v.world, tt);
  runs = record {
    valid = λ t. (valid t, tt);
    led = λ t. (([], refl), tt);
    crash = λ t. record {
      later = omega arith;
      sent = refl;
      each = λ x f h. let here = (sound t).only_now x f h in (v.world, here.0, record { front = []; back = []; parts = refl; tree = refl; left = record { valid = (valid t).valid; geometry = refl; others = others_same g.root v.world } }, here.1);
      before = λ s x f le h. inl h;
      keeps = λ s x f le h. h;
    };
    stays = (record { records = refl; sessions = λ s. refl }, tt);
    counts = record { geometry = refl; version = refl; kind = refl; clock = omega arith; faults = omega arith; put_faults = refl; lenders = refl };
    unspent = (unspent, tt);
    faultless = (refl, tt);
    cause = tt;
    spent = tt;
  };
}

further : {g : FilesView} {old mid : DiskView} (qs : List ShellAsk) {rs : List ShellAsk} → mid.world.geometry ≡ old.world.geometry → OthersStay g.root old.world mid.world → tree_under g mid ≡ after_asks (tree_under g old) qs → (w : World) → IsPartly g mid rs w → IsPartly g old (qs ++ rs) w
further {g} {old} {mid} qs size others tree w h = record {
  front = qs ++ h.front;
  back = h.back;
  parts = ap (λ s. qs ++ s) h.parts ∙ sym (append_assoc qs h.front h.back);
  tree = h.tree ∙ (ap (λ t. after_asks t h.front) tree ∙ sym (after-append (tree_under g old) qs h.front));
  left = record { valid = h.left.valid; geometry = h.left.geometry ∙ size; others = outside_twice g.root old.world mid.world w others h.left.others };
}

earlier : {g : FilesView} {old : DiskView} {qs : List ShellAsk} (rs : List ShellAsk) (w : World) → IsPartly g old qs w → IsPartly g old (qs ++ rs) w
earlier rs w h = record { front = h.front; back = h.back ++ rs; parts = ap (λ s. s ++ rs) h.parts ∙ append_assoc h.front h.back rs; tree = h.tree; left = h.left }

pub then_goes : {X Y told : Type 0} {g : FilesView} {old mid new : DiskView} {qs rs : List ShellAsk} {x : X} {result : Result Y FsRefusal} → MakesSteps told g old mid qs (Ok x) → MakesSteps told g mid new rs result → MakesSteps told g old new (qs ++ rs) result
then_goes {Y = Y} {told = told} {g = g} {old = old} {mid = mid} {new = new} {qs = qs} {rs = rs} {x = x} {result = result} first second = record {
  done = λ t. ok_tree result (first.done t) (second.done t);
  refused = λ t. is_refused result (first.done t) (second.refused t);
  there = λ t. on_answer (is_there (tree_under g mid) ≡ true → is_there (tree_under g new) ≡ true) (is_there (tree_under g old) ≡ true → is_there (tree_under g new) ≡ true) result (λ k h. k ((first.there t).0 h)) (second.there t);
  tidy = λ t. on_answer (IsTidy g.kind mid.world g.root → IsTidy g.kind new.world g.root) (IsTidy g.kind old.world g.root → IsTidy g.kind new.world g.root) result (λ k h. k ((first.tidy t).0 h)) (second.tidy t);
  size = λ t. on_answer (new.world.geometry ≡ mid.world.geometry) (new.world.geometry ≡ old.world.geometry) result (λ e. e ∙ (first.size t).0) (second.size t);
  others = λ t. on_answer (OthersStay g.root mid.world new.world) (OthersStay g.root old.world new.world) result (outside_twice g.root old.world mid.world new.world (first.others t).0) (second.others t);
  runs = then_runs told old mid new (IsPartly g old (qs ++ rs)) x result
      (runs_more told old mid (IsPartly g old qs) (IsPartly g old (qs ++ rs)) (Ok x) (λ t. earlier rs) first.runs)
      (runs_more told mid new (IsPartly g mid rs) (IsPartly g old (qs ++ rs)) result (λ t. further qs (first.size t).0 (first.others t).0 (first.done t)) second.runs);
}
  where
    ok_tree : (r : Result Y FsRefusal) → tree_under g mid ≡ after_asks (tree_under g old) qs → OnOk r (tree_under g new ≡ after_asks (tree_under g mid) rs) → OnOk r (tree_under g new ≡ after_asks (tree_under g old) (qs ++ rs))
    ok_tree (Ok y) e h = h ∙ (ap (λ t. after_asks t rs) e ∙ sym (after-append (tree_under g old) qs rs))
    ok_tree (Err r) e h = tt

    is_refused : (r : Result Y FsRefusal) → tree_under g mid ≡ after_asks (tree_under g old) qs → IfErr r (λ e. e ≢ no.Device → IsRefusedAmong g mid new rs e) → IfErr r (λ e. e ≢ no.Device → IsRefusedAmong g old new (qs ++ rs) e)
    is_refused (Ok y) e h = tt
    is_refused (Err r) e h = λ ne. let k = h ne in record {
      front = qs ++ k.front;
      here = k.here;
      back = k.back;
      parts = ap (λ s. qs ++ s) k.parts ∙ sym (append_assoc qs k.front (k.here ∷ k.back));
      tree = k.tree ∙ (ap (λ t. after_asks t k.front) e ∙ sym (after-append (tree_under g old) qs k.front));
      answer = k.answer;
    }

pub ok_as : {X Y told : Type 0} {g : FilesView} {old new : DiskView} {qs : List ShellAsk} {x : X} {y : Y} → MakesSteps told g old new qs (Ok x) → MakesSteps told g old new qs (Ok y)
ok_as h = record { done = h.done; refused = λ t. tt; there = h.there; tidy = h.tidy; size = h.size; others = h.others; runs = record { valid = h.runs.valid; led = h.runs.led; crash = h.runs.crash; stays = h.runs.stays; counts = h.runs.counts; unspent = h.runs.unspent; faultless = h.runs.faultless; cause = tt; spent = tt } }

-- what was refused was refused of more
pub err_as : {X Y told : Type 0} {g : FilesView} {old new : DiskView} {qs : List ShellAsk} {e : FsRefusal} (rs : List ShellAsk) → MakesSteps {X = X} told g old new qs (Err e) → MakesSteps {X = Y} told g old new (qs ++ rs) (Err e)
err_as {g = g} {old = old} {new = new} {qs = qs} rs h = record {
  done = λ t. tt;
  refused = λ t ne. let k = h.refused t ne in record {
    front = k.front;
    here = k.here;
    back = k.back ++ rs;
    parts = ap (λ s. s ++ rs) k.parts ∙ append_assoc k.front (k.here ∷ k.back) rs;
    tree = k.tree;
    answer = k.answer;
  };
  there = h.there;
  tidy = h.tidy;
  size = h.size;
  others = h.others;
  runs = record {
    valid = h.runs.valid;
    led = h.runs.led;
    crash = λ t. leaves_more old new (IsPartly g old qs) (IsPartly g old (qs ++ rs)) (earlier rs) (h.runs.crash t);
    stays = h.runs.stays;
    counts = h.runs.counts;
    unspent = h.runs.unspent;
    faultless = h.runs.faultless;
    cause = h.runs.cause;
    spent = h.runs.spent;
  };
}

-- ---- both file systems afterwards

pub source_of : {told : Type 0} {f g : FilesView} {v : DiskView} → AreSet told f g v → IsSource told f v
source_of set = record { ready = set.from_ready; mounted = set.from_mounted; valid = set.valid; there = set.from_there }

pub target_of : {told : Type 0} {f g : FilesView} {v : DiskView} → AreSet told f g v → IsSource told g v
target_of set = record { ready = set.into_ready; mounted = set.into_mounted; valid = set.valid; there = set.into_there }

module _ {X told : Type 0} {f g : FilesView} {old new : DiskView} {qs : List ShellAsk} {result : Result X FsRefusal} (sound : told → IsDiskSound old) (source : IsSource told f old) (apart : told → AreApart old.world f.root g.root) (goes : MakesSteps told g old new qs result) where
  primary : told → f.root < old.world.geometry.primaries
  primary t = subst (λ h. f.root < h.primaries) (sym (sound t).geometry) source.ready.primary

  -- what hangs from the source's root stays
  stays_so : told → IsValidNow new → new.world.geometry ≡ old.world.geometry → OthersStay g.root old.world new.world → StaysApart f.kind f.root g.root old.world new.world
  stays_so t valid size others = apart_stays f.kind old.world new.world f.root g.root (source.valid t).valid valid.valid size (primary t) (source.there t) (apart t) others

  pub source_stays : told → OnAnswer result (StaysApart f.kind f.root g.root old.world new.world)
  source_stays t = on_both (IsValidNow new) ((new.world.geometry ≡ old.world.geometry) × OthersStay g.root old.world new.world) (StaysApart f.kind f.root g.root old.world new.world) result
      (λ valid both. stays_so t valid both.0 both.1) (goes.runs.valid t) (on_both (new.world.geometry ≡ old.world.geometry) (OthersStay g.root old.world new.world) _ result (λ size others. (size, others)) (goes.size t) (goes.others t))

  -- a crash on the way leaves the source's tree
  pub source_left : told → (w : World) → IsPartly g old qs w → tree_at f.kind w f.root ≡ tree_under f old
  source_left t w h = (apart_stays f.kind old.world w f.root g.root (source.valid t).valid h.left.valid h.left.geometry (primary t) (source.there t) (apart t) h.left.others).same.tree

module _ {X told : Type 0} {f g : FilesView} {old new : DiskView} {qs : List ShellAsk} {x : X} (sound : told → IsDiskSound old) (set : AreSet told f g old) (goes : MakesSteps told g old new qs (Ok x)) where
  apart_now : told → StaysApart f.kind f.root g.root old.world new.world
  apart_now t = (source_stays sound (source_of set) set.apart goes t).0

  -- as both are seen then
  pub same_source : {h : FilesView} → h ≡ f → told → tree_under h new ≡ tree_under f old
  same_source from_same t = ap (λ (w : FilesView). tree_under w new) from_same ∙ (apart_now t).same.tree

  pub now_set : {h k : FilesView} → h ≡ f → k ≡ g → AreSet told h k new
  now_set {h} {k} from_same into_same = subst (λ (w : FilesView). AreSet told w k new) (sym from_same) (subst (λ (w : FilesView). AreSet told f w new) (sym into_same) (record {
    from_ready = ready_still f old new goes.runs.stays.0 goes.runs.counts goes.runs.unspent.0 set.from_ready;
    into_ready = ready_still g old new goes.runs.stays.0 goes.runs.counts goes.runs.unspent.0 set.into_ready;
    from_mounted = set.from_mounted;
    into_mounted = set.into_mounted;
    valid = λ t. (goes.runs.valid t).0;
    from_there = λ t. ap is_there (apart_now t).same.tree ∙ set.from_there t;
    into_there = λ t. (goes.there t).0 (set.into_there t);
    apart = λ t. (apart_now t).apart;
  }))

-- ---- the same, said of other asks

pub goes_as : {X told : Type 0} {g : FilesView} {old new : DiskView} {qs rs : List ShellAsk} {result : Result X FsRefusal} → (told → qs ≡ rs) → MakesSteps told g old new qs result → MakesSteps told g old new rs result
goes_as {g = g} {old = old} {new = new} {result = result} e h = record {
  done = λ t. subst (λ s. OnOk result (tree_under g new ≡ after_asks (tree_under g old) s)) (e t) (h.done t);
  refused = λ t. subst (λ s. IfErr result (λ r. r ≢ no.Device → IsRefusedAmong g old new s r)) (e t) (h.refused t);
  there = h.there;
  tidy = h.tidy;
  size = h.size;
  others = h.others;
  runs = record {
    valid = h.runs.valid;
    led = h.runs.led;
    crash = λ t. subst (λ s. LeavesWorldsOnly old new (IsPartly g old s)) (e t) (h.runs.crash t);
    stays = h.runs.stays;
    counts = h.runs.counts;
    unspent = h.runs.unspent;
    faultless = h.runs.faultless;
    cause = h.runs.cause;
    spent = h.runs.spent;
  };
}

-- an answer that is none where the disk tells its world
pub lost_goes : {X Y told : Type 0} {g : FilesView} {old new : DiskView} {qs rs : List ShellAsk} {x : X} {e : FsRefusal} → (told → ⊥) → e ≢ no.Device → MakesSteps told g old new qs (Ok x) → MakesSteps {X = Y} told g old new rs (Err e)
lost_goes never ne h = record {
  done = λ t. absurd (never t);
  refused = λ t. absurd (never t);
  there = λ t. absurd (never t);
  tidy = λ t. absurd (never t);
  size = λ t. absurd (never t);
  others = λ t. absurd (never t);
  runs = record {
    valid = λ t. absurd (never t);
    led = λ t. absurd (never t);
    crash = λ t. absurd (never t);
    stays = (tt, λ _. h.runs.stays.0);
    counts = h.runs.counts;
    unspent = (tt, λ _. h.runs.unspent.0);
    faultless = (tt, λ _. h.runs.faultless.0);
    cause = λ d. absurd (ne d);
    spent = λ d. absurd (ne d);
  };
}

-- a refusal of nothing more
pub err_same : {X Y told : Type 0} {g : FilesView} {old new : DiskView} {qs : List ShellAsk} {e : FsRefusal} → MakesSteps {X = X} told g old new qs (Err e) → MakesSteps {X = Y} told g old new qs (Err e)
err_same {qs = qs} h = goes_as (λ t. append-nil qs) (err_as [] h)

-- ---- the source only looked

-- Afterwards both file systems may go on, and the source's tree is what it was.
pub record AfterLook (told : Type 0) (f h g : FilesView) (old mid : DiskView) : Type 0 where
  pub set : AreSet told h g mid
  pub tree : told → tree_under h mid ≡ tree_under f old
  pub goes : MakesSteps {X = Unit {0}} told g old mid [] (Ok tt)

module _ {X told : Type 0} {f g : FilesView} {old mid : DiskView} (set : AreSet told f g old) where
  pub after_look : {h : FilesView} {x : X} → (told → old.spent ≡ false → IsDiskSound old) → h ≡ f → Looks told old mid (Ok x) → AfterLook told f h g old mid
  after_look {h} {x} sound same looks =
      let here : told → IsDiskSound old = λ t. sound t set.from_ready.unspent in
      let goes : MakesSteps told g old mid [] (Ok x) = look_goes (λ t. (set.valid t).valid) (λ t. tt) looks in
      record {
        set = now_set here set goes same refl;
        tree = same_source here set goes same;
        goes = ok_as goes;
      }

  pub look_lost : {e : FsRefusal} → (told → e ≢ no.Device → ⊥) → Looks {X = X} told old mid (Err e) → MakesSteps {X = X} told g old mid [] (Err e)
  look_lost {e} only looks = look_goes (λ t. (set.valid t).valid) only looks

-- what is made behind a look
pub look_then : {X told : Type 0} {f h g : FilesView} {old mid new : DiskView} {qs rs : List ShellAsk} {r : Result X FsRefusal} → AfterLook told f h g old mid → (told → qs ≡ rs) → MakesSteps told g mid new qs r → MakesSteps told g old new rs r
look_then look same goes = goes_as same (then_goes look.goes goes)

-- the target is asked to change behind it
pub look_change : {X told : Type 0} {f h g : FilesView} {old mid new : DiskView} {a b : ShellAsk} {r : Result X FsRefusal} → AfterLook told f h g old mid → (told → mid.spent ≡ false → IsDiskSound mid) → (told → new.spent ≡ false → IsDiskSound new)
    → (told → Answers g mid new a r (λ _ answer. answer ≡ done)) → Changes told g mid new a r → (told → a ≡ b) → Makes a → MakesSteps told g old new (b ∷ []) r
look_change look sound_mid sound_new answers changes same makes = look_then look (λ t. ap (λ q. q ∷ []) (same t)) (change_goes (target_of look.set) sound_mid sound_new answers changes makes)
