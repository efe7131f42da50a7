-- In the middle of a sweep: the world is as at the start.
use Rattle.std.proofs.Common.{[], ◌≡◌, ℕ, ◌+◌, ◌*◌, ◌≤◌, Bool, true, false, List, length, refl, sym, ◌∙◌, ◌<◌, ap, subst, arith, Result, Ok, Err}
use Rattle.volume.proofs.Common.{OnOk, IsErrAnd, reach, World, has_number, Uses, View, IsSound, Failed, Header, Patch, committed, commit_writes, Pointers, OutStep, Counts, LiveMap, Store, Kept, is_gone, graph_of, MaySweep, AreSweptBy, graph_in, owed, Tables, IsOperation, MayPut, IsStepPut, live_after, Volume, IsVolumeAt, AreParts, told_by, tables_in, hides_stepped, same_graph, no_op, kept_then, op_answers, op_fails, any_bytes, IsOp, done, graph_stepped, batch_cost, sweep_left, taken_cost}
use Rattle.cycle_sweep.specs.Marked.{is_marked}
use Rattle.volume.proofs.SweepCosts.{IsPaidSoFar, paid_more, step_cheap}
use Rattle.volume.proofs.SweepOps.{sweep_allowed, sweep_lowers, sweep_op, graph_itself}

pub record IsSweepRun (told : Type 0) (first : Volume) (start : View) (vol : Volume) (v : View) : Type 0 where
  pub operation : IsOperation told [] (λ w. w) first vol start v done
  pub tells : told_by vol ≡ told_by first
  pub version : vol.tables.version ≡ first.tables.version
  pub sweeping : vol.tables.is_sweeping ≡ true
  pub unready : vol.is_ready ≡ false
  pub cost : IsPaidSoFar first start vol v

-- exactly the reached blocks are marked
abbrev pub AreMarksOf : List Bool → Pointers → LiveMap → Type 0
AreMarksOf marks pointers live = (b : ℕ) → is_marked marks b ≡ has_number (reach (graph_of pointers live)) b

pub run_none : (told : Type 0) (first : Volume) (start : View) → (told → IsSound start) → first.tables.is_sweeping ≡ true → first.is_ready ≡ false → first.is_spent ≡ false → (told → IsVolumeAt first start) → IsSweepRun told first start first start
run_none told first start sound sweeping unready unspent at = record {
  operation = no_op told first start tt sound at unspent;
  tells = refl;
  version = refl;
  sweeping = sweeping;
  unready = unready;
  cost = omega arith;
}

module _ (told : Type 0) (first : Volume) (start : View) (vol : Volume) (v : View) (so_far : IsSweepRun told first start vol v) (now : Volume) (new : View) where
  -- one call more, which may have failed
  pub run_op : {T : Type 0} (r : Result T Failed) → IsOperation told [] (λ w. w) vol now v new r → IsOperation told [] (λ w. w) first now start new r
  run_op r op = kept_then told (λ w. w) first vol now start v new tt r so_far.operation op

  pub run_more : {T : Type 0} (x : T) → IsOperation {T = T} told [] (λ w. w) vol now v new (Ok x) → told_by now ≡ told_by vol → now.tables.version ≡ vol.tables.version → now.tables.is_sweeping ≡ true → now.is_ready ≡ false → IsPaidSoFar first start now new → IsSweepRun told first start now new
  run_more x op tells version sweeping unready cost = record {
    operation = op_answers told (λ w. w) first now start new x tt (run_op (Ok x) op);
    tells = tells ∙ so_far.tells;
    version = version ∙ so_far.version;
    sweeping = sweeping;
    unready = unready;
    cost = cost;
  }

  -- a step that was committed, and one that failed
  pub run_made : (r : Result (Unit {0}) Failed) (x : Unit {0}) → r ≡ Ok x → IsOperation told [] (λ w. w) vol now v new r → OnOk r (told_by now ≡ told_by vol) → now.tables.version ≡ vol.tables.version
      → now.tables.is_sweeping ≡ true → now.is_ready ≡ false → (batch : List Patch) → Uses (commit_writes vol.ring batch) v new → OnOk r (now.ring ≡ committed vol.ring batch)
      → batch_cost (length batch) + taken_cost * sweep_left now.tables ≤ taken_cost * sweep_left vol.tables → IsSweepRun told first start now new
  run_made r x is op tells version sweeping unready batch uses ring cheap =
      run_more x (subst (λ (o : Result (Unit {0}) Failed). IsOperation told [] (λ w. w) vol now v new o) is op) (subst (λ (o : Result (Unit {0}) Failed). OnOk o (told_by now ≡ told_by vol)) is tells) version sweeping unready
      (paid_more first start vol v so_far.cost now new batch uses (subst (λ (o : Result (Unit {0}) Failed). OnOk o (now.ring ≡ committed vol.ring batch)) is ring) cheap)

  pub run_failed : (r : Result (Unit {0}) Failed) (e : Failed) (Q : Failed → Type 0) (s : Result (Unit {0}) Failed) → r ≡ Err e → IsErrAnd s Q → IsOperation told [] (λ w. w) vol now v new r → IsOperation told [] (λ w. w) first now start new s
  run_failed r e Q s is err op = op_fails told (λ w. w) first now start new e Q s err (run_op (Err e) (subst (λ (o : Result (Unit {0}) Failed). IsOperation told [] (λ w. w) vol now v new o) is op))

-- A step that may be made at the parts of a volume.
module _ (h : Header) (p : Pointers) (k : Counts) (l : LiveMap) (c : Store) (is : Bool) (marks : List Bool) (a : Kept) (ready : Bool) (parts : AreParts h p k l c is (length marks) a ready)
    (s : OutStep) (may : MaySweep (graph_of p l) s) where
  same : graph_in (tables_in h p k l c is) ≡ graph_of p l
  same = same_graph h p k l c is (length marks) a ready parts

  may_in : MaySweep (graph_in (tables_in h p k l c is)) s
  may_in = subst (λ (w : World). MaySweep w s) (sym same) may

  pub may_put : MayPut (tables_in h p k l c is) p k l s
  may_put = record {
    parts = record { slots_size = parts.pointers; counts_size = parts.counts; slots = refl; counts = refl };
    live_size = parts.live;
    live = refl;
    sound = parts.sound;
    next = sweep_allowed (tables_in h p k l c is) s parts.sound may_in;
  }

  -- the parts once it is made: what is reached is marked as before
  module _ (kept : AreSweptBy (graph_of p l) s) (q : Pointers) (j : Counts) (m : LiveMap) (batch : List Patch) (put : IsStepPut (tables_in h p k l c is) s (tables_in h q j m c is) batch)
      (slots : q.geometry ≡ p.geometry) (counts : j.geometry ≡ k.geometry) (live : m.geometry ≡ l.geometry) (shown : m.unhidden ≡ live_after l.unhidden s.block s.freed) (unready : ready ≡ false) where
    pub parts_then : AreParts h q j m c is (length marks) a ready
    parts_then = record {
      pointers = slots ∙ parts.pointers;
      counts = counts ∙ parts.counts;
      live = live ∙ parts.live;
      kept_version = parts.kept_version;
      kept = parts.kept;
      marks_each = parts.marks_each;
      sound = put.turns.sound;
      counted = parts.counted;
      hidden = hides_stepped l m s.block s.freed (is_gone a.gone) (is_gone a.gone) put.stepped.live shown parts.hidden (λ b out. refl);
      ahead = λ is_ready. let not_yet = unready in absurd (cc);
      begun = parts.begun;
      still = parts.still;
    }

    kept_in : AreSweptBy (graph_in (tables_in h p k l c is)) s
    kept_in = subst (λ (w : World). AreSweptBy w s) (sym same) kept

    pub marks_stay : AreMarksOf marks p l → AreMarksOf marks q m
    marks_stay are b =
        let t = tables_in h p k l c is in
        let reached = λ (w : World). has_number (reach w) b in
        are b
        ∙ (ap reached (sym same)
        ∙ (sym ((kept_in (graph_in t) (graph_itself (graph_in t))).same.reached b)
        ∙ (ap reached (sym (graph_stepped t (tables_in h q j m c is) s.block s.targets s.freed put.stepped))
        ∙ ap reached (same_graph h q j m c is (length marks) a ready parts_then))))

    pub cheap : batch_cost (length batch) + taken_cost * sweep_left (tables_in h q j m c is) ≤ taken_cost * sweep_left (tables_in h p k l c is)
    cheap = step_cheap (tables_in h p k l c is) (tables_in h q j m c is) s batch may_in kept_in put

    pub lowers : sweep_left (tables_in h q j m c is) < sweep_left (tables_in h p k l c is)
    lowers = sweep_lowers (tables_in h p k l c is) (tables_in h q j m c is) s may_in kept_in put.stepped

    -- as an operation
    pub step_op : (vol now : Volume) → is ≡ true → vol.tables ≡ tables_in h p k l c is → now.tables ≡ tables_in h q j m c is → IsOp any_bytes vol now.tables batch 33 (owed now.tables) (λ w. w)
    step_op vol now sweeping was then =
        subst (λ (t : Tables). IsOp any_bytes vol t batch 33 (owed t) (λ w. w)) (sym then)
        (sweep_op vol (tables_in h q j m c is) s batch (ap (λ (t : Tables). t.is_sweeping) was ∙ sweeping)
        (subst (λ (t : Tables). MaySweep (graph_in t) s) (sym was) may_in) (subst (λ (t : Tables). AreSweptBy (graph_in t) s) (sym was) kept_in)
        (subst (λ (t : Tables). IsStepPut t s (tables_in h q j m c is) batch) (sym was) put))
