use Rattle.std.proofs.Common.{◌≡◌, ◌++◌, length, List, refl, sym, ◌∙◌, ap, subst, arith}
use Rattle.intent_journal.proofs.Common.{err_from_is_err_and, IsErrOf, Err, Image, Patch, is_valid, is_gate_open, descriptor_of, record_at, uses_and, uses_none, rests_none, rests_joined}
use Rattle.intent_journal.specs.declared.ring.ReplayFault.TheVariants.{BadDescriptor}
use Rattle.intent_journal.proofs.Reading.{found_start, valid_start, found_more, valid_more, found_end, valid_end, bad_end}
use Rattle.intent_journal.proofs.replay.read_records.Goals as goal

pub loop-index-init : goal.loop-index-init
loop-index-init g c =
    let v = g.D.Device.view c.args.dev.now in
    record {
      found = λ told. found_start v.reads c.args.patches.now c.requires;
      valid = λ told. valid_start v.reads c.args.patches.now c.requires;
      rests = λ told. rests_none v;
      uses = uses_none v;
      faultless = refl;
    }

pub returns-in_err-read_record-clause-bad : goal.returns-in_err-read_record-clause-bad
returns-in_err-read_record-clause-bad g c told is =
    let x : Image = (g.D.Device.view c.args.dev.now).reads in
    let i = c.loop-index.index in
    let ps : List Patch = c.loop-index.patches in
    let e = (c.loop-index.invariant.rests told).reads in
    let p = err_from_is_err_and c.from_residual.result c.from_residual.ensures.1 in
    let at : Err p.0 ≡ Err BadDescriptor = subst (λ r. IsErrOf r BadDescriptor) p.1 is in
    let same : p.0 ≡ BadDescriptor = cc in
    let bad = c.in_err-read_record.ensures.bad told (ap Err (sym p.2 ∙ same)) in
    let gate = sym (ap (λ (y : Image). is_gate_open y i) e) ∙ bad.0 in
    let wrong = sym (ap (λ (y : Image). is_valid (length ps) (descriptor_of y i)) e) ∙ bad.1 in
    c.loop-index.invariant.valid told ∙ bad_end x i ps c.loop-index-test.true gate wrong

pub returns-then-not-branch-clause-found : goal.returns-then-not-branch-clause-found
returns-then-not-branch-clause-found g c told =
    let x : Image = (g.D.Device.view c.args.dev.now).reads in
    let e = (c.loop-index.invariant.rests told).reads in
    let closed = c.in_ok-read_record.ensures.closed told c.if-not-branch.true in
    let gate = sym (ap (λ (y : Image). is_gate_open y c.loop-index.index) e) ∙ closed.0 in
    closed.1 ∙ sym (c.loop-index.invariant.found told ∙ found_end x c.loop-index.index c.loop-index.patches c.loop-index-test.true gate)

pub returns-then-not-branch-clause-valid : goal.returns-then-not-branch-clause-valid
returns-then-not-branch-clause-valid g c told =
    let x : Image = (g.D.Device.view c.args.dev.now).reads in
    let e = (c.loop-index.invariant.rests told).reads in
    let closed = c.in_ok-read_record.ensures.closed told c.if-not-branch.true in
    let gate = sym (ap (λ (y : Image). is_gate_open y c.loop-index.index) e) ∙ closed.0 in
    c.loop-index.invariant.valid told ∙ valid_end x c.loop-index.index c.loop-index.patches c.loop-index-test.true gate

pub loop-index-preserved : goal.loop-index-preserved
loop-index-preserved g c =
    let x : Image = (g.D.Device.view c.args.dev.now).reads in
    let i = c.loop-index.index in
    let ps : List Patch = c.loop-index.patches in
    let new : List Patch = c.read_record.new.patches in
    record {
      found = λ told.
          let e = (c.loop-index.invariant.rests told).reads in
          let more = c.in_ok-read_record.ensures.more told c.if-not-branch.false in
          let gate = sym (ap (λ (y : Image). is_gate_open y i) e) ∙ more.0 in
          let valid = sym (ap (λ (y : Image). is_valid (length ps) (descriptor_of y i)) e) ∙ more.1 in
          let is = more.2 ∙ ap (λ (y : Image). ps ++ record_at y i (length ps)) e in
          c.loop-index.invariant.found told ∙ found_more x i ps c.loop-index-test.true new gate valid is;
      valid = λ told.
          let e = (c.loop-index.invariant.rests told).reads in
          let more = c.in_ok-read_record.ensures.more told c.if-not-branch.false in
          let gate = sym (ap (λ (y : Image). is_gate_open y i) e) ∙ more.0 in
          let valid = sym (ap (λ (y : Image). is_valid (length ps) (descriptor_of y i)) e) ∙ more.1 in
          let is = more.2 ∙ ap (λ (y : Image). ps ++ record_at y i (length ps)) e in
          c.loop-index.invariant.valid told ∙ valid_more x i ps c.loop-index-test.true new gate valid is;
      rests = λ told. rests_joined _ _ _ (c.loop-index.invariant.rests told) (c.read_record.ensures.rests told);
      uses = uses_and 0 0 0 _ _ _ (omega arith) c.loop-index.invariant.uses c.read_record.ensures.uses;
      faultless = c.in_ok-read_record.ensures.faults.1 (λ is. absurd (cc)) ∙ c.loop-index.invariant.faultless;
    }
