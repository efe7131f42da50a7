use Rattle.std.proofs.Common.{◌-◌, ◌^◌, ◌<◌, ◌∙◌, ◌++◌, ◌∷◌, [], ℕ, length, cond, length-append, refl, ap, arith}
use Rattle.serving.proofs.Inputs.{came_first, came_then, handed_first}
use Rattle.audit_runs.specs.Lines.{listing_spelling}
use Rattle.audit_runs.proofs.TakingLaws.{read_as, taken_none}
use Rattle.audit_runs.proofs.taking.take_lines.Goals as goal

pub loop-certificate-init : goal.loop-certificate-init
loop-certificate-init g c =
    let taken = c.new-intake.ensures.taken in
    let limit = c.new-intake.ensures.limit in
    record {
      limit = limit;
      blocks = refl;
      once = omega (arith, c.new-intake.ensures.ends);
      source_faults = refl;
      goes = (
        [],
        [],
        came_first g.S.Source.told _ _,
        handed_first listing_spelling _ _ c.new-intake.result c.new-lines.ensures refl taken c.new-intake.ensures.held c.new-intake.ensures.over,
        taken_none _ c.args.certificate.now c.requires.none c.requires.new,
        (let few = c.new-intake.result.within in let one = ap {B = ℕ} (λ b. cond b 0 1) c.new-intake.ensures.over in omega (arith, limit, taken, few, one)),
      );
    }

pub loop-certificate-preserved : goal.loop-certificate-preserved
loop-certificate-preserved g c =
    let i = c.loop-certificate.invariant in
    let was = i.goes in
    let found = c.in-Request.ensures.found was.0 was.1 was.3 in
    let less = c.in-Request.ensures.less refl in
    let few : length was.1 < 2 ^ 64 - 1 = omega (arith, was.5) in
    record {
      limit = c.next.ensures.limit ∙ i.limit;
      blocks = c.take_one-fault.ensures.blocks ∙ i.blocks;
      once = omega (arith, i.once, c.in-Request.ensures.later refl);
      source_faults = c.in-Request.ensures.no_source_fault (λ e. cc) ∙ i.source_faults;
      goes = (
        was.0 ++ found.0,
        was.1 ++ c.next.new.into ∷ [],
        came_then g.S.Source.told _ _ _ _ _ _ was.0 found.0 was.2 found.1,
        found.2,
        c.take_one-fault.ensures.taken _ was.1 few was.4,
        (let long = length-append was.1 (c.next.new.into ∷ []) in omega (arith, long, less, was.5)),
      );
    }

pub returns-in-End-clause-read : goal.returns-in-End-clause-read
returns-in-End-clause-read g c =
    let i = c.loop-certificate.invariant in
    let was = i.goes in
    let found = c.in-End.ensures.found was.0 was.1 was.3 in
    record {
      bytes = was.0 ++ found.0;
      came_in = came_then g.S.Source.told _ _ _ _ _ _ was.0 found.0 was.2 found.1;
      taken = (omega (arith, found.2.0, c.next.ensures.limit ∙ i.limit), found.2.1, read_as _ (was.0 ++ found.0) was.1 c.loop-certificate.fault c.loop-certificate.certificate found.2.3 was.4);
    }

pub returns-in-Fault-clause-read : goal.returns-in-Fault-clause-read
returns-in-Fault-clause-read g c =
    let i = c.loop-certificate.invariant in
    let was = i.goes in
    let found = c.in-Fault.ensures.found was.0 was.1 was.3 in
    record {
      bytes = was.0 ++ found.0;
      came_in = came_then g.S.Source.told _ _ _ _ _ _ was.0 found.0 was.2 found.1;
      taken = omega (arith, found.2.0, c.next.ensures.limit ∙ i.limit);
    }

pub returns-in-TooLong-clause-read : goal.returns-in-TooLong-clause-read
returns-in-TooLong-clause-read g c =
    let i = c.loop-certificate.invariant in
    let was = i.goes in
    let found = c.in-TooLong.ensures.found was.0 was.1 was.3 in
    record {
      bytes = was.0 ++ found.0;
      came_in = came_then g.S.Source.told _ _ _ _ _ _ was.0 found.0 was.2 found.1;
      taken = omega (arith, found.2.0, c.next.ensures.limit ∙ i.limit);
    }
