use Rattle.std.proofs.Common.{◌==◌, length, take, get_or, refl, sym, ◌∙◌, ap, arith, inl, inr, Ok, Err}
use Rattle.fs_client.proofs.Common.{eq-eqb, or_cases, or_left, or_right, eqb-true, has_number, are_apart, holds}
use Rattle.fs_client.proofs.TrimLaws.{then_trims, delete_still, none_deleted}
use Rattle.fs_client.proofs.GoingLaws.{here_or_later, before_or_here, later_is_other, gone_still, drop_whole}
use Rattle.fs_client.proofs.trimming.delete_page.Goals as goal

pub loop-position-init : goal.loop-position-init
loop-position-init g c =
    let told = g.K.Blocks.told in
    let first = g.K.Blocks.view c.args.disk.now in
    let may = c.requires.1.1.0 in
    record {
      may = may;
      trims = none_deleted told c.args.client.now g.kept first c.args.source (g.N.Names.blocks c.args.namer.now) (λ t. g.met.K.Blocks.sound c.args.disk.now t may.unspent) may;
      held = λ t b h. c.requires.1.1.1.0 t b (ap (λ ys. has_number ys b) (sym c.as_slice-targets.ensures.value) ∙ h);
      gone = λ t b h off. absurd (cc);
    }

pub offset_bounds-targets-position : goal.offset_bounds-targets-position
offset_bounds-targets-position g c =
    let long = ap length c.as_slice-targets.ensures.value in
    omega (arith, long, c.as_slice-targets.ensures.fits, c.loop-position-test.true)

pub bounds-targets-position : goal.bounds-targets-position
bounds-targets-position g c = c.loop-position-test.true

pub delete_unnamed-requires : goal.delete_unnamed-requires
delete_unnamed-requires g c κs within =
    let inv = c.loop-position.invariant in
    let xs = c.as_slice-targets.result.now in
    let i = c.loop-position.position in
    let x = get_or xs i 0 in
    (within.0, (within.1, (inv.may, λ t. inv.held t x (here_or_later xs i x c.loop-position-test.true ∙ or_left (x == x) _ (eq-eqb x x refl)))))

pub loop-position-preserved : goal.loop-position-preserved
loop-position-preserved g c =
    let told = g.K.Blocks.told in
    let first = g.K.Blocks.view c.args.disk.now in
    let cur = g.K.Blocks.view c.loop-position.disk in
    let new = g.K.Blocks.view c.delete_unnamed.new.disk in
    let me = c.args.client.now in
    let a = c.args.source in
    let names = g.N.Names.blocks c.args.namer.now in
    let inv = c.loop-position.invariant in
    let xs = c.as_slice-targets.result.now in
    let i = c.loop-position.position in
    let x = get_or xs i 0 in
    let e = c.in-Ok.ensures in
    record {
      may = delete_still told me g.kept cur new a names tt inv.may e.trims;
      trims = then_trims told me g.kept first cur new tt (Ok tt) inv.trims e.trims;
      held = λ t b h. e.others t b (inv.held t b (here_or_later xs i b c.loop-position-test.true ∙ or_right (x == b) _ h))
          (later_is_other xs i b (ap are_apart c.as_slice-targets.ensures.value ∙ c.requires.1.1.1.1 t) c.loop-position-test.true h);
      gone = λ t b h off. elim (or_cases (has_number (take i xs) b) (x == b) (sym (before_or_here xs i b c.loop-position-test.true) ∙ h)) [
        | inl earlier ↦ gone_still (holds cur.world.pairs a b) (holds new.world.pairs a b) (inv.gone t b earlier off) ((e.trims.trimmed t).fewer a b)
        | inr here ↦
            let same = eqb-true x b here in
            ap (holds new.world.pairs a) (sym same) ∙ e.gone t (ap (has_number names) same ∙ off)
      ];
    }

pub returns-in-Err : goal.returns-in-Err
returns-in-Err g c =
    let told = g.K.Blocks.told in
    let first = g.K.Blocks.view c.args.disk.now in
    let cur = g.K.Blocks.view c.loop-position.disk in
    let new = g.K.Blocks.view c.delete_unnamed.new.disk in
    record {
      trims = then_trims told c.args.client.now g.kept first cur new tt (Err c.in-Err.refusal) c.loop-position.invariant.trims c.in-Err.ensures.trims;
      gone = λ t. tt;
    }

pub returns : goal.returns
returns g c =
    let inv = c.loop-position.invariant in
    let xs = c.as_slice-targets.result.now in
    record {
      trims = inv.trims;
      gone = λ t b h. inv.gone t b (drop_whole xs c.loop-position.position b c.loop-position-test.false (ap (λ ys. has_number ys b) c.as_slice-targets.ensures.value ∙ h));
    }
