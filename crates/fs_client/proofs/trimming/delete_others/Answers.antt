use Rattle.std.proofs.Common.{◌≡◌, ℕ, ◌<◌, Bool, true, false, refl, sym, ◌∙◌, ap, subst, arith, inl, inr, Ok, Err}
use Rattle.fs_client.proofs.Common.{cases_lt, has_number, holds, live_below, next_in}
use Rattle.fs_client.proofs.LookLaws.{looks_refused}
use Rattle.fs_client.proofs.TrimLaws.{trims_by_looks, then_trims, delete_still, none_deleted}
use Rattle.fs_client.proofs.GoingLaws.{page_held, on_page, page_apart}
use Rattle.fs_client.proofs.trimming.delete_others.Goals as goal
use Rattle.tsd_model.proofs.ValueLaws.{clash}

pub loop-start-init : goal.loop-start-init
loop-start-init g c =
    let may = c.requires.1.1 in
    record {
      may = may;
      trims = none_deleted g.K.Blocks.told c.args.client.now g.kept (g.K.Blocks.view c.args.disk.now) c.args.source (g.N.Names.blocks c.args.namer.now) (λ t. g.met.K.Blocks.sound c.args.disk.now t may.unspent) may;
      passed = λ t b low h. absurd (never b low);
    }
  where
    never : (b : ℕ) → b < 0 → ⊥
    never b h = omega arith

pub targets-requires : goal.targets-requires
targets-requires g c =
    let may = c.loop-start.invariant.may in
    record { unspent = may.unspent; valid = may.valid; may = λ t. (may.trim t).may }

pub returns-in-Err : goal.returns-in-Err
returns-in-Err g c =
    let told = g.K.Blocks.told in
    let first = g.K.Blocks.view c.args.disk.now in
    let cur = g.K.Blocks.view c.loop-start.disk in
    let tg = g.K.Blocks.view c.targets.new.disk in
    let me = c.args.client.now in
    let inv = c.loop-start.invariant in
    let e = c.in-Err.ensures in
    let r = c.in-Err.refusal in
    record {
      trims = then_trims told me g.kept first cur tg tt (Err r) inv.trims
          (trims_by_looks told me g.kept cur tg (Err r) inv.may.valid (λ t. (inv.may.trim t).under) e.only (looks_refused told cur tg r e.looks));
      named = λ t. tt;
    }

pub delete_page-requires : goal.delete_page-requires
delete_page-requires g c κs within =
    let told = g.K.Blocks.told in
    let cur = g.K.Blocks.view c.loop-start.disk in
    let tg = g.K.Blocks.view c.targets.new.disk in
    let me = c.args.client.now in
    let a = c.args.source in
    let inv = c.loop-start.invariant in
    let e = c.in-Ok.ensures in
    let start = c.loop-start.start in
    let page = c.in-Ok.targets in
    let seen = trims_by_looks told me g.kept cur tg (Ok page) inv.may.valid (λ t. (inv.may.trim t).under) (λ t. tt) e.looks in (
      within.0,
      (
        within.1,
        (
          delete_still told me g.kept cur tg a (g.N.Names.blocks c.args.namer.now) page inv.may seen,
          (
            λ t b h. ap (λ w. holds w.pairs a b) (e.looks.looked t).0.world ∙ page_held cur.world a start c.geometry-end.result.blocks page (e.targets t) b h,
            λ t. page_apart cur.world a start page (inv.may.valid t).valid (e.targets t),
          ),
        ),
      ),
    )

pub returns-in-Err-delete_page : goal.returns-in-Err-delete_page
returns-in-Err-delete_page g c =
    let told = g.K.Blocks.told in
    let first = g.K.Blocks.view c.args.disk.now in
    let cur = g.K.Blocks.view c.loop-start.disk in
    let tg = g.K.Blocks.view c.targets.new.disk in
    let pg = g.K.Blocks.view c.delete_page.new.disk in
    let me = c.args.client.now in
    let inv = c.loop-start.invariant in
    let page = c.in-Ok.targets in
    let r = c.in-Err-delete_page.refusal in
    let seen = trims_by_looks told me g.kept cur tg (Ok page) inv.may.valid (λ t. (inv.may.trim t).under) (λ t. tt) c.in-Ok.ensures.looks in
    record {
      trims = then_trims told me g.kept first tg pg page (Err r) (then_trims told me g.kept first cur tg tt (Ok page) inv.trims seen) c.in-Err-delete_page.ensures.trims;
      named = λ t. tt;
    }

pub next_start-start-requires : goal.next_start-start-requires
next_start-start-requires g c = c.loop-start-test.true

pub loop-start-smaller : goal.loop-start-smaller
loop-start-smaller g c = omega (arith, c.next_start-start.ensures.later, c.next_start-start.ensures.within, c.loop-start-test.true)

pub loop-start-preserved : goal.loop-start-preserved
loop-start-preserved g c =
    let told = g.K.Blocks.told in
    let first = g.K.Blocks.view c.args.disk.now in
    let cur = g.K.Blocks.view c.loop-start.disk in
    let tg = g.K.Blocks.view c.targets.new.disk in
    let pg = g.K.Blocks.view c.delete_page.new.disk in
    let me = c.args.client.now in
    let a = c.args.source in
    let names = g.N.Names.blocks c.args.namer.now in
    let inv = c.loop-start.invariant in
    let e = c.in-Ok.ensures in
    let h = c.in-Ok-delete_page.ensures in
    let start = c.loop-start.start in
    let end = c.geometry-end.result.blocks in
    let page = c.in-Ok.targets in
    let seen = trims_by_looks told me g.kept cur tg (Ok page) inv.may.valid (λ t. (inv.may.trim t).under) (λ t. tt) e.looks in
    let whole : told → end ≡ cur.world.geometry.blocks = λ t. ap (λ x. x.blocks) (c.geometry-end.ensures ∙ (sym (g.met.K.Blocks.sound c.args.disk.now t c.requires.1.1.unspent).geometry ∙ sym (inv.trims.trimmed t).keeps.geometry)) in
    record {
      may = delete_still told me g.kept tg pg a names tt (delete_still told me g.kept cur tg a names page inv.may seen) h.trims;
      trims = then_trims told me g.kept first tg pg page (Ok tt) (then_trims told me g.kept first cur tg tt (Ok page) inv.trims seen) h.trims;
      passed = λ t b low held.
          let was : holds cur.world.pairs a b ≡ true = ap (λ w. holds w.pairs a b) (sym (e.looks.looked t).0.world) ∙ (h.trims.trimmed t).fewer a b held in
          elim (cases_lt b start) [
            | inl before ↦ inv.passed t b before was
            | inr from ↦
                let high : b < next_in page start end = subst (λ n. b < n) c.next_start-start.ensures.value low in
                named_by (has_number names b) refl (holds pg.world.pairs a b) held
                (h.gone t b (on_page cur.world a start end page (e.targets t) (inv.may.valid t).valid c.loop-start-test.true (whole t) b from high was))
          ];
    }
  where
    named_by : (t : Bool) {u : Bool} → u ≡ t → (k : Bool) → k ≡ true → (u ≡ false → k ≡ false) → u ≡ true
    named_by true e k held gone = e
    named_by false e k held gone = let off = gone e in absurd (clash k held off)

pub returns : goal.returns
returns g c =
    let told = g.K.Blocks.told in
    let cur = g.K.Blocks.view c.loop-start.disk in
    let inv = c.loop-start.invariant in
    record {
      trims = inv.trims;
      named = λ t b h.
          let valid = (inv.may.valid t).valid in
          let below = live_below cur.world.blocks b (valid.raw.targets c.args.source b h) in
          let many = valid.raw.sized.each_block in
          let whole = ap (λ x. x.blocks) (c.geometry-end.ensures ∙ (sym (g.met.K.Blocks.sound c.args.disk.now t c.requires.1.1.unspent).geometry ∙ sym (inv.trims.trimmed t).keeps.geometry)) in
          inv.passed t b (omega (arith, below, many, whole, c.loop-start-test.false)) h;
    }
