use Rattle.std.proofs.Common.{◌≡◌, true, false, sym, ◌∙◌, ap, Ok, Err}
use Rattle.fs_client.proofs.Common.{is_live, has_number, holds}
use Rattle.fs_client.proofs.LookLaws.{no_look}
use Rattle.fs_client.proofs.DropLaws.{is_false, pair_gone, target_stays}
use Rattle.fs_client.proofs.TrimLaws.{trims_by_looks, trims_by_step, trims_as, trims_refused}
use Rattle.fs_client.proofs.trimming.delete_unnamed.Goals as goal
use Rattle.tsd_model.proofs.ValueLaws.{clash}

pub returns-then-names : goal.returns-then-names
returns-then-names g c =
    let told = g.K.Blocks.told in
    let may = c.requires.1.1.0 in
    let v = g.K.Blocks.view c.args.disk.now in
    let me = c.args.client.now in
    let names = g.N.Names.blocks c.args.namer.now in
    record {
      trims = trims_by_looks told me g.kept v v (Ok tt) may.valid (λ t. (may.trim t).under) (λ t. tt)
          (no_look told v may.unspent (λ t. g.met.K.Blocks.sound c.args.disk.now t may.unspent) may.valid);
      others = λ t b h off. h;
      gone = λ t off. absurd (clash (has_number names c.args.target) (sym c.names.ensures ∙ c.if-names.true) off);
    }

pub drop_pointer-requires : goal.drop_pointer-requires
drop_pointer-requires g c =
    let may = c.requires.1.1.0 in
    record {
      unspent = may.unspent;
      valid = may.valid;
      may = λ t. (may.trim t).may;
      held = c.requires.1.1.1;
    }

pub returns-in-Ok : goal.returns-in-Ok
returns-in-Ok g c =
    let told = g.K.Blocks.told in
    let may = c.requires.1.1.0 in
    let v = g.K.Blocks.view c.args.disk.now in
    let new = g.K.Blocks.view c.drop_pointer.new.disk in
    let me = c.args.client.now in
    let a = c.args.source in
    let b = c.args.target in
    let names = g.N.Names.blocks c.args.namer.now in
    let unnamed : has_number names b ≡ false = sym c.names.ensures ∙ c.if-names.false in
    let h = c.in-Ok.ensures in
    let spared : told → holds g.kept.pairs a b ≡ false = λ t. is_false (holds g.kept.pairs a b) (λ e. clash (has_number names b) ((may.trim t).all b e) unnamed) in
    let trims = trims_by_step told me g.kept v new a b (Ok c.in-Ok._gone) may.valid (λ t. (may.trim t).under) (λ t. (may.trim t).named) c.requires.1.1.1 spared (λ t. tt) h.steps in
    record {
      trims = trims_as told me g.kept v new c.in-Ok._gone tt trims;
      others = λ t y was off. let went = h.steps.went t in ap (λ w. holds w.pairs a y) went.world
          ∙ target_stays v.world a b y off (ap (λ w. is_live w a) (sym went.world) ∙ (trims.trimmed t).keeps.live a (may.trim t).named) was;
      gone = λ t off. ap (λ w. holds w.pairs a b) (h.steps.went t).world ∙ pair_gone v.world a b;
    }

pub returns-in-Err : goal.returns-in-Err
returns-in-Err g c =
    let told = g.K.Blocks.told in
    let may = c.requires.1.1.0 in
    let v = g.K.Blocks.view c.args.disk.now in
    let new = g.K.Blocks.view c.drop_pointer.new.disk in
    let me = c.args.client.now in
    let a = c.args.source in
    let b = c.args.target in
    let names = g.N.Names.blocks c.args.namer.now in
    let unnamed : has_number names b ≡ false = sym c.names.ensures ∙ c.if-names.false in
    let h = c.in-Err.ensures in
    let spared : told → holds g.kept.pairs a b ≡ false = λ t. is_false (holds g.kept.pairs a b) (λ e. clash (has_number names b) ((may.trim t).all b e) unnamed) in
    let trims = trims_by_step told me g.kept v new a b (Err c.in-Err.refusal) may.valid (λ t. (may.trim t).under) (λ t. (may.trim t).named) c.requires.1.1.1 spared h.only h.steps in
    record {
      trims = trims_refused told me g.kept v new c.in-Err.refusal trims;
      others = λ t. tt;
      gone = λ t. tt;
    }
