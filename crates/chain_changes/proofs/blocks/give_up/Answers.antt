use Rattle.std.proofs.Common.{refl, ◌∙◌, arith, Ok, Err}
use Rattle.chain_changes.proofs.Common.{slice_index_or, unlink_by, no_look, dropped, runs_look, runs_step, runs_as, runs_refused, AsideOf}
use Rattle.chain_changes.proofs.BackLaws.{is_back, first_held, none_back}
use Rattle.chain_changes.proofs.ChainLaws.{aside_none, aside_back}
use Rattle.chain_changes.proofs.blocks.give_up.Goals as goal

pub returns-in-empty : goal.returns-in-empty
returns-in-empty g c =
    let told = g.K.Blocks.told in
    let old = g.K.Blocks.view c.args.disk.now in
    let me = c.args.client.now in
    let source = c.args.source in
    let blocks = c.args.blocks.now in
    record {
      back = λ t first at m. none_back me.root first at.valid source blocks old.world c.in-empty.len_below m;
      only = λ t. tt;
      runs = runs_look told old old (AsideOf me.root source blocks old.world) (Ok tt) (λ t w e. aside_none me.root source blocks old.world w e)
          (no_look told old c.requires.unspent (λ t. g.met.K.Blocks.sound c.args.disk.now t c.requires.unspent) c.requires.valid);
    }

pub bounds-blocks-0 : goal.bounds-blocks-0
bounds-blocks-0 g c = omega (arith, c.in-len1-up.len_at_least)

pub drop_pointer-requires : goal.drop_pointer-requires
drop_pointer-requires g c =
    let old = g.K.Blocks.view c.args.disk.now in
    let source = c.args.source in
    let blocks = c.args.blocks.now in
    record {
      unspent = c.requires.unspent;
      valid = c.requires.valid;
      may = c.requires.may;
      held = λ t. let m = c.requires.making t in first_held c.args.client.now.root m.0 source (slice_index_or blocks 0 0) blocks old.world c.in-len1-up.len_at_least refl m.2;
    }

pub returns-in-Ok : goal.returns-in-Ok
returns-in-Ok g c =
    let told = g.K.Blocks.told in
    let old = g.K.Blocks.view c.args.disk.now in
    let new = g.K.Blocks.view c.drop_pointer.new.disk in
    let me = c.args.client.now in
    let source = c.args.source in
    let blocks = c.args.blocks.now in
    let i = slice_index_or blocks 0 0 in
    let h = c.in-Ok.ensures in
    let P = AsideOf me.root source blocks old.world in
    record {
      back = λ t first at m. (h.steps.went t).world ∙ is_back me.root first at.valid source i blocks old.world c.in-len1-up.len_at_least refl m;
      only = λ t. tt;
      runs = runs_as told old new P c.in-Ok._gone tt (runs_step told me old new (unlink_by me source i) source (dropped old.world source i) P (Ok c.in-Ok._gone) c.requires.valid
          (λ t. aside_back me source i blocks c.in-len1-up.len_at_least refl old.world) h.steps);
    }

pub returns-in-Err : goal.returns-in-Err
returns-in-Err g c =
    let told = g.K.Blocks.told in
    let old = g.K.Blocks.view c.args.disk.now in
    let new = g.K.Blocks.view c.drop_pointer.new.disk in
    let me = c.args.client.now in
    let source = c.args.source in
    let blocks = c.args.blocks.now in
    let i = slice_index_or blocks 0 0 in
    let h = c.in-Err.ensures in
    let P = AsideOf me.root source blocks old.world in
    record {
      back = λ t. tt;
      only = h.only;
      runs = runs_refused told old new P c.in-Err.refusal (runs_step told me old new (unlink_by me source i) source (dropped old.world source i) P (Err c.in-Err.refusal) c.requires.valid
          (λ t. aside_back me source i blocks c.in-len1-up.len_at_least refl old.world) h.steps);
    }
