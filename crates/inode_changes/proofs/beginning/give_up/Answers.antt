use Rattle.std.proofs.Common.{◌≢◌, sym, subst, Ok, Err}
use Rattle.fs_trees.specs.declared.refusal.FsRefusal.TheVariants as no
use Rattle.inode_changes.proofs.Common.{unlink_by, dropped, runs_step, runs_refused, runs_but_refuses, AsideOr}
use Rattle.inode_changes.proofs.BeginLaws.{is_back, stop_at_drop, no_fault}
use Rattle.inode_changes.proofs.beginning.give_up.Goals as goal

pub drop_pointer-requires : goal.drop_pointer-requires
drop_pointer-requires g c = record { unspent = c.requires.unspent; valid = c.requires.valid; may = c.requires.may; held = c.requires.held }

pub returns-in-Ok : goal.returns-in-Ok
returns-in-Ok g c =
    let told = g.K.Blocks.told in
    let old = g.K.Blocks.view c.args.disk.now in
    let new = g.K.Blocks.view c.drop_pointer.new.disk in
    let me = c.args.client.now in
    let d = c.args.directory in
    let i = c.args.inode in
    let P = AsideOr me.root d i old.world in
    let h = c.in-Ok.ensures in
    let e = c.held_before.result in
    let ne : e ≢ no.Device = subst (λ x. x ≢ no.Device) (sym c.held_before.ensures) (no_fault c.args.refusal 1 c.requires.refused) in
    record {
      refusal = λ t k. c.held_before.ensures;
      back = λ t k. is_back me.root d i old.world new.world (h.steps.went t).world;
      runs = runs_but_refuses told old new P c.in-Ok._gone e ne
          (runs_step told me old new (unlink_by me d i) d (dropped old.world d i) P (Ok c.in-Ok._gone) c.requires.valid (λ t. stop_at_drop me.root d i old.world me) h.steps);
    }

pub returns-in-Err : goal.returns-in-Err
returns-in-Err g c =
    let told = g.K.Blocks.told in
    let old = g.K.Blocks.view c.args.disk.now in
    let new = g.K.Blocks.view c.drop_pointer.new.disk in
    let me = c.args.client.now in
    let d = c.args.directory in
    let i = c.args.inode in
    let P = AsideOr me.root d i old.world in
    let r = c.in-Err.fault in
    let h = c.in-Err.ensures in
    record {
      refusal = λ t k. absurd (k (h.only t));
      back = λ t k. absurd (k (h.only t));
      runs = runs_refused told old new P r (runs_step told me old new (unlink_by me d i) d (dropped old.world d i) P (Err r) c.requires.valid (λ t. stop_at_drop me.root d i old.world me) h.steps);
    }
