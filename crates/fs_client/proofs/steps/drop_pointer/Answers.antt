use Rattle.std.proofs.Common.{refl}
use Rattle.fs_client.proofs.Common.{eq-eqb, attains_write, state_of, shown_at, unlink_by, dropped}
use Rattle.tsd_model.specs.declared.replies.Reply.TheVariants as reply
use Rattle.fs_client.proofs.LookLaws.{through_here, is_a_fault}
use Rattle.fs_client.proofs.StepLaws.{went, step_ok, step_err}
use Rattle.fs_client.proofs.RefusalLaws.{delete_granted}
use Rattle.fs_client.proofs.steps.drop_pointer.Goals as goal

pub unlink-requires : goal.unlink-requires
unlink-requires g c = record { unspent = c.requires.unspent }

pub returns-in-Ok : goal.returns-in-Ok
returns-in-Ok g c =
    let told = g.K.Blocks.told in
    let old = g.K.Blocks.view c.args.disk.now in
    let new = g.K.Blocks.view c.unlink.new.disk in
    let me = c.args.client.now in
    let a = c.args.source in
    let q = unlink_by me a c.args.target in
    let after = dropped old.world a c.args.target in
    record {
      steps = step_ok me old new q a after refl refl told c.requires.valid refl c.in-Ok.gone
          (λ t. went me old new q a after refl refl (c.requires.valid t) refl refl (eq-eqb me.session me.session refl) (through_here a (attains_write (state_of old) me.session a (shown_at me a)) (c.requires.may t).attains) (reply.Gone c.in-Ok.gone) (c.in-Ok.ensures.step t) refl)
          c.in-Ok.ensures.once;
      only = λ t. tt;
    }

pub returns-in-Err : goal.returns-in-Err
returns-in-Err g c =
    let told = g.K.Blocks.told in
    let old = g.K.Blocks.view c.args.disk.now in
    let new = g.K.Blocks.view c.unlink.new.disk in
    let me = c.args.client.now in
    let a = c.args.source in
    let q = unlink_by me a c.args.target in
    record {
      steps = step_err me old new q a (dropped old.world a c.args.target) refl refl told c.requires.valid refl c.in-Err.refusal c.in-Err.ensures.once;
      only = λ t. is_a_fault told old new q c.in-Err.refusal (λ u. delete_granted me old a c.args.target (c.requires.valid u) (c.requires.may u) (c.requires.held u)) t c.in-Err.ensures.once;
    }
