use Rattle.std.proofs.Common.{refl}
use Rattle.fs_client.proofs.Common.{eq-eqb, attains_write, state_of, shown_at, write_by, written}
use Rattle.tsd_model.specs.declared.replies.Reply.TheVariants as reply
use Rattle.fs_client.proofs.LookLaws.{through_here, is_a_fault}
use Rattle.fs_client.proofs.StepLaws.{went, step_ok, step_err}
use Rattle.fs_client.proofs.RefusalLaws.{write_granted}
use Rattle.fs_client.proofs.steps.write_block.Goals as goal

pub write-requires : goal.write-requires
write-requires g c = record { unspent = c.requires.unspent }

pub returns-in-Ok : goal.returns-in-Ok
returns-in-Ok g c =
    let told = g.K.Blocks.told in
    let old = g.K.Blocks.view c.args.disk.now in
    let new = g.K.Blocks.view c.write.new.disk in
    let me = c.args.client.now in
    let b = c.args.block in
    let q = write_by me b c.args.bytes in
    let after = written old.world b c.args.bytes in
    record {
      steps = step_ok me old new q b after refl refl told c.requires.valid refl tt
          (λ t. went me old new q b after refl refl (c.requires.valid t) refl refl (eq-eqb me.session me.session refl) (through_here b (attains_write (state_of old) me.session b (shown_at me b)) (c.requires.may t).attains) reply.Done (c.in-Ok.ensures.step t) refl)
          c.in-Ok.ensures.once;
      only = λ t. tt;
    }

pub returns-in-Err : goal.returns-in-Err
returns-in-Err g c =
    let told = g.K.Blocks.told in
    let old = g.K.Blocks.view c.args.disk.now in
    let new = g.K.Blocks.view c.write.new.disk in
    let me = c.args.client.now in
    let b = c.args.block in
    let q = write_by me b c.args.bytes in
    record {
      steps = step_err me old new q b (written old.world b c.args.bytes) refl refl told c.requires.valid refl c.in-Err.refusal c.in-Err.ensures.once;
      only = λ t. is_a_fault told old new q c.in-Err.refusal (λ u. write_granted me old b c.args.bytes (c.requires.valid u) (c.requires.may u) (c.requires.fits u)) t c.in-Err.ensures.once;
    }
