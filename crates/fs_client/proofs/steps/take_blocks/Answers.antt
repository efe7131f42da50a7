use Rattle.std.proofs.Common.{refl}
use Rattle.fs_client.proofs.Common.{eq-eqb, attains_write, state_of, shown_at, alloc_by, taken}
use Rattle.tsd_model.specs.declared.replies.Reply.TheVariants as reply
use Rattle.fs_client.proofs.LookLaws.{through_here}
use Rattle.fs_client.proofs.StepLaws.{granted_by_form, went, step_ok, step_err, blocks_are}
use Rattle.fs_client.proofs.RefusalLaws.{take_has_room, take_has_none}
use Rattle.fs_client.proofs.steps.take_blocks.Goals as goal

pub alloc-requires : goal.alloc-requires
alloc-requires g c = record { unspent = c.requires.unspent }

pub returns-in-Ok : goal.returns-in-Ok
returns-in-Ok g c =
    let told = g.K.Blocks.told in
    let old = g.K.Blocks.view c.args.disk.now in
    let new = g.K.Blocks.view c.alloc.new.disk in
    let me = c.args.client.now in
    let a = c.args.source in
    let count = c.args.count in
    let q = alloc_by me a count in
    let after = taken old a count in
    let r = reply.Blocks c.in-Ok.blocks in
    record {
      steps = step_ok me old new q a after refl refl told c.requires.valid refl c.in-Ok.blocks
          (λ t. went me old new q a after refl refl (c.requires.valid t) refl refl (eq-eqb me.session me.session refl) (through_here a (attains_write (state_of old) me.session a (shown_at me a)) (c.requires.may t).attains) r (c.in-Ok.ensures.step t) refl)
          c.in-Ok.ensures.once;
      blocks = λ t. blocks_are me old new a count c.in-Ok.blocks (c.in-Ok.ensures.step t);
      room = λ t. take_has_room me old (c.requires.valid t) a count (c.requires.may t) c.requires.some c.requires.few (granted_by_form old new q r (c.in-Ok.ensures.step t) refl);
      full = λ t. tt;
    }

pub returns-in-Err : goal.returns-in-Err
returns-in-Err g c =
    let told = g.K.Blocks.told in
    let old = g.K.Blocks.view c.args.disk.now in
    let new = g.K.Blocks.view c.alloc.new.disk in
    let me = c.args.client.now in
    let a = c.args.source in
    let count = c.args.count in
    let q = alloc_by me a count in
    record {
      steps = step_err me old new q a (taken old a count) refl refl told c.requires.valid refl c.in-Err.refusal c.in-Err.ensures.once;
      blocks = λ t. tt;
      room = λ t. tt;
      full = λ t ne. take_has_none me old (c.requires.valid t) a count (c.requires.may t) c.requires.some c.requires.few c.in-Err.refusal (c.in-Err.ensures.once.refused t ne).0;
    }
