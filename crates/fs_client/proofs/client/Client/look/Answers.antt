use Rattle.std.proofs.Common.{◌≡◌, refl, Option, None}
use Rattle.fs_client.proofs.Common.{eq-eqb, verdict, Rule, state_of, attains_write, shown_at, read_by}
use Rattle.tsd_model.specs.declared.replies.Reply.TheVariants as reply
use Rattle.fs_client.proofs.LookLaws.{read_granted, read_looks, bytes_read, looked, gained, through_here, looks_ok, looks_err, is_a_fault}
use Rattle.fs_client.proofs.client.Client.look.Goals as goal

pub read-requires : goal.read-requires
read-requires g c = record { unspent = c.requires.unspent }

pub returns-in-Ok : goal.returns-in-Ok
returns-in-Ok g c =
    let told = g.K.Blocks.told in
    let old = g.K.Blocks.view c.args.disk.now in
    let new = g.K.Blocks.view c.read.new.disk in
    let me = c.args.self.now in
    let b = c.args.block in
    let bytes = c.in-Ok.bytes in
    let same = read_looks old.kind (state_of old) me b in
    record {
      bytes = λ t. bytes_read me old new b bytes (c.requires.valid t) (c.requires.may t) (c.in-Ok.ensures.step t);
      held = λ t. gained me old new (read_by me b) b (reply.Bytes bytes) (c.requires.valid t) (c.requires.may t) (c.in-Ok.ensures.step t) same refl
          (read_granted me old b (c.requires.valid t) (c.requires.may t)) (eq-eqb me.session me.session refl) (through_here b (attains_write (state_of old) me.session b (shown_at me b)) (c.requires.may t).attains);
      only = λ t. tt;
      looks = looks_ok told old new (read_by me b) bytes same (λ t. looked me old new (read_by me b) b (reply.Bytes bytes) (c.requires.valid t) (c.requires.may t) (c.in-Ok.ensures.step t) same refl) c.in-Ok.ensures.once;
    }

pub returns-in-Err : goal.returns-in-Err
returns-in-Err g c =
    let told = g.K.Blocks.told in
    let old = g.K.Blocks.view c.args.disk.now in
    let new = g.K.Blocks.view c.read.new.disk in
    let me = c.args.self.now in
    let b = c.args.block in
    let granted : told → ◌≡◌ {A = Option Rule} (verdict old.world old.sessions (read_by me b)) None = λ t. read_granted me old b (c.requires.valid t) (c.requires.may t) in
    record {
      bytes = λ t. tt;
      held = λ t. tt;
      only = λ t. is_a_fault told old new (read_by me b) c.in-Err.refusal granted t c.in-Err.ensures.once;
      looks = looks_err told old new (read_by me b) c.in-Err.refusal (read_looks old.kind (state_of old) me b) granted c.in-Err.ensures.once;
    }
