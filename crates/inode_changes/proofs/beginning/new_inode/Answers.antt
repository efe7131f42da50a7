use Rattle.std.proofs.Common.{◌≡◌, sym, ◌∙◌, arith, Some, Ok, Err}
use Rattle.inode_changes.proofs.Common.{At, alloc_by, runs_step, runs_as, runs_refused, runs_but_refuses, there_is_room, the_block, IsAside}
use Rattle.fs_trees.specs.declared.refusal.FsRefusal.TheVariants as no
use Rattle.fs_client.specs.Steps as steps
use Rattle.inode_changes.proofs.BeginLaws.{began_so, stop_at_take, only_one, one_there}
use Rattle.inode_changes.proofs.beginning.new_inode.Goals as goal

pub take_blocks-requires : goal.take_blocks-requires
take_blocks-requires g c = record { unspent = c.requires.unspent; valid = c.requires.valid; may = c.requires.may; some = omega arith; few = omega arith }

pub returns-in-Err : goal.returns-in-Err
returns-in-Err g c =
    let told = g.K.Blocks.told in
    let old = g.K.Blocks.view c.args.disk.now in
    let new = g.K.Blocks.view c.take_blocks.new.disk in
    let me = c.args.client.now in
    let d = c.args.directory in
    let r = c.in-Err.refusal in
    let h = c.in-Err.ensures in
    record {
      began = λ t. tt;
      room = λ t. tt;
      full = h.full;
      same = h.steps.same;
      runs = runs_refused told old new (IsAside me.root old.world) r
          (runs_step told me old new (alloc_by me d 1) d (steps.taken old d 1) (IsAside me.root old.world) (Err r) c.requires.valid (λ t. stop_at_take me old d (c.requires.stage t)) h.steps);
    }

pub returns-in-Some : goal.returns-in-Some
returns-in-Some g c =
    let told = g.K.Blocks.told in
    let old = g.K.Blocks.view c.args.disk.now in
    let new = g.K.Blocks.view c.take_blocks.new.disk in
    let me = c.args.client.now in
    let d = c.args.directory in
    let blocks = c.in-Ok.blocks in
    let i = c.in-Some.block in
    let h = c.in-Ok.ensures in
    let it : the_block blocks ≡ Some i = sym c.the_block.ensures ∙ c.in-Some.is in
    record {
      began = λ t. began_so me old new d i (c.requires.stage t) (c.requires.valid t) (c.requires.may t)
          (sym (h.blocks t) ∙ only_one blocks i it) (h.steps.went t) h.steps.stays.0;
      room = h.room;
      full = λ t. tt;
      same = λ t. tt;
      runs = runs_as told old new (IsAside me.root old.world) blocks i
          (runs_step told me old new (alloc_by me d 1) d (steps.taken old d 1) (IsAside me.root old.world) (Ok blocks) c.requires.valid (λ t. stop_at_take me old d (c.requires.stage t)) h.steps);
    }

pub returns-in-None : goal.returns-in-None
returns-in-None g c =
    let told = g.K.Blocks.told in
    let old = g.K.Blocks.view c.args.disk.now in
    let new = g.K.Blocks.view c.take_blocks.new.disk in
    let me = c.args.client.now in
    let d = c.args.directory in
    let blocks = c.in-Ok.blocks in
    let h = c.in-Ok.ensures in
    let never : told → ⊥ = λ t. one_there old.kind old.world (At d) blocks (h.blocks t) (there_is_room old.world 1 1 (h.room t)).0 (sym c.the_block.ensures ∙ c.in-None.is) in
    record {
      began = λ t. tt;
      room = λ t. tt;
      full = λ t. absurd (never t);
      same = λ t. absurd (never t);
      runs = runs_but_refuses told old new (IsAside me.root old.world) blocks no.NotThisFs (λ k. cc)
          (runs_step told me old new (alloc_by me d 1) d (steps.taken old d 1) (IsAside me.root old.world) (Ok blocks) c.requires.valid (λ t. stop_at_take me old d (c.requires.stage t)) h.steps);
    }
