use Rattle.std.proofs.Common.{◌<◌, [], ◌∷◌, length, sym, ◌∙◌, ap, subst, arith}
use Rattle.chain_changes.proofs.Common.{entries_room, cluster_of, block_len_of, dir_cluster, entries_in}
use Rattle.fs_trees.specs.declared.ask.ShellAsk.TheVariants as ask
use Rattle.chain_changes.proofs.AfterLaws.{Decided, None_loose}
use Rattle.chain_changes.proofs.PuttingLaws.{stage}
use Rattle.chain_changes.proofs.PutLaws.{found_roomy, put_refused, writes_behind, entered_is}
use Rattle.chain_changes.proofs.WritingLaws.{Writing, writing_as, write_fails, write_decides}
use Rattle.chain_changes.proofs.putting.add.Goals.{After-directory_with-entered}
use Rattle.chain_changes.proofs.putting.add.Goals as goal

-- the write of the cluster, once the new file stands
writes : (g : _) (c : After-directory_with-entered g)
    → Writing g.K.Blocks.told c.args.client.now (g.K.Blocks.view c.args.disk.now) (g.K.Blocks.view c.new_file.new.disk) (ask.Put (c.args.name.now ∷ []) c.args.bytes.now) c.args.page.now.block c.directory_with-entered.result
    (λ w. Decided c.args.client.now (g.K.Blocks.view c.args.disk.now) (ask.Put (c.args.name.now ∷ []) c.args.bytes.now) w None_loose)
writes g c =
    let page = c.args.page.now in
    let e = c.in-Ok.ensures in
    let found = λ (t : g.K.Blocks.told). found_roomy c.args.bytes.now c.requires.may (λ (t : g.K.Blocks.told). g.met.K.Blocks.sound c.args.disk.now t c.requires.may.ready.unspent) c.requires.named c.requires.found c.requires.few t c.requires.room in
    let is = c.directory_with-entered.ensures ∙ entered_is (cluster_of (dir_cluster page.cluster)).next c.count-behind.result (entries_in page.cluster) c.as_slice.ensures.value c.as_slice-2.ensures.value in
    writing_as is (writes_behind (record { found = found; made = e.made; some = e.some; linkable = e.linkable; room = e.room; runs = e.runs }) c.count-behind.result c.count-behind.ensures.value c.requires.room)

pub new_file-requires : goal.new_file-requires
new_file-requires g c =
    let found = λ (t : g.K.Blocks.told). found_roomy c.args.bytes.now c.requires.may (λ (t : g.K.Blocks.told). g.met.K.Blocks.sound c.args.disk.now t c.requires.may.ready.unspent) c.requires.named c.requires.found c.requires.few t c.requires.room in
    let x = λ (t : g.K.Blocks.told). (found t).putting in
    record {
      unspent = c.requires.may.ready.unspent;
      valid = c.requires.may.valid;
      may = λ t. (x t).may;
      stage = λ t. stage _ _ _ _ (x t);
      len = λ t. c.block_len-len.ensures.value ∙ (ap block_len_of c.cluster.ensures ∙ (x t).read.read.whole);
      head = c.block_len-len.ensures.whole;
      few = c.block_len-len.ensures.fits;
      ahead = omega arith;
    }

pub returns-in-Err : goal.returns-in-Err
returns-in-Err g c =
    let e = c.in-Err.ensures in
    let found = λ (t : g.K.Blocks.told). found_roomy c.args.bytes.now c.requires.may (λ (t : g.K.Blocks.told). g.met.K.Blocks.sound c.args.disk.now t c.requires.may.ready.unspent) c.requires.named c.requires.found c.requires.few t c.requires.room in
    let ends = put_refused found (g.K.Blocks.view c.new_file.new.disk) c.in-Err.refusal e.full e.same e.runs in
    record { answer = ends.answer; changes = ends.changes }

pub bounds-as_slice-0 : goal.bounds-as_slice-0
bounds-as_slice-0 g c =
    let some = c.in-Ok.ensures.some in
    let same = ap length c.as_slice-2.ensures.value in
    omega (arith, some, same)

pub directory_with-entered-requires : goal.directory_with-entered-requires
directory_with-entered-requires g c =
    let position = c.count-behind.ensures.value in
    let room = c.requires.room in
    record {
      named = let long = ap length c.as_slice.ensures.value in let few = c.as_slice.ensures.fits in omega (arith, long, few);
      within = omega (arith, position);
      fits = subst (λ k. k < entries_room (block_len_of (dir_cluster c.args.page.now.cluster))) (sym position) room;
    }

pub write_block-requires : goal.write_block-requires
write_block-requires g c =
    let w = writes g (goal.at.write_block-requires g c).After-directory_with-entered in
    record { unspent = w.so_far.unspent.0; valid = λ t. (w.so_far.valid t).0; may = w.may; fits = w.fits }

pub returns-in-Err-write_block : goal.returns-in-Err-write_block
returns-in-Err-write_block g c =
    let h = c.in-Err-write_block.ensures in
    let ends = write_fails (writes g (goal.at.returns-in-Err-write_block g c).After-directory_with-entered) (g.K.Blocks.view c.write_block.new.disk) c.in-Err-write_block.refusal h.only h.steps in
    record { answer = ends.answer; changes = ends.changes }

pub returns-in-Ok-write_block : goal.returns-in-Ok-write_block
returns-in-Ok-write_block g c =
    let ends = write_decides (writes g (goal.at.returns-in-Ok-write_block g c).After-directory_with-entered) c.in-Ok-write_block.ensures.steps in
    record { answer = ends.answer; changes = ends.changes }
