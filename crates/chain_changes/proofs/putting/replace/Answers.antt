use Rattle.std.proofs.Common.{[], ◌∷◌, length, ◌∙◌, ap, arith}
use Rattle.fs_trees.specs.declared.ask.ShellAsk.TheVariants as ask
use Rattle.chain_changes.proofs.Common.{cluster_of, block_len_of, dir_cluster, entries_in}
use Rattle.chain_changes.proofs.AfterLaws.{LetsGo}
use Rattle.chain_changes.proofs.PlacedLaws.{entries_used}
use Rattle.chain_changes.proofs.PuttingLaws.{stage}
use Rattle.chain_changes.proofs.PutLaws.{found_over, put_refused, writes_over, entered_is}
use Rattle.chain_changes.proofs.WritingLaws.{Writing, writing_as, write_fails, led_to, may_then, drop_ends, drop_fails}
use Rattle.chain_changes.proofs.putting.replace.Goals.{After-directory_with-entered}
use Rattle.chain_changes.proofs.putting.replace.Goals as goal

-- the write of the cluster, once the new file stands
writes : (g : _) (c : After-directory_with-entered g)
    → Writing g.K.Blocks.told c.args.client.now (g.K.Blocks.view c.args.disk.now) (g.K.Blocks.view c.new_file.new.disk) (ask.Put (c.args.name.now ∷ []) c.args.bytes.now) c.args.page.now.block c.directory_with-entered.result
    (λ w. LetsGo c.args.client.now (g.K.Blocks.view c.args.disk.now) (ask.Put (c.args.name.now ∷ []) c.args.bytes.now) w c.args.page.now.block c.args.first)
writes g c =
    let page = c.args.page.now in
    let e = c.in-Ok.ensures in
    let found = found_over c.args.bytes.now c.requires.may (λ (t : g.K.Blocks.told). g.met.K.Blocks.sound c.args.disk.now t c.requires.may.ready.unspent) c.requires.named c.requires.found in
    let is = c.directory_with-entered.ensures ∙ entered_is (cluster_of (dir_cluster page.cluster)).next c.args.position (entries_in page.cluster) c.as_slice.ensures.value c.as_slice-2.ensures.value in
    writing_as is (writes_over (record { found = found; made = e.made; some = e.some; linkable = e.linkable; room = e.room; runs = e.runs }))

pub new_file-requires : goal.new_file-requires
new_file-requires g c =
    let found = found_over c.args.bytes.now c.requires.may (λ (t : g.K.Blocks.told). g.met.K.Blocks.sound c.args.disk.now t c.requires.may.ready.unspent) c.requires.named c.requires.found in
    let x = λ (t : g.K.Blocks.told). (found t).putting in
    record {
      unspent = c.requires.may.ready.unspent;
      valid = c.requires.may.valid;
      may = λ t. (x t).may;
      stage = λ t. stage _ _ _ _ (x t);
      len = λ t. c.block_len-len.ensures.value ∙ (ap block_len_of c.cluster.ensures ∙ (x t).read.read.whole);
      head = c.block_len-len.ensures.whole;
      few = c.block_len-len.ensures.fits;
      ahead = omega arith;
    }

pub returns-in-Err : goal.returns-in-Err
returns-in-Err g c =
    let e = c.in-Err.ensures in
    let found = found_over c.args.bytes.now c.requires.may (λ (t : g.K.Blocks.told). g.met.K.Blocks.sound c.args.disk.now t c.requires.may.ready.unspent) c.requires.named c.requires.found in
    let ends = put_refused found (g.K.Blocks.view c.new_file.new.disk) c.in-Err.refusal e.full e.same e.runs in
    record { answer = ends.answer; changes = ends.changes }

pub bounds-as_slice-0 : goal.bounds-as_slice-0
bounds-as_slice-0 g c =
    let some = c.in-Ok.ensures.some in
    let same = ap length c.as_slice-2.ensures.value in
    omega (arith, some, same)

pub directory_with-entered-requires : goal.directory_with-entered-requires
directory_with-entered-requires g c =
    let page = c.args.page.now in
    let within = c.requires.within in
    let used = entries_used page in
    let counted = page.cluster.counted in
    let fits = page.cluster.fits in
    record {
      named = let long = ap length c.as_slice.ensures.value in let few = c.as_slice.ensures.fits in omega (arith, long, few);
      within = omega (arith, within);
      fits = omega (arith, within, used, counted, fits);
    }

pub write_block-requires : goal.write_block-requires
write_block-requires g c =
    let w = writes g (goal.at.write_block-requires g c).After-directory_with-entered in
    record { unspent = w.so_far.unspent.0; valid = λ t. (w.so_far.valid t).0; may = w.may; fits = w.fits }

pub returns-in-Err-write_block : goal.returns-in-Err-write_block
returns-in-Err-write_block g c =
    let h = c.in-Err-write_block.ensures in
    let ends = write_fails (writes g (goal.at.returns-in-Err-write_block g c).After-directory_with-entered) (g.K.Blocks.view c.write_block.new.disk) c.in-Err-write_block.refusal h.only h.steps in
    record { answer = ends.answer; changes = ends.changes }

pub drop_pointer-requires : goal.drop_pointer-requires
drop_pointer-requires g c =
    let w = writes g (goal.at.drop_pointer-requires g c).After-directory_with-entered in
    let steps = c.in-Ok-write_block.ensures.steps in
    record { unspent = steps.unspent.0; valid = λ t. (steps.went t).valid; may = λ t. may_then w steps t c.args.page.now.block (w.may t); held = λ t. (led_to w steps t).held }

pub returns-in-Ok-drop_pointer : goal.returns-in-Ok-drop_pointer
returns-in-Ok-drop_pointer g c =
    let w = writes g (goal.at.returns-in-Ok-drop_pointer g c).After-directory_with-entered in
    let ends = drop_ends w c.in-Ok-write_block.ensures.steps (g.K.Blocks.view c.drop_pointer.new.disk) c.in-Ok-drop_pointer._gone c.in-Ok-drop_pointer.ensures.steps in
    record { answer = ends.answer; changes = ends.changes }

pub returns-in-Err-drop_pointer : goal.returns-in-Err-drop_pointer
returns-in-Err-drop_pointer g c =
    let w = writes g (goal.at.returns-in-Err-drop_pointer g c).After-directory_with-entered in
    let j = c.in-Err-drop_pointer.ensures in
    let ends = drop_fails w c.in-Ok-write_block.ensures.steps (g.K.Blocks.view c.drop_pointer.new.disk) c.in-Err-drop_pointer.refusal j.only j.steps in
    record { answer = ends.answer; changes = ends.changes }
