use Rattle.std.proofs.Common.{◌+◌, ◌^◌, ◌<◌, [], ◌∷◌, length, sym, ◌∙◌, ap, subst, arith, Some}
use Rattle.chain_changes.proofs.Common.{slice_index_or, directory_bytes, block_len_of, entries_in, Making}
use Rattle.fs_trees.specs.declared.ask.ShellAsk.TheVariants as ask
use Rattle.chain_changes.proofs.AfterLaws.{Decided, None_loose}
use Rattle.chain_changes.proofs.PlacedLaws.{first_there}
use Rattle.chain_changes.proofs.PuttingLaws.{stage}
use Rattle.chain_changes.proofs.PutLaws.{found_full, put_refused, writes_new, writes_linked, one_is}
use Rattle.chain_changes.proofs.WritingLaws.{Writing, writing_as, writing_at, steps_as, write_fails, write_decides}
use Rattle.chain_changes.proofs.putting.extend.Goals.{After-directory_of_one-entered, After-directory_linked}
use Rattle.chain_changes.proofs.putting.extend.Goals as goal

-- the write of the new cluster, once the new file stands
writes : (g : _) (c : After-directory_of_one-entered g)
    → Writing g.K.Blocks.told c.args.client.now (g.K.Blocks.view c.args.disk.now) (g.K.Blocks.view c.new_file.new.disk) (ask.Put (c.args.name.now ∷ []) c.args.bytes.now) (slice_index_or c.as_slice.result.now 0 0) c.directory_of_one-entered.result
    (Making c.args.client.now.root (g.K.Blocks.view c.args.disk.now).world c.args.page.now.block c.in-Ok.blocks)
writes g c =
    let e = c.in-Ok.ensures in
    let found = λ (t : g.K.Blocks.told). found_full c.args.bytes.now c.requires.may (λ (t : g.K.Blocks.told). g.met.K.Blocks.sound c.args.disk.now t c.requires.may.ready.unspent) c.requires.named c.requires.found c.requires.few t c.requires.full in
    writing_at (ap (λ bs. slice_index_or bs 0 0) c.as_slice.ensures.value) (writing_as (c.directory_of_one-entered.ensures ∙ one_is c.as_slice-2.ensures.value c.as_slice-3.ensures.value)
    (writes_new (record { found = found; made = e.made; some = e.some; linkable = e.linkable; room = e.room; runs = e.runs })))

-- then that of the last one, which decides
links : (g : _) (c : After-directory_linked g)
    → Writing g.K.Blocks.told c.args.client.now (g.K.Blocks.view c.args.disk.now) (g.K.Blocks.view c.write_block.new.disk) (ask.Put (c.args.name.now ∷ []) c.args.bytes.now) c.args.page.now.block c.directory_linked.result
    (λ w. Decided c.args.client.now (g.K.Blocks.view c.args.disk.now) (ask.Put (c.args.name.now ∷ []) c.args.bytes.now) w None_loose)
links g c =
    let e = c.in-Ok.ensures in
    let found = λ (t : g.K.Blocks.told). found_full c.args.bytes.now c.requires.may (λ (t : g.K.Blocks.told). g.met.K.Blocks.sound c.args.disk.now t c.requires.may.ready.unspent) c.requires.named c.requires.found c.requires.few t c.requires.full in
    let p_is = ap (λ bs. slice_index_or bs 0 0) c.as_slice.ensures.value in
    writing_as (c.directory_linked.ensures ∙ ap (λ k. directory_bytes (Some k) (entries_in c.args.page.now.cluster)) p_is)
    (writes_linked (record { found = found; made = e.made; some = e.some; linkable = e.linkable; room = e.room; runs = e.runs })
    (steps_as p_is (c.directory_of_one-entered.ensures ∙ one_is c.as_slice-2.ensures.value c.as_slice-3.ensures.value) c.in-Ok-write_block.ensures.steps))

pub new_file-requires : goal.new_file-requires
new_file-requires g c =
    let found = λ (t : g.K.Blocks.told). found_full c.args.bytes.now c.requires.may (λ (t : g.K.Blocks.told). g.met.K.Blocks.sound c.args.disk.now t c.requires.may.ready.unspent) c.requires.named c.requires.found c.requires.few t c.requires.full in
    let x = λ (t : g.K.Blocks.told). (found t).putting in
    record {
      unspent = c.requires.may.ready.unspent;
      valid = c.requires.may.valid;
      may = λ t. (x t).may;
      stage = λ t. stage _ _ _ _ (x t);
      len = λ t. c.block_len-len.ensures.value ∙ (ap block_len_of c.cluster.ensures ∙ (x t).read.read.whole);
      head = c.block_len-len.ensures.whole;
      few = c.block_len-len.ensures.fits;
      ahead = omega arith;
    }

pub returns-in-Err : goal.returns-in-Err
returns-in-Err g c =
    let e = c.in-Err.ensures in
    let found = λ (t : g.K.Blocks.told). found_full c.args.bytes.now c.requires.may (λ (t : g.K.Blocks.told). g.met.K.Blocks.sound c.args.disk.now t c.requires.may.ready.unspent) c.requires.named c.requires.found c.requires.few t c.requires.full in
    let ends = put_refused found (g.K.Blocks.view c.new_file.new.disk) c.in-Err.refusal e.full e.same e.runs in
    record { answer = ends.answer; changes = ends.changes }

pub bounds-as_slice-0 : goal.bounds-as_slice-0
bounds-as_slice-0 g c =
    let some = c.in-Ok.ensures.some in
    let same = ap length c.as_slice.ensures.value in
    omega (arith, some, same)

pub bounds-as_slice-1 : goal.bounds-as_slice-1
bounds-as_slice-1 g c =
    let some = c.in-Ok.ensures.some in
    let same = ap length c.as_slice-3.ensures.value in
    omega (arith, some, same)

pub directory_of_one-entered-requires : goal.directory_of_one-entered-requires
directory_of_one-entered-requires g c =
    let long = ap length c.as_slice-2.ensures.value in
    let few = c.as_slice-2.ensures.fits in
    omega (arith, long, few)

pub write_block-requires : goal.write_block-requires
write_block-requires g c =
    let w = writes g (goal.at.write_block-requires g c).After-directory_of_one-entered in
    record { unspent = w.so_far.unspent.0; valid = λ t. (w.so_far.valid t).0; may = w.may; fits = w.fits }

pub returns-in-Err-write_block : goal.returns-in-Err-write_block
returns-in-Err-write_block g c =
    let h = c.in-Err-write_block.ensures in
    let ends = write_fails (writes g (goal.at.returns-in-Err-write_block g c).After-directory_of_one-entered) (g.K.Blocks.view c.write_block.new.disk) c.in-Err-write_block.refusal h.only h.steps in
    record { answer = ends.answer; changes = ends.changes }

pub directory_linked-requires : goal.directory_linked-requires
directory_linked-requires g c =
    let some = c.in-Ok.ensures.some in
    let blocks = c.in-Ok.blocks in
    subst (λ bs. slice_index_or bs 0 0 + 1 < 2 ^ 32) (sym c.as_slice.ensures.value) (c.in-Ok.ensures.linkable (slice_index_or blocks 0 0) (first_there blocks (omega (arith, some))))

pub write_block-requires-2 : goal.write_block-requires-2
write_block-requires-2 g c =
    let w = links g (goal.at.write_block-requires-2 g c).After-directory_linked in
    record { unspent = w.so_far.unspent.0; valid = λ t. (w.so_far.valid t).0; may = w.may; fits = w.fits }

pub returns-in-Ok-write_block-2 : goal.returns-in-Ok-write_block-2
returns-in-Ok-write_block-2 g c =
    let ends = write_decides (links g (goal.at.returns-in-Ok-write_block-2 g c).After-directory_linked) c.in-Ok-write_block-2.ensures.steps in
    record { answer = ends.answer; changes = ends.changes }

pub returns-in-Err-write_block-2 : goal.returns-in-Err-write_block-2
returns-in-Err-write_block-2 g c =
    let h = c.in-Err-write_block-2.ensures in
    let ends = write_fails (links g (goal.at.returns-in-Err-write_block-2 g c).After-directory_linked) (g.K.Blocks.view c.write_block-2.new.disk) c.in-Err-write_block-2.refusal h.only h.steps in
    record { answer = ends.answer; changes = ends.changes }
