use Rattle.std.proofs.Common.{◌≡◌, length, sym, ◌∙◌, ap, arith, Some}
use Rattle.inode_changes.proofs.Common.{block_len, has_number, are_apart, refusal_before, runs_refused, shared_count, new_bytes, new_count}
use Rattle.fs_trees.specs.declared.refusal.FsRefusal.TheVariants as no
use Rattle.inode_changes.proofs.RoomLaws.{refused_shared}
use Rattle.inode_changes.proofs.PartLaws.{few_new}
use Rattle.inode_changes.proofs.ShareLaws.{before_fault, runs_before, stopped_after}
use Rattle.inode_changes.proofs.FileLaws.{few_blocks, least_block, full_taken, room_taken, taken_runs, written_runs, parts_so, head_fits, inode_runs, has_file}
use Rattle.inode_changes.proofs.filling.fill.Goals as goal

pub share-requires : goal.share-requires
share-requires g c = record {
  unspent = c.requires.unspent;
  valid = c.requires.valid;
  may = c.requires.may;
  room = c.requires.room;
  suits = c.requires.suits;
  bare = c.requires.bare;
}

pub returns-in-Err : goal.returns-in-Err
returns-in-Err g c =
    let old = g.K.Blocks.view c.args.disk.now in
    let content = c.args.content.now in
    let e = c.in-Err.ensures in
    record {
      filled = λ t. tt;
      room = λ t. tt;
      full = λ t ne. refused_shared old.world (new_count content) (shared_count content) c.in-Err.refusal (c.requires.free t) (e.full t ne);
      stopped = e.stopped;
      runs = e.runs;
    }

pub new_count-requires : goal.new_count-requires
new_count-requires g c = c.requires.room

pub take_parts-requires : goal.take_parts-requires
take_parts-requires g c =
    let old = g.K.Blocks.view c.args.disk.now in
    let content = c.args.content.now in
    let sh = c.in-Ok.ensures in
    record {
      unspent = sh.runs.unspent.0;
      valid = λ t. (sh.runs.valid t).0;
      may = λ t. (sh.shared t).may c.args.inode (c.requires.may t);
      few = λ t.
          let least = least_block old.world (c.requires.valid t).valid in
          let len = (c.requires.suits t).len in
          let most = few_blocks (length (new_bytes content)) content.block_len (few_new content c.requires.room) (omega (arith, least, len)) in
          omega (arith, most, c.new_count.ensures);
    }

pub shared_count-requires : goal.shared_count-requires
shared_count-requires g c = c.requires.room

pub returns-in-Err-take_parts : goal.returns-in-Err-take_parts
returns-in-Err-take_parts g c =
    let content = c.args.content.now in
    let sh = c.in-Ok.ensures in
    let r = c.in-Err-take_parts.refusal in
    let e = c.in-Err-take_parts.ensures in
    let then : c.held_before.result ≡ refusal_before r (shared_count content) = c.held_before.ensures ∙ ap (refusal_before r) c.shared_count.ensures in
    let other = λ (ne : c.held_before.result ≡ no.Device → ⊥) (k : r ≡ no.Device). ne (then ∙ before_fault r (shared_count content) k) in
    record {
      filled = λ t. tt;
      room = λ t. tt;
      full = λ t ne. full_taken content (sh.shared t) (c.requires.free t) r (rw c.new_count.ensures at (e.full t (other ne))) ∙ ap (λ x. Some x) (sym then);
      stopped = λ t ne. stopped_after _ _ _ _ _ _ (sh.shared t) (e.same t (other ne));
      runs = rw then (runs_before _ _ _ _ r (shared_count content) (runs_refused _ _ _ _ r (taken_runs sh.shared sh.runs e.runs)));
    }

pub write_blocks-requires : goal.write_blocks-requires
write_blocks-requires g c =
    let sh = c.in-Ok.ensures in
    let tk = c.in-Ok-take_parts.ensures in
    let blocks : c.as_slice.result.now ≡ c.in-Ok-take_parts.blocks = c.as_slice.ensures.value in
    record {
      unspent = tk.runs.unspent.0;
      valid = λ t. (tk.runs.valid t).0;
      may = λ t b h. (tk.took t).parts b (ap (λ xs. has_number xs b) (sym blocks) ∙ h);
      apart = λ t. ap are_apart blocks ∙ (tk.took t).apart;
      room = c.requires.room;
      len = λ t. (c.requires.suits t).len ∙ ap block_len (sym ((tk.took t).geometry ∙ (sh.shared t).geometry));
      each = ap length blocks ∙ (tk.each ∙ c.new_count.ensures);
    }

pub returns-in-Err-write_blocks : goal.returns-in-Err-write_blocks
returns-in-Err-write_blocks g c =
    let sh = c.in-Ok.ensures in
    let tk = c.in-Ok-take_parts.ensures in
    let h = c.in-Err-write_blocks.ensures in
    record {
      filled = λ t. tt;
      room = λ t. tt;
      full = λ t ne. absurd (ne (h.only t));
      stopped = λ t ne. absurd (ne (h.only t));
      runs = written_runs sh.shared tk.took (taken_runs sh.shared sh.runs tk.runs) (rw c.as_slice.ensures.value at h.runs);
    }

pub inode_bytes-requires : goal.inode_bytes-requires
inode_bytes-requires g c = record {
  room = c.requires.room;
  each = ap length c.as_slice-2.ensures.value ∙ (c.in-Ok-take_parts.ensures.each ∙ c.new_count.ensures);
}

pub write_block-requires : goal.write_block-requires
write_block-requires g c =
    let sh = c.in-Ok.ensures in
    let tk = c.in-Ok-take_parts.ensures in
    let wr = c.in-Ok-write_blocks.ensures in
    let blocks = c.as_slice.ensures.value in
    let parts = parts_so c.requires.room c.requires.suits c.requires.may sh.shared tk.took (tk.each ∙ c.new_count.ensures) (rw blocks at wr.wrote) (taken_runs sh.shared sh.runs tk.runs) (rw blocks at wr.runs) in
    record {
      unspent = wr.runs.unspent.0;
      valid = λ t. (wr.runs.valid t).0;
      may = parts.may;
      fits = λ t. rw (c.inode_bytes.ensures, c.as_slice-2.ensures.value) (head_fits parts t);
    }

pub returns-in-Ok-write_block : goal.returns-in-Ok-write_block
returns-in-Ok-write_block g c =
    let content = c.args.content.now in
    let sh = c.in-Ok.ensures in
    let tk = c.in-Ok-take_parts.ensures in
    let wr = c.in-Ok-write_blocks.ensures in
    let blocks = c.as_slice.ensures.value in
    let parts = parts_so c.requires.room c.requires.suits c.requires.may sh.shared tk.took (tk.each ∙ c.new_count.ensures) (rw blocks at wr.wrote) (taken_runs sh.shared sh.runs tk.runs) (rw blocks at wr.runs) in
    let steps = rw (c.inode_bytes.ensures, c.as_slice-2.ensures.value) at c.in-Ok-write_block.ensures.steps in
    record {
      filled = has_file parts steps;
      room = λ t. room_taken content (sh.shared t) (c.requires.free t) (rw c.new_count.ensures at (tk.room t));
      full = λ t. tt;
      stopped = λ t. tt;
      runs = inode_runs parts steps;
    }

pub returns-in-Err-write_block : goal.returns-in-Err-write_block
returns-in-Err-write_block g c =
    let sh = c.in-Ok.ensures in
    let tk = c.in-Ok-take_parts.ensures in
    let wr = c.in-Ok-write_blocks.ensures in
    let blocks = c.as_slice.ensures.value in
    let parts = parts_so c.requires.room c.requires.suits c.requires.may sh.shared tk.took (tk.each ∙ c.new_count.ensures) (rw blocks at wr.wrote) (taken_runs sh.shared sh.runs tk.runs) (rw blocks at wr.runs) in
    let h = c.in-Err-write_block.ensures in
    record {
      filled = λ t. tt;
      room = λ t. tt;
      full = λ t ne. absurd (ne (h.only t));
      stopped = λ t ne. absurd (ne (h.only t));
      runs = inode_runs parts (rw (c.inode_bytes.ensures, c.as_slice-2.ensures.value) at h.steps);
    }
