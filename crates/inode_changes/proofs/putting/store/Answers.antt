use Rattle.std.proofs.Common.{◌≡◌, ◌≤◌, length, refl, sym, ◌∙◌, ap, subst, Some}
use Rattle.inode_changes.proofs.Common.{Path, a_file, no_look, bytes_of, PutsFile}
use Rattle.fs_trees.specs.declared.refusal.FsRefusal.TheVariants as no
use Rattle.inode_changes.proofs.EntryLaws.{stage_of}
use Rattle.inode_changes.proofs.OutcomeLaws.{refuses, looks_refuse, looked_changes, fault_answers}
use Rattle.inode_changes.proofs.EndLaws.{unmade_changes, entered_answers, entered_changes, stopped_changes}
use Rattle.inode_changes.proofs.PutLaws.{grounds, full_refuses, big_refuses, room_is, has_room, is_for, of_files, to_enter}
use Rattle.inode_changes.proofs.putting.store.Goals as goal

pub check_entry-requires : goal.check_entry-requires
check_entry-requires g c = c.requires.dir

pub returns-in-Err : goal.returns-in-Err
returns-in-Err g c =
    let old = g.K.Blocks.view c.args.disk.now in
    let e = c.in-Err.ensures in
    record {
      answer = λ t path s. refuses (λ ne. full_refuses c.args.client.now old path c.args.lookup.now c.requires.dir (c.requires.valid t) s c.args.bytes.now e.new e.full ∙ ap (λ k. Some k) (sym e.only)) (λ ne. refl);
      changes = λ path s. looked_changes c.requires.valid (looks_refuse (λ d. let both : no.DirFull ≡ no.Device = sym e.only ∙ d in cc)
          (no_look _ old c.requires.unspent (λ t. g.met.K.Blocks.sound c.args.disk.now t c.requires.unspent) c.requires.valid));
    }

pub is_too_big-requires : goal.is_too_big-requires
is_too_big-requires g c = c.block_len-block_len.ensures.whole

pub returns-then-is_too_big : goal.returns-then-is_too_big
returns-then-is_too_big g c =
    let old = g.K.Blocks.view c.args.disk.now in
    let big = rw (c.len.ensures.value, c.block_len-block_len.ensures.value) at (sym c.is_too_big.ensures ∙ c.if-is_too_big.true) in
    record {
      answer = λ t path s. refuses (λ ne. big_refuses c.args.client.now old path c.args.lookup.now c.requires.dir (c.requires.valid t) s c.args.bytes.now c.in-Ok.ensures.room big) (λ ne. refl);
      changes = λ path s. looked_changes c.requires.valid (looks_refuse (λ d. cc) (no_look _ old c.requires.unspent (λ t. g.met.K.Blocks.sound c.args.disk.now t c.requires.unspent) c.requires.valid));
    }

pub make_file-requires : goal.make_file-requires
make_file-requires g c =
    let old = g.K.Blocks.view c.args.disk.now in
    let me = c.args.client.now in
    let lookup = c.args.lookup.now in
    let x = c.args.bytes.now in
    let content = c.whole-content.result in
    let len = c.block_len-block_len.result in
    let of = c.whole-content.ensures in
    let few : length x ≤ 4096 = subst (λ n. n ≤ 4096) c.len.ensures.value c.len.ensures.fits in
    let fits = rw c.len.ensures.value at (sym c.is_too_big.ensures ∙ c.if-is_too_big.false) in
    record {
      unspent = c.requires.unspent;
      valid = c.requires.valid;
      stage = λ t. let s = c.requires.puts t in stage_of me.root old.world s.0 lookup (grounds me old s.0 lookup c.requires.dir (c.requires.valid t) s.1 x c.in-Ok.ensures.room);
      may = λ t. (c.requires.puts t).1.found.above.stands.may;
      room = has_room x len content of c.block_len-block_len.ensures.whole c.block_len-block_len.ensures.fits few fits;
      suits = λ t. is_for x len content of me old (c.block_len-block_len.ensures.value ∙ (c.requires.puts t).1.found.above.stands.whole);
      of_files = λ t. of_files x len content of me.root old.world;
    }

pub returns-in-Err-make_file : goal.returns-in-Err-make_file
returns-in-Err-make_file g c =
    let e = c.in-Err-make_file.ensures in
    let of = rw c.block_len-block_len.ensures.value at c.whole-content.ensures in
    let fits = rw (c.len.ensures.value, c.block_len-block_len.ensures.value) at (sym c.is_too_big.ensures ∙ c.if-is_too_big.false) in
    record {
      answer = λ t path s. refuses (λ ne. room_is c.requires.dir (c.requires.valid t) s of c.in-Ok.ensures.room fits ∙ e.full t ne) (e.same t);
      changes = λ path s. unmade_changes e.same e.runs;
    }

pub enter-requires : goal.enter-requires
enter-requires g c =
    let old = g.K.Blocks.view c.args.disk.now in
    let me = c.args.client.now in
    let lookup = c.args.lookup.now in
    let e = c.in-Ok-make_file.ensures in
    record {
      unspent = e.runs.unspent.0;
      valid = λ t. (e.runs.valid t).0;
      dir = c.requires.dir;
      short = c.requires.short;
      room = c.in-Ok.ensures.room;
      may = λ t. e.may t lookup.directory.block (c.requires.puts t).1.found.above.stands.may;
      made = λ t.
          let s = c.requires.puts t in
          (old.world, s.0, a_file (bytes_of old.world c.whole-content.result), grounds me old s.0 lookup c.requires.dir (c.requires.valid t) s.1 c.args.bytes.now c.in-Ok.ensures.room, e.made t);
    }

pub returns-in-Ok-enter : goal.returns-in-Ok-enter
returns-in-Ok-enter g c =
    let e = c.in-Ok-make_file.ensures in
    let h = c.in-Ok-enter.ensures in
    let of = rw c.block_len-block_len.ensures.value at c.whole-content.ensures in
    let fits = rw (c.len.ensures.value, c.block_len-block_len.ensures.value) at (sym c.is_too_big.ensures ∙ c.if-is_too_big.false) in
    let end = λ (path : Path) (s : g.K.Blocks.told → PutsFile c.args.client.now (g.K.Blocks.view c.args.disk.now) path c.args.lookup.now).
    to_enter c.requires.dir c.requires.valid s of c.in-Ok.ensures.room fits e.room e.keeps e.made e.runs in
    record {
      answer = λ t path s. entered_answers (end path (λ _. s)) h.entered t;
      changes = λ path s. entered_changes (end path s) h.entered h.keeps h.runs;
    }

pub returns-in-Err-enter : goal.returns-in-Err-enter
returns-in-Err-enter g c =
    let e = c.in-Ok-make_file.ensures in
    let h = c.in-Err-enter.ensures in
    let of = rw c.block_len-block_len.ensures.value at c.whole-content.ensures in
    let fits = rw (c.len.ensures.value, c.block_len-block_len.ensures.value) at (sym c.is_too_big.ensures ∙ c.if-is_too_big.false) in
    record {
      answer = λ t path s. fault_answers (h.only t);
      changes = λ path s. stopped_changes (to_enter c.requires.dir c.requires.valid s of c.in-Ok.ensures.room fits e.room e.keeps e.made e.runs) h.only h.runs;
    }
