use Rattle.std.proofs.Common.{◌≤◌, ◌++◌, refl, sym, ◌∙◌, subst, arith}
use Rattle.inode_changes.proofs.Common.{Path, a_file, at, bytes_in, no_look, tree_under, Grows}
use Rattle.inode_changes.proofs.EntryLaws.{stage_of}
use Rattle.inode_changes.proofs.OutcomeLaws.{refuses, looks_stop, looks_refuse, looked_changes, fault_answers, answers_on, changes_on}
use Rattle.inode_changes.proofs.EndLaws.{unmade_changes, entered_answers, entered_changes, stopped_changes}
use Rattle.inode_changes.proofs.GrowLaws.{size_is_small, big_refuses, has_room, is_for, of_files, room_is, to_enter}
use Rattle.inode_changes.proofs.StillLaws.{grows_on}
use Rattle.inode_changes.proofs.appending.grow.Goals as goal

pub overflow_cast-size : goal.overflow_cast-size
overflow_cast-size g c = omega (arith, c.amount.type_inv)

pub overflow_add-size : goal.overflow_add-size
overflow_add-size g c = omega (arith, c.amount.type_inv, c.len.ensures.fits)

pub is_too_big-requires : goal.is_too_big-requires
is_too_big-requires g c = c.block_len.ensures.whole

pub returns-then-is_too_big : goal.returns-then-is_too_big
returns-then-is_too_big g c =
    let old = g.K.Blocks.view c.args.disk.now in
    let big = rw (c.amount.ensures, c.len.ensures.value, c.block_len.ensures.value) at (sym c.is_too_big.ensures ∙ c.if-is_too_big.true) in
    record {
      answer = λ t path x. refuses (λ ne. big_refuses c.args.client.now old path c.args.lookup.now c.args.file.now x c.requires.is_file (c.requires.valid t) c.args.bytes.now big) (λ ne. refl);
      changes = λ path x. looked_changes c.requires.valid (looks_refuse (λ d. cc) (no_look _ old c.requires.unspent (λ t. g.met.K.Blocks.sound c.args.disk.now t c.requires.unspent) c.requires.valid));
    }

pub last_bytes-requires : goal.last_bytes-requires
last_bytes-requires g c = record {
  unspent = c.requires.unspent;
  valid = c.requires.valid;
  session = λ t. let x = (c.requires.grows t).1 in record { number = x.found.stands.may.number; begun = x.found.stands.may.begun };
  stands = λ t. let x = (c.requires.grows t).1 in (x.found.more, x.found.stands);
  is_file = c.requires.is_file;
}

pub returns-in-Err : goal.returns-in-Err
returns-in-Err g c =
    let e = c.in-Err.ensures in
    record {
      answer = λ t path x. fault_answers (e.only t);
      changes = λ path x. looked_changes c.requires.valid (looks_stop e.looks);
    }

pub grown-content-requires : goal.grown-content-requires
grown-content-requires g c =
    let fits = rw (c.amount.ensures, c.len.ensures.value, c.block_len.ensures.value) at (sym c.is_too_big.ensures ∙ c.if-is_too_big.false) in
    let value = c.block_len.ensures.value in
    record {
      is_file = c.requires.is_file;
      small = size_is_small _ _ (subst (λ n. 16 ≤ n) value c.block_len.ensures.whole) (subst (λ n. n ≤ 4096) value c.block_len.ensures.fits) fits;
    }

pub make_file-requires : goal.make_file-requires
make_file-requires g c =
    let lb = g.K.Blocks.view c.last_bytes.new.disk in
    let me = c.args.client.now in
    let lookup = c.args.lookup.now in
    let file = c.args.file.now in
    let y = c.args.bytes.now in
    let no_dir = c.requires.is_file in
    let fits = rw (c.amount.ensures, c.len.ensures.value, c.block_len.ensures.value) at (sym c.is_too_big.ensures ∙ c.if-is_too_big.false) in
    let value = c.block_len.ensures.value in
    let e = c.in-Ok.ensures in
    let front = c.in-Ok.front in
    let content = c.grown-content.result in
    let h = c.grown-content.ensures in
    let x = λ (t : g.K.Blocks.told). grows_on e.looks c.requires.valid (λ _. (c.requires.grows t).1) t in
    record {
      unspent = e.looks.unspent.0;
      valid = λ t. (e.looks.looked t).0.valid;
      stage = λ t. stage_of me.root lb.world (c.requires.grows t).0 lookup (x t).grounds;
      may = λ t. (x t).may;
      room = has_room file.inode no_dir (subst (λ n. 16 ≤ n) value c.block_len.ensures.whole) front y content h e.few (subst (λ n. n ≤ 4096) value c.block_len.ensures.fits) (subst (λ n. n ≤ 4096) c.len.ensures.value c.len.ensures.fits) fits;
      suits = λ t. is_for me lb (c.requires.grows t).0 lookup file (x t) no_dir (e.looks.looked t).0.valid front y content h (rw (← (e.looks.looked t).0.world) at (e.front t));
      of_files = λ t. of_files me lb (c.requires.grows t).0 lookup file (x t) no_dir (e.looks.looked t).0.valid front y content h (rw (← (e.looks.looked t).0.world) at (e.front t));
    }

pub returns-in-Err-make_file : goal.returns-in-Err-make_file
returns-in-Err-make_file g c =
    let fits = rw (c.amount.ensures, c.len.ensures.value, c.block_len.ensures.value) at (sym c.is_too_big.ensures ∙ c.if-is_too_big.false) in
    let e = c.in-Ok.ensures in
    let m = c.in-Err-make_file.ensures in
    record {
      answer = λ t path x. answers_on e.looks t (refuses (λ ne.
          room_is _ _ path _ _ (grows_on e.looks c.requires.valid (λ _. x) t) c.requires.is_file (e.looks.looked t).0.valid _ _ _ c.grown-content.ensures (rw (← (e.looks.looked t).0.world) at (e.front t)) c.requires.some fits ∙ m.full t ne) (m.same t));
      changes = λ path x. changes_on c.requires.valid e.looks (unmade_changes m.same m.runs);
    }

pub enter-requires : goal.enter-requires
enter-requires g c =
    let lb = g.K.Blocks.view c.last_bytes.new.disk in
    let lookup = c.args.lookup.now in
    let fits = rw (c.amount.ensures, c.len.ensures.value, c.block_len.ensures.value) at (sym c.is_too_big.ensures ∙ c.if-is_too_big.false) in
    let e = c.in-Ok.ensures in
    let m = c.in-Ok-make_file.ensures in
    let x = λ (t : g.K.Blocks.told). grows_on e.looks c.requires.valid (λ _. (c.requires.grows t).1) in
    record {
      unspent = m.runs.unspent.0;
      valid = λ t. (m.runs.valid t).0;
      dir = c.requires.dir;
      short = c.requires.short;
      room = c.requires.room;
      may = λ t. m.may t lookup.directory.block (x t t).may;
      made = λ t.
          let end = to_enter c.requires.is_file (λ s. (e.looks.looked s).0.valid) (x t) c.grown-content.ensures (λ s. rw (← (e.looks.looked s).0.world) at (e.front s)) c.requires.some fits m.room m.keeps m.made m.runs in
          (lb.world, (c.requires.grows t).0, a_file (bytes_in (at (tree_under c.args.client.now lb) (c.requires.grows t).0) ++ c.args.bytes.now), end.grounds t, end.made t);
    }

pub returns-in-Ok-enter : goal.returns-in-Ok-enter
returns-in-Ok-enter g c =
    let fits = rw (c.amount.ensures, c.len.ensures.value, c.block_len.ensures.value) at (sym c.is_too_big.ensures ∙ c.if-is_too_big.false) in
    let e = c.in-Ok.ensures in
    let m = c.in-Ok-make_file.ensures in
    let n = c.in-Ok-enter.ensures in
    let end = λ (path : Path) (x : g.K.Blocks.told → Grows c.args.client.now (g.K.Blocks.view c.args.disk.now) path c.args.lookup.now c.args.file.now).
    to_enter c.requires.is_file (λ t. (e.looks.looked t).0.valid) (grows_on e.looks c.requires.valid x) c.grown-content.ensures (λ t. rw (← (e.looks.looked t).0.world) at (e.front t)) c.requires.some fits m.room m.keeps m.made m.runs in
    record {
      answer = λ t path x. answers_on e.looks t (entered_answers (end path (λ _. x)) n.entered t);
      changes = λ path x. changes_on c.requires.valid e.looks (entered_changes (end path x) n.entered n.keeps n.runs);
    }

pub returns-in-Err-enter : goal.returns-in-Err-enter
returns-in-Err-enter g c =
    let fits = rw (c.amount.ensures, c.len.ensures.value, c.block_len.ensures.value) at (sym c.is_too_big.ensures ∙ c.if-is_too_big.false) in
    let e = c.in-Ok.ensures in
    let m = c.in-Ok-make_file.ensures in
    let n = c.in-Err-enter.ensures in
    record {
      answer = λ t path x. fault_answers (n.only t);
      changes = λ path x. changes_on c.requires.valid e.looks (stopped_changes
          (to_enter c.requires.is_file (λ t. (e.looks.looked t).0.valid) (grows_on e.looks c.requires.valid x) c.grown-content.ensures (λ t. rw (← (e.looks.looked t).0.world) at (e.front t)) c.requires.some fits m.room m.keeps m.made m.runs) n.only n.runs);
    }
