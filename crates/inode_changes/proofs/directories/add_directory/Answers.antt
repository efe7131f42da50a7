use Rattle.std.proofs.Common.{◌≡◌, refl, sym, ◌∙◌, ap, Some}
use Rattle.inode_changes.proofs.Common.{Path, empty_tree, no_look, IsVacant}
use Rattle.fs_trees.specs.declared.refusal.FsRefusal.TheVariants as no
use Rattle.inode_changes.proofs.EntryLaws.{stage_of}
use Rattle.inode_changes.proofs.OutcomeLaws.{refuses, looks_refuse, looked_changes, fault_answers}
use Rattle.inode_changes.proofs.EndLaws.{unmade_changes, entered_answers, entered_changes, stopped_changes}
use Rattle.inode_changes.proofs.MakeLaws.{grounds, full_refuses, room_refuses, to_enter}
use Rattle.inode_changes.proofs.directories.add_directory.Goals as goal

pub check_entry-requires : goal.check_entry-requires
check_entry-requires g c = c.requires.dir

pub returns-in-Err : goal.returns-in-Err
returns-in-Err g c =
    let old = g.K.Blocks.view c.args.disk.now in
    let e = c.in-Err.ensures in
    record {
      answer = λ t path x. refuses (λ ne. full_refuses c.args.client.now old path c.args.lookup.now x c.requires.dir e.full ∙ ap (λ k. Some k) (sym e.only)) (λ ne. refl);
      changes = λ path x. looked_changes c.requires.valid (looks_refuse (λ d. let both : no.DirFull ≡ no.Device = sym e.only ∙ d in cc)
          (no_look _ old c.requires.unspent (λ t. g.met.K.Blocks.sound c.args.disk.now t c.requires.unspent) c.requires.valid));
    }

pub new_directory-requires : goal.new_directory-requires
new_directory-requires g c =
    let old = g.K.Blocks.view c.args.disk.now in
    let me = c.args.client.now in
    let lookup = c.args.lookup.now in
    record {
      unspent = c.requires.unspent;
      valid = c.requires.valid;
      stage = λ t. let x = c.requires.vacant t in stage_of me.root old.world x.0 lookup (grounds me old x.0 lookup x.1 c.requires.dir (c.requires.valid t) c.in-Ok.ensures.room);
      may = λ t. (c.requires.vacant t).1.found.above.stands.may;
    }

pub returns-in-Err-new_directory : goal.returns-in-Err-new_directory
returns-in-Err-new_directory g c =
    let old = g.K.Blocks.view c.args.disk.now in
    let e = c.in-Err-new_directory.ensures in
    record {
      answer = λ t path x. refuses (λ ne. room_refuses c.args.client.now old path c.args.lookup.now x c.requires.dir c.in-Ok.ensures.room ∙ e.full t ne) (e.same t);
      changes = λ path x. unmade_changes e.same e.runs;
    }

pub enter-requires : goal.enter-requires
enter-requires g c =
    let old = g.K.Blocks.view c.args.disk.now in
    let me = c.args.client.now in
    let lookup = c.args.lookup.now in
    let e = c.in-Ok-new_directory.ensures in
    record {
      unspent = e.runs.unspent.0;
      valid = λ t. (e.runs.valid t).0;
      dir = c.requires.dir;
      short = c.requires.short;
      room = c.in-Ok.ensures.room;
      may = λ t. e.may t lookup.directory.block (c.requires.vacant t).1.found.above.stands.may;
      made = λ t. let x = c.requires.vacant t in (old.world, x.0, empty_tree, grounds me old x.0 lookup x.1 c.requires.dir (c.requires.valid t) c.in-Ok.ensures.room, e.made t);
    }

pub returns-in-Ok-enter : goal.returns-in-Ok-enter
returns-in-Ok-enter g c =
    let e = c.in-Ok-new_directory.ensures in
    let h = c.in-Ok-enter.ensures in
    let end = λ (path : Path) (x : g.K.Blocks.told → IsVacant c.args.client.now (g.K.Blocks.view c.args.disk.now) path c.args.lookup.now).
    to_enter c.requires.dir c.requires.valid x c.in-Ok.ensures.room e.room e.keeps e.made e.runs in
    record {
      answer = λ t path x. entered_answers (end path (λ _. x)) h.entered t;
      changes = λ path x. entered_changes (end path x) h.entered h.keeps h.runs;
    }

pub returns-in-Err-enter : goal.returns-in-Err-enter
returns-in-Err-enter g c =
    let e = c.in-Ok-new_directory.ensures in
    let h = c.in-Err-enter.ensures in
    record {
      answer = λ t path x. fault_answers (h.only t);
      changes = λ path x. stopped_changes (to_enter c.requires.dir c.requires.valid x c.in-Ok.ensures.room e.room e.keeps e.made e.runs) h.only h.runs;
    }
