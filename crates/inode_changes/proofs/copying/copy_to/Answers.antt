use Rattle.std.proofs.Common.{◌≤◌, ◌∙◌, subst}
use Rattle.inode_changes.proofs.Common.{Path, a_file, bytes_of, Copies}
use Rattle.inode_changes.proofs.EntryLaws.{stage_of}
use Rattle.inode_changes.proofs.OutcomeLaws.{refuses, fault_answers}
use Rattle.inode_changes.proofs.EndLaws.{unmade_changes, entered_answers, entered_changes, stopped_changes}
use Rattle.inode_changes.proofs.CopyLaws.{grounds, has_room, is_for, of_files, room_refuses, to_enter}
use Rattle.inode_changes.proofs.copying.copy_to.Goals as goal

pub shared_whole-content-requires : goal.shared_whole-content-requires
shared_whole-content-requires g c = c.requires.is_file

pub make_file-requires : goal.make_file-requires
make_file-requires g c =
    let v = g.K.Blocks.view c.args.disk.now in
    let me = c.args.client.now in
    let file = c.args.file.now in
    let lookup = c.args.lookup.now in
    let content = c.shared_whole-content.result in
    let k = c.shared_whole-content.ensures.whole in
    let no_dir = c.requires.is_file in
    let dir = c.requires.dir in
    record {
      unspent = c.requires.unspent;
      valid = c.requires.valid;
      stage = λ t. let x = c.requires.copies t in stage_of me.root v.world x.1 lookup (grounds me v x.0 file x.1 lookup x.2 dir (c.requires.valid t) c.requires.room);
      may = λ t. let x = c.requires.copies t in x.2.new_place.above.stands.may;
      room = has_room file.inode no_dir file.inode.whole content k (subst (λ n. n ≤ 4096) k.len c.shared_whole-content.ensures.fits);
      suits = λ t. let x = c.requires.copies t in is_for me v x.0 file x.1 lookup x.2 no_dir dir (c.requires.valid t) content k;
      of_files = λ t. let x = c.requires.copies t in of_files me v x.0 file x.1 lookup x.2 no_dir dir (c.requires.valid t) content k;
    }

pub returns-in-Err : goal.returns-in-Err
returns-in-Err g c =
    let v = g.K.Blocks.view c.args.disk.now in
    let e = c.in-Err.ensures in
    record {
      answer = λ t path new x. refuses (λ ne. room_refuses c.args.client.now v path c.args.file.now new c.args.lookup.now x c.requires.is_file c.requires.dir (c.requires.valid t) c.shared_whole-content.result c.shared_whole-content.ensures.whole c.requires.room ∙ e.full t ne) (e.same t);
      changes = λ path new x. unmade_changes e.same e.runs;
    }

pub enter-requires : goal.enter-requires
enter-requires g c =
    let v = g.K.Blocks.view c.args.disk.now in
    let lookup = c.args.lookup.now in
    let made = c.in-Ok.ensures in
    record {
      unspent = made.runs.unspent.0;
      valid = λ t. (made.runs.valid t).0;
      dir = c.requires.dir;
      short = c.requires.short;
      room = c.requires.room;
      may = λ t. let x = c.requires.copies t in made.may t lookup.directory.block x.2.new_place.above.stands.may;
      made = λ t.
          let x = c.requires.copies t in
          (v.world, x.1, a_file (bytes_of v.world c.shared_whole-content.result), grounds c.args.client.now v x.0 c.args.file.now x.1 lookup x.2 c.requires.dir (c.requires.valid t) c.requires.room, made.made t);
    }

pub returns-in-Ok-enter : goal.returns-in-Ok-enter
returns-in-Ok-enter g c =
    let made = c.in-Ok.ensures in
    let h = c.in-Ok-enter.ensures in
    let end = λ (path new : Path) (x : g.K.Blocks.told → Copies c.args.client.now (g.K.Blocks.view c.args.disk.now) path c.args.file.now new c.args.lookup.now).
    to_enter c.requires.is_file c.requires.dir c.requires.valid x c.shared_whole-content.ensures.whole c.requires.room made.room made.keeps made.made made.runs in
    record {
      answer = λ t path new x. entered_answers (end path new (λ _. x)) h.entered t;
      changes = λ path new x. entered_changes (end path new x) h.entered h.keeps h.runs;
    }

pub returns-in-Err-enter : goal.returns-in-Err-enter
returns-in-Err-enter g c =
    let made = c.in-Ok.ensures in
    let h = c.in-Err-enter.ensures in
    record {
      answer = λ t path new x. fault_answers (h.only t);
      changes = λ path new x. stopped_changes (to_enter c.requires.is_file c.requires.dir c.requires.valid x c.shared_whole-content.ensures.whole c.requires.room made.room made.keeps made.made made.runs) h.only h.runs;
    }
