use Rattle.std.proofs.Common.{◌+◌, [], refl, sym, ◌∙◌, ap, subst, arith, Some}
use Rattle.inode_changes.proofs.Common.{may_again, then_runs, runs_as, runs_refused, runs_more, refused_at_once, new_count, all_count, Stage, IsAside, AsideOr}
use Rattle.inode_changes.proofs.MadeLaws.{runs_on, looks_aside, aside_on, begun_so, room_with, full_with, may_first, still_for, enough_left, points_nowhere, made_so, left_making, still_pointed, filling_runs, filling_keeps}
use Rattle.inode_changes.proofs.new_file.make_file.Goals as goal

pub new_count-requires : goal.new_count-requires
new_count-requires g c = c.requires.room

pub overflow_add-new_count : goal.overflow_add-new_count
overflow_add-new_count g c =
    let is = c.new_count.ensures in
    let few = c.requires.room.room in
    let most = c.requires.room.most in
    omega (arith, is, few, most)

pub check_free-requires : goal.check_free-requires
check_free-requires g c = record { unspent = c.requires.unspent; valid = c.requires.valid }

pub returns-in-Err : goal.returns-in-Err
returns-in-Err g c =
    let e = c.in-Err.ensures in
    record {
      made = λ t. tt;
      may = λ t. tt;
      room = λ t. tt;
      keeps = λ t. tt;
      full = λ t ne. rw c.new_count.ensures at (e.full t ne (1 + all_count c.args.content.now));
      same = λ t ne. ((e.looks.looked t).1 ne).world;
      runs = runs_refused _ _ _ _ _ (looks_aside c.requires.stage e.looks);
    }

pub new_inode-requires : goal.new_inode-requires
new_inode-requires g c =
    let me = c.args.client.now in
    let d = c.args.directory in
    let looks = c.in-Ok.ensures.looks in
    record {
      unspent = looks.unspent.0;
      valid = λ t. (looks.looked t).0.valid;
      stage = λ t. subst (λ w. Stage me.root w d) (sym (looks.looked t).0.world) (c.requires.stage t);
      may = λ t. may_again _ _ _ d (looks.looked t).0 looks.stays.0 (c.requires.valid t) (c.requires.may t);
    }

pub returns-in-Err-new_inode : goal.returns-in-Err-new_inode
returns-in-Err-new_inode g c =
    let old = g.K.Blocks.view c.args.disk.now in
    let content = c.args.content.now in
    let e = c.in-Ok.ensures in
    let h = c.in-Err-new_inode.ensures in
    record {
      made = λ t. tt;
      may = λ t. tt;
      room = λ t. tt;
      keeps = λ t. tt;
      full = λ t ne. refused_at_once old.world (new_count content) (all_count content) c.in-Err-new_inode.refusal (rw c.new_count.ensures at (e.enough t)) (rw (e.looks.looked t).0.world at (h.full t ne));
      same = λ t ne. ap (λ st. st.world) (h.same t ne) ∙ (e.looks.looked t).0.world;
      runs = aside_on c.requires.stage e.looks h.runs;
    }

pub fill-requires : goal.fill-requires
fill-requires g c =
    let e = c.in-Ok.ensures in
    let h = c.in-Ok-new_inode.ensures in
    let begun = begun_so c.requires.stage c.requires.valid e.looks h.began h.runs in
    record {
      unspent = h.runs.unspent.0;
      valid = λ t. (h.runs.valid t).0;
      may = λ t. (h.began t).inode;
      room = c.requires.room;
      suits = λ t. still_for begun t (c.requires.suits t);
      bare = points_nowhere begun;
      free = λ t. enough_left begun t (new_count c.args.content.now) (rw c.new_count.ensures at (e.enough t));
    }

pub returns-in-Ok-fill : goal.returns-in-Ok-fill
returns-in-Ok-fill g c =
    let content = c.args.content.now in
    let e = c.in-Ok.ensures in
    let h = c.in-Ok-new_inode.ensures in
    let begun = begun_so c.requires.stage c.requires.valid e.looks h.began h.runs in
    let f = c.in-Ok-fill.ensures in
    record {
      made = λ t. made_so begun t content (c.requires.of_files t) (f.filled t);
      may = λ t b m. (f.filled t).may b (may_first begun t b m);
      room = λ t. room_with begun t (new_count content) (all_count content) (rw c.new_count.ensures at (e.enough t)) (f.room t);
      keeps = filling_keeps begun c.requires.of_files c.requires.suits f.filled;
      full = λ t. tt;
      same = λ t. tt;
      runs = runs_as _ _ _ _ _ _ (filling_runs begun content c.requires.of_files f.runs);
    }

pub give_up-requires : goal.give_up-requires
give_up-requires g c =
    let e = c.in-Ok.ensures in
    let h = c.in-Ok-new_inode.ensures in
    let begun = begun_so c.requires.stage c.requires.valid e.looks h.began h.runs in
    let f = c.in-Err-fill.ensures in
    let ne = c.in_default.not-Device in
    record {
      unspent = f.runs.unspent.1 ne;
      valid = λ t. (f.runs.valid t).1 ne;
      may = λ t. (f.stopped t ne).may c.args.directory (may_first begun t c.args.directory (c.requires.may t));
      held = λ t. still_pointed begun t c.args.content.now (c.requires.of_files t) (f.stopped t ne);
      refused = ne;
    }

pub returns-in-Device : goal.returns-in-Device
returns-in-Device g c =
    let e = c.in-Ok.ensures in
    let h = c.in-Ok-new_inode.ensures in
    let begun = begun_so c.requires.stage c.requires.valid e.looks h.began h.runs in
    record {
      made = λ t. tt;
      may = λ t. tt;
      room = λ t. tt;
      keeps = λ t. tt;
      full = λ t ne. absurd (ne refl);
      same = λ t ne. absurd (ne refl);
      runs = rw (← c.in-Device.is) (runs_refused _ _ _ _ _ (filling_runs begun c.args.content.now c.requires.of_files c.in-Err-fill.ensures.runs));
    }

pub returns-in_default : goal.returns-in_default
returns-in_default g c =
    let told = g.K.Blocks.told in
    let old = g.K.Blocks.view c.args.disk.now in
    let v3 = g.K.Blocks.view c.fill.new.disk in
    let me = c.args.client.now in
    let content = c.args.content.now in
    let e = c.in-Ok.ensures in
    let h = c.in-Ok-new_inode.ensures in
    let begun = begun_so c.requires.stage c.requires.valid e.looks h.began h.runs in
    let f = c.in-Err-fill.ensures in
    let r = c.in-Err-fill.refusal in
    let u = c.give_up.ensures in
    let no_fault = c.in_default.not-Device in
    let left = λ (t : told). left_making begun t content (c.requires.of_files t) (f.stopped t no_fault) in
    record {
      made = λ t. tt;
      may = λ t. tt;
      room = λ t. tt;
      keeps = λ t. tt;
      full = λ t ne. full_with begun t (new_count content) (all_count content) (rw c.new_count.ensures at (e.enough t)) r (f.full t no_fault) ∙ ap (λ y. Some y) (sym (u.refusal t ne));
      same = λ t ne. u.back t ne old.world (left t).0 [] (c.requires.stage t) (left t).1;
      runs = then_runs _ _ _ _ _ (tt {0}) _ (runs_on told old v3 (IsAside me.root old.world) r (tt {0}) no_fault (filling_runs begun content c.requires.of_files f.runs)) (runs_refused _ _ _ _ _
          (runs_more _ _ _ (AsideOr me.root c.args.directory c.in-Ok-new_inode.inode v3.world) _ _ (λ t w k. k old.world (left t).0 [] (c.requires.stage t) (left t).1) u.runs));
    }
