use Rattle.std.proofs.Common.{◌≡◌, ℕ, ◌≤◌, ◌<◌, false, true, length, sym, ◌∙◌, ap, subst, arith, Some, Ok, Err}
use Rattle.inode_changes.proofs.Common.{slice_index, is_live, holds, Nothing, attains_write, state_of, link_by, refusal_before, Steps, pointed, Runs, Content, shared_of, shared_count, MayShare, AsideOf}
use Rattle.fs_trees.specs.declared.refusal.FsRefusal.TheVariants as no
use Rattle.inode_changes.proofs.PartLaws.{shares_many}
use Rattle.inode_changes.proofs.ShareLaws.{sharing_begins, is_among, not_yet, way_there, shares_on, shared_next, full_before, stopped_here, all_shared, room_for_shared, runs_before, before_fault}
use Rattle.inode_changes.proofs.sharing.share.Goals as goal

inside : (content : Content) (position end : ℕ) → position < end → end ≡ shared_count content → position < length (shared_of content)
inside content position end h e = let all = shares_many content in omega (arith, h, e, all)

pub shared_count-position-end-requires : goal.shared_count-position-end-requires
shared_count-position-end-requires g c = c.requires.room

pub loop-position-init : goal.loop-position-init
loop-position-init g c = sharing_begins g.K.Blocks.told c.args.client.now (g.K.Blocks.view c.args.disk.now) c.args.inode (shared_of c.args.content.now) c.requires.unspent
    (λ t. g.met.K.Blocks.sound c.args.disk.now t c.requires.unspent) c.requires.valid c.requires.bare

pub shared_block-requires : goal.shared_block-requires
shared_block-requires g c = inside c.args.content.now c.loop-position.position c.shared_count-position-end.result c.loop-position-test.true c.shared_count-position-end.ensures

pub add_pointer-requires : goal.add_pointer-requires
add_pointer-requires g c =
    let told = g.K.Blocks.told in
    let first = g.K.Blocks.view c.args.disk.now in
    let now = g.K.Blocks.view c.loop-position.disk in
    let me = c.args.client.now in
    let i = c.args.inode in
    let position = c.loop-position.position in
    let inv = c.loop-position.invariant in
    let all = shared_of c.args.content.now in
    let b = slice_index all position in
    let within = inside c.args.content.now c.loop-position.position c.shared_count-position-end.result c.loop-position-test.true c.shared_count-position-end.ensures in
    let is : c.shared_block.result ≡ slice_index (shared_of c.args.content.now) c.loop-position.position = c.shared_block.ensures in
    let share : told → MayShare me first b = λ t. (c.requires.suits t).may b (is_among all position within) in
    let above : told → now.world.geometry.primaries ≤ slice_index (shared_of c.args.content.now) c.loop-position.position = λ t. subst (λ x. x.primaries ≤ slice_index (shared_of c.args.content.now) c.loop-position.position) (sym (inv.geometry t)) (share t).apart in
    record {
      unspent = inv.runs.unspent.0;
      valid = λ t. (inv.runs.valid t).0;
      may = λ t. inv.may t i (c.requires.may t);
      live = λ t. subst (λ k. is_live now.world k ≡ true) (sym is) (inv.may t b (share t).may).live;
      apart = λ t. subst (λ k. now.world.geometry.primaries ≤ k) (sym is) (above t);
      way = λ t. subst (λ k. attains_write (state_of now) me.session k Nothing ≡ true) (sym is) (way_there me now b (above t) (inv.may t b (share t).may));
      new = λ t. subst (λ k. holds now.world.pairs i k ≡ false) (sym is) (not_yet told me first now now i all position inv within t (c.requires.suits t).apart);
    }

pub returns-in-Err : goal.returns-in-Err
returns-in-Err g c =
    let told = g.K.Blocks.told in
    let first = g.K.Blocks.view c.args.disk.now in
    let now = g.K.Blocks.view c.loop-position.disk in
    let new = g.K.Blocks.view c.add_pointer.new.disk in
    let me = c.args.client.now in
    let i = c.args.inode in
    let position = c.loop-position.position in
    let inv = c.loop-position.invariant in
    let all = shared_of c.args.content.now in
    let b = slice_index all position in
    let r = c.in-Err.refusal in
    let h = c.in-Err.ensures in
    let within = inside c.args.content.now c.loop-position.position c.shared_count-position-end.result c.loop-position-test.true c.shared_count-position-end.ensures in
    let more : c.loop-position.position < shared_count c.args.content.now = omega (arith, c.loop-position-test.true, c.shared_count-position-end.ensures) in
    let told_before : c.held_before.result ≡ refusal_before c.in-Err.refusal c.loop-position.position = c.held_before.ensures in
    let steps = subst (λ x. Steps {X = Unit {0}} told me now new (link_by me i x) i (pointed now.world i x) (Err r)) c.shared_block.ensures h.steps in
    record {
      shared = λ t. tt;
      room = λ t. tt;
      full = λ t ne.
          let other : r ≡ no.Device → ⊥ = λ k. ne (told_before ∙ before_fault r position k) in
          full_before told me first now new i all position inv within r (λ s. h.full s other) (λ s. h.steps.same s other) t (shared_count c.args.content.now) more ∙ ap (λ e. Some e) (sym told_before);
      stopped = λ t ne.
          let other : r ≡ no.Device → ⊥ = λ k. ne (told_before ∙ before_fault r position k) in
          stopped_here told me first now new i all position inv within r (λ s. h.full s other) (λ s. h.steps.same s other) t;
      runs = subst (λ e. Runs {X = Unit {0}} told first new (AsideOf me.root i all first.world) (Err e)) (sym told_before)
          (runs_before told first new (AsideOf me.root i all first.world) r position (shares_on told me first now new i all position inv within (Err r) steps));
    }

pub loop-position-preserved : goal.loop-position-preserved
loop-position-preserved g c =
    let told = g.K.Blocks.told in
    let first = g.K.Blocks.view c.args.disk.now in
    let now = g.K.Blocks.view c.loop-position.disk in
    let new = g.K.Blocks.view c.add_pointer.new.disk in
    let me = c.args.client.now in
    let i = c.args.inode in
    let all = shared_of c.args.content.now in
    let within = inside c.args.content.now c.loop-position.position c.shared_count-position-end.result c.loop-position-test.true c.shared_count-position-end.ensures in
    let h = c.in-Ok.ensures in
    let steps = subst (λ x. Steps {X = Unit {0}} told me now new (link_by me i x) i (pointed now.world i x) (Ok tt)) c.shared_block.ensures h.steps in
    shared_next told me first now new i all c.loop-position.position c.loop-position.invariant within steps (λ t. (c.requires.suits t).apart) h.room

pub returns : goal.returns
returns g c =
    let told = g.K.Blocks.told in
    let first = g.K.Blocks.view c.args.disk.now in
    let now = g.K.Blocks.view c.loop-position.disk in
    let me = c.args.client.now in
    let all = shared_of c.args.content.now in
    let inv = c.loop-position.invariant in
    let count = shares_many c.args.content.now in
    let ends : c.loop-position.position ≡ length (shared_of c.args.content.now) = omega (arith, c.loop-position-test.false, c.loop-position.auto.position-end, c.shared_count-position-end.ensures, count) in
    record {
      shared = all_shared told me first now c.args.inode all c.loop-position.position inv ends;
      room = room_for_shared told me first now c.args.inode all c.loop-position.position (shared_count c.args.content.now) inv (omega (arith, ends, count));
      full = λ t. tt;
      stopped = λ t. tt;
      runs = inv.runs;
    }
