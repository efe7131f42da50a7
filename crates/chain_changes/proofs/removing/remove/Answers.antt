use Rattle.std.proofs.Common.{◌<◌, length, sym, ap, subst}
use Rattle.chain_changes.proofs.Common.{free_count, need_of, is_there, looks_refused, looks_but_refuses, rm_lost, rm_missing, tree_under, IsLookupWithin, IsLookupOf}
use Rattle.fs_trees.specs.declared.ask.ShellAsk.TheVariants as ask
use Rattle.fs_trees.specs.declared.ask.ShellKind.TheVariants as kind
use Rattle.fs_trees.specs.declared.refusal.FsRefusal.TheVariants as no
use Rattle.chain_changes.proofs.PlaceLaws.{free_at}
use Rattle.chain_changes.proofs.AfterLaws.{LetsGo}
use Rattle.chain_changes.proofs.RemoveLaws.{Taking, writes_without}
use Rattle.chain_changes.proofs.WritingLaws.{Writing, writing_as, looks_ends, write_fails, led_to, may_then, drop_ends, drop_fails}
use Rattle.chain_changes.proofs.removing.remove.Goals.{After-directory_without-bytes}
use Rattle.chain_changes.proofs.removing.remove.Goals as goal

-- the write of the cluster without the entry
writes : (g : _) (c : After-directory_without-bytes g)
    → Writing g.K.Blocks.told c.args.client.now (g.K.Blocks.view c.args.disk.now) (g.K.Blocks.view c.look_up.new.disk) (ask.Rm c.args.path.now) c.in-Taken.page.block c.directory_without-bytes.result
    (λ w. LetsGo c.args.client.now (g.K.Blocks.view c.args.disk.now) (ask.Rm c.args.path.now) w c.in-Taken.page.block c.in-Taken.first)
writes g c =
    let me = c.args.client.now in
    let mid = g.K.Blocks.view c.look_up.new.disk in
    let n = c.in-Ok.found.1.now in
    let e = c.in-Ok.ensures in
    let taking : g.K.Blocks.told → Taking me (g.K.Blocks.view c.args.disk.now) mid c.args.path.now n c.in-Taken.page c.in-Taken.position c.in-Taken.first = λ t. record {
      valid = (c.requires.may.valid t).valid;
      tree = c.requires.may.tree t;
      primary = subst (λ x. me.root < x.primaries) (sym (g.met.K.Blocks.sound c.args.disk.now t c.requires.may.ready.unspent).geometry) c.requires.may.ready.primary;
      seen = (e.looks.looked t).0;
      path_is = e.path;
      found = subst (IsLookupOf me mid n) c.in-Taken.is (e.found t);
      way = e.none t;
    } in
    writing_as c.directory_without-bytes.ensures (writes_without c.in-Ok.found taking e.looks)

pub look_up-requires : goal.look_up-requires
look_up-requires g c = record { may = c.requires.may; refusal = λ e. cc }

pub returns-in-Err : goal.returns-in-Err
returns-in-Err g c =
    let told = g.K.Blocks.told in
    let first = g.K.Blocks.view c.args.disk.now in
    let mid = g.K.Blocks.view c.look_up.new.disk in
    let me = c.args.client.now in
    let path = c.args.path.now in
    let e = c.in-Err.ensures in
    let r = c.in-Err.refusal in
    let t0 = tree_under me first in
    let ends = looks_ends told me first mid (ask.Rm path) (λ t. (c.requires.may.valid t).valid) r
    (λ t ne. rm_lost kind.Chain first.world.geometry t0 (free_count first.world) (length first.world.pairs) (need_of kind.Chain first.world me.root t0 (ask.Rm path)) (c.requires.may.tree t) path r (e.refused t ne))
    (looks_refused told first mid r e.looks) in
    record { answer = ends.answer; changes = ends.changes }

pub returns-in-Free : goal.returns-in-Free
returns-in-Free g c =
    let told = g.K.Blocks.told in
    let first = g.K.Blocks.view c.args.disk.now in
    let mid = g.K.Blocks.view c.look_up.new.disk in
    let me = c.args.client.now in
    let path = c.args.path.now in
    let n = c.in-Ok.found.1.now in
    let e = c.in-Ok.ensures in
    let t0 = tree_under me first in
    let ends = looks_ends told me first mid (ask.Rm path) (λ t. (c.requires.may.valid t).valid) no.NoEntry
    (λ t ne. rm_missing kind.Chain first.world.geometry t0 (free_count first.world) (length first.world.pairs) (need_of kind.Chain first.world me.root t0 (ask.Rm path)) (c.requires.may.tree t) path (e.none t)
    (ap is_there (free_at me first mid path n c.in-Free.page c.in-Free.count (e.looks.looked t).0.world e.path (subst (IsLookupOf me mid n) c.in-Free.is (e.found t)))))
    (looks_but_refuses told first mid c.in-Ok.found no.NoEntry (λ d. cc) e.looks) in
    record { answer = ends.answer; changes = ends.changes }

pub directory_without-bytes-requires : goal.directory_without-bytes-requires
directory_without-bytes-requires g c = subst IsLookupWithin c.in-Taken.is c.in-Ok.ensures.within

pub write_block-requires : goal.write_block-requires
write_block-requires g c =
    let w = writes g (goal.at.write_block-requires g c).After-directory_without-bytes in
    record { unspent = w.so_far.unspent.0; valid = λ t. (w.so_far.valid t).0; may = w.may; fits = w.fits }

pub returns-in-Err-write_block : goal.returns-in-Err-write_block
returns-in-Err-write_block g c =
    let h = c.in-Err-write_block.ensures in
    let ends = write_fails (writes g (goal.at.returns-in-Err-write_block g c).After-directory_without-bytes) (g.K.Blocks.view c.write_block.new.disk) c.in-Err-write_block.refusal h.only h.steps in
    record { answer = ends.answer; changes = ends.changes }

pub drop_pointer-requires : goal.drop_pointer-requires
drop_pointer-requires g c =
    let w = writes g (goal.at.drop_pointer-requires g c).After-directory_without-bytes in
    let steps = c.in-Ok-write_block.ensures.steps in
    record { unspent = steps.unspent.0; valid = λ t. (steps.went t).valid; may = λ t. may_then w steps t c.in-Taken.page.block (w.may t); held = λ t. (led_to w steps t).held }

pub returns-in-Ok-drop_pointer : goal.returns-in-Ok-drop_pointer
returns-in-Ok-drop_pointer g c =
    let w = writes g (goal.at.returns-in-Ok-drop_pointer g c).After-directory_without-bytes in
    let ends = drop_ends w c.in-Ok-write_block.ensures.steps (g.K.Blocks.view c.drop_pointer.new.disk) c.in-Ok-drop_pointer._gone c.in-Ok-drop_pointer.ensures.steps in
    record { answer = ends.answer; changes = ends.changes }

pub returns-in-Err-drop_pointer : goal.returns-in-Err-drop_pointer
returns-in-Err-drop_pointer g c =
    let w = writes g (goal.at.returns-in-Err-drop_pointer g c).After-directory_without-bytes in
    let j = c.in-Err-drop_pointer.ensures in
    let ends = drop_fails w c.in-Ok-write_block.ensures.steps (g.K.Blocks.view c.drop_pointer.new.disk) c.in-Err-drop_pointer.refusal j.only j.steps in
    record { answer = ends.answer; changes = ends.changes }
