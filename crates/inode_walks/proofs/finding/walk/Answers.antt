use Rattle.std.proofs.Common.{Ok, Err}
use Rattle.inode_walks.proofs.Common.{may_again, looks_as, then_looks}
use Rattle.inode_walks.proofs.WalkingLaws.{root_may, root_inode, walk_begins, walks_on, walk_ends, walk_arrives, nothing_missing, still_open}
use Rattle.inode_walks.proofs.finding.walk.Goals as goal

pub read_inode-requires : goal.read_inode-requires
read_inode-requires g c =
    record {
      unspent = c.requires.may.ready.unspent;
      valid = c.requires.may.valid;
      may = λ t. root_may g.K.Blocks.told c.args.client.now (g.K.Blocks.view c.args.disk.now) t c.requires.may (g.met.K.Blocks.sound c.args.disk.now t c.requires.may.ready.unspent);
      inode = λ t. root_inode (g.K.Blocks.view c.args.disk.now).world c.args.client.now.root (c.requires.may.tree t);
    }

pub loop-name-init : goal.loop-name-init
loop-name-init g c =
    let told = g.K.Blocks.told in
    let first = g.K.Blocks.view c.args.disk.now in
    let now = g.K.Blocks.view c.read_inode.new.disk in
    let e = c.in-Ok.ensures in
    record {
      looks = looks_as told first now c.in-Ok.root tt e.looks;
      walking = λ t. walk_begins c.args.client.now first now c.args.names.now c.in-Ok.root (c.requires.may.tree t) (e.looks.looked t).0 e.block (e.says t) (e.whole t) (e.held t)
          (may_again c.args.client.now first now c.args.client.now.root (e.looks.looked t).0 e.looks.stays.0 (c.requires.may.valid t)
          (root_may told c.args.client.now first t c.requires.may (g.met.K.Blocks.sound c.args.disk.now t c.requires.may.ready.unspent)));
    }

pub returns-in-Err : goal.returns-in-Err
returns-in-Err g c = record {
  found = λ t. tt;
  none = λ t. tt;
  refused = λ t ne. absurd (ne (c.in-Err.ensures.only t));
  looks = c.in-Err.ensures.looks;
}

pub child-requires : goal.child-requires
child-requires g c =
    let told = g.K.Blocks.told in
    let inv = c.loop-name.invariant in
    record {
      unspent = inv.looks.unspent.0;
      valid = λ t. (inv.looks.looked t).0.valid;
      session = λ t. still_open told c.args.client.now (g.K.Blocks.view c.args.disk.now) (g.K.Blocks.view c.loop-name.disk) c.requires.may inv.looks.stays.0;
      stands = λ t. ((inv.walking t).more, (inv.walking t).stands);
    }

pub returns-in-Err-child : goal.returns-in-Err-child
returns-in-Err-child g c =
    let told = g.K.Blocks.told in
    let first = g.K.Blocks.view c.args.disk.now in
    let cur = g.K.Blocks.view c.loop-name.disk in
    let new = g.K.Blocks.view c.child.new.disk in
    let inv = c.loop-name.invariant in
    record {
      found = λ t. tt;
      none = λ t. tt;
      refused = λ t ne. let w = inv.walking t in
          walk_ends c.args.client.now first cur c.args.names.now c.loop-name.name-index c.loop-name.found c.name-item.result c.in-Err-child.refusal c.loop-name-test.true c.name-item.is w
          (λ ns. c.in-Err-child.ensures.lost t w.more ns w.stands ne);
      looks = then_looks told first cur new tt (Err c.in-Err-child.refusal) inv.looks c.in-Err-child.ensures.looks;
    }

pub loop-name-preserved : goal.loop-name-preserved
loop-name-preserved g c =
    let told = g.K.Blocks.told in
    let first = g.K.Blocks.view c.args.disk.now in
    let cur = g.K.Blocks.view c.loop-name.disk in
    let new = g.K.Blocks.view c.child.new.disk in
    let inv = c.loop-name.invariant in
    let e = c.in-Ok-child.ensures in
    record {
      looks = then_looks told first cur new tt (Ok tt) inv.looks (looks_as told cur new c.in-Ok-child.further tt e.looks);
      walking = λ t. let w = inv.walking t in
          walks_on c.args.client.now first cur new c.args.names.now c.loop-name.name-index c.loop-name.found c.in-Ok-child.further c.name-item.result c.loop-name-test.true c.name-item.is (e.looks.looked t).0 w (e.further t w.more w.stands);
    }

pub returns : goal.returns
returns g c =
    let told = g.K.Blocks.told in
    let first = g.K.Blocks.view c.args.disk.now in
    let now = g.K.Blocks.view c.loop-name.disk in
    let inv = c.loop-name.invariant in
    record {
      found = λ t. walk_arrives c.args.client.now first now c.args.names.now c.loop-name.name-index c.loop-name.found c.loop-name-test.false c.loop-name.auto.name-index-end (inv.walking t);
      none = λ t. nothing_missing c.args.client.now first now c.args.names.now c.loop-name.name-index c.loop-name.found c.loop-name-test.false (inv.walking t);
      refused = λ t. tt;
      looks = looks_as told first now tt c.loop-name.found inv.looks;
    }
