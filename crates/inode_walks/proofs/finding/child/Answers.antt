use Rattle.std.proofs.Common.{sym}
use Rattle.inode_walks.proofs.Common.{may_again, no_look, looks_but_refuses, Stays, MayWrite, Looked, inode_of}
use Rattle.inode_walks.proofs.FurtherLaws.{may_read, on_both, has_inode, further_read, lost, no_fault, only_faults}
use Rattle.inode_walks.proofs.finding.child.Goals as goal

pub read_inode-requires-clause-may : goal.read_inode-requires-clause-may
read_inode-requires-clause-may g c = λ t. let s = c.requires.stands t in
    may_read c.args.client.now (g.K.Blocks.view c.args.disk.now) s.0 c.args.directory.now s.1 c.args.name.now c.in-Ok.block (sym c.in-Ok.ensures) (c.requires.valid t) (c.requires.session t)

pub read_inode-requires-clause-inode : goal.read_inode-requires-clause-inode
read_inode-requires-clause-inode g c = λ t. let s = c.requires.stands t in
    has_inode c.args.client.now (g.K.Blocks.view c.args.disk.now) s.0 c.args.directory.now s.1 c.args.name.now c.in-Ok.block (sym c.in-Ok.ensures)

pub returns-in-Ok : goal.returns-in-Ok
returns-in-Ok g c =
    let old = g.K.Blocks.view c.args.disk.now in
    let new = g.K.Blocks.view c.read_inode.new.disk in
    let result = c.read_inode.result in
    record {
      further = λ t more stands. further_read c.args.client.now old new more c.args.directory.now stands c.args.name.now c.in-Ok.block (sym c.in-Ok.ensures) result
          c.read_inode.ensures.block (c.read_inode.ensures.says t) (c.read_inode.ensures.whole t) (c.read_inode.ensures.held t)
          (on_both result (Looked old new) (Stays old new) (MayWrite c.args.client.now new c.in-Ok.block) (λ seen stays. may_again c.args.client.now old new c.in-Ok.block seen stays (c.requires.valid t)
          (may_read c.args.client.now old more c.args.directory.now stands c.args.name.now c.in-Ok.block (sym c.in-Ok.ensures) (c.requires.valid t) (c.requires.session t)))
          (c.read_inode.ensures.looks.looked t).0 c.read_inode.ensures.looks.stays.0)
          (c.read_inode.ensures.looks.looked t).0;
      lost = λ t more ns stands. only_faults result _ (c.read_inode.ensures.only t);
      looks = c.read_inode.ensures.looks;
    }

pub returns-in-Err : goal.returns-in-Err
returns-in-Err g c =
    let told = g.K.Blocks.told in
    let old = g.K.Blocks.view c.args.disk.now in
    let dir = c.args.directory.now in
    record {
      further = λ t more stands. tt;
      lost = λ t more ns stands ne. lost c.args.client.now old more dir stands c.args.name.now ns c.in-Err.refusal (sym c.in-Err.ensures);
      looks = looks_but_refuses told old old tt c.in-Err.refusal (no_fault c.args.name.now (inode_of dir.inode) c.in-Err.refusal (sym c.in-Err.ensures))
          (no_look told old c.requires.unspent (λ t. g.met.K.Blocks.sound c.args.disk.now t c.requires.unspent) c.requires.valid);
    }
