use Rattle.std.proofs.Common.{◌≡◌, ◌++◌, length, sym, ◌∙◌, ap, arith, Ok, Err}
use Rattle.inode_walks.proofs.Common.{no_look, then_looks, looks_as, looks_refused, inode_of, part, bytes_said}
use Rattle.inode_walks.proofs.PartLaws.{part_none, part_more, part_length}
use Rattle.inode_walks.proofs.FileLaws.{stands_still}
use Rattle.inode_walks.proofs.reading.read_bytes.Goals as goal

pub loop-at-init : goal.loop-at-init
loop-at-init g c =
    let told = g.K.Blocks.told in
    let first = g.K.Blocks.view c.args.disk.now in
    record {
      looks = no_look told first c.requires.unspent (λ t. g.met.K.Blocks.sound c.args.disk.now t c.requires.unspent) c.requires.valid;
      stands = c.requires.stands;
      low = omega arith;
      high = c.requires.order;
      came = λ t. c.requires.empty ∙ sym (part_none (bytes_said first.world (inode_of c.args.file.now.inode)) c.args.start);
    }

pub loop-at-preserved : goal.loop-at-preserved
loop-at-preserved g c =
    let told = g.K.Blocks.told in
    let first = g.K.Blocks.view c.args.disk.now in
    let cur = g.K.Blocks.view c.loop-at.disk in
    let new = g.K.Blocks.view c.read_block.new.disk in
    let inv = c.loop-at.invariant in
    let e = c.in-Ok.ensures in
    let i = inode_of c.args.file.now.inode in
    let at = c.loop-at.at in
    let next = c.in-Ok.next in
    record {
      looks = then_looks told first cur new tt (Ok tt) inv.looks (looks_as told cur new next tt e.looks);
      stands = λ t. let s = inv.stands t in (s.0, stands_still c.args.client.now cur new s.0 c.args.file.now (e.looks.looked t).0 e.looks.stays.0 (inv.looks.looked t).0.valid s.1);
      low = omega (arith, inv.low, e.next.0);
      high = e.next.1;
      came = λ t.
          e.bytes t
          ∙ (ap (λ x. x ++ part (bytes_said cur.world i) at next) (inv.came t)
          ∙ (ap (λ w. part (bytes_said first.world i) c.args.start at ++ part (bytes_said w i) at next) (inv.looks.looked t).0.world
          ∙ part_more (bytes_said first.world i) c.args.start at next inv.low (omega (arith, e.next.0))));
    }

pub read_block-requires : goal.read_block-requires
read_block-requires g c =
    let first = g.K.Blocks.view c.args.disk.now in
    let inv = c.loop-at.invariant in
    let i = inode_of c.args.file.now.inode in
    record {
      unspent = inv.looks.unspent.0;
      valid = λ t. (inv.looks.looked t).0.valid;
      session = λ t. record { number = (c.requires.session t).number; begun = inv.looks.stays.0.sessions c.args.client.now.session ∙ (c.requires.session t).begun };
      stands = inv.stands;
      is_file = c.requires.is_file;
      order = c.loop-at-test.true;
      there = c.requires.there;
      room = λ t.
          let long : length c.loop-at.into ≡ length (part (bytes_said first.world i) c.args.start c.loop-at.at) = ap length (inv.came t) in
          let most = part_length (bytes_said first.world i) c.args.start c.loop-at.at in
          omega (arith, long, most, c.requires.room, inv.low);
    }

pub returns-in-Err : goal.returns-in-Err
returns-in-Err g c =
    let told = g.K.Blocks.told in
    let first = g.K.Blocks.view c.args.disk.now in
    let cur = g.K.Blocks.view c.loop-at.disk in
    let new = g.K.Blocks.view c.read_block.new.disk in
    record {
      bytes = λ t. tt;
      nothing = c.new.ensures;
      only = c.in-Err.ensures.only;
      looks = then_looks told first cur new tt (Err c.in-Err.refusal) c.loop-at.invariant.looks (looks_refused told cur new c.in-Err.refusal c.in-Err.ensures.looks);
    }

pub returns : goal.returns
returns g c =
    let told = g.K.Blocks.told in
    let first = g.K.Blocks.view c.args.disk.now in
    let cur = g.K.Blocks.view c.loop-at.disk in
    let inv = c.loop-at.invariant in
    let last : c.loop-at.at ≡ c.args.end = omega (arith, inv.high, c.loop-at-test.false) in
    record {
      bytes = λ t. inv.came t ∙ ap (part (bytes_said first.world (inode_of c.args.file.now.inode)) c.args.start) last;
      nothing = tt;
      only = λ t. tt;
      looks = looks_as told first cur tt tt inv.looks;
    }
