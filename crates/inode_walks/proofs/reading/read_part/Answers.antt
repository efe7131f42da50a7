use Rattle.std.proofs.Common.{◌≡◌, ◌≤◌, ◌+◌, min, sym, ◌∙◌, ap, subst, arith}
use Rattle.inode_walks.proofs.Common.{at, bytes_in, Looked, part, bytes_said, bytes, TellsPart, then_looks, inode_of, amount_said, tree_under}
use Rattle.inode_walks.proofs.FileLaws.{found_long}
use Rattle.inode_walks.proofs.TellLaws.{cat_answers, cat_refuses, none_told, part_told, part_answers, on_ok_too}
use Rattle.inode_walks.proofs.reading.read_part.Goals as goal

pub returns-in-Err-clause-answer : goal.returns-in-Err-clause-answer
returns-in-Err-clause-answer g c = λ t.
    let old = g.K.Blocks.view c.args.disk.now in
    let new = g.K.Blocks.view c.find_file.new.disk in
    let e = c.in-Err.ensures in
    cat_refuses c.args.client.now old new c.args.path.now (c.requires.may.tree t) _ c.in-Err.refusal (e.refused t) (λ ne. ((e.looks.looked t).1 ne).world)

pub returns-then-start-size-clause-answer : goal.returns-then-start-size-clause-answer
returns-then-start-size-clause-answer g c = λ t.
    let old = g.K.Blocks.view c.args.disk.now in
    let new = g.K.Blocks.view c.find_file.new.disk in
    let me = c.args.client.now in
    let p = c.args.path.now in
    let e = c.in-Ok.ensures in
    let seen = (e.looks.looked t).0 in
    let i = e.found t in
    let past : amount_said (inode_of c.in-Ok.file.inode) ≤ c.args.start = omega (arith, c.amount-size.ensures, c.if-start-size.true) in
    cat_answers me old new p (c.requires.may.tree t) seen.world (λ _. TellsPart c.args.start c.new.result) tt (e.none t)
    (subst (λ x. TellsPart c.args.start x (bytes (bytes_in (at (tree_under me old) p)))) (sym c.new.ensures)
    (none_told me old new p c.in-Ok.file i seen.world e.file seen.valid (found_long me new i.more c.in-Ok.file i.stands seen.valid) c.args.start past))

pub read_bytes-requires-clause-is_file : goal.read_bytes-requires-clause-is_file
read_bytes-requires-clause-is_file g c = c.in-Ok.ensures.file

pub returns-clause-answer : goal.returns-clause-answer
returns-clause-answer g c = λ t.
    let old = g.K.Blocks.view c.args.disk.now in
    let mid = g.K.Blocks.view c.find_file.new.disk in
    let new = g.K.Blocks.view c.read_bytes.new.disk in
    let me = c.args.client.now in
    let p = c.args.path.now in
    let e = c.in-Ok.ensures in
    let seen = (e.looks.looked t).0 in
    let i = e.found t in
    let result = c.read_bytes.result in
    let r = c.read_bytes.ensures in
    let before : c.args.start ≤ amount_said (inode_of c.in-Ok.file.inode) = omega (arith, c.amount-size.ensures, c.if-start-size.false) in
    let end : c.min-end.result ≡ min (amount_said (inode_of c.in-Ok.file.inode)) (c.args.start + 4096) = c.min-end.ensures ∙ ap (λ n. min n (c.args.start + 4096)) c.amount-size.ensures in
    part_answers me old new p c.args.start c.read_bytes.new.into result (c.requires.may.tree t) (e.none t)
    (on_ok_too result (Looked mid new) (new.world ≡ old.world) (λ k. k.world ∙ seen.world) (r.looks.looked t).0)
    (on_ok_too result (c.read_bytes.new.into ≡ part (bytes_said mid.world (inode_of c.in-Ok.file.inode)) c.args.start c.min-end.result) (TellsPart c.args.start c.read_bytes.new.into (bytes (bytes_in (at (tree_under me old) p))))
    (λ is. part_told me old mid p c.in-Ok.file i seen.world e.file seen.valid (found_long me mid i.more c.in-Ok.file i.stands seen.valid) c.args.start c.min-end.result c.read_bytes.new.into before end is) (r.bytes t))
    (r.only t)

pub returns-clause-looks : goal.returns-clause-looks
returns-clause-looks g c =
    then_looks g.K.Blocks.told (g.K.Blocks.view c.args.disk.now) (g.K.Blocks.view c.find_file.new.disk) (g.K.Blocks.view c.read_bytes.new.disk) c.in-Ok.file c.read_bytes.result c.in-Ok.ensures.looks c.read_bytes.ensures.looks
