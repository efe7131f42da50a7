use Rattle.std.proofs.Common.{◌+◌, ◌^◌, ◌<◌, ◌≤◌, refl, ◌∙◌, arith, rules}
use Rattle.fs_copy.proofs.GoingLaws.{after_look, source_of, target_of}
use Rattle.fs_copy.proofs.PieceLaws.{first_put, piece_end, piece_file, piece_lost, piece_next, piece_put, piece_read, piece_set, piece_unread, places_fit, put_lost}
use Rattle.fs_copy.proofs.pieces.copy_file.Goals as goal

pub put-requires : goal.put-requires
put-requires g c =
    let set = c.requires.set in
    record { ready = set.into_ready; valid = set.valid; tree = λ t _. set.into_there t }

pub returns-in-Err-clause-goes : goal.returns-in-Err-clause-goes
returns-in-Err-clause-goes g c =
    let put = c.in-Err.ensures in
    put_lost c.requires.set (piece_put c.requires.set (g.met.K.Blocks.sound c.args.disk.now) (g.met.K.Blocks.sound c.put.new.disk) c.requires.first put.answer put.changes)

pub loop-i-init : goal.loop-i-init
loop-i-init g c =
    let put = c.in-Ok.ensures in
    let sound = g.met.K.Blocks.sound c.args.disk.now in
    first_put c.requires.set sound c.requires.file c.div_ceil-pieces.ensures c.requires.sized (piece_put c.requires.set sound (g.met.K.Blocks.sound c.put.new.disk) c.requires.first put.answer put.changes) refl put.same

pub read_pieces-requires : goal.read_pieces-requires
read_pieces-requires g c =
    let here = c.loop-i.invariant in
    let small : c.args.size < 2 ^ 64 = search rules in
    let all = places_fit c.args.size c.div_ceil-pieces.result c.div_ceil-pieces.ensures small in
    let min = c.min-count.ensures in
    record { set = source_of (piece_set here); file = piece_file here; few = omega (arith, min); fits = omega (arith, min, all, c.loop-i-test.true) }

pub returns-in-Err-read_pieces : goal.returns-in-Err-read_pieces
returns-in-Err-read_pieces g c =
    let here = c.loop-i.invariant in
    let lost = c.in-Err-read_pieces.ensures in
    let some : c.loop-i.i + c.min-count.result ≤ c.div_ceil-pieces.result = omega (arith, c.min-count.ensures, c.loop-i-test.true) in
    record {
      goes = piece_lost here c.min-count.result some (piece_unread here c.min-count.result some lost.only lost.looks);
      from_same = lost.same ∙ here.from_same;
      into_same = here.into_same;
    }

pub append_pieces-requires : goal.append_pieces-requires
append_pieces-requires g c =
    let look = after_look (piece_set c.loop-i.invariant) (g.met.K.Blocks.sound c.loop-i.disk) c.in-Ok-read_pieces.ensures.same c.in-Ok-read_pieces.ensures.looks in
    record { set = target_of look.set }

pub returns-in-Err-append_pieces : goal.returns-in-Err-append_pieces
returns-in-Err-append_pieces g c =
    let here = c.loop-i.invariant in
    let read = c.in-Ok-read_pieces.ensures in
    let lost = c.in-Err-append_pieces.ensures in
    let look = after_look (piece_set here) (g.met.K.Blocks.sound c.loop-i.disk) read.same read.looks in
    let some : c.loop-i.i + c.min-count.result ≤ c.div_ceil-pieces.result = omega (arith, c.min-count.ensures, c.loop-i-test.true) in
    record {
      goes = piece_lost here c.min-count.result some (piece_read here c.min-count.result some look read.told lost.goes);
      from_same = read.same ∙ here.from_same;
      into_same = lost.same ∙ here.into_same;
    }

pub loop-i-preserved : goal.loop-i-preserved
loop-i-preserved g c =
    let here = c.loop-i.invariant in
    let read = c.in-Ok-read_pieces.ensures in
    let next = c.in-Ok-append_pieces.ensures in
    let look = after_look (piece_set here) (g.met.K.Blocks.sound c.loop-i.disk) read.same read.looks in
    let some : c.loop-i.i + c.min-count.result ≤ c.div_ceil-pieces.result = omega (arith, c.min-count.ensures, c.loop-i-test.true) in
    piece_next here c.min-count.result some (piece_read here c.min-count.result some look read.told next.goes) read.same next.same

pub returns : goal.returns
returns g c =
    let here = c.loop-i.invariant in
    record { goes = piece_end here c.loop-i-test.false; from_same = here.from_same; into_same = here.into_same }
