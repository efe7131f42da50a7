use Rattle.std.proofs.Common.{◌≡◌, ◌*◌, ◌++◌, ◌∷◌, [], ℕ, IfSome, drop, refl, ◌∙◌, ap, subst, arith}
use Rattle.fs_copy.proofs.Common.{at, bytes_in, file_pieces, tree_under}
use Rattle.fs_port.specs.View.{state_of}
use Rattle.fs_copy.proofs.BatchLaws.{none_read, read_lost, read_never, read_next, read_source}
use Rattle.fs_copy.proofs.NestedLaws.{looks_as}
use Rattle.fs_copy.proofs.batches.read_pieces.Goals as goal

pub loop-i-init : goal.loop-i-init
loop-i-init g c = (none_read c.args.first c.requires.set (g.met.K.Blocks.sound c.args.disk.now) c.requires.file c.clear.ensures refl, λ t. tt, omega arith)

pub read_on-requires : goal.read_on-requires
read_on-requires g c =
    let source = read_source c.loop-i.invariant.0 in
    record { ready = source.ready; valid = source.valid; tree = λ t _. source.there t; place = c.loop-i.invariant.1 }

pub returns-in-Err : goal.returns-in-Err
returns-in-Err g c =
    let here = c.loop-i.invariant.0 in
    let lost = c.in-Err.ensures in
    record { told = λ t. tt; only = read_never here lost.answer; looks = read_lost here lost.looks; same = lost.same ∙ here.from_same }

pub push-requires : goal.push-requires
push-requires g c = omega (arith, c.loop-i.invariant.0.many, c.loop-i-test.true, c.requires.few)

pub loop-i-preserved : goal.loop-i-preserved
loop-i-preserved g c =
    let read = c.in-Ok.ensures in
    let pushed = c.push.ensures.items ∙ ap (λ x. c.loop-i.into.items ++ x ∷ []) c.new.ensures in (
      read_next c.loop-i.invariant.0 read.answer read.looks read.same pushed,
      λ t. subst (λ (n : ℕ). IfSome c.in-Ok.next (g.A.Walks.leads (g.A.Files.view c.read_on.new.self) (state_of (g.K.Blocks.view c.read_on.new.disk)) c.args.path.now n)) (omega arith) (read.place t),
      omega (arith, c.loop-i-test.true),
    )

pub returns : goal.returns
returns g c =
    let here = c.loop-i.invariant.0 in
    let all : c.loop-i.i ≡ c.args.count = omega (arith, c.loop-i-test.false, c.loop-i.invariant.2) in
    let x = bytes_in (at (tree_under (g.A.Files.view c.args.from.now) (g.K.Blocks.view c.args.disk.now)) c.args.path.now) in
    record {
      told = λ t. here.read t ∙ ap (λ k. file_pieces k (drop (c.args.first * 4096) x)) all;
      only = λ t. tt;
      looks = looks_as here.looks;
      same = here.from_same;
    }
