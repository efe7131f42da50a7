use Rattle.std.proofs.Common.{refl, ◌∙◌, arith}
use Rattle.fs_copy.proofs.Common.{at, bytes_in, tree_under}
use Rattle.fs_copy.proofs.NestedLaws.{looks_as, none_looks}
use Rattle.fs_copy.proofs.PieceLaws.{all_in_first}
use Rattle.fs_copy.proofs.ReadLaws.{size_never, size_sized}
use Rattle.fs_copy.proofs.pieces.size_of.Goals as goal

pub returns-then-count-lt-DATA_MAX : goal.returns-then-count-lt-DATA_MAX
returns-then-count-lt-DATA_MAX g c =
    let set = c.requires.set in
    let bytes = bytes_in (at (tree_under (g.A.Files.view c.args.from.now) (g.K.Blocks.view c.args.disk.now)) c.args.path.now) in
    record {
      told = λ t. c.len-count.ensures.value ∙ all_in_first c.args.first.now bytes (c.requires.first t) (omega (arith, c.if-count-lt-DATA_MAX.true, c.len-count.ensures.value));
      only = λ t. tt;
      looks = looks_as (none_looks set.ready.unspent (λ t. g.met.K.Blocks.sound c.args.disk.now t set.ready.unspent) set.valid);
      same = refl;
    }

pub size-requires : goal.size-requires
size-requires g c =
    let set = c.requires.set in
    record { ready = set.ready; valid = set.valid; tree = λ t _. set.there t }

pub returns : goal.returns
returns g c =
    let size = c.size.ensures in
    record {
      told = λ t. size_sized c.requires.set c.requires.file c.size.result size.answer t;
      only = λ t. size_never c.requires.set c.requires.file c.size.result size.answer t;
      looks = size.looks;
      same = size.same;
    }
