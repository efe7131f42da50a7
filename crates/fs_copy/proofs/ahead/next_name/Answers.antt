use Rattle.std.proofs.Common.{◌≡◌, refl, sym, Some}
use Rattle.fs_copy.proofs.Common.{ComeNext, IfSome, above, at, names_in, tree_under}
use Rattle.fs_trees.specs.declared.ask.ShellAsk.TheVariants as ask
use Rattle.fs_walks.specs.Nexts.{TellsNames}
use Rattle.fs_copy.proofs.AheadLaws.{first_ahead, read_first}
use Rattle.fs_copy.proofs.NestedLaws.{looks_as, looks_err, none_looks}
use Rattle.fs_copy.proofs.ReadLaws.{never_refused, next_refused}
use Rattle.fs_copy.proofs.ahead.next_name.Goals as goal

pub returns-in-Some : goal.returns-in-Some
returns-in-Some g c =
    let set = c.requires.set in
    let here = names_in (at (tree_under (g.A.Files.view c.args.from.now) (g.K.Blocks.view c.args.disk.now)) c.args.path.now) in
    let first : (t : g.K.Blocks.told) → (above c.args.after.now here ≡ Some c.in-Some.next) × ComeNext here c.in-Some.next c.pop_at.new.self.items = λ t. first_ahead here c.args.after.now c.args.ahead.now.items c.pop_at.new.self.items c.in-Some.next c.in-Some.ensures.value c.in-Some.ensures.items (c.requires.ahead t) in
    record {
      told = λ t. sym (first t).0;
      ahead = λ t. (first t).1;
      only = λ t. tt;
      looks = looks_as (none_looks set.ready.unspent (λ t. g.met.K.Blocks.sound c.args.disk.now t set.ready.unspent) set.valid);
      same = refl;
    }

pub names_after-requires : goal.names_after-requires
names_after-requires g c =
    let set = c.requires.set in
    record { ready = set.ready; valid = set.valid; tree = λ t _. set.there t }

pub returns-in-Ok : goal.returns-in-Ok
returns-in-Ok g c =
    let set = c.requires.set in
    let pop = c.pop_at-in-Ok in
    let here = names_in (at (tree_under (g.A.Files.view c.args.from.now) (g.K.Blocks.view c.args.disk.now)) c.args.path.now) in
    let read : (t : g.K.Blocks.told) → (pop.result ≡ above c.args.after.now here) × IfSome pop.result (λ n. ComeNext here n pop.new.self.items) = λ t. read_first (g.A.Files.view c.args.from.now) (g.K.Blocks.view c.args.disk.now) set.mounted c.args.path.now (c.requires.dir t) c.args.after.now c.names_after.new.into.items pop.new.self.items pop.result pop.ensures.value pop.ensures.items (c.in-Ok.ensures.answer t).ok.0 in
    record { told = λ t. (read t).0; ahead = λ t. (read t).1; only = λ t. tt; looks = looks_as c.in-Ok.ensures.looks; same = c.in-Ok.ensures.same }

pub returns-in-Err : goal.returns-in-Err
returns-in-Err g c =
    let f = g.A.Files.view c.args.from.now in
    let old = g.K.Blocks.view c.args.disk.now in
    let set = c.requires.set in
    let lost = c.in-Err.ensures in
    record {
      told = λ t. tt;
      ahead = λ t. tt;
      only = λ t. never_refused f old (g.K.Blocks.view c.names_after.new.disk) (ask.Ls c.args.path.now) _ (λ _. TellsNames c.args.after.now c.names_after.new.into.items) (next_refused f old set.mounted c.args.path.now (c.requires.dir t)) (lost.answer t);
      looks = looks_err lost.looks;
      same = lost.same;
    }
