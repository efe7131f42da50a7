use Rattle.std.proofs.Common.{◌≡◌, false, cond, sym, ◌∙◌, ap, arith, None}
use Rattle.fs_copy.proofs.Common.{has_dirs, nat_tests, tree_under, first_dir}
use Rattle.fs_copy.proofs.FlatLaws.{none_either, none_nested}
use Rattle.fs_copy.proofs.NestedLaws.{looks_as, none_looks, when_none}
use Rattle.fs_copy.proofs.copy.nested_dir.Goals as goal

pub returns-then-has_dirs-clause-told : goal.returns-then-has_dirs-clause-told
returns-then-has_dirs-clause-told g c =
    let f = g.A.Files.view c.args.from.now in
    let old = g.K.Blocks.view c.args.disk.now in
    let d = first_dir (tree_under f old) in
    λ t. sym (ap (λ b. cond b None d) (sym c.has_dirs.ensures ∙ c.if-has_dirs.true))

pub returns-then-has_dirs-clause-looks : goal.returns-then-has_dirs-clause-looks
returns-then-has_dirs-clause-looks g c =
    let told = g.K.Blocks.told in
    let old = g.K.Blocks.view c.args.disk.now in
    looks_as (none_looks c.requires.set.ready.unspent (λ t. g.met.K.Blocks.sound c.args.disk.now t c.requires.set.ready.unspent) c.requires.set.valid)

pub returns-then-not-has_dirs-clause-told : goal.returns-then-not-has_dirs-clause-told
returns-then-not-has_dirs-clause-told g c =
    let f = g.A.Files.view c.args.from.now in
    let old = g.K.Blocks.view c.args.disk.now in
    let none : has_dirs f.kind ≡ false = sym c.has_dirs-2.ensures ∙ (let no_dirs = c.if-not-has_dirs.true in grind (arith, nat_tests)) in
    λ t. none_either (has_dirs (g.B.Files.view c.args.into.now).kind) (first_dir (tree_under f old)) (none_nested f.kind old.world f.root none)

pub returns-then-not-has_dirs-clause-looks : goal.returns-then-not-has_dirs-clause-looks
returns-then-not-has_dirs-clause-looks g c =
    looks_as (none_looks c.requires.set.ready.unspent (λ t. g.met.K.Blocks.sound c.args.disk.now t c.requires.set.ready.unspent) c.requires.set.valid)

pub first_dir-requires : goal.first_dir-requires
first_dir-requires g c =
    record { set = c.requires.set }

pub returns-clause-told : goal.returns-clause-told
returns-clause-told g c =
    let f = g.A.Files.view c.args.from.now in
    let old = g.K.Blocks.view c.args.disk.now in
    let d = first_dir (tree_under f old) in
    λ t. when_none c.first_dir.result _ None d (sym c.has_dirs.ensures ∙ c.if-has_dirs.false) (c.first_dir.ensures.told t)
