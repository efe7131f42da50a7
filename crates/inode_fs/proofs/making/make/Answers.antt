use Rattle.std.proofs.Common.{◌<◌, ◌≤◌, length, sym, subst}
use Rattle.inode_fs.proofs.Common.{block_len, written, IsEmptied}
use Rattle.fs_trees.specs.declared.ask.ShellKind.TheVariants as kind
use Rattle.inode_fs.proofs.MakeLaws.{empty_fits, emptied}
use Rattle.inode_fs.proofs.making.make.Goals as goal

pub make_empty-requires : goal.make_empty-requires
make_empty-requires g c κs within =
    let v = g.K.Blocks.view c.args.disk.now in
    let me = c.args.client.now in
    let primary : g.K.Blocks.told → me.root < v.world.geometry.primaries = λ t. subst (λ x. me.root < x.primaries) (sym (g.met.K.Blocks.sound c.args.disk.now t c.requires.ready.unspent).geometry) c.requires.ready.primary in (
      within,
      record {
        ready = c.requires.ready;
        valid = c.requires.valid;
        fits = λ t. subst (λ x. length x ≤ block_len v.world.geometry) (sym c.empty_directory.ensures) (empty_fits v.world (c.requires.valid t).valid);
        empty = λ t. subst (λ x. IsEmptied kind.Inode (written v.world me.root x) me.root) (sym c.empty_directory.ensures) (emptied v.world me.root (c.requires.valid t).valid (primary t));
      },
    )

pub returns : goal.returns
returns g c = record { made = c.make_empty.ensures.made; only = c.make_empty.ensures.only; runs = c.make_empty.ensures.runs }
