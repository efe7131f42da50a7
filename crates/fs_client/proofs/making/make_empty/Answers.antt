use contract.BorrowLft.{⊑_static}
use Rattle.std.proofs.Common.{◌<◌, sym, subst, Ok, Err}
use Rattle.fs_trees.specs.declared.ask.ShellAsk.TheVariants as ask
use Rattle.fs_client.proofs.Common.{IsEitherTree, write_by, MayWrite, written, files_by, root_alone, IsTrim}
use Rattle.fs_client.proofs.RootLaws.{root_may}
use Rattle.fs_client.proofs.RunLaws.{ready_still, runs_step, then_runs, runs_more}
use Rattle.fs_client.proofs.MakeLaws.{stop_at_write, may_trim, stop_after, made}
use Rattle.fs_client.proofs.making.make_empty.Goals as goal

pub write_block-requires : goal.write_block-requires
write_block-requires g c =
    let first = g.K.Blocks.view c.args.disk.now in
    let may = c.requires.1 in
    record {
      unspent = may.ready.unspent;
      valid = may.valid;
      may = λ t. root_may g.kind c.args.client.now first may.ready (may.valid t) (g.met.K.Blocks.sound c.args.disk.now t may.ready.unspent);
      fits = may.fits;
    }

pub returns-in-Err : goal.returns-in-Err
returns-in-Err g c =
    let told = g.K.Blocks.told in
    let first = g.K.Blocks.view c.args.disk.now in
    let wr = g.K.Blocks.view c.write_block.new.disk in
    let me = c.args.client.now in
    let x = c.args.bytes in
    let may = c.requires.1 in
    let e = c.in-Err.ensures in
    let r = c.in-Err.refusal in
    let P = IsEitherTree (files_by g.kind me) first ask.Make in
    let primary : told → me.root < first.world.geometry.primaries = λ t. subst (λ y. me.root < y.primaries) (sym (g.met.K.Blocks.sound c.args.disk.now t may.ready.unspent).geometry) may.ready.primary in
    record {
      made = λ t. tt;
      only = e.only;
      runs = runs_step told me first wr (write_by me me.root x) me.root (written first.world me.root x) P (Err r) may.valid (λ t. stop_at_write g.kind me first x (may.valid t) (primary t) (may.empty t)) e.steps;
    }

pub delete_others-requires : goal.delete_others-requires
delete_others-requires g c κs within =
    let told = g.K.Blocks.told in
    let first = g.K.Blocks.view c.args.disk.now in
    let wr = g.K.Blocks.view c.write_block.new.disk in
    let me = c.args.client.now in
    let x = c.args.bytes in
    let may = c.requires.1 in
    let steps = c.in-Ok.ensures.steps in
    let primary : told → me.root < first.world.geometry.primaries = λ t. subst (λ y. me.root < y.primaries) (sym (g.met.K.Blocks.sound c.args.disk.now t may.ready.unspent).geometry) may.ready.primary in
    let ready = ready_still (files_by g.kind me) first wr steps.stays.0 steps.counts steps.unspent.0 may.ready in
    let may_root : told → MayWrite me wr me.root = λ t. root_may g.kind me wr ready (steps.went t).valid (g.met.K.Blocks.sound c.write_block.new.disk t steps.unspent.0) in (
      within,
      (
        ⊑_static _,
        record {
          unspent = steps.unspent.0;
          valid = λ t. (steps.went t).valid;
          trim = λ t. may_trim g.kind me first x (may.valid t) (primary t) (may.empty t) wr (steps.went t) (may_root t);
        },
      ),
    )

pub returns-in-Ok-delete_others : goal.returns-in-Ok-delete_others
returns-in-Ok-delete_others g c =
    let told = g.K.Blocks.told in
    let first = g.K.Blocks.view c.args.disk.now in
    let wr = g.K.Blocks.view c.write_block.new.disk in
    let fin = g.K.Blocks.view c.delete_others.new.disk in
    let me = c.args.client.now in
    let x = c.args.bytes in
    let may = c.requires.1 in
    let steps = c.in-Ok.ensures.steps in
    let h = c.in-Ok-delete_others.ensures in
    let P = IsEitherTree (files_by g.kind me) first ask.Make in
    let primary : told → me.root < first.world.geometry.primaries = λ t. subst (λ y. me.root < y.primaries) (sym (g.met.K.Blocks.sound c.args.disk.now t may.ready.unspent).geometry) may.ready.primary in
    let before = runs_step told me first wr (write_by me me.root x) me.root (written first.world me.root x) P (Ok tt) may.valid (λ t. stop_at_write g.kind me first x (may.valid t) (primary t) (may.empty t)) steps in
    record {
      made = λ t. made g.kind me first x (may.valid t) (primary t) (may.empty t) wr (steps.went t) fin (h.trims.trimmed t) (h.named t) h.trims.runs.unspent.0;
      only = λ t. tt;
      runs = then_runs told first wr fin P tt (Ok tt) before
          (runs_more told wr fin (IsTrim me (root_alone me.root) wr) P (Ok tt) (λ t. stop_after g.kind me first x (may.valid t) (primary t) (may.empty t) wr (steps.went t)) h.trims.runs);
    }

pub returns-in-Err-delete_others : goal.returns-in-Err-delete_others
returns-in-Err-delete_others g c =
    let told = g.K.Blocks.told in
    let first = g.K.Blocks.view c.args.disk.now in
    let wr = g.K.Blocks.view c.write_block.new.disk in
    let fin = g.K.Blocks.view c.delete_others.new.disk in
    let me = c.args.client.now in
    let x = c.args.bytes in
    let may = c.requires.1 in
    let steps = c.in-Ok.ensures.steps in
    let h = c.in-Err-delete_others.ensures in
    let r = c.in-Err-delete_others.refusal in
    let P = IsEitherTree (files_by g.kind me) first ask.Make in
    let primary : told → me.root < first.world.geometry.primaries = λ t. subst (λ y. me.root < y.primaries) (sym (g.met.K.Blocks.sound c.args.disk.now t may.ready.unspent).geometry) may.ready.primary in
    let before = runs_step told me first wr (write_by me me.root x) me.root (written first.world me.root x) P (Ok tt) may.valid (λ t. stop_at_write g.kind me first x (may.valid t) (primary t) (may.empty t)) steps in
    record {
      made = λ t. tt;
      only = h.trims.only;
      runs = then_runs told first wr fin P tt (Err r) before
          (runs_more told wr fin (IsTrim me (root_alone me.root) wr) P (Err r) (λ t. stop_after g.kind me first x (may.valid t) (primary t) (may.empty t) wr (steps.went t)) h.trims.runs);
    }
