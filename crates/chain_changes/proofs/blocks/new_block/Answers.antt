use Rattle.std.proofs.Common.{◌≡◌, ℕ, sym, ◌∙◌, arith, Option, Some, None}
use Rattle.fs_trees.specs.declared.refusal.FsRefusal.TheVariants as no
use Rattle.chain_changes.proofs.Common.{alloc_by, taken}
use Rattle.chain_changes.proofs.ChainLaws.{as_block, as_refused, no_block, one_chosen}
use Rattle.chain_changes.proofs.blocks.new_block.Goals as goal

pub take_blocks-requires : goal.take_blocks-requires
take_blocks-requires g c = record { unspent = c.requires.unspent; valid = c.requires.valid; may = c.requires.may; some = omega arith; few = omega arith }

pub returns-in-Err : goal.returns-in-Err
returns-in-Err g c =
    let old = g.K.Blocks.view c.args.disk.now in
    let new = g.K.Blocks.view c.take_blocks.new.disk in
    let h = c.in-Err.ensures in
    record {
      steps = as_refused g.K.Blocks.told c.args.client.now old new (alloc_by c.args.client.now c.args.source 1) c.args.source (taken old c.args.source 1) c.in-Err.refusal h.steps;
      block = λ t. tt;
      linkable = tt;
      full = h.full;
    }

pub returns-in-Some : goal.returns-in-Some
returns-in-Some g c =
    let old = g.K.Blocks.view c.args.disk.now in
    let new = g.K.Blocks.view c.take_blocks.new.disk in
    let h = c.in-Ok.ensures in
    record {
      steps = as_block g.K.Blocks.told c.args.client.now old new (alloc_by c.args.client.now c.args.source 1) c.args.source (taken old c.args.source 1) c.in-Ok.blocks c.in-Some.block h.steps;
      block = λ t. sym (h.blocks t) ∙ c.in-Some.ensures.one;
      linkable = c.in-Some.ensures.linkable;
      full = λ t. tt;
    }

pub returns-in-None : goal.returns-in-None
returns-in-None g c =
    let old = g.K.Blocks.view c.args.disk.now in
    let new = g.K.Blocks.view c.take_blocks.new.disk in
    let h = c.in-Ok.ensures in
    let never : g.K.Blocks.told → ⊥ = λ t.
    let one = one_chosen old c.args.source (c.requires.valid t).valid (h.room t) in
    not_both c.the_block.result one.0 (c.the_block.ensures.found one.0 (h.blocks t ∙ one.1) one.2) c.in-None.is in
    record {
      steps = no_block g.K.Blocks.told c.args.client.now old new (alloc_by c.args.client.now c.args.source 1) c.args.source (taken old c.args.source 1) c.in-Ok.blocks no.NotThisFs (λ e. cc) never h.steps;
      block = λ t. tt;
      linkable = tt;
      full = λ t. absurd (never t);
    }
  where
    not_both : (o : Option ℕ) (b : ℕ) → o ≡ Some b → ◌≡◌ {A = Option ℕ} o None → ⊥
    not_both o b e f = cc
