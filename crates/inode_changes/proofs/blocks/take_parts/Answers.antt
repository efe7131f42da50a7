use Rattle.std.proofs.Common.{◌≡◌, ◌≢◌, ◌≤◌, ℕ, zero, suc, [], length, refl, sym, ◌∙◌, ap, subst, arith, Ok, Err}
use Rattle.inode_changes.proofs.Common.{At, alloc_by, no_look, taken, runs_look, runs_step, runs_as, runs_but_refuses, room_there, there_is_room, chosen_enough, AsideTaking, Took}
use Rattle.fs_trees.specs.declared.refusal.FsRefusal.TheVariants as no
use Rattle.inode_changes.proofs.FillLaws.{aside_taking_same, took_none, stop_at_take, took_some}
use Rattle.inode_changes.proofs.blocks.take_parts.Goals as goal

pub returns-then-count-eq0 : goal.returns-then-count-eq0
returns-then-count-eq0 g c =
    let told = g.K.Blocks.told in
    let old = g.K.Blocks.view c.args.disk.now in
    let me = c.args.client.now in
    let i = c.args.inode in
    let zero_is : c.args.count ≡ 0 = c.if-count-eq0.true in
    record {
      each = ap length c.new.ensures ∙ sym zero_is;
      took = λ t. subst (λ bs. Took me old old i c.args.count bs) (sym c.new.ensures) (subst (λ n. Took me old old i n []) (sym zero_is) (took_none me old i));
      room = λ t.
          let most = (c.requires.valid t).valid.raw.sized.room in
          room_there old.world c.args.count c.args.count (omega (arith, zero_is)) (omega (arith, zero_is, most));
      full = λ t. tt;
      same = λ t. tt;
      runs = runs_as told old old (AsideTaking me.root i old.world) tt c.new.result
          (runs_look told old old (AsideTaking me.root i old.world) (Ok tt) (λ t w e. aside_taking_same me.root i old.world w e)
          (no_look told old c.requires.unspent (λ t. g.met.K.Blocks.sound c.args.disk.now t c.requires.unspent) c.requires.valid));
    }

pub take_blocks-requires : goal.take_blocks-requires
take_blocks-requires g c = record {
  unspent = c.requires.unspent;
  valid = c.requires.valid;
  may = c.requires.may;
  some = some c.args.count c.if-count-eq0.false;
  few = c.if-count-gt-TAKEN_MAX.false;
}
  where
    some : (n : ℕ) → n ≢ 0 → 1 ≤ n
    some zero h = absurd (h refl)
    some (suc n) h = omega arith

-- no more are asked of a disk that tells
pub returns-then-count-gt-TAKEN_MAX : goal.returns-then-count-gt-TAKEN_MAX
returns-then-count-gt-TAKEN_MAX g c =
    let told = g.K.Blocks.told in
    let old = g.K.Blocks.view c.args.disk.now in
    let never : told → ⊥ = λ t. let few = c.requires.few t in omega (arith, few, c.if-count-gt-TAKEN_MAX.true) in
    record {
      each = tt;
      took = λ t. tt;
      room = λ t. tt;
      full = λ t. absurd (never t);
      same = λ t. absurd (never t);
      runs = runs_but_refuses told old old (AsideTaking c.args.client.now.root c.args.inode old.world) tt no.NotThisFs (λ e. cc) (runs_look told old old (AsideTaking c.args.client.now.root c.args.inode old.world) (Ok tt) (λ t. absurd (never t))
          (no_look told old c.requires.unspent (λ t. g.met.K.Blocks.sound c.args.disk.now t c.requires.unspent) c.requires.valid));
    }

pub returns-then-len-count : goal.returns-then-len-count
returns-then-len-count g c =
    let told = g.K.Blocks.told in
    let old = g.K.Blocks.view c.args.disk.now in
    let new = g.K.Blocks.view c.take_blocks.new.disk in
    let me = c.args.client.now in
    let i = c.args.inode in
    let n = c.args.count in
    let h = c.in-Ok.ensures in
    record {
      each = sym c.len.ensures.value ∙ c.if-len-count.true;
      took = λ t. subst (Took me old new i n) (sym (h.blocks t)) (took_some me old i n (c.requires.valid t) new (c.requires.may t) (h.steps.went t) h.steps.stays.0);
      room = h.room;
      full = λ t. tt;
      same = λ t. tt;
      runs = runs_step told me old new (alloc_by me i n) i (taken old i n) (AsideTaking me.root i old.world) (Ok c.in-Ok.blocks) c.requires.valid (λ t. stop_at_take me old i n (c.requires.valid t)) h.steps;
    }

-- a disk that tells gives as many as were asked
pub returns-else-len-count : goal.returns-else-len-count
returns-else-len-count g c =
    let told = g.K.Blocks.told in
    let old = g.K.Blocks.view c.args.disk.now in
    let new = g.K.Blocks.view c.take_blocks.new.disk in
    let me = c.args.client.now in
    let i = c.args.inode in
    let n = c.args.count in
    let h = c.in-Ok.ensures in
    let never : told → ⊥ = λ t. c.if-len-count.false (c.len.ensures.value ∙ (ap length (h.blocks t) ∙ chosen_enough old.kind old.world (At i) n (there_is_room old.world n n (h.room t)).0)) in
    record {
      each = tt;
      took = λ t. tt;
      room = λ t. tt;
      full = λ t. absurd (never t);
      same = λ t. absurd (never t);
      runs = runs_but_refuses told old new (AsideTaking me.root i old.world) c.in-Ok.blocks no.NotThisFs (λ e. cc)
          (runs_step told me old new (alloc_by me i n) i (taken old i n) (AsideTaking me.root i old.world) (Ok c.in-Ok.blocks) c.requires.valid (λ t. stop_at_take me old i n (c.requires.valid t)) h.steps);
    }

pub returns-in-Err : goal.returns-in-Err
returns-in-Err g c =
    let told = g.K.Blocks.told in
    let old = g.K.Blocks.view c.args.disk.now in
    let new = g.K.Blocks.view c.take_blocks.new.disk in
    let me = c.args.client.now in
    let i = c.args.inode in
    let n = c.args.count in
    let h = c.in-Err.ensures in
    record {
      each = tt;
      took = λ t. tt;
      room = λ t. tt;
      full = h.full;
      same = h.steps.same;
      runs = runs_step told me old new (alloc_by me i n) i (taken old i n) (AsideTaking me.root i old.world) (Err c.in-Err.refusal) c.requires.valid (λ t. stop_at_take me old i n (c.requires.valid t)) h.steps;
    }
