use Rattle.std.proofs.Common.{◌≡◌, ◌≢◌, ◌+◌, Bool, true, false, sym, ◌∙◌, ap, subst, arith, Ok, Err, Some}
use Rattle.fs_trees.specs.declared.refusal.FsRefusal.TheVariants as no
use Rattle.chain_changes.proofs.Common.{runs_look, runs_refused, runs_but_refuses, runs_as, IsAside, NewChain}
use Rattle.chain_changes.proofs.ChainLaws.{Chaining, chaining_begins, aside_first, above_may, runs_on, Stopped, stopped_so, given_up, chaining_on, room_for_all, no_fault_before}
use Rattle.chain_changes.proofs.blocks.new_chain.Goals.{After-as_slice}
use Rattle.chain_changes.proofs.blocks.new_chain.Goals as goal

not_fault : (t : Bool) → t ≡ false → t ≡ true → ⊥
not_fault t p q = cc

no_false : false ≡ true → ⊥
no_false e = cc

-- a rule refuses a further block
stopped : (g : _) (c : After-as_slice g)
    → Stopped g.K.Blocks.told c.args.client.now (g.K.Blocks.view c.args.disk.now) (g.K.Blocks.view c.new_block.new.disk) c.args.source c.args.count c.loop-made.made c.as_slice.result.now c.in-Err-new_block.refusal
stopped g c =
    let h = c.in-Err-new_block.ensures in
    let ne : c.in-Err-new_block.refusal ≢ no.Device = λ d. not_fault c.is_fault.result c.if-is_fault.false (c.is_fault.ensures.1 d) in
    stopped_so c.loop-made.invariant c.requires.stage c.requires.may c.loop-made-test.true ne h.steps (λ t. h.full t ne) c.as_slice.ensures.value

pub check_free-requires : goal.check_free-requires
check_free-requires g c = record { unspent = c.requires.unspent; valid = c.requires.valid }

pub returns-in-Err : goal.returns-in-Err
returns-in-Err g c =
    let told = g.K.Blocks.told in
    let first = g.K.Blocks.view c.args.disk.now in
    let new = g.K.Blocks.view c.check_free.new.disk in
    let root = c.args.client.now.root in
    let e = c.in-Err.ensures in
    record {
      made = λ t. tt;
      many = tt;
      linkable = tt;
      room = λ t. tt;
      full = λ t ne. e.full t ne c.args.count;
      same = λ t ne. ((e.looks.looked t).1 ne).world;
      runs = runs_refused told first new (IsAside root first.world) c.in-Err.refusal
          (runs_look told first new (IsAside root first.world) (Err c.in-Err.refusal) (λ t w is. subst (IsAside root first.world) (sym is) (aside_first root first.world c.args.source (c.requires.stage t))) e.looks);
    }

pub loop-made-init : goal.loop-made-init
loop-made-init g c =
    let told = g.K.Blocks.told in
    let first = g.K.Blocks.view c.args.disk.now in
    let mid = g.K.Blocks.view c.check_free.new.disk in
    subst (Chaining told c.args.client.now first mid c.args.source c.args.count 0 c.args.source) (sym c.new-blocks.ensures)
    (chaining_begins told c.args.client.now first mid c.args.source c.args.count c.in-Ok.ensures.looks c.requires.valid c.requires.stage c.in-Ok.ensures.enough)

pub new_block-requires : goal.new_block-requires
new_block-requires g c =
    let told = g.K.Blocks.told in
    let first = g.K.Blocks.view c.args.disk.now in
    let now = g.K.Blocks.view c.loop-made.disk in
    let inv = c.loop-made.invariant in
    record {
      unspent = inv.runs.unspent.0;
      valid = λ t. (inv.runs.valid t).0;
      may = λ t. above_may told c.args.client.now first now now c.args.source c.args.count c.loop-made.made c.loop-made.above c.loop-made.blocks inv c.requires.stage t (c.requires.may t);
    }

pub returns-then-is_fault : goal.returns-then-is_fault
returns-then-is_fault g c =
    let h = c.in-Err-new_block.ensures in
    let e = c.in-Err-new_block.refusal in
    let fault : e ≡ no.Device = c.is_fault.ensures.0 c.if-is_fault.true in
    record {
      made = λ t. tt;
      many = tt;
      linkable = tt;
      room = λ t. tt;
      full = λ t ne. absurd (ne fault);
      same = λ t ne. absurd (ne fault);
      runs = runs_refused _ _ _ _ e (runs_on _ _ _ _ (g.K.Blocks.view c.new_block.new.disk) _ _ _ _ _ c.loop-made.invariant c.requires.stage c.loop-made-test.true (Err e) h.steps);
    }

pub give_up-requires : goal.give_up-requires
give_up-requires g c =
    let s = stopped g (goal.at.give_up-requires g c).After-as_slice in
    record { unspent = s.so_far.unspent.0; valid = λ t. (s.so_far.valid t).0; may = s.may; making = λ t. (_, s.stage t, s.making t) }

pub returns-in-Ok-give_up : goal.returns-in-Ok-give_up
returns-in-Ok-give_up g c =
    let s = stopped g (goal.at.returns-in-Ok-give_up g c).After-as_slice in
    let u = c.in-Ok-give_up.ensures in
    let is = c.held_before.ensures in
    record {
      made = λ t. tt;
      many = tt;
      linkable = tt;
      room = λ t. tt;
      full = λ t _. s.full t ∙ ap (λ r. Some r) (sym is);
      same = λ t _. u.back t _ (s.stage t) (s.making t);
      runs = runs_but_refuses _ _ _ _ tt c.held_before.result (λ d. no_fault_before c.in-Err-new_block.refusal c.loop-made.made s.ne (sym is ∙ d)) (given_up s (g.K.Blocks.view c.give_up.new.disk) (Ok tt) u.runs);
    }

pub returns-in-Err-give_up : goal.returns-in-Err-give_up
returns-in-Err-give_up g c =
    let s = stopped g (goal.at.returns-in-Err-give_up g c).After-as_slice in
    let u = c.in-Err-give_up.ensures in
    let fault = c.in-Err-give_up.fault in
    record {
      made = λ t. tt;
      many = tt;
      linkable = tt;
      room = λ t. tt;
      full = λ t other. absurd (other (u.only t));
      same = λ t other. absurd (other (u.only t));
      runs = runs_refused _ _ _ _ fault (given_up s (g.K.Blocks.view c.give_up.new.disk) (Err fault) u.runs);
    }

pub returns-in-Err-push : goal.returns-in-Err-push
returns-in-Err-push g c =
    let inv = c.loop-made.invariant in
    let few = c.loop-made-test.true in
    let b = c.in-Ok-new_block.block in
    let never : g.K.Blocks.told → ⊥ = λ t. let most = c.requires.few t in let many = inv.many in no_false (c.in-Err-push.ensures.variant.1 (omega (arith, most, many, few))) in
    record {
      made = λ t. tt;
      many = tt;
      linkable = tt;
      room = λ t. tt;
      full = λ t. absurd (never t);
      same = λ t. absurd (never t);
      runs = runs_but_refuses _ _ _ _ b no.NotThisFs (λ d. cc) (runs_on _ _ _ _ (g.K.Blocks.view c.new_block.new.disk) _ _ _ _ _ inv c.requires.stage few (Ok b) c.in-Ok-new_block.ensures.steps);
    }

pub loop-made-preserved : goal.loop-made-preserved
loop-made-preserved g c =
    let new = g.K.Blocks.view c.new_block.new.disk in
    let h = c.in-Ok-new_block.ensures in
    let b = c.in-Ok-new_block.block in
    subst (Chaining g.K.Blocks.told c.args.client.now (g.K.Blocks.view c.args.disk.now) new c.args.source c.args.count (c.loop-made.made + 1) b) (sym c.in-Ok-push.ensures.ok)
    (chaining_on _ _ _ _ new _ _ _ _ _ c.loop-made.invariant c.requires.stage c.loop-made-test.true b h.steps h.block h.linkable c.requires.may)

pub returns : goal.returns
returns g c =
    let told = g.K.Blocks.told in
    let me = c.args.client.now in
    let first = g.K.Blocks.view c.args.disk.now in
    let now = g.K.Blocks.view c.loop-made.disk in
    let inv = c.loop-made.invariant in
    let made = c.loop-made.made in
    let all : c.loop-made.made ≡ c.args.count = omega arith in
    record {
      made = λ t. subst (λ n. NewChain me first now c.args.source n c.loop-made.blocks) all (inv.chain t);
      many = inv.many ∙ all;
      linkable = inv.linkable;
      room = λ t. room_for_all told me first now now c.args.source c.args.count c.loop-made.made c.loop-made.above c.loop-made.blocks inv c.requires.stage t all;
      full = λ t. tt;
      same = λ t. tt;
      runs = runs_as told first now (IsAside me.root first.world) tt c.loop-made.blocks inv.runs;
    }
