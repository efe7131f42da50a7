use Rattle.std.proofs.Common.{◌≡◌, true, ◌++◌, [], ◌∷◌, length, ◌∙◌, refl, sym, ap, arith}
use Rattle.fs_copy.proofs.NestedLaws.{AfterNext, after_next, first_search, kind_looks, kind_lost, next_dir, next_file, next_looks, next_lost, next_named, next_none, next_source, next_there, root_lost, search_end, search_lost, search_never, search_source}
use Rattle.fs_copy.proofs.nested.first_dir.Given.{Over}
use Rattle.fs_copy.proofs.nested.first_dir.Goals.{In-Ok, In-Ok-push}
use Rattle.fs_copy.proofs.nested.first_dir.Goals as goal

-- after the next name is told
next : (g : Over) (c : In-Ok g) → AfterNext g.K.Blocks.told (g.A.Files.view c.args.from.now) (g.A.Files.view c.name_after.new.self) (g.K.Blocks.view c.args.disk.now)
    (g.K.Blocks.view c.loop-left.disk) (g.K.Blocks.view c.name_after.new.disk) c.loop-left.after c.loop-left.left c.in-Ok.next
next g c = after_next c.loop-left.invariant c.new-root.ensures c.in-Ok.ensures.answer c.in-Ok.ensures.looks c.in-Ok.ensures.same

-- the name's path
path : (g : Over) (c : In-Ok-push g) → c.in-Some.name ∷ [] ≡ c.push.new.self
path g c = sym (c.in-Ok-push.ensures.ok ∙ ap (λ p. p ++ c.in-Some.name ∷ []) c.new-path.ensures)

pub loop-left-init : goal.loop-left-init
loop-left-init g c = first_search c.requires.set (g.met.K.Blocks.sound c.args.disk.now) c.new-after.ensures refl

pub name_after-requires : goal.name_after-requires
name_after-requires g c =
    let source = search_source c.loop-left.invariant in
    record { ready = source.ready; valid = source.valid; tree = λ t _. source.there t }

pub returns-in-Err : goal.returns-in-Err
returns-in-Err g c =
    let here = c.loop-left.invariant in
    let lost = c.in-Err.ensures in
    record { told = λ t. tt; only = root_lost here c.new-root.ensures lost.answer; looks = search_lost here lost.looks; same = lost.same ∙ here.from_same }

pub returns-in-None : goal.returns-in-None
returns-in-None g c =
    let after = next g (goal.at.returns-in-None g c).In-Ok in
    record { told = next_none after c.in-None.is; only = λ t. tt; looks = next_looks after; same = after.from_same }

pub returns-in-Err-push : goal.returns-in-Err-push
returns-in-Err-push g c =
    let after = next g (goal.at.returns-in-Err-push g c).In-Ok in
    let never : g.K.Blocks.told → ⊥ = λ t. (let ok = c.in-Err-push.ensures.variant.1 (omega (arith, ap length c.new-path.ensures), next_named after c.in-Some.is t) in absurd (cc)) in
    record { told = λ t. tt; only = λ t ne. absurd (never t); looks = next_lost after never; same = after.from_same }

pub is_dir_at-requires : goal.is_dir_at-requires
is_dir_at-requires g c =
    let after = next g (goal.at.is_dir_at-requires g c).In-Ok in
    let is = path g (goal.at.is_dir_at-requires g c).In-Ok-push in
    record { set = next_source after; there = next_there after c.in-Some.is is }

pub returns-in-Err-is_dir_at : goal.returns-in-Err-is_dir_at
returns-in-Err-is_dir_at g c =
    let after = next g (goal.at.returns-in-Err-is_dir_at g c).In-Ok in
    let lost = c.in-Err-is_dir_at.ensures in
    record { told = λ t. tt; only = lost.only; looks = kind_lost after lost.looks; same = lost.same ∙ after.from_same }

pub returns-then-is_dir : goal.returns-then-is_dir
returns-then-is_dir g c =
    let after = next g (goal.at.returns-then-is_dir g c).In-Ok in
    let is = path g (goal.at.returns-then-is_dir g c).In-Ok-push in
    let kind = c.in-Ok-is_dir_at.ensures in
    record {
      told = next_dir after c.in-Some.is is kind.looks kind.told c.if-is_dir.true;
      only = λ t. tt;
      looks = kind_looks after c.in-Some.is is kind.looks kind.told;
      same = kind.same ∙ after.from_same;
    }

pub returns-in-None-pop : goal.returns-in-None-pop
returns-in-None-pop g c =
    let is = path g (goal.at.returns-in-None-pop g c).In-Ok-push in
    let never : ⊥ = (let some = c.in-None-pop.ensures.variant.1 (omega (arith, ap length is)) in absurd (cc)) in
    absurd never

pub loop-left-preserved : goal.loop-left-preserved
loop-left-preserved g c =
    let after = next g (goal.at.loop-left-preserved g c).In-Ok in
    let is = path g (goal.at.loop-left-preserved g c).In-Ok-push in
    let kind = c.in-Ok-is_dir_at.ensures in
    next_file after c.in-Some.is is kind.looks kind.told c.pop.new.self c.if-is_dir.false c.loop-left-test.true c.in-Some-pop.ensures.some kind.same

pub returns : goal.returns
returns g c =
    let here = c.loop-left.invariant in
    let none : c.loop-left.left ≡ 0 = omega (arith, c.loop-left-test.false) in
    record { told = λ t. tt; only = λ t ne. search_never here none t; looks = search_end here none; same = here.from_same }
