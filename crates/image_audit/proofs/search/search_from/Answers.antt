use Rattle.std.proofs.Common.{◌+◌, refl, ap, ◌∙◌, subst, length, arith, Some, None}
use Rattle.image_audit.proofs.Common.{length-set, IsNextTarget, told_by}
use Rattle.image_audit.proofs.LevelLaws.{noted_next, source_done}
use Rattle.image_audit.proofs.search.search_from.Goals as goal

pub loop-next-preserved : goal.loop-next-preserved
loop-next-preserved c =
    let inv = c.loop-next.invariant in
    let some = c.in-Some.ensures in
    let made = c.in_ok-note.ensures in record {
      size = ap length made.entries ∙ (length-set c.loop-next.entries c.in-Some.target _ ∙ inv.size);
      source = c.next.ensures.source ∙ inv.source;
      page = c.next.ensures.page;
      from = let up = some.from in let low = some.target in omega (arith, up, low);
      searched = noted_next (told_by c.args.volume.now) c.args.depth c.args.volume.now.tables.geometry.blocks c.args.source c.loop-next.targets.from c.in-Some.target
          c.loop-next.next.items c.args.next.now.items c.note.new.next.items c.args.entries.now c.loop-next.entries c.note.new.entries c.next.new.self.from (c.args.depth + 1)
          (subst (λ n. IsNextTarget (told_by c.args.volume.now).pairs n c.loop-next.targets.from (Some c.in-Some.target)) inv.source some.next) some.target (inv.size ∙ c.requires.size) some.from refl made.entries made.next inv.searched;
    }

pub returns-clause-searched : goal.returns-clause-searched
returns-clause-searched c roots level done at s =
    let inv = c.loop-next.invariant in
    source_done (told_by c.args.volume.now) roots c.args.depth level done c.args.source c.loop-next.next.items c.loop-next.entries c.loop-next.targets.from
    (subst (λ n. IsNextTarget (told_by c.args.volume.now).pairs n c.loop-next.targets.from None) inv.source c.in_default.ensures.next) (inv.searched roots level done at s)
