use Rattle.std.proofs.Common.{◌==◌, refl, sym, ◌∙◌, ap, arith}
use Rattle.std.proofs.lemmas.Bool.{ne_eqb}
use Rattle.inode_layout.specs.Block.{inode_of}
use Rattle.inode_layout.specs.Said.{blocks_said}
use Rattle.inode_layout.proofs.HeadLaws.{is_here, is_later, none_later}
use Rattle.inode_layout.proofs.inode.Inode.names.Goals as goal

pub loop-position-init : goal.loop-position-init
loop-position-init c = refl

pub named-requires : goal.named-requires
named-requires c = omega (arith, c.loop-position-test.true, c.count-position-end.ensures.value)

pub returns-then-named-block : goal.returns-then-named-block
returns-then-named-block c =
    sym (c.loop-position.invariant ∙ is_here (blocks_said (inode_of c.args.self.now)) c.loop-position.position c.args.block (omega (arith, c.loop-position-test.true, c.count-position-end.ensures.value)) (sym c.named.ensures ∙ c.if-named-block.true))

pub loop-position-preserved : goal.loop-position-preserved
loop-position-preserved c =
    c.loop-position.invariant
    ∙ is_later (blocks_said (inode_of c.args.self.now)) c.loop-position.position c.args.block (omega (arith, c.loop-position-test.true, c.count-position-end.ensures.value))
    (ap (λ k. k == c.args.block) (sym c.named.ensures) ∙ ne_eqb c.named.result c.args.block c.if-named-block.false)

pub returns : goal.returns
returns c = sym (c.loop-position.invariant ∙ none_later (blocks_said (inode_of c.args.self.now)) c.loop-position.position c.args.block (omega (arith, c.loop-position-test.false, c.count-position-end.ensures.value)))
