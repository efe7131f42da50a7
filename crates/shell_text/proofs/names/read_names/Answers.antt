-- The word that was cut goes from the words that are left to the path.
use Rattle.std.proofs.Common.{◌≡◌, ◌∷◌, [], ◌++◌, sym, ap, ◌∙◌, append_assoc}
use Rattle.shell_text.specs.Reading.{left}
use Rattle.shell_text.proofs.names.read_names.Goals as goal

pub loop-rest-preserved : goal.loop-rest-preserved
loop-rest-preserved c =
    let path = c.loop-rest.path in
    let next : left 47 c.loop-rest.rest ≡ c.cut.result.0.now ∷ left 47 c.cut.result.1 = ap (left 47) c.in-Some.is ∙ c.cut.ensures in
    ap (λ q. q ++ left 47 c.cut.result.1) c.in-Ok.ensures.ok
    ∙ append_assoc path (c.cut.result.0.now ∷ []) (left 47 c.cut.result.1)
    ∙ ap (λ ws. path ++ ws) (sym next)
    ∙ c.loop-rest.invariant
