use Rattle.std.proofs.Common.{◌≡◌, [], ◌∷◌, ◌++◌, rules}
use Rattle.image_device.specs.declared.event.Event.TheVariants.{Put}
use Rattle.image_device.proofs.keep.keep_piece.Goals as goal

pub returns-clause-ok : goal.returns-clause-ok
returns-clause-ok c =
    let kept = c.in_ok-kept.kept in
    let is : kept.items ≡ c.args.piece.now = search rules in
    let logged : c.push.new.self.items ≡ c.args.log.now.items ++ Put kept ∷ [] = search rules in
    let grown : c.extend_from_slice.new.self.items ≡ c.args.sent.now.items ++ c.args.piece.now = search rules in
    (kept, is, logged, grown)
