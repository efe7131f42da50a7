use Rattle.std.proofs.Common.{ℕ, ◌+◌, ◌*◌, ◌≡◌, ◌≤◌, List, length, take, sym, subst, ◌∙◌, arith}
use Rattle.image_files.specs.Bytes.{IsWritten}
use Rattle.image_files.proofs.Overlaid.{none, sent}
use Rattle.image_files.proofs.joined.Joined.send.Goals as goal

pub returns-in-Ok-clause-same : goal.returns-in-Ok-clause-same
returns-in-Ok-clause-same g c =
    let waiting = c.args.self.now.waiting in
    let content = g.F.Sectors.content in
    let left = c.forget.new.self in
    let old = content c.args.self.now.file in
    let new = content c.write.new.self in
    λ told. none left.first left.count left.room.items new c.forget.ensures.empty
    ∙ sent waiting.first waiting.count waiting.room.items old new (omega (arith, waiting.fits))
    (subst (λ (l : List ℕ). IsWritten (512 * waiting.first) l old new) c.bytes.ensures
    (subst (λ (n : ℕ). IsWritten (512 * n) c.bytes.result.now old new) c.first.ensures (c.in-Ok.ensures told)))
