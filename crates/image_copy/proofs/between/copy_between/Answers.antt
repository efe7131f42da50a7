use Rattle.std.proofs.Common.{refl, sym, subst}
use Rattle.image_shell.proofs.Common.{AreApart, FilesView, IsDiskSound}
use Rattle.image_copy.specs.Steps.{CopiesBetween}
use Rattle.image_copy.proofs.BetweenLaws.{apart_then, copied_between, not_mounted}
use Rattle.image_copy.proofs.between.copy_between.Goals as goal

pub copy_tree-requires-clause-apart : goal.copy_tree-requires-clause-apart
copy_tree-requires-clause-apart g c =
    let told = g.K.Blocks.told in
    let f = g.A.Files.view c.args.from.now in
    let to = g.B.Files.view c.args.into.now in
    let old = g.K.Blocks.view c.args.disk.now in
    let mid = g.K.Blocks.view c.mount.new.disk in
    let sound : told → IsDiskSound old = λ t. g.met.K.Blocks.sound c.args.disk.now t c.requires.from_ready.unspent in
    let sound_then : told → IsDiskSound mid = λ t. g.met.K.Blocks.sound c.mount.new.disk t c.in-Ok.ensures.runs.unspent.0 in
    λ t. subst (λ (h : FilesView). AreApart mid.world h.root to.root) (sym c.in-Ok.ensures.mounted)
    (apart_then told f to old c.requires.apart sound c.requires.into_ready c.requires.valid mid sound_then c.in-Ok.field-0 c.in-Ok.ensures.finds c.in-Ok.ensures.runs t)

pub returns-in-Ok : goal.returns-in-Ok
returns-in-Ok g c =
    let told = g.K.Blocks.told in
    let f = g.A.Files.view c.args.from.now in
    let to = g.B.Files.view c.args.into.now in
    let old = g.K.Blocks.view c.args.disk.now in
    let mid = g.K.Blocks.view c.mount.new.disk in
    let new = g.K.Blocks.view c.copy_tree.new.disk in
    let sound : told → IsDiskSound old = λ t. g.met.K.Blocks.sound c.args.disk.now t c.requires.from_ready.unspent in
    let sound_then : told → IsDiskSound mid = λ t. g.met.K.Blocks.sound c.mount.new.disk t c.in-Ok.ensures.runs.unspent.0 in
    subst (λ r. CopiesBetween told f to old new r) (sym c.copy_end.ensures)
    (copied_between told f to old c.requires.apart sound c.requires.into_ready c.requires.valid mid sound_then c.in-Ok.field-0 c.in-Ok.ensures.finds c.in-Ok.ensures.runs
    new (λ t unspent. g.met.K.Blocks.sound c.copy_tree.new.disk t unspent) (g.A.Files.view c.mount.new.self) to c.in-Ok.ensures.mounted refl c.copy_tree.result c.copy_tree.ensures.copies c.copy_tree.ensures.runs)

pub returns-in-Err : goal.returns-in-Err
returns-in-Err g c =
    let told = g.K.Blocks.told in
    let f = g.A.Files.view c.args.from.now in
    let to = g.B.Files.view c.args.into.now in
    let old = g.K.Blocks.view c.args.disk.now in
    let mid = g.K.Blocks.view c.mount.new.disk in
    let sound : told → IsDiskSound old = λ t. g.met.K.Blocks.sound c.args.disk.now t c.requires.from_ready.unspent in
    subst (λ r. CopiesBetween told f to old mid r) (sym c.unmounted_end.ensures)
    (not_mounted told f to old c.requires.apart sound c.requires.into_ready c.requires.valid mid c.in-Err.why c.in-Err.ensures.finds c.in-Err.ensures.runs)
