use Rattle.std.proofs.Common.{sym, subst}
use Rattle.fs_trees.specs.declared.ask.ShellAsk.TheVariants as ask
use Rattle.chain_reading.proofs.Common.{Answers, then_looks, mounted_by}
use Rattle.chain_reading.proofs.KnownLaws.{is_known}
use Rattle.fs_walks.specs.Nexts.{TellsNames}
use Rattle.chain_reading.proofs.ToldLaws.{ahead_again}
use Rattle.chain_reading.proofs.NamesToldLaws.{names_told}
use Rattle.chain_reading.proofs.listing.names_after.Goals as goal

pub least_names-requires-clause-directory : goal.least_names-requires-clause-directory
least_names-requires-clause-directory g c = λ t.
    let me = c.args.client.now in
    let old = g.K.Blocks.view c.args.disk.now in
    let known = is_known g.K.Blocks.told me old t c.requires (g.met.K.Blocks.sound c.args.disk.now t c.requires.ready.unspent) in
    let looks = c.in-Ok.ensures.looks in
    (known.chains.directory, known.has.listing.entries, ahead_again me old (g.K.Blocks.view c.find_directory.new.disk) known.chains.directory known.has.listing.entries (looks.looked t).0 looks.stays.0 (c.requires.valid t) known.ahead)

pub returns-in-Ok-clause-looks : goal.returns-in-Ok-clause-looks
returns-in-Ok-clause-looks g c =
    then_looks g.K.Blocks.told (g.K.Blocks.view c.args.disk.now) (g.K.Blocks.view c.find_directory.new.disk) (g.K.Blocks.view c.least_names.new.disk) tt c.least_names.result c.in-Ok.ensures.looks c.least_names.ensures.looks

pub returns-in-Ok-clause-answer : goal.returns-in-Ok-clause-answer
returns-in-Ok-clause-answer g c = λ t.
    let me = c.args.client.now in
    let old = g.K.Blocks.view c.args.disk.now in
    let mid = g.K.Blocks.view c.find_directory.new.disk in
    let new = g.K.Blocks.view c.least_names.new.disk in
    let looks = c.in-Ok.ensures.looks in
    subst (λ p. Answers (mounted_by me) old new (ask.Ls p) c.least_names.result (λ x. TellsNames c.args.after.now c.least_names.new.into.items)) (sym (c.in-Ok.ensures.found t))
    (names_told g.K.Blocks.told me old new c.args.after.now c.least_names.new.into.items c.least_names.result t c.requires (g.met.K.Blocks.sound c.args.disk.now t c.requires.ready.unspent)
    (λ ls ps ahead. c.least_names.ensures.least t ls ps (ahead_again me old mid ls ps (looks.looked t).0 looks.stays.0 (c.requires.valid t) ahead)) (c.least_names.ensures.only t)
    (then_looks g.K.Blocks.told old mid new tt c.least_names.result looks c.least_names.ensures.looks))
