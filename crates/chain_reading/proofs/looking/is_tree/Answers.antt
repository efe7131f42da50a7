use Rattle.chain_reading.proofs.Common.{Chain, looks_as, looks_refused, then_looks, may_again}
use Rattle.fs_client.proofs.RootLaws.{root_may}
use Rattle.chain_reading.proofs.TreeLaws.{pages_ahead, decided, all_right, not_right}
use Rattle.chain_reading.proofs.looking.is_tree.Goals as goal

pub is_directory_right-requires-clause-unspent : goal.is_directory_right-requires-clause-unspent
is_directory_right-requires-clause-unspent g c = c.requires.ready.unspent

pub is_directory_right-requires-clause-valid : goal.is_directory_right-requires-clause-valid
is_directory_right-requires-clause-valid g c = c.requires.valid

pub is_directory_right-requires-clause-may : goal.is_directory_right-requires-clause-may
is_directory_right-requires-clause-may g c = λ t. root_may Chain c.args.client.now (g.K.Blocks.view c.args.disk.now) c.requires.ready (c.requires.valid t) (g.met.K.Blocks.sound c.args.disk.now t c.requires.ready.unspent)

pub are_names_distinct-requires-clause-unspent : goal.are_names_distinct-requires-clause-unspent
are_names_distinct-requires-clause-unspent g c = c.in-Ok-true.ensures.looks.unspent.0

pub are_names_distinct-requires-clause-valid : goal.are_names_distinct-requires-clause-valid
are_names_distinct-requires-clause-valid g c = λ t. (c.in-Ok-true.ensures.looks.looked t).0.valid

pub are_names_distinct-requires-clause-pages : goal.are_names_distinct-requires-clause-pages
are_names_distinct-requires-clause-pages g c = λ t.
    let old = g.K.Blocks.view c.args.disk.now in
    let mid = g.K.Blocks.view c.is_directory_right.new.disk in
    let client = c.args.client.now in
    let looks = c.in-Ok-true.ensures.looks in
    let may = root_may Chain client old c.requires.ready (c.requires.valid t) (g.met.K.Blocks.sound c.args.disk.now t c.requires.ready.unspent) in
    let all = all_right old.world client.root c.clear.new.self c.is_directory_right.new.seen c.in-Ok-true.field-0 c.clear.ensures c.in-Ok-true.field-0-test (c.in-Ok-true.ensures.comes t) in
    (all.1.chain, all.1.entries, pages_ahead client old mid all.0 all.1 (looks.looked t).0 (may_again client old mid client.root (looks.looked t).0 looks.stays.0 (c.requires.valid t) may))

pub returns-in-Ok-true-clause-tells : goal.returns-in-Ok-true-clause-tells
returns-in-Ok-true-clause-tells g c = λ t.
    let old = g.K.Blocks.view c.args.disk.now in
    let mid = g.K.Blocks.view c.is_directory_right.new.disk in
    let client = c.args.client.now in
    let looks = c.in-Ok-true.ensures.looks in
    let may = root_may Chain client old c.requires.ready (c.requires.valid t) (g.met.K.Blocks.sound c.args.disk.now t c.requires.ready.unspent) in
    let all = all_right old.world client.root c.clear.new.self c.is_directory_right.new.seen c.in-Ok-true.field-0 c.clear.ensures c.in-Ok-true.field-0-test (c.in-Ok-true.ensures.comes t) in
    decided old.world client.root all.0 all.1 c.are_names_distinct.result
    (c.are_names_distinct.ensures.distinct t all.1.chain all.1.entries (pages_ahead client old mid all.0 all.1 (looks.looked t).0 (may_again client old mid client.root (looks.looked t).0 looks.stays.0 (c.requires.valid t) may)))

pub returns-in-Ok-true-clause-only : goal.returns-in-Ok-true-clause-only
returns-in-Ok-true-clause-only g c = c.are_names_distinct.ensures.only

pub returns-in-Ok-true-clause-looks : goal.returns-in-Ok-true-clause-looks
returns-in-Ok-true-clause-looks g c =
    then_looks g.K.Blocks.told (g.K.Blocks.view c.args.disk.now) (g.K.Blocks.view c.is_directory_right.new.disk) (g.K.Blocks.view c.are_names_distinct.new.disk) c.in-Ok-true.field-0 c.are_names_distinct.result c.in-Ok-true.ensures.looks c.are_names_distinct.ensures.looks

pub returns-in-Ok-false-clause-tells : goal.returns-in-Ok-false-clause-tells
returns-in-Ok-false-clause-tells g c = λ t.
    not_right (g.K.Blocks.view c.args.disk.now).world c.args.client.now.root c.clear.new.self c.is_directory_right.new.seen c.in-Ok-false.field-0 c.clear.ensures c.in-Ok-false.field-0-test (c.in-Ok-false.ensures.comes t)

pub returns-in-Ok-false-clause-looks : goal.returns-in-Ok-false-clause-looks
returns-in-Ok-false-clause-looks g c = looks_as g.K.Blocks.told (g.K.Blocks.view c.args.disk.now) (g.K.Blocks.view c.is_directory_right.new.disk) c.in-Ok-false.field-0 _ c.in-Ok-false.ensures.looks

pub returns-in-Err-clause-only : goal.returns-in-Err-clause-only
returns-in-Err-clause-only g c = c.in-Err.ensures.only

pub returns-in-Err-clause-looks : goal.returns-in-Err-clause-looks
returns-in-Err-clause-looks g c = looks_refused g.K.Blocks.told (g.K.Blocks.view c.args.disk.now) (g.K.Blocks.view c.is_directory_right.new.disk) c.in-Err.refusal c.in-Err.ensures.looks
