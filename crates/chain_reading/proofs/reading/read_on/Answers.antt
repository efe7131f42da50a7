use Rattle.std.proofs.Common.{◌+◌, subst, IfSome}
use Rattle.chain_reading.proofs.Common.{then_looks, state_of}
use Rattle.chain_reading.specs.Places.{Leads}
use Rattle.chain_reading.proofs.ToldLaws.{part_told}
use Rattle.chain_reading.proofs.PlaceLaws.{leads_on, part_left, rest_ahead, world_again}
use Rattle.chain_reading.proofs.reading.read_on.Goals as goal

pub returns-in-Some-clause-answer : goal.returns-in-Some-clause-answer
returns-in-Some-clause-answer g c = λ t.
    let me = c.args.client.now in
    let old = g.K.Blocks.view c.args.disk.now in
    let new = g.K.Blocks.view c.read_chain.new.disk in
    let leads = subst (λ o. IfSome o (Leads me (state_of old) c.args.path.now c.args.start)) c.in-Some.is (c.requires.place t) in
    part_left me old new c.args.path.now c.args.start c.in-Some.place leads g.K.Blocks.told c.read_chain.new.into c.read_chain.result t (c.requires.may.tree t)
    (c.read_chain.ensures.bytes t leads.place.left (rest_ahead me old c.in-Some.place.block leads.place.left leads.place.ahead)) (c.read_chain.ensures.only t) c.read_chain.ensures.looks

pub returns-in-Some-clause-place : goal.returns-in-Some-clause-place
returns-in-Some-clause-place g c = λ t.
    let me = c.args.client.now in
    let old = g.K.Blocks.view c.args.disk.now in
    let new = g.K.Blocks.view c.read_chain.new.disk in
    let leads = subst (λ o. IfSome o (Leads me (state_of old) c.args.path.now c.args.start)) c.in-Some.is (c.requires.place t) in
    leads_on me old new c.args.path.now c.args.start c.in-Some.place leads c.read_chain.result (world_again g.K.Blocks.told old new c.read_chain.result t c.read_chain.ensures.looks)
    (c.read_chain.ensures.place t leads.place.left (rest_ahead me old c.in-Some.place.block leads.place.left leads.place.ahead))

pub returns-in-Ok-clause-answer : goal.returns-in-Ok-clause-answer
returns-in-Ok-clause-answer g c = λ t.
    part_told g.K.Blocks.told c.args.client.now (g.K.Blocks.view c.args.disk.now) (g.K.Blocks.view c.find_file.new.disk) (g.K.Blocks.view c.read_chain-in-Ok.new.disk) c.args.path.now c.in-Ok.first c.args.start c.read_chain-in-Ok.new.into c.read_chain-in-Ok.result t (c.requires.may.tree t)
    (c.in-Ok.ensures.looks.looked t).0 (c.in-Ok.ensures.none t) (c.in-Ok.ensures.found t) (c.read_chain-in-Ok.ensures.bytes t) (c.read_chain-in-Ok.ensures.only t) c.read_chain-in-Ok.ensures.looks

pub returns-in-Ok-clause-looks : goal.returns-in-Ok-clause-looks
returns-in-Ok-clause-looks g c =
    then_looks g.K.Blocks.told (g.K.Blocks.view c.args.disk.now) (g.K.Blocks.view c.find_file.new.disk) (g.K.Blocks.view c.read_chain-in-Ok.new.disk) c.in-Ok.first c.read_chain-in-Ok.result c.in-Ok.ensures.looks c.read_chain-in-Ok.ensures.looks
