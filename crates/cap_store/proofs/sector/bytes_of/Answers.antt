use Rattle.std.proofs.Common.{arith}
use Rattle.cap_store.proofs.RecordLaws.{record_put, room}
use Rattle.cap_store.proofs.sector.bytes_of.Goals as goal

pub put_kept-at-requires : goal.put_kept-at-requires
put_kept-at-requires c = let fits = room c.args.records.now c.loop-held.held-index c.loop-held-test.true c.requires in omega (arith, fits, c.loop-held.invariant.at_end)

pub put_kept-at-requires-in-loop-held : goal.put_kept-at-requires-in-loop-held
put_kept-at-requires-in-loop-held c =
    let fits = room c.args.records.now c.loop-held.held-index c.loop-held-test.true c.requires in
    omega (arith, fits, c.loop-held.invariant.at_end, c.put_kept-at.ensures.end)

pub loop-held-preserved : goal.loop-held-preserved
loop-held-preserved c =
    let put = record_put c.args.records.now c.loop-held.held-index c.loop-held.at c.put_kept-at.result c.put_kept-at-in-loop-held.result c.loop-held.bytes c.put_kept-at.new.bytes c.put_kept-at-in-loop-held.new.bytes c.loop-held-test.true
    c.loop-held.invariant.at_end c.loop-held.invariant.bytes c.put_kept-at.ensures.end c.put_kept-at.ensures.bytes c.put_kept-at-in-loop-held.ensures.end c.put_kept-at-in-loop-held.ensures.bytes in
    record { at_end = put.0; bytes = put.1 }
