use Rattle.std.proofs.Common.{◌≡◌, length, take, sym, ◌∙◌, ap, subst, arith}
use Rattle.std.proofs.lemmas.List.{length-map, length-set, take_all}
use Rattle.tsd_model.specs.Records.{kept}
use Rattle.cap_store.specs.Fresh.{fresh_records}
use Rattle.cap_store.specs.Store.{AreRecords}
use Rattle.cap_store.proofs.FreshLaws.{put_more}
use Rattle.cap_store.proofs.Sectors.{set_are, taken_are}
use Rattle.cap_store.proofs.fresh.fresh_records.Goals as goal

pub loop-block-preserved : goal.loop-block-preserved
loop-block-preserved c = record {
  long = length-set c.loop-block.records c.loop-block.block c.record_of.result ∙ c.loop-block.invariant.long;
  here = put_more c.args.caps.now c.as_slice.result.now c.loop-block.records c.record_of.result c.loop-block.block _ c.as_slice.ensures.value (omega arith) (omega arith) c.record_of.ensures.value c.loop-block.invariant.here;
  each = set_are 1 c.loop-block.records c.loop-block.block c.record_of.result c.record_of.ensures.kept c.loop-block.invariant.each;
}

taken : (c : goal.After-loop-block) → take (length c.args.caps.now) c.loop-block.records ≡ fresh_records c.args.caps.now
taken c =
    let at : c.loop-block.block ≡ length c.args.caps.now = omega arith in
    ap (λ n. take n c.loop-block.records) (sym at) ∙ c.loop-block.invariant.here ∙ ap fresh_records (take_all c.loop-block.block c.args.caps.now (omega arith))

pub returns-clause-here : goal.returns-clause-here
returns-clause-here c = taken c

pub returns-clause-each : goal.returns-clause-each
returns-clause-each c = subst (AreRecords 1) (taken c) (taken_are 1 (length c.args.caps.now) c.loop-block.records c.loop-block.invariant.each)

pub returns-clause-few : goal.returns-clause-few
returns-clause-few c =
    let long : length (fresh_records c.args.caps.now) ≡ length c.args.caps.now = length-map c.args.caps.now (kept 1) in
    omega arith
