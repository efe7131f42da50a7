use Rattle.std.proofs.Common.{◌≡◌, ◌*◌, ◌≤◌, List, length, take, sym, ◌∙◌, ap, subst, arith}
use Rattle.std.proofs.lemmas.List.{length-map}
use Rattle.tsd_model.specs.declared.records.Record.{Record}
use Rattle.tsd_model.specs.Records.{kept}
use Rattle.cap_store.specs.Fresh.{fresh_records}
use Rattle.cap_store.specs.Store.{AreRecords}
use Rattle.cap_store.specs.Stored.{caps_sector_bytes}
use Rattle.cap_store.proofs.Written.{past_is_zeros}
use Rattle.cap_store.proofs.fresh.fresh_sector.Goals as goal

pub bytes_of_part-requires-clause-each : goal.bytes_of_part-requires-clause-each
bytes_of_part-requires-clause-each c =
    let taken : take c.len-then-part-per_sector.result c.fresh_records-records.result ≡ fresh_records c.args.caps.now =
    ap (λ n. take n c.fresh_records-records.result) c.len-then-part-per_sector.ensures.value ∙ c.fresh_records-records.ensures.here in
    subst (AreRecords 1) (sym taken) c.fresh_records-records.ensures.each

pub returns-then-part-per_sector-clause-value : goal.returns-then-part-per_sector-clause-value
returns-then-part-per_sector-clause-value c =
    let taken : take c.len-then-part-per_sector.result c.fresh_records-records.result ≡ fresh_records c.args.caps.now =
    ap (λ n. take n c.fresh_records-records.result) c.len-then-part-per_sector.ensures.value ∙ c.fresh_records-records.ensures.here in
    c.bytes_of_part.ensures ∙ ap (λ (rs : List Record). caps_sector_bytes 1 rs c.args.part) taken

pub returns-else-part-per_sector-clause-value : goal.returns-else-part-per_sector-clause-value
returns-else-part-per_sector-clause-value c =
    let long : length (fresh_records c.args.caps.now) ≡ length c.args.caps.now = length-map c.args.caps.now (kept 1) in
    let past : length (fresh_records c.args.caps.now) ≤ c.args.part * 16 = subst (λ n. length (fresh_records c.args.caps.now) ≤ c.args.part * n) c.per_sector.ensures (omega arith) in
    sym (past_is_zeros 1 (fresh_records c.args.caps.now) c.args.part past)
