use Rattle.std.proofs.Common.{◌+◌, ◌*◌, ◌≤◌, length, sym, ◌∙◌, subst, arith}
use Rattle.std.specs.Int.{div_ceil}
use Rattle.std.proofs.lemmas.Option.{slice_get_within}
use Rattle.image_device.proofs.Moments.{uses_joined}
use Rattle.image_device.proofs.Resting.{rests_joined}
use Rattle.cap_store.proofs.Reading.{covers, kept_more, read_more}
use Rattle.cap_store.specs.Stored.{per_sector}
use Rattle.cap_store.proofs.loading.read_records.Goals as goal

pub loop-part-preserved : goal.loop-part-preserved
loop-part-preserved g c =
    let view = g.D.Device.view in
    record {
      kept = kept_more c.args.version c.loop-part.part c.per_sector-each.result c.loop-part.records c.set_records.new.records c.read.new.into c.requires.version c.per_sector-each.ensures c.set_records.ensures.here c.set_records.ensures.before
          c.set_records.auto.records c.set_records.ensures.kept c.loop-part.invariant.kept;
      read = λ told block less inside. read_more c.args.version c.loop-part.part c.per_sector-each.result c.loop-part.records c.set_records.new.records c.read.new.into c.requires.version c.per_sector-each.ensures c.set_records.ensures.here c.set_records.ensures.before
          (view c.args.dev.now).reads (c.in_ok-read.ensures.bytes told ∙ (λ i. (c.loop-part.invariant.rests told).reads i (132 + c.loop-part.part))) (c.loop-part.invariant.read told) block less (omega arith);
      rests = λ told. rests_joined (view c.args.dev.now) (view c.loop-part.dev) (view c.read.new.self) (c.loop-part.invariant.rests told) (c.in_ok-read.ensures.rests told);
      uses = uses_joined 0 0 (view c.args.dev.now) (view c.loop-part.dev) (view c.read.new.self) c.loop-part.invariant.uses c.in_ok-read.ensures.uses;
      faultless = c.in_ok-read.ensures.faults ∙ c.loop-part.invariant.faultless;
    }

pub returns-clause-kept : goal.returns-clause-kept
returns-clause-kept g c block r is =
    let within = slice_get_within c.loop-part.records block r is in
    let each = c.per_sector-each.ensures in
    let enough : div_ceil (length c.args.records.now) (per_sector c.args.version) ≤ c.loop-part.part = subst (λ n. div_ceil (length c.args.records.now) n ≤ c.loop-part.part) each (omega arith) in
    let all : length c.args.records.now ≤ c.loop-part.part * c.per_sector-each.result = subst (λ n. length c.args.records.now ≤ c.loop-part.part * n) (sym each) (covers (length c.args.records.now) c.loop-part.part c.args.version c.requires.version enough) in
    c.loop-part.invariant.kept block r (omega arith) is
