use Rattle.std.proofs.Common.{◌∙◌, ◌++◌, append_assoc, rules, ap, sym}
use Rattle.image_device.proofs.Outcomes.{on_err}
use Rattle.audit_runs.specs.Audit.{text_from}
use Rattle.audit_runs.proofs.PuttingLaws.{page_cut, page_leaves, page_sent, put_more}
use Rattle.audit_runs.proofs.listings.put_listings.Goals as goal

pub loop-from-preserved : goal.loop-from-preserved
loop-from-preserved g c =
    let i = c.loop-from.invariant in
    let view = g.P.Device.view in
    let v0 = view c.args.port.now in
    let v = view c.loop-from.port in
    let v' = view c.put_all.new.port in
    let page = c.as_slice.result.now in
    let rest = text_from c.args.reached.now c.put_page-from.result in
    let split = i.split ∙ ap (λ l. i.done ++ l) (c.put_page-from.ensures.text ∙ ap (λ l. l ++ rest) (sym c.as_slice.ensures.value)) in
    record {
      done = i.done ++ page;
      split = split ∙ sym (append_assoc i.done page rest);
      within = c.put_page-from.ensures.inside;
      sent = λ told. page_sent v0 v v' i.done page rest _ split (i.sent told) (i.reads told) (i.loose told) (c.in_ok-put_all.ensures.sent told);
      reads = λ told. c.put_all.ensures.reads told ∙ i.reads told;
      loose = λ told. c.put_all.ensures.loose told ∙ i.loose told;
      leaves = λ told. page_leaves v0 v v' i.done page rest _ split (i.sent told) (i.reads told) (i.loose told) (i.leaves told) (c.put_all.ensures.any_moment told);
      puts = put_more v0 v v' i.puts c.put_all.ensures.puts;
      faultless = c.in_ok-put_all.ensures.faults ∙ i.faultless;
    }

pub returns-in_err-put_all : goal.returns-in_err-put_all
returns-in_err-put_all g c =
    let i = c.loop-from.invariant in
    let view = g.P.Device.view in
    let v0 = view c.args.port.now in
    let v = view c.loop-from.port in
    let v' = view c.put_all.new.port in
    let page = c.as_slice.result.now in
    let rest = text_from c.args.reached.now c.put_page-from.result in
    let split = i.split ∙ ap (λ l. i.done ++ l) (c.put_page-from.ensures.text ∙ ap (λ l. l ++ rest) (sym c.as_slice.ensures.value)) in
    let failed = c.in_err-put_all.ensures in
    record {
      reads = λ told. c.put_all.ensures.reads told ∙ i.reads told;
      loose = λ told. c.put_all.ensures.loose told ∙ i.loose told;
      sent = search rules;
      part = λ told. on_err _ (page_cut v0 v v' i.done page rest _ split (i.sent told) (i.reads told) (i.loose told) (failed.part told).0 (failed.part told).1 (failed.part told).2);
      any_moment = λ told. page_leaves v0 v v' i.done page rest _ split (i.sent told) (i.reads told) (i.loose told) (i.leaves told) (c.put_all.ensures.any_moment told);
      puts = put_more v0 v v' i.puts c.put_all.ensures.puts;
      faults = search rules;
    }
