use Rattle.std.proofs.Common.{List, ℕ, subst}
use Rattle.image_runs.proofs.Common.{PutsAll}
use Rattle.image_runs.proofs.ending.put_text.Goals as goal

pub returns : goal.returns
returns g c = record {
  put = c.put_all.result;
  puts = subst (λ (t : List ℕ). PutsAll g.P.Device.told t (g.P.Device.view c.args.port.now) (g.P.Device.view c.put_all.new.port) c.put_all.result) c.as_slice.ensures.value c.put_all.ensures;
  ends = c.ended.ensures;
}
