use Rattle.std.proofs.Common.{inl, refl, arith}
use Rattle.serving.specs.Prompt.{mark}
use Rattle.tsd_serve.proofs.top.run_frames.Goals as goal

-- nothing was called
pub returns-in-Err-clause-prompt : goal.returns-in-Err-clause-prompt
returns-in-Err-clause-prompt g c told = record {
  opened = mark (g.P.Device.view c.args.port.now);
  of_port = (c.args.port.now, refl);
  not_before = omega arith;
  sent = refl;
  writes = λ quiet. omega arith;
  prompt = inl (record { why = tt; untouched = refl; nothing = refl });
}
