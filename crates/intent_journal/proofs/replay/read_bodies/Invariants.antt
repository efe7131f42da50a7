use Rattle.std.proofs.Common.{◌≡◌, ◌+◌, ◌++◌, length, map, get_or}
use Rattle.intent_journal.proofs.Common.{range_with_len, Rests, Uses, body_sector}
use Rattle.intent_journal.proofs.replay.read_bodies.Given as goal

abbrev pub invariant-loop-home : goal.invariant-loop-home
invariant-loop-home g l =
    let view = g.D.Device.view in
    record {
      count : length l.patches ≡ length l.fn.patches + l.home-index;
      read : g.D.Device.told → l.patches ≡ l.fn.patches
          ++ map (λ k. record { sector = get_or l.homes k 0; bytes = (view l.fn.dev).reads (body_sector (length l.fn.patches + k)) }) (range_with_len 0 l.home-index);
      rests : g.D.Device.told → Rests (view l.fn.dev) (view l.dev);
      uses : Uses 0 (view l.fn.dev) (view l.dev);
      faultless : (view l.dev).faults ≡ (view l.fn.dev).faults;
    }
