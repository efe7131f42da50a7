-- The laws of a history of events.
use Rattle.std.specs.Prelude.{ℕ, List, [], ◌∷◌, length}
use Rattle.std.proofs.Common.{zero, suc, inr}
use Rattle.image_device.specs.declared.event.Event.{Event}
use Rattle.image_device.specs.Image.{Image}
use Rattle.image_device.specs.History.{HistoryState, step, after, IsNow, Had, HadSince}

had_now : (es : List Event) (s : HistoryState) (x : Image) (f : List ℕ) → IsNow (after es s) x f → Had es s x f
had_now [] s x f now = now
had_now (e ∷ es) s x f now = inr (had_now es (step s e) x f now)

-- what is left now was left since any moment
pub counts_now : (t : ℕ) (es : List Event) (s : HistoryState) (x : Image) (f : List ℕ) → IsNow (after es s) x f
    → HadSince t es s x f
counts_now zero es s x f now = had_now es s x f now
counts_now (suc t) [] s x f now = now
counts_now (suc t) (e ∷ es) s x f now = counts_now t es (step s e) x f now

-- since now nothing else is left
pub only_now : (es : List Event) (s : HistoryState) (x : Image) (f : List ℕ) → HadSince (length es) es s x f
    → IsNow (after es s) x f
only_now [] s x f had = had
only_now (e ∷ es) s x f had = only_now es (step s e) x f had
