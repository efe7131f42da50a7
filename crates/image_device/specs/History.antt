-- What a list of events, the oldest first, makes of a disk, and what a crash may have left.
use Rattle.std.specs.Prelude.{ℕ, suc, zero, ◌≡◌, ◌⊎◌, ◌==◌, ◌||◌, if◌then◌else◌, Bool, false, List, [], ◌∷◌, ◌++◌}
use Rattle.image_device.specs.declared.event.Event.{Event}
use Rattle.image_device.specs.declared.event.Event.TheVariants.{Write, Sync, Put, Poke}
use Rattle.image_device.specs.Image.{Image, IsImage, put_at}
use Rattle.image_device.specs.View.{IsPart}

pub record HistoryState : Type 0 where
  -- what a read gives
  pub reads : Image
  -- what the last sync held
  pub synced : Image
  -- the sectors written since then
  pub loose : ℕ → Bool
  -- the bytes put
  pub sent : List ℕ

-- the sector is loose too
abbrev pub loosened : ℕ → (ℕ → Bool) → ℕ → Bool
loosened sector loose n = (n == sector) || loose n

-- the sector isn't loose
abbrev pub firmed : ℕ → (ℕ → Bool) → ℕ → Bool
firmed sector loose n = if n == sector then false else loose n

-- one event
abbrev pub step : HistoryState → Event → HistoryState
step s (Write sector bytes) = record {
  reads = put_at sector bytes.value s.reads;
  synced = s.synced;
  loose = loosened sector s.loose;
  sent = s.sent;
}
step s Sync = record { reads = s.reads; synced = s.reads; loose = λ n. false; sent = s.sent }
step s (Put piece) = record { reads = s.reads; synced = s.synced; loose = s.loose; sent = s.sent ++ piece.items }
step s (Poke sector bytes) = record {
  reads = put_at sector bytes.value s.reads;
  synced = put_at sector bytes.value s.synced;
  loose = firmed sector s.loose;
  sent = s.sent;
}

-- all of them
abbrev pub after : List Event → HistoryState → HistoryState
after [] s = s
after (e ∷ es) s = after es (step s e)

-- what a crash leaves between two events
abbrev pub IsNow : HistoryState → Image → List ℕ → Type 0
IsNow s x f = IsImage s.reads s.loose x × (f ≡ s.sent)

-- what a crash inside an event leaves
abbrev pub IsDuring : HistoryState → Event → Image → List ℕ → Type 0
IsDuring s (Write sector bytes) x f = IsImage s.reads (loosened sector s.loose) x × (f ≡ s.sent)
IsDuring s Sync x f = IsNow s x f
IsDuring s (Put piece) x f = IsImage s.reads s.loose x × IsPart s.sent piece.items f
IsDuring s (Poke sector bytes) x f = IsNow s x f

-- what a crash at some moment leaves
abbrev pub Had : List Event → HistoryState → Image → List ℕ → Type 0
Had [] s x f = IsNow s x f
Had (e ∷ es) s x f = IsDuring s e x f ⊎ Had es (step s e) x f

-- the same from a moment on, where each event is one moment
abbrev pub HadSince : ℕ → List Event → HistoryState → Image → List ℕ → Type 0
HadSince zero es s x f = Had es s x f
HadSince (suc t) [] s x f = IsNow s x f
HadSince (suc t) (e ∷ es) s x f = HadSince t es (step s e) x f
