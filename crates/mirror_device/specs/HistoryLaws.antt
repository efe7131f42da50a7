-- The laws of two stations in memory.
use Rattle.std.proofs.Common.{inl, inr, ℕ, zero, suc, ◌-◌, ◌^◌, ◌≤◌, ◌≡◌, List, [], ◌∷◌, length, sym, subst, arith}
use Rattle.image_device.specs.Image.{IsImage}
use Rattle.image_device.specs.MemStation.{station_sound}
use Rattle.mirror_device.specs.declared.side.Side.TheVariants.{First, Second}
use Rattle.mirror_device.specs.declared.entry.LogEntry.{LogEntry}
use Rattle.mirror_device.specs.declared.entry.LogEntry.TheVariants.{Write, Sync, Put, Poke, Fail}
use Rattle.mirror_device.specs.declared.pair.Pair.{Pair}
use Rattle.mirror_device.specs.SidesView.{Item, SidesAreSound, HasCountsUpTo}
use Rattle.mirror_device.specs.History.{Stand, begun, step, after, still, IsNow, IsDuring, Had, HadSince, history_view}
use Rattle.mirror_device.specs.Pair.{pair_view}

had_now : (es : List LogEntry) (s : Stand) (i : Item) → IsNow (after es s) i → Had es s i
had_now [] s i now = now
had_now (e ∷ es) s i now = inr (had_now es (step s e) i now)

-- what is left now was left since any moment
counts_now : (t : ℕ) (es : List LogEntry) (s : Stand) (i : Item) → IsNow (after es s) i → HadSince t es s i
counts_now zero es s i now = had_now es s i now
counts_now (suc t) [] s i now = now
counts_now (suc t) (e ∷ es) s i now = counts_now t es (step s e) i now

-- since now nothing else is left
only_now : (es : List LogEntry) (s : Stand) (i : Item) → HadSince (length es) es s i → IsNow (after es s) i
only_now [] s i had = had
only_now (e ∷ es) s i had = only_now es (step s e) i had

-- no count of syncs is above the greatest u64
pub record IsBounded (s : Stand) : Type 0 where
  pub first : s.first.syncs ≤ 2 ^ 64 - 1
  pub second : s.second.syncs ≤ 2 ^ 64 - 1

-- no count is below what it was
record CountsGrow (a b : Stand) : Type 0 where
  first_faults : a.first.faults ≤ b.first.faults
  first_syncs : a.first.syncs ≤ b.first.syncs
  second_faults : a.second.faults ≤ b.second.faults
  second_syncs : a.second.syncs ≤ b.second.syncs

step_bounded : (s : Stand) (e : LogEntry) → IsBounded s → IsBounded (step s e)
step_bounded s (Write First sector bytes) b = record { first = b.first; second = b.second }
step_bounded s (Write Second sector bytes) b = record { first = b.first; second = b.second }
step_bounded s (Sync First) b = record { first = omega arith; second = b.second }
step_bounded s (Sync Second) b = record { first = b.first; second = omega arith }
step_bounded s (Put piece) b = record { first = b.first; second = b.second }
step_bounded s (Poke First sector bytes) b = record { first = b.first; second = b.second }
step_bounded s (Poke Second sector bytes) b = record { first = b.first; second = b.second }
step_bounded s (Fail First faults) b = record { first = b.first; second = b.second }
step_bounded s (Fail Second faults) b = record { first = b.first; second = b.second }

after_bounded : (es : List LogEntry) (s : Stand) → IsBounded s → IsBounded (after es s)
after_bounded [] s b = b
after_bounded (e ∷ es) s b = after_bounded es (step s e) (step_bounded s e b)

step_grows : (s : Stand) (e : LogEntry) → IsBounded s → CountsGrow s (step s e)
step_grows s (Write First sector bytes) b = record {
  first_faults = omega arith;
  first_syncs = omega arith;
  second_faults = omega arith;
  second_syncs = omega arith;
}
step_grows s (Write Second sector bytes) b = record {
  first_faults = omega arith;
  first_syncs = omega arith;
  second_faults = omega arith;
  second_syncs = omega arith;
}
step_grows s (Sync First) b = record {
  first_faults = omega arith;
  first_syncs = omega (arith, b.first);
  second_faults = omega arith;
  second_syncs = omega arith;
}
step_grows s (Sync Second) b = record {
  first_faults = omega arith;
  first_syncs = omega arith;
  second_faults = omega arith;
  second_syncs = omega (arith, b.second);
}
step_grows s (Put piece) b = record {
  first_faults = omega arith;
  first_syncs = omega arith;
  second_faults = omega arith;
  second_syncs = omega arith;
}
step_grows s (Poke First sector bytes) b = record {
  first_faults = omega arith;
  first_syncs = omega arith;
  second_faults = omega arith;
  second_syncs = omega arith;
}
step_grows s (Poke Second sector bytes) b = record {
  first_faults = omega arith;
  first_syncs = omega arith;
  second_faults = omega arith;
  second_syncs = omega arith;
}
step_grows s (Fail First faults) b = record {
  first_faults = omega arith;
  first_syncs = omega arith;
  second_faults = omega arith;
  second_syncs = omega arith;
}
step_grows s (Fail Second faults) b = record {
  first_faults = omega arith;
  first_syncs = omega arith;
  second_faults = omega arith;
  second_syncs = omega arith;
}

-- an item whose counts are at most those of some moment, at a later one
counted_later : (a b : Stand) (i : Item) → CountsGrow a b → HasCountsUpTo (still a) i → HasCountsUpTo (still b) i
counted_later a b i g c = record {
  first_faults = omega (arith, g.first_faults, c.first_faults);
  first_syncs = omega (arith, g.first_syncs, c.first_syncs);
  second_faults = omega (arith, g.second_faults, c.second_faults);
  second_syncs = omega (arith, g.second_syncs, c.second_syncs);
}

after_grows : (es : List LogEntry) (s : Stand) → IsBounded s → CountsGrow s (after es s)
after_grows [] s b = record {
  first_faults = omega arith;
  first_syncs = omega arith;
  second_faults = omega arith;
  second_syncs = omega arith;
}
after_grows (e ∷ es) s b =
    let g = step_grows s e b in
    let h = after_grows es (step s e) (step_bounded s e b) in
    record {
      first_faults = omega (arith, g.first_faults, h.first_faults);
      first_syncs = omega (arith, g.first_syncs, h.first_syncs);
      second_faults = omega (arith, g.second_faults, h.second_faults);
      second_syncs = omega (arith, g.second_syncs, h.second_syncs);
    }

now_counted : (s : Stand) (i : Item) → IsNow s i → HasCountsUpTo (still s) i
now_counted s i now = record {
  first_faults = omega (arith, now.first.faults);
  first_syncs = omega (arith, now.first.syncs);
  second_faults = omega (arith, now.second.faults);
  second_syncs = omega (arith, now.second.syncs);
}

during_counted : (s : Stand) (e : LogEntry) (i : Item) → IsDuring s e i → HasCountsUpTo (still s) i
during_counted s (Write First sector bytes) i here = record {
  first_faults = omega (arith, here.here.faults);
  first_syncs = omega (arith, here.here.syncs);
  second_faults = omega (arith, here.there.faults);
  second_syncs = omega (arith, here.there.syncs);
}
during_counted s (Write Second sector bytes) i here = record {
  first_faults = omega (arith, here.there.faults);
  first_syncs = omega (arith, here.there.syncs);
  second_faults = omega (arith, here.here.faults);
  second_syncs = omega (arith, here.here.syncs);
}
during_counted s (Sync side) i now = now_counted s i now
during_counted s (Put piece) i here = record {
  first_faults = omega (arith, here.first.faults);
  first_syncs = omega (arith, here.first.syncs);
  second_faults = omega (arith, here.second.faults);
  second_syncs = omega (arith, here.second.syncs);
}
during_counted s (Poke side sector bytes) i now = now_counted s i now
during_counted s (Fail side faults) i now = now_counted s i now

had_counted : (es : List LogEntry) (s : Stand) (i : Item) → IsBounded s → Had es s i
    → HasCountsUpTo (still (after es s)) i
had_counted [] s i b now = now_counted s i now
had_counted (e ∷ es) s i b (inl here) =
    counted_later s (after es (step s e)) i (after_grows (e ∷ es) s b) (during_counted s e i here)
had_counted (e ∷ es) s i b (inr later) = had_counted es (step s e) i (step_bounded s e b) later

-- counts never fell
counted : (t : ℕ) (es : List LogEntry) (s : Stand) (i : Item) → IsBounded s → HadSince t es s i
    → HasCountsUpTo (still (after es s)) i
counted zero es s i b had = had_counted es s i b had
counted (suc t) [] s i b now = now_counted s i now
counted (suc t) (e ∷ es) s i b had = counted t es (step s e) i (step_bounded s e b) had

begun_bounded : IsBounded begun
begun_bounded = record { first = omega arith; second = omega arith }

pub history_bounded : (es : List LogEntry) → IsBounded (after es begun)
history_bounded es = after_bounded es begun begun_bounded

pub history_sound : (es : List LogEntry) (put_faults : ℕ) (p : Pair) → after es begun ≡ pair_view p
    → SidesAreSound (history_view es put_faults)
history_sound es put_faults p agrees = record {
  counts_now = λ t i le now.
      counts_now t es begun i (record { first = now.first; second = now.second; sent = now.sent });
  only_now = λ i left. let now = only_now es begun i left in record {
    first = now.first;
    second = now.second;
    sent = now.sent;
  };
  counted = λ t i le left.
      let c = counted t es begun i begun_bounded left in
      record {
        first_faults = c.first_faults;
        first_syncs = c.first_syncs;
        second_faults = c.second_faults;
        second_syncs = c.second_syncs;
      };
  first_own =
      subst (λ (s : Stand). IsImage s.first.reads s.first.loose s.first.reads) (sym agrees)
      (station_sound p.first.station).own;
  second_own =
      subst (λ (s : Stand). IsImage s.second.reads s.second.loose s.second.reads) (sym agrees)
      (station_sound p.second.station).own;
}
