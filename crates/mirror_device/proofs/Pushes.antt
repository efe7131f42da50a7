-- One entry more.
use Rattle.std.proofs.Common.{◌≡◌, ◌≢◌, ◌⊎◌, inl, inr, ⊎_elim, ℕ, zero, suc, ◌-◌, ◌^◌, ◌≤◌, true, List, [], ◌∷◌, ◌++◌, length, refl, sym, ◌∙◌, ap, subst, arith, length-append}
use Rattle.image_device.specs.Counts.{raised, Rose}
use Rattle.mirror_device.specs.declared.side.Side.{Side}
use Rattle.mirror_device.specs.declared.side.Side.TheVariants.{First, Second}
use Rattle.mirror_device.specs.declared.entry.LogEntry.{LogEntry}
use Rattle.mirror_device.specs.declared.entry.LogEntry.TheVariants.{Fail}
use Rattle.mirror_device.specs.declared.entry.Lapse.{Lapse}
use Rattle.mirror_device.specs.declared.entry.Lapse.TheVariants.{Never, Of, OfBoth}
use Rattle.mirror_device.specs.SidesView.{Item, side_of, other, IsItemNow}
use Rattle.mirror_device.specs.SideCalls.{SidesElapse, SideRests}
use Rattle.mirror_device.specs.History.{Stand, begun, step, after, still, IsNow, IsDuring, Had, HadSince, lapse_of, with_lapse, history_view}

pub after_push : (es : List LogEntry) (s : Stand) (e : LogEntry) → after (es ++ e ∷ []) s ≡ step (after es s) e
after_push [] s e = refl
after_push (d ∷ es) s e = after_push es (step s d) e

-- the record agrees with the sides once an entry is kept that made them so
pub agrees_push : (es : List LogEntry) (s s' : Stand) (e : LogEntry) → after es begun ≡ s → s' ≡ step s e → after (es ++ e ∷ []) begun ≡ s'
agrees_push es s s' e agrees made = after_push es begun e ∙ ap (λ z. step z e) agrees ∙ sym made

-- what a crash left before counts
had_keeps : (es : List LogEntry) (s : Stand) (e : LogEntry) (i : Item) → ((i : Item) → IsNow (after es s) i → IsDuring (after es s) e i) → Had es s i → Had (es ++ e ∷ []) s i
had_keeps [] s e i begins now = inl (begins i now)
had_keeps (d ∷ es) s e i begins (inl here) = inl here
had_keeps (d ∷ es) s e i begins (inr later) = inr (had_keeps es (step s d) e i begins later)

-- nothing else does but what is left inside the new entry and after it
had_more : (es : List LogEntry) (s : Stand) (e : LogEntry) (i : Item) → Had (es ++ e ∷ []) s i → Had es s i ⊎ (IsDuring (after es s) e i ⊎ IsNow (step (after es s) e) i)
had_more [] s e i (inl here) = inr (inl here)
had_more [] s e i (inr now) = inr (inr now)
had_more (d ∷ es) s e i (inl here) = inl (inl here)
had_more (d ∷ es) s e i (inr later) = ⊎_elim (λ had. inl (inr had)) inr (had_more es (step s d) e i later)

had_inside : (es : List LogEntry) (s : Stand) (e : LogEntry) (i : Item) → IsDuring (after es s) e i → Had (es ++ e ∷ []) s i
had_inside [] s e i during = inl during
had_inside (d ∷ es) s e i during = inr (had_inside es (step s d) e i during)

-- the same since a moment
keeps : (t : ℕ) (es : List LogEntry) (s : Stand) (e : LogEntry) (i : Item) → ((i : Item) → IsNow (after es s) i → IsDuring (after es s) e i) → t ≤ length es → HadSince t es s i → HadSince t (es ++ e ∷ []) s i
keeps zero es s e i begins le had = had_keeps es s e i begins had
keeps (suc t) [] s e i begins le had = absurd (omega arith)
keeps (suc t) (d ∷ es) s e i begins le had = keeps t es (step s d) e i begins (omega arith) had

more : (t : ℕ) (es : List LogEntry) (s : Stand) (e : LogEntry) (i : Item) → t ≤ length es → HadSince t (es ++ e ∷ []) s i → HadSince t es s i ⊎ (IsDuring (after es s) e i ⊎ IsNow (step (after es s) e) i)
more zero es s e i le had = had_more es s e i had
more (suc t) [] s e i le had = absurd (omega arith)
more (suc t) (d ∷ es) s e i le had = more t es (step s d) e i (omega arith) had

pub inside : (t : ℕ) (es : List LogEntry) (s : Stand) (e : LogEntry) (i : Item) → t ≤ length es → IsDuring (after es s) e i → HadSince t (es ++ e ∷ []) s i
inside zero es s e i le during = had_inside es s e i during
inside (suc t) [] s e i le during = absurd (omega arith)
inside (suc t) (d ∷ es) s e i le during = inside t es (step s d) e i (omega arith) during

-- time goes on by one entry
pub elapses_push : (es : List LogEntry) (p p' : ℕ) (e : LogEntry) (Q : Item → Type 0) → ((i : Item) → IsNow (after es begun) i → IsDuring (after es begun) e i) → ((i : Item) → IsDuring (after es begun) e i → Q i)
    → SidesElapse (history_view es p) (history_view (es ++ e ∷ []) p') Q
elapses_push es p p' e Q begins is = record {
  later = omega (arith, length-append es (e ∷ []));
  nothing_else = λ t i le left. ⊎_elim inl (λ new. inr (⊎_elim (λ during. inl (is i during)) (λ now. inr (now_after i now)) new)) (more t es begun e i le left);
  keeps = λ t i le left. keeps t es begun e i begins le left;
}
  where
    now_after : (i : Item) → IsNow (step (after es begun) e) i → IsItemNow (history_view (es ++ e ∷ []) p') i
    now_after i now = let moved = subst (λ z. IsNow z i) (sym (after_push es begun e)) now in record { first = moved.first; second = moved.second; sent = moved.sent }

-- nothing was kept
pub elapses_same : (es : List LogEntry) (p p' : ℕ) (Q : Item → Type 0) → SidesElapse (history_view es p) (history_view es p') Q
elapses_same es p p' Q = record { later = omega arith; nothing_else = λ t i le left. inl left; keeps = λ t i le left. left }

-- an entry for which the record had room
pub kept_entries : (log new : List LogEntry) (lapse : Lapse) (e : LogEntry) → lapse ≡ Never → new ≡ log ++ e ∷ [] → with_lapse new lapse ≡ with_lapse log lapse ++ e ∷ []
kept_entries log new Never e whole is = is
kept_entries log new (Of side) e whole is = absurd (cc)
kept_entries log new (OfBoth side) e whole is = absurd (cc)

-- a failed call for which it had none
pub lapsed_first : (log new : List LogEntry) (lapse : Lapse) (side : Side) → lapse ≡ Never → new ≡ log → with_lapse new (Of side) ≡ with_lapse log lapse ++ lapse_of side ∷ []
lapsed_first log new Never side whole same = ap (λ l. l ++ lapse_of side ∷ []) same
lapsed_first log new (Of late) side whole same = absurd (cc)
lapsed_first log new (OfBoth late) side whole same = absurd (cc)

pub lapsed_then : (log : List LogEntry) (lapse : Lapse) (late side : Side) → lapse ≡ Of late → late ≢ side → with_lapse log (OfBoth late) ≡ with_lapse log lapse ++ lapse_of side ∷ []
lapsed_then log lapse First First was differs = absurd (differs refl)
lapsed_then log lapse First Second was differs = ap (λ l. with_lapse log l ++ lapse_of Second ∷ []) (sym was)
lapsed_then log lapse Second First was differs = ap (λ l. with_lapse log l ++ lapse_of First ∷ []) (sym was)
lapsed_then log lapse Second Second was differs = absurd (differs refl)

-- the record goes on agreeing with the sides
pub goes_agreeing : (es new : List LogEntry) (s s' : Stand) (e : LogEntry) → new ≡ es ++ e ∷ [] → after es begun ≡ s → s' ≡ step s e → after new begun ≡ s'
goes_agreeing es new s s' e is agrees made = ap (λ l. after l begun) is ∙ agrees_push es s s' e agrees made

-- a failed call on a side
blames_at : (side : Side) (es : List LogEntry) (p p' faults : ℕ) → SideRests side (history_view es p) (history_view (es ++ Fail side faults ∷ []) p')
blames_at First es p p' faults = record {
  reads = ap (λ z. z.first.reads) (after_push es begun (Fail First faults));
  loose = ap (λ z. z.first.loose) (after_push es begun (Fail First faults));
  writes = ap (λ z. z.first.writes) (after_push es begun (Fail First faults));
  others = ap (λ z. z.second) (after_push es begun (Fail First faults));
  sent = ap (λ z. z.sent) (after_push es begun (Fail First faults));
  time = elapses_push es p p' (Fail First faults) (IsItemNow (history_view es p)) (λ i now. now) (λ i now. record { first = now.first; second = now.second; sent = now.sent });
}
blames_at Second es p p' faults = record {
  reads = ap (λ z. z.second.reads) (after_push es begun (Fail Second faults));
  loose = ap (λ z. z.second.loose) (after_push es begun (Fail Second faults));
  writes = ap (λ z. z.second.writes) (after_push es begun (Fail Second faults));
  others = ap (λ z. z.first) (after_push es begun (Fail Second faults));
  sent = ap (λ z. z.sent) (after_push es begun (Fail Second faults));
  time = elapses_push es p p' (Fail Second faults) (IsItemNow (history_view es p)) (λ i now. now) (λ i now. record { first = now.first; second = now.second; sent = now.sent });
}

pub blames : (side : Side) (es new : List LogEntry) (p p' faults : ℕ) → new ≡ es ++ Fail side faults ∷ [] → SideRests side (history_view es p) (history_view new p')
blames side es new p p' faults is = subst (λ l. SideRests side (history_view es p) (history_view l p')) (sym is) (blames_at side es p p' faults)

-- The count of a side whose failed call wasn't recorded stands at the greatest u64.
stands_at_end : (side : Side) (es : List LogEntry) (p : ℕ) → 2 ^ 64 - 1 ≤ (side_of side (history_view (es ++ lapse_of side ∷ []) p)).faults
stands_at_end First es p = omega (arith, ap (λ z. z.first.faults) (after_push es begun (lapse_of First)))
stands_at_end Second es p = omega (arith, ap (λ z. z.second.faults) (after_push es begun (lapse_of Second)))

still_at_end : (late : Side) (es : List LogEntry) (p : ℕ) → 2 ^ 64 - 1 ≤ (side_of late (history_view es p)).faults → 2 ^ 64 - 1 ≤ (side_of late (history_view (es ++ lapse_of (other late) ∷ []) p)).faults
still_at_end First es p le = omega (arith, le, ap (λ z. z.first.faults) (after_push es begun (lapse_of Second)))
still_at_end Second es p le = omega (arith, le, ap (λ z. z.second.faults) (after_push es begun (lapse_of First)))

rose_at_end : (count : ℕ) → 2 ^ 64 - 1 ≤ count → Rose count count
rose_at_end count le = omega arith

pub rose_lapsed : (log : List LogEntry) (lapse : Lapse) (late side : Side) (p : ℕ) → lapse ≡ Of late → late ≡ side → Rose (side_of side (history_view (with_lapse log lapse) p)).faults (side_of side (history_view (with_lapse log lapse) p)).faults
rose_lapsed log lapse late side p was same = rose_at_end _ (subst (λ (l : Lapse). 2 ^ 64 - 1 ≤ (side_of side (history_view (with_lapse log l) p)).faults) (sym (was ∙ ap Of same)) (stands_at_end side log p))

both_at_end : (log : List LogEntry) (late side : Side) (p : ℕ) → 2 ^ 64 - 1 ≤ (side_of side (history_view (with_lapse log (OfBoth late)) p)).faults
both_at_end log First First p = still_at_end First (log ++ lapse_of First ∷ []) p (stands_at_end First log p)
both_at_end log First Second p = stands_at_end Second (log ++ lapse_of First ∷ []) p
both_at_end log Second First p = stands_at_end First (log ++ lapse_of Second ∷ []) p
both_at_end log Second Second p = still_at_end Second (log ++ lapse_of Second ∷ []) p (stands_at_end Second log p)

pub rose_both : (log : List LogEntry) (lapse : Lapse) (late side : Side) (p : ℕ) → lapse ≡ OfBoth late → Rose (side_of side (history_view (with_lapse log lapse) p)).faults (side_of side (history_view (with_lapse log lapse) p)).faults
rose_both log lapse late side p was = rose_at_end _ (subst (λ (l : Lapse). 2 ^ 64 - 1 ≤ (side_of side (history_view (with_lapse log l) p)).faults) (sym was) (both_at_end log late side p))

-- what the record says of a side is loose on it
pub loose_on : (side : Side) (es : List LogEntry) (p : ℕ) (s : Stand) (n : ℕ) → after es begun ≡ s → (side_of side (history_view es p)).loose n ≡ true → (side_of side (still s)).loose n ≡ true
loose_on First es p s n agrees loose = sym (ap (λ (z : Stand). z.first.loose n) agrees) ∙ loose
loose_on Second es p s n agrees loose = sym (ap (λ (z : Stand). z.second.loose n) agrees) ∙ loose

-- a failed call that is recorded is counted once
counts_at : (side : Side) (es : List LogEntry) (p p' faults : ℕ) → (side_of side (history_view es p)).faults ≤ faults → (side_of side (history_view (es ++ Fail side faults ∷ []) p')).faults ≡ faults
counts_at First es p p' faults le = omega (arith, le, ap (λ z. z.first.faults) (after_push es begun (Fail First faults)))
counts_at Second es p p' faults le = omega (arith, le, ap (λ z. z.second.faults) (after_push es begun (Fail Second faults)))

pub counts_once : (side : Side) (es new : List LogEntry) (p p' count faults : ℕ) → new ≡ es ++ Fail side faults ∷ [] → faults ≡ raised count → count ≤ 2 ^ 64 - 1 → count ≡ (side_of side (history_view es p)).faults
    → (side_of side (history_view new p')).faults ≡ raised (side_of side (history_view es p)).faults
counts_once side es new p p' count faults is up bound same =
    subst (λ l. (side_of side (history_view l p')).faults ≡ raised (side_of side (history_view es p)).faults) (sym is) (counts_at side es p p' faults (omega (arith, up, bound, same)) ∙ up ∙ ap raised same)
