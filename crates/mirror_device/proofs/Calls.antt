-- What an entry more says of the sides.
use Rattle.std.specs.Global.{Box, Vec}
use Rattle.std.proofs.Common.{◌≡◌, ◌≢◌, inl, inr, ⊎_elim, ℕ, ◌≤◌, true, false, cond, ◌==◌, ◌||◌, List, [], ◌∷◌, ◌++◌, refl, sym, ◌∙◌, ap, subst, arith, length-append}
use Rattle.std.proofs.lemmas.Bool.Decides.{nat_tests}
use Rattle.std.proofs.lemmas.List.{append-nil}
use Rattle.image_device.specs.Counts.{raised}
use Rattle.image_device.specs.History.{firmed}
use Rattle.image_device.specs.Image.{put_at}
use Rattle.image_device.proofs.Sets.{or_false_right}
use Rattle.mirror_device.specs.declared.side.Side.{Side}
use Rattle.mirror_device.specs.declared.side.Side.TheVariants.{First, Second}
use Rattle.mirror_device.specs.declared.entry.LogEntry.{LogEntry}
use Rattle.mirror_device.specs.declared.entry.LogEntry.TheVariants.{Write, Sync, Put, Poke}
use Rattle.mirror_device.specs.SidesView.{SidesView, Item, side_of, other, IsItemNow, IsItemWithin, IsItemInPut}
use Rattle.mirror_device.specs.SideCalls.{SidesElapse, SideRests, SideTouches, SideSettles, SidesAppend, IncludesPut, SideUses, SideSyncs, SidesPut, IsSideFirm}
use Rattle.mirror_device.specs.History.{begun, step, after, IsNow, IsDuring, history_view}
use Rattle.mirror_device.specs.HistoryLaws.{history_bounded}
use Rattle.mirror_device.proofs.Pushes.{after_push, elapses_push, elapses_same, inside}

differs : (sector n : ℕ) → n ≢ sector → (n == sector) ≡ false
differs sector n h = grind (arith, nat_tests)

is_same : (sector : ℕ) → (sector == sector) ≡ true
is_same sector = grind (arith, nat_tests)

-- a call that changed nothing
pub rests_none : (side : Side) (es new : List LogEntry) (p p' : ℕ) → new ≡ es → SideRests side (history_view es p) (history_view new p')
rests_none First es new p p' is = subst (λ l. SideRests First (history_view es p) (history_view l p')) (sym is) (record { reads = refl; loose = refl; writes = refl; others = refl; sent = refl; time = elapses_same es p p' (IsItemNow (history_view es p)) })
rests_none Second es new p p' is = subst (λ l. SideRests Second (history_view es p) (history_view l p')) (sym is) (record { reads = refl; loose = refl; writes = refl; others = refl; sent = refl; time = elapses_same es p p' (IsItemNow (history_view es p)) })

-- a write that failed, and a sync that did
within_now : (side : Side) (sector : ℕ) (v : SidesView) (i : Item) → IsItemNow v i → IsItemWithin side (λ n. n == sector) v i
within_now First sector v i now = record {
  here = record { image = record { agrees = λ n h. now.first.image.agrees n (or_false_right (n == sector) (v.first.loose n) h); whole = now.first.image.whole }; faults = now.first.faults; syncs = now.first.syncs };
  there = now.second;
  sent = now.sent;
}
within_now Second sector v i now = record {
  here = record { image = record { agrees = λ n h. now.second.image.agrees n (or_false_right (n == sector) (v.second.loose n) h); whole = now.second.image.whole }; faults = now.second.faults; syncs = now.second.syncs };
  there = now.first;
  sent = now.sent;
}

pub touches_rests : (side : Side) (sector : ℕ) (old new : SidesView) → SideRests side old new → SideTouches side sector old new
touches_rests side sector old new call = record {
  reads = λ n h j. call.reads j n;
  loose = λ n h j. call.loose j n;
  others = call.others;
  sent = call.sent;
  time = record {
    later = call.time.later;
    nothing_else = λ t i le left. ⊎_elim inl (λ more. inr (⊎_elim (λ now. inl (within_now side sector old i now)) inr more)) (call.time.nothing_else t i le left);
    keeps = call.time.keeps;
  };
}

pub settles_rests : (side : Side) (old new : SidesView) → SideRests side old new → SideSettles side old new
settles_rests side old new call = record { reads = call.reads; loose = λ n h. (λ j. call.loose j n) ∙ h; writes = call.writes; others = call.others; sent = call.sent; time = call.time }

pub syncs_uses : (side : Side) (old new : SidesView) → SideUses side old new → SideSyncs side old new
syncs_uses side old new u = record { clock = u.clock; faults = u.faults; syncs = omega (arith, u.syncs); other_faults = u.other_faults; other_syncs = u.other_syncs; put_faults = u.put_faults }

-- a write that is done
module _ (es : List LogEntry) (p : ℕ) (sector : ℕ) (box : Box (List ℕ)) where
  written_at : (side : Side) → (side_of side (history_view (es ++ Write side sector box ∷ []) p)).reads sector ≡ box.value
  written_at First = ap (λ z. z.first.reads sector) (after_push es begun (Write First sector box)) ∙ ap (λ t. cond t box.value ((after es begun).first.reads sector)) (is_same sector)
  written_at Second = ap (λ z. z.second.reads sector) (after_push es begun (Write Second sector box)) ∙ ap (λ t. cond t box.value ((after es begun).second.reads sector)) (is_same sector)

  loose_at : (side : Side) → (side_of side (history_view (es ++ Write side sector box ∷ []) p)).loose sector ≡ true
  loose_at First = ap (λ z. z.first.loose sector) (after_push es begun (Write First sector box)) ∙ ap (λ t. t || (after es begun).first.loose sector) (is_same sector)
  loose_at Second = ap (λ z. z.second.loose sector) (after_push es begun (Write Second sector box)) ∙ ap (λ t. t || (after es begun).second.loose sector) (is_same sector)

  begins : (side : Side) (i : Item) → IsNow (after es begun) i → IsDuring (after es begun) (Write side sector box) i
  begins First i now = record {
    here = record { image = record { agrees = λ n h. now.first.image.agrees n (or_false_right (n == sector) ((after es begun).first.loose n) h); whole = now.first.image.whole }; faults = now.first.faults; syncs = now.first.syncs };
    there = now.second;
    sent = now.sent;
  }
  begins Second i now = record {
    here = record { image = record { agrees = λ n h. now.second.image.agrees n (or_false_right (n == sector) ((after es begun).second.loose n) h); whole = now.second.image.whole }; faults = now.second.faults; syncs = now.second.syncs };
    there = now.first;
    sent = now.sent;
  }

  is_within : (side : Side) (i : Item) → IsDuring (after es begun) (Write side sector box) i → IsItemWithin side (λ n. n == sector) (history_view es p) i
  is_within First i now = record { here = record { image = now.here.image; faults = now.here.faults; syncs = now.here.syncs }; there = now.there; sent = now.sent }
  is_within Second i now = record { here = record { image = now.here.image; faults = now.here.faults; syncs = now.here.syncs }; there = now.there; sent = now.sent }

  touches_at : (side : Side) → SideTouches side sector (history_view es p) (history_view (es ++ Write side sector box ∷ []) p)
  touches_at First = record {
    reads = λ n h. ap (λ z. z.first.reads n) (after_push es begun (Write First sector box)) ∙ ap (λ t. cond t box.value ((after es begun).first.reads n)) (differs sector n h);
    loose = λ n h. ap (λ z. z.first.loose n) (after_push es begun (Write First sector box)) ∙ ap (λ t. t || (after es begun).first.loose n) (differs sector n h);
    others = ap (λ z. z.second) (after_push es begun (Write First sector box));
    sent = ap (λ z. z.sent) (after_push es begun (Write First sector box));
    time = elapses_push es p p (Write First sector box) (IsItemWithin First (λ n. n == sector) (history_view es p)) (begins First) (is_within First);
  }
  touches_at Second = record {
    reads = λ n h. ap (λ z. z.second.reads n) (after_push es begun (Write Second sector box)) ∙ ap (λ t. cond t box.value ((after es begun).second.reads n)) (differs sector n h);
    loose = λ n h. ap (λ z. z.second.loose n) (after_push es begun (Write Second sector box)) ∙ ap (λ t. t || (after es begun).second.loose n) (differs sector n h);
    others = ap (λ z. z.first) (after_push es begun (Write Second sector box));
    sent = ap (λ z. z.sent) (after_push es begun (Write Second sector box));
    time = elapses_push es p p (Write Second sector box) (IsItemWithin Second (λ n. n == sector) (history_view es p)) (begins Second) (is_within Second);
  }

  uses_at : (side : Side) → SideUses side (history_view es p) (history_view (es ++ Write side sector box ∷ []) p)
  uses_at First = let e = after_push es begun (Write First sector box) in record {
    clock = omega (arith, length-append es (Write First sector box ∷ []));
    faults = omega (arith, ap (λ z. z.first.faults) e);
    syncs = ap (λ z. z.first.syncs) e;
    other_faults = ap (λ z. z.second.faults) e;
    other_syncs = ap (λ z. z.second.syncs) e;
    put_faults = refl;
  }
  uses_at Second = let e = after_push es begun (Write Second sector box) in record {
    clock = omega (arith, length-append es (Write Second sector box ∷ []));
    faults = omega (arith, ap (λ z. z.second.faults) e);
    syncs = ap (λ z. z.second.syncs) e;
    other_faults = ap (λ z. z.first.faults) e;
    other_syncs = ap (λ z. z.first.syncs) e;
    put_faults = refl;
  }

  fine_at : (side : Side) → (side_of side (history_view (es ++ Write side sector box ∷ []) p)).faults ≡ (side_of side (history_view es p)).faults
  fine_at First = ap (λ z. z.first.faults) (after_push es begun (Write First sector box))
  fine_at Second = ap (λ z. z.second.faults) (after_push es begun (Write Second sector box))

  write_at : (side : Side) → (side_of side (history_view (es ++ Write side sector box ∷ []) p)).writes ≡ raised (side_of side (history_view es p)).writes
  write_at First = ap (λ z. z.first.writes) (after_push es begun (Write First sector box))
  write_at Second = ap (λ z. z.second.writes) (after_push es begun (Write Second sector box))

  module _ (side : Side) (new : List LogEntry) (p' : ℕ) (is : new ≡ es ++ Write side sector box ∷ []) (count : p' ≡ p) where
    moved : (P : SidesView → Type 0) → P (history_view (es ++ Write side sector box ∷ []) p) → P (history_view new p')
    moved P done = subst (λ q. P (history_view new q)) (sym count) (subst (λ l. P (history_view l p)) (sym is) done)

    pub written : (bytes : List ℕ) → box.value ≡ bytes → (side_of side (history_view new p')).reads sector ≡ bytes
    written bytes same = moved (λ v. (side_of side v).reads sector ≡ bytes) (written_at side ∙ same)

    pub loose : (side_of side (history_view new p')).loose sector ≡ true
    loose = moved (λ v. (side_of side v).loose sector ≡ true) (loose_at side)

    pub touches : SideTouches side sector (history_view es p) (history_view new p')
    touches = moved (λ v. SideTouches side sector (history_view es p) v) (touches_at side)

    pub write_uses : SideUses side (history_view es p) (history_view new p')
    write_uses = moved (λ v. SideUses side (history_view es p) v) (uses_at side)

    pub write_fine : (side_of side (history_view new p')).faults ≡ (side_of side (history_view es p)).faults
    write_fine = moved (λ v. (side_of side v).faults ≡ (side_of side (history_view es p)).faults) (fine_at side)

    pub write_counts : (side_of side (history_view new p')).writes ≡ raised (side_of side (history_view es p)).writes
    write_counts = moved (λ v. (side_of side v).writes ≡ raised (side_of side (history_view es p)).writes) (write_at side)

-- a sync that is done
module _ (es : List LogEntry) (p : ℕ) where
  is_now : (i : Item) → IsNow (after es begun) i → IsItemNow (history_view es p) i
  is_now i now = record { first = now.first; second = now.second; sent = now.sent }

  firm_at : (side : Side) → IsSideFirm side (history_view (es ++ Sync side ∷ []) p)
  firm_at First n = ap (λ z. z.first.loose n) (after_push es begun (Sync First))
  firm_at Second n = ap (λ z. z.second.loose n) (after_push es begun (Sync Second))

  settles_at : (side : Side) → SideSettles side (history_view es p) (history_view (es ++ Sync side ∷ []) p)
  settles_at First = let e = after_push es begun (Sync First) in record {
    reads = ap (λ z. z.first.reads) e;
    loose = λ n h. ap (λ z. z.first.loose n) e;
    writes = ap (λ z. z.first.writes) e;
    others = ap (λ z. z.second) e;
    sent = ap (λ z. z.sent) e;
    time = elapses_push es p p (Sync First) (IsItemNow (history_view es p)) (λ i now. now) is_now;
  }
  settles_at Second = let e = after_push es begun (Sync Second) in record {
    reads = ap (λ z. z.second.reads) e;
    loose = λ n h. ap (λ z. z.second.loose n) e;
    writes = ap (λ z. z.second.writes) e;
    others = ap (λ z. z.first) e;
    sent = ap (λ z. z.sent) e;
    time = elapses_push es p p (Sync Second) (IsItemNow (history_view es p)) (λ i now. now) is_now;
  }

  counted_at : (side : Side) → (side_of side (history_view (es ++ Sync side ∷ []) p)).syncs ≡ raised (side_of side (history_view es p)).syncs
  counted_at First = ap (λ z. z.first.syncs) (after_push es begun (Sync First))
  counted_at Second = ap (λ z. z.second.syncs) (after_push es begun (Sync Second))

  syncs_at : (side : Side) → SideSyncs side (history_view es p) (history_view (es ++ Sync side ∷ []) p)
  syncs_at First = let e = after_push es begun (Sync First) in record {
    clock = omega (arith, length-append es (Sync First ∷ []));
    faults = omega (arith, ap (λ z. z.first.faults) e);
    syncs = omega (arith, (history_bounded es).first, ap (λ z. z.first.syncs) e);
    other_faults = ap (λ z. z.second.faults) e;
    other_syncs = ap (λ z. z.second.syncs) e;
    put_faults = refl;
  }
  syncs_at Second = let e = after_push es begun (Sync Second) in record {
    clock = omega (arith, length-append es (Sync Second ∷ []));
    faults = omega (arith, ap (λ z. z.second.faults) e);
    syncs = omega (arith, (history_bounded es).second, ap (λ z. z.second.syncs) e);
    other_faults = ap (λ z. z.first.faults) e;
    other_syncs = ap (λ z. z.first.syncs) e;
    put_faults = refl;
  }

  sync_fine_at : (side : Side) → (side_of side (history_view (es ++ Sync side ∷ []) p)).faults ≡ (side_of side (history_view es p)).faults
  sync_fine_at First = ap (λ z. z.first.faults) (after_push es begun (Sync First))
  sync_fine_at Second = ap (λ z. z.second.faults) (after_push es begun (Sync Second))

  module _ (side : Side) (new : List LogEntry) (p' : ℕ) (is : new ≡ es ++ Sync side ∷ []) (count : p' ≡ p) where
    synced_to : (P : SidesView → Type 0) → P (history_view (es ++ Sync side ∷ []) p) → P (history_view new p')
    synced_to P done = subst (λ q. P (history_view new q)) (sym count) (subst (λ l. P (history_view l p)) (sym is) done)

    pub firm : IsSideFirm side (history_view new p')
    firm = synced_to (λ v. IsSideFirm side v) (firm_at side)

    pub settles : SideSettles side (history_view es p) (history_view new p')
    settles = synced_to (λ v. SideSettles side (history_view es p) v) (settles_at side)

    pub sync_uses : SideSyncs side (history_view es p) (history_view new p')
    sync_uses = synced_to (λ v. SideSyncs side (history_view es p) v) (syncs_at side)

    pub sync_counts : (side_of side (history_view new p')).syncs ≡ raised (side_of side (history_view es p)).syncs
    sync_counts = synced_to (λ v. (side_of side v).syncs ≡ raised (side_of side (history_view es p)).syncs) (counted_at side)

    pub sync_fine : (side_of side (history_view new p')).faults ≡ (side_of side (history_view es p)).faults
    sync_fine = synced_to (λ v. (side_of side v).faults ≡ (side_of side (history_view es p)).faults) (sync_fine_at side)

-- a put that is done
module _ (es : List LogEntry) (p : ℕ) (text : Vec ℕ) where
  append_begins : (i : Item) → IsNow (after es begun) i → IsDuring (after es begun) (Put text) i
  append_begins i now = record { first = now.first; second = now.second; sent = record { front = []; back = text.items; sent = now.sent ∙ sym (append-nil (after es begun).sent); whole = refl } }

  in_put : (i : Item) → IsDuring (after es begun) (Put text) i → IsItemInPut text.items (history_view es p) i
  in_put i now = record { first = now.first; second = now.second; sent = now.sent }

  appends_at : SidesAppend text.items (history_view es p) (history_view (es ++ Put text ∷ []) p)
  appends_at = record {
    first = ap (λ z. z.first) (after_push es begun (Put text));
    second = ap (λ z. z.second) (after_push es begun (Put text));
    time = elapses_push es p p (Put text) (IsItemInPut text.items (history_view es p)) append_begins in_put;
  }

  includes_at : IncludesPut text.items (history_view es p) (history_view (es ++ Put text ∷ []) p)
  includes_at t i le during = inside t es begun (Put text) i le (record { first = during.first; second = during.second; sent = during.sent })

  module _ (piece : List ℕ) (same : text.items ≡ piece) (new : List LogEntry) (p' : ℕ) (is : new ≡ es ++ Put text ∷ []) (count : p' ≡ p) where
    put_to : (P : List ℕ → SidesView → Type 0) → P text.items (history_view (es ++ Put text ∷ []) p) → P piece (history_view new p')
    put_to P done = subst (λ q. P piece (history_view new q)) (sym count) (subst (λ x. P x (history_view new p)) same (subst (λ l. P text.items (history_view l p)) (sym is) done))

    pub appends : SidesAppend piece (history_view es p) (history_view new p')
    appends = put_to (λ x v. SidesAppend x (history_view es p) v) appends_at

    pub includes : IncludesPut piece (history_view es p) (history_view new p')
    includes = put_to (λ x v. IncludesPut x (history_view es p) v) includes_at

    pub sent : (history_view new p').sent ≡ (history_view es p).sent ++ piece
    sent = put_to (λ x v. v.sent ≡ (history_view es p).sent ++ x) (ap (λ z. z.sent) (after_push es begun (Put text)))

    pub puts : SidesPut (history_view es p) (history_view new p')
    puts = let e = after_push es begun (Put text) in put_to (λ x v. SidesPut (history_view es p) v) (record {
      clock = omega (arith, length-append es (Put text ∷ []));
      first_faults = ap (λ z. z.first.faults) e;
      first_syncs = ap (λ z. z.first.syncs) e;
      second_faults = ap (λ z. z.second.faults) e;
      second_syncs = ap (λ z. z.second.syncs) e;
      put_faults = omega arith;
    })

-- a put that failed
pub appends_not : (es new : List LogEntry) (p p' : ℕ) (piece : List ℕ) → new ≡ es → SidesAppend piece (history_view es p) (history_view new p')
appends_not es new p p' piece is = subst (λ l. SidesAppend piece (history_view es p) (history_view l p')) (sym is) (record { first = refl; second = refl; time = elapses_same es p p' (IsItemInPut piece (history_view es p)) })

pub puts_not : (es new : List LogEntry) (p p' : ℕ) → new ≡ es → p ≤ p' → SidesPut (history_view es p) (history_view new p')
puts_not es new p p' is le = subst (λ l. SidesPut (history_view es p) (history_view l p')) (sym is)
    (record { clock = omega arith; first_faults = refl; first_syncs = refl; second_faults = refl; second_syncs = refl; put_faults = le })

-- a poke that is done
module _ (es : List LogEntry) (p : ℕ) (sector : ℕ) (box : Box (List ℕ)) where
  pokes_at : (side : Side) → SidesElapse (history_view es p) (history_view (es ++ Poke side sector box ∷ []) p) (IsItemNow (history_view es p))
  pokes_at side = elapses_push es p p (Poke side sector box) (IsItemNow (history_view es p)) (λ i now. now) (is_now es p)

  poked_reads_at : (side : Side) → (side_of side (history_view (es ++ Poke side sector box ∷ []) p)).reads ≡ put_at sector box.value (side_of side (history_view es p)).reads
  poked_reads_at First = ap (λ z. z.first.reads) (after_push es begun (Poke First sector box))
  poked_reads_at Second = ap (λ z. z.second.reads) (after_push es begun (Poke Second sector box))

  poked_loose_at : (side : Side) → (side_of side (history_view (es ++ Poke side sector box ∷ []) p)).loose ≡ firmed sector (side_of side (history_view es p)).loose
  poked_loose_at First = ap (λ z. z.first.loose) (after_push es begun (Poke First sector box))
  poked_loose_at Second = ap (λ z. z.second.loose) (after_push es begun (Poke Second sector box))

  poked_faults_at : (side : Side) → (side_of side (history_view (es ++ Poke side sector box ∷ []) p)).faults ≡ (side_of side (history_view es p)).faults
  poked_faults_at First = ap (λ z. z.first.faults) (after_push es begun (Poke First sector box))
  poked_faults_at Second = ap (λ z. z.second.faults) (after_push es begun (Poke Second sector box))

  poked_syncs_at : (side : Side) → (side_of side (history_view (es ++ Poke side sector box ∷ []) p)).syncs ≡ (side_of side (history_view es p)).syncs
  poked_syncs_at First = ap (λ z. z.first.syncs) (after_push es begun (Poke First sector box))
  poked_syncs_at Second = ap (λ z. z.second.syncs) (after_push es begun (Poke Second sector box))

  poked_writes_at : (side : Side) → (side_of side (history_view (es ++ Poke side sector box ∷ []) p)).writes ≡ (side_of side (history_view es p)).writes
  poked_writes_at First = ap (λ z. z.first.writes) (after_push es begun (Poke First sector box))
  poked_writes_at Second = ap (λ z. z.second.writes) (after_push es begun (Poke Second sector box))

  poked_others_at : (side : Side) → side_of (other side) (history_view (es ++ Poke side sector box ∷ []) p) ≡ side_of (other side) (history_view es p)
  poked_others_at First = ap (λ z. z.second) (after_push es begun (Poke First sector box))
  poked_others_at Second = ap (λ z. z.first) (after_push es begun (Poke Second sector box))

  sent_on : (side : Side) → (step (after es begun) (Poke side sector box)).sent ≡ (after es begun).sent
  sent_on First = refl
  sent_on Second = refl

  module _ (side : Side) (new : List LogEntry) (p' : ℕ) (is : new ≡ es ++ Poke side sector box ∷ []) (count : p' ≡ p) where
    poked_to : (P : SidesView → Type 0) → P (history_view (es ++ Poke side sector box ∷ []) p) → P (history_view new p')
    poked_to P done = subst (λ q. P (history_view new q)) (sym count) (subst (λ l. P (history_view l p)) (sym is) done)

    pub pokes : SidesElapse (history_view es p) (history_view new p') (IsItemNow (history_view es p))
    pokes = poked_to (λ v. SidesElapse (history_view es p) v (IsItemNow (history_view es p))) (pokes_at side)

    pub poked_reads : (bytes : List ℕ) → box.value ≡ bytes → (side_of side (history_view new p')).reads ≡ put_at sector bytes (side_of side (history_view es p)).reads
    poked_reads bytes same = poked_to (λ v. (side_of side v).reads ≡ put_at sector bytes (side_of side (history_view es p)).reads) (poked_reads_at side ∙ ap (λ b. put_at sector b (side_of side (history_view es p)).reads) same)

    pub poked_loose : (side_of side (history_view new p')).loose ≡ firmed sector (side_of side (history_view es p)).loose
    poked_loose = poked_to (λ v. (side_of side v).loose ≡ firmed sector (side_of side (history_view es p)).loose) (poked_loose_at side)

    pub poked_faults : (side_of side (history_view new p')).faults ≡ (side_of side (history_view es p)).faults
    poked_faults = poked_to (λ v. (side_of side v).faults ≡ (side_of side (history_view es p)).faults) (poked_faults_at side)

    pub poked_syncs : (side_of side (history_view new p')).syncs ≡ (side_of side (history_view es p)).syncs
    poked_syncs = poked_to (λ v. (side_of side v).syncs ≡ (side_of side (history_view es p)).syncs) (poked_syncs_at side)

    pub poked_writes : (side_of side (history_view new p')).writes ≡ (side_of side (history_view es p)).writes
    poked_writes = poked_to (λ v. (side_of side v).writes ≡ (side_of side (history_view es p)).writes) (poked_writes_at side)

    pub poked_others : side_of (other side) (history_view new p') ≡ side_of (other side) (history_view es p)
    poked_others = poked_to (λ v. side_of (other side) v ≡ side_of (other side) (history_view es p)) (poked_others_at side)

    pub poked_sent : (history_view new p').sent ≡ (history_view es p).sent
    poked_sent = poked_to (λ v. v.sent ≡ (history_view es p).sent) (ap (λ z. z.sent) (after_push es begun (Poke side sector box)) ∙ sent_on side)
