-- Pairs of one block that are taken away, one after the other.
use Rattle.std.proofs.Common.{◌≡◌, ℕ, ◌+◌, ◌<◌, ◌≤◌, ◌-◌, true, not, ◌&&◌, ◌==◌, List, [], ◌∷◌, ◌++◌, length, refl, sym, ◌∙◌, ap, subst, arith, take}
use Rattle.volume_laws.proofs.Common.{slice_set, slice_index, and_from, take_more, length-take, holds, without_pair, World, has_number, put_at, counts_start, bitmap_start, format_gate, data_start, Image, Header, Patch, IsBatch, with_patch, overlaid, overlaid_with_patch, pairs, IsTable, Pointers, IsSlotSector, KeepsStored, Counts, KeepsCounts, holds-without_pointers, HasTables, Tables, pairs_of, world_with, zeros_of, Turns, AreHeld, MayTake, PairsAreTaken, pairs_without, with_slots_and_counts}
use Rattle.std.specs.Prelude.{get_or}
use Rattle.reclaim.proofs.HeldLaws.{has-at, not_before}
use Rattle.volume_laws.proofs.BlockLaws.{length-with_patch}
use Rattle.volume_laws.proofs.StepWorlds.{without_parts}
use Rattle.volume_laws.proofs.Dropped.{IsDropped, dropped}
use Rattle.tsd_model.proofs.ValueLaws.{and_false}

-- ---- batches after one another
module _ (t mid now : Tables) (ps : List Patch) (first : Turns t mid ps) where
  -- what a batch does after another, where a longer one does both
  both_turn : (qs new : List Patch) → Turns mid now qs → ((z : Image) (n : ℕ) → overlaid new z n ≡ overlaid qs (overlaid ps z) n) → Turns t now new
  both_turn qs new next laid = record {
    sound = next.sound;
    size = next.size ∙ first.size;
    has = λ z had. let here : overlaid new z ≡ overlaid qs (overlaid ps z) = λ i n. laid z n i in
        subst (HasTables now) (sym here) (next.has (overlaid ps z) (first.has z had));
    contents = λ z n above. laid z n ∙ (next.contents (overlaid ps z) n (let e = ap data_start first.size in omega (arith, e, above)) ∙ first.contents z n above);
    gate = λ z. laid z format_gate ∙ (next.gate (overlaid ps z) ∙ first.gate z);
  }

  -- one patch more
  pub one_turn : (p : Patch) (new : List Patch) → IsBatch ps → new ≡ with_patch p ps → Turns mid now (p ∷ []) → Turns t now new
  one_turn p new batch is next = both_turn (p ∷ []) new next (λ z n. ap (λ (qs : List Patch). overlaid qs z n) is ∙ overlaid_with_patch p ps z n batch.distinct)

  -- two more
  pub two_turn : (p q : Patch) (grown new : List Patch) → IsBatch ps → IsBatch grown → grown ≡ with_patch p ps → new ≡ with_patch q grown → Turns mid now (with_patch q (with_patch p [])) → Turns t now new
  two_turn p q grown new batch more is then next = both_turn (with_patch q (p ∷ [])) new next (λ z n.
      ap (λ (qs : List Patch). overlaid qs z n) then
      ∙ (overlaid_with_patch q grown z n more.distinct
      ∙ ((λ i. put_at q.sector q.bytes (inner z i) n) ∙ sym (overlaid_with_patch q (p ∷ []) (overlaid ps z) n refl))))
    where
      inner : (z : Image) → overlaid grown z ≡ put_at p.sector p.bytes (overlaid ps z)
      inner z i n = (ap (λ (qs : List Patch). overlaid qs z n) is ∙ overlaid_with_patch p ps z n batch.distinct) i

-- ---- pairs without those
without_push : (es : List (ℕ × ℕ)) (a b : ℕ) (bs : List ℕ) → pairs_without es a (bs ++ b ∷ []) ≡ without_pair a b (pairs_without es a bs)
without_push es a b [] = refl
without_push es a b (c ∷ bs) = without_push (without_pair a c es) a b bs

pub holds-pairs_without : (w : World) (a : ℕ) (bs : List ℕ) (x y : ℕ) → holds (pairs_without w.pairs a bs) x y ≡ (holds w.pairs x y && not ((x == a) && has_number bs y))
holds-pairs_without w a bs x y = ap (λ (v : World). holds v.pairs x y) (sym (without_parts a bs w)) ∙ holds-without_pointers a bs w x y

pub next_pair : (t : Tables) (a b : ℕ) (bs : List ℕ) (i : ℕ) → AreHeld t a bs → i < length bs → b ≡ get_or bs i 0 → holds (pairs_without (pairs_of t) a (take i bs)) a b ≡ true
next_pair t a b bs i held within is =
    ap (holds (pairs_without (pairs_of t) a (take i bs)) a) is
    ∙ (holds-pairs_without (record (world_with t (zeros_of t)) { pairs = pairs_of t }) a (take i bs) a (get_or bs i 0)
    ∙ and_from (holds (pairs_of t) a (get_or bs i 0)) (not ((a == a) && has_number (take i bs) (get_or bs i 0))) (held.held (get_or bs i 0) (has-at bs i within))
    (ap (λ s. not ((a == a) && s)) (not_before bs i held.once within) ∙ ap not (and_false (a == a))))

-- ---- the loop
pub taken_none : (t : Tables) (p : Pointers) (c : Counts) (a : ℕ) (bs : List ℕ) (ps : List Patch) → ps ≡ [] → MayTake t p c a bs → PairsAreTaken t a [] (with_slots_and_counts t p c) ps
taken_none t p c a bs ps and_false may = subst (λ (qs : List Patch). PairsAreTaken t a [] (with_slots_and_counts t p c) qs) (sym and_false) (subst (λ (u : Tables). PairsAreTaken t a [] u []) same (record {
  pairs = refl;
  turns = record { sound = may.sound; size = refl; has = λ z had. had; contents = λ z n above. refl; gate = λ z. refl };
  few = omega arith;
}))
  where
    same : t ≡ with_slots_and_counts t p c
    same i = record t { slots = sym may.parts.slots i; counts = sym may.parts.counts i }

pub taken_more : (t : Tables) (old new : Pointers) (oc nc : Counts) (a b : ℕ) (bs : List ℕ) (i : ℕ) (p q : Patch) (ps grown now : List Patch)
    → AreHeld t a bs → i < length bs → b ≡ get_or bs i 0 → PairsAreTaken t a (take i bs) (with_slots_and_counts t old oc) ps
    → IsBatch ps → IsBatch grown → grown ≡ with_patch p ps → now ≡ with_patch q grown → old.geometry ≡ t.geometry → oc.geometry ≡ t.geometry
    → pairs new ≡ without_pair a b (pairs old) → IsTable new → new.geometry ≡ old.geometry → IsSlotSector old p → KeepsStored old new p
    → nc ≡ record oc { counts = slice_set oc.counts b (slice_index oc.counts b - 1) }
    → (counts_start ≤ q.sector) × (q.sector < bitmap_start nc.geometry) → KeepsCounts oc nc q
    → PairsAreTaken t a (take (i + 1) bs) (with_slots_and_counts t new nc) now
taken_more t old new oc nc a b bs i p q ps grown now held within is taken batch more first second og cg less table ng sector keeps lowered inside counted = record {
  pairs = less ∙ (ap (without_pair a b) taken.pairs ∙ (sym (without_push (pairs_of t) a b (take i bs)) ∙ ap (pairs_without (pairs_of t) a) (ap (λ k. take i bs ++ k ∷ []) is ∙ sym (take_more bs i 0 within))));
  turns = two_turn t mid (with_slots_and_counts t new nc) ps taken.turns p q grown now batch more first second next.turns;
  few = omega (arith, ap (λ (qs : List Patch). length qs) second, length-with_patch q grown, ap (λ (qs : List Patch). length qs) first, length-with_patch p ps, taken.few, length-take i bs, length-take (i + 1) bs);
}
  where
    mid : Tables
    mid = with_slots_and_counts t old oc

    h : Header
    h = record { version = t.version; geometry = t.geometry }

    here : holds (pairs_of mid) a b ≡ true
    here = ap (λ es. holds es a b) taken.pairs ∙ next_pair t a b bs i held within is

    next : IsDropped mid a b (with_slots_and_counts t new nc) (with_patch q (with_patch p []))
    next = dropped mid h old new oc nc (record { geometry = t.geometry; live = t.live; unhidden = t.live }) (record { version = t.version; geometry = t.geometry; records = t.records }) t.is_sweeping a b p q (with_patch q (with_patch p []))
        taken.turns.sound here refl og cg less table ng sector keeps lowered inside counted refl
