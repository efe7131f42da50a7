-- What a look-up by the index answers.
use Rattle.std.proofs.Common.{◌≡◌, ℕ, ◌<◌, ◌≤◌, ◌%◌, true, false, List, length, get_or, set, replicate, refl, sym, ◌∙◌, ap, subst, arith}
use Rattle.std.proofs.Common.{Option, Some, None}
use Rattle.pointer_table.proofs.Common.{false_from_ne_true, both_ways, get_or-replicate, length-replicate, holds, IsNextSource, IsNextTarget, IsThreadedBy, IsIndex, HasLinksAndHeads, source_of, target_of, is_at, slot_at, pairs_in, rank, mixed, group, linked, no_link, IsFirstFrom, IsFirstThatFar, AreThreads, Index, Way}
use Rattle.pointer_table.specs.declared.threads.Threads.{Threads}
use Rattle.pointer_table.specs.declared.way.Way.TheVariants as way
use Rattle.pointer_table.proofs.SlotLaws.{holds_from_slot, slot_from_holds, is_at_same, is_at_some}
use Rattle.pointer_table.proofs.ThreadLaws.{same_rank, link_aside}

-- ---- groups

pub source_group : (w : Way) (n : ℕ) (e : ℕ × ℕ) → w ≡ way.Source → group w n e ≡ e.0
source_group w n e is = ap (λ v. group v n e) is

pub target_group : (w : Way) (n : ℕ) (e : ℕ × ℕ) → w ≡ way.Target → group w n e ≡ e.1
target_group w n e is = ap (λ v. group v n e) is

pub bucket_group : (w : Way) (n : ℕ) (e : ℕ × ℕ) → w ≡ way.Bucket → 0 < n → group w n e < n
bucket_group w n e is some = let same : group w n e ≡ mixed (rank e) % n = ap (λ v. group v n e) is in omega arith

pub room_here : (blocks positions : ℕ) (x : Index) → HasLinksAndHeads blocks positions x → HasLinksAndHeads (length x.by_source.heads) positions x
room_here blocks positions x room = record {
  sources = refl;
  targets = room.targets ∙ sym room.sources;
  by_source = room.by_source;
  by_target = room.by_target;
  by_bucket = room.by_bucket;
}

-- ---- a pair's slot

pub no_place : (slots : List (Option (ℕ × ℕ))) (by : (ℕ × ℕ) → ℕ) (of r a b : ℕ) → of ≡ by (a, b) → r ≡ rank (a, b) → IsFirstThatFar (slot_at slots) by of r None
    → holds (pairs_in slots) a b ≡ false
no_place slots by of r a b groups ranks none = false_from_ne_true (holds (pairs_in slots) a b) (λ held.
    let k = slot_from_holds slots a b held in
    let low = none k.0 (a, b) (record { here = k.2; belongs = sym groups }) in
    omega arith)

pub another_place : (slots : List (Option (ℕ × ℕ))) (by : (ℕ × ℕ) → ℕ) (heads next : List ℕ) (of r a b position : ℕ) → AreThreads (slot_at slots) by heads next → of ≡ by (a, b) → r ≡ rank (a, b) → b < 4294967296
    → IsFirstThatFar (slot_at slots) by of r (Some position) → is_at a b (slot_at slots position) ≡ false → holds (pairs_in slots) a b ≡ false
another_place slots by heads next of r a b position threads groups ranks fits there off = false_from_ne_true (holds (pairs_in slots) a b) (λ held.
    let k = slot_from_holds slots a b held in
    let least = there.least k.0 (a, b) (record { here = k.2; belongs = sym groups }) (omega arith) in
    let above = there.above in
    let pair : there.pair ≡ (a, b) = same_rank there.pair (a, b) (threads.fits position there.pair there.member.here) fits (omega arith) in
    both_ways (is_at a b (slot_at slots position)) off (is_at_same a b (slot_at slots position) (there.member.here ∙ ap Some pair)))

pub that_place : (slots : List (Option (ℕ × ℕ))) (a b position : ℕ) → is_at a b (slot_at slots position) ≡ true → slot_at slots position ≡ Some (a, b)
that_place slots a b position on = is_at_some a b (slot_at slots position) on

-- ---- the next target and the next source

no_target : (slots : List (Option (ℕ × ℕ))) (by : (ℕ × ℕ) → ℕ) (a start : ℕ) → ((e : ℕ × ℕ) → by e ≡ e.0) → IsFirstThatFar (slot_at slots) by a (rank (a, start)) None
    → IsNextTarget (pairs_in slots) a start None
no_target slots by a start groups none b held =
    let k = slot_from_holds slots a b held in
    let low = none k.0 (a, b) (record { here = k.2; belongs = groups (a, b) }) in
    omega arith

that_target : (slots : List (Option (ℕ × ℕ))) (by : (ℕ × ℕ) → ℕ) (a start position : ℕ) → ((e : ℕ × ℕ) → by e ≡ e.0) → (there : IsFirstThatFar (slot_at slots) by a (rank (a, start)) (Some position))
    → IsNextTarget (pairs_in slots) a start (Some there.pair.1)
that_target slots by a start position groups there =
    let source : there.pair.0 ≡ a = sym (groups there.pair) ∙ there.member.belongs in
    let above = there.above in
    record {
      there = holds_from_slot slots position a there.pair.1 (there.member.here ∙ ap (λ x. Some (x, there.pair.1)) source);
      from = omega arith;
      least = λ b held from.
          let k = slot_from_holds slots a b held in
          let least = there.least k.0 (a, b) (record { here = k.2; belongs = groups (a, b) }) (omega arith) in
          omega arith;
    }

pub target_none : (slots : List (Option (ℕ × ℕ))) (w : Way) (n a start r : ℕ) → w ≡ way.Source → r ≡ rank (a, start) → IsFirstThatFar (slot_at slots) (group w n) a r None → IsNextTarget (pairs_in slots) a start None
target_none slots w n a start r ways ranks leads =
    no_target slots (group w n) a start (λ e. source_group w n e ways) (subst (λ (m : ℕ). IsFirstThatFar (slot_at slots) (group w n) a m None) ranks leads)

pub target_some : (slots : List (Option (ℕ × ℕ))) (w : Way) (n a start r k : ℕ) (result : Option ℕ) → w ≡ way.Source → r ≡ rank (a, start) → IsFirstThatFar (slot_at slots) (group w n) a r (Some k)
    → result ≡ target_of (slot_at slots k) → IsNextTarget (pairs_in slots) a start result
target_some slots w n a start r k result ways ranks leads found =
    let there : IsFirstFrom (slot_at slots) (group w n) a (rank (a, start)) k = subst (λ (m : ℕ). IsFirstThatFar (slot_at slots) (group w n) a m (Some k)) ranks leads in
    subst (IsNextTarget (pairs_in slots) a start) (sym (found ∙ ap target_of there.member.here))
    (that_target slots (group w n) a start k (λ e. source_group w n e ways) there)

no_source : (slots : List (Option (ℕ × ℕ))) (by : (ℕ × ℕ) → ℕ) (b start : ℕ) → ((e : ℕ × ℕ) → by e ≡ e.1) → IsFirstThatFar (slot_at slots) by b (rank (start, b)) None
    → IsNextSource (pairs_in slots) b start None
no_source slots by b start groups none a held =
    let k = slot_from_holds slots a b held in
    let low = none k.0 (a, b) (record { here = k.2; belongs = groups (a, b) }) in
    omega arith

that_source : (slots : List (Option (ℕ × ℕ))) (by : (ℕ × ℕ) → ℕ) (b start position : ℕ) → ((e : ℕ × ℕ) → by e ≡ e.1) → (there : IsFirstThatFar (slot_at slots) by b (rank (start, b)) (Some position))
    → IsNextSource (pairs_in slots) b start (Some there.pair.0)
that_source slots by b start position groups there =
    let target : there.pair.1 ≡ b = sym (groups there.pair) ∙ there.member.belongs in
    let above = there.above in
    record {
      there = holds_from_slot slots position there.pair.0 b (there.member.here ∙ ap (λ x. Some (there.pair.0, x)) target);
      from = omega arith;
      least = λ a held from.
          let k = slot_from_holds slots a b held in
          let least = there.least k.0 (a, b) (record { here = k.2; belongs = groups (a, b) }) (omega arith) in
          omega arith;
    }

pub source_none : (slots : List (Option (ℕ × ℕ))) (w : Way) (n b start r : ℕ) → w ≡ way.Target → r ≡ rank (start, b) → IsFirstThatFar (slot_at slots) (group w n) b r None → IsNextSource (pairs_in slots) b start None
source_none slots w n b start r ways ranks leads =
    no_source slots (group w n) b start (λ e. target_group w n e ways) (subst (λ (m : ℕ). IsFirstThatFar (slot_at slots) (group w n) b m None) ranks leads)

pub source_some : (slots : List (Option (ℕ × ℕ))) (w : Way) (n b start r k : ℕ) (result : Option ℕ) → w ≡ way.Target → r ≡ rank (start, b) → IsFirstThatFar (slot_at slots) (group w n) b r (Some k)
    → result ≡ source_of (slot_at slots k) → IsNextSource (pairs_in slots) b start result
source_some slots w n b start r k result ways ranks leads found =
    let there : IsFirstFrom (slot_at slots) (group w n) b (rank (start, b)) k = subst (λ (m : ℕ). IsFirstThatFar (slot_at slots) (group w n) b m (Some k)) ranks leads in
    subst (IsNextSource (pairs_in slots) b start) (sym (found ∙ ap source_of there.member.here))
    (that_source slots (group w n) b start k (λ e. target_group w n e ways) there)

-- a block past the last head has no pairs
pub target_past : (slots : List (Option (ℕ × ℕ))) (x : Index) (a start : ℕ) → IsIndex (slot_at slots) x → length x.by_source.heads ≤ a → IsNextTarget (pairs_in slots) a start None
target_past slots x a start index past b held =
    let k = slot_from_holds slots a b held in
    let inside = index.sources.threads.groups k.0 (a, b) k.2 in
    let same = source_group x.by_source.way (length x.by_source.heads) (a, b) index.sources.way_is in
    absurd (omega arith)

pub source_past : (slots : List (Option (ℕ × ℕ))) (x : Index) (b start : ℕ) → IsIndex (slot_at slots) x → length x.by_target.heads ≤ b → IsNextSource (pairs_in slots) b start None
source_past slots x b start index past a held =
    let k = slot_from_holds slots a b held in
    let inside = index.targets.threads.groups k.0 (a, b) k.2 in
    let same = target_group x.by_target.way (length x.by_target.heads) (a, b) index.targets.way_is in
    absurd (omega arith)

-- ---- no slot threaded

pub none_threaded : (way : Way) (groups : ℕ) (t : Threads) → 0 < groups → t.way ≡ way → t.heads ≡ replicate groups no_link → IsThreadedBy way (λ k. None) t
none_threaded way groups t some ways heads = record {
  way_is = ways;
  some = (let many = ap length heads in let all : length (replicate groups no_link) ≡ groups = length-replicate groups no_link in omega arith);
  threads = record {
    first = λ of inside. subst (λ (link : ℕ). IsFirstThatFar (λ k. None) (group t.way (length t.heads)) of 0 (linked link)) (sym (all of inside)) (λ j f m. absurd (never f m.here));
    follow = λ k e here. absurd (never e here);
    groups = λ k e here. absurd (never e here);
    inside = λ k e here. absurd (never e here);
    fits = λ k e here. absurd (never e here);
    apart = λ i j e p q. absurd (never e p);
  };
}
  where
    never : (e : ℕ × ℕ) → ◌≡◌ {A = Option (ℕ × ℕ)} None (Some e) → ⊥
    never e h = cc

    all : (of : ℕ) → of < length t.heads → get_or t.heads of 0 ≡ no_link
    all of inside = ap (λ xs. get_or xs of 0) heads ∙ get_or-replicate groups of no_link 0 (let many = ap length heads in let every : length (replicate groups no_link) ≡ groups = length-replicate groups no_link in omega arith)

-- ---- the link of an empty slot

pub linked_aside : (way : Way) (held : ℕ → Option (ℕ × ℕ)) (t now : Threads) (position link : ℕ) → held position ≡ None → now.way ≡ t.way → now.heads ≡ t.heads → now.next ≡ set t.next position link
    → IsThreadedBy way held t → IsThreadedBy way held now
linked_aside way held t now position link none ways heads next threads = record {
  way_is = ways ∙ threads.way_is;
  some = (let many = ap length heads in let some = threads.some in omega arith);
  threads =
      subst (λ (w : Way). AreThreads held (group w (length now.heads)) now.heads now.next) (sym ways)
      (subst (λ (xs : List ℕ). AreThreads held (group t.way (length xs)) xs now.next) (sym heads)
      (subst (AreThreads held (group t.way (length t.heads)) t.heads) (sym next)
      (link_aside held (group t.way (length t.heads)) t.heads t.next position link threads.threads none)));
}
