-- What is kept ahead, and what is hidden, after a change.
use Rattle.std.proofs.Common.{◌≡◌, ℕ, zero, suc, ◌<◌, Bool, true, false, not, cond, ◌&&◌, ◌==◌, inl, inr, List, [], ◌∷◌, length, refl, sym, ◌∙◌, ap, subst, arith}
use Rattle.std.proofs.Common.{Option, Some, None, nat_lt}
use Rattle.volume_laws.proofs.Common.{slice_set, is_none, cases_eq, cases_Bool, ne_eqb, eqb-true, and_from, or_cases, both_ways, false_from_ne_true, lt-ltb, get_or-set_other, get_or-set_same, with_pair, without_pair, with_pointer, without_pointer, World, contents, has_number, are_apart, Header, pairs_in, Pointers, Counts, Store, doomed, LiveMap, OutStep, doomed_after_step, Kept, is_gone, Hides, IsAheadOf, IsStepping, IsAdding, IsDeleting, IsGrowing, zeros_in, no_record, doomed_list-with_pointer, contents-world_with, AreSound, Tables, pairs_of, AreFree, HidesNone, owed, graph_in, tables_in, IsStepNext, IsStepped, live_after}
use Rattle.std.specs.Prelude.{replicate}
use Rattle.block_alloc.specs.LiveMap.{is_live}
use Rattle.reclaim.specs.Stepping.{after_step}
use Rattle.graph_laws.proofs.DoomedLaws.{source_is_doomed}
use Rattle.volume_laws.proofs.Dropped.{less_slots, HoldsPair}
use Rattle.volume_laws.proofs.Pointed.{with_slots, IsOpenTo, marked, raw_absent}
use Rattle.volume_laws.proofs.StepWorlds.{graph_stepped}
use Rattle.volume_laws.proofs.TableWorlds.{graph_laid_out, graph_raw, none_owed, told_live, told_held, settled_held}
use Rattle.tsd_model.proofs.ValueLaws.{and_true}

cleared : (ts : List Bool) (k : ℕ) → is_live (slice_set ts k false) k ≡ false
cleared [] k = refl
cleared (t ∷ ts) zero = refl
cleared (t ∷ ts) (suc k) = cleared ts k

-- a block that is freed is hidden no longer, and the others stay as they were
pub hides_stepped : (l m : LiveMap) (a : ℕ) (freed : Bool) (gone then : ℕ → Bool) → m.live ≡ live_after l.live a freed → m.unhidden ≡ live_after l.unhidden a freed
    → Hides l gone → ((b : ℕ) → (freed && (b == a)) ≡ false → then b ≡ gone b) → Hides m then
hides_stepped l m a true gone then live shown hides same = λ b. elim (cases_eq b a) [
  | inl here ↦
      ap (λ (xs : List Bool). is_live xs b) shown ∙ (ap (is_live (slice_set l.unhidden a false)) here ∙ (cleared l.unhidden a
      ∙ sym (ap (λ s. s && not (then b)) (ap (λ (xs : List Bool). is_live xs b) live ∙ (ap (is_live (slice_set l.live a false)) here ∙ cleared l.live a)))))
  | inr other ↦
      ap (λ (xs : List Bool). is_live xs b) shown ∙ (get_or-set_other l.unhidden a b false false other
      ∙ (hides b ∙ (λ i. sym (ap (λ (xs : List Bool). is_live xs b) live ∙ get_or-set_other l.live a b false false other) i && not (sym (same b (ne_eqb b a other)) i))))
]
hides_stepped l m a false gone then live shown hides same = λ b.
    ap (λ (xs : List Bool). is_live xs b) shown ∙ (hides b ∙ (λ i. is_live (sym live i) b && not (sym (same b refl) i)))

-- what is doomed stays so, but for the freed block
pub gone_stepped : (t now : Tables) (s : OutStep) (k l : Kept) → IsStepNext t s → IsStepped t now s.block s.targets s.freed → IsAheadOf (graph_in t) k → IsAheadOf (graph_in now) l
    → (b : ℕ) → (s.freed && (b == s.block)) ≡ false → is_gone l.gone b ≡ is_gone k.gone b
gone_stepped t now s k l next is old new b out =
    new.told b ∙ (ap (λ (w : World). has_number (doomed w) b) (graph_stepped t now s.block s.targets s.freed is)
    ∙ (doomed_after_step (graph_in t) s.block s.targets (graph_laid_out t) next.may.lost s.freed next.may.step b
    ∙ (ap (λ u. has_number (doomed (graph_in t)) b && not u) out ∙ (and_true (has_number (doomed (graph_in t)) b) ∙ sym (old.told b)))))

module _ (t now : Tables) (s : OutStep) (k l : Kept) (ready : Bool) (next : IsStepNext t s) (is : IsStepped t now s.block s.targets s.freed)
    (old : ready ≡ true → IsAheadOf (graph_in t) k) (done : ready ≡ true → (w : World) → IsStepping w s k → IsAheadOf (after_step w s) l) (same : ready ≡ false → l ≡ k) where
  -- before the step
  pub stepping : ready ≡ true → IsStepping (graph_in t) s k
  stepping e = record { laid_out = graph_laid_out t; lost = next.may.lost; step = next.may.step; ahead = old e }

  pub ahead_then : ready ≡ true → IsAheadOf (graph_in now) l
  ahead_then e = subst (λ (w : World). IsAheadOf w l) (sym (graph_stepped t now s.block s.targets s.freed is)) (done e (graph_in t) (stepping e))

  pub gone_then : (b : ℕ) → (s.freed && (b == s.block)) ≡ false → is_gone l.gone b ≡ is_gone k.gone b
  gone_then b out = elim (cases_Bool ready) [
    | inl e ↦ gone_stepped t now s k l next is (old e) (ahead_then e) b out
    | inr e ↦ ap (λ (m : Kept). is_gone m.gone b) (same e)
  ]

  pub counted_then : (n : ℕ) → length k.counts ≡ n → t.geometry.blocks ≡ n → length l.counts ≡ n
  counted_then n was size = elim (cases_Bool ready) [
    | inl e ↦ (ahead_then e).counts_each ∙ (ap (λ (u : Tables). u.geometry.blocks) is.same ∙ size)
    | inr e ↦ ap (λ (m : Kept). length m.counts) (same e) ∙ was
  ]

-- ---- a pair more

pub adding : (t : Tables) (a b : ℕ) (k : Kept) → AreSound t → IsOpenTo t a b → IsAheadOf (graph_in t) k → IsAdding (graph_in t) a b k
adding t a b k sound o ahead = record {
  raw = graph_raw t sound;
  within = (marked t b o.still o.target).0;
  absent = raw_absent t a b o;
  source = ahead.told a ∙ (told_live t a o.still o.source).0;
  target = ahead.told b ∙ (told_live t b o.still o.target).0;
  ahead = ahead;
}

pub graph_added : (t : Tables) (slots : List (Option (ℕ × ℕ))) (a b : ℕ) → pairs_in slots ≡ with_pair (a, b) (pairs_of t) → graph_in (with_slots t slots b) ≡ with_pointer (graph_in t) a b
graph_added t slots a b pairs = λ i. record (graph_in t) { pairs = pairs i }

-- the same is doomed
pub gone_added : (t : Tables) (a b : ℕ) (k l : Kept) → IsOpenTo t a b → IsAheadOf (graph_in t) k → IsAheadOf (with_pointer (graph_in t) a b) l → (c : ℕ) → is_gone l.gone c ≡ is_gone k.gone c
gone_added t a b k l o old new c =
    new.told c ∙ (ap (λ gone. has_number gone c) (doomed_list-with_pointer (graph_in t) a b (graph_laid_out t) (told_live t b o.still o.target).0) ∙ sym (old.told c))

pub hides_same : (l : LiveMap) (gone then : ℕ → Bool) → Hides l gone → ((b : ℕ) → then b ≡ gone b) → Hides l then
hides_same l gone then hides same = λ b. hides b ∙ ap (λ s. is_live l.live b && not s) (sym (same b))

-- ---- a pair less

pub deleting : (t : Tables) (a b : ℕ) (k : Kept) → AreSound t → HoldsPair t a b → IsAheadOf (graph_in t) k → IsDeleting (graph_in t) a b k
deleting t a b k sound o ahead =
    let parts = settled_held (graph_in t) a b (told_held t a b o.still o.held) in
    record {
      raw = graph_raw t sound;
      held = parts.0;
      source = ahead.told a ∙ parts.1;
      target = ahead.told b ∙ false_from_ne_true (has_number (doomed (graph_in t)) b) (λ is. both_ways (has_number (doomed (graph_in t)) a) parts.1 (source_is_doomed (graph_in t) (graph_laid_out t).each_block a b is parts.0));
      ahead = ahead;
    }

pub graph_dropped : (t : Tables) (slots : List (Option (ℕ × ℕ))) (a b : ℕ) → pairs_in slots ≡ without_pair a b (pairs_of t) → graph_in (less_slots t slots b) ≡ without_pointer (graph_in t) a b
graph_dropped t slots a b pairs = λ i. record (graph_in t) { pairs = pairs i }

-- only what is hidden is other
pub same_bits : (h : Header) (p : Pointers) (c : Counts) (l m : LiveMap) (s : Store) (k : Bool) → m ≡ record l { unhidden = m.unhidden } → tables_in h p c l s k ≡ tables_in h p c m s k
same_bits h p c l m s k same = λ i. record (tables_in h p c l s k) { live = sym (ap (λ (n : LiveMap). n.live) same) i }

-- ---- blocks more

pub hides_none : (l : LiveMap) (gone : ℕ → Bool) → Hides l gone → ((b : ℕ) → gone b ≡ false) → HidesNone l
hides_none l gone hides none = λ b. hides b ∙ (ap (λ s. is_live l.live b && not s) (none b) ∙ and_true (is_live l.live b))

pub none_hides : (l : LiveMap) (gone : ℕ → Bool) → HidesNone l → ((b : ℕ) → gone b ≡ false) → Hides l gone
none_hides l gone hides none = λ b. hides b ∙ (sym (and_true (is_live l.live b)) ∙ ap (λ s. is_live l.live b && not s) (sym (none b)))

pub shown_more : (l m : LiveMap) (b : ℕ) → length l.live ≡ l.geometry.blocks → length l.unhidden ≡ l.geometry.blocks → b < l.geometry.blocks
    → m ≡ record l { live = slice_set l.live b true; unhidden = slice_set l.unhidden b true } → HidesNone l → HidesNone m
shown_more l m b live unhidden inside is none = λ k. elim (cases_eq k b) [
  | inl here ↦
      ap (λ (n : LiveMap). is_live n.unhidden k) is ∙ (ap (is_live (slice_set l.unhidden b true)) here ∙ (get_or-set_same l.unhidden b true false (omega (arith, unhidden, inside))
      ∙ sym (ap (λ (n : LiveMap). is_live n.live k) is ∙ (ap (is_live (slice_set l.live b true)) here ∙ get_or-set_same l.live b true false (omega (arith, live, inside))))))
  | inr other ↦
      ap (λ (n : LiveMap). is_live n.unhidden k) is ∙ (get_or-set_other l.unhidden b k true false other ∙ (none k
      ∙ sym (ap (λ (n : LiveMap). is_live n.live k) is ∙ get_or-set_other l.live b k true false other)))
]

once : (live : List Bool) (n : ℕ) (bs : List ℕ) → AreFree live n bs → are_apart bs ≡ true
once live n [] free = refl
once live n (b ∷ bs) free = and_from (not (has_number bs b)) (are_apart bs) (ap not free.2) (once live n bs free.3)

each_free : (live : List Bool) (n : ℕ) (bs : List ℕ) → AreFree live n bs → (b : ℕ) → has_number bs b ≡ true → (b < n) × (is_live live b ≡ false)
each_free live n [] free b h = absurd (cc)
each_free live n (c ∷ bs) free b h = elim (or_cases (c == b) (has_number bs b) h) [
  | inl e ↦ let same : c ≡ b = eqb-true c b e in (subst (λ k. k < n) same free.0, ap (is_live live) (sym same) ∙ free.1)
  | inr later ↦ each_free live n bs free.3 b later
]

pub growing : (t : Tables) (bs : List ℕ) (k : Kept) → AreSound t → owed t ≡ 0 → AreFree t.live t.geometry.blocks bs → IsAheadOf (graph_in t) k → IsGrowing (graph_in t) bs k
growing t bs k sound none free ahead = record {
  raw = graph_raw t sound;
  none = (none_owed t).0 none;
  once = once t.live t.geometry.blocks bs free;
  free = λ b is. let parts = each_free t.live t.geometry.blocks bs free b is in
      let empty : contents (graph_in t) b ≡ None = contents-world_with t.geometry t.live (pairs_of t) (zeros_in t.geometry) 2 (replicate t.geometry.primaries no_record) b parts.0 ∙ ap (λ s. cond s (Some (zeros_in t.geometry b)) None) parts.1 in
      and_from (nat_lt b (length (graph_in t).blocks)) (is_none (contents (graph_in t) b)) (lt-ltb b (length (graph_in t).blocks) (omega (arith, parts.0, (graph_laid_out t).each_block))) (ap is_none empty);
  ahead = ahead;
}

-- where nothing is owed, nothing is gone
pub none_gone : (t : Tables) (k : Kept) → owed t ≡ 0 → IsAheadOf (graph_in t) k → (b : ℕ) → is_gone k.gone b ≡ false
none_gone t k none ahead b = ahead.told b ∙ ap (λ gone. has_number gone b) ((none_owed t).0 none)
