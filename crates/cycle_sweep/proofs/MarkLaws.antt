-- Marking marks what is reached.
use Rattle.std.proofs.Common.{◌≡◌, ℕ, suc, ◌+◌, ◌<◌, ◌≤◌, Bool, true, false, not, ◌&&◌, ◌||◌, ◌==◌, List, [], ◌∷◌, ◌++◌, length, replicate, sym, ◌∙◌, ap, subst, arith, inl, inr}
use Rattle.std.proofs.lemmas.Bool.{eq-eqb, eqb-true, ne_eqb, and_parts, and_from, or_cases, or_left, or_right, or_parts, both_ways, cases_eq, cases_lt, cases_Bool}
use Rattle.std.proofs.lemmas.Bool.Decides.{nat_tests}
use Rattle.std.proofs.lemmas.List.{get_or-set_same, get_or-set_other, get_or-replicate, get_or_past, length-replicate, length-set, length-append}
use Rattle.std.proofs.lemmas.List.Elements.{filter_agree}
use Rattle.std.specs.Prelude.{filter, slice_set}
use Rattle.std.specs.List.{range_with_len}
use Rattle.tsd_model.specs.Pairs.{holds}
use Rattle.tsd_model.specs.World.{World, has_number}
use Rattle.tsd_model.specs.Reach.{reach}
use Rattle.tsd_model.proofs.SizeLaws.{length-filter_le}
use Rattle.disk_laws.proofs.GraphLaws.{length-range}
use Rattle.disk_laws.proofs.DoomLaws.{live_below}
use Rattle.graph_laws.specs.RawGraph.{IsRawGraph}
use Rattle.graph_laws.proofs.MarkingLaws.{marked_more}
use Rattle.graph_laws.proofs.SweepLaws.{marks_are_reach, target_reached, primary_reached}
use Rattle.reclaim.proofs.HeldLaws.{has-push}
use Rattle.cycle_sweep.specs.Marked.{is_marked, AreMarksAt, AreMarks, count_marked}
use Rattle.tsd_model.proofs.ValueLaws.{and_false, or_false}

-- ---- one mark more

-- a reached block is marked, and waits if it wasn't
pub marked_at : (w : World) (old new : List Bool) (before after : List ℕ) (first open_ from t : ℕ)
    → ((b : ℕ) → is_marked new b ≡ (is_marked old b || (b == t)))
    → ((b : ℕ) → has_number after b ≡ (has_number before b || ((b == t) && not (is_marked old t))))
    → has_number (reach w) t ≡ true → AreMarksAt w old before first open_ from → AreMarksAt w new after first open_ from
marked_at w old new before after first open_ from t marks waiting is marking = record {
  sound = λ b h. elim (or_cases (is_marked old b) (b == t) (sym (marks b) ∙ h)) [
    | inl was ↦ marking.sound b was
    | inr here ↦ subst (λ k. has_number (reach w) k ≡ true) (sym (eqb-true b t here)) is
  ];
  primaries = λ b below. still b (marking.primaries b below);
  waits = λ b h. elim (or_cases (has_number before b) ((b == t) && not (is_marked old t)) (sym (waiting b) ∙ h)) [
    | inl was ↦ still b (marking.waits b was)
    | inr here ↦ marks b ∙ or_right (is_marked old b) (b == t) (and_parts (b == t) (not (is_marked old t)) here).0
  ];
  done = λ a b held h and_false out.
      let apart = or_parts (has_number before a) ((a == t) && not (is_marked old t)) (sym (waiting a) ∙ and_false) in
      still b (marking.done a b held (was a h apart.1) apart.0 out);
}
  where
    still : (b : ℕ) → is_marked old b ≡ true → is_marked new b ≡ true
    still b h = marks b ∙ or_left (is_marked old b) (b == t) h

    was : (a : ℕ) → is_marked new a ≡ true → ((a == t) && not (is_marked old t)) ≡ false → is_marked old a ≡ true
    was a h no_ = elim (or_cases (is_marked old a) (a == t) (sym (marks a) ∙ h)) [
      | inl there ↦ there
      | inr here ↦ elim (cases_Bool (is_marked old t)) [
        | inl there ↦ subst (λ k. is_marked old k ≡ true) (sym (eqb-true a t here)) there
        | inr new_ ↦ absurd (both_ways ((a == t) && not (is_marked old t)) no_ (and_from (a == t) (not (is_marked old t)) here (ap not new_)))
      ]
    ]

-- the next primary block
pub marked_primary : (w : World) (old new : List Bool) (before after : List ℕ) (i : ℕ) → IsRawGraph w → i < w.geometry.primaries
    → ((b : ℕ) → is_marked new b ≡ (is_marked old b || (b == i)))
    → ((b : ℕ) → has_number after b ≡ (has_number before b || ((b == i) && not (is_marked old i))))
    → AreMarks w old before i → AreMarks w new after (i + 1)
marked_primary w old new before after i raw below marks waiting marking =
    let more = marked_at w old new before after i w.geometry.blocks 0 i marks waiting (primary_reached w raw i below) marking in record {
      sound = more.sound;
      primaries = λ b h. elim (cases_eq b i) [ inl same ↦ marks b ∙ or_right (is_marked old b) (b == i) (eq-eqb b i same) | inr other ↦ more.primaries b (omega arith) ];
      waits = more.waits;
      done = more.done;
    }

-- the next target of the open block
pub marked_target : (w : World) (old new : List Bool) (before after : List ℕ) (first o from t : ℕ) → IsRawGraph w → is_marked old o ≡ true → holds w.pairs o t ≡ true
    → ((c : ℕ) → holds w.pairs o c ≡ true → from ≤ c → t ≤ c)
    → ((b : ℕ) → is_marked new b ≡ (is_marked old b || (b == t)))
    → ((b : ℕ) → has_number after b ≡ (has_number before b || ((b == t) && not (is_marked old t))))
    → AreMarksAt w old before first o from → AreMarksAt w new after first o (t + 1)
marked_target w old new before after first o from t raw is held least marks waiting marking =
    let more = marked_at w old new before after first o from t marks waiting (target_reached w raw o t held (marking.sound o is)) marking in record {
      sound = more.sound;
      primaries = more.primaries;
      waits = more.waits;
      done = λ a b holds_ marked and_false out. elim (cases_eq b t) [
        | inl same ↦ marks b ∙ or_right (is_marked old b) (b == t) (eq-eqb b t same)
        | inr other ↦ more.done a b holds_ marked and_false (λ at. elim (cases_lt b from) [
          | inl below ↦ below
          | inr above ↦ let le = least b (subst (λ k. holds w.pairs k b ≡ true) at holds_) above in let lt = out at in absurd (other (omega arith))
        ])
      ];
    }

-- a block that waited is opened
pub opened : (w : World) (marked : List Bool) (old new : List ℕ) (first o : ℕ) → IsRawGraph w → old ≡ new ++ o ∷ [] → AreMarks w marked old first → AreMarksAt w marked new first o 0
opened w marked old new first o raw last marking = record {
  sound = marking.sound;
  primaries = marking.primaries;
  waits = λ b h. marking.waits b (ap (λ xs. has_number xs b) last ∙ (has-push new o b ∙ or_left (has_number new b) (o == b) h));
  done = λ a b held is and_false out. elim (cases_eq a o) [
    | inl same ↦ absurd (omega (arith, out same))
    | inr other ↦ marking.done a b held is (ap (λ xs. has_number xs a) last ∙ (has-push new o a ∙ (ap (λ t. t || (o == a)) and_false ∙ ne_eqb o a (λ e. other (sym e))))) (λ e. absurd (past a b held e))
  ];
}
  where
    past : (a b : ℕ) → holds w.pairs a b ≡ true → a ≡ w.geometry.blocks → ⊥
    past a b held e = let below : a < length w.blocks = live_below w.blocks a (raw.sources a b held) in omega (arith, raw.laid_out.each_block)

-- all its targets are marked
pub closed : (w : World) (marked : List Bool) (waiting : List ℕ) (first o from : ℕ) → ((b : ℕ) → holds w.pairs o b ≡ true → b < from) → AreMarksAt w marked waiting first o from → AreMarks w marked waiting first
closed w marked waiting first o from all marking = record {
  sound = marking.sound;
  primaries = marking.primaries;
  waits = marking.waits;
  done = λ a b held is and_false out. marking.done a b held is and_false (λ at. all b (subst (λ k. holds w.pairs k b ≡ true) at held));
}

-- no block waits any longer
pub all_marked : (w : World) (marked : List Bool) (waiting : List ℕ) → IsRawGraph w → waiting ≡ [] → AreMarks w marked waiting w.geometry.primaries → (b : ℕ) → is_marked marked b ≡ has_number (reach w) b
all_marked w marked waiting raw and_false marking = marks_are_reach w (is_marked marked) marking.sound (record {
  first = marking.primaries;
  on =
      (λ a b held is. marking.done a b held is (ap (λ xs. has_number xs a) and_false) (λ e. absurd (past a b held e)));
})
  where
    past : (a b : ℕ) → holds w.pairs a b ≡ true → a ≡ w.geometry.blocks → ⊥
    past a b held e = let below : a < length w.blocks = live_below w.blocks a (raw.sources a b held) in omega (arith, raw.laid_out.each_block)

-- nothing is marked yet
pub none_marked : (w : World) (marked : List Bool) (waiting : List ℕ) → ((b : ℕ) → is_marked marked b ≡ false) → waiting ≡ [] → AreMarks w marked waiting 0
none_marked w marked waiting clear and_false = record {
  sound = λ b is. absurd (both_ways (is_marked marked b) (clear b) is);
  primaries = λ b below. absurd (omega arith);
  waits = λ b is. absurd (nothing (ap (λ xs. has_number xs b) (sym and_false) ∙ is));
  done = λ a b held is out e. absurd (both_ways (is_marked marked a) (clear a) is);
}
  where
    nothing : false ≡ true → ⊥
    nothing e = cc

-- where no mark is left, and_false is on a block
pub unmarked : (n b : ℕ) → ◌≡◌ {A = Bool} (is_marked (replicate n false) b) false
unmarked n b = elim (cases_lt b n) [
  | inl h ↦ get_or-replicate n b false false h
  | inr h ↦ get_or_past (replicate n false) b false (let e = length-replicate n false in omega (arith, e))
]

-- ---- one place of the marks

pub marked-set : (marked : List Bool) (t : ℕ) → t < length marked → (b : ℕ) → is_marked (slice_set marked t true) b ≡ (is_marked marked b || (b == t))
marked-set marked t within b = elim (cases_eq b t) [
  | inl same ↦ ap (is_marked (slice_set marked t true)) same ∙ (get_or-set_same marked t true false within ∙ sym (or_right (is_marked marked b) (b == t) (eq-eqb b t same)))
  | inr other ↦ get_or-set_other marked t b true false other ∙ (sym (or_false (is_marked marked b)) ∙ ap (λ s. is_marked marked b || s) (sym (ne_eqb b t other)))
]

pub count-set : (marked : List Bool) (t : ℕ) → t < length marked → is_marked marked t ≡ false → count_marked (slice_set marked t true) ≡ suc (count_marked marked)
count-set marked t within new =
    ap (λ n. length (filter (is_marked (slice_set marked t true)) (range_with_len 0 n))) (length-set marked t true)
    ∙ (ap length (filter_agree (is_marked (slice_set marked t true)) (λ b. is_marked marked b || (b == t)) (marked-set marked t within) (range_with_len 0 (length marked)))
    ∙ marked_more (is_marked marked) (length marked) t within new)

pub balance-set : (marked : List Bool) (t : ℕ) (waiting : List ℕ) → t < length marked → is_marked marked t ≡ false
    → count_marked (slice_set marked t true) + length waiting ≡ count_marked marked + length (waiting ++ t ∷ [])
balance-set marked t waiting within new = let more = count-set marked t within new in let long = length-append waiting (t ∷ []) in omega (arith, more, long)

pub waiting-push : (marked : List Bool) (t : ℕ) (waiting : List ℕ) → is_marked marked t ≡ false → (b : ℕ) → has_number (waiting ++ t ∷ []) b ≡ (has_number waiting b || ((b == t) && not (is_marked marked t)))
waiting-push marked t waiting new b = has-push waiting t b ∙ ap (λ s. has_number waiting b || s) (same (t == b) (b == t) (flip t b) ∙ ap (λ m. (b == t) && not m) (sym new))
  where
    flip : (m n : ℕ) → (m == n) ≡ (n == m)
    flip m n = grind (arith, nat_tests)

    same : (s u : Bool) → s ≡ u → s ≡ (u && true)
    same s true e = e
    same s false e = e

-- a block that was marked already
pub marked_already : (marked : List Bool) (t : ℕ) → is_marked marked t ≡ true → (b : ℕ) → is_marked marked b ≡ (is_marked marked b || (b == t))
marked_already marked t is b = elim (cases_eq b t) [
  | inl same ↦ let here : is_marked marked b ≡ true = ap (is_marked marked) same ∙ is in here ∙ sym (or_left (is_marked marked b) (b == t) here)
  | inr other ↦ sym (or_false (is_marked marked b)) ∙ ap (λ s. is_marked marked b || s) (sym (ne_eqb b t other))
]

pub waiting_already : (marked : List Bool) (t : ℕ) (waiting : List ℕ) → is_marked marked t ≡ true → (b : ℕ) → has_number waiting b ≡ (has_number waiting b || ((b == t) && not (is_marked marked t)))
waiting_already marked t waiting is b = sym (ap (λ m. has_number waiting b || ((b == t) && not m)) is ∙ (ap (λ s. has_number waiting b || s) (and_false (b == t)) ∙ or_false (has_number waiting b)))

pub count_within : (marked : List Bool) → count_marked marked ≤ length marked
count_within marked = omega (arith, length-filter_le (is_marked marked) (range_with_len 0 (length marked)), length-range 0 (length marked))
