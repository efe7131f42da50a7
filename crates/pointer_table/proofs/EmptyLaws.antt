-- The list of the empty slots: made, and with a slot taken off or put in front.
use Rattle.std.proofs.Common.{◌≡◌, ℕ, zero, suc, ◌+◌, ◌-◌, ◌<◌, ◌≤◌, ◌==◌, nat_lt, true, cond, List, [], ◌∷◌, length, get_or, set, drop, refl, sym, ◌∙◌, ap, subst, arith, inl, inr, drop-cons}
use Rattle.std.proofs.Common.{Option, Some, None}
use Rattle.pointer_table.proofs.Common.{count_by, is_some, cases_lt, lt-ltb, le-ltb, or_cases, or_left, or_right, eqb-true, eq-eqb, both_ways, false_from_ne_true, length-set, get_or-set_same, get_or-set_other, drop_all, length-range_with_len, sum_by-cons, range_with_len, AreEmptyOnce, AreLinked, AreEmpties, AreInRow, unset_link, slot_at, no_link}
use Rattle.tsd_model.specs.World.{has_number}
use Rattle.pointer_table.proofs.SlotLaws.{some_inside, set_same, set_other}

-- ---- what stays

pub not_some : (slot : Option (ℕ × ℕ)) (e : ℕ × ℕ) → slot ≡ None → slot ≡ Some e → ⊥
not_some slot e none some = cc

chain_stays : (next now : List ℕ) (link : ℕ) (positions : List ℕ) → ((k : ℕ) → has_number positions k ≡ true → get_or now k 0 ≡ get_or next k 0) → AreLinked next link positions → AreLinked now link positions
chain_stays next now link [] same chain = chain
chain_stays next now link (p ∷ positions) same chain = (
  chain.0,
  subst (λ (l : ℕ). AreLinked now l positions) (sym (same p (or_left (p == p) (has_number positions p) (eq-eqb p p refl))))
      (chain_stays next now (get_or next p 0) positions (λ k among. same k (or_right (p == k) (has_number positions k) among)) chain.1),
)

among_empty : (slots : List (Option (ℕ × ℕ))) (positions : List ℕ) (k : ℕ) → AreEmptyOnce slots positions → has_number positions k ≡ true → (k < length slots) × (slot_at slots k ≡ None)
among_empty slots [] k empty among = absurd (cc)
among_empty slots (p ∷ positions) k empty among = elim (or_cases (p == k) (has_number positions k) among) [
  | inl here ↦
      (let same : p ≡ k = eqb-true p k here in
      let inside = empty.0 in
      (omega arith, ap (slot_at slots) (sym same) ∙ empty.1))
  | inr later ↦ among_empty slots positions k empty.3 later
]

empty_stays : (slots now : List (Option (ℕ × ℕ))) (positions : List ℕ) → ((k : ℕ) → has_number positions k ≡ true → (k < length now) × (slot_at now k ≡ None)) → AreEmptyOnce slots positions → AreEmptyOnce now positions
empty_stays slots now [] stays empty = tt
empty_stays slots now (p ∷ positions) stays empty =
    let here = stays p (or_left (p == p) (has_number positions p) (eq-eqb p p refl)) in (
      here.0,
      here.1,
      empty.2,
      empty_stays slots now positions (λ k among. stays k (or_right (p == k) (has_number positions k) among)) empty.3,
    )

-- ---- the first taken off

pub first_empty : (slots : List (Option (ℕ × ℕ))) (held first : ℕ) (next : List ℕ) → AreEmpties slots held first next → held < length slots → (first < length slots) × (slot_at slots first ≡ None)
first_empty slots held first next empties room = go empties.positions empties.chain empties.empty empties.many
  where
    go : (positions : List ℕ) → AreLinked next first positions → AreEmptyOnce slots positions → length positions + held ≡ length slots → (first < length slots) × (slot_at slots first ≡ None)
    go [] chain empty many = absurd (omega arith)
    go (p ∷ positions) chain empty many = let inside = empty.0 in let is = chain.0 in (omega arith, ap (slot_at slots) chain.0 ∙ empty.1)

pub empties_taken : (slots : List (Option (ℕ × ℕ))) (held first : ℕ) (next now : List ℕ) (e : ℕ × ℕ) → AreEmpties slots held first next → held < length slots
    → ((k : ℕ) → slot_at slots k ≡ None → (k ≡ first → ⊥) → get_or now k 0 ≡ get_or next k 0) → AreEmpties (set slots first (Some e)) (held + 1) (get_or next first 0) now
empties_taken slots held first next now e empties room stays = go empties.positions empties.chain empties.empty empties.many
  where
    go : (positions : List ℕ) → AreLinked next first positions → AreEmptyOnce slots positions → length positions + held ≡ length slots → AreEmpties (set slots first (Some e)) (held + 1) (get_or next first 0) now
    go [] chain empty many = absurd (omega arith)
    go (p ∷ positions) chain empty many =
        let off : (k : ℕ) → has_number positions k ≡ true → k ≡ first → ⊥ = λ k among same.
        both_ways (has_number positions p) empty.2 (ap (has_number positions) (sym (same ∙ chain.0)) ∙ among) in
        let all = length-set slots first (Some e) in
        record {
          positions = positions;
          chain = subst (λ (q : ℕ). AreLinked now (get_or next q 0) positions) (sym chain.0)
              (chain_stays next now (get_or next p 0) positions (λ k among. stays k (among_empty slots positions k empty.3 among).1 (off k among)) chain.1);
          empty = empty_stays slots (set slots first (Some e)) positions (λ k among.
              let old = among_empty slots positions k empty.3 among in
              let inside = old.0 in
              (omega arith, set_other slots first k (Some e) (off k among) ∙ old.1)) empty.3;
          many = omega arith;
        }

-- ---- one put in front

pub empties_given : (slots : List (Option (ℕ × ℕ))) (held left first : ℕ) (next now : List ℕ) (position : ℕ) (e : ℕ × ℕ) → AreEmpties slots held first next → held ≡ left + 1 → slot_at slots position ≡ Some e
    → position < length now → ((k : ℕ) → slot_at slots k ≡ None → get_or now k 0 ≡ get_or next k 0) → AreEmpties (set slots position None) left position (set now position first)
empties_given slots held left first next now position e empties one_more here room stays =
    let all = length-set slots position None in
    let inside = some_inside slots position e here in
    let sum = empties.many in
    record {
      positions = position ∷ empties.positions;
      chain = (
        refl,
        subst (λ (l : ℕ). AreLinked (set now position first) l empties.positions) (sym (get_or-set_same now position first 0 room))
            (chain_stays next (set now position first) first empties.positions (λ k among.
            get_or-set_other now position k first 0 (off k among) ∙ stays k (among_empty slots empties.positions k empties.empty among).1) empties.chain),
      );
      empty = (
        omega arith,
        set_same slots position None inside,
        false_from_ne_true (has_number empties.positions position) (λ among. off position among refl),
        empty_stays slots (set slots position None) empties.positions (λ k among.
            let old = among_empty slots empties.positions k empties.empty among in
            let within = old.0 in
            (omega arith, set_other slots position k None (off k among) ∙ old.1)) empties.empty,
      );
      many = omega arith;
    }
  where
    off : (k : ℕ) → has_number empties.positions k ≡ true → k ≡ position → ⊥
    off k among same = not_some (slot_at slots position) e (ap (slot_at slots) (sym same) ∙ (among_empty slots empties.positions k empties.empty among).1) here

-- ---- made from the last slot to the first

-- the slots from this one on that are empty are linked
pub record AreEmptiesFrom (slots : List (Option (ℕ × ℕ))) (left first : ℕ) (next : List ℕ) : Type 0 where
  pub positions : List ℕ
  pub chain : AreLinked next first positions
  pub empty : AreEmptyOnce slots positions
  pub from : (k : ℕ) → has_number positions k ≡ true → left ≤ k
  pub many : length positions + count_by is_some (drop left slots) + left ≡ length slots

pub count_drop : (slots : List (Option (ℕ × ℕ))) (l : ℕ) → l < length slots → count_by is_some (drop l slots) ≡ cond (is_some (slot_at slots l)) 1 0 + count_by is_some (drop (suc l) slots)
count_drop slots l inside =
    ap (count_by is_some) (drop-cons slots l None inside)
    ∙ sum_by-cons (λ (s : Option (ℕ × ℕ)). cond (is_some s) 1 0) (slot_at slots l) (drop (suc l) slots)

pub count_drop_some : (slots : List (Option (ℕ × ℕ))) (l : ℕ) (e : ℕ × ℕ) → l < length slots → slot_at slots l ≡ Some e → count_by is_some (drop l slots) ≡ 1 + count_by is_some (drop (suc l) slots)
count_drop_some slots l e inside here = count_drop slots l inside ∙ ap (λ s. cond (is_some s) 1 0 + count_by is_some (drop (suc l) slots)) here

pub count_drop_none : (slots : List (Option (ℕ × ℕ))) (l : ℕ) → l < length slots → slot_at slots l ≡ None → count_by is_some (drop l slots) ≡ 0 + count_by is_some (drop (suc l) slots)
count_drop_none slots l inside here = count_drop slots l inside ∙ ap (λ s. cond (is_some s) 1 0 + count_by is_some (drop (suc l) slots)) here

pub count_drop_all : (slots : List (Option (ℕ × ℕ))) (l : ℕ) → length slots ≤ l → count_by is_some (drop l slots) ≡ 0
count_drop_all slots l past = ap (count_by is_some) (drop_all l slots past)

-- where none of the slots from one on is counted, none of them holds a pair
pub none_left : (slots : List (Option (ℕ × ℕ))) (l k : ℕ) (e : ℕ × ℕ) → count_by is_some (drop l slots) ≡ 0 → l ≤ k → slot_at slots k ≡ Some e → ⊥
none_left slots l k e none far here = go (k - l) l (omega arith) none
  where
    inside : k < length slots
    inside = some_inside slots k e here

    go : (n m : ℕ) → m + n ≡ k → count_by is_some (drop m slots) ≡ 0 → ⊥
    go zero m at none_here =
        let within = inside in
        let same : m ≡ k = omega arith in
        let more = count_drop_some slots m e (omega arith) (ap (slot_at slots) same ∙ here) in
        omega arith
    go (suc n) m at none_here =
        let within = inside in
        let more = count_drop slots m (omega arith) in
        go n (suc m) (omega arith) (omega arith)

-- where one is counted, there are such slots
pub some_left : (slots : List (Option (ℕ × ℕ))) (l : ℕ) → 0 < count_by is_some (drop l slots) → l < length slots
some_left slots l some = elim (cases_lt l (length slots)) [
  | inl inside ↦ inside
  | inr past ↦ let none = count_drop_all slots l past in absurd (omega arith)
]

-- where none of the slots from one on holds a pair, none is counted
none_count : (slots : List (Option (ℕ × ℕ))) (l n : ℕ) → l + n ≡ length slots → ((k : ℕ) → l ≤ k → slot_at slots k ≡ None) → count_by is_some (drop l slots) ≡ 0
none_count slots l zero all none = count_drop_all slots l (omega arith)
none_count slots l (suc n) all none =
    let first = count_drop_none slots l (omega arith) (none l (omega arith)) in
    let rest = none_count slots (suc l) n (omega arith) (λ k far. none k (omega arith)) in
    omega arith

-- slots in a row
row_linked : (next : List ℕ) (k n : ℕ) → k + n ≡ length next → ((j : ℕ) → k ≤ j → j < length next → get_or next j 0 ≡ unset_link true (length next) j)
    → AreLinked next (cond (nat_lt k (length next)) k no_link) (range_with_len k n)
row_linked next k zero all row = ap (λ t. cond t k no_link) (le-ltb k (length next) (omega arith))
row_linked next k (suc n) all row = (
  ap (λ t. cond t k no_link) (lt-ltb k (length next) (omega arith)),
  subst (λ (l : ℕ). AreLinked next l (range_with_len (k + 1) n)) (sym (row k (omega arith) (omega arith)))
      (row_linked next (k + 1) n (omega arith) (λ j far inside. row j (omega arith) inside)),
)

row_among : (k n j : ℕ) → has_number (range_with_len k n) j ≡ true → k ≤ j
row_among k zero j among = absurd (cc)
row_among k (suc n) j among = elim (or_cases (k == j) (has_number (range_with_len (k + 1) n) j) among) [
  | inl here ↦ (let is = eqb-true k j here in omega arith)
  | inr later ↦ (let far = row_among (k + 1) n j later in omega arith)
]

row_empty : (slots : List (Option (ℕ × ℕ))) (k n : ℕ) → k + n ≡ length slots → ((j : ℕ) → k ≤ j → slot_at slots j ≡ None) → AreEmptyOnce slots (range_with_len k n)
row_empty slots k zero all none = tt
row_empty slots k (suc n) all none = (
  omega arith,
  none k (omega arith),
  false_from_ne_true (has_number (range_with_len (k + 1) n) k) (λ among. let far = row_among (k + 1) n k among in omega arith),
  row_empty slots (k + 1) n (omega arith) (λ j far. none j (omega arith)),
)

-- those behind the last one that holds a pair
pub empties_behind : (slots : List (Option (ℕ × ℕ))) (end first : ℕ) (next : List ℕ) → end ≤ length slots → length next ≡ length slots → ((k : ℕ) → end ≤ k → slot_at slots k ≡ None)
    → AreInRow (slot_at slots) next → first ≡ cond (nat_lt end (length slots)) end no_link → AreEmptiesFrom slots end first next
empties_behind slots end first next inside many none row first_is =
    let left = length slots - end in
    record {
      positions = range_with_len end left;
      chain =
          subst (λ (l : ℕ). AreLinked next l (range_with_len end left)) (sym (first_is ∙ ap (λ (m : ℕ). cond (nat_lt end m) end no_link) (sym many)))
          (row_linked next end left (omega arith) (λ j far within. row j within (none j far)));
      empty = row_empty slots end left (omega arith) none;
      from = λ k among. row_among end left k among;
      many = (let count = none_count slots end left (omega arith) none in let all = length-range_with_len end left in omega arith);
    }

pub empties_more : (slots : List (Option (ℕ × ℕ))) (left first : ℕ) (next : List ℕ) → 0 < left → left ≤ length slots → length next ≡ length slots → slot_at slots (left - 1) ≡ None → AreEmptiesFrom slots left first next
    → AreEmptiesFrom slots (left - 1) (left - 1) (set next (left - 1) first)
empties_more slots left first next some inside long none empties =
    let back : suc (left - 1) ≡ left = omega arith in
    let count = count_drop_none slots (left - 1) (omega arith) none in
    let same : count_by is_some (drop (suc (left - 1)) slots) ≡ count_by is_some (drop left slots) = ap (λ n. count_by is_some (drop n slots)) back in
    let sum = empties.many in
    record {
      positions = (left - 1) ∷ empties.positions;
      chain = (
        refl,
        subst (λ (l : ℕ). AreLinked (set next (left - 1) first) l empties.positions) (sym (get_or-set_same next (left - 1) first 0 (omega arith)))
            (chain_stays next (set next (left - 1) first) first empties.positions (λ k among.
            get_or-set_other next (left - 1) k first 0 (off k among)) empties.chain),
      );
      empty = (omega arith, none, false_from_ne_true (has_number empties.positions (left - 1)) (λ among. off (left - 1) among refl), empties.empty);
      from = λ k among. elim (or_cases ((left - 1) == k) (has_number empties.positions k) among) [
        | inl here ↦ (let is = eqb-true (left - 1) k here in omega arith)
        | inr later ↦ (let low = empties.from k later in omega arith)
      ];
      many = omega arith;
    }
  where
    off : (k : ℕ) → has_number empties.positions k ≡ true → k ≡ left - 1 → ⊥
    off k among same = let low = empties.from k among in omega arith

pub empties_skip : (slots : List (Option (ℕ × ℕ))) (left first : ℕ) (next : List ℕ) (e : ℕ × ℕ) → 0 < left → left ≤ length slots → slot_at slots (left - 1) ≡ Some e → AreEmptiesFrom slots left first next
    → AreEmptiesFrom slots (left - 1) first next
empties_skip slots left first next e some inside here empties =
    let back : suc (left - 1) ≡ left = omega arith in
    let count = count_drop_some slots (left - 1) e (omega arith) here in
    let same : count_by is_some (drop (suc (left - 1)) slots) ≡ count_by is_some (drop left slots) = ap (λ n. count_by is_some (drop n slots)) back in
    let sum = empties.many in
    record {
      positions = empties.positions;
      chain = empties.chain;
      empty = empties.empty;
      from = λ k among. let low = empties.from k among in omega arith;
      many = omega arith;
    }

pub empties_all : (slots : List (Option (ℕ × ℕ))) (left first : ℕ) (next : List ℕ) → left ≡ 0 → AreEmptiesFrom slots left first next → AreEmpties slots (count_by is_some slots) first next
empties_all slots left first next end empties =
    let same : count_by is_some (drop left slots) ≡ count_by is_some slots = ap (λ n. count_by is_some (drop n slots)) end in
    let sum = empties.many in
    record { positions = empties.positions; chain = empties.chain; empty = empties.empty; many = omega arith }
