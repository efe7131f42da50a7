-- What a put makes of a batch.
use Rattle.std.proofs.Common.{◌≡◌, inl, inr, ℕ, zero, suc, ◌+◌, ◌<◌, ◌≤◌, ◌==◌, not, Bool, true, false, nat_lt, IsTrue, List, [], ◌∷◌, ◌++◌, length, set, refl, sym, ◌∙◌, ap, subst, arith, length-append, Option, Some, None}
use Rattle.intent_journal.proofs.Common.{list_all, slice_get, position_or_len, cases_Bool, nat_tests, list_any-append, IsSector, Patch, bodies, has_number, are_apart, is_lawful_home, homes_of, has_home, with_patch, IsBatch}
use Rattle.std.specs.List.{position}
use Rattle.intent_journal.proofs.HomesOf.{homes_append}
use Rattle.intent_journal.proofs.Bools.{and_true_parts, not_true, other_way, equal_numbers}
use Rattle.tsd_model.proofs.ValueLaws.{neither}

-- ---- where a patch goes
abbrev pub has_its_home : Patch → Patch → Bool
has_its_home p q = q.sector == p.sector

pub replaced : (p : Patch) (ps : List Patch) → position_or_len (has_its_home p) ps < length ps → (with_patch p ps ≡ set ps (position_or_len (has_its_home p) ps) p) × (has_home ps p.sector ≡ true)
replaced p [] h = absurd (omega arith)
replaced p (q ∷ qs) h = elim (cases_Bool (q.sector == p.sector)) [
  | inl e ↦ rw e (refl, refl)
  | inr e ↦
      let deeper : position_or_len (has_its_home p) (q ∷ qs) ≡ suc (position_or_len (has_its_home p) qs) = rw e (omega arith) in
      let rest = replaced p qs (omega arith) in
      rw (deeper, e) (ap (λ l. q ∷ l) rest.0, rest.1)
]

pub appended : (p : Patch) (ps : List Patch) → length ps ≤ position_or_len (has_its_home p) ps → (with_patch p ps ≡ ps ++ p ∷ []) × (has_home ps p.sector ≡ false)
appended p [] h = (refl, refl)
appended p (q ∷ qs) h = elim (cases_Bool (q.sector == p.sector)) [
  | inl e ↦ let none : position_or_len (has_its_home p) (q ∷ qs) ≡ 0 = rw e refl in absurd (omega arith)
  | inr e ↦
      let deeper : position_or_len (has_its_home p) (q ∷ qs) ≡ 1 + position_or_len (has_its_home p) qs = rw e refl in
      let rest = appended p qs (omega arith) in
      rw e (ap (λ l. q ∷ l) rest.0, rest.1)
]

-- the same by the position that a search answers
pub put_held : (p : Patch) (ps : List Patch) (i : ℕ) → position (has_its_home p) ps ≡ Some i → (with_patch p ps ≡ set ps i p) × (has_home ps p.sector ≡ true)
put_held p ps i is = elim (cases_Bool (nat_lt (position_or_len (has_its_home p) ps) (length ps))) [
  | inl e ↦
      let here : ◌≡◌ {A = Option ℕ} (Some (position_or_len (has_its_home p) ps)) (Some i) = rw e at is in
      let at : position_or_len (has_its_home p) ps ≡ i = cc in
      let within : position_or_len (has_its_home p) ps < length ps = grind (arith, nat_tests) in
      let found = replaced p ps within in
      (found.0 ∙ ap (λ k. set ps k p) at, found.1)
  | inr e ↦ let nowhere : ◌≡◌ {A = Option ℕ} None (Some i) = rw e at is in absurd (cc)
]

pub put_new : (p : Patch) (ps : List Patch) → position (has_its_home p) ps ≡ None → (with_patch p ps ≡ ps ++ p ∷ []) × (has_home ps p.sector ≡ false)
put_new p ps is = elim (cases_Bool (nat_lt (position_or_len (has_its_home p) ps) (length ps))) [
  | inl e ↦ let here : ◌≡◌ {A = Option ℕ} (Some (position_or_len (has_its_home p) ps)) None = rw e at is in absurd (cc)
  | inr e ↦ let past : length ps ≤ position_or_len (has_its_home p) ps = grind (arith, nat_tests) in appended p ps past
]

-- ---- what stays a batch
pub distinct_push : (ns : List ℕ) (n : ℕ) → are_apart ns ≡ true → has_number ns n ≡ false → are_apart (ns ++ n ∷ []) ≡ true
distinct_push [] n d h = refl
distinct_push (m ∷ ms) n d h =
    let parts = and_true_parts (not (has_number ms m)) (are_apart ms) d in
    let absent : has_number ms m ≡ false = not_true _ parts.0 in
    let apart = neither (m == n) (has_number ms n) h in
    let far : (n == m) ≡ false = other_way m n apart.0 in
    let still : has_number (ms ++ n ∷ []) m ≡ false = list_any-append (λ k. k == m) ms (n ∷ []) ∙ rw (absent, far) refl in
    rw still (distinct_push ms n parts.1 apart.1)

pub all_push : (test : ℕ → Bool) (ns : List ℕ) (n : ℕ) → list_all test ns ≡ true → test n ≡ true → list_all test (ns ++ n ∷ []) ≡ true
all_push test [] n h t = rw t refl
all_push test (m ∷ ms) n h t =
    let parts = and_true_parts (test m) (list_all test ms) h in
    rw parts.0 (all_push test ms n parts.1 t)

homes_held : (p : Patch) (ps : List Patch) → has_home ps p.sector ≡ true → homes_of (with_patch p ps) ≡ homes_of ps
homes_held p [] h = absurd (cc)
homes_held p (q ∷ qs) h = elim (cases_Bool (q.sector == p.sector)) [
  | inl e ↦ rw e (ap (λ n. n ∷ homes_of qs) (sym (equal_numbers q.sector p.sector e)))
  | inr e ↦ let rest : has_home qs p.sector ≡ true = rw e at h in rw e (ap (λ l. q.sector ∷ l) (homes_held p qs rest))
]

-- each patch has the bytes of a sector

abbrev pub AllWhole : List Patch → Type 0
AllWhole ps = (i : ℕ) (p : Patch) → slice_get ps i ≡ Some p → IsSector p.bytes

whole_front : (p : Patch) (rs : List Patch) → IsSector p.bytes → ((i : ℕ) (q : Patch) → slice_get rs i ≡ Some q → IsSector q.bytes) → AllWhole (p ∷ rs)
whole_front p rs w all zero q same = let eq : p ≡ q = cc in subst (λ (r : Patch). IsSector r.bytes) eq w
whole_front p rs w all (suc i) q same = all i q same

pub whole_with : (p : Patch) (ps : List Patch) → IsSector p.bytes → AllWhole ps → AllWhole (with_patch p ps)
whole_with p [] w all = whole_front p [] w all
whole_with p (r ∷ rs) w all = elim (cases_Bool (r.sector == p.sector)) [
  | inl e ↦ rw e (whole_front p rs w (λ i q is. all (suc i) q is))
  | inr e ↦ rw e (whole_front r (with_patch p rs) (all 0 r refl) (whole_with p rs w (λ i q is. all (suc i) q is)))
]

pub batch_held : (p : Patch) (ps : List Patch) → IsBatch ps → IsSector p.bytes → has_home ps p.sector ≡ true → length (with_patch p ps) ≤ bodies → IsBatch (with_patch p ps)
batch_held p ps b w held most = record {
  most = most;
  distinct = rw (homes_held p ps held) b.distinct;
  lawful = rw (homes_held p ps held) b.lawful;
  whole = whole_with p ps w b.whole;
}

pub batch_new : (p : Patch) (ps : List Patch) → IsBatch ps → IsTrue (is_lawful_home p.sector) → IsSector p.bytes → length ps < bodies → has_home ps p.sector ≡ false → with_patch p ps ≡ ps ++ p ∷ [] → IsBatch (with_patch p ps)
batch_new p ps b lawful w room new is =
    let homes : homes_of (with_patch p ps) ≡ homes_of ps ++ p.sector ∷ [] = ap homes_of is ∙ homes_append ps (p ∷ []) in
    record {
      most = omega (arith, ap length is, length-append ps (p ∷ []));
      distinct = rw homes (distinct_push (homes_of ps) p.sector b.distinct new);
      lawful = rw homes (all_push is_lawful_home (homes_of ps) p.sector b.lawful lawful);
      whole = whole_with p ps w b.whole;
    }
