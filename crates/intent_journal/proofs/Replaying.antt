-- What a replay finds, and what a crash leaves of it.
use Rattle.std.proofs.Common.{◌≡◌, inl, inr, ℕ, ◌<◌, ◌≤◌, Bool, true, false, List, [], ◌∷◌, ◌++◌, length, refl, sym, ◌∙◌, ap, subst, arith}
use Rattle.intent_journal.proofs.Common.{cases_Bool, or_from, Rests, Image, IsFirm, LeavesOnly, View, IsLeftNow, IsSound, joined, rested, firm_image, records, bodies, Patch, has_home, IsListed, is_listed_open, one_if, closing_writes, IsBefore, IsTheSame, home, is_journal, AgreeBut, JournalRecord, patches_of, descriptor_of, open_from, open_records, is_gate_open, has_valid_records, last_patches, distinct_homes, IsReplayFound, replay_writes, ClosesGates, rests_joined}
use Rattle.intent_journal.specs.declared.ring.Replayed.TheVariants.{Nothing, Homes}
use Rattle.intent_journal.proofs.Opened.{begins, valid_parts}

-- ---- how many homes
pub lasts_some : (p : Patch) (ps : List Patch) → 0 < length (last_patches (p ∷ ps))
lasts_some p [] = omega arith
lasts_some p (q ∷ ps) = elim (cases_Bool (has_home (q ∷ ps) p.sector)) [
  | inl t ↦ let more = lasts_some q ps in rw t more
  | inr f ↦ rw f (omega arith)
]

pub lasts_most : (ps : List Patch) → length (last_patches ps) ≤ length ps
lasts_most [] = omega arith
lasts_most (p ∷ ps) = let rest = lasts_most ps in elim (cases_Bool (has_home ps p.sector)) [
  | inl t ↦ rw t (omega arith)
  | inr f ↦ rw f (omega arith)
]

-- no record is empty
none_open : (x : Image) (rs : List JournalRecord) → open_from x 0 0 8 ≡ rs → distinct_homes rs ≡ 0 → rs ≡ []
none_open x [] is none = refl
none_open x ([] ∷ rs) is none =
    let b = begins x 0 0 7 [] rs is in
    let some = (valid_parts 0 (descriptor_of x 0) b.valid).some in
    absurd (omega (arith, some, b.count))
none_open x ((p ∷ ps) ∷ rs) is none = absurd (omega (arith, none, lasts_some p (ps ++ patches_of rs)))

pub found_none : (x : Image) (homes : ℕ) → homes ≡ distinct_homes (open_records x) → homes ≡ 0 → IsReplayFound (open_records x) Nothing
unfolding open_records
found_none x homes is none = none_open x (open_from x 0 0 8) refl (sym is ∙ none)

pub found_some : (x : Image) (homes : ℕ) → homes ≡ distinct_homes (open_records x) → (homes ≡ 0 → ⊥) → IsReplayFound (open_records x) (Homes homes)
found_some x homes is some = (λ e. some (is ∙ ap distinct_homes e), is)

-- ---- how often is written
one_most : (b : Bool) → one_if b ≤ 1
one_most true = omega arith
one_most false = omega arith

pub closing_most : (ps : List Patch) (gates : List Bool) → length ps ≤ bodies → closing_writes ps gates ≤ 121
closing_most ps gates few = omega (
  arith,
  few,
  lasts_most ps,
  one_most (is_listed_open gates 0),
  one_most (is_listed_open gates 1),
  one_most (is_listed_open gates 2),
  one_most (is_listed_open gates 3),
  one_most (is_listed_open gates 4),
  one_most (is_listed_open gates 5),
  one_most (is_listed_open gates 6),
  one_most (is_listed_open gates 7),
)

-- ---- at any moment
module _ (v : View) (firm : IsFirm v) (sound : IsSound v) where
  same_now : (x : Image) (f : List ℕ) → IsLeftNow v x f → IsTheSame v.reads x × (f ≡ v.sent)
  same_now x f left = (subst (IsTheSame v.reads) (sym (firm_image v firm x f left)) (record { valid = refl; stands = λ n out. refl }), left.1)

  -- while it reads
  pub looking : (v1 : View) → Rests v v1 → LeavesOnly v v1 (λ x f. IsTheSame v.reads x × (f ≡ v.sent))
  looking v1 rests = rested v v1 (λ x f. IsTheSame v.reads x × (f ≡ v.sent)) sound rests same_now

  -- and then, where the records are valid, while it puts them in place
  pub replaying : (v1 v2 : View) → Rests v v1 → has_valid_records v.reads ≡ true → LeavesOnly v1 v2 (λ x f. IsBefore v1 x × (f ≡ v1.sent)) → LeavesOnly v v2 (λ x f. IsTheSame v.reads x × (f ≡ v.sent))
  replaying v1 v2 rests valid more = joined v v1 v2 (λ x f. IsTheSame v.reads x × (f ≡ v.sent)) (λ x f. IsBefore v1 x × (f ≡ v1.sent)) (looking v1 rests) more
      (λ x f left. (
        record {
          valid = left.0.valid ∙ sym valid;
          stands = λ n out.
              left.0.stands n (or_from (is_journal n) (v1.loose n) out ((λ i. rests.loose i n) ∙ firm n)) ∙ (λ i. home (rests.reads i) n);
        },
        left.1 ∙ rests.sent,
      ))

-- ---- what is put in place is what was read
pub listed_then : (ps : List Patch) (gates : List Bool) (v v1 v2 : View) → IsFirm v → Rests v v1 → Rests v1 v2 → ps ≡ patches_of (open_records v.reads) → has_valid_records v.reads ≡ true
    → ((index : ℕ) → index < records → is_listed_open gates index ≡ is_gate_open v1.reads index) → IsListed ps gates v2
listed_then ps gates v v1 v2 firm first second found valid listed =
    let both = rests_joined v v1 v2 first second in
    record {
      patches = (λ i. patches_of (open_records (both.reads i))) ∙ sym found;
      valid = (λ i. has_valid_records (both.reads i)) ∙ valid;
      gates = λ index less. listed index less ∙ sym (λ i. is_gate_open (second.reads i) index);
      journal_firm = λ n _. (λ i. both.loose i n) ∙ firm n;
    }

pub done_then : (v v2 v3 : View) → Rests v v2 → AgreeBut is_journal (home v2.reads) v3.reads → AgreeBut is_journal (home v.reads) v3.reads
done_then v v2 v3 rests done n out = done n out ∙ (λ i. home (rests.reads i) n)

pub gates_then : (v v2 v3 : View) → Rests v v2 → ClosesGates v2.reads v3.reads → ClosesGates v.reads v3.reads
gates_then v v2 v3 rests closes = subst (λ (x : Image). ClosesGates x v3.reads) rests.reads closes

-- no more is written than needed
pub needed_then : (ps : List Patch) (gates : List Bool) (v v1 : View) → Rests v v1 → ps ≡ patches_of (open_records v.reads)
    → ((index : ℕ) → index < records → is_listed_open gates index ≡ is_gate_open v1.reads index) → closing_writes ps gates ≤ replay_writes v.reads
needed_then ps gates v v1 rests found listed = omega (arith, ap (λ (l : List Patch). length (last_patches l)) found, one 0 (omega arith), one 1 (omega arith), one 2 (omega arith), one 3 (omega arith), one 4 (omega arith), one 5 (omega arith), one 6 (omega arith), one 7 (omega arith))
  where
    one : (i : ℕ) → i < records → one_if (is_listed_open gates i) ≡ one_if (is_gate_open v.reads i)
    one i less = ap one_if (listed i less ∙ (λ j. is_gate_open (rests.reads j) i))
