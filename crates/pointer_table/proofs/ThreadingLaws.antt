-- Slots threaded one after another, from the last pair of their order to the first.
use Rattle.std.proofs.Common.{◌≡◌, ℕ, suc, ◌+◌, ◌-◌, ◌<◌, ◌≤◌, ◌==◌, ◌||◌, Bool, true, false, cond, List, [], ◌∷◌, length, get_or, drop, refl, sym, ◌∙◌, ap, subst, arith, inl, inr, length-drop, drop-cons}
use Rattle.std.proofs.Common.{Option, Some, None}
use Rattle.pointer_table.proofs.Common.{list_any, cases_eq, or_cases, eqb-true, eq-eqb, ne_eqb, false_from_ne_true, get_or-drop, drop_all, Geometry, AreInRow, IsIndex, unset_link, sort_key, IsOrder, slot_at, IsTable, rank, IsWith, Index}
use Rattle.std.proofs.lemmas.List.Folds.{list_any_at}
use Rattle.pointer_table.proofs.EmptyLaws.{not_some}
use Rattle.pointer_table.proofs.ThreadLaws.{same_rank}

-- the slots that stand in the order from an offset on
abbrev pub is_threaded : List ℕ → ℕ → ℕ → Bool
is_threaded order left k = list_any (λ p. p == k) (drop left order)

abbrev pub threaded : List (Option (ℕ × ℕ)) → List ℕ → ℕ → ℕ → Option (ℕ × ℕ)
threaded slots order left k = cond (is_threaded order left k) (slot_at slots k) None

any_place : (p : ℕ → Bool) (xs : List ℕ) → list_any p xs ≡ true → (i : ℕ) × ((i < length xs) × (p (get_or xs i 0) ≡ true))
any_place p [] h = absurd (cc)
any_place p (x ∷ xs) h = elim (or_cases (p x) (list_any p xs) h) [
  | inl here ↦ (0, (omega arith, here))
  | inr later ↦ let k = any_place p xs later in (suc k.0, ((let short = k.1.0 in omega arith), k.1.1))
]

threaded_place : (order : List ℕ) (left k : ℕ) → is_threaded order left k ≡ true → (i : ℕ) × ((left ≤ i) × ((i < length order) × (get_or order i 0 ≡ k)))
threaded_place order left k h =
    let at = any_place (λ p. p == k) (drop left order) h in
    let len = length-drop left order in
    let inside = at.1.0 in
    (left + at.0, (omega arith, (omega arith, sym (get_or-drop left order at.0 0) ∙ eqb-true (get_or (drop left order) at.0 0) k at.1.1)))

threaded_from : (order : List ℕ) (left i k : ℕ) → left ≤ i → i < length order → get_or order i 0 ≡ k → is_threaded order left k ≡ true
threaded_from order left i k low inside is =
    let len = length-drop left order in
    let at : left + (i - left) ≡ i = omega arith in
    list_any_at (λ p. p == k) (drop left order) (i - left) 0 (omega arith)
    (eq-eqb (get_or (drop left order) (i - left) 0) k (get_or-drop left order (i - left) 0 ∙ (ap (λ n. get_or order n 0) at ∙ is)))

pub none_threaded : (slots : List (Option (ℕ × ℕ))) (order : List ℕ) (left : ℕ) → length order ≤ left → (k : ℕ) → ◌≡◌ {A = Option (ℕ × ℕ)} None (threaded slots order left k)
none_threaded slots order left past k = sym (ap (λ xs. cond (list_any (λ p. p == k) xs) (slot_at slots k) None) (drop_all left order past))

pub all_threaded : (slots : List (Option (ℕ × ℕ))) (order : List ℕ) → IsOrder slots order → (k : ℕ) → threaded slots order 0 k ≡ slot_at slots k
all_threaded slots order sorted k = go (slot_at slots k) refl
  where
    either : (t : Bool) → ◌≡◌ {A = Option (ℕ × ℕ)} (cond t None None) None
    either true = refl
    either false = refl

    go : (s : Option (ℕ × ℕ)) → slot_at slots k ≡ s → threaded slots order 0 k ≡ slot_at slots k
    go None is = ap (λ s. cond (is_threaded order 0 k) s None) is ∙ (either (is_threaded order 0 k) ∙ sym is)
    go (Some e) is = let at = sorted.holders.every k e is in ap (λ t. cond t (slot_at slots k) None) (threaded_from order 0 at.0 k (omega arith) at.1.0 at.1.1)

-- what is threaded stands in the order behind
held_behind : (slots : List (Option (ℕ × ℕ))) (order : List ℕ) (left k : ℕ) (f : ℕ × ℕ) → threaded slots order left k ≡ Some f → (is_threaded order left k ≡ true) × (slot_at slots k ≡ Some f)
held_behind slots order left k f h = go (is_threaded order left k) refl h
  where
    go : (t : Bool) → is_threaded order left k ≡ t → cond t (slot_at slots k) None ≡ Some f → (is_threaded order left k ≡ true) × (slot_at slots k ≡ Some f)
    go true is here = (is, here)
    go false is here = absurd (cc)

not_behind : (slots : List (Option (ℕ × ℕ))) (order : List ℕ) (left : ℕ) → IsOrder slots order → left < length order → is_threaded order (left + 1) (get_or order left 0) ≡ false
not_behind slots order left sorted inside = false_from_ne_true (is_threaded order (left + 1) (get_or order left 0)) (λ h.
    let at = threaded_place order (left + 1) (get_or order left 0) h in
    let low = at.1.0 in
    let same = sorted.holders.apart at.0 left at.1.1.0 inside at.1.1.1 in
    omega arith)

others_behind : (order : List ℕ) (left k : ℕ) → left < length order → (k ≡ get_or order left 0 → ⊥) → is_threaded order left k ≡ is_threaded order (left + 1) k
others_behind order left k inside off =
    ap (list_any (λ p. p == k)) (drop-cons order left 0 inside)
    ∙ (ap (λ t. t || list_any (λ p. p == k) (drop (suc left) order)) (ne_eqb (get_or order left 0) k (λ same. off (sym same)))
    ∙ ap (λ n. list_any (λ p. p == k) (drop n order)) (let more : suc left ≡ left + 1 = omega arith in more))

-- one slot more
pub thread_more : (slots : List (Option (ℕ × ℕ))) (order : List ℕ) (left : ℕ) (e : ℕ × ℕ) → IsOrder slots order → left < length order → slot_at slots (get_or order left 0) ≡ Some e
    → IsWith (threaded slots order (left + 1)) (get_or order left 0) e (threaded slots order left)
thread_more slots order left e sorted inside here = record {
  empty = ap (λ t. cond t (slot_at slots (get_or order left 0)) None) (not_behind slots order left sorted inside);
  filled = ap (λ t. cond t (slot_at slots (get_or order left 0)) None) (threaded_from order left left (get_or order left 0) (omega arith) inside refl) ∙ here;
  others = λ k off. ap (λ t. cond t (slot_at slots k) None) (others_behind order left k inside off);
}

-- the pair is below all that are threaded
pub thread_least : (g : Geometry) (slots : List (Option (ℕ × ℕ))) (order : List ℕ) (left : ℕ) (e : ℕ × ℕ) → IsTable (record { geometry = g; slots = slots }) → IsOrder slots order → left < length order
    → slot_at slots (get_or order left 0) ≡ Some e → (k : ℕ) (f : ℕ × ℕ) → threaded slots order (left + 1) k ≡ Some f → rank e < rank f
thread_least g slots order left e table sorted inside here k f held =
    let behind = held_behind slots order (left + 1) k f held in
    let at = threaded_place order (left + 1) k behind.0 in
    let low = at.1.0 in
    let there : slot_at slots (get_or order at.0 0) ≡ Some f = ap (slot_at slots) at.1.1.1 ∙ behind.1 in
    let keys = sorted.rising left at.0 (omega arith) at.1.1.0 in
    let one : sort_key (slot_at slots (get_or order left 0)) ≡ rank e = ap sort_key here in
    let other : sort_key (slot_at slots (get_or order at.0 0)) ≡ rank f = ap sort_key there in
    let most = table.lawful.blocks in
    let e_ends = table.ends (get_or order left 0) e here in
    let f_ends = table.ends k f behind.1 in
    elim (cases_eq (rank e) (rank f)) [
      | inl same ↦
          (let pair : e ≡ f = same_rank e f (omega arith) (omega arith) same in
          let slot = table.apart (get_or order left 0) (get_or order at.0 0) e here (there ∙ ap Some (sym pair)) in
          let position = sorted.holders.apart left at.0 inside at.1.1.0 slot in
          absurd (omega arith))
      | inr off ↦ omega arith
    ]

-- the same at a position that is counted down to: what a change with the slot in front of it makes of the threads
pub one_more : (g : Geometry) (slots : List (Option (ℕ × ℕ))) (order : List ℕ) (l : ℕ) (e : ℕ × ℕ) (before after : (ℕ → Option (ℕ × ℕ)) → Type 0) → IsTable (record { geometry = g; slots = slots }) → IsOrder slots order
    → 0 < l → l ≤ length order → slot_at slots (get_or order (l - 1) 0) ≡ Some e → before (threaded slots order l)
    → ((held now : ℕ → Option (ℕ × ℕ)) → IsWith held (get_or order (l - 1) 0) e now → ((k : ℕ) (f : ℕ × ℕ) → held k ≡ Some f → rank e < rank f) → before held → after now)
    → after (threaded slots order (l - 1))
one_more g slots order l e before after table sorted some inside here so_far more =
    let below : l - 1 < length order = omega arith in
    let back : (l - 1) + 1 ≡ l = omega arith in
    more (threaded slots order ((l - 1) + 1)) (threaded slots order (l - 1)) (thread_more slots order (l - 1) e sorted below here)
    (thread_least g slots order (l - 1) e table sorted below here) (subst (λ (n : ℕ). before (threaded slots order n)) (sym back) so_far)

-- the links of those that aren't threaded stay in a row
pub row_more : (slots : List (Option (ℕ × ℕ))) (order : List ℕ) (l : ℕ) (e : ℕ × ℕ) (next now : List ℕ) → IsOrder slots order → 0 < l → l ≤ length order → slot_at slots (get_or order (l - 1) 0) ≡ Some e
    → length now ≡ length next → ((k : ℕ) → (k ≡ get_or order (l - 1) 0 → ⊥) → get_or now k 0 ≡ get_or next k 0)
    → AreInRow (threaded slots order l) next → AreInRow (threaded slots order (l - 1)) now
row_more slots order l e next now sorted some inside here long others row k within none =
    let back : (l - 1) + 1 ≡ l = omega arith in
    let with = thread_more slots order (l - 1) e sorted (omega arith) here in
    let off : k ≡ get_or order (l - 1) 0 → ⊥ = λ same. not_some (threaded slots order (l - 1) k) e none (ap (threaded slots order (l - 1)) same ∙ with.filled) in
    others k off
    ∙ (row k (omega arith) (ap (λ n. threaded slots order n k) (sym back) ∙ (sym (with.others k off) ∙ none))
    ∙ ap (λ n. unset_link true n k) (sym long))

-- slots given another way
pub index_same : (held now : ℕ → Option (ℕ × ℕ)) (x : Index) → ((k : ℕ) → held k ≡ now k) → IsIndex held x → IsIndex now x
index_same held now x same index = subst (λ (h : ℕ → Option (ℕ × ℕ)). IsIndex h x) (λ i k. same k i) index
