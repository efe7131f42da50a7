-- The last patch of a home.
use Rattle.std.proofs.Common.{◌≡◌, inl, inr, ℕ, ◌+◌, ◌<◌, ◌≤◌, ◌==◌, ◌||◌, ◌&&◌, not, Bool, true, false, cond, List, [], ◌∷◌, ◌++◌, length, get_or, take, drop, refl, sym, ◌∙◌, ap, subst, arith, Option, Some, None}
use Rattle.intent_journal.proofs.Common.{list_any, cases_Bool, cond-true, cond-false, or_from, or_left, and_from, and_left, and_right, not_from_true, not_from_false, nat_tests, list_any-append, list_any_at, drop_more, drop_all, take_more, take-append-drop, Image, put_at, View, MatchOption, Patch, has_home, overlaid, home, JournalRecord, patches_of, last_patches, IsRingAt, one_if}
use Rattle.intent_journal.proofs.Overlays.{overlaid_missed, overlaid_append}

abbrev pub is_for : ℕ → Patch → Bool
is_for sector p = p.sector == sector

pub has_home_any : (ps : List Patch) (sector : ℕ) → list_any (is_for sector) ps ≡ has_home ps sector
has_home_any [] sector = refl
has_home_any (p ∷ ps) sector = ap (λ b. (p.sector == sector) || b) (has_home_any ps sector)

has_home_append : (ps qs : List Patch) (sector : ℕ) → has_home (ps ++ qs) sector ≡ (has_home ps sector || has_home qs sector)
has_home_append ps qs sector = sym (has_home_any (ps ++ qs) sector) ∙ list_any-append (is_for sector) ps qs ∙ (λ i. has_home_any ps sector i || has_home_any qs sector i)

-- what the last patch of a home says
pub overlaid_here : (p : Patch) (qs : List Patch) (x : Image) → has_home qs p.sector ≡ false → overlaid (p ∷ qs) x p.sector ≡ p.bytes
overlaid_here p qs x none =
    let same : (p.sector == p.sector) ≡ true = grind (arith, nat_tests) in
    overlaid_missed qs (put_at p.sector p.bytes x) p.sector none ∙ cond-true (p.sector == p.sector) p.bytes (x p.sector) same

-- ---- a read
module _ (rs : List JournalRecord) (v : View) (sector : ℕ) (ps : List Patch) (at : IsRingAt rs v) (is : ps ≡ patches_of rs) where
  pub home_is : home v.reads sector ≡ overlaid ps v.reads sector
  home_is = ap (λ (qs : List Patch). overlaid qs v.reads sector) (ap patches_of at.shows ∙ sym is)

-- ---- a search from the first patch on
pub last_held : (ps : List Patch) (i : ℕ) (p d : Patch) (x : Image) → i < length ps → p ≡ get_or ps i d → overlaid (take (i + 1) ps) x p.sector ≡ p.bytes
last_held ps i p d x less is =
    let more : take (i + 1) ps ≡ take i ps ++ p ∷ [] = take_more ps i d less ∙ ap (λ (q : Patch). take i ps ++ q ∷ []) (sym is) in
    ap (λ (qs : List Patch). overlaid qs x p.sector) more ∙ (λ j. overlaid_append (take i ps) (p ∷ []) x j p.sector) ∙ overlaid_here p [] (overlaid (take i ps) x) refl

pub last_held_at : (ps : List Patch) (i sector : ℕ) (d : Patch) (x : Image) → i < length ps → (get_or ps i d).sector ≡ sector → overlaid (take (i + 1) ps) x sector ≡ (get_or ps i d).bytes
last_held_at ps i sector d x less at = let P : ℕ → Type 0 = λ n. overlaid (take (i + 1) ps) x n ≡ (get_or ps i d).bytes in subst P at (last_held ps i (get_or ps i d) d x less refl)

other_sector : (n m : ℕ) → (n == m) ≡ false → (m == n) ≡ false
other_sector n m h = grind (arith, nat_tests)

pub last_passed : (ps : List Patch) (i sector : ℕ) (p d : Patch) (x : Image) → i < length ps → p ≡ get_or ps i d → (p.sector == sector) ≡ false
    → overlaid (take (i + 1) ps) x sector ≡ overlaid (take i ps) x sector
last_passed ps i sector p d x less is away =
    let more : take (i + 1) ps ≡ take i ps ++ p ∷ [] = take_more ps i d less ∙ ap (λ (q : Patch). take i ps ++ q ∷ []) (sym is) in
    ap (λ (qs : List Patch). overlaid qs x sector) more ∙ (λ j. overlaid_append (take i ps) (p ∷ []) x j sector)
    ∙ cond-false (sector == p.sector) p.bytes (overlaid (take i ps) x sector) (other_sector p.sector sector away)

pub none_passed : (ps : List Patch) (i sector : ℕ) (p d : Patch) → i < length ps → p ≡ get_or ps i d → (p.sector == sector) ≡ false
    → has_home (take i ps) sector ≡ false → has_home (take (i + 1) ps) sector ≡ false
none_passed ps i sector p d less is away none =
    let more : take (i + 1) ps ≡ take i ps ++ p ∷ [] = take_more ps i d less ∙ ap (λ (q : Patch). take i ps ++ q ∷ []) (sym is) in
    ap (λ (qs : List Patch). has_home qs sector) more ∙ has_home_append (take i ps) (p ∷ []) sector ∙ or_from (has_home (take i ps) sector) (has_home (p ∷ []) sector) none (or_from (p.sector == sector) false away refl)

-- a search that goes on past a patch
pub found_on : {X : Type 0} (o : Option X) (bytes_of : X → List ℕ) (ps : List Patch) (i sector : ℕ) (p d : Patch) → i < length ps → p ≡ get_or ps i d → (p.sector == sector) ≡ false
    → MatchOption o (has_home (take i ps) sector ≡ false) (λ q. (x : Image) → overlaid (take i ps) x sector ≡ bytes_of q)
    → MatchOption o (has_home (take (i + 1) ps) sector ≡ false) (λ q. (x : Image) → overlaid (take (i + 1) ps) x sector ≡ bytes_of q)
found_on None bytes_of ps i sector p d less is away none = none_passed ps i sector p d less is away none
found_on (Some q) bytes_of ps i sector p d less is away held = λ x. last_passed ps i sector p d x less is away ∙ held x

-- a patch for this sector is one that the list has
pub held_at : (ps : List Patch) (i sector : ℕ) (d : Patch) → i < length ps → (get_or ps i d).sector ≡ sector → has_home ps sector ≡ true
held_at ps i sector d less here = sym (has_home_any ps sector) ∙ list_any_at (is_for sector) ps i d less (grind (arith, nat_tests))

-- ---- each home written once, from the first patch on
lasts_first : (p : Patch) (qs : List Patch) → length (last_patches (p ∷ qs)) ≡ one_if (not (has_home qs p.sector)) + length (last_patches qs)
lasts_first p qs = elim (cases_Bool (has_home qs p.sector)) [
  | inl t ↦ rw t (omega arith)
  | inr f ↦ rw f (omega arith)
]

pub lasts_more : (ps : List Patch) (i : ℕ) (p d : Patch) → i < length ps → p ≡ get_or ps i d
    → length (last_patches (drop i ps)) ≡ one_if (not (has_home (drop (i + 1) ps) p.sector)) + length (last_patches (drop (i + 1) ps))
lasts_more ps i p d less is =
    let split : drop i ps ≡ p ∷ drop (i + 1) ps = drop_more ps i d less ∙ ap (λ (q : Patch). q ∷ drop (i + 1) ps) (sym is) in
    ap (λ (qs : List Patch). length (last_patches qs)) split ∙ lasts_first p (drop (i + 1) ps)

-- what the sectors hold: those of homes still to come what they held at first, and the others what they are to hold
module _ (p : Patch) (front qs : List Patch) (old mid new : Image)
    (so_far : (n : ℕ) → mid n ≡ cond (has_home (p ∷ qs) n) (old n) (overlaid (front ++ p ∷ qs) old n))
    (written : (n : ℕ) → new n ≡ cond ((n == p.sector) && not (has_home qs p.sector)) p.bytes (mid n)) where
  placed_step : (n : ℕ) → new n ≡ cond (has_home qs n) (old n) (overlaid (front ++ p ∷ qs) old n)
  placed_step n = elim (cases_Bool (n == p.sector)) [
    | inl here ↦
        let e : n ≡ p.sector = grind (arith, nat_tests) in
        let same : has_home qs n ≡ has_home qs p.sector = ap (has_home qs) e in
        let first : has_home (p ∷ qs) n ≡ true = or_left (p.sector == n) (has_home qs n) (grind (arith, nat_tests)) in
        elim (cases_Bool (has_home qs p.sector)) [
          | inl later ↦
              written n ∙ cond-false _ p.bytes (mid n) (and_right (n == p.sector) (not (has_home qs p.sector)) (not_from_true (has_home qs p.sector) later))
              ∙ so_far n ∙ cond-true _ (old n) (overlaid (front ++ p ∷ qs) old n) first ∙ sym (cond-true _ (old n) (overlaid (front ++ p ∷ qs) old n) (same ∙ later))
          | inr last ↦
              written n ∙ cond-true _ p.bytes (mid n) (and_from (n == p.sector) (not (has_home qs p.sector)) here (not_from_false (has_home qs p.sector) last))
              ∙ sym (cond-false _ (old n) (overlaid (front ++ p ∷ qs) old n) (same ∙ last) ∙ ap (overlaid (front ++ p ∷ qs) old) e ∙ (λ j. overlaid_append front (p ∷ qs) old j p.sector) ∙ overlaid_here p qs (overlaid front old) last)
        ]
    | inr away ↦
        let same : has_home (p ∷ qs) n ≡ has_home qs n = ap (λ b. b || has_home qs n) (other_sector n p.sector away) in
        written n ∙ cond-false _ p.bytes (mid n) (and_left (n == p.sector) (not (has_home qs p.sector)) away)
        ∙ so_far n ∙ ap (λ b. cond b (old n) (overlaid (front ++ p ∷ qs) old n)) same
  ]

pub placed_more : (ps : List Patch) (i : ℕ) (p d : Patch) (later : List Patch) (old mid new : Image) → i < length ps → p ≡ get_or ps i d → later ≡ drop (i + 1) ps
    → ((n : ℕ) → mid n ≡ cond (has_home (drop i ps) n) (old n) (overlaid ps old n))
    → ((n : ℕ) → new n ≡ cond ((n == p.sector) && not (has_home later p.sector)) p.bytes (mid n))
    → (n : ℕ) → new n ≡ cond (has_home (drop (i + 1) ps) n) (old n) (overlaid ps old n)
placed_more ps i p d later old mid new less is behind so_far written n =
    let split : drop i ps ≡ p ∷ drop (i + 1) ps = drop_more ps i d less ∙ ap (λ (q : Patch). q ∷ drop (i + 1) ps) (sym is) in
    let whole : take i ps ++ p ∷ drop (i + 1) ps ≡ ps = ap (λ (l : List Patch). take i ps ++ l) (sym split) ∙ take-append-drop i ps in
    placed_step p (take i ps) (drop (i + 1) ps) old mid new
    (λ m. so_far m ∙ ap (λ (l : List Patch). cond (has_home l m) (old m) (overlaid ps old m)) split ∙ ap (λ (l : List Patch). cond (has_home (p ∷ drop (i + 1) ps) m) (old m) (overlaid l old m)) (sym whole))
    (λ m. written m ∙ ap (λ (l : List Patch). cond ((m == p.sector) && not (has_home l p.sector)) p.bytes (mid m)) behind) n
    ∙ ap (λ (l : List Patch). cond (has_home (drop (i + 1) ps) n) (old n) (overlaid l old n)) whole

-- before the first and behind the last
pub placed_start : (ps : List Patch) (old : Image) (n : ℕ) → old n ≡ cond (has_home (drop 0 ps) n) (old n) (overlaid ps old n)
placed_start ps old n = elim (cases_Bool (has_home ps n)) [
  | inl t ↦ sym (cond-true (has_home ps n) (old n) (overlaid ps old n) t)
  | inr f ↦ sym (cond-false (has_home ps n) (old n) (overlaid ps old n) f ∙ overlaid_missed ps old n f)
]

pub placed_all : (ps : List Patch) (i : ℕ) (old new : Image) (n : ℕ) → length ps ≤ i → new n ≡ cond (has_home (drop i ps) n) (old n) (overlaid ps old n) → new n ≡ overlaid ps old n
placed_all ps i old new n past is = is ∙ ap (λ (l : List Patch). cond (has_home l n) (old n) (overlaid ps old n)) (drop_all i ps past)

pub home_at : (ps : List Patch) (i : ℕ) (p d : Patch) → i < length ps → p ≡ get_or ps i d → (n : ℕ) → has_home ps n ≡ false → (n == p.sector) ≡ false
home_at ps i p d less is n out = elim (cases_Bool (n == p.sector)) [
  | inl here ↦
      let e : n ≡ p.sector = grind (arith, nat_tests) in
      let at : (get_or ps i d).sector ≡ n = ap (λ (q : Patch). q.sector) (sym is) ∙ sym e in
      let held : has_home ps n ≡ true = held_at ps i n d less at in
      absurd (cc)
  | inr away ↦ away
]

pub count_more : (ps : List Patch) (i : ℕ) (p d : Patch) (later : List Patch) (homes one : ℕ) → i < length ps → p ≡ get_or ps i d → later ≡ drop (i + 1) ps
    → homes + length (last_patches (drop i ps)) ≡ length (last_patches ps) → one ≡ one_if (not (has_home later p.sector))
    → (homes + one + length (last_patches (drop (i + 1) ps)) ≡ length (last_patches ps)) × (one ≤ 1)
count_more ps i p d later homes one less is behind so_far counted =
    let step = lasts_more ps i p d less is in
    let same : one ≡ one_if (not (has_home (drop (i + 1) ps) p.sector)) = counted ∙ ap (λ (l : List Patch). one_if (not (has_home l p.sector))) behind in
    (omega (arith, so_far, step, same), at_most (not (has_home later p.sector)) counted)
  where
    at_most : (b : Bool) → one ≡ one_if b → one ≤ 1
    at_most true e = omega (arith, e)
    at_most false e = omega (arith, e)
