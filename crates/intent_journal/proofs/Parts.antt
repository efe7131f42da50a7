-- The patches of all records as one list.
use Rattle.std.proofs.Common.{◌≡◌, ◌≢◌, ⊎_elim, ℕ, suc, ◌+◌, ◌≤◌, List, [], ◌∷◌, ◌++◌, length, take, drop, refl, sym, ◌∙◌, ap, subst, arith, length-drop, length-append}
use Rattle.intent_journal.proofs.Common.{nil_from_length, take-append-drop, take_all, take-append-le, drop-append-le, append-nil, length_push, flat_map-append, records, bodies, Patch, IsBatch, sum_of, parted, ArePatchesOfRing, JournalRecord, patches_of, IsRing}
use Rattle.std.proofs.lemmas.List.Elements.{Contains-push_cases}

pub length_parted : (cs : List ℕ) (ps : List Patch) → length (parted cs ps) ≡ length cs
length_parted [] ps = refl
length_parted (c ∷ cs) ps = ap suc (length_parted cs (drop c ps))

pub patches_parted : (cs : List ℕ) (ps : List Patch) → sum_of cs ≡ length ps → patches_of (parted cs ps) ≡ ps
patches_parted [] ps h = sym (nil_from_length ps (sym h))
patches_parted (c ∷ cs) ps h =
    let rest : sum_of cs ≡ length (drop c ps) = omega (arith, length-drop c ps, h) in
    ap (λ l. take c ps ++ l) (patches_parted cs (drop c ps) rest) ∙ take-append-drop c ps

total_push : (cs : List ℕ) (c : ℕ) → sum_of (cs ++ c ∷ []) ≡ sum_of cs + c
total_push [] c = omega arith
total_push (d ∷ cs) c = omega (arith, total_push cs c)

-- one record more
parted_push : (cs : List ℕ) (ps b : List Patch) → sum_of cs ≡ length ps → parted (cs ++ length b ∷ []) (ps ++ b) ≡ parted cs ps ++ b ∷ []
parted_push [] ps b h = ap (λ l. l ∷ []) (ap (λ (q : List Patch). take (length b) (q ++ b)) (nil_from_length ps (sym h)) ∙ take_all (length b) b (omega arith))
parted_push (c ∷ cs) ps b h =
    let le : c ≤ length ps = omega (arith, h) in
    let rest : sum_of cs ≡ length (drop c ps) = omega (arith, length-drop c ps, h) in
    let step : parted (cs ++ length b ∷ []) (drop c (ps ++ b)) ≡ parted cs (drop c ps) ++ b ∷ [] = ap (parted (cs ++ length b ∷ [])) (drop-append-le c ps b le) ∙ parted_push cs (drop c ps) b rest in
    λ i. take-append-le c ps b le i ∷ step i

pub patches_push : (rs : List JournalRecord) (b : List Patch) → patches_of (rs ++ b ∷ []) ≡ patches_of rs ++ b
patches_push rs b = flat_map-append (λ r. r) rs (b ∷ []) ∙ ap (λ l. patches_of rs ++ l) (append-nil b)

pub ring_push : (rs : List JournalRecord) (b : List Patch) → IsRing rs → IsBatch b → b ≢ [] → length (patches_of rs) + length b ≤ bodies → length rs + 1 ≤ records → IsRing (rs ++ b ∷ [])
ring_push rs b ring batch some room more = record {
  most = omega (arith, length_push rs b);
  fits = omega (arith, ap length (patches_push rs b), length-append (patches_of rs) b);
  each = λ r found. ⊎_elim (λ old. ring.each r old) (λ new. subst (λ (q : JournalRecord). IsBatch q × (q ≢ [])) new (batch, some)) (Contains-push_cases rs b r found);
}

module _ (cs : List ℕ) (ps b : List Patch) (parts : ArePatchesOfRing cs ps) where
  pub view_push : parted (cs ++ length b ∷ []) (ps ++ b) ≡ parted cs ps ++ b ∷ []
  view_push = parted_push cs ps b parts.whole

  pub parts_push : IsBatch b → b ≢ [] → length ps + length b ≤ bodies → length cs + 1 ≤ records → ArePatchesOfRing (cs ++ length b ∷ []) (ps ++ b)
  parts_push batch some room more = record {
    whole = omega (arith, total_push cs (length b), parts.whole, length-append ps b);
    ring = subst IsRing (sym view_push) (ring_push (parted cs ps) b parts.ring batch some (omega (arith, ap length (patches_parted cs ps parts.whole))) (omega (arith, length_parted cs ps)));
  }

pub parts_none : ArePatchesOfRing [] []
parts_none = record {
  whole = refl;
  ring = record { most = omega arith; fits = omega arith; each = λ r found. absurd (omega (arith, found.1)) };
}
