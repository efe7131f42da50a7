-- Where a text is cut.
use Rattle.std.proofs.Common.{◌≡◌, ◌≢◌, ℕ, zero, suc, ◌+◌, ◌-◌, ◌<◌, ◌≤◌, Bool, true, false, not, cond, ◌==◌, nat_lt, List, [], ◌∷◌, ◌++◌, length, take, drop, refl, sym, ◌∙◌, ap, subst, arith, Option, Some, None}
use Rattle.std.proofs.lemmas.Bool.{lt-ltb, ltb-true, ltb-false, eqb-true, eq-eqb, and_parts, not-true}
use Rattle.std.proofs.lemmas.List.{length-drop}
use Rattle.std.proofs.Math.Seq.{take-length}
use Rattle.std.proofs.lemmas.Bool.Decides.{nat_tests}
use Rattle.std.specs.List.{position_or_len, position, list_all, join_with_byte}
use Rattle.script_text.specs.Pieces.{pieces, onto_first}

-- the pieces after the first
abbrev pub after_cut : ℕ → List ℕ → ℕ → List (List ℕ)
after_cut at bs n = cond (nat_lt n (length bs)) (pieces at (drop (n + 1) bs)) []

pub pieces-cut : (at : ℕ) (bs : List ℕ) → pieces at bs ≡ take (position_or_len (λ b. b == at) bs) bs ∷ after_cut at bs (position_or_len (λ b. b == at) bs)
pieces-cut at [] = refl
pieces-cut at (b ∷ bs) = let n = position_or_len (λ c. c == at) bs in
    elim (b == at) as (λ t. cond t ([] ∷ pieces at bs) (onto_first b (pieces at bs)) ≡ take (cond (not t) (1 + n) 0) (b ∷ bs) ∷ after_cut at (b ∷ bs) (cond (not t) (1 + n) 0)) [
      | true ↦ let some : nat_lt 0 (suc (length bs)) ≡ true = lt-ltb 0 (suc (length bs)) (omega arith) in
          ap (λ t. [] ∷ cond t (pieces at bs) []) (sym some)
      | false ↦ let more : suc n ≡ 1 + n = omega arith in
          subst (λ k. onto_first b (pieces at bs) ≡ take k (b ∷ bs) ∷ after_cut at (b ∷ bs) k) more
          (ap (onto_first b) (pieces-cut at bs) ∙ (λ i. (b ∷ take n bs) ∷ cond (same_test n (length bs) i) (pieces at (drop_more b n bs i)) []))
    ]
  where
    same_test : (m k : ℕ) → nat_lt m k ≡ nat_lt (suc m) (suc k)
    same_test m k = grind (arith, nat_tests)

    drop_more : (c m : ℕ) (cs : List ℕ) → drop (m + 1) cs ≡ drop (suc m + 1) (c ∷ cs)
    drop_more c m cs = let e : suc m + 1 ≡ suc (m + 1) = omega arith in sym (ap (λ k. drop k (c ∷ cs)) e)

found_at : (t : Bool) (n i : ℕ) → cond t (Some n) None ≡ Some i → (t ≡ true) × (n ≡ i)
found_at true n i e = (refl, cc)
found_at false n i e = absurd (cc)

found_none : (t : Bool) (n : ℕ) → ◌≡◌ {A = Option ℕ} (cond t (Some n) None) None → t ≡ false
found_none true n e = absurd (cc)
found_none false n e = refl

pub take_all : (bs : List ℕ) (n : ℕ) → length bs ≤ n → take n bs ≡ bs
take_all [] zero h = refl
take_all [] (suc n) h = refl
take_all (b ∷ bs) zero h = absurd (omega arith)
take_all (b ∷ bs) (suc n) h = ap (λ xs. b ∷ xs) (take_all bs n (omega arith))

pub take_rest : (k : ℕ) (bs : List ℕ) → take (length bs - k) (drop k bs) ≡ drop k bs
take_rest k bs = ap (λ m. take m (drop k bs)) (sym (length-drop k bs)) ∙ take-length (drop k bs)

pub cut_at : (at : ℕ) (bs : List ℕ) (i : ℕ) → position (λ b. b == at) bs ≡ Some i → pieces at bs ≡ take i bs ∷ pieces at (take (length bs - (i + 1)) (drop (i + 1) bs))
cut_at at bs i e =
    let n = position_or_len (λ b. b == at) bs in
    let s = found_at (nat_lt n (length bs)) n i e in
    pieces-cut at bs ∙ ap (λ t. take n bs ∷ cond t (pieces at (drop (n + 1) bs)) []) s.0 ∙ ap (λ k. take k bs ∷ pieces at (drop (k + 1) bs)) s.1 ∙ ap (λ ds. take i bs ∷ pieces at ds) (sym (take_rest (i + 1) bs))

pub cut_none : (at : ℕ) (bs : List ℕ) → ◌≡◌ {A = Option ℕ} (position (λ b. b == at) bs) None → pieces at bs ≡ bs ∷ []
cut_none at bs e =
    let n = position_or_len (λ b. b == at) bs in
    let s = found_none (nat_lt n (length bs)) n e in
    let all : length bs ≤ n = ltb-false n (length bs) s in
    pieces-cut at bs ∙ ap (λ t. take n bs ∷ cond t (pieces at (drop (n + 1) bs)) []) s ∙ ap (λ xs. xs ∷ []) (take_all bs n all)

pub some_pieces : (at : ℕ) (bs : List ℕ) → pieces at bs ≢ []
some_pieces at bs e = let f = sym (pieces-cut at bs) ∙ e in cc

-- the pieces, with the byte between each two, are the text again
pub join-pieces : (at : ℕ) (bs : List ℕ) → join_with_byte at (pieces at bs) ≡ bs
join-pieces at [] = refl
join-pieces at (b ∷ bs) =
    elim (b == at) as (λ t. (b == at) ≡ t → join_with_byte at (cond t ([] ∷ pieces at bs) (onto_first b (pieces at bs))) ≡ b ∷ bs) [
      | true ↦ λ e. from_empty (pieces at bs) (some_pieces at bs) ∙ (λ i. sym (eqb-true b at e) i ∷ join-pieces at bs i)
      | false ↦ λ e. from_first (pieces at bs) (some_pieces at bs) ∙ ap (λ xs. b ∷ xs) (join-pieces at bs)
    ] refl
  where
    from_empty : (ps : List (List ℕ)) → ps ≢ [] → join_with_byte at ([] ∷ ps) ≡ at ∷ join_with_byte at ps
    from_empty [] n = absurd (n refl)
    from_empty (p ∷ ps) n = refl

    from_first : (ps : List (List ℕ)) → ps ≢ [] → join_with_byte at (onto_first b ps) ≡ b ∷ join_with_byte at ps
    from_first [] n = absurd (n refl)
    from_first (p ∷ []) n = refl
    from_first (p ∷ o ∷ ps) n = refl

abbrev pub lacks : ℕ → List ℕ → Bool
lacks at bs = list_all (λ b. not (b == at)) bs

pub pieces-lacks : (at : ℕ) (w : List ℕ) → lacks at w ≡ true → pieces at w ≡ w ∷ []
pieces-lacks at [] h = refl
pieces-lacks at (b ∷ bs) h = let parts = and_parts (not (b == at)) (lacks at bs) h in
    ap (λ t. cond t ([] ∷ pieces at bs) (onto_first b (pieces at bs))) (not-true (b == at) parts.0) ∙ ap (onto_first b) (pieces-lacks at bs parts.1)

pub pieces-append : (at : ℕ) (w more : List ℕ) → lacks at w ≡ true → pieces at (w ++ (at ∷ more)) ≡ w ∷ pieces at more
pieces-append at [] more h = ap (λ t. cond t ([] ∷ pieces at more) (onto_first at (pieces at more))) (eq-eqb at at refl)
pieces-append at (b ∷ bs) more h = let parts = and_parts (not (b == at)) (lacks at bs) h in
    ap (λ t. cond t ([] ∷ pieces at (bs ++ (at ∷ more))) (onto_first b (pieces at (bs ++ (at ∷ more))))) (not-true (b == at) parts.0) ∙ ap (onto_first b) (pieces-append at bs more parts.1)

pub pieces-join : (at : ℕ) (ws : List (List ℕ)) → 1 ≤ length ws → list_all (lacks at) ws ≡ true → pieces at (join_with_byte at ws) ≡ ws
pieces-join at [] some h = absurd (omega arith)
pieces-join at (w ∷ []) some h = pieces-lacks at w (and_parts (lacks at w) true h).0
pieces-join at (w ∷ v ∷ ws) some h = let parts = and_parts (lacks at w) (list_all (lacks at) (v ∷ ws)) h in
    pieces-append at w (join_with_byte at (v ∷ ws)) parts.0 ∙ ap (λ ps. w ∷ ps) (pieces-join at (v ∷ ws) (omega arith) parts.1)

pub place_within : (at : ℕ) (bs : List ℕ) (i : ℕ) → position (λ b. b == at) bs ≡ Some i → i < length bs
place_within at bs i e =
    let n = position_or_len (λ b. b == at) bs in
    let s = found_at (nat_lt n (length bs)) n i e in
    omega (arith, ltb-true n (length bs) s.0, s.1)

pub cut_from : (at : ℕ) (bs : List ℕ) (i : ℕ) → position (λ b. b == at) bs ≡ Some i → pieces at bs ≡ take i bs ∷ pieces at (drop (i + 1) bs)
cut_from at bs i e = cut_at at bs i e ∙ ap (λ ds. take i bs ∷ pieces at ds) (take_rest (i + 1) bs)

take_none : (bs : List ℕ) → take 0 bs ≡ []
take_none [] = refl
take_none (b ∷ bs) = refl

upto : (at : ℕ) (bs : List ℕ) → nat_lt (position_or_len (λ b. b == at) bs) (length bs) ≡ true → pieces at (take (suc (position_or_len (λ b. b == at) bs)) bs) ≡ take (position_or_len (λ b. b == at) bs) bs ∷ [] ∷ []
upto at [] h = absurd (omega (arith, ltb-true 0 0 h))
upto at (b ∷ bs) h = let n = position_or_len (λ c. c == at) bs in
    elim (b == at) as (λ t. (b == at) ≡ t → nat_lt (cond (not t) (1 + n) 0) (suc (length bs)) ≡ true → pieces at (take (suc (cond (not t) (1 + n) 0)) (b ∷ bs)) ≡ take (cond (not t) (1 + n) 0) (b ∷ bs) ∷ [] ∷ []) [
      | true ↦ λ e k. ap (λ xs. pieces at (b ∷ xs)) (take_none bs) ∙ ap (λ t. cond t ([] ∷ [] ∷ []) (onto_first b ([] ∷ []))) e
      | false ↦ λ e k. let more : suc n ≡ 1 + n = omega arith in
          let within : nat_lt n (length bs) ≡ true = lt-ltb n (length bs) (omega (arith, ltb-true (1 + n) (suc (length bs)) k)) in
          subst (λ m. pieces at (take (suc m) (b ∷ bs)) ≡ take m (b ∷ bs) ∷ [] ∷ []) more
          (ap (λ t. cond t ([] ∷ pieces at (take (suc n) bs)) (onto_first b (pieces at (take (suc n) bs)))) e ∙ ap (onto_first b) (upto at bs within))
    ] refl h

pub cut_upto : (at : ℕ) (bs : List ℕ) (i : ℕ) → position (λ b. b == at) bs ≡ Some i → pieces at (take (i + 1) bs) ≡ take i bs ∷ [] ∷ []
cut_upto at bs i e =
    let n = position_or_len (λ b. b == at) bs in
    let s = found_at (nat_lt n (length bs)) n i e in
    let more : suc i ≡ i + 1 = omega arith in
    subst (λ m. pieces at (take m bs) ≡ take i bs ∷ [] ∷ []) more (subst (λ m. pieces at (take (suc m) bs) ≡ take m bs ∷ [] ∷ []) s.1 (upto at bs s.0))
