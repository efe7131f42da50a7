-- Room is kept to: what is taken, counted.
use Rattle.std.proofs.Common.{◌≡◌, ℕ, zero, suc, ◌+◌, ◌≤◌, Bool, true, false, not, cond, ◌||◌, ◌==◌, List, [], ◌∷◌, ◌++◌, length, length-append, refl, sym, ◌∙◌, ap, subst, arith, inl, inr, Option, Some, None}
use Rattle.fs_client.proofs.Common.{and_parts, and_from, or_cases, or_left, or_right, eq-eqb, eqb-true, ne_eqb, false_from_ne_true, sum_by-cons, filter, count_by, is_some, is_none, slice_index_or, list_any, World, is_live, has_number, is_pair, holds, is_below_first, is_rising, without_pair, IsValid, Request, holds-filter, holds_first, first_once, is_pair_ext, is_pair_same, length-filter_le, has_number-filter, need, RoomNeed, DiskView, IsValidNow, KeepsRoom, Client, written, Went, dropped}
use Rattle.std.proofs.lemmas.List.Folds.{list_any-append}
use Rattle.fs_client.proofs.DropLaws.{fewer_pairs, fewer_live}
use Rattle.fs_client.proofs.WriteLaws.{written_elsewhere}
use Rattle.tsd_model.proofs.ValueLaws.{clash}

-- without those that pass, of which there is one
one_fewer : {X : Type 0} (p : X → Bool) (xs : List X) → list_any p xs ≡ true → suc (length (filter (λ x. not (p x)) xs)) ≤ length xs
one_fewer p [] h = absurd (cc)
one_fewer p (x ∷ xs) h = elim (p x) as (λ t. (t || list_any p xs) ≡ true → suc (length (cond (not t) (x ∷ filter (λ y. not (p y)) xs) (filter (λ y. not (p y)) xs))) ≤ suc (length xs)) [
  | true ↦ λ g. let less = length-filter_le (λ y. not (p y)) xs in omega (arith, less)
  | false ↦ λ g. let rest = one_fewer p xs g in omega (arith, rest)
] h

-- ---- blocks

abbrev but : ℕ → List ℕ → List ℕ
but b xs = filter (λ x. not (x == b)) xs

in_but : (b c : ℕ) (xs : List ℕ) → (c == b) ≡ false → has_number xs c ≡ true → has_number (but b xs) c ≡ true
in_but b c xs other h = has_number-filter (λ x. not (x == b)) xs c ∙ and_from (has_number xs c) (not (c == b)) h (ap not other)

-- of blocks from this number on, each that is live was so, or is among these
abbrev AreAmong : ℕ → List (Option (List ℕ)) → List (Option (List ℕ)) → List ℕ → Type 0
AreAmong at ws ns new = (j : ℕ) → is_some (slice_index_or ns j None) ≡ true → (is_some (slice_index_or ws j None) || has_number new (at + j)) ≡ true

more_free : (q : Option (List ℕ)) (qs : List (Option (List ℕ))) → count_by is_none (q ∷ qs) ≡ cond (is_none q) 1 0 + count_by is_none qs
more_free q qs = sum_by-cons (λ r. cond (is_none r) 1 0) q qs

module _ (at : ℕ) (o p : Option (List ℕ)) (ws ns : List (Option (List ℕ))) (new : List ℕ) (h : AreAmong at (o ∷ ws) (p ∷ ns) new) where
  next_at : (j : ℕ) → has_number new (at + suc j) ≡ has_number new (suc at + j)
  next_at j = let same : at + suc j ≡ suc at + j = omega arith in ap (has_number new) same

  among_later : AreAmong (suc at) ws ns new
  among_later j live = ap (λ t. is_some (slice_index_or ws j None) || t) (sym (next_at j)) ∙ h (suc j) live

  among_others : AreAmong (suc at) ws ns (but at new)
  among_others j live = elim (or_cases (is_some (slice_index_or ws j None)) (has_number new (at + suc j)) (h (suc j) live)) [
    | inl was ↦ or_left (is_some (slice_index_or ws j None)) _ was
    | inr own ↦ or_right (is_some (slice_index_or ws j None)) _ (in_but at (suc at + j) new (ne_eqb (suc at + j) at (λ same. absurd (omega (arith, same)))) (sym (next_at j) ∙ own))
  ]

  first_among : is_some p ≡ true → is_some o ≡ false → has_number new at ≡ true
  first_among live was = elim (or_cases (is_some o) (has_number new (at + 0)) (h 0 live)) [
    | inl before ↦ absurd (cc)
    | inr own ↦ let here : at ≡ at + 0 = omega arith in ap (has_number new) here ∙ own
  ]

-- so no more of them are taken than these are
counted : (at : ℕ) (ws ns : List (Option (List ℕ))) (new : List ℕ) → length ns ≡ length ws → AreAmong at ws ns new → count_by is_none ws ≤ count_by is_none ns + length new
counted at [] ns new e h = omega arith
counted at (o ∷ ws) [] new e h = absurd (omega arith)
counted at (Some x ∷ ws) (p ∷ ns) new e h =
    let rest = counted (suc at) ws ns new (omega (arith, e)) (among_later at (Some x) p ws ns new h) in
    let a = more_free (Some x) ws in
    let b = more_free p ns in
    omega (arith, rest, a, b)
counted at (None ∷ ws) (None ∷ ns) new e h =
    let rest = counted (suc at) ws ns new (omega (arith, e)) (among_later at None None ws ns new h) in
    let a = more_free None ws in
    let b = more_free None ns in
    omega (arith, rest, a, b)
counted at (None ∷ ws) (Some y ∷ ns) new e h =
    let rest = counted (suc at) ws ns (but at new) (omega (arith, e)) (among_others at None (Some y) ws ns new h) in
    let a = more_free None ws in
    let b = more_free (Some y) ns in
    let fewer = one_fewer (λ x. x == at) new (first_among at None (Some y) ws ns new h refl refl) in
    omega (arith, rest, a, b, fewer)

-- ---- pairs

-- ascending pairs that are all among others are no more than these
rising_among : (es ys : List (ℕ × ℕ)) → is_rising es ≡ true → ((a b : ℕ) → holds es a b ≡ true → holds ys a b ≡ true) → length es ≤ length ys
rising_among [] ys r h = omega arith
rising_among (e ∷ es) ys r h =
    let parts = and_parts (is_below_first e es) (is_rising es) r in
    let rest = rising_among es (without_pair e.0 e.1 ys) parts.1 (λ a b k. holds-filter (λ f. not (is_pair e.0 e.1 f)) ys a b ∙ and_from (holds ys a b) (not (is_pair e.0 e.1 (a, b)))
    (h a b (or_right (is_pair a b e) (holds es a b) k)) (ap not (false_from_ne_true (is_pair e.0 e.1 (a, b)) (λ same. once parts.0 parts.1 a b same k)))) in
    let fewer = one_fewer (is_pair e.0 e.1) ys (h e.0 e.1 (holds_first e es)) in
    omega (arith, rest, fewer)
  where
    once : is_below_first e es ≡ true → is_rising es ≡ true → (a b : ℕ) → is_pair e.0 e.1 (a, b) ≡ true → holds es a b ≡ true → ⊥
    once low rising a b same k = clash (holds es e.0 e.1) (ap (λ f. holds es f.0 f.1) (sym (is_pair_ext e.0 e.1 (a, b) same)) ∙ k) (first_once e es e.0 e.1 low rising (is_pair_same e))

-- ---- worlds

-- what is live and held was so, or is among these
pub takes_these : (w next : World) → IsValid w → IsValid next → next.geometry ≡ w.geometry → (new : List ℕ) (made : List (ℕ × ℕ))
    → ((b : ℕ) → is_live next b ≡ true → (is_live w b || has_number new b) ≡ true)
    → ((a b : ℕ) → holds next.pairs a b ≡ true → (holds w.pairs a b || holds made a b) ≡ true)
    → KeepsRoom (need (length new) (length made)) w next
takes_these w next valid after size new made lives held = record {
  blocks = counted 0 w.blocks next.blocks new (after.raw.sized.each_block ∙ (ap (λ g. g.blocks) size ∙ sym valid.raw.sized.each_block)) (λ j live. from_zero j (lives j live));
  pairs =
      let few = rising_among next.pairs (w.pairs ++ made) after.raw.rising (λ a b k. list_any-append (is_pair a b) w.pairs made ∙ held a b k) in
      let both = length-append w.pairs made in
      omega (arith, few, both);
}
  where
    from_zero : (j : ℕ) → (is_live w j || has_number new j) ≡ true → (is_live w j || has_number new (0 + j)) ≡ true
    from_zero j h = let same : 0 + j ≡ j = omega arith in ap (λ k. is_live w j || has_number new k) same ∙ h

pub takes_none : (w next : World) → IsValid w → IsValid next → next.geometry ≡ w.geometry → ((b : ℕ) → is_live next b ≡ true → is_live w b ≡ true)
    → ((a b : ℕ) → holds next.pairs a b ≡ true → holds w.pairs a b ≡ true) → KeepsRoom (need 0 0) w next
takes_none w next valid after size lives held = takes_these w next valid after size [] [] (λ b h. or_left (is_live w b) false (lives b h)) (λ a b h. or_left (holds w.pairs a b) false (held a b h))

-- and then nothing more
pub no_more_room : (n : RoomNeed) (w mid next : World) → KeepsRoom n w mid → KeepsRoom (need 0 0) mid next → KeepsRoom n w next
no_more_room n w mid next first second = record {
  blocks = let a = first.blocks in let b = second.blocks in omega (arith, a, b);
  pairs = let a = first.pairs in let b = second.pairs in omega (arith, a, b);
}

-- ---- steps

module _ (c : Client) (old new : DiskView) (now : IsValidNow old) (q : Request) (d : ℕ) where
  pub write_takes : (bytes : List ℕ) → is_live old.world d ≡ true → Went c old new q d (written old.world d bytes) → KeepsRoom (need 0 0) old.world new.world
  write_takes bytes live went = subst (KeepsRoom (need 0 0) old.world) (sym went.world) (takes_none old.world (written old.world d bytes) now.valid went.leads.valid went.leads.geometry was (λ a b h. h))
    where
      was : (b : ℕ) → is_live (written old.world d bytes) b ≡ true → is_live old.world b ≡ true
      was b h = elim (b == d) as (λ t. (b == d) ≡ t → is_live old.world b ≡ true) [
        | true ↦ λ e. subst (λ k. is_live old.world k ≡ true) (sym (eqb-true b d e)) live
        | false ↦ λ e. ap is_some (sym (written_elsewhere old.world d bytes b e)) ∙ h
      ] refl

  pub drop_takes : (b : ℕ) → Went c old new q d (dropped old.world d b) → KeepsRoom (need 0 0) old.world new.world
  drop_takes b went = subst (KeepsRoom (need 0 0) old.world) (sym went.world)
      (takes_none old.world (dropped old.world d b) now.valid went.leads.valid went.leads.geometry (fewer_live old.world d b) (fewer_pairs old.world d b))
