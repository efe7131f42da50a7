-- Steps of reclamation keep what a raw world settles to.
use Rattle.std.proofs.Common.{◌≡◌, ℕ, zero, suc, ◌≤◌, Bool, true, false, not, ◌&&◌, ◌||◌, ◌==◌, ◌⊎◌, inl, inr, List, [], ◌∷◌, length, refl, sym, ◌∙◌, ap, subst, arith}
use Rattle.graph_laws.proofs.Common.{nat_tests, slice_index_or, ltb-false, eq-eqb, eqb-true, and_parts, not-true, not-false, both_ways, false_from_ne_true, or_left, is_pair, holds, World, is_live, is_primary, has_number, all_blocks, is_led_only_from, hangs_on, doomed_round, doomed_rounds, doomed, settle, without_pointer, IsRaw, Geometry, has_number-filter, holds-filter, raw-without_pointer, IsLaidOut, IsRawGraph, without_pointers, stepped, IsStep, IsLost, IsAlone}
use Rattle.std.specs.Prelude.{is_some, None}
use Rattle.graph_laws.proofs.DoomedLaws.{led_by}
use Rattle.graph_laws.proofs.RawGraphLaws.{laid_out-with_pairs_that, graph-with_pairs_that, graph-with_free, raw-with_free}
use Rattle.graph_laws.proofs.SettleLaws.{same_doomed, settle-with_pairs_that, lost_is_doomed, settle-with_free}

-- a pair less
pub laid_out-without_pointer : (r : World) (a b : ℕ) → IsLaidOut r → IsLaidOut (without_pointer r a b)
laid_out-without_pointer r a b out = laid_out-with_pairs_that r (λ e. not (is_pair a b e)) out

-- ---- one pointer of a doomed block

module _ (r : World) (out : IsLaidOut r) (a b : ℕ) (is : has_number (doomed r) a ≡ true) where
  gone : (x y : ℕ) → holds r.pairs x y ≡ true → not (is_pair a b (x, y)) ≡ false → has_number (doomed r) x ≡ true
  gone x y held taken = subst (λ k. has_number (doomed r) k ≡ true) (sym (eqb-true x a (and_parts (x == a) (y == b) (not-false (is_pair a b (x, y)) taken)).0)) is

  pub doomed-without_pointer : (c : ℕ) → has_number (doomed (without_pointer r a b)) c ≡ has_number (doomed r) c
  doomed-without_pointer = same_doomed r out (λ e. not (is_pair a b e)) gone

  pub settle_keeps_pointer : settle (without_pointer r a b) ≡ settle r
  settle_keeps_pointer = settle-with_pairs_that r out (λ e. not (is_pair a b e)) gone

-- ---- many

pub laid_out-without_pointers : (a : ℕ) (bs : List ℕ) (r : World) → IsLaidOut r → IsLaidOut (without_pointers r a bs)
laid_out-without_pointers a [] r out = out
laid_out-without_pointers a (b ∷ bs) r out = laid_out-without_pointers a bs (without_pointer r a b) (laid_out-without_pointer r a b out)

pub graph-without_pointer : (r : World) (a b : ℕ) → IsRawGraph r → IsRawGraph (without_pointer r a b)
graph-without_pointer r a b raw = graph-with_pairs_that r (λ e. not (is_pair a b e)) raw

pub graph-without_pointers : (a : ℕ) (bs : List ℕ) (r : World) → IsRawGraph r → IsRawGraph (without_pointers r a bs)
graph-without_pointers a [] r raw = raw
graph-without_pointers a (b ∷ bs) r raw = graph-without_pointers a bs (without_pointer r a b) (graph-without_pointer r a b raw)

pub raw-without_pointers : (a : ℕ) (bs : List ℕ) (r : World) → IsRaw r → IsRaw (without_pointers r a bs)
raw-without_pointers a [] r raw = raw
raw-without_pointers a (b ∷ bs) r raw = raw-without_pointers a bs (without_pointer r a b) (raw-without_pointer r a b raw)

pub blocks-without_pointers : (a : ℕ) (bs : List ℕ) (r : World) → (without_pointers r a bs).blocks ≡ r.blocks
blocks-without_pointers a [] r = refl
blocks-without_pointers a (b ∷ bs) r = blocks-without_pointers a bs (without_pointer r a b)

pub geometry-without_pointers : (a : ℕ) (bs : List ℕ) (r : World) → (without_pointers r a bs).geometry ≡ r.geometry
geometry-without_pointers a [] r = refl
geometry-without_pointers a (b ∷ bs) r = geometry-without_pointers a bs (without_pointer r a b)

pub holds-without_pointers : (a : ℕ) (bs : List ℕ) (r : World) (x y : ℕ) → holds (without_pointers r a bs).pairs x y ≡ (holds r.pairs x y && not ((x == a) && has_number bs y))
holds-without_pointers a [] r x y = sym (none (holds r.pairs x y) (x == a))
  where
    none : (h s : Bool) → (h && not (s && false)) ≡ h
    none true true = refl
    none true false = refl
    none false s = refl
holds-without_pointers a (b ∷ bs) r x y =
    holds-without_pointers a bs (without_pointer r a b) x y
    ∙ (ap (λ h. h && not ((x == a) && has_number bs y)) (holds-filter (λ e. not (is_pair a b e)) r.pairs x y)
    ∙ (more (holds r.pairs x y) (x == a) (y == b) (has_number bs y) ∙ ap (λ s. holds r.pairs x y && not ((x == a) && (s || has_number bs y))) (eqb_sym y b)))
  where
    more : (h s t m : Bool) → ((h && not (s && t)) && not (s && m)) ≡ (h && not (s && (t || m)))
    more false s t m = refl
    more true true true m = refl
    more true true false m = refl
    more true false t m = refl

    eqb_sym : (m n : ℕ) → (m == n) ≡ (n == m)
    eqb_sym m n = grind (arith, nat_tests)

pub doomed-without_pointers : (a : ℕ) (bs : List ℕ) (r : World) → IsLaidOut r → has_number (doomed r) a ≡ true → (c : ℕ) → has_number (doomed (without_pointers r a bs)) c ≡ has_number (doomed r) c
doomed-without_pointers a [] r out is c = refl
doomed-without_pointers a (b ∷ bs) r out is c =
    doomed-without_pointers a bs (without_pointer r a b) (laid_out-without_pointer r a b out) (doomed-without_pointer r out a b is a ∙ is) c
    ∙ doomed-without_pointer r out a b is c

pub settle-without_pointers : (a : ℕ) (bs : List ℕ) (r : World) → IsLaidOut r → has_number (doomed r) a ≡ true → settle (without_pointers r a bs) ≡ settle r
settle-without_pointers a [] r out is = refl
settle-without_pointers a (b ∷ bs) r out is =
    settle-without_pointers a bs (without_pointer r a b) (laid_out-without_pointer r a b out) (doomed-without_pointer r out a b is a ∙ is)
    ∙ settle_keeps_pointer r out a b is

-- a lost block stays lost
pub lost-without_pointers : (a : ℕ) (bs : List ℕ) (r : World) (c : ℕ) → IsLost r c → IsLost (without_pointers r a bs) c
lost-without_pointers a bs r c lost = record {
  live = ap (λ blocks. is_some (slice_index_or blocks c None)) (blocks-without_pointers a bs r) ∙ lost.live;
  apart = subst (λ (g : Geometry). g.primaries ≤ c) (sym (geometry-without_pointers a bs r)) lost.apart;
  alone = λ x. holds-without_pointers a bs r x c ∙ ap (λ h. h && not ((x == a) && has_number bs c)) (lost.alone x);
}

-- a block that loses the pairs to all its targets has none
pub nothing_out : (r : World) (a : ℕ) (bs : List ℕ) → ((b : ℕ) → holds r.pairs a b ≡ true → has_number bs b ≡ true) → (b : ℕ) → holds (without_pointers r a bs).pairs a b ≡ false
nothing_out r a bs all b = holds-without_pointers a bs r a b ∙ (ap (λ s. holds r.pairs a b && not (s && has_number bs b)) (eq-eqb a a refl) ∙ each (holds r.pairs a b) (has_number bs b) (all b))
  where
    each : (h m : Bool) → (h ≡ true → m ≡ true) → (h && not m) ≡ false
    each true m f = ap not (f refl)
    each false m f = refl

-- ---- a step

-- a lost block that loses the pairs to all its targets is alone then
pub alone_then : (r : World) (a : ℕ) (bs : List ℕ) → IsLost r a → ((b : ℕ) → holds r.pairs a b ≡ true → has_number bs b ≡ true) → IsAlone (without_pointers r a bs) a
alone_then r a bs lost all = record { out = nothing_out r a bs all; into = (lost-without_pointers a bs r a lost).alone }

-- A step at a lost block keeps what the world settles to.
pub settle-stepped : (r : World) (a : ℕ) (bs : List ℕ) (freed : Bool) → IsLaidOut r → IsLost r a → IsStep r a bs freed → settle (stepped r a bs freed) ≡ settle r
settle-stepped r a bs true out lost step =
    let is = lost_is_doomed r out.each_block a lost in
    settle-with_free (without_pointers r a bs) (laid_out-without_pointers a bs r out) a (doomed-without_pointers a bs r out is a ∙ is) (step.last refl).out
    ∙ settle-without_pointers a bs r out is
settle-stepped r a bs false out lost step = settle-without_pointers a bs r out (lost_is_doomed r out.each_block a lost)

-- ---- a step leaves a raw world

apart_then : (r : World) (a : ℕ) (bs : List ℕ) → r.geometry.primaries ≤ a → (without_pointers r a bs).geometry.primaries ≤ a
apart_then r a bs apart = subst (λ (g : Geometry). g.primaries ≤ a) (sym (geometry-without_pointers a bs r)) apart

pub raw-stepped : (r : World) (a : ℕ) (bs : List ℕ) (freed : Bool) → r.geometry.primaries ≤ a → IsStep r a bs freed → IsRaw r → IsRaw (stepped r a bs freed)
raw-stepped r a bs true apart step raw = raw-with_free (without_pointers r a bs) a (apart_then r a bs apart) (step.last refl) (raw-without_pointers a bs r raw)
raw-stepped r a bs false apart step raw = raw-without_pointers a bs r raw

pub graph-stepped : (r : World) (a : ℕ) (bs : List ℕ) (freed : Bool) → r.geometry.primaries ≤ a → IsStep r a bs freed → IsRawGraph r → IsRawGraph (stepped r a bs freed)
graph-stepped r a bs true apart step raw = graph-with_free (without_pointers r a bs) a (apart_then r a bs apart) (step.last refl) (graph-without_pointers a bs r raw)
graph-stepped r a bs false apart step raw = graph-without_pointers a bs r raw

-- ---- no step

-- a block of the first round is lost
lost_of : (w : World) (b : ℕ) → has_number (doomed_round w []) b ≡ true → IsLost w b
lost_of w b h =
    let hangs = (and_parts (has_number (all_blocks w) b) (hangs_on w [] b) (sym (has_number-filter (hangs_on w []) (all_blocks w) b) ∙ h)).1 in
    let parts = and_parts (is_live w b && not (is_primary w b)) (is_led_only_from w [] b) hangs in
    let here = and_parts (is_live w b) (not (is_primary w b)) parts.0 in record {
      live = here.0;
      apart = ltb-false b w.geometry.primaries (not-true (is_primary w b) here.1);
      alone = λ a. false_from_ne_true (holds w.pairs a b) (λ held. let never = led_by w [] a b parts.1 held in absurd (cc));
    }

-- either nothing is doomed, or some block is lost
none_or_lost : (w : World) → (doomed w ≡ []) ⊎ ((b : ℕ) × IsLost w b)
none_or_lost w = elim (doomed_round w []) as (λ xs. doomed_round w [] ≡ xs → (doomed w ≡ []) ⊎ ((b : ℕ) × IsLost w b)) [
  | [] ↦ λ none. inl (none_in none w.geometry.blocks)
  | (x ∷ xs) ↦ λ e. inr (x, lost_of w x (ap (λ ys. has_number ys x) e ∙ or_left (x == x) (has_number xs x) (eq-eqb x x refl)))
] refl
  where
    none_in : doomed_round w [] ≡ [] → (n : ℕ) → doomed_rounds w n ≡ []
    none_in none zero = refl
    none_in none (suc n) = ap (doomed_round w) (none_in none n) ∙ none

-- where something is doomed, some block is lost
pub some_lost : (w : World) → (doomed w ≡ [] → ⊥) → (b : ℕ) × IsLost w b
some_lost w some = elim (none_or_lost w) [ inl none ↦ absurd (some none) | inr lost ↦ lost ]

-- where no block is lost, nothing is doomed
pub none_lost : (w : World) → ((b : ℕ) → IsLost w b → ⊥) → doomed w ≡ []
none_lost w none = elim (none_or_lost w) [ inl nothing ↦ nothing | inr lost ↦ absurd (none lost.0 lost.1) ]

pub lost_none : (w : World) → length w.blocks ≡ w.geometry.blocks → doomed w ≡ [] → (b : ℕ) → IsLost w b → ⊥
lost_none w long none b lost = both_ways (has_number (doomed w) b) (ap (λ xs. has_number xs b) none) (lost_is_doomed w long b lost)
