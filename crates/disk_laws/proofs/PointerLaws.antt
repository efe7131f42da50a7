-- Which pointers and which records a request changes.
use Rattle.std.proofs.Common.{◌≡◌, ℕ, zero, suc, Bool, true, false, not, ◌&&◌, ◌||◌, ◌==◌, nat_lt, List, [], ◌∷◌, ◌⊎◌, length, refl, sym, ◌∙◌, ap, subst, inl, inr, Option, Some, None}
use Rattle.disk_laws.proofs.Common.{and_parts, and_from, eq-eqb, eqb-true, slice_get, slice_set, is_some, is_none, is_pair, holds, World, contents, is_live, is_free, has_number, kept, restricted, reach, doomed, chosen, chosen_run, Sessions, change, with_contents, with_pointer, without_pointer, with_new_blocks, zeros, run_at, is_set_cap_of, Record, PlaceKind, Request, holds-with_pair, holds-filter}
use Rattle.tsd_model.specs.declared.requests.Request.TheVariants as ask
use Rattle.disk_laws.specs.Changes.{has_source, is_create_of}
use Rattle.disk_laws.proofs.DoomLaws.{holds-restricted, live-restricted}
use Rattle.disk_laws.proofs.ChangeLaws.{AllOf, either_pair, held_before, chosen_are_free, chosen_run_is_free}
use Rattle.tsd_model.proofs.ValueLaws.{and_true, clash}

-- ---- the pointers out of a block

no_pair : (a b c d : ℕ) → (a == c) ≡ false → is_pair c d (a, b) ≡ false
no_pair a b c d h = ap (λ t. t && (b == d)) h

pairs-new_blocks : (a : ℕ) (bs : List ℕ) (w : World) (c d : ℕ) → (a == c) ≡ false → holds (with_new_blocks w a bs).pairs c d ≡ holds w.pairs c d
pairs-new_blocks a [] w c d h = refl
pairs-new_blocks a (b ∷ bs) w c d h = pairs-new_blocks a bs (with_pointer (with_contents w b (zeros w)) a b) c d h
    ∙ (holds-with_pair (a, b) w.pairs c d ∙ ap (λ t. t || holds w.pairs c d) (no_pair a b c d h))

-- a block that passes keeps its pairs
pairs-kept : (w : World) (keep : ℕ → Bool) (c d : ℕ) → is_live (restricted w keep) c ≡ true → holds (restricted w keep).pairs c d ≡ holds w.pairs c d
pairs-kept w keep c d live = holds-restricted w keep c d ∙ stays (keep c) (is_live w c) (holds w.pairs c d) (sym (live-restricted w keep c) ∙ live)
  where
    stays : (k l h : Bool) → (k && l) ≡ true → (h && k) ≡ h
    stays true l true p = refl
    stays true l false p = refl
    stays false l h p = absurd (cc)

pairs-without : (w : World) (a b c d : ℕ) → (a == c) ≡ false → holds (without_pointer w a b).pairs c d ≡ holds w.pairs c d
pairs-without w a b c d h = holds-filter (λ e. not (is_pair a b e)) w.pairs c d ∙ (ap (λ t. holds w.pairs c d && not (t && (d == b))) apart ∙ and_true (holds w.pairs c d))
  where
    apart : (c == a) ≡ false
    apart = elim (c == a) as (λ t. (c == a) ≡ t → t ≡ false) [
      | true ↦ λ e. absurd (clash (a == c) (eq-eqb a c (sym (eqb-true c a e))) h)
      | false ↦ λ _. refl
    ] refl

-- where the block is live afterwards and isn't the source
pub pairs-change : (kind : PlaceKind) (w : World) (u : Sessions) (q : Request) (c d : ℕ) → is_live (change kind w u q).state.world c ≡ true → has_source q c ≡ false → holds (change kind w u q).state.world.pairs c d ≡ holds w.pairs c d
pairs-change kind w u (ask.Alloc s a shown hint count) c d live h = pairs-new_blocks a (chosen kind w hint count) w c d h
pairs-change kind w u (ask.Contig s a shown hint count) c d live h = pairs-new_blocks a (run_at (chosen_run kind w hint count) count) w c d h
pairs-change kind w u (ask.Create s a shown b) c d live h = holds-with_pair (a, b) w.pairs c d ∙ ap (λ t. t || holds w.pairs c d) (no_pair a b c d h)
pairs-change kind w u (ask.Delete s a shown b) c d live h = pairs-kept (without_pointer w a b) (λ x. not (has_number (doomed (without_pointer w a b)) x)) c d live ∙ pairs-without w a b c d h
pairs-change kind w u (ask.Sweep s shown) c d live h = pairs-kept w (has_number (reach w)) c d live
pairs-change kind w u q c d live h = refl

-- ---- new pointers

pair_of_new : (P : ℕ → Type 0) (a : ℕ) (bs : List ℕ) (w : World) (c d : ℕ) → AllOf P bs → holds (with_new_blocks w a bs).pairs c d ≡ true → (holds w.pairs c d ≡ true) ⊎ P d
pair_of_new P a [] w c d all h = inl h
pair_of_new P a (b ∷ bs) w c d all h = elim (pair_of_new P a bs (with_pointer (with_contents w b (zeros w)) a b) c d all.1 h) [
  | inr new ↦ inr new
  | inl held ↦ elim (either_pair (with_contents w b (zeros w)) a b c d held) [
    | inl here ↦ inr (subst P here.1 all.0)
    | inr old ↦ inl old
  ]
]

free_not_live : (w : World) (b : ℕ) → is_free w b ≡ true → is_live w b ≡ false
free_not_live w b h = go (contents w b) (and_parts (nat_lt b (length w.blocks)) (is_none (contents w b)) h).1
  where
    go : (x : Option (List ℕ)) → is_none x ≡ true → is_some x ≡ false
    go None g = refl
    go (Some x) g = absurd (cc)

-- the pair was held, or its target wasn't live, or the request adds it
abbrev pub Came : World → Request → ℕ → ℕ → Type 0
Came w q a b = (holds w.pairs a b ≡ true) ⊎ ((is_live w b ≡ false) ⊎ (is_create_of q a b ≡ true))

by_new : (w : World) (q : Request) (a b : ℕ) → ((holds w.pairs a b ≡ true) ⊎ (is_free w b ≡ true)) → Came w q a b
by_new w q a b (inl old) = inl old
by_new w q a b (inr free) = inr (inl (free_not_live w b free))

pub came : (kind : PlaceKind) (w : World) (u : Sessions) (q : Request) (a b : ℕ) → holds (change kind w u q).state.world.pairs a b ≡ true → Came w q a b
came kind w u (ask.Alloc s x shown h count) a b g = by_new w (ask.Alloc s x shown h count) a b (pair_of_new (λ c. is_free w c ≡ true) x (chosen kind w h count) w a b (chosen_are_free kind w h count) g)
came kind w u (ask.Contig s x shown h count) a b g = by_new w (ask.Contig s x shown h count) a b (pair_of_new (λ c. is_free w c ≡ true) x (run_at (chosen_run kind w h count) count) w a b (chosen_run_is_free kind w h count) g)
came kind w u (ask.Create s x shown y) a b g = elim (either_pair w x y a b g) [
  | inl here ↦ inr (inr (and_from (x == a) (y == b) (eq-eqb x a here.0) (eq-eqb y b here.1)))
  | inr old ↦ inl old
]
came kind w u (ask.Delete s x shown y) a b g = inl (held_before w x y a b (and_parts (holds (without_pointer w x y).pairs a b) (not (has_number (doomed (without_pointer w x y)) a)) (sym (holds-restricted (without_pointer w x y) (λ c. not (has_number (doomed (without_pointer w x y)) c)) a b) ∙ g)).0)
came kind w u (ask.Sweep s shown) a b g = inl (and_parts (holds w.pairs a b) (has_number (reach w) a) (sym (holds-restricted w (has_number (reach w)) a b) ∙ g)).0
came kind w u q a b g = inl g

-- ---- records

get-set_other : (rs : List Record) (i j : ℕ) (r : Record) → (i ≡ j → ⊥) → slice_get (slice_set rs i r) j ≡ slice_get rs j
get-set_other [] i j r h = refl
get-set_other (x ∷ rs) zero zero r h = absurd (h refl)
get-set_other (x ∷ rs) zero (suc j) r h = refl
get-set_other (x ∷ rs) (suc i) zero r h = refl
get-set_other (x ∷ rs) (suc i) (suc j) r h = get-set_other rs i j r (λ e. h (ap (λ k. suc k) e))

records-new_blocks : (a : ℕ) (bs : List ℕ) (w : World) → (with_new_blocks w a bs).records ≡ w.records
records-new_blocks a [] w = refl
records-new_blocks a (b ∷ bs) w = records-new_blocks a bs (with_pointer (with_contents w b (zeros w)) a b)

pub records-change : (kind : PlaceKind) (w : World) (u : Sessions) (q : Request) (o : ℕ) → is_set_cap_of q o ≡ false → slice_get (change kind w u q).state.world.records o ≡ slice_get w.records o
records-change kind w u (ask.Alloc s a shown hint count) o h = ap (λ rs. slice_get rs o) (records-new_blocks a (chosen kind w hint count) w)
records-change kind w u (ask.Contig s a shown hint count) o h = ap (λ rs. slice_get rs o) (records-new_blocks a (run_at (chosen_run kind w hint count) count) w)
records-change kind w u (ask.SetCap s b shown caps) o h = get-set_other w.records b o (kept w.version caps) (λ e. clash (b == o) (eq-eqb b o e) h)
records-change kind w u q o h = refl
