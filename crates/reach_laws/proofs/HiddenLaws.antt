-- Blocks that differ at most in hidden bytes.
use Rattle.std.proofs.Common.{◌≡◌, ℕ, Bool, true, false, not, cond, ◌&&◌, ◌==◌, List, [], ◌∷◌, length, refl, sym, ◌∙◌, ap, subst, inl, inr, arith, Option, Some, None}
use Rattle.reach_laws.proofs.Common.{cases_eq, cases_lt, ne_eqb, slice_index_or, slice_set, is_some, World, contents, restricted, with_contents, with_pointer, with_new_blocks, zeros, AreLike}
use Rattle.std.proofs.lemmas.List.{get_or-set_same, get_or-set_other, get_or_past, length-set}
use Rattle.std.proofs.lemmas.List.FromFn.{length-map-range_with_len}
use Rattle.tsd_model.proofs.SizeLaws.{contents-restricted}

abbrev pub Blocks : Type 0
Blocks = List (Option (List ℕ))

-- the world with these blocks
abbrev pub with_blocks : World → Blocks → World
with_blocks w bs = record w { blocks = bs }

-- Blocks that differ at most in the bytes of hidden ones.
pub record SameBut (hidden : ℕ → Bool) (xs ys : Blocks) : Type 0 where
  pub size : length ys ≡ length xs
  pub live : (b : ℕ) → is_some (slice_index_or ys b None) ≡ is_some (slice_index_or xs b None)
  pub bytes : (b : ℕ) → hidden b ≡ false → slice_index_or ys b None ≡ slice_index_or xs b None

pub same_like : (hidden : ℕ → Bool) (w : World) (bs : Blocks) → SameBut hidden w.blocks bs → AreLike (with_blocks w bs) w
same_like hidden w bs same = record { geometry = refl; version = refl; count = same.size; live = same.live; pairs = refl; records = refl }

-- a world that is like another is that world with other blocks
pub like_form : (v w : World) → AreLike v w → v ≡ with_blocks w v.blocks
like_form v w like = λ i. record { geometry = like.geometry i; version = like.version i; blocks = v.blocks; pairs = like.pairs i; records = like.records i }

pub form_like : (hidden : ℕ → Bool) (v w : World) → v ≡ with_blocks w v.blocks → SameBut hidden w.blocks v.blocks → AreLike v w
form_like hidden v w form same = record {
  geometry = ap (λ x. x.geometry) form;
  version = ap (λ x. x.version) form;
  count = same.size;
  live = same.live;
  pairs = ap (λ x. x.pairs) form;
  records = ap (λ x. x.records) form;
}

-- ---- changes of the blocks

pub same-restricted : (hidden : ℕ → Bool) (w : World) (bs : Blocks) → SameBut hidden w.blocks bs → (keep : ℕ → Bool) → SameBut hidden (restricted w keep).blocks (restricted (with_blocks w bs) keep).blocks
same-restricted hidden w bs same keep = record {
  size = length-map-range_with_len (λ b. cond (keep b) (contents (with_blocks w bs) b) None) 0 (length bs) ∙ (same.size ∙ sym (length-map-range_with_len (λ b. cond (keep b) (contents w b) None) 0 (length w.blocks)));
  live = λ b. ap is_some (contents-restricted (with_blocks w bs) keep b) ∙ (kept_live (keep b) (contents w b) (slice_index_or bs b None) (same.live b) ∙ sym (ap is_some (contents-restricted w keep b)));
  bytes = λ b h. contents-restricted (with_blocks w bs) keep b ∙ (ap (λ x. cond (keep b) x None) (same.bytes b h) ∙ sym (contents-restricted w keep b));
}
  where
    kept_live : (t : Bool) (x y : Option (List ℕ)) → is_some y ≡ is_some x → is_some (cond t y None) ≡ is_some (cond t x None)
    kept_live true x y h = h
    kept_live false x y h = refl

-- a block that gets the same contents in both isn't hidden any more
pub same-set : (hidden : ℕ → Bool) (xs ys : Blocks) (i : ℕ) (x : Option (List ℕ)) → SameBut hidden xs ys → SameBut (λ b. hidden b && not (i == b)) (slice_set xs i x) (slice_set ys i x)
same-set hidden xs ys i x same = record {
  size = length-set ys i x ∙ (same.size ∙ sym (length-set xs i x));
  live = λ b. elim (cases_eq b i) [
    | inl here ↦ ap is_some (at b here)
    | inr other ↦ ap is_some (get_or-set_other ys i b x None other) ∙ (same.live b ∙ sym (ap is_some (get_or-set_other xs i b x None other)))
  ];
  bytes = λ b h. elim (cases_eq b i) [
    | inl here ↦ at b here
    | inr other ↦ get_or-set_other ys i b x None other ∙ (same.bytes b (still (hidden b) (i == b) (ne_eqb i b (λ e. other (sym e))) h) ∙ sym (get_or-set_other xs i b x None other))
  ];
}
  where
    at : (b : ℕ) → b ≡ i → slice_index_or (slice_set ys i x) b None ≡ slice_index_or (slice_set xs i x) b None
    at b here = elim (cases_lt i (length xs)) [
      | inl within ↦ subst (λ k. slice_index_or (slice_set ys i x) k None ≡ slice_index_or (slice_set xs i x) k None) (sym here)
          (get_or-set_same ys i x None (omega (arith, within, same.size)) ∙ sym (get_or-set_same xs i x None within))
      | inr past ↦ get_or_past (slice_set ys i x) b None (omega (arith, past, here, same.size, length-set ys i x)) ∙ sym (get_or_past (slice_set xs i x) b None (omega (arith, past, here, length-set xs i x)))
    ]

    still : (h t : Bool) → t ≡ false → (h && not t) ≡ false → h ≡ false
    still true true e g = absurd (cc)
    still true false e g = absurd (cc)
    still false t e g = refl

-- fewer bytes are known to be the same where more is hidden
pub same-more : (hidden more : ℕ → Bool) (xs ys : Blocks) → ((b : ℕ) → more b ≡ false → hidden b ≡ false) → SameBut hidden xs ys → SameBut more xs ys
same-more hidden more xs ys f same = record { size = same.size; live = same.live; bytes = λ b h. same.bytes b (f b h) }

and_left : (h t : Bool) → h ≡ false → (h && t) ≡ false
and_left h t e = ap (λ x. x && t) e

pub same-new_blocks : (hidden : ℕ → Bool) (a : ℕ) (bs : List ℕ) (w : World) (cs : Blocks) → SameBut hidden w.blocks cs → SameBut hidden (with_new_blocks w a bs).blocks (with_new_blocks (with_blocks w cs) a bs).blocks
same-new_blocks hidden a [] w cs same = same
same-new_blocks hidden a (b ∷ bs) w cs same =
    same-new_blocks hidden a bs (with_pointer (with_contents w b (zeros w)) a b) (slice_set cs b (Some (zeros w)))
    (same-more (λ c. hidden c && not (b == c)) hidden (slice_set w.blocks b (Some (zeros w))) (slice_set cs b (Some (zeros w))) (λ c h. and_left (hidden c) (not (b == c)) h) (same-set hidden w.blocks cs b (Some (zeros w)) same))

pub rest-new_blocks : (a : ℕ) (bs : List ℕ) (w : World) (cs : Blocks) → with_new_blocks (with_blocks w cs) a bs ≡ with_blocks (with_new_blocks w a bs) (with_new_blocks (with_blocks w cs) a bs).blocks
rest-new_blocks a [] w cs = refl
rest-new_blocks a (b ∷ bs) w cs = rest-new_blocks a bs (with_pointer (with_contents w b (zeros w)) a b) (slice_set cs b (Some (zeros w)))
