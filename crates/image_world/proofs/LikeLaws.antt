-- What is left of a world whose blocks get other bytes.
use Rattle.std.proofs.Common.{◌≡◌, ℕ, ◌<◌, true, false, inl, inr, cond, List, length, refl, sym, ◌∙◌, ap}
use Rattle.image_world.proofs.Common.{is_some, cases_lt, and_parts, World, is_live, has_number, reach, swept, settle, with_contents, AreLike, live_below, live-restricted, settled_live, settle-with_contents, swept-with_contents, Tables, world_with, left_of}
use Rattle.disk_laws.proofs.LikeLaws.{settle_like, swept_like}
use Rattle.image_world.proofs.RawLaws.{live_with, contents_past, blocks_with}

pub left_like : (t : Tables) (v w : World) → AreLike v w → AreLike (left_of t v) (left_of t w)
unfolding left_of
left_like t v w like = elim t.is_sweeping as (λ s. AreLike (cond s (swept v) (settle v)) (cond s (swept w) (settle w))) [ true ↦ swept_like v w like | false ↦ settle_like v w like ]

-- ---- the same tables with other bytes
pub tables_like : (t : Tables) (c d : ℕ → List ℕ) → AreLike (world_with t c) (world_with t d)
unfolding world_with
tables_like t c d = record {
  geometry = refl;
  version = refl;
  count = blocks_with t c ∙ sym (blocks_with t d);
  live = λ b. elim (cases_lt b t.geometry.blocks) [
    | inl h ↦ live_with t c b h ∙ sym (live_with t d b h)
    | inr h ↦ ap is_some (contents_past t c b h) ∙ sym (ap is_some (contents_past t d b h))
  ];
  pairs = refl;
  records = refl;
}

-- ---- a block gets bytes
pub live_inside : (w : World) (b : ℕ) → is_live w b ≡ true → b < length w.blocks
live_inside w b live = live_below w.blocks b live

pub left_contents : (t : Tables) (w : World) (b : ℕ) (bytes : List ℕ) → is_live (left_of t w) b ≡ true → left_of t (with_contents w b bytes) ≡ with_contents (left_of t w) b bytes
unfolding left_of
left_contents t w b bytes = elim t.is_sweeping as (λ s. is_live (cond s (swept w) (settle w)) b ≡ true → cond s (swept (with_contents w b bytes)) (settle (with_contents w b bytes)) ≡ with_contents (cond s (swept w) (settle w)) b bytes) [
  | true ↦ swept-with_contents w b bytes
  | false ↦ settle-with_contents w b bytes
]

-- what is left is live
pub left_live : (t : Tables) (w : World) (b : ℕ) → is_live (left_of t w) b ≡ true → is_live w b ≡ true
unfolding left_of
left_live t w b = elim t.is_sweeping as (λ s. is_live (cond s (swept w) (settle w)) b ≡ true → is_live w b ≡ true) [
  | true ↦ λ live. (and_parts (has_number (reach w) b) (is_live w b) (sym (live-restricted w (has_number (reach w)) b) ∙ live)).1
  | false ↦ λ live. (settled_live w b live).1
]
