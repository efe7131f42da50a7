-- What depends on the graph of a world alone.
use Rattle.std.proofs.Common.{◌≡◌, ℕ, zero, suc, ◌<◌, ◌≤◌, Bool, true, false, not, ◌&&◌, ◌||◌, ◌==◌, nat_lt, List, [], ◌∷◌, length, refl, sym, ◌∙◌, ap, subst, inl, inr, Option, None}
use Rattle.graph_laws.proofs.Common.{cases_eq, eq-eqb, ne_eqb, and_right, get_or-set_other, length-set, filter, slice_index_or, slice_set, range_with_len, list_all, list_any, holds, is_rising, without_pair, IsLawful, World, free_count, is_live, primary_blocks, has_number, reach_rounds, reach, restricted, swept, doomed_rounds, doomed, settle, with_contents, without_pointer, Geometry, Record, live-restricted, stays, kept_count, doomed_pairs, HasGraphOf, AreAsOne, StayAsOne, IsLaidOut, IsRawGraph, with_free, without_pointers, stepped, IsStep, IsLost}
use Rattle.std.specs.Prelude.{is_some}
use Rattle.disk_laws.specs.Bytes.{AreLike}
use Rattle.disk_laws.proofs.ByteLaws.{contents_like, free_count_like}
use Rattle.graph_laws.proofs.SameLaws.{length-restricted}
use Rattle.tsd_model.proofs.ValueLaws.{and_true}

-- ---- rounds

doomed_rounds_same : (v w : World) → HasGraphOf v w → (r : ℕ) → doomed_rounds v r ≡ doomed_rounds w r
doomed_rounds_same v w same zero = refl
doomed_rounds_same v w same (suc r) =
    let rest = doomed_rounds_same v w same r in
    λ i. filter (λ b. (same.live b i && not (nat_lt b (same.geometry i).primaries)) && list_all (λ (e : ℕ × ℕ). not (e.1 == b) || has_number (rest i) e.0) (same.pairs i)) (range_with_len 0 (same.each_block i))

pub doomed_by_graph : (v w : World) → HasGraphOf v w → doomed v ≡ doomed w
doomed_by_graph v w same = ap (λ (g : Geometry). doomed_rounds v g.blocks) same.geometry ∙ doomed_rounds_same v w same w.geometry.blocks

reach_rounds_same : (v w : World) → HasGraphOf v w → (start : List ℕ) (r : ℕ) → reach_rounds v start r ≡ reach_rounds w start r
reach_rounds_same v w same start zero = refl
reach_rounds_same v w same start (suc r) =
    let rest = reach_rounds_same v w same start r in
    λ i. filter (λ b. has_number (rest i) b || list_any (λ (e : ℕ × ℕ). (e.1 == b) && has_number (rest i) e.0) (same.pairs i)) (range_with_len 0 (same.each_block i))

pub reach_by_graph : (v w : World) → HasGraphOf v w → reach v ≡ reach w
reach_by_graph v w same =
    (λ i. reach_rounds v (range_with_len 0 (same.geometry i).primaries) (same.geometry i).blocks) ∙ reach_rounds_same v w same (primary_blocks w) w.geometry.blocks

-- ---- what is told by them

pub doomed_pairs_by_graph : (v w : World) → HasGraphOf v w → doomed_pairs v ≡ doomed_pairs w
doomed_pairs_by_graph v w same = λ i. filter (λ (e : ℕ × ℕ). has_number (doomed_by_graph v w same i) e.0) (same.pairs i)

pub kept_by_graph : (v w : World) → HasGraphOf v w → (b : ℕ) → kept_count v b ≡ kept_count w b
kept_by_graph v w same b = λ i. length (filter (λ (e : ℕ × ℕ). (e.1 == b) && not (has_number (doomed_by_graph v w same i) e.0)) (same.pairs i))

pub lost_by_graph : (v w : World) → HasGraphOf v w → (b : ℕ) → IsLost v b → IsLost w b
lost_by_graph v w same b lost = record {
  live = sym (same.live b) ∙ lost.live;
  apart = subst (λ (g : Geometry). g.primaries ≤ b) same.geometry lost.apart;
  alone = λ a. ap (λ es. holds es a b) (sym same.pairs) ∙ lost.alone a;
}

less_by_graph : (a : ℕ) (bs : List ℕ) (v w : World) → HasGraphOf v w → HasGraphOf (without_pointers v a bs) (without_pointers w a bs)
less_by_graph a [] v w same = same
less_by_graph a (b ∷ bs) v w same = less_by_graph a bs (without_pointer v a b) (without_pointer w a b)
    (record { geometry = same.geometry; each_block = same.each_block; live = same.live; pairs = λ i. without_pair a b (same.pairs i) })

pub step_by_graph : (v w : World) → HasGraphOf v w → (a : ℕ) (bs : List ℕ) (freed : Bool) → IsStep v a bs freed → IsStep w a bs freed
step_by_graph v w same a bs freed step = let less = less_by_graph a bs v w same in record {
  taken = record { held = λ b is. subst (λ es. holds es a b ≡ true) same.pairs (step.taken.held b is); once = step.taken.once };
  last = λ f. let alone = step.last f in record { out = λ c. ap (λ es. holds es a c) (sym less.pairs) ∙ alone.out c; into = λ c. ap (λ es. holds es c a) (sym less.pairs) ∙ alone.into c };
}

pub laid_out_by_graph : (v w : World) → HasGraphOf v w → IsLaidOut v → IsLaidOut w
laid_out_by_graph v w same out = record {
  each_block = sym same.each_block ∙ (out.each_block ∙ ap (λ (g : Geometry). g.blocks) same.geometry);
  rising = subst (λ es. is_rising es ≡ true) same.pairs out.rising;
}

pub graph_of_same : (v w : World) → HasGraphOf v w → HasGraphOf w v
graph_of_same v w same = record { geometry = sym same.geometry; each_block = sym same.each_block; live = λ b. sym (same.live b); pairs = sym same.pairs }

-- ---- what has one graph then

pub restricted_by_graph : (v w : World) (keep : ℕ → Bool) → HasGraphOf v w → HasGraphOf (restricted v keep) (restricted w keep)
restricted_by_graph v w keep same = record {
  geometry = same.geometry;
  each_block = length-restricted v keep ∙ (same.each_block ∙ sym (length-restricted w keep));
  live = λ b. live-restricted v keep b ∙ (ap (λ t. keep b && t) (same.live b) ∙ sym (live-restricted w keep b));
  pairs = ap (filter (λ (e : ℕ × ℕ). keep e.0)) same.pairs;
}

pub settle_by_graph : (v w : World) → HasGraphOf v w → HasGraphOf (settle v) (settle w)
settle_by_graph v w same =
    subst (λ gone. HasGraphOf (restricted v (λ b. not (has_number gone b))) (settle w)) (sym (doomed_by_graph v w same)) (restricted_by_graph v w (stays w) same)

pub swept_by_graph : (v w : World) → HasGraphOf v w → HasGraphOf (swept v) (swept w)
swept_by_graph v w same =
    subst (λ kept. HasGraphOf (restricted v (has_number kept)) (swept w)) (sym (reach_by_graph v w same)) (restricted_by_graph v w (has_number (reach w)) same)

live-with_free : (w : World) (a b : ℕ) → is_live (with_free w a) b ≡ (is_live w b && not (b == a))
live-with_free w a b = elim (cases_eq b a) [
  | inl here ↦ subst (λ k. is_live (with_free w a) k ≡ (is_live w k && not (k == a))) (sym here)
      (ap is_some (freed w.blocks a) ∙ sym (and_right (is_live w a) (not (a == a)) (ap not (eq-eqb a a refl))))
  | inr other ↦ ap is_some (get_or-set_other w.blocks a b None None other) ∙ sym (ap (λ t. is_live w b && not t) (ne_eqb b a other) ∙ and_true (is_live w b))
]
  where
    freed : (xs : List (Option (List ℕ))) (k : ℕ) → slice_index_or (slice_set xs k None) k None ≡ None
    freed [] k = refl
    freed (x ∷ xs) zero = refl
    freed (x ∷ xs) (suc k) = freed xs k

free_by_graph : (a : ℕ) (v w : World) → HasGraphOf v w → HasGraphOf (with_free v a) (with_free w a)
free_by_graph a v w same = record {
  geometry = same.geometry;
  each_block = length-set v.blocks a None ∙ (same.each_block ∙ sym (length-set w.blocks a None));
  live = λ b. live-with_free v a b ∙ (ap (λ t. t && not (b == a)) (same.live b) ∙ sym (live-with_free w a b));
  pairs = same.pairs;
}

pub stepped_by_graph : (v w : World) → HasGraphOf v w → (a : ℕ) (bs : List ℕ) (freed : Bool) → HasGraphOf (stepped v a bs freed) (stepped w a bs freed)
stepped_by_graph v w same a bs true = free_by_graph a (without_pointers v a bs) (without_pointers w a bs) (less_by_graph a bs v w same)
stepped_by_graph v w same a bs false = less_by_graph a bs v w same

pub stay_as_one : (v w : World) → HasGraphOf v w → StayAsOne v w
stay_as_one v w same = record { settled = settle_by_graph v w same; swept = swept_by_graph v w same; stepped = stepped_by_graph v w same }

-- ---- what leaves the graph

pub graph-of_records : (w : World) (version : ℕ) (records : List Record) → HasGraphOf (record w { version = version; records = records }) w
graph-of_records w version records = record { geometry = refl; each_block = refl; live = λ b. refl; pairs = refl }

-- worlds that differ in bytes alone
pub alike_have_graph : (v w : World) → AreLike v w → HasGraphOf v w
alike_have_graph v w like = record { geometry = like.geometry; each_block = like.count; live = like.live; pairs = like.pairs }

-- a live block gets bytes
pub graph-with_contents : (w : World) (b : ℕ) (bytes : List ℕ) → is_live w b ≡ true → HasGraphOf (with_contents w b bytes) w
graph-with_contents w b bytes live = alike_have_graph (with_contents w b bytes) w (contents_like w b bytes live)

like_of_graph : (v w : World) → v.version ≡ w.version → v.records ≡ w.records → HasGraphOf v w → AreLike v w
like_of_graph v w version records same = record { geometry = same.geometry; version = version; count = same.each_block; live = same.live; pairs = same.pairs; records = records }

pub bytes_stay_apart : (v w : World) → AreLike v w → HasGraphOf v w × AreLike (settle v) (settle w) × AreLike (swept v) (swept w)
bytes_stay_apart v w like = let same = alike_have_graph v w like in (
  same,
  like_of_graph (settle v) (settle w) like.version like.records (settle_by_graph v w same),
  like_of_graph (swept v) (swept w) like.version like.records (swept_by_graph v w same),
)

-- as many blocks are free: the version and the records have nothing to do with it
pub free_count_by_graph : (v w : World) → HasGraphOf v w → free_count v ≡ free_count w
free_count_by_graph v w same = let as_w : World = record v { version = w.version; records = w.records } in
    free_count_like as_w w (record { geometry = same.geometry; version = refl; count = same.each_block; live = same.live; pairs = same.pairs; records = refl })

pub raw_by_graph : (v w : World) → HasGraphOf v w → IsRawGraph v → IsRawGraph w
raw_by_graph v w same raw = record {
  laid_out = laid_out_by_graph v w same raw.laid_out;
  lawful = subst IsLawful same.geometry raw.lawful;
  room = subst (λ (g : Geometry). length w.pairs ≤ g.slots) same.geometry (subst (λ (es : List (ℕ × ℕ)). length es ≤ v.geometry.slots) same.pairs raw.room);
  primaries = λ b h. sym (same.live b) ∙ raw.primaries b (subst (λ (g : Geometry). b < g.primaries) (sym same.geometry) h);
  sources = λ a b h. sym (same.live a) ∙ raw.sources a b (held a b h);
  targets = λ a b h. sym (same.live b) ∙ raw.targets a b (held a b h);
  apart = λ a b h. subst (λ (g : Geometry). g.primaries ≤ b) same.geometry (raw.apart a b (held a b h));
}
  where
    held : (a b : ℕ) → holds w.pairs a b ≡ true → holds v.pairs a b ≡ true
    held a b h = subst (λ es. holds es a b ≡ true) (sym same.pairs) h

pub as_one : (v w : World) → HasGraphOf v w → AreAsOne v w
as_one v w same = record {
  raw = raw_by_graph v w same;
  free = free_count_by_graph v w same;
  doomed = doomed_by_graph v w same;
  pairs = doomed_pairs_by_graph v w same;
  counts = kept_by_graph v w same;
  reach = reach_by_graph v w same;
  lost = lost_by_graph v w same;
  step = step_by_graph v w same;
}
