-- Which blocks are doomed and which are reached reads no bytes, nor do the levels at live blocks.
use Rattle.std.proofs.Common.{◌≡◌, ℕ, zero, suc, Bool, None, cond, not, ◌&&◌, ◌||◌, ◌==◌, nat_lt, List, length, refl, sym, ◌∙◌, ap, subst}
use Rattle.disk_laws.proofs.Common.{map, filter, slice_index_or, option_map, range_with_len, list_all, list_any, length-map-range_with_len, World, contents, primary_blocks, has_number, reach_rounds, reach, restricted, swept, doomed_rounds, doomed, settle, Levels, Sessions, fitted, AreLike}
use Rattle.tsd_model.specs.declared.requests.Level.TheVariants as level
use Rattle.disk_laws.proofs.DoomLaws.{live-restricted}

-- ---- rounds

doomed_rounds_like : (v w : World) → AreLike v w → (r : ℕ) → doomed_rounds v r ≡ doomed_rounds w r
doomed_rounds_like v w like zero = refl
doomed_rounds_like v w like (suc r) =
    let rest = doomed_rounds_like v w like r in
    λ i. filter (λ b. (like.live b i && not (nat_lt b (like.geometry i).primaries)) && list_all (λ (e : ℕ × ℕ). not (e.1 == b) || has_number (rest i) e.0) (like.pairs i)) (range_with_len 0 (like.count i))

pub doomed_like : (v w : World) → AreLike v w → doomed v ≡ doomed w
doomed_like v w like = ap (λ g. doomed_rounds v g.blocks) like.geometry ∙ doomed_rounds_like v w like w.geometry.blocks

reach_rounds_like : (v w : World) → AreLike v w → (start : List ℕ) (r : ℕ) → reach_rounds v start r ≡ reach_rounds w start r
reach_rounds_like v w like start zero = refl
reach_rounds_like v w like start (suc r) =
    let rest = reach_rounds_like v w like start r in
    λ i. filter (λ b. has_number (rest i) b || list_any (λ (e : ℕ × ℕ). (e.1 == b) && has_number (rest i) e.0) (like.pairs i)) (range_with_len 0 (like.count i))

pub reach_like : (v w : World) → AreLike v w → reach v ≡ reach w
reach_like v w like =
    (λ i. reach_rounds v (range_with_len 0 (like.geometry i).primaries) (like.geometry i).blocks) ∙ reach_rounds_like v w like (primary_blocks w) w.geometry.blocks

-- ---- worlds on some blocks

pub restricted_like : (v w : World) (keep : ℕ → Bool) → AreLike v w → AreLike (restricted v keep) (restricted w keep)
restricted_like v w keep like = record {
  geometry = like.geometry;
  version = like.version;
  count = length-map-range_with_len (λ b. cond (keep b) (contents v b) None) 0 (length v.blocks) ∙ (like.count ∙ sym (length-map-range_with_len (λ b. cond (keep b) (contents w b) None) 0 (length w.blocks)));
  live = λ b. live-restricted v keep b ∙ (ap (λ t. keep b && t) (like.live b) ∙ sym (live-restricted w keep b));
  pairs = ap (filter (λ (e : ℕ × ℕ). keep e.0)) like.pairs;
  records = like.records;
}

pub settle_like : (v w : World) → AreLike v w → AreLike (settle v) (settle w)
settle_like v w like =
    subst (λ gone. AreLike (restricted v (λ b. not (has_number gone b))) (settle w)) (sym (doomed_like v w like)) (restricted_like v w (λ b. not (has_number (doomed w) b)) like)

pub swept_like : (v w : World) → AreLike v w → AreLike (swept v) (swept w)
swept_like v w like =
    subst (λ kept. AreLike (restricted v (has_number kept)) (swept w)) (sym (reach_like v w like)) (restricted_like v w (has_number (reach w)) like)

-- ---- levels

pub fitted_like : (v w : World) → AreLike v w → (s : Sessions) → fitted v s ≡ fitted w s
fitted_like v w like s = λ i. map (option_map (map (λ (levels : Levels). map (λ b. cond (like.live b i) (slice_index_or levels b level.Bare) level.Bare) (range_with_len 0 (like.count i))))) s
