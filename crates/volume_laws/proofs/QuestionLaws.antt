-- What memory answers, by what is kept ahead, is what the settled world would.
use Rattle.std.proofs.Common.{◌≡◌, ℕ, ◌+◌, ◌<◌, ◌≤◌, Bool, true, false, not, ◌&&◌, ◌==◌, nat_le, ◌⊎◌, inl, inr, List, [], ◌∷◌, length, map, take, refl, sym, ◌∙◌, ap, subst, arith, Some, None}
use Rattle.volume_laws.proofs.Common.{filter, cases_Bool, cases_lt, and_parts, both_ways, eqb-true, holds, targets_from, World, is_live, settle, swept, Record, settle_is_valid, LiveMap, is_marked_in, stays, settle-of_records, swept-of_records, filter_twice, live-settle, holds-settle, length-settle, live-graph, raw-graph, length-settle_pairs, Kept, is_gone, Hides, IsAheadOf, AreSound, Tables, pairs_of, world_with, left_of, blank_of, graph_in}
use Rattle.std.proofs.lemmas.List.Elements.{filter_agree}
use Rattle.tsd_model.specs.Next.{IsNextSource}
use Rattle.tsd_model.specs.Valid.{IsSized, IsRaw, IsValid}
use Rattle.block_alloc.specs.Worlds.{IsMapOf}
use Rattle.graph_laws.proofs.SweepLaws.{sweeps_to_valid}
use Rattle.volume_laws.proofs.TableWorlds.{graph_laid_out, graph_raw, told_graph}

-- ---- where nothing is asked of what is kept ahead

graph_valid_raw : (t : Tables) → AreSound t → IsRaw (graph_in t)
graph_valid_raw t sound = raw-graph (graph_in t) t.live (graph_laid_out t).each_block (λ b h. sym (live-graph t.geometry t.live (pairs_of t) sound.each_block b)) (graph_raw t sound)

-- the sizes are right, and both ends of each pair are live
pub record IsToldRight (w : World) : Type 0 where
  pub sized : IsSized w
  pub ends : (a b : ℕ) → holds w.pairs a b ≡ true → (is_live w a ≡ true) × (is_live w b ≡ true)

valid_told : (w : World) (version : ℕ) (records : List Record) → IsValid w → IsToldRight (record w { version = version; records = records })
valid_told w version records valid = record {
  sized = record { lawful = valid.raw.sized.lawful; each_block = valid.raw.sized.each_block; full = valid.raw.sized.full; room = valid.raw.sized.room };
  ends = λ a b held. (valid.raw.sources a b held, valid.raw.targets a b held);
}

pub told_right : (t : Tables) → AreSound t → IsToldRight (blank_of t)
unfolding world_with left_of
told_right t sound = elim (cases_Bool t.is_sweeping) [
  | inl e ↦ rw e (subst IsToldRight (sym (swept-of_records (graph_in t) t.version t.records)) (valid_told (swept (graph_in t)) t.version t.records (sweeps_to_valid (graph_in t) (graph_valid_raw t sound))))
  | inr e ↦ rw e (subst IsToldRight (sym (settle-of_records (graph_in t) t.version t.records)) (valid_told (settle (graph_in t)) t.version t.records (settle_is_valid (graph_in t) (graph_valid_raw t sound))))
]

pub told_size : (t : Tables) → ((blank_of t).geometry ≡ t.geometry) × ((blank_of t).version ≡ t.version) × ((blank_of t).records ≡ t.records)
unfolding world_with left_of
told_size t = elim (cases_Bool t.is_sweeping) [ inl e ↦ rw e (refl, refl, refl) | inr e ↦ rw e (refl, refl, refl) ]

-- ---- by what is kept ahead

and_swap : (s u : Bool) → (s && u) ≡ (u && s)
and_swap true true = refl
and_swap true false = refl
and_swap false true = refl
and_swap false false = refl

none_left : (es : List (ℕ × ℕ)) → filter (λ e. false) es ≡ []
none_left [] = refl
none_left (e ∷ es) = none_left es

module _ (t : Tables) (sound : AreSound t) (still : t.is_sweeping ≡ false) (l : LiveMap) (k : Kept) (live : l.live ≡ t.live) (hides : Hides l (is_gone k.gone)) (ahead : IsAheadOf (graph_in t) k) where
  pub shown : (b : ℕ) → is_marked_in l.unhidden b ≡ is_live (blank_of t) b
  shown b =
      hides b ∙ ((λ i. is_marked_in (live i) b && not (ahead.told b i)) ∙ (and_swap (is_marked_in t.live b) (stays (graph_in t) b)
      ∙ sym ((told_graph t still).live b ∙ (live-settle (graph_in t) b ∙ ap (λ s. stays (graph_in t) b && s) (live-graph t.geometry t.live (pairs_of t) sound.each_block b)))))

  pub map_of : length l.unhidden ≡ t.geometry.blocks → IsMapOf l.unhidden (blank_of t)
  map_of long = record {
    each_block = long ∙ sym ((told_graph t still).each_block ∙ (length-settle (graph_in t) ∙ (graph_laid_out t).each_block));
    same = λ b h. shown b;
  }

  pub holds_told : (a b : ℕ) → holds (blank_of t).pairs a b ≡ (holds (pairs_of t) a b && not (is_gone k.gone a))
  holds_told a b = ap (λ es. holds es a b) (told_graph t still).pairs ∙ (holds-settle (graph_in t) a b ∙ ap (λ s. holds (pairs_of t) a b && not s) (sym (ahead.told a)))

  pub pairs_told : length (blank_of t).pairs + k.pairs ≡ length (pairs_of t)
  pairs_told =
      let told : length (blank_of t).pairs ≡ length (settle (graph_in t)).pairs = ap (λ (es : List (ℕ × ℕ)). length es) (told_graph t still).pairs in
      let all = length-settle_pairs (graph_in t) in
      let off = ahead.off in
      omega (arith, told, all, off)

  -- the pairs of one block
  from_told : (a start : ℕ) → filter (λ e. (e.0 == a) && nat_le start e.1) (blank_of t).pairs ≡ filter (λ e. ((e.0 == a) && nat_le start e.1) && stays (graph_in t) e.0) (pairs_of t)
  from_told a start = ap (filter (λ (e : ℕ × ℕ). (e.0 == a) && nat_le start e.1)) (told_graph t still).pairs ∙ filter_twice (λ e. (e.0 == a) && nat_le start e.1) (λ e. stays (graph_in t) e.0) (pairs_of t)

  same_source : (a start : ℕ) (e : ℕ × ℕ) → (((e.0 == a) && nat_le start e.1) && stays (graph_in t) e.0) ≡ (((e.0 == a) && nat_le start e.1) && stays (graph_in t) a)
  same_source a start e = elim (cases_Bool (e.0 == a)) [
    | inl is ↦ ap (λ n. ((e.0 == a) && nat_le start e.1) && stays (graph_in t) n) (eqb-true e.0 a is)
    | inr other ↦ rw other refl
  ]

  pub targets_stay : (a start : ℕ) → is_gone k.gone a ≡ false → targets_from (blank_of t).pairs a start ≡ targets_from (pairs_of t) a start
  targets_stay a start not_gone = ap (λ (es : List (ℕ × ℕ)). take 64 (map (λ (e : ℕ × ℕ). e.1) es)) (from_told a start
      ∙ filter_agree (λ e. ((e.0 == a) && nat_le start e.1) && stays (graph_in t) e.0) (λ e. (e.0 == a) && nat_le start e.1)
      (λ e. same_source a start e ∙ (ap (λ s. ((e.0 == a) && nat_le start e.1) && not s) (sym (ahead.told a) ∙ not_gone) ∙ and_swap ((e.0 == a) && nat_le start e.1) true)) (pairs_of t))

  pub targets_gone : (a start : ℕ) → is_gone k.gone a ≡ true → targets_from (blank_of t).pairs a start ≡ []
  targets_gone a start gone = ap (λ (es : List (ℕ × ℕ)). take 64 (map (λ (e : ℕ × ℕ). e.1) es)) (from_told a start
      ∙ (filter_agree (λ e. ((e.0 == a) && nat_le start e.1) && stays (graph_in t) e.0) (λ e. false)
      (λ e. same_source a start e ∙ (ap (λ s. ((e.0 == a) && nat_le start e.1) && not s) (sym (ahead.told a) ∙ gone) ∙ and_swap ((e.0 == a) && nat_le start e.1) false)) (pairs_of t)
      ∙ none_left (pairs_of t)))

-- ---- the next source that stays

-- none of those from the start up to here stays
abbrev pub NoneBetween : List (ℕ × ℕ) → ℕ → ℕ → ℕ → Type 0
NoneBetween es b start from = (a : ℕ) → holds es a b ≡ true → start ≤ a → a < from → ⊥

module _ (es raw : List (ℕ × ℕ)) (gone : ℕ → Bool) (told : (a b : ℕ) → holds es a b ≡ (holds raw a b && not (gone a))) (b start from : ℕ) (none : NoneBetween es b start from) (behind : start ≤ from) where
  pub source_stays : (a : ℕ) → IsNextSource raw b from (Some a) → gone a ≡ false → IsNextSource es b start (Some a)
  source_stays a next stays_ = record {
    there = told a b ∙ (λ i. (next.there i && not (stays_ i)));
    from = let f = next.from in omega (arith, f, behind);
    least = λ c held low. elim (cases_below c) [
      | inl below ↦ absurd (none c held low below)
      | inr above ↦ next.least c (and_parts (holds raw c b) (not (gone c)) (sym (told c b) ∙ held)).0 above
    ];
  }
    where
      cases_below : (c : ℕ) → (c < from) ⊎ (from ≤ c)
      cases_below c = cases_lt c from

  pub source_none : IsNextSource raw b from None → IsNextSource es b start None
  source_none next = λ a held. elim (cases_lt a start) [
    | inl below ↦ below
    | inr low ↦ absurd (none a held low (next a (and_parts (holds raw a b) (not (gone a)) (sym (told a b) ∙ held)).0))
  ]

  pub source_gone : (a : ℕ) → IsNextSource raw b from (Some a) → gone a ≡ true → NoneBetween es b start (a + 1)
  source_gone a next is = λ c held low less. elim (cases_lt c from) [
    | inl below ↦ none c held low below
    | inr above ↦
        let parts = and_parts (holds raw c b) (not (gone c)) (sym (told c b) ∙ held) in
        let least = next.least c parts.0 above in
        let same : c ≡ a = omega (arith, least, less) in
        both_ways (not (gone c)) (ap not (ap gone same ∙ is)) parts.1
  ]
