-- The world that tables tell.
use Rattle.std.proofs.Common.{◌≡◌, ℕ, zero, suc, ◌<◌, ◌≤◌, Bool, true, false, cond, ◌&&◌, nat_lt, List, [], ◌∷◌, length, refl, sym, ◌∙◌, ap, subst, arith, inl, inr, Some, None}
use Rattle.graph_laws.proofs.Common.{cases_eq, cases_lt, lt-ltb, le-ltb, get_or-set_same, get_or-set_other, get_or_past, length-set, length-replicate, ext_get_or, length-map-range_with_len, get_or-map-range_with_len, replicate, slice_index_or, slice_set, IfSome, list_all, block_len, is_record_of, World, contents, is_live, with_contents, IsRaw, Geometry, Record, contents-other, contents-same, world_with, zeros_in, no_record, graph, HasGraphOf, IsRawGraph, with_free}
use Rattle.std.specs.Prelude.{is_some}
use Rattle.graph_laws.proofs.RawGraphLaws.{contents-with_free, contents-freed}

-- ---- its blocks

pub blocks-world_with : (g : Geometry) (live : List Bool) (pairs : List (ℕ × ℕ)) (bytes : ℕ → List ℕ) (version : ℕ) (records : List Record)
    → length (world_with g live pairs bytes version records).blocks ≡ g.blocks
blocks-world_with g live pairs bytes version records = length-map-range_with_len (λ b. cond (slice_index_or live b false) (Some (bytes b)) None) 0 g.blocks

module _ (g : Geometry) (live : List Bool) (pairs : List (ℕ × ℕ)) (bytes : ℕ → List ℕ) (version : ℕ) (records : List Record) where
  abbrev told : World
  told = world_with g live pairs bytes version records

  pub contents-world_with : (b : ℕ) → b < g.blocks → contents told b ≡ cond (slice_index_or live b false) (Some (bytes b)) None
  contents-world_with b h = get_or-map-range_with_len (λ c. cond (slice_index_or live c false) (Some (bytes c)) None) 0 g.blocks b b None h (omega arith)

  pub contents_past-world_with : (b : ℕ) → g.blocks ≤ b → contents told b ≡ None
  contents_past-world_with b h = get_or_past told.blocks b None (omega (arith, h, blocks-world_with g live pairs bytes version records))

  pub live-world_with : (b : ℕ) → is_live told b ≡ (nat_lt b g.blocks && slice_index_or live b false)
  live-world_with b = elim (cases_lt b g.blocks) [
    | inl h ↦ ap is_some (contents-world_with b h) ∙ (some_if (slice_index_or live b false) ∙ sym (ap (λ t. t && slice_index_or live b false) (lt-ltb b g.blocks h)))
    | inr h ↦ ap is_some (contents_past-world_with b h) ∙ sym (ap (λ t. t && slice_index_or live b false) (le-ltb b g.blocks h))
  ]
    where
      some_if : (t : Bool) → is_some (cond t (Some (bytes b)) None) ≡ t
      some_if true = refl
      some_if false = refl

  -- where there is an entry for each block, and no more, these are the live ones
  pub live_as-world_with : length live ≤ g.blocks → (b : ℕ) → is_live told b ≡ slice_index_or live b false
  live_as-world_with long b = live-world_with b ∙ elim (cases_lt b g.blocks) [
    | inl h ↦ ap (λ t. t && slice_index_or live b false) (lt-ltb b g.blocks h)
    | inr h ↦ ap (λ t. t && slice_index_or live b false) (le-ltb b g.blocks h) ∙ sym (get_or_past live b false (omega (arith, h, long)))
  ]

  pub told_has_graph : HasGraphOf told (graph g live pairs)
  told_has_graph = record {
    geometry = refl;
    each_block = blocks-world_with g live pairs bytes version records ∙ sym (blocks-world_with g live pairs (zeros_in g) 2 (replicate g.primaries no_record));
    live = λ b. elim (cases_lt b g.blocks) [
      | inl h ↦ ap is_some (contents-world_with b h) ∙ (some_either (slice_index_or live b false) (bytes b) (zeros_in g b) ∙ sym (ap is_some (zeros_at b h)))
      | inr h ↦ ap is_some (contents_past-world_with b h) ∙ sym (ap is_some (zeros_past b h))
    ];
    pairs = refl;
  }
    where
      some_either : (t : Bool) (xs ys : List ℕ) → is_some (cond t (Some xs) None) ≡ is_some (cond t (Some ys) None)
      some_either true xs ys = refl
      some_either false xs ys = refl

      zeros_at : (b : ℕ) → b < g.blocks → contents (graph g live pairs) b ≡ cond (slice_index_or live b false) (Some (zeros_in g b)) None
      zeros_at b h = get_or-map-range_with_len (λ c. cond (slice_index_or live c false) (Some (zeros_in g c)) None) 0 g.blocks b b None h (omega arith)

      zeros_past : (b : ℕ) → g.blocks ≤ b → contents (graph g live pairs) b ≡ None
      zeros_past b h = get_or_past (graph g live pairs).blocks b None (omega (arith, h, blocks-world_with g live pairs (zeros_in g) 2 (replicate g.primaries no_record)))

-- ---- a bit more, a bit less

-- the world that tables tell once a block's bit is 0
pub world_with-set_free : (g : Geometry) (live : List Bool) (pairs : List (ℕ × ℕ)) (bytes : ℕ → List ℕ) (version : ℕ) (records : List Record) (a : ℕ)
    → world_with g (slice_set live a false) pairs bytes version records ≡ with_free (world_with g live pairs bytes version records) a
world_with-set_free g live pairs bytes version records a = λ i. record old { blocks = blocks i }
  where
    old : World
    old = world_with g live pairs bytes version records

    new : World
    new = world_with g (slice_set live a false) pairs bytes version records

    cleared : (ts : List Bool) (k : ℕ) → slice_index_or (slice_set ts k false) k false ≡ false
    cleared [] k = refl
    cleared (t ∷ ts) zero = refl
    cleared (t ∷ ts) (suc k) = cleared ts k

    long : length new.blocks ≡ length (with_free old a).blocks
    long = blocks-world_with g (slice_set live a false) pairs bytes version records ∙ sym (length-set old.blocks a None ∙ blocks-world_with g live pairs bytes version records)

    inside : (b : ℕ) → b < g.blocks → contents new b ≡ contents (with_free old a) b
    inside b h = elim (cases_eq b a) [
      | inl same ↦ contents-world_with g (slice_set live a false) pairs bytes version records b h
          ∙ (ap (λ t. cond t (Some (bytes b)) None) (ap (λ k. slice_index_or (slice_set live a false) k false) same ∙ cleared live a)
          ∙ sym (ap (contents (with_free old a)) same ∙ contents-freed old a))
      | inr other ↦ contents-world_with g (slice_set live a false) pairs bytes version records b h
          ∙ (ap (λ t. cond t (Some (bytes b)) None) (get_or-set_other live a b false false other)
          ∙ sym (contents-with_free old a b other ∙ contents-world_with g live pairs bytes version records b h))
    ]

    blocks : new.blocks ≡ (with_free old a).blocks
    blocks = ext_get_or None new.blocks (with_free old a).blocks long (λ b h. inside b (subst (λ n. b < n) (blocks-world_with g (slice_set live a false) pairs bytes version records) h))

-- once it is 1, the block contains its bytes
pub world_with-set_live : (g : Geometry) (live : List Bool) (pairs : List (ℕ × ℕ)) (bytes : ℕ → List ℕ) (version : ℕ) (records : List Record) (a : ℕ) → length live ≡ g.blocks → a < g.blocks
    → world_with g (slice_set live a true) pairs bytes version records ≡ with_contents (world_with g live pairs bytes version records) a (bytes a)
world_with-set_live g live pairs bytes version records a each within = λ i. record old { blocks = blocks i }
  where
    old : World
    old = world_with g live pairs bytes version records

    new : World
    new = world_with g (slice_set live a true) pairs bytes version records

    long : length new.blocks ≡ length (with_contents old a (bytes a)).blocks
    long = blocks-world_with g (slice_set live a true) pairs bytes version records ∙ sym (length-set old.blocks a (Some (bytes a)) ∙ blocks-world_with g live pairs bytes version records)

    inside : (b : ℕ) → b < g.blocks → contents new b ≡ contents (with_contents old a (bytes a)) b
    inside b h = elim (cases_eq b a) [
      | inl same ↦ contents-world_with g (slice_set live a true) pairs bytes version records b h
          ∙ (ap (λ t. cond t (Some (bytes b)) None) (ap (λ k. slice_index_or (slice_set live a true) k false) same ∙ get_or-set_same live a true false (omega (arith, each, within)))
          ∙ (ap (λ k. Some (bytes k)) same ∙ sym (ap (contents (with_contents old a (bytes a))) same
          ∙ contents-same old a (bytes a) (omega (arith, within, blocks-world_with g live pairs bytes version records)))))
      | inr other ↦ contents-world_with g (slice_set live a true) pairs bytes version records b h
          ∙ (ap (λ t. cond t (Some (bytes b)) None) (get_or-set_other live a b true false other)
          ∙ sym (contents-other old a b (bytes a) other ∙ contents-world_with g live pairs bytes version records b h))
    ]

    blocks : new.blocks ≡ (with_contents old a (bytes a)).blocks
    blocks = ext_get_or None new.blocks (with_contents old a (bytes a)).blocks long (λ b h. inside b (subst (λ n. b < n) (blocks-world_with g (slice_set live a true) pairs bytes version records) h))

-- ---- zeros in the blocks

pub live-graph : (g : Geometry) (live : List Bool) (pairs : List (ℕ × ℕ)) → length live ≡ g.blocks → (b : ℕ) → is_live (graph g live pairs) b ≡ slice_index_or live b false
live-graph g live pairs each = live_as-world_with g live pairs (zeros_in g) 2 (replicate g.primaries no_record) (omega (arith, each))

pub graph-set_free : (g : Geometry) (live : List Bool) (pairs : List (ℕ × ℕ)) (a : ℕ) → graph g (slice_set live a false) pairs ≡ with_free (graph g live pairs) a
graph-set_free g live pairs = world_with-set_free g live pairs (zeros_in g) 2 (replicate g.primaries no_record)

-- ---- the graph of a world

module _ (w : World) (live : List Bool) (long : length w.blocks ≡ w.geometry.blocks) (tells : (b : ℕ) → b < w.geometry.blocks → slice_index_or live b false ≡ is_live w b) where
  abbrev told_of : World
  told_of = graph w.geometry live w.pairs

  pub has_graph : HasGraphOf told_of w
  has_graph = record {
    geometry = refl;
    each_block = blocks-world_with w.geometry live w.pairs (zeros_in w.geometry) 2 (replicate w.geometry.primaries no_record) ∙ sym long;
    live = λ b. live-world_with w.geometry live w.pairs (zeros_in w.geometry) 2 (replicate w.geometry.primaries no_record) b ∙ elim (cases_lt b w.geometry.blocks) [
      | inl h ↦ ap (λ t. t && slice_index_or live b false) (lt-ltb b w.geometry.blocks h) ∙ tells b h
      | inr h ↦ ap (λ t. t && slice_index_or live b false) (le-ltb b w.geometry.blocks h) ∙ sym (ap is_some (get_or_past w.blocks b None (omega (arith, h, long))))
    ];
    pairs = refl;
  }

  pub raw-graph : IsRawGraph w → IsRaw told_of
  raw-graph raw = record {
    sized = record { lawful = raw.lawful; each_block = blocks-world_with w.geometry live w.pairs (zeros_in w.geometry) 2 (replicate w.geometry.primaries no_record); full = full; room = raw.room };
    version = inr refl;
    each_record = length-replicate w.geometry.primaries no_record;
    of_version = all_records w.geometry.primaries;
    rising = raw.laid_out.rising;
    primaries = λ b h. has_graph.live b ∙ raw.primaries b h;
    sources = λ a b h. has_graph.live a ∙ raw.sources a b h;
    targets = λ a b h. has_graph.live b ∙ raw.targets a b h;
    apart = raw.apart;
  }
    where
      full_if : (t : Bool) (b : ℕ) → IfSome (cond t (Some (zeros_in w.geometry b)) None) (λ bytes. length bytes ≡ block_len w.geometry)
      full_if true b = length-replicate (block_len w.geometry) 0
      full_if false b = tt

      full : (b : ℕ) → IfSome (contents told_of b) (λ bytes. length bytes ≡ block_len w.geometry)
      full b = elim (cases_lt b w.geometry.blocks) [
        | inl h ↦ subst (λ o. IfSome o (λ bytes. length bytes ≡ block_len w.geometry)) (sym (contents-world_with w.geometry live w.pairs (zeros_in w.geometry) 2 (replicate w.geometry.primaries no_record) b h)) (full_if (slice_index_or live b false) b)
        | inr h ↦ subst (λ o. IfSome o (λ bytes. length bytes ≡ block_len w.geometry)) (sym (contents_past-world_with w.geometry live w.pairs (zeros_in w.geometry) 2 (replicate w.geometry.primaries no_record) b h)) tt
      ]

      all_records : (n : ℕ) → list_all (is_record_of 2) (replicate n no_record) ≡ true
      all_records zero = refl
      all_records (suc n) = all_records n
