-- Raw graphs, and what keeps a world raw.
use Rattle.std.proofs.Common.{◌≡◌, ℕ, zero, suc, ◌<◌, ◌≤◌, ◌⊎◌, Bool, true, List, [], ◌∷◌, length, refl, sym, ◌∙◌, ap, subst, arith, inl, inr, Option, None}
use Rattle.graph_laws.proofs.Common.{and_parts, and_from, both_ways, cases_eq, get_or-set_other, length-set, slice_index_or, slice_set, IfSome, list_all, block_len, holds, is_record_of, World, contents, is_live, restricted, IsRaw, length-filter_le, holds-filter, is_rising-filter, live-restricted, holds-restricted, IsLaidOut, IsRawGraph, with_pairs_that, with_free, IsAlone}
use Rattle.std.specs.Prelude.{is_some}
use Rattle.graph_laws.proofs.SameLaws.{length-restricted}

pub raw_is_laid_out : (w : World) → IsRaw w → IsLaidOut w
raw_is_laid_out w raw = record { each_block = raw.sized.each_block; rising = raw.rising }

-- a raw world has a raw graph
pub raw_has_graph : (w : World) → IsRaw w → IsRawGraph w
raw_has_graph w raw = record {
  laid_out = raw_is_laid_out w raw;
  lawful = raw.sized.lawful;
  room = raw.sized.room;
  primaries = raw.primaries;
  sources = raw.sources;
  targets = raw.targets;
  apart = raw.apart;
}

-- A world with a raw graph is raw where each block is full and the records are of the version.
pub raw_of_graph : (w : World) → IsRawGraph w → ((b : ℕ) → IfSome (contents w b) (λ bytes. length bytes ≡ block_len w.geometry))
    → (w.version ≡ 1) ⊎ (w.version ≡ 2) → length w.records ≡ w.geometry.primaries → list_all (is_record_of w.version) w.records ≡ true → IsRaw w
raw_of_graph w raw full version each_record of_version = record {
  sized = record { lawful = raw.lawful; each_block = raw.laid_out.each_block; full = full; room = raw.room };
  version = version;
  each_record = each_record;
  of_version = of_version;
  rising = raw.laid_out.rising;
  primaries = raw.primaries;
  sources = raw.sources;
  targets = raw.targets;
  apart = raw.apart;
}

-- ---- fewer pairs

pub laid_out-with_pairs_that : (r : World) (keep : (ℕ × ℕ) → Bool) → IsLaidOut r → IsLaidOut (with_pairs_that r keep)
laid_out-with_pairs_that r keep out = record { each_block = out.each_block; rising = is_rising-filter keep r.pairs out.rising }

pub graph-with_pairs_that : (r : World) (keep : (ℕ × ℕ) → Bool) → IsRawGraph r → IsRawGraph (with_pairs_that r keep)
graph-with_pairs_that r keep raw = record {
  laid_out = laid_out-with_pairs_that r keep raw.laid_out;
  lawful = raw.lawful;
  room = omega (arith, length-filter_le keep r.pairs, raw.room);
  primaries = raw.primaries;
  sources = λ a b h. raw.sources a b (before a b h);
  targets = λ a b h. raw.targets a b (before a b h);
  apart = λ a b h. raw.apart a b (before a b h);
}
  where
    before : (a b : ℕ) → holds (with_pairs_that r keep).pairs a b ≡ true → holds r.pairs a b ≡ true
    before a b h = (and_parts (holds r.pairs a b) (keep (a, b)) (sym (holds-filter keep r.pairs a b) ∙ h)).0

-- ---- some of the blocks

-- on blocks among which the primary ones are, and with each block the targets of its pairs
pub graph-restricted : (r : World) (keep : ℕ → Bool) → ((b : ℕ) → b < r.geometry.primaries → keep b ≡ true) → ((a b : ℕ) → holds r.pairs a b ≡ true → keep a ≡ true → keep b ≡ true)
    → IsRawGraph r → IsRawGraph (restricted r keep)
graph-restricted r keep first on raw = record {
  laid_out = record { each_block = length-restricted r keep ∙ raw.laid_out.each_block; rising = is_rising-filter (λ e. keep e.0) r.pairs raw.laid_out.rising };
  lawful = raw.lawful;
  room = omega (arith, length-filter_le (λ e. keep e.0) r.pairs, raw.room);
  primaries = λ b h. live-restricted r keep b ∙ and_from (keep b) (is_live r b) (first b h) (raw.primaries b h);
  sources = λ a b h. let parts = before a b h in live-restricted r keep a ∙ and_from (keep a) (is_live r a) parts.1 (raw.sources a b parts.0);
  targets = λ a b h. let parts = before a b h in live-restricted r keep b ∙ and_from (keep b) (is_live r b) (on a b parts.0 parts.1) (raw.targets a b parts.0);
  apart = λ a b h. raw.apart a b (before a b h).0;
}
  where
    before : (a b : ℕ) → holds (restricted r keep).pairs a b ≡ true → (holds r.pairs a b ≡ true) × (keep a ≡ true)
    before a b h = and_parts (holds r.pairs a b) (keep a) (sym (holds-restricted r keep a b) ∙ h)

-- ---- a block less

pub laid_out-with_free : (r : World) (b : ℕ) → IsLaidOut r → IsLaidOut (with_free r b)
laid_out-with_free r b out = record { each_block = length-set r.blocks b None ∙ out.each_block; rising = out.rising }

pub contents-with_free : (r : World) (b c : ℕ) → (c ≡ b → ⊥) → contents (with_free r b) c ≡ contents r c
contents-with_free r b c other = get_or-set_other r.blocks b c None None other

-- whether b is a block of the disk or not
pub contents-freed : (r : World) (b : ℕ) → contents (with_free r b) b ≡ None
contents-freed r b = freed r.blocks b
  where
    freed : (xs : List (Option (List ℕ))) (k : ℕ) → slice_index_or (slice_set xs k None) k None ≡ None
    freed [] k = refl
    freed (x ∷ xs) zero = refl
    freed (x ∷ xs) (suc k) = freed xs k

module _ (r : World) (b : ℕ) (apart : r.geometry.primaries ≤ b) (alone : IsAlone r b) where
  live_still : (c : ℕ) → (c ≡ b → ⊥) → is_live r c ≡ true → is_live (with_free r b) c ≡ true
  live_still c other h = ap is_some (contents-with_free r b c other) ∙ h

  pub graph-with_free : IsRawGraph r → IsRawGraph (with_free r b)
  graph-with_free raw = record {
    laid_out = laid_out-with_free r b raw.laid_out;
    lawful = raw.lawful;
    room = raw.room;
    primaries = λ c h. live_still c (λ same. omega (arith, apart, h, same)) (raw.primaries c h);
    sources = λ a c h. live_still a (λ same. both_ways (holds r.pairs b c) (alone.out c) (subst (λ k. holds r.pairs k c ≡ true) same h)) (raw.sources a c h);
    targets = λ a c h. live_still c (λ same. both_ways (holds r.pairs a b) (alone.into a) (subst (λ k. holds r.pairs a k ≡ true) same h)) (raw.targets a c h);
    apart = raw.apart;
  }

  pub raw-with_free : IsRaw r → IsRaw (with_free r b)
  raw-with_free raw = raw_of_graph (with_free r b) (graph-with_free (raw_has_graph r raw)) full raw.version raw.each_record raw.of_version
    where
      full : (c : ℕ) → IfSome (contents (with_free r b) c) (λ bytes. length bytes ≡ block_len r.geometry)
      full c = elim (cases_eq c b) [
        | inl same ↦ subst (λ k. IfSome (contents (with_free r b) k) (λ bytes. length bytes ≡ block_len r.geometry)) (sym same)
            (subst (λ o. IfSome o (λ bytes. length bytes ≡ block_len r.geometry)) (sym (contents-freed r b)) tt)
        | inr other ↦ subst (λ o. IfSome o (λ bytes. length bytes ≡ block_len r.geometry)) (sym (contents-with_free r b c other)) (raw.sized.full c)
      ]
