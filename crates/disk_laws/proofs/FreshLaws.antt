-- Worlds at which a run may begin.
use Rattle.std.proofs.Common.{◌≡◌, ℕ, zero, suc, ◌-◌, ◌<◌, ◌≤◌, true, List, [], ◌∷◌, ◌++◌, length, length-append, refl, sym, ◌∙◌, ap, subst, arith, inl, inr, Option, Some, None}
use Rattle.disk_laws.proofs.Common.{cases_lt, and_from, length-map, length-replicate, map, replicate, slice_index_or, is_some, IfSome, list_all, IsLawful, block_len, World, is_live, kept, is_of_version, is_record_of, upgraded_kept, upgraded_record, upgraded, Held, sessions_max, no_sessions, levels_in, Fits, IsValid, fresh_world, CapPair, Record, no_held}
use Rattle.tsd_model.specs.declared.geometry.Geometry.{Geometry}
use Rattle.tsd_model.specs.declared.records.KeptCap.{KeptCap}
use Rattle.tsd_model.specs.declared.records.KeptCap.TheVariants.{Plain, Digested}
use Rattle.tsd_model.specs.declared.requests.Level.TheVariants as level

-- ---- no session

pub no_sessions_fit : (w : World) → Fits w no_sessions
no_sessions_fit w = record {
  count = length-replicate {A = Option Held} sessions_max None;
  origins = λ t. subst (λ x. IfSome x (λ held. length held ≡ w.geometry.primaries)) (sym (no_held t)) tt;
  blocks = λ t o. subst (λ x. is_some x ≡ true → o < w.geometry.primaries → length (levels_in x o) ≡ w.geometry.blocks) (sym (no_held t)) (λ e. absurd (cc));
  live = λ t o b. inl (ap (λ x. slice_index_or (levels_in x o) b level.Bare) (no_held t));
}

-- ---- a new disk

abbrev parts : ℕ → ℕ → List ℕ → List (Option (List ℕ))
parts p m bytes = replicate p (Some bytes) ++ replicate m None

live_part : (p m b : ℕ) (bytes : List ℕ) → b < p → slice_index_or (parts p m bytes) b None ≡ Some bytes
live_part zero m b bytes h = absurd (omega arith)
live_part (suc p) m zero bytes h = refl
live_part (suc p) m (suc b) bytes h = live_part p m b bytes (omega arith)

free_part : (p m b : ℕ) (bytes : List ℕ) → p ≤ b → ◌≡◌ {A = Option (List ℕ)} (slice_index_or (parts p m bytes) b None) None
free_part zero zero b bytes h = refl
free_part zero (suc m) zero bytes h = refl
free_part zero (suc m) (suc b) bytes h = free_part zero m b bytes (omega arith)
free_part (suc p) m zero bytes h = absurd (omega arith)
free_part (suc p) m (suc b) bytes h = free_part p m b bytes (omega arith)

kept_plain : (caps : List CapPair) → list_all (is_record_of 1) (map (kept 1) caps) ≡ true
kept_plain [] = refl
kept_plain (c ∷ caps) = kept_plain caps

pub fresh_is_valid : (g : Geometry) (caps : List CapPair) → IsLawful g → length caps ≡ g.primaries → IsValid (fresh_world g caps)
fresh_is_valid g caps lawful each = record {
  raw = record {
    sized = record {
      lawful = lawful;
      each_block = length-append (replicate g.primaries (Some zeros)) (replicate (g.blocks - g.primaries) None) ∙ (omega (arith, length-replicate g.primaries (Some zeros), length-replicate {A = Option (List ℕ)} (g.blocks - g.primaries) None, lawful.primaries.2));
      full = λ b. elim (cases_lt b g.primaries) [
        | inl below ↦ subst (λ x. IfSome x (λ bytes. length bytes ≡ block_len g)) (sym (live_part g.primaries (g.blocks - g.primaries) b zeros below)) (length-replicate (block_len g) 0)
        | inr above ↦ subst (λ x. IfSome x (λ bytes. length bytes ≡ block_len g)) (sym (free_part g.primaries (g.blocks - g.primaries) b zeros above)) tt
      ];
      room = omega (arith, lawful.slots.0);
    };
    version = inl refl;
    each_record = length-map caps (kept 1) ∙ each;
    of_version = kept_plain caps;
    rising = refl;
    primaries = λ b h. ap is_some (live_part g.primaries (g.blocks - g.primaries) b zeros h);
    sources = λ a b h. absurd (cc);
    targets = λ a b h. absurd (cc);
    apart = λ a b h. absurd (cc);
  };
  led_to = λ b above live. absurd (dead b above live);
}
  where
    zeros : List ℕ
    zeros = replicate (block_len g) 0

    dead : (b : ℕ) → g.primaries ≤ b → is_live (fresh_world g caps) b ≡ true → ⊥
    dead b above live = let gone = ap is_some (free_part g.primaries (g.blocks - g.primaries) b zeros above) in cc

-- ---- digests

digested : (k : KeptCap) → is_of_version 2 (upgraded_kept k) ≡ true
digested (Plain c) = refl
digested (Digested d) = refl

all_digested : (rs : List Record) → list_all (is_record_of 2) (map upgraded_record rs) ≡ true
all_digested [] = refl
all_digested (r ∷ rs) = and_from (is_record_of 2 (upgraded_record r)) (list_all (is_record_of 2) (map upgraded_record rs)) (and_from _ _ (digested r.read) (digested r.write)) (all_digested rs)

pub upgraded_is_valid : (w : World) → IsValid w → IsValid (upgraded w)
upgraded_is_valid w valid = let raw = valid.raw in record {
  raw = record {
    sized = record { lawful = raw.sized.lawful; each_block = raw.sized.each_block; full = raw.sized.full; room = raw.sized.room };
    version = inr refl;
    each_record = length-map w.records upgraded_record ∙ raw.each_record;
    of_version = all_digested w.records;
    rising = raw.rising;
    primaries = raw.primaries;
    sources = raw.sources;
    targets = raw.targets;
    apart = raw.apart;
  };
  led_to = valid.led_to;
}
