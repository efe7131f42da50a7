-- A block that a step frees.
use Rattle.std.proofs.Common.{◌≡◌, ◌≢◌, ℕ, ◌<◌, ◌≤◌, true, false, ◌==◌, [], ◌∷◌, refl, sym, ◌∙◌, ap, subst, arith, Ok}
use Rattle.volume_laws.proofs.Common.{slice_set, and_parts, and_from, both_ways, get_or-set_other, length-set, holds, World, Geometry, live_below, put_at, header_sector, format_gate, bitmap_start, slots_start, IsHeaderReading, Image, says_open, Patch, put_elsewhere, stored_elsewhere, same_counts, IsStoredAt, sector_of, same_records, IsAlone, without_pointers, OutStep, AreSound, Tables, pairs_of, IsStepNext, graph_in, pairs_without, IsAllowed, Turns}
use Rattle.block_alloc.specs.LiveMap.{is_live}
use Rattle.block_alloc.specs.Stored.{IsStored}
use Rattle.volume_laws.proofs.StepWorlds.{without_parts}
use Rattle.volume_laws.proofs.TableWorlds.{graph_laid_out}
use Rattle.volume_laws.proofs.BlockLaws.{away}

-- a step of reclamation is allowed
pub next_allowed : (t : Tables) (s : OutStep) → IsStepNext t s → IsAllowed t s
next_allowed t s next = record { live = next.may.lost.live; apart = next.may.lost.apart; step = next.may.step; few = next.may.few }

pub allowed_inside : (t : Tables) (s : OutStep) → IsAllowed t s → s.block < t.geometry.blocks
allowed_inside t s next = subst (λ n. s.block < n) (graph_laid_out t).each_block (live_below (graph_in t).blocks s.block next.live)

module _ (t mid : Tables) (s : OutStep) (next : IsAllowed t s) (same : mid.geometry ≡ t.geometry) (live : mid.live ≡ t.live) (pairs : pairs_of mid ≡ pairs_without (pairs_of t) s.block s.targets) (freed : s.freed ≡ true) (now_sound : AreSound mid) where
  abbrev after : Tables
  after = record mid { live = slice_set mid.live s.block false }

  -- no pair leads from the block or to it any more
  apart_from : (x y : ℕ) → holds (pairs_of mid) x y ≡ true → (x ≢ s.block) × (y ≢ s.block)
  apart_from x y held = (
    λ e. both_ways (holds (pairs_of mid) x y) (ap (λ k. holds (pairs_of mid) k y) e ∙ (now_in s.block y ∙ alone.out y)) held,
    λ e. both_ways (holds (pairs_of mid) x y) (ap (λ k. holds (pairs_of mid) x k) e ∙ (now_in x s.block ∙ alone.into x)) held,
  )
    where
      alone : IsAlone (without_pointers (graph_in t) s.block s.targets) s.block
      alone = next.step.last freed

      now_in : (m n : ℕ) → holds (pairs_of mid) m n ≡ holds (without_pointers (graph_in t) s.block s.targets).pairs m n
      now_in m n = ap (λ es. holds es m n) (pairs ∙ sym (ap (λ (w : World). w.pairs) (without_parts s.block s.targets (graph_in t))))

  still : (b : ℕ) → b ≢ s.block → is_live (slice_set mid.live s.block false) b ≡ is_live mid.live b
  still b other = get_or-set_other mid.live s.block b false false other

  pub freed_sound : AreSound after
  freed_sound = record {
    version = now_sound.version;
    slots = now_sound.slots;
    each_block = length-set mid.live s.block false ∙ now_sound.each_block;
    each_count = now_sound.each_count;
    each_record = now_sound.each_record;
    primaries = λ b h. still b (λ e. let apart = next.apart in let size = ap (λ (g : Geometry). g.primaries) same in omega (arith, apart, size, e, h)) ∙ now_sound.primaries b h;
    ends = λ x y held. let other = apart_from x y held in let was = and_parts (is_live mid.live x) (is_live mid.live y) (now_sound.ends x y held) in
        and_from (is_live (slice_set mid.live s.block false) x) (is_live (slice_set mid.live s.block false) y) (still x other.0 ∙ was.0) (still y other.1 ∙ was.1);
    counted = now_sound.counted;
  }

  pub freed_turn : (r : Patch) → r.sector ≡ sector_of mid.geometry s.block → (bitmap_start mid.geometry ≤ r.sector) × (r.sector < slots_start mid.geometry)
      → ((x : Image) → ((b : ℕ) → b < mid.geometry.blocks → sector_of mid.geometry b ≢ r.sector → IsStoredAt (slice_set mid.live s.block false) mid.geometry x b) → IsStored (slice_set mid.live s.block false) mid.geometry (put_at r.sector r.bytes x))
      → Turns mid after (r ∷ [])
  freed_turn r at inside patched = record {
    sound = freed_sound;
    size = refl;
    has = λ z had.
        let other : (n : ℕ) → n ≢ r.sector → put_at r.sector r.bytes z n ≡ z n = λ n h. put_elsewhere r.sector r.bytes z n (away r.sector n h) in
        record {
          header = subst (λ bytes. IsHeaderReading bytes (Ok (record { version = mid.version; geometry = mid.geometry }))) (sym (other header_sector (λ e. omega arith))) had.header;
          live = patched z (λ b within out. had.live b within ∙ sym (still b (λ e. out (ap (sector_of mid.geometry) e ∙ sym at))));
          slots = stored_elsewhere mid.slots mid.geometry z (put_at r.sector r.bytes z) (λ n f u. other n (λ e. omega arith)) had.slots;
          counts = same_counts mid.counts mid.geometry z (put_at r.sector r.bytes z) (λ n f u. other n (λ e. omega arith)) had.counts;
          records = same_records mid.version mid.records z (put_at r.sector r.bytes z) now_sound.version (omega (arith, now_sound.each_record, now_sound.slots.lawful.primaries.1)) (λ n f u. other n (λ e. omega arith)) had.records;
          flag = ap says_open (other 131 (λ e. omega arith)) ∙ had.flag;
        };
    contents = λ z n above. put_elsewhere r.sector r.bytes z n (away r.sector n (λ e. omega arith));
    gate = λ z. put_elsewhere r.sector r.bytes z format_gate (away r.sector format_gate (λ e. omega arith));
  }
