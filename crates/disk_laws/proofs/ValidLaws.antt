-- A request leaves a valid world.
use Rattle.std.proofs.Common.{◌≡◌, ℕ, zero, suc, ◌+◌, ◌<◌, Bool, true, false, ◌&&◌, ◌||◌, nat_lt, nat_le, List, [], ◌∷◌, length, refl, sym, ◌∙◌, subst, arith, Option, Some, None, ◌⊎◌, inl, inr}
use Rattle.disk_laws.proofs.Common.{and_parts, and_from, leb-false, ltb-false, or_parts, nat_tests, length-set, slice_set, is_some, is_none, list_all, block_len, World, contents, is_live, is_free, kept, is_record_of, is_of_version, kept_of, chosen, chosen_run, Sessions, change, filled, with_caps, without_pointer, run_at, IsValid, CapPair, Record, PlaceKind, Request}
use Rattle.tsd_model.specs.declared.caps.Cap.{Cap}
use Rattle.tsd_model.specs.declared.requests.Request.TheVariants as ask
use Rattle.disk_laws.proofs.DoomLaws.{settle_is_valid}
use Rattle.disk_laws.proofs.ReachLaws.{swept_is_valid}
use Rattle.disk_laws.proofs.RuleLaws.{Passes}
use Rattle.disk_laws.proofs.ChangeLaws.{length-filled, with_contents_is_valid, with_pointer_is_valid, raw-without_pointer, with_new_blocks_is_valid, chosen_are_free, length-chosen, chosen_run_is_free, length-run_at}

not_free : (t : Bool) (o : Option (List ℕ)) → t ≡ true → (t && is_none o) ≡ false → is_some o ≡ true
not_free true (Some x) p e = refl
not_free true None p e = absurd (cc)
not_free false o p e = absurd (cc)

-- a block of the disk that isn't free is live
pub named_is_live : (w : World) (b : ℕ) → length w.blocks ≡ w.geometry.blocks → nat_le w.geometry.blocks b ≡ false → is_free w b ≡ false → is_live w b ≡ true
named_is_live w b long p q =
    let within : b < w.geometry.blocks = leb-false w.geometry.blocks b p in
    not_free (nat_lt b (length w.blocks)) (contents w b) (grind (arith, nat_tests)) q

-- the one block that is named
pub one_is_live : (w : World) (b : ℕ) → length w.blocks ≡ w.geometry.blocks → (nat_le w.geometry.blocks b || false) ≡ false → (is_free w b || false) ≡ false → is_live w b ≡ true
one_is_live w b long p q = named_is_live w b long (or_parts _ _ p).0 (or_parts _ _ q).0

-- ---- records

kept_form : (version : ℕ) (c : Cap) → (version ≡ 1) ⊎ (version ≡ 2) → is_of_version version (kept_of version c) ≡ true
kept_form version c (inl e) = subst (λ n. is_of_version n (kept_of n c) ≡ true) (sym e) refl
kept_form version c (inr e) = subst (λ n. is_of_version n (kept_of n c) ≡ true) (sym e) refl

kept_record : (version : ℕ) (caps : CapPair) → (version ≡ 1) ⊎ (version ≡ 2) → is_record_of version (kept version caps) ≡ true
kept_record version caps e = and_from _ _ (kept_form version caps.read e) (kept_form version caps.write e)

all-set : (p : Record → Bool) (rs : List Record) (i : ℕ) (r : Record) → list_all p rs ≡ true → p r ≡ true → list_all p (slice_set rs i r) ≡ true
all-set p [] i r h g = refl
all-set p (x ∷ rs) zero r h g = and_from (p r) (list_all p rs) g (and_parts (p x) (list_all p rs) h).1
all-set p (x ∷ rs) (suc i) r h g = let parts = and_parts (p x) (list_all p rs) h in and_from (p x) (list_all p (slice_set rs i r)) parts.0 (all-set p rs i r parts.1 g)

with_caps_is_valid : (w : World) (b : ℕ) (caps : CapPair) → IsValid w → IsValid (with_caps w b (kept w.version caps))
with_caps_is_valid w b caps valid = let raw = valid.raw in record {
  raw = record {
    sized = record { lawful = raw.sized.lawful; each_block = raw.sized.each_block; full = raw.sized.full; room = raw.sized.room };
    version = raw.version;
    each_record = length-set w.records b (kept w.version caps) ∙ raw.each_record;
    of_version = all-set (is_record_of w.version) w.records b (kept w.version caps) raw.of_version (kept_record w.version caps raw.version);
    rising = raw.rising;
    primaries = raw.primaries;
    sources = raw.sources;
    targets = raw.targets;
    apart = raw.apart;
  };
  led_to = valid.led_to;
}

-- ---- each request

pub change_valid : (kind : PlaceKind) (w : World) (v u : Sessions) (q : Request) → IsValid w → Passes w v q → IsValid (change kind w u q).state.world
change_valid kind w v u ask.Bad valid pass = valid
change_valid kind w v u (ask.Begin s) valid pass = valid
change_valid kind w v u (ask.End s) valid pass = valid
change_valid kind w v u (ask.Read s b shown) valid pass = valid
change_valid kind w v u (ask.Write s b shown bytes) valid pass =
    with_contents_is_valid w b (filled (block_len w.geometry) bytes) valid (one_is_live w b valid.raw.sized.each_block pass.there pass.live) (length-filled (block_len w.geometry) bytes (ltb-false (block_len w.geometry) (length bytes) pass.size))
change_valid kind w v u (ask.Alloc s a shown h count) valid pass =
    with_new_blocks_is_valid a (chosen kind w h count) w valid (one_is_live w a valid.raw.sized.each_block pass.there pass.live) (chosen_are_free kind w h count)
    (omega (arith, ltb-false w.geometry.slots (length w.pairs + count) pass.room, length-chosen kind w h count))
change_valid kind w v u (ask.Contig s a shown h count) valid pass =
    with_new_blocks_is_valid a (run_at (chosen_run kind w h count) count) w valid (one_is_live w a valid.raw.sized.each_block pass.there pass.live) (chosen_run_is_free kind w h count)
    (omega (arith, ltb-false w.geometry.slots (length w.pairs + count) pass.room, length-run_at (chosen_run kind w h count) count))
change_valid kind w v u ask.GetFree valid pass = valid
change_valid kind w v u (ask.Create s a shown b) valid pass =
    let there = or_parts (nat_le w.geometry.blocks a) (nat_le w.geometry.blocks b || false) pass.there in
    let live = or_parts (is_free w a) (is_free w b || false) pass.live in
    with_pointer_is_valid w a b valid (named_is_live w a valid.raw.sized.each_block there.0 live.0) (one_is_live w b valid.raw.sized.each_block there.1 live.1)
    (ltb-false b w.geometry.primaries pass.to_others) (omega (arith, ltb-false w.geometry.slots (length w.pairs + 1) pass.room))
change_valid kind w v u (ask.Delete s a shown b) valid pass = settle_is_valid (without_pointer w a b) (raw-without_pointer w a b valid.raw)
change_valid kind w v u (ask.SetCap s b shown caps) valid pass = with_caps_is_valid w b caps valid
change_valid kind w v u (ask.Sweep s shown) valid pass = swept_is_valid w valid.raw
change_valid kind w v u (ask.List s a shown start) valid pass = valid
