-- What is reached, and what a certificate shows, is by pointers and sizes alone: the same over worlds that differ in bytes.
use Rattle.std.proofs.Common.{◌≡◌, ℕ, zero, suc, true, false, ◌==◌, ◌&&◌, ◌||◌, nat_lt, List, refl, sym, ◌∙◌, ap, subst, Option, Some, None, filter}
use Rattle.std.specs.Prelude.{IfSome, IsTrue, MatchBool}
use Rattle.std.specs.List.{list_any, range_with_len}
use Rattle.tsd_model.specs.Pairs.{holds}
use Rattle.tsd_model.specs.Reach.{reach_from, reach_round, reach_rounds}
use Rattle.tsd_model.specs.World.{World, has_number, is_primary, primary_blocks}
use Rattle.tsd_model.specs.declared.geometry.Geometry.{Geometry}
use Rattle.disk_laws.specs.Bytes.{AreLike}
use Rattle.image_audit.specs.declared.entry.Entry.{Entry}
use Rattle.image_audit.specs.declared.verdict.Verdict.{Verdict}
use Rattle.image_audit.specs.declared.verdict.Verdict.TheVariants as verdict
use Rattle.image_audit.specs.Certificates.{HasGoodEntries, HasParent, ListsPrimaries, IsPrimaryEntry, IsGoodEntry, IsVerdict, LeavesList}
use Rattle.image_audit.specs.Depths.{AreReached, IsDepth, IsEntryOf, IsParent, IsPath, LeadsTo}
use Rattle.image_audit.specs.Entries.{entry_at}

pub like_back : (v w : World) → AreLike v w → AreLike w v
like_back v w like = record { geometry = sym like.geometry; version = sym like.version; count = sym like.count; live = λ b. sym (like.live b); pairs = sym like.pairs; records = sym like.records }

-- ---- what is reached

held_like : (v w : World) → AreLike v w → (a b : ℕ) → IsTrue (holds v.pairs a b) → IsTrue (holds w.pairs a b)
held_like v w like a b h = subst (λ (es : List (ℕ × ℕ)). IsTrue (holds es a b)) like.pairs h

round_like : (v w : World) → AreLike v w → (from : List ℕ) → reach_round v from ≡ reach_round w from
round_like v w like from = λ i. filter (λ b. has_number from b || list_any (λ e. (e.1 == b) && has_number from e.0) (like.pairs i)) (range_with_len 0 (like.count i))

rounds_like : (v w : World) → AreLike v w → (start : List ℕ) (n : ℕ) → reach_rounds v start n ≡ reach_rounds w start n
rounds_like v w like start zero = refl
rounds_like v w like start (suc n) = ap (reach_round v) (rounds_like v w like start n) ∙ round_like v w like (reach_rounds w start n)

reach_like : (v w : World) → AreLike v w → (start : List ℕ) → reach_from v start ≡ reach_from w start
reach_like v w like start = ap (λ (g : Geometry). reach_rounds v start g.blocks) like.geometry ∙ rounds_like v w like start w.geometry.blocks

path_like : (v w : World) → AreLike v w → (roots : List ℕ) (n b : ℕ) → IsPath v roots n b → IsPath w roots n b
path_like v w like roots zero b h = h
path_like v w like roots (suc n) b h = (h.0, path_like v w like roots n h.0 h.1, held_like v w like h.0 b h.2)

depth_like : (v w : World) → AreLike v w → (roots : List ℕ) (b d : ℕ) → IsDepth v roots b d → IsDepth w roots b d
depth_like v w like roots b d h = record { path = path_like v w like roots d b h.path; shortest = λ n p. h.shortest n (path_like w v (like_back v w like) roots n b p) }

leads_like : (v w : World) → AreLike v w → (roots : List ℕ) (b d a : ℕ) → LeadsTo v roots b d a → LeadsTo w roots b d a
leads_like v w like roots b d a h = record { points = held_like v w like a b h.points; above = depth_like v w like roots a d h.above }

parent_like : (v w : World) → AreLike v w → (roots : List ℕ) (b d : ℕ) (p : Option ℕ) → IsParent v roots b d p → IsParent w roots b d p
parent_like v w like roots b zero None h = tt
parent_like v w like roots b zero (Some a) h = h
parent_like v w like roots b (suc d) None h = h
parent_like v w like roots b (suc d) (Some a) h = record { leads = leads_like v w like roots b d a h.leads; least = λ c l. h.least c (leads_like w v (like_back v w like) roots b d c l) }

entry_like : (v w : World) → AreLike v w → (roots : List ℕ) (b : ℕ) (o : Option Entry) → IfSome o (IsEntryOf v roots b) → IfSome o (IsEntryOf w roots b)
entry_like v w like roots b None h = tt
entry_like v w like roots b (Some e) h = record { depth = depth_like v w like roots b e.depth h.depth; parent = parent_like v w like roots b e.depth e.parent h.parent }

primaries_like : (v w : World) → AreLike v w → primary_blocks v ≡ primary_blocks w
primaries_like v w like = ap (λ (g : Geometry). range_with_len 0 g.primaries) like.geometry

pub reached_like : (v w : World) → AreLike v w → (entries : List (Option Entry)) → AreReached v (primary_blocks v) entries → AreReached w (primary_blocks w) entries
reached_like v w like entries h = subst (λ (roots : List ℕ). AreReached w roots entries) (primaries_like v w like) (record {
  listed = λ b. h.listed b ∙ ap (λ (r : List ℕ). has_number r b) (reach_like v w like (primary_blocks v));
  each = λ b. entry_like v w like (primary_blocks v) b (entry_at entries b) (h.each b);
})

-- ---- what a certificate shows

primary_like : (v w : World) → AreLike v w → (b : ℕ) → is_primary v b ≡ is_primary w b
primary_like v w like b = ap (λ (g : Geometry). nat_lt b g.primaries) like.geometry

all_primaries : (v w : World) → AreLike v w → (es : List (Option Entry)) → ListsPrimaries v es → ListsPrimaries w es
all_primaries v w like es h b p = h b (primary_like v w like b ∙ p)

above_like : (v w : World) → AreLike v w → (es : List (Option Entry)) (b d : ℕ) (p : Option ℕ) → HasParent v es b d p → HasParent w es b d p
above_like v w like es b d None h = h
above_like v w like es b d (Some a) h = record { listed = h.listed; points = held_like v w like a b h.points; depth = h.depth }

good_like : (v w : World) → AreLike v w → (es : List (Option Entry)) (b : ℕ) (e : Entry) → IsGoodEntry v es b e → IsGoodEntry w es b e
good_like v w like es b e h = elim (is_primary w b) as (λ t. MatchBool t (IsPrimaryEntry e) (HasParent v es b e.depth e.parent) → MatchBool t (IsPrimaryEntry e) (HasParent w es b e.depth e.parent)) [
  | true ↦ λ f. f
  | false ↦ λ f. above_like v w like es b e.depth e.parent f
] (subst (λ t. MatchBool t (IsPrimaryEntry e) (HasParent v es b e.depth e.parent)) (primary_like v w like b) h)

each_good : (v w : World) → AreLike v w → (es : List (Option Entry)) (b : ℕ) (o : Option Entry) → IfSome o (IsGoodEntry v es b) → IfSome o (IsGoodEntry w es b)
each_good v w like es b None h = tt
each_good v w like es b (Some e) h = good_like v w like es b e h

all_good : (v w : World) → AreLike v w → (es : List (Option Entry)) → HasGoodEntries v es → HasGoodEntries w es
all_good v w like es h b = each_good v w like es b (entry_at es b) (h b)

leaves_like : (v w : World) → AreLike v w → (es : List (Option Entry)) (a b : ℕ) → LeavesList v es a b → LeavesList w es a b
leaves_like v w like es a b h = record { points = held_like v w like a b h.points; from = h.from; out = h.out }

pub verdict_like : (v w : World) → AreLike v w → (es : List (Option Entry)) (r : Verdict) → IsVerdict v es r → IsVerdict w es r
verdict_like v w like es (verdict.Primary b) h = record { primary = sym (primary_like v w like b) ∙ h.primary; out = h.out; least = h.least }
verdict_like v w like es (verdict.Entry b) h = (
  all_primaries v w like es h.0,
  record {
    bad = (h.1.bad.0, h.1.bad.1, λ good. h.1.bad.2 (good_like w v (like_back v w like) es b h.1.bad.0 good));
    least = λ c less. each_good v w like es c (entry_at es c) (h.1.least c less);
  },
)
verdict_like v w like es (verdict.Open a b) h = (
  all_primaries v w like es h.0,
  all_good v w like es h.1,
  record { leaves = leaves_like v w like es a b h.2.leaves; least = λ c d l. h.2.least c d (leaves_like w v (like_back v w like) es c d l) },
)
verdict_like v w like es (verdict.Yes n) h = (all_primaries v w like es h.0, all_good v w like es h.1, (λ a b l. h.2 a b (leaves_like w v (like_back v w like) es a b l)), h.3)
