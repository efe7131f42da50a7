-- What memory tells of free blocks, where nothing is doomed.
use Rattle.std.proofs.Common.{◌≡◌, ℕ, suc, ◌+◌, ◌<◌, ◌≤◌, true, false, ◌&&◌, ◌||◌, ◌==◌, nat_lt, inl, inr, Bool, not, List, [], ◌∷◌, length, refl, sym, ◌∙◌, ap, subst, arith}
use Rattle.std.proofs.Common.{Option, Some, None}
use Rattle.volume_laws.proofs.Common.{slice_get, is_some, is_none, cases_Bool, and_parts, both_ways, nat_tests, Geometry, World, contents, is_live, is_free, has_number, doomed, settle, View, weakened, joined, is_marked_in, Stands, Tables, pairs_of, world_with, zeros_of, blank_of, live-restricted, live_with, blocks_with, AreFree, Volume, IsVolumeReady, told_by, world_on, LeavesEither, LeavesWorld, StandsForEither, owed}
use Rattle.graph_laws.proofs.SameLaws.{length-restricted}
use Rattle.volume_laws.proofs.Pointed.{settled_pairs}
use Rattle.volume_laws.proofs.TableWorlds.{blank, same_doomed, none_owed}

none_some : (o : Option (List ℕ)) → is_none o ≡ true → is_some o ≡ false
none_some None h = refl
none_some (Some x) h = absurd (cc)

below_both : (m n : ℕ) → nat_lt m n ≡ true → m < n
below_both m n h = grind (arith, nat_tests)

-- a block that is told free has a bit that is 0
free_raw : (t : Tables) (b : ℕ) → t.is_sweeping ≡ false → owed t ≡ 0 → is_free (blank_of t) b ≡ true → (b < t.geometry.blocks) × (is_marked_in t.live b ≡ false)
free_raw t b still none free = (
  inside,
  elim (cases_Bool (is_marked_in t.live b)) [
    | inl on ↦ absurd (both_ways (is_live (settle w) b) (none_some (contents (settle w) b) parts.1) (live-restricted w keep b ∙ (kept ∙ (live_with t (zeros_of t) b inside ∙ on))))
    | inr off ↦ off
  ],
)
  where
    w : World
    w = world_with t (zeros_of t)

    keep : ℕ → Bool
    keep k = not (has_number (doomed w) k)

    empty : doomed w ≡ []
    empty = same_doomed t (zeros_of t) ∙ (none_owed t).0 none

    parts : (nat_lt b (length (settle w).blocks) ≡ true) × (is_none (contents (settle w) b) ≡ true)
    parts = and_parts (nat_lt b (length (settle w).blocks)) (is_none (contents (settle w) b)) (ap (λ v. is_free v b) (sym (blank t still)) ∙ free)

    inside : b < t.geometry.blocks
    inside = let less = below_both b (length (settle w).blocks) parts.0 in omega (arith, less, length-restricted w keep, blocks_with t (zeros_of t))

    kept : (keep b && is_live w b) ≡ is_live w b
    kept = ap (λ (xs : List ℕ). not (has_number xs b) && is_live w b) empty

-- ---- a list of them
number_get : (bs : List ℕ) (b : ℕ) → has_number bs b ≡ true → (k : ℕ) × (slice_get bs k ≡ Some b)
number_get [] b h = absurd (cc)
number_get (c ∷ cs) b h = elim (cases_Bool (c == b)) [
  | inl e ↦ (0, ap Some (equal c b e))
  | inr e ↦ let rest : has_number cs b ≡ true = (λ i. sym e i || has_number cs b) ∙ h in let found = number_get cs b rest in (suc found.0, found.1)
]
  where
    equal : (m k : ℕ) → (m == k) ≡ true → m ≡ k
    equal m k e = grind (arith, nat_tests)

are_free : (live : List Bool) (n : ℕ) (bs : List ℕ) → ((i b : ℕ) → slice_get bs i ≡ Some b → (b < n) × (is_marked_in live b ≡ false))
    → ((i j b : ℕ) → slice_get bs i ≡ Some b → slice_get bs j ≡ Some b → i ≡ j) → AreFree live n bs
are_free live n [] each apart = tt
are_free live n (b ∷ bs) each apart =
    let here = each 0 b refl in
    (here.0, here.1, alone, are_free live n bs (λ i c h. each (suc i) c h) (λ i j c h k. let e = apart (suc i) (suc j) c h k in omega (arith, e)))
  where
    alone : has_number bs b ≡ false
    alone = elim (cases_Bool (has_number bs b)) [
      | inl e ↦ let found = number_get bs b e in absurd (let same = apart 0 (suc found.0) b refl found.1 in omega (arith, same))
      | inr e ↦ e
    ]

pub told_free : (old new : Volume) (bs : List ℕ) → IsVolumeReady new → owed new.tables ≡ 0 → told_by new ≡ told_by old
    → ((i b : ℕ) → slice_get bs i ≡ Some b → is_free (told_by old) b ≡ true) → ((i j b : ℕ) → slice_get bs i ≡ Some b → slice_get bs j ≡ Some b → i ≡ j)
    → AreFree new.tables.live new.tables.geometry.blocks bs
told_free old new bs ready none told free apart =
    are_free new.tables.live new.tables.geometry.blocks bs (λ i b h. free_raw new.tables b ready.1 none (ap (λ v. is_free v b) told ∙ free i b h)) apart

pub told_room : (old new : Volume) (bs : List ℕ) → IsVolumeReady new → owed new.tables ≡ 0 → told_by new ≡ told_by old → new.tables.geometry ≡ old.tables.geometry → length (told_by old).pairs + length bs ≤ old.tables.geometry.slots
    → length (pairs_of new.tables) + length bs ≤ new.tables.geometry.slots
told_room old new bs ready none told size room =
    let all = ap (λ (es : List (ℕ × ℕ)). length es) (settled_pairs new.tables ready.1 none) in
    let same : length (told_by new).pairs ≡ length (told_by old).pairs = ap (λ (w : World). length w.pairs) told in
    let slots = ap (λ (g : Geometry). g.slots) size in
    omega (arith, all, same, slots, room)

-- two runs, of which the second changes the world
pub then_moments : (v0 v1 v2 : View) (change : World → World) → LeavesWorld v0 v1 → world_on v1 ≡ world_on v0 → v1.sent ≡ v0.sent → LeavesEither v1 v2 (change (world_on v1)) → LeavesEither v0 v2 (change (world_on v0))
then_moments v0 v1 v2 change one w1 s1 two =
    joined v0 v1 v2 (λ x f. StandsForEither (world_on v0) (change (world_on v0)) x × (f ≡ v0.sent)) (λ x f. StandsForEither (world_on v1) (change (world_on v1)) x × (f ≡ v1.sent))
    (weakened v0 v1 (λ x f. Stands x (world_on v0) × (f ≡ v0.sent)) (λ x f. StandsForEither (world_on v0) (change (world_on v0)) x × (f ≡ v0.sent)) one (λ x f left. (inl left.0, left.1)))
    two (λ x f left. (subst (λ w. StandsForEither w (change w) x) w1 left.0, left.1 ∙ s1))

-- two runs, of which the first changes the world
pub change_first : (v0 v1 v2 : View) (change : World → World) → LeavesEither v0 v1 (change (world_on v0)) → world_on v1 ≡ change (world_on v0) → v1.sent ≡ v0.sent → LeavesWorld v1 v2 → LeavesEither v0 v2 (change (world_on v0))
change_first v0 v1 v2 change one w1 s1 two =
    joined v0 v1 v2 (λ x f. StandsForEither (world_on v0) (change (world_on v0)) x × (f ≡ v0.sent)) (λ x f. Stands x (world_on v1) × (f ≡ v1.sent)) one two
    (λ x f left. (inr (subst (Stands x) w1 left.0), left.1 ∙ s1))
