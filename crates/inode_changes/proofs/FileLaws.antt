-- A file whose blocks were written: its inode is written, and it is read back.
use Rattle.std.proofs.Common.{◌≡◌, ℕ, zero, suc, ◌+◌, ◌-◌, ◌*◌, ◌^◌, ◌<◌, ◌≤◌, true, false, not, ◌==◌, nat_lt, List, [], ◌∷◌, ◌++◌, length, refl, sym, ◌∙◌, ap, subst, arith, inl, inr, ◌⊎◌, length-append, Option, Some, None, Result, Ok}
use Rattle.inode_changes.proofs.Common.{and_parts, and_from, or_cases, or_left, or_right, eq-eqb, not-true, false_from_ne_true, cases_lt, nat_tests, length-take, length-drop, take_all, take-append-drop, take-append-le, append_assoc, div_ceil_times, flat_map-append, mul-le-mul_right, take-append_seam, take, drop, flat_map, replicate, unwrap_or, is_some, is_none, count_by, IfSome, div_ceil, option_and_then, little_bytes, block_len, World, contents, is_live, free_count, has_number, are_apart, IsValid, filled, written, contents-other, live-with_contents, live_below, regular, data_room, inode_in, inode_bytes, inode_at, file_bytes, flat_map_same, in_append, DiskView, FsRefusal, IsValidNow, Stays, Runs, Client, write_by, MayWrite, refusal_before, Steps, Leads, Went, no_room_in, clash_free_live, runs_more, runs_step, then_runs, written_here, may_after, bytes_at, are_small, reads_back, Making, Content, RootReaches, shared_of, shared_count, new_bytes, new_count, all_count, FitsInode, IsFor, Stage, HoldBytes, AsideWith, Wrote, AsideOf, AsideTaking, Took, Shared, joined, IsFilledFile, Filled}
use Rattle.inode_changes.proofs.FillLaws.{made_by_one, stop_at_one}
use Rattle.inode_changes.proofs.RoomLaws.{refused_then, room_then}
use Rattle.inode_changes.proofs.PartLaws.{shares_many, small_size}
use Rattle.tsd_model.proofs.ValueLaws.{clash}

-- ---- the bytes of its blocks

-- more bytes behind are cut off
cut_off : (n : ℕ) (xs ys : List ℕ) → length xs ≡ n → take n (xs ++ ys) ≡ xs
cut_off n xs ys e = subst (λ k. take k (xs ++ ys) ≡ xs) e (take-append_seam xs ys)

take_behind : (n m : ℕ) (xs ys : List ℕ) → length xs ≡ n → take (n + m) (xs ++ ys) ≡ xs ++ take m ys
take_behind n m [] ys e = let none : n + m ≡ m = omega (arith, e) in ap (λ k. take k ys) none
take_behind zero m (x ∷ xs) ys e = absurd (omega (arith, e))
take_behind (suc n) m (x ∷ xs) ys e =
    let next : suc n + m ≡ suc (n + m) = omega arith in
    let less : length xs ≡ n = omega (arith, e) in
    ap (λ k. take k (x ∷ (xs ++ ys))) next ∙ ap (λ zs. x ∷ zs) (take_behind n m xs ys less)

pub holds_bytes : (len : ℕ) (w : World) (blocks bytes : List ℕ) → HoldBytes len w blocks bytes → take (length bytes) (flat_map (λ b. unwrap_or (contents w b) []) blocks) ≡ bytes
holds_bytes len w [] bytes e = ap (λ n. take (length n) []) e ∙ sym e
holds_bytes len w (b ∷ bs) bytes h =
    let later = holds_bytes len w bs (drop len bytes) h.1 in
    let F = flat_map (λ b. unwrap_or (contents w b) []) bs in
    let here : flat_map (λ b. unwrap_or (contents w b) []) (b ∷ bs) ≡ filled len (take len bytes) ++ F = ap (λ o. unwrap_or o [] ++ F) h.0 in
    ap (take (length bytes)) here ∙ elim (cases_lt len (length bytes)) [
      | inr short ↦
          let whole : take len bytes ≡ bytes = take_all len bytes short in
          ap (λ x. take (length bytes) ((x ++ replicate (len - length x) 0) ++ F)) whole
          ∙ (ap (take (length bytes)) (append_assoc bytes (replicate (len - length bytes) 0) F) ∙ cut_off (length bytes) bytes (replicate (len - length bytes) 0 ++ F) refl)
      | inl long ↦
          let front : length (take len bytes) ≡ len = let is = length-take len bytes in omega (arith, is, long) in
          let none : len - length (take len bytes) ≡ 0 = omega (arith, front) in
          let parts : length bytes ≡ len + length (drop len bytes) = let is = length-drop len bytes in omega (arith, is, long) in
          ap (λ k. take (length bytes) ((take len bytes ++ replicate k 0) ++ F)) none
          ∙ (ap (λ x. take (length bytes) (x ++ F)) (append_none (take len bytes))
          ∙ (ap (λ n. take n (take len bytes ++ F)) parts
          ∙ (take_behind len (length (drop len bytes)) (take len bytes) F front
          ∙ (ap (λ x. take len bytes ++ x) later ∙ take-append-drop len bytes))))
    ]
  where
    append_none : (xs : List ℕ) → xs ++ [] ≡ xs
    append_none [] = refl
    append_none (x ∷ xs) = ap (λ ys. x ∷ ys) (append_none xs)

-- ---- its inode

small_live : (w : World) → IsValid w → (bs : List ℕ) → ((b : ℕ) → has_number bs b ≡ true → is_live w b ≡ true) → are_small bs ≡ true
small_live w valid [] h = refl
small_live w valid (b ∷ bs) h =
    let below = live_below w.blocks b (h b (or_left (b == b) _ (eq-eqb b b refl))) in
    let many = valid.raw.sized.each_block in
    let most = valid.raw.sized.lawful.blocks.1 in
    and_from (nat_lt b (2 ^ 32)) _ (grind (arith, nat_tests)) (small_live w valid bs (λ k m. h k (or_right (b == k) _ m)))

length-numbers : (bs : List ℕ) → length (flat_map (little_bytes 4) bs) ≡ 4 * length bs
length-numbers [] = refl
length-numbers (b ∷ bs) = let later = length-numbers bs in let both = length-append (little_bytes 4 b) (flat_map (little_bytes 4) bs) in omega (arith, later, both)

pub inode_length : (size : ℕ) (bs : List ℕ) → length (inode_bytes (regular size bs)) ≡ 16 + 4 * length bs
inode_length size bs = let list = length-numbers bs in omega (arith, list)

-- room for its blocks is room for its bytes
pub inode_fits : (w : World) (size : ℕ) (bs : List ℕ) → IsValid w → length bs ≤ data_room (block_len w.geometry) → length (inode_bytes (regular size bs)) ≤ block_len w.geometry
inode_fits w size bs valid room =
    let long = inode_length size bs in
    let head = big w.geometry.sectors valid.raw.sized.lawful.sectors in
    omega (arith, long, room, head)
  where
    big : (k : ℕ) → (k ≡ 1) ⊎ (k ≡ 2) ⊎ (k ≡ 4) ⊎ (k ≡ 8) → 16 ≤ 512 * k
    big k h = elim h [ inl one ↦ omega (arith, one) | inr more ↦ elim more [ inl two ↦ omega (arith, two) | inr most ↦ elim most [ inl four ↦ omega (arith, four) | inr eight ↦ omega (arith, eight) ] ] ]

-- ---- shared and fresh blocks together

apart_both : (xs ys : List ℕ) → are_apart xs ≡ true → are_apart ys ≡ true → ((b : ℕ) → has_number xs b ≡ true → has_number ys b ≡ true → ⊥) → are_apart (xs ++ ys) ≡ true
apart_both [] ys one two never = two
apart_both (x ∷ xs) ys one two never =
    let parts = and_parts (not (has_number xs x)) (are_apart xs) one in
    and_from (not (has_number (xs ++ ys) x)) (are_apart (xs ++ ys))
    (ap not (false_from_ne_true (has_number (xs ++ ys) x) (λ h. elim (in_append xs ys x h) [
      | inl again ↦ clash (has_number xs x) again (not-true (has_number xs x) parts.0)
      | inr other ↦ never x (or_left (x == x) _ (eq-eqb x x refl)) other
    ])))
    (apart_both xs ys parts.1 two (λ b h k. never b (or_right (x == b) _ h) k))

-- each live block has as many bytes
long_live : (w : World) → IsValid w → (bs : List ℕ) → ((b : ℕ) → has_number bs b ≡ true → is_live w b ≡ true) → length (flat_map (bytes_at w) bs) ≡ block_len w.geometry * length bs
long_live w valid [] h = omega arith
long_live w valid (b ∷ bs) h =
    let here = whole (contents w b) (valid.raw.sized.full b) (h b (or_left (b == b) _ (eq-eqb b b refl))) in
    let later = long_live w valid bs (λ k m. h k (or_right (b == k) _ m)) in
    let both = length-append (bytes_at w b) (flat_map (bytes_at w) bs) in
    omega (arith, here, later, both)
  where
    whole : (o : Option (List ℕ)) → IfSome o (λ bytes. length bytes ≡ block_len w.geometry) → is_some o ≡ true → length (unwrap_or o []) ≡ block_len w.geometry
    whole (Some x) e p = e
    whole None e p = absurd (cc)

-- what stands behind so many bytes of them and these isn't read
joined_so : (n : ℕ) (xs F bytes : List ℕ) → take (length bytes) F ≡ bytes → n ≤ length xs + length bytes → take n (xs ++ F) ≡ take n (xs ++ bytes)
joined_so n xs F bytes e h =
    let both = length-append xs bytes in
    ap (λ ys. take n (xs ++ ys)) (sym (take-append-drop (length bytes) F) ∙ ap (λ ys. ys ++ drop (length bytes) F) e)
    ∙ (ap (take n) (sym (append_assoc xs bytes (drop (length bytes) F))) ∙ take-append-le n (xs ++ bytes) (drop (length bytes) F) (omega (arith, both, h)))

-- ---- from the blocks shared to the inode written

module _ (c : Client) (old vs v1 v2 : DiskView) (i n : ℕ) (shared bytes blocks : List ℕ) (sh : Shared c old vs i shared) (took : Took c vs v1 i n blocks) (wrote : Wrote c v1 v2 blocks bytes) where
  among_inode : has_number (i ∷ []) i ≡ true
  among_inode = or_left (i == i) _ (eq-eqb i i refl)

  made_one : (first : World) (d : ℕ) → Stage c.root first d → Making c.root first d i [] [] old.world → RootReaches c.root first shared → Making c.root first d i shared blocks v1.world
  made_one first d at m reached = took.making first d shared at (sh.making first d at m reached)

  made_two : (first : World) (d : ℕ) → Stage c.root first d → Making c.root first d i [] [] old.world → RootReaches c.root first shared → Making c.root first d i shared blocks v2.world
  made_two first d at m reached = wrote.here.making first d i shared blocks at (made_one first d at m reached) (λ b j. or_right (i == b) _ j)

  inode_only : (b : ℕ) → has_number (i ∷ []) b ≡ true → has_number (i ∷ blocks) b ≡ true
  inode_only b j = elim (or_cases (i == b) false j) [ inl here ↦ or_left (i == b) _ here | inr never ↦ absurd (cc) ]

  pub stop_at_inode : (y : List ℕ) (v : World) → (v ≡ v2.world) ⊎ ((v ≡ written v2.world i y) × Leads v2.world (write_by c i y) (written v2.world i y)) → AsideOf c.root i shared old.world v
  stop_at_inode y v h first d at m reached = stop_at_one c (i ∷ []) i among_inode v2.world y v h first d i shared blocks at (made_two first d at m reached) inode_only

  module _ (v3 : DiskView) (size : ℕ) (now : IsValidNow v2) (may : MayWrite c v2 i) (went : Went c v2 v3 (write_by c i (inode_bytes (regular size (shared ++ blocks)))) i (written v2.world i (inode_bytes (regular size (shared ++ blocks))))) (stays : Stays v2 v3)
      (enough : length (shared ++ blocks) ≡ div_ceil size (block_len old.world.geometry)) (room : length (shared ++ blocks) ≤ data_room (block_len old.world.geometry)) (few : size < 2 ^ 32)
      (most : size ≤ block_len old.world.geometry * length shared + length bytes) (apart : are_apart shared ≡ true) where
    abbrev x : List ℕ
    x = inode_bytes (regular size (shared ++ blocks))

    abbrev after : World
    after = written v2.world i (inode_bytes (regular size (shared ++ blocks)))

    same_size : v2.world.geometry ≡ old.world.geometry
    same_size = wrote.here.geometry ∙ (took.geometry ∙ sh.geometry)

    module _ (first : World) (d : ℕ) (at : Stage c.root first d) (m : Making c.root first d i [] [] old.world) (reached : RootReaches c.root first shared) where
      abbrev m2 : Making c.root first d i shared blocks v2.world
      m2 = made_two first d at m reached

      -- what was live there isn't new
      not_new : (b : ℕ) → has_number shared b ≡ true → has_number (i ∷ blocks) b ≡ false
      not_new b h = false_from_ne_true (has_number (i ∷ blocks) b) (λ k. clash_free_live first b (m2.free b k) (m2.old b h))

      each_live : (b : ℕ) → has_number (shared ++ blocks) b ≡ true → is_live v2.world b ≡ true
      each_live b h = elim (in_append shared blocks b h) [
        | inl old ↦ ap is_some (m2.bytes b (not_new b old)) ∙ m2.old b old
        | inr part ↦ m2.lives b (or_right (i == b) _ part)
      ]

      all_apart : are_apart (shared ++ blocks) ≡ true
      all_apart = apart_both shared blocks apart (and_parts (not (has_number blocks i)) (are_apart blocks) m2.once).1 (λ b h k. clash (has_number (i ∷ blocks) b) (or_right (i == b) _ k) (not_new b h))

      says_so : inode_at after i ≡ Some (regular size (shared ++ blocks))
      says_so =
          let len = block_len v2.world.geometry in
          ap (option_and_then (inode_in len)) (written_here v2.world i x may.live)
          ∙ reads_back len (regular size (shared ++ blocks)) (replicate (len - length x) 0) (
            enough ∙ ap (λ g. div_ceil size (block_len g)) (sym same_size),
            subst (λ g. length (shared ++ blocks) ≤ data_room (block_len g)) (sym same_size) room,
            few,
            small_live v2.world now.valid (shared ++ blocks) each_live,
          )
          all_apart

      -- the inode is none of them
      same_bytes : (b : ℕ) → b ≡ i → has_number (i ∷ blocks) b ≡ true
      same_bytes b e = or_left (i == b) _ (eq-eqb i b (sym e))

      old_bytes : (b : ℕ) → has_number shared b ≡ true → bytes_at after b ≡ bytes_at first b
      old_bytes b h = ap (λ o. unwrap_or o []) (contents-other v2.world i b (filled (block_len v2.world.geometry) x) (λ e. clash (has_number (i ∷ blocks) b) (same_bytes b e) (not_new b h)) ∙ m2.bytes b (not_new b h))

      part_bytes : (b : ℕ) → has_number blocks b ≡ true → bytes_at after b ≡ bytes_at v2.world b
      part_bytes b h = ap (λ o. unwrap_or o []) (contents-other v2.world i b (filled (block_len v2.world.geometry) x)
          (λ e. clash (has_number blocks i) (subst (λ k. has_number blocks k ≡ true) e h) (not-true (has_number blocks i) (and_parts (not (has_number blocks i)) (are_apart blocks) m2.once).0)))

      bytes_so : file_bytes after (record { block = i; size = size; blocks = shared ++ blocks }) ≡ take size (joined first shared bytes)
      bytes_so =
          let long = long_live first at.valid shared m2.old in
          let same : block_len old.world.geometry ≡ block_len first.geometry = ap block_len (sym same_size ∙ m2.geometry) in
          ap (take size) (flat_map-append (bytes_at after) shared blocks
          ∙ (ap (λ xs. xs ++ flat_map (bytes_at after) blocks) (flat_map_same (bytes_at after) (bytes_at first) shared old_bytes)
          ∙ ap (λ xs. flat_map (bytes_at first) shared ++ xs) (flat_map_same (bytes_at after) (bytes_at v2.world) blocks part_bytes)))
          ∙ joined_so size (flat_map (bytes_at first) shared) (flat_map (bytes_at v2.world) blocks) bytes (holds_bytes (block_len v1.world.geometry) v2.world blocks bytes wrote.here.holds)
          (subst (λ k. size ≤ k + length bytes) (sym long) (subst (λ k. size ≤ k * length shared + length bytes) same most))

      the_file : IsFilledFile c.root first d i size shared bytes after
      the_file = record {
        fresh = blocks;
        making = made_by_one c (i ∷ []) i among_inode v2.world x went.leads first d i shared blocks at m2 inode_only;
        says = says_so;
        many = enough ∙ ap (λ g. div_ceil size (block_len g)) (sym same_size);
        bytes_are = bytes_so;
      }

    pub filled_so : Filled c old v3 i size shared bytes
    filled_so = record {
      geometry = ap (λ w. w.geometry) went.world ∙ same_size;
      file = λ first d at m reached. subst (IsFilledFile c.root first d i size shared bytes) (sym went.world) (the_file first d at m reached);
      may = λ b h. may_after c v2 v3 (write_by c i x) i after went now refl refl (λ p q j. j)
          (λ k j. live-with_contents v2.world i k (filled (block_len v2.world.geometry) x) j) stays b (wrote.may b (took.may b (sh.may b h)));
    }

-- ---- how many blocks so few bytes take

-- less than a block and 4,096 bytes
pub few_blocks : (size len : ℕ) → size < len + 4096 → 512 ≤ len → div_ceil size len ≤ 32
few_blocks size len few some =
    let bound = (div_ceil_times size len (omega (arith, some))).1 in
    elim (cases_lt 32 (div_ceil size len)) [
      | inl many ↦ absurd (never (div_ceil size len * len) (mul-le-mul_right {m = 33} {n = div_ceil size len} len (omega (arith, many))) bound)
      | inr most ↦ most
    ]
  where
    never : (p : ℕ) → 33 * len ≤ p → p < size + len → ⊥
    never p h k = omega (arith, h, k, few, some)

pub least_block : (w : World) → IsValid w → 512 ≤ block_len w.geometry
least_block w valid = big w.geometry.sectors valid.raw.sized.lawful.sectors
  where
    big : (k : ℕ) → (k ≡ 1) ⊎ (k ≡ 2) ⊎ (k ≡ 4) ⊎ (k ≡ 8) → 512 ≤ 512 * k
    big k h = elim h [ inl one ↦ omega (arith, one) | inr more ↦ elim more [ inl two ↦ omega (arith, two) | inr most ↦ elim most [ inl four ↦ omega (arith, four) | inr eight ↦ omega (arith, eight) ] ] ]

-- ---- the call, stage by stage

-- after the sharing: the room for the new blocks is that of the time before it
module _ {c : Client} {old vs : DiskView} {i : ℕ} (content : Content) (sh : Shared c old vs i (shared_of content)) (free : new_count content ≤ free_count old.world) where
  pairs_more : length vs.world.pairs ≡ length old.world.pairs + shared_count content
  pairs_more = sh.pairs ∙ ap (λ k. length old.world.pairs + k) (shares_many content)

  pub full_taken : (e : FsRefusal) → no_room_in vs.world (new_count content) (new_count content) ≡ Some e → no_room_in old.world (new_count content) (all_count content) ≡ Some (refusal_before e (shared_count content))
  full_taken e full = refused_then old.world vs.world (new_count content) (shared_count content) sh.geometry (ap (count_by is_none) sh.same) pairs_more free e full

  pub room_taken : ◌≡◌ {A = Option FsRefusal} (no_room_in vs.world (new_count content) (new_count content)) None → ◌≡◌ {A = Option FsRefusal} (no_room_in old.world (new_count content) (all_count content)) None
  room_taken room = room_then old.world vs.world (new_count content) (shared_count content) sh.geometry (ap (count_by is_none) sh.same) pairs_more free room

-- after the new blocks were taken, or where that stopped
pub taken_runs : {X : Type 0} {told : Type 0} {c : Client} {old vs v1 : DiskView} {i : ℕ} {shared : List ℕ} {result : Result X FsRefusal} → (told → Shared c old vs i shared) → Runs {X = Unit {0}} told old vs (AsideOf c.root i shared old.world) (Ok tt)
    → Runs told vs v1 (AsideTaking c.root i vs.world) result → Runs told old v1 (AsideOf c.root i shared old.world) result
taken_runs {told = told} {c = c} {old = old} {vs = vs} {v1 = v1} {i = i} {shared = shared} {result = result} sh shares takes =
    let P = AsideOf c.root i shared old.world in
    then_runs told old vs v1 P tt result shares
    (runs_more told vs v1 (AsideTaking c.root i vs.world) P result (λ t w k first d at m reached. k first d shared at ((sh t).making first d at m reached)) takes)

-- after the bytes were written to them, or where that stopped
pub written_runs : {X Y : Type 0} {told : Type 0} {c : Client} {old vs v1 v2 : DiskView} {i n : ℕ} {shared blocks : List ℕ} {y : Y} {result : Result X FsRefusal} → (told → Shared c old vs i shared) → (told → Took c vs v1 i n blocks)
    → Runs told old v1 (AsideOf c.root i shared old.world) (Ok y) → Runs told v1 v2 (AsideWith c.root blocks v1.world) result → Runs told old v2 (AsideOf c.root i shared old.world) result
written_runs {told = told} {c = c} {old = old} {vs = vs} {v1 = v1} {v2 = v2} {i = i} {shared = shared} {blocks = blocks} {y = y} {result = result} sh took taken writes =
    let P = AsideOf c.root i shared old.world in
    then_runs told old v1 v2 P y result taken
    (runs_more told v1 v2 (AsideWith c.root blocks v1.world) P result
    (λ t w k first d at m reached. k first d i shared blocks at ((took t).making first d shared at ((sh t).making first d at m reached)) (λ b j. or_right (i == b) _ j)) writes)

-- the inode shares what it is to, its new blocks hold the bytes, and it is to be written
pub record HasParts (told : Type 0) (c : Client) (old vs v1 v2 : DiskView) (i n : ℕ) (content : Content) (blocks : List ℕ) : Type 0 where
  pub room : FitsInode content
  pub suits : told → IsFor c old content
  pub shared : told → Shared c old vs i (shared_of content)
  pub took : told → Took c vs v1 i n blocks
  pub wrote : told → Wrote c v1 v2 blocks (new_bytes content)
  pub each : length blocks ≡ new_count content
  pub may : told → MayWrite c v2 i
  pub runs : Runs {X = Unit {0}} told old v2 (AsideOf c.root i (shared_of content) old.world) (Ok tt)

pub parts_so : {Y : Type 0} {told : Type 0} {c : Client} {old vs v1 v2 : DiskView} {i n : ℕ} {content : Content} {blocks : List ℕ} {y : Y} → FitsInode content → (told → IsFor c old content) → (told → MayWrite c old i)
    → (told → Shared c old vs i (shared_of content)) → (told → Took c vs v1 i n blocks) → length blocks ≡ new_count content → (told → Wrote c v1 v2 blocks (new_bytes content))
    → Runs told old v1 (AsideOf c.root i (shared_of content) old.world) (Ok y) → Runs {X = Unit {0}} told v1 v2 (AsideWith c.root blocks v1.world) (Ok tt) → HasParts told c old vs v1 v2 i n content blocks
parts_so {i = i} room suits may shared took each wrote taken writes = record {
  room = room;
  suits = suits;
  shared = shared;
  took = took;
  wrote = wrote;
  each = each;
  may = λ t. (wrote t).may i ((took t).may i ((shared t).may i (may t)));
  runs = written_runs shared took taken writes;
}

module _ {told : Type 0} {c : Client} {old vs v1 v2 : DiskView} {i n : ℕ} {content : Content} {blocks : List ℕ} (x : HasParts told c old vs v1 v2 i n content blocks) where
  abbrev all : List ℕ
  all = shared_of content ++ blocks

  abbrev head : List ℕ
  head = inode_bytes (regular content.size (shared_of content ++ blocks))

  now : told → IsValidNow v2
  now t = (x.runs.valid t).0

  count : length all ≡ all_count content
  count = length-append (shared_of content) blocks ∙ (ap (λ k. k + length blocks) (shares_many content) ∙ ap (λ k. shared_count content + k) x.each)

  enough_room : told → length all ≤ data_room (block_len old.world.geometry)
  enough_room t = subst (λ k. length all ≤ data_room k) (x.suits t).len (subst (λ k. k ≤ data_room content.block_len) (sym count) x.room.room)

  pub head_fits : told → length (inode_bytes (regular content.size (shared_of content ++ blocks))) ≤ block_len v2.world.geometry
  head_fits t =
      let same : v2.world.geometry ≡ old.world.geometry = (x.wrote t).here.geometry ∙ ((x.took t).geometry ∙ (x.shared t).geometry) in
      inode_fits v2.world content.size all (now t).valid (subst (λ g. length all ≤ data_room (block_len g)) (sym same) (enough_room t))

  -- after the inode was written, or where that stopped
  pub inode_runs : {v3 : DiskView} {result : Result (Unit {0}) FsRefusal} → Steps told c v2 v3 (write_by c i (inode_bytes (regular content.size (shared_of content ++ blocks)))) i (written v2.world i (inode_bytes (regular content.size (shared_of content ++ blocks)))) result
      → Runs told old v3 (AsideOf c.root i (shared_of content) old.world) result
  inode_runs {v3 = v3} {result = result} steps =
      let P = AsideOf c.root i (shared_of content) old.world in
      then_runs told old v2 v3 P tt result x.runs
      (runs_step told c v2 v3 (write_by c i head) i (written v2.world i head) P result now (λ t. stop_at_inode c old vs v1 v2 i n (shared_of content) (new_bytes content) blocks (x.shared t) (x.took t) (x.wrote t) head) steps)

  pub has_file : {v3 : DiskView} → Steps {X = Unit {0}} told c v2 v3 (write_by c i (inode_bytes (regular content.size (shared_of content ++ blocks)))) i (written v2.world i (inode_bytes (regular content.size (shared_of content ++ blocks)))) (Ok tt)
      → told → Filled c old v3 i content.size (shared_of content) (new_bytes content)
  has_file {v3 = v3} steps t =
      let suits = x.suits t in
      filled_so c old vs v1 v2 i n (shared_of content) (new_bytes content) blocks (x.shared t) (x.took t) (x.wrote t) v3 content.size (now t) (x.may t) (steps.went t) steps.stays.0
      (count ∙ (suits.count ∙ ap (div_ceil content.size) suits.len)) (enough_room t) (small_size content content.size x.room suits.size)
      (subst (λ k. content.size ≤ k * length (shared_of content) + length (new_bytes content)) suits.len (subst (λ k. content.size ≤ content.block_len * k + length (new_bytes content)) (sym (shares_many content)) suits.size))
      suits.apart
