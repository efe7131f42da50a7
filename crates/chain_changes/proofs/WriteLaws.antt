-- The clusters of a chain in the making are written, one after the other.
use Rattle.std.proofs.Common.{◌≡◌, ℕ, zero, suc, ◌+◌, ◌-◌, ◌*◌, ◌^◌, ◌<◌, ◌≤◌, true, false, not, ◌||◌, ◌==◌, List, [], ◌∷◌, ◌++◌, length, refl, sym, ◌∙◌, ap, subst, arith, inl, inr, ◌⊎◌, Option, Some, Result, Ok}
use Rattle.chain_changes.proofs.Common.{and_parts, or_left, or_right, eq-eqb, not-true, length-drop, length-take, take-append_seam, take, drop, slice_index_or, replicate, option_and_then, block_len, World, contents, is_live, has_number, are_apart, filled, written, contents-other, contents-same, live-with_contents, live_below, Cluster, cluster_in, bytes_room, link_field, part_bytes, cluster_at, FsRefusal, DiskView, IsDiskSound, IsValidNow, Client, write_by, MayWrite, no_look, Leads, Went, Steps, Runs, runs_look, runs_step, then_runs, may_after, head_back, Making, IsAside, first_block, AreLinkable, AsideWith, MadeWith, ArePartsOf, WroteIn, Wrote}
use Rattle.chain_changes.proofs.MakingLaws.{aside_now, making_written}
use Rattle.tsd_model.proofs.ValueLaws.{clash, neither}

-- ---- the bytes of one cluster

pub part_length : (next : Option ℕ) (x : List ℕ) → length (part_bytes next x) ≡ 16 + length x
part_length next x = omega arith

-- what is written as a part of a file, in a block of this length
abbrev pub part_cluster : ℕ → Option ℕ → List ℕ → Cluster
part_cluster len next x = record { next = next; used = length x; body = x ++ replicate (len - length (part_bytes next x)) 0 }

pub part_back : (len : ℕ) (next : Option ℕ) (x : List ℕ) → link_field next < 2 ^ 32 → length x < 2 ^ 32 → cluster_in (filled len (part_bytes next x)) ≡ Some (part_cluster len next x)
part_back len next x linked few = head_back next (length x) x (replicate (len - length (part_bytes next x)) 0) linked few

pub first_linked : (blocks : List ℕ) → AreLinkable blocks → link_field (first_block blocks) < 2 ^ 32
first_linked [] linkable = omega arith
first_linked (b ∷ bs) linkable = linkable b (or_left (b == b) _ (eq-eqb b b refl))

-- ---- one of the new blocks is written

module _ (c : Client) (blocks : List ℕ) (b : ℕ) (among : has_number blocks b ≡ true) where
  pub made_by_one : (w : World) (x : List ℕ) → Leads w (write_by c b x) (written w b x) → MadeWith c.root blocks w (written w b x)
  made_by_one w x leads first source all at m new = making_written c.root first source at all w m c b x (new b among) leads

  pub stop_at_one : (w : World) (x : List ℕ) (v : World) → (v ≡ w) ⊎ ((v ≡ written w b x) × Leads w (write_by c b x) (written w b x)) → AsideWith c.root blocks w v
  stop_at_one w x v h first source all at m new = elim h [
    | inl before ↦ subst (IsAside c.root first) (sym before) (aside_now c.root first source at all w m)
    | inr e ↦ subst (IsAside c.root first) (sym e.0) (aside_now c.root first source at all (written w b x) (made_by_one w x e.1 first source all at m new))
  ]

pub aside_later : (root : ℕ) (blocks : List ℕ) (w mid v : World) → MadeWith root blocks w mid → AsideWith root blocks mid v → AsideWith root blocks w v
aside_later root blocks w mid v made h first source all at m new = h first source all at (made first source all at m new) new

pub aside_same : (root : ℕ) (blocks : List ℕ) (w v : World) → v ≡ w → AsideWith root blocks w v
aside_same root blocks w v e first source all at m new = subst (IsAside root first) (sym e) (aside_now root first source at all w m)

-- ---- a cluster before those that follow

-- no bytes are left
pub wrote_none : (root : ℕ) (w : World) (bytes : List ℕ) → bytes ≡ [] → WroteIn root w w [] bytes
wrote_none root w bytes e = record {
  geometry = refl;
  links = [];
  blocks_are = refl;
  from = refl;
  parts = e;
  others = λ b h. refl;
  making = λ first source blocks at m new. m;
}

module _ (c : Client) (b : ℕ) (rest : List ℕ) (bytes : List ℕ) (room : ℕ) (old mid : DiskView) (is_room : room ≡ bytes_room (block_len old.world.geometry)) (few : room < 2 ^ 32) (linkable : AreLinkable rest)
    (lives : is_live old.world b ≡ true) (went : Went c old mid (write_by c b (part_bytes (first_block rest) (take room bytes))) b (written old.world b (part_bytes (first_block rest) (take room bytes)))) where
  abbrev x : List ℕ
  x = part_bytes (first_block rest) (take room bytes)

  abbrev len : ℕ
  len = block_len old.world.geometry

  few_bytes : length (take room bytes) < 2 ^ 32
  few_bytes = let short = length-take room bytes in omega (arith, short, few)

  made_mid : MadeWith c.root (b ∷ rest) old.world mid.world
  made_mid = subst (MadeWith c.root (b ∷ rest) old.world) (sym went.world) (made_by_one c (b ∷ rest) b (or_left (b == b) _ (eq-eqb b b refl)) old.world x went.leads)

  pub wrote_more : (new : World) → has_number rest b ≡ false → WroteIn c.root mid.world new rest (drop room bytes) → WroteIn c.root old.world new (b ∷ rest) bytes
  wrote_more new apart later = record {
    geometry = later.geometry ∙ ap (λ w. w.geometry) went.world;
    links = record { block = b; cluster = part_cluster len (first_block rest) (take room bytes) } ∷ later.links;
    blocks_are = ap (λ bs. b ∷ bs) later.blocks_are;
    from = (refl, stands, later.from);
    parts = parts_now (bytes_room len) is_room;
    others = λ k h. let off = neither (b == k) (has_number rest k) h in
        later.others k off.1 ∙ (ap (λ w. contents w k) went.world ∙ contents-other old.world b k (filled len x) (λ e. clash (b == k) (eq-eqb b k (sym e)) off.0));
    making = λ first source blocks at m new_ones. later.making first source blocks at (made_mid first source blocks at m new_ones) (λ k j. new_ones k (or_right (b == k) _ j));
  }
    where
      stands : cluster_at new b ≡ Some (part_cluster len (first_block rest) (take room bytes))
      stands = ap (option_and_then cluster_in) (later.others b apart ∙ (ap (λ w. contents w b) went.world ∙ contents-same old.world b (filled len x) (live_below old.world.blocks b lives)))
          ∙ part_back len (first_block rest) (take room bytes) (first_linked rest linkable) few_bytes

      parts_now : (r : ℕ) → room ≡ r → ArePartsOf r bytes (record { block = b; cluster = part_cluster len (first_block rest) (take room bytes) } ∷ later.links)
      parts_now r e = subst (λ k. ArePartsOf k bytes (record { block = b; cluster = part_cluster len (first_block rest) (take room bytes) } ∷ later.links)) e
          (refl, take-append_seam (take room bytes) (replicate (len - length x) 0), subst (λ k. ArePartsOf k (drop room bytes) later.links) (ap (λ w. bytes_room (block_len w.geometry)) went.world ∙ sym is_room) later.parts)

-- ---- the loop over the blocks

pub drop_first : (xs : List ℕ) (i : ℕ) (x : ℕ) → i < length xs → x ≡ slice_index_or xs i 0 → drop i xs ≡ x ∷ drop (i + 1) xs
drop_first [] i x h e = absurd (omega arith)
drop_first (y ∷ xs) zero x h e = ap (λ z. z ∷ xs) (sym e)
drop_first (y ∷ xs) (suc i) x h e =
    let next : suc (i + 1) ≡ suc i + 1 = omega arith in
    drop_first xs i x (omega arith) e ∙ ap (λ k. x ∷ drop k (y ∷ xs)) next

drop_all : (xs : List ℕ) (i : ℕ) → length xs ≤ i → drop i xs ≡ []
drop_all [] zero h = refl
drop_all [] (suc i) h = refl
drop_all (x ∷ xs) zero h = absurd (omega arith)
drop_all (x ∷ xs) (suc i) h = drop_all xs i (omega arith)

pub in_drop : (xs : List ℕ) (i b : ℕ) → has_number (drop i xs) b ≡ true → has_number xs b ≡ true
in_drop [] zero b h = absurd (cc)
in_drop [] (suc i) b h = absurd (cc)
in_drop (x ∷ xs) zero b h = h
in_drop (x ∷ xs) (suc i) b h = or_right (x == b) _ (in_drop xs i b h)

pub apart_drop : (xs : List ℕ) (i : ℕ) → are_apart xs ≡ true → are_apart (drop i xs) ≡ true
apart_drop [] zero h = refl
apart_drop [] (suc i) h = refl
apart_drop (x ∷ xs) zero h = h
apart_drop (x ∷ xs) (suc i) h = apart_drop xs i (and_parts (not (has_number xs x)) (are_apart xs) h).1

no_bytes : (xs : List ℕ) → length xs ≤ 0 → xs ≡ []
no_bytes [] h = refl
no_bytes (x ∷ xs) h = absurd (omega arith)

-- the next block of a chain at a position can be named
pub next_linked : (blocks : List ℕ) (position : ℕ) → AreLinkable blocks → link_field (first_block (drop (position + 1) blocks)) < 2 ^ 32
next_linked blocks position linkable = first_linked (drop (position + 1) blocks) (λ b h. linkable b (in_drop blocks (position + 1) b h))

-- what was written so far, and what is left of the bytes
pub record Writing (told : Type 0) (c : Client) (first now : DiskView) (blocks bytes : List ℕ) (room position : ℕ) (rest : List ℕ) : Type 0 where
  pub runs : Runs {X = Unit {0}} told first now (AsideWith c.root blocks first.world) (Ok tt)
  pub geometry : told → now.world.geometry ≡ first.world.geometry
  pub made : told → MadeWith c.root blocks first.world now.world
  pub may : told → (b : ℕ) → MayWrite c first b → MayWrite c now b
  pub left : told → length rest ≤ room * (length blocks - position)
  pub last : told → (new : World) → WroteIn c.root now.world new (drop position blocks) rest → WroteIn c.root first.world new blocks bytes

pub writing_begins : (told : Type 0) (c : Client) (first : DiskView) (blocks bytes : List ℕ) (room : ℕ) → first.spent ≡ false → (told → IsDiskSound first) → (told → IsValidNow first) → (told → length bytes ≤ room * length blocks) → Writing told c first first blocks bytes room 0 bytes
writing_begins told c first blocks bytes room unspent sound now enough = record {
  runs = runs_look told first first (AsideWith c.root blocks first.world) (Ok tt) (λ t w e. aside_same c.root blocks first.world w e) (no_look told first unspent sound now);
  geometry = λ t. refl;
  made = λ t f s all at m new. m;
  may = λ t b h. h;
  left = λ t. subst (λ k. length bytes ≤ room * k) (whole (length blocks)) (enough t);
  last = λ t new h. h;
}
  where
    whole : (n : ℕ) → n ≡ n - 0
    whole n = omega arith

module _ (told : Type 0) (c : Client) (first now new : DiskView) (blocks bytes : List ℕ) (room position b : ℕ) (rest : List ℕ) (w : Writing told c first now blocks bytes room position rest)
    (inside : position < length blocks) (is : b ≡ slice_index_or blocks position 0) where
  abbrev behind : List ℕ
  behind = drop (position + 1) blocks

  abbrev part : List ℕ
  part = part_bytes (first_block (drop (position + 1) blocks)) (take room rest)

  parted : drop position blocks ≡ b ∷ drop (position + 1) blocks
  parted = drop_first blocks position b inside is

  pub among : has_number blocks b ≡ true
  among = in_drop blocks position b (ap (λ xs. has_number xs b) parted ∙ or_left (b == b) _ (eq-eqb b b refl))

  pub valid_now : told → IsValidNow now
  valid_now t = (w.runs.valid t).0

  pub may_now : told → ((k : ℕ) → has_number blocks k ≡ true → MayWrite c first k) → MayWrite c now b
  may_now t may = w.may t b (may b among)

  -- a request at the block, whatever comes of it
  pub runs_on : {X : Type 0} (result : Result X FsRefusal) → Steps told c now new (write_by c b part) b (written now.world b part) result → Runs told first new (AsideWith c.root blocks first.world) result
  runs_on result steps = then_runs told first now new (AsideWith c.root blocks first.world) tt result w.runs
      (runs_step told c now new (write_by c b part) b (written now.world b part) (AsideWith c.root blocks first.world) result valid_now
      (λ t v h. aside_later c.root blocks first.world now.world v (w.made t) (stop_at_one c blocks b among now.world part v h)) steps)

  module _ (is_room : told → room ≡ bytes_room (block_len first.world.geometry)) (few : room < 2 ^ 32) (linkable : AreLinkable blocks) (apart : told → are_apart blocks ≡ true)
      (steps : Steps {X = Unit {0}} told c now new (write_by c b part) b (written now.world b part) (Ok tt)) (may : told → MayWrite c now b) where
    off_behind : told → has_number (drop (position + 1) blocks) b ≡ false
    off_behind t = not-true (has_number (drop (position + 1) blocks) b) (and_parts (not (has_number (drop (position + 1) blocks) b)) (are_apart (drop (position + 1) blocks)) (ap are_apart (sym parted) ∙ apart_drop blocks position (apart t))).0

    made_on : told → MadeWith c.root blocks first.world new.world
    made_on t f s all at m new_ones = subst (Making c.root f s all) (sym (steps.went t).world)
        (made_by_one c blocks b among now.world part (steps.went t).leads f s all at (w.made t f s all at m new_ones) new_ones)

    pub writing_on : Writing told c first new blocks bytes room (position + 1) (drop room rest)
    writing_on = record {
      runs = runs_on (Ok tt) steps;
      geometry = λ t. ap (λ v. v.geometry) (steps.went t).world ∙ w.geometry t;
      made = made_on;
      may = λ t k m. may_after c now new (write_by c b part) b (written now.world b part) (steps.went t) (valid_now t) refl refl (λ x y h. h) (λ j h. live-with_contents now.world b j (filled (block_len now.world.geometry) part) h) steps.stays.0 k (w.may t k m);
      left = λ t. shorter (length rest) (length (drop room rest)) (length blocks) (w.left t) (length-drop room rest);
      last = λ t fin h. w.last t fin (subst (λ xs. WroteIn c.root now.world fin xs rest) (sym parted)
          (wrote_more c b (drop (position + 1) blocks) rest room now new (is_room t ∙ ap (λ g. bytes_room (block_len g)) (sym (w.geometry t))) few (λ k j. linkable k (in_drop blocks (position + 1) k j)) (may t).live (steps.went t) fin (off_behind t) h));
    }
      where
        shorter : (r s n : ℕ) → r ≤ room * (n - position) → s ≡ r - room → s ≤ room * (n - (position + 1))
        shorter r s n h e = fewer (n - position) (n - (position + 1)) (omega arith) h
          where
            fewer : (k j : ℕ) → j ≡ k - 1 → r ≤ room * k → s ≤ room * j
            fewer zero j q h = omega (arith, e, h)
            fewer (suc k) j q h = let same : j ≡ k = omega (arith, q) in subst (λ x. s ≤ room * x) (sym same) (omega (arith, e, h))

pub writing_ends : (told : Type 0) (c : Client) (first now : DiskView) (blocks bytes : List ℕ) (room position : ℕ) (rest : List ℕ) → Writing told c first now blocks bytes room position rest → length blocks ≤ position → told → Wrote c first now blocks bytes
writing_ends told c first now blocks bytes room position rest w ends t =
    let none : length blocks - position ≡ 0 = omega (arith, ends) in
    let short : length rest ≤ room * 0 = subst (λ k. length rest ≤ room * k) none (w.left t) in
    let zeros : room * 0 ≡ 0 = omega arith in
    record { here = w.last t now.world (subst (λ xs. WroteIn c.root now.world now.world xs rest) (sym (drop_all blocks position ends)) (wrote_none c.root now.world rest (no_bytes rest (omega (arith, short, zeros))))); may = w.may t }
