-- A file in the making goes on, a request at a time; where it is given up, the world is as it was.
use Rattle.std.proofs.Common.{◌≡◌, ℕ, ◌<◌, Bool, true, false, not, ◌||◌, ◌==◌, nat_lt, List, [], ◌∷◌, ◌++◌, length, refl, sym, ◌∙◌, ap, subst, inl, inr, ◌⊎◌}
use Rattle.inode_changes.proofs.Common.{and_parts, and_from, or_cases, or_left, or_right, eq-eqb, eqb-true, false_from_ne_true, is_some, is_none, map, block_len, World, contents, is_live, is_free, has_number, are_apart, holds, is_pair, IsValid, filled, with_new_blocks, written, holds-with_pair, contents-other, live-with_contents, free_may, live-new_blocks, is_there, inode_tree, Named, named_at, is_under, is_inside, IsUnder, SameTree, read_from_named, inodes_under_root, outside_twice, each_under, root_under, target_under, number_right, Client, write_by, alloc_by, link_by, Leads, pointed, clash_free_live, contents_off, lives_new, holds_new, version_new, records_new, Making}
use Rattle.fs_trees.specs.declared.ask.ShellKind.TheVariants as kind
use Rattle.fs_client.proofs.TrimLaws.{named_live, keeps_both}
use Rattle.tsd_model.proofs.ValueLaws.{clash, neither}

-- ---- pairs from one block

pub fan_is : (i : ℕ) (cs : List ℕ) (a b : ℕ) → holds (map (λ c. (i, c)) cs) a b ≡ true → (i ≡ a) × (has_number cs b ≡ true)
fan_is i [] a b h = absurd (cc)
fan_is i (c ∷ cs) a b h = elim (or_cases (is_pair a b (i, c)) (holds (map (λ k. (i, k)) cs) a b) h) [
  | inl here ↦ let parts = and_parts (i == a) (c == b) here in (eqb-true i a parts.0, or_left (c == b) _ parts.1)
  | inr later ↦ let rest = fan_is i cs a b later in (rest.0, or_right (c == b) _ rest.1)
]

pub fan_has : (i : ℕ) (cs : List ℕ) (b : ℕ) → has_number cs b ≡ true → holds (map (λ c. (i, c)) cs) i b ≡ true
fan_has i [] b h = absurd (cc)
fan_has i (c ∷ cs) b h = elim (or_cases (c == b) (has_number cs b) h) [
  | inl here ↦ or_left (is_pair i b (i, c)) _ (and_from (i == i) (c == b) (eq-eqb i i refl) here)
  | inr later ↦ or_right (is_pair i b (i, c)) _ (fan_has i cs b later)
]

fan_append : (i : ℕ) (xs ys : List ℕ) (a b : ℕ) → holds (map (λ c. (i, c)) (xs ++ ys)) a b ≡ (holds (map (λ c. (i, c)) xs) a b || holds (map (λ c. (i, c)) ys) a b)
fan_append i [] ys a b = refl
fan_append i (x ∷ xs) ys a b = ap (λ t. is_pair a b (i, x) || t) (fan_append i xs ys a b) ∙ turned (is_pair a b (i, x)) (holds (map (λ c. (i, c)) xs) a b) (holds (map (λ c. (i, c)) ys) a b)
  where
    turned : (s t u : Bool) → (s || (t || u)) ≡ ((s || t) || u)
    turned true t u = refl
    turned false t u = refl

-- ---- in the making

module _ (root : ℕ) (first : World) (valid : IsValid first) (primary : root < first.geometry.primaries) (there : is_there (inode_tree first root) ≡ true) (d : ℕ) (dir : is_under first root d ≡ true) where
  abbrev named : Named
  named = named_at kind.Inode first root

  first_under : IsUnder first root named
  first_under = inodes_under_root first root primary there

  -- ---- the first block

  module _ (c : Client) (i : ℕ) (free : is_free first i ≡ true) (leads : Leads first (alloc_by c d 1) (with_new_blocks first d (i ∷ []))) where
    begun_free : (b : ℕ) → has_number (i ∷ []) b ≡ true → is_free first b ≡ true
    begun_free b h = elim (or_cases (i == b) false h) [
      | inl e ↦ subst (λ x. is_free first x ≡ true) (eqb-true i b e) free
      | inr never ↦ absurd (cc)
    ]

    pub making_begins : Making root first d i [] [] (with_new_blocks first d (i ∷ []))
    making_begins = record {
      valid = leads.valid;
      geometry = refl;
      version = refl;
      records = refl;
      others = leads.others root primary (and_from (is_under first root d) true dir refl);
      keeps = leads.keeps root named first_under refl;
      free = begun_free;
      once = refl;
      lives = lives_new d (i ∷ []) first (λ b h. (free_may first valid.raw b (begun_free b h)).0);
      old = λ b h. absurd (cc);
      bytes = λ b h. contents_off d (i ∷ []) first b h;
      pairs = λ a b. holds_new d (i ∷ []) first a b;
    }

  -- ---- going on

  module _ (i : ℕ) (shared fresh : List ℕ) (w : World) (m : Making root first d i shared fresh w) where
    same_named : SameTree kind.Inode root first w
    same_named = read_from_named kind.Inode first w root there m.keeps

    pub tree_same : inode_tree w root ≡ inode_tree first root
    tree_same = same_named.tree

    pub there_now : is_there (inode_tree w root) ≡ true
    there_now = ap is_there same_named.tree ∙ there

    pub named_same : named_at kind.Inode w root ≡ named_at kind.Inode first root
    named_same = same_named.named

    pub primary_now : root < w.geometry.primaries
    primary_now = subst (λ g. root < g.primaries) (sym m.geometry) primary

    still_held : (a b : ℕ) → holds first.pairs a b ≡ true → holds w.pairs a b ≡ true
    still_held a b h = m.pairs a b ∙ or_left (holds first.pairs a b) _ h

    pub under_still : (b : ℕ) → is_under first root b ≡ true → is_under w root b ≡ true
    under_still = each_under first root (λ b. is_under w root b ≡ true) (root_under w m.valid.raw root primary_now) (λ a b h k. target_under w m.valid.raw root primary_now a b (still_held a b h) k)

    pub dir_now : is_under w root d ≡ true
    dir_now = under_still d dir

    pub inode_held : holds w.pairs d i ≡ true
    inode_held = m.pairs d i ∙ or_right (holds first.pairs d i) _ (or_left (is_pair d i (d, i)) _ (and_from (d == d) (i == i) (eq-eqb d d refl) (eq-eqb i i refl)))

    pub inode_under : is_under w root i ≡ true
    inode_under = target_under w m.valid.raw root primary_now d i inode_held dir_now

    pub part_held : (b : ℕ) → has_number (shared ++ fresh) b ≡ true → holds w.pairs i b ≡ true
    part_held b h = m.pairs i b ∙ or_right (holds first.pairs i b) _ (or_right (is_pair i b (d, i)) _ (fan_has i (shared ++ fresh) b h))

    pub part_under : (b : ℕ) → has_number fresh b ≡ true → is_under w root b ≡ true
    part_under b h = target_under w m.valid.raw root primary_now i b (part_held b (number_right shared fresh b h)) inode_under

    -- a new block isn't named
    pub new_unnamed : (b : ℕ) → has_number (i ∷ fresh) b ≡ true → has_number named.blocks b ≡ false
    new_unnamed b h = false_from_ne_true (has_number named.blocks b) (λ k. clash_free_live first b (m.free b h) (named_live first root named valid first_under b k))

    now_under : IsUnder w root named
    now_under = subst (IsUnder w root) named_same (inodes_under_root w root primary_now there_now)

    -- what was live and isn't new
    pub was_live : (b : ℕ) → has_number (i ∷ fresh) b ≡ false → is_live w b ≡ true → is_live first b ≡ true
    was_live b off h = ap is_some (sym (m.bytes b off)) ∙ h

    -- ---- a new block is written

    module _ (c : Client) (b : ℕ) (x : List ℕ) (new : has_number (i ∷ fresh) b ≡ true) (leads : Leads w (write_by c b x) (written w b x)) where
      pub new_under : is_under w root b ≡ true
      new_under = elim (or_cases (i == b) (has_number fresh b) new) [
        | inl here ↦ subst (λ k. is_under w root k ≡ true) (eqb-true i b here) inode_under
        | inr part ↦ part_under b part
      ]

      pub write_inside : is_inside w root (write_by c b x) ≡ true
      write_inside = and_from (is_under w root b) true new_under refl

      pub making_written : Making root first d i shared fresh (written w b x)
      making_written = record {
        valid = leads.valid;
        geometry = leads.geometry ∙ m.geometry;
        version = m.version;
        records = m.records;
        others = outside_twice root first w (written w b x) m.others (leads.others root primary_now write_inside);
        keeps = keeps_both first w (written w b x) named m.keeps (leads.keeps root named now_under (ap not (new_unnamed b new)));
        free = m.free;
        once = m.once;
        lives = λ k h. live-with_contents w b k (filled (block_len w.geometry) x) (m.lives k h);
        old = m.old;
        bytes = λ k off. contents-other w b k (filled (block_len w.geometry) x) (λ e. clash (has_number (i ∷ fresh) b) new (ap (has_number (i ∷ fresh)) (sym e) ∙ off)) ∙ m.bytes k off;
        pairs = m.pairs;
      }

  -- ---- the blocks of bytes

  module _ (c : Client) (i : ℕ) (shared : List ℕ) (w : World) (m : Making root first d i shared [] w) (count : ℕ) (fresh : List ℕ) (vacant : (b : ℕ) → has_number fresh b ≡ true → is_free w b ≡ true) (once : are_apart fresh ≡ true)
      (leads : Leads w (alloc_by c i count) (with_new_blocks w i fresh)) where
    off_inode : has_number fresh i ≡ false
    off_inode = false_from_ne_true (has_number fresh i) (λ h. clash_free_live w i (vacant i h) (m.lives i (or_left (i == i) false (eq-eqb i i refl))))

    inside : (b : ℕ) → has_number fresh b ≡ true → b < length w.blocks
    inside b h = (free_may w m.valid.raw b (vacant b h)).0

    long : length w.blocks ≡ length first.blocks
    long = m.valid.raw.sized.each_block ∙ (ap (λ g. g.blocks) m.geometry ∙ sym valid.raw.sized.each_block)

    -- what is free now was free
    was_free : (b : ℕ) → has_number fresh b ≡ true → is_free first b ≡ true
    was_free b h =
        let parts = and_parts (nat_lt b (length w.blocks)) (is_none (contents w b)) (vacant b h) in
        let off : has_number (i ∷ []) b ≡ false = false_from_ne_true (has_number (i ∷ []) b) (λ k. clash_free_live w b (vacant b h) (m.lives b k)) in
        and_from (nat_lt b (length first.blocks)) (is_none (contents first b)) (ap (nat_lt b) (sym long) ∙ parts.0) (ap is_none (sym (m.bytes b off)) ∙ parts.1)

    pub making_taken : Making root first d i shared fresh (with_new_blocks w i fresh)
    making_taken = record {
      valid = leads.valid;
      geometry = leads.geometry ∙ m.geometry;
      version = version_new i fresh w ∙ m.version;
      records = records_new i fresh w ∙ m.records;
      others = outside_twice root first w (with_new_blocks w i fresh) m.others (leads.others root (primary_now i shared [] w m) (and_from (is_under w root i) true (inode_under i shared [] w m) refl));
      keeps = keeps_both first w (with_new_blocks w i fresh) named m.keeps (leads.keeps root named (now_under i shared [] w m) refl);
      free = λ b h. elim (or_cases (i == b) (has_number fresh b) h) [
        | inl here ↦ m.free b (or_left (i == b) false here)
        | inr part ↦ was_free b part
      ];
      once = and_from (not (has_number fresh i)) (are_apart fresh) (ap not off_inode) once;
      lives = λ b h. elim (or_cases (i == b) (has_number fresh b) h) [
        | inl here ↦ live-new_blocks i fresh w b (m.lives b (or_left (i == b) false here))
        | inr part ↦ lives_new i fresh w inside b part
      ];
      old = m.old;
      bytes = λ b h. let off = neither (i == b) (has_number fresh b) h in contents_off i fresh w b off.1 ∙ m.bytes b (ap (λ t. t || false) off.0);
      pairs = λ a b.
          holds_new i fresh w a b
          ∙ (ap (λ t. t || holds (map (λ k. (i, k)) fresh) a b) (m.pairs a b ∙ ap (λ t. holds first.pairs a b || (is_pair a b (d, i) || t)) (fan_append i shared [] a b))
          ∙ (turned (holds first.pairs a b) (is_pair a b (d, i)) (holds (map (λ k. (i, k)) shared) a b) (holds (map (λ k. (i, k)) fresh) a b)
          ∙ ap (λ t. holds first.pairs a b || (is_pair a b (d, i) || t)) (sym (fan_append i shared fresh a b))));
    }
      where
        turned : (s t u v : Bool) → ((s || (t || (u || false))) || v) ≡ (s || (t || (u || v)))
        turned true t u v = refl
        turned false true u v = refl
        turned false false true v = refl
        turned false false false v = refl

  -- ---- a block is shared

  module _ (c : Client) (i : ℕ) (shared : List ℕ) (w : World) (m : Making root first d i shared [] w) (s : ℕ) (was : is_live first s ≡ true) (reached : is_under first root s ≡ true)
      (leads : Leads w (link_by c i s) (pointed w i s)) where
    pub making_shared : Making root first d i (shared ++ s ∷ []) [] (pointed w i s)
    making_shared = record {
      valid = leads.valid;
      geometry = leads.geometry ∙ m.geometry;
      version = m.version;
      records = m.records;
      others = outside_twice root first w (pointed w i s) m.others (leads.others root (primary_now i shared [] w m)
          (and_from (is_under w root i) _ (inode_under i shared [] w m) (and_from (is_under w root s) true (under_still i shared [] w m s reached) refl)));
      keeps = keeps_both first w (pointed w i s) named m.keeps (leads.keeps root named (now_under i shared [] w m) refl);
      free = m.free;
      once = m.once;
      lives = m.lives;
      old = λ b h. elim (in_last shared b h) [ inl before ↦ m.old b before | inr e ↦ subst (λ k. is_live first k ≡ true) e was ];
      bytes = m.bytes;
      pairs = λ a b.
          holds-with_pair (i, s) w.pairs a b
          ∙ (ap (λ t. is_pair a b (i, s) || t) (m.pairs a b ∙ ap (λ t. holds first.pairs a b || (is_pair a b (d, i) || t)) (fan_append i shared [] a b))
          ∙ (turned (is_pair a b (i, s)) (holds first.pairs a b) (is_pair a b (d, i)) (holds (map (λ k. (i, k)) shared) a b)
          ∙ ap (λ t. holds first.pairs a b || (is_pair a b (d, i) || t))
          (ap (λ t. t || false) (sym (fan_append i shared (s ∷ []) a b)) ∙ sym (fan_append i (shared ++ s ∷ []) [] a b))));
    }
      where
        in_last : (xs : List ℕ) (b : ℕ) → has_number (xs ++ s ∷ []) b ≡ true → (has_number xs b ≡ true) ⊎ (s ≡ b)
        in_last [] b h = elim (or_cases (s == b) false h) [ inl e ↦ inr (eqb-true s b e) | inr never ↦ absurd (cc) ]
        in_last (x ∷ xs) b h = elim (or_cases (x == b) _ h) [
          | inl here ↦ inl (or_left (x == b) _ here)
          | inr later ↦ elim (in_last xs b later) [ inl before ↦ inl (or_right (x == b) _ before) | inr e ↦ inr e ]
        ]

        turned : (x s t u : Bool) → (x || (s || (t || (u || false)))) ≡ (s || (t || ((u || (x || false)) || false)))
        turned true true t u = refl
        turned true false true u = refl
        turned true false false true = refl
        turned true false false false = refl
        turned false true t u = refl
        turned false false true u = refl
        turned false false false true = refl
        turned false false false false = refl
