-- What a look at one block more comes to.
use Rattle.std.proofs.Common.{◌≡◌, ℕ, zero, suc, ◌<◌, Bool, true, false, cond, ◌&&◌, ◌||◌, ◌==◌, List, length, refl, sym, ◌∙◌, ap, subst, arith, inl, inr, Option, Some, None}
use Rattle.inode_fs.proofs.Common.{and_parts, and_from, or_cases, or_left, eq-eqb, eqb-true, option_and_then, option_map, World, has_number, are_apart, holds, only_if, Inode, directory, regular, inode_in, inode_at, inode_of, said_in, in_order, is_in_order, blocks_said, is_directory, in_two_steps, HoldsWrite, ways_lead_on, DiskView, state_of, IsValidNow, Stays, Client, shown_at, MayWrite, Looked, clash, is_false, no_or, all_in, is_inode, is_data_block, has_leftovers, MarksInode, MarksData, NoMarks, Marks, held_at, names_at, Come, is_come, with_inode, with_data, come_data, come_each, come_on, come_by, come_from, come_as, is_dir_in, nothing_yet, IsMarkedAs, Comes, NamesData, Noted}
use Rattle.inode_layout.specs.declared.inode.Inode as block
use Rattle.inode_fs.proofs.ComeLaws.{held_is}

-- ---- what a block is read as

module _ (bytes : List ℕ) (o : Option block.Inode) (said : option_map inode_of o ≡ said_in (length bytes) bytes) where
  read_is : inode_in (length bytes) bytes ≡ option_and_then in_order (option_map inode_of o)
  read_is = in_two_steps (length bytes) bytes ∙ ap (option_and_then in_order) (sym said)

  pub read_some : (i : block.Inode) → o ≡ Some i → is_in_order (inode_of i) ≡ true → inode_in (length bytes) bytes ≡ Some (inode_of i)
  read_some i e h = read_is ∙ (ap (λ x. option_and_then in_order (option_map inode_of x)) e ∙ ap (λ t. only_if t (λ _. Some (inode_of i))) h)

  pub read_wrong : (i : block.Inode) → o ≡ Some i → is_in_order (inode_of i) ≡ false → ◌≡◌ {A = Option Inode} (inode_in (length bytes) bytes) None
  read_wrong i e h = read_is ∙ (ap (λ x. option_and_then in_order (option_map inode_of x)) e ∙ ap (λ t. only_if t (λ _. Some (inode_of i))) h)

  pub read_none : ◌≡◌ {A = Option block.Inode} o None → ◌≡◌ {A = Option Inode} (inode_in (length bytes) bytes) None
  read_none e = read_is ∙ ap (λ x. option_and_then in_order (option_map inode_of x)) e

-- ---- what is come to

pub comes_none : (m : Marks) (o : Option Come) → ◌≡◌ {A = Option Come} o None → Comes m o false
comes_none m None e = refl
comes_none m (Some s) e = absurd (cc)

pub comes_some : (m : Marks) (o : Option Come) (s : Come) → o ≡ Some s → IsMarkedAs m s → Comes m o true
comes_some m o s e h = subst (λ x. Comes m x true) (sym e) (refl, h)

pub none_of : (m : Marks) (o : Option Come) → Comes m o false → ◌≡◌ {A = Option Come} o None
none_of m None h = refl
none_of m (Some s) h = absurd (let no = h.0 in cc)

pub some_of : (m : Marks) (o : Option Come) → Comes m o true → (s : Come) × (o ≡ Some s) × IsMarkedAs m s
some_of m None h = absurd (cc)
some_of m (Some s) h = (s, refl, h.1)

as_none : (is_entry : Bool) (w : World) (levels b : ℕ) (s : Come) → ◌≡◌ {A = Option Come} (come_from w levels b s) None → ◌≡◌ {A = Option Come} (come_as is_entry w levels b s) None
as_none true w levels b s e = e
as_none false w levels b s e = by_test (is_dir_in (inode_at w b))
  where
    by_test : (t : Bool) → ◌≡◌ {A = Option Come} (cond t (come_from w levels b s) None) None
    by_test true = e
    by_test false = refl

module _ (is_entry : Bool) (w : World) (b : ℕ) (s : Come) where
  pub no_level : (levels : ℕ) → levels ≡ 0 → ◌≡◌ {A = Option Come} (come_as is_entry w levels b s) None
  no_level zero e = as_none is_entry w zero b s refl
  no_level (suc levels) e = absurd (omega (arith, e))

  pub come_before : (levels : ℕ) → is_come s b ≡ true → ◌≡◌ {A = Option Come} (come_as is_entry w levels b s) None
  come_before zero h = as_none is_entry w zero b s refl
  come_before (suc levels) h = as_none is_entry w (suc levels) b s (ap (λ t. cond t None (come_by (come_from w levels) b (held_at w b) s)) h)

  pub none_held : (levels : ℕ) → ◌≡◌ {A = Option Inode} (held_at w b) None → ◌≡◌ {A = Option Come} (come_as is_entry w levels b s) None
  none_held zero h = as_none is_entry w zero b s refl
  none_held (suc levels) h = as_none is_entry w (suc levels) b s (ap (λ o. cond (is_come s b) None (come_by (come_from w levels) b o s)) h ∙ by_test (is_come s b))
    where
      by_test : (t : Bool) → ◌≡◌ {A = Option Come} (cond t None None) None
      by_test true = refl
      by_test false = refl

  module _ (i : Inode) (is : held_at w b ≡ Some i) where
    pub no_file : (levels : ℕ) → is_entry ≡ false → is_directory i ≡ false → ◌≡◌ {A = Option Come} (come_as is_entry w levels b s) None
    no_file levels e h = ap (λ t. come_as t w levels b s) e ∙ ap (λ t. cond t (come_from w levels b s) None) (ap is_dir_in (held_is w b i is).0 ∙ h)

    module _ (levels k : ℕ) (deeper : levels ≡ suc k) (new : is_come s b ≡ false) where
      come_inside : come_from w levels b s ≡ come_on (come_from w k) i (with_inode s b)
      come_inside = ap (λ n. come_from w n b s) deeper ∙ (ap (λ t. cond t None (come_by (come_from w k) b (held_at w b) s)) new ∙ ap (λ o. come_by (come_from w k) b o s) is)

      pub come_file : is_entry ≡ true → is_directory i ≡ false → come_as is_entry w levels b s ≡ come_data (blocks_said i) (with_inode s b)
      come_file e h = ap (λ t. come_as t w levels b s) e ∙ (come_inside ∙ by_kind i h)
        where
          by_kind : (j : Inode) → is_directory j ≡ false → come_on (come_from w k) j (with_inode s b) ≡ come_data (blocks_said j) (with_inode s b)
          by_kind (directory es) h = absurd (cc)
          by_kind (regular size blocks) h = refl

      pub come_dir : is_directory i ≡ true → come_as is_entry w levels b s ≡ come_each (come_from w k) (blocks_said i) (with_inode s b)
      come_dir h = by_entry is_entry ∙ (come_inside ∙ by_kind i h)
        where
          by_kind : (j : Inode) → is_directory j ≡ true → come_on (come_from w k) j (with_inode s b) ≡ come_each (come_from w k) (blocks_said j) (with_inode s b)
          by_kind (directory es) h = refl
          by_kind (regular size blocks) h = absurd (cc)

          by_entry : (t : Bool) → come_as t w levels b s ≡ come_from w levels b s
          by_entry true = refl
          by_entry false = ap (λ t. cond t (come_from w levels b s) None) (ap is_dir_in (held_is w b i is).0 ∙ h)

-- ---- marks

pub not_come : (m : Marks) (s : Come) (b : ℕ) → IsMarkedAs m s → is_inode m b ≡ false → is_data_block m b ≡ false → is_come s b ≡ false
not_come m s b agrees p q = no_or (has_number s.inodes b) (has_number s.bytes b) (sym (agrees.inodes b) ∙ p) (sym (agrees.bytes b) ∙ q)

pub agrees_inode : (m next : Marks) (s : Come) (b : ℕ) (others : Bool) → b < 1048576 → IsMarkedAs m s → MarksInode m next b others → IsMarkedAs next (with_inode s b)
agrees_inode m next s b others small agrees marks = record {
  inodes = λ a. marks.inodes small a ∙ ap (λ t. (b == a) || t) (agrees.inodes a);
  bytes = λ a. marks.bytes a ∙ agrees.bytes a;
}

pub agrees_data : (m next : Marks) (s : Come) (b : ℕ) → IsMarkedAs m s → NamesData m next b → IsMarkedAs next (with_data s b)
agrees_data m next s b agrees marks = record {
  inodes = λ a. marks.inodes a ∙ agrees.inodes a;
  bytes = λ a. marks.bytes a ∙ ap (λ t. (b == a) || t) (agrees.bytes a);
}

pub agrees_none : (m : Marks) → NoMarks m → IsMarkedAs m nothing_yet
agrees_none m none = record { inodes = none.inodes; bytes = none.bytes }

pub named_again : (m : Marks) (b : ℕ) → is_data_block m b ≡ true → NamesData m m b
named_again m b h = record {
  inodes = λ a. refl;
  bytes = λ a. by_test a (b == a) refl;
}
  where
    by_test : (a : ℕ) (t : Bool) → (b == a) ≡ t → is_data_block m a ≡ (t || is_data_block m a)
    by_test a true e = ap (is_data_block m) (sym (eqb-true b a e)) ∙ h
    by_test a false e = refl

pub names_data : (m next : Marks) (b : ℕ) (others : Bool) → b < 1048576 → MarksData m next b others → NamesData m next b
names_data m next b others small marks = record { inodes = marks.inodes; bytes = marks.bytes small }

-- ---- what is noted

pub noted_on : (c : Client) (old new : DiskView) (m : Marks) → Looked old new → Noted c old m → Noted c new m
noted_on c old new m seen noted = record {
  ways = λ b h. seen.ways c.session b (noted.ways b h);
  inodes = λ b d h k held. ap (λ w. has_number (names_at w b) d) seen.world ∙ noted.inodes b d h k (ap (λ w. holds w.pairs b d) (sym seen.world) ∙ held);
  bytes = λ b d h k. ap (λ w. holds w.pairs b d) seen.world ∙ noted.bytes b d h k;
}

pub noted_none : (c : Client) (v : DiskView) (m : Marks) → NoMarks m → Noted c v m
noted_none c v m none = record {
  ways = λ b h. absurd (clash (is_inode m b) h (none.inodes b));
  inodes = λ b d h k held. absurd (clash (is_inode m b) h (none.inodes b));
  bytes = λ b d h k. absurd (clash (is_data_block m b) h (none.bytes b));
}

later_no : (p q : Bool) → (p || q) ≡ false → q ≡ false
later_no true q h = absurd (cc)
later_no false q h = h

first_no : (b a : ℕ) (others q : Bool) → b ≡ a → (((b == a) && others) || q) ≡ false → others ≡ false
first_no b a others q e h = is_false others (λ o. clash (((b == a) && others) || q) (or_left ((b == a) && others) q (and_from (b == a) others (eq-eqb b a e) o)) h)

module _ (c : Client) (v : DiskView) (m next : Marks) (b : ℕ) (others : Bool) (small : b < 1048576) (noted : Noted c v m) where
  pub noted_inode : MarksInode m next b others → HoldsWrite (state_of v) c.session b → (others ≡ false → (d : ℕ) → holds v.world.pairs b d ≡ true → has_number (names_at v.world b) d ≡ true) → Noted c v next
  noted_inode marks held clean = record {
    ways = λ a h. elim (or_cases (b == a) (is_inode m a) (sym (marks.inodes small a) ∙ h)) [
      | inl e ↦ subst (HoldsWrite (state_of v) c.session) (eqb-true b a e) held
      | inr old ↦ noted.ways a old
    ];
    inodes = λ a d h k pair. elim (or_cases (b == a) (is_inode m a) (sym (marks.inodes small a) ∙ h)) [
      | inl e ↦
          let same : b ≡ a = eqb-true b a e in
          subst (λ x. has_number (names_at v.world x) d ≡ true) same (clean (first_no b a others (has_leftovers m a) same (sym (marks.leftovers small a) ∙ k)) d (ap (λ x. holds v.world.pairs x d) same ∙ pair))
      | inr old ↦ noted.inodes a d old (later_no ((b == a) && others) (has_leftovers m a) (sym (marks.leftovers small a) ∙ k)) pair
    ];
    bytes = λ a d h k. noted.bytes a d (sym (marks.bytes a) ∙ h) (later_no ((b == a) && others) (has_leftovers m a) (sym (marks.leftovers small a) ∙ k));
  }

  pub noted_data : MarksData m next b others → (others ≡ false → (d : ℕ) → holds v.world.pairs b d ≡ false) → Noted c v next
  noted_data marks clean = record {
    ways = λ a h. noted.ways a (sym (marks.inodes a) ∙ h);
    inodes = λ a d h k pair. noted.inodes a d (sym (marks.inodes a) ∙ h) (later_no ((b == a) && others) (has_leftovers m a) (sym (marks.leftovers small a) ∙ k)) pair;
    bytes = λ a d h k. elim (or_cases (b == a) (is_data_block m a) (sym (marks.bytes small a) ∙ h)) [
      | inl e ↦
          let same : b ≡ a = eqb-true b a e in
          subst (λ x. holds v.world.pairs x d ≡ false) same (clean (first_no b a others (has_leftovers m a) same (sym (marks.leftovers small a) ∙ k)) d)
      | inr old ↦ noted.bytes a d old (later_no ((b == a) && others) (has_leftovers m a) (sym (marks.leftovers small a) ∙ k))
    ];
  }

-- ---- what is named may be written

pub named_may : (c : Client) (old new : DiskView) (b : ℕ) (i : Inode) → IsValidNow new → MayWrite c old b → Stays old new → Looked old new → held_at old.world b ≡ Some i → HoldsWrite (state_of new) c.session b
    → (d : ℕ) → has_number (blocks_said i) d ≡ true → MayWrite c new d
named_may c old new b i now may stays seen is held d m =
    let pair : holds new.world.pairs b d ≡ true = ap (λ w. holds w.pairs b d) seen.world ∙ all_in (holds old.world.pairs b) (blocks_said i) d (and_parts (are_apart (blocks_said i)) _ (held_is old.world b i is).1).1 m in
    record {
      number = may.number;
      begun = stays.sessions c.session ∙ may.begun;
      live = now.valid.raw.targets b d pair;
      attains = ways_lead_on (state_of new) c.session b d (shown_at c d) (now.valid.raw.apart b d pair) pair held;
    }
