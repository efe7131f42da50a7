-- What a look from the root on comes to.
use Rattle.std.proofs.Common.{◌≡◌, ℕ, suc, Bool, true, false, not, cond, ◌&&◌, ◌||◌, ◌==◌, ◌∷◌, refl, sym, ◌∙◌, ap, subst, Option, Some, None}
use Rattle.inode_fs.proofs.Common.{and_parts, and_from, list_all, World, has_number, are_apart, holds, path_max, nothing, a_file, a_dir, is_there, Inode, directory, regular, InodeNode, InodeEntries, inode_at, entries_by, as_dir, node_by, node_at, inode_blocks, data_blocks, named_pairs, inodes_under, tree_of, inode_tree, by_inodes, node_pairs, node_blocks, HasRoot, found, under_is, from_inode, any-append, all_held, is_false, not_yes, yes_not, each_in, all_in, is_inode, is_data_block, Marks, Come, come_from, come_under, nothing_yet, is_dir_in, names_at, IsMarkedAs, Comes, MarksTree, TellsTree}
use Rattle.tsd_model.proofs.PairLaws.{all_of_held}
use Rattle.inode_fs.proofs.ComeLaws.{node_data, NodeRight, node_right}
use Rattle.inode_fs.proofs.WrongLaws.{dir_of, NodeGood, node_wrong}
use Rattle.inode_fs.proofs.SaysLaws.{Says, node_says}
use Rattle.tsd_model.proofs.ValueLaws.{or_false}

-- ---- where all is right

-- a directory's node
dir_node_is : (w : World) (levels b : ℕ) (o : Option Inode) → inode_at w b ≡ o → is_dir_in o ≡ true → is_there (node_at w (suc levels) b) ≡ true → (xs : InodeEntries) × (node_at w (suc levels) b ≡ a_dir b xs)
dir_node_is w levels b None is dir there = absurd (cc)
dir_node_is w levels b (Some (regular size blocks)) is dir there = absurd (cc)
dir_node_is w levels b (Some (directory es)) is dir there =
    let here : node_at w (suc levels) b ≡ as_dir b (entries_by (node_at w levels) es) = ap (node_by (node_at w levels) b) is in
    let d = dir_of b (entries_by (node_at w levels) es) (ap is_there (sym here) ∙ there) in
    (d.0, here ∙ ap (as_dir b) d.1)

come_parts : (w : World) (root : ℕ) (t : Come) → come_under w root ≡ Some t → (is_dir_in (inode_at w root) ≡ true) × (come_from w (suc path_max) root nothing_yet ≡ Some t)
come_parts w root t h = by_test (is_dir_in (inode_at w root)) refl h
  where
    by_test : (u : Bool) → is_dir_in (inode_at w root) ≡ u → cond u (come_from w (suc path_max) root nothing_yet) None ≡ Some t → (is_dir_in (inode_at w root) ≡ true) × (come_from w (suc path_max) root nothing_yet ≡ Some t)
    by_test true e k = (e, k)
    by_test false e k = absurd (cc)

module _ (w : World) (root : ℕ) (t : Come) (h : come_under w root ≡ Some t) where
  right : NodeRight w nothing_yet t root (node_at w (suc path_max) root)
  right = node_right w (suc path_max) root nothing_yet t (come_parts w root t h).1

  xs : InodeEntries
  xs = (dir_node_is w path_max root (inode_at w root) refl (come_parts w root t h).0 right.there).0

  node_is : node_at w (suc path_max) root ≡ a_dir root xs
  unfolding xs
  node_is = (dir_node_is w path_max root (inode_at w root) refl (come_parts w root t h).0 right.there).1

  here : NodeRight w nothing_yet t root (a_dir root xs)
  here = subst (NodeRight w nothing_yet t root) node_is right

  says : Says w (named_pairs root xs) (root ∷ inode_blocks xs) (data_blocks xs)
  says = subst (λ x. Says w (node_pairs x) (node_blocks x) (node_data x)) node_is (node_says w (suc path_max) root right.there)

  has_root : HasRoot w root xs
  has_root = record {
    node = node_is;
    right = and_from (list_all (λ e. holds w.pairs e.0 e.1) (named_pairs root xs) && are_apart (root ∷ inode_blocks xs)) _
        (and_from (list_all (λ e. holds w.pairs e.0 e.1) (named_pairs root xs)) (are_apart (root ∷ inode_blocks xs)) (all_held (named_pairs root xs) w.pairs here.held) here.fits.apart)
        (each_in (λ b. not (has_number (root ∷ inode_blocks xs) b)) (data_blocks xs) (λ c m. yes_not (has_number (root ∷ inode_blocks xs) c) (here.fits.other c m).1));
  }

  under : inodes_under w root ≡ a_dir root xs
  under = under_is w root xs has_root

  module _ (m : Marks) (agrees : IsMarkedAs m t) where
    inodes_are : (b : ℕ) → is_inode m b ≡ has_number (root ∷ inode_blocks xs) b
    inodes_are b = agrees.inodes b ∙ (here.adds.inodes b ∙ or_false (has_number (root ∷ inode_blocks xs) b))

    data_are : (b : ℕ) → is_data_block m b ≡ has_number (data_blocks xs) b
    data_are b = agrees.bytes b ∙ (here.adds.bytes b ∙ or_false (has_number (data_blocks xs) b))

    same_test : (p q : Bool) → (p ≡ true → q ≡ true) → (q ≡ true → p ≡ true) → p ≡ q
    same_test true q f g = sym (f refl)
    same_test false true f g = g refl
    same_test false false f g = refl

    pub marks_tree : MarksTree w root m
    marks_tree = record {
      there = ap (λ x. is_there (tree_of w x)) under;
      blocks = λ b. ap (λ x. has_number (by_inodes x).blocks b) under
          ∙ (any-append (λ x. x == b) (root ∷ inode_blocks xs) (data_blocks xs)
          ∙ (ap (λ p. p || has_number (data_blocks xs) b) (sym (inodes_are b)) ∙ ap (λ p. is_inode m b || p) (sym (data_are b))));
      pairs = λ a b. ap (λ x. holds (by_inodes x).pairs a b) under
          ∙ same_test (holds (named_pairs root xs) a b) (is_inode m a && has_number (names_at w a) b)
          (λ k. and_from (is_inode m a) (has_number (names_at w a) b) (inodes_are a ∙ from_inode root xs a b k) (says.says a b k))
          (λ k. let parts = and_parts (is_inode m a) (has_number (names_at w a) b) k in says.told a b (sym (inodes_are a) ∙ parts.0) parts.1);
      targets = λ a b k. ap (λ x. has_number (by_inodes x).blocks b) under
          ∙ (any-append (λ x. x == b) (root ∷ inode_blocks xs) (data_blocks xs) ∙ says.target a b (ap (λ x. holds (by_inodes x).pairs a b) (sym under) ∙ k));
      inodes = λ b k. says.inode b (sym (inodes_are b) ∙ k);
    }

-- ---- where it isn't

dir_inode : (w : World) (root : ℕ) (es : InodeEntries) (o : Option Inode) → inode_at w root ≡ o → node_at w (suc path_max) root ≡ a_dir root es → is_dir_in o ≡ true
dir_inode w root es None is node = absurd (clash (sym (ap (node_by (node_at w path_max) root) is) ∙ node))
  where
    clash : ◌≡◌ {A = InodeNode} nothing (a_dir root es) → ⊥
    clash e = cc
dir_inode w root es (Some (regular size blocks)) is node = absurd (clash (sym (ap (node_by (node_at w path_max) root) is) ∙ node))
  where
    clash : a_file (record { block = root; size = size; blocks = blocks }) ≡ a_dir root es → ⊥
    clash e = cc
dir_inode w root es (Some (directory fs)) is node = refl

pub no_tree : (w : World) (root : ℕ) → ◌≡◌ {A = Option Come} (come_under w root) None → is_there (inode_tree w root) ≡ false
no_tree w root h = is_false (is_there (inode_tree w root)) (λ there.
    let r = found w root there in
    let f = r.1 in
    let dir = dir_inode w root r.0 (inode_at w root) refl f.node in
    let one = and_parts (list_all (λ e. holds w.pairs e.0 e.1) (named_pairs root r.0) && are_apart (root ∷ inode_blocks r.0)) (list_all (λ b. not (has_number (root ∷ inode_blocks r.0) b)) (data_blocks r.0)) f.right in
    let two = and_parts (list_all (λ e. holds w.pairs e.0 e.1) (named_pairs root r.0)) (are_apart (root ∷ inode_blocks r.0)) one.0 in
    node_wrong w (suc path_max) root nothing_yet (ap (λ u. cond u (come_from w (suc path_max) root nothing_yet) None) (sym dir) ∙ h)
    (subst (NodeGood w nothing_yet) (sym f.node) (record {
      there = refl;
      held = λ a c k. all_of_held (λ e. holds w.pairs e.0 e.1) (named_pairs root r.0) a c two.0 k;
      fits = record {
        apart = two.1;
        new = λ c m. refl;
        other = λ c m. (refl, not_yes (has_number (root ∷ inode_blocks r.0) c) (all_in (λ b. not (has_number (root ∷ inode_blocks r.0) b)) (data_blocks r.0) c one.1 m));
      };
    })))

pub tells_tree : (w : World) (root : ℕ) (m : Marks) (o : Option Come) (result : Bool) → come_under w root ≡ o → Comes m o result → TellsTree w root m result
tells_tree w root m None true e h = absurd (cc)
tells_tree w root m None false e h = no_tree w root e
tells_tree w root m (Some t) true e h = marks_tree w root t e m h.1
tells_tree w root m (Some t) false e h = absurd (let no = h.0 in cc)
