-- A walk by names: what holds after so many of them.
use Rattle.std.proofs.Common.{◌≡◌, ℕ, zero, suc, ◌+◌, ◌<◌, ◌≤◌, true, List, [], ◌∷◌, ◌++◌, length, refl, sym, ◌∙◌, ap, subst, inl, arith, Option, Some, None, Ok}
use Rattle.inode_walks.proofs.Common.{eq-eqb, is_some, drop, slice_index_or, slice_get, block_len, holds, HoldsWrite, shown_at, inode_of, block_len_of, World, Name, Path, path_max, nothing, a_file, a_dir, child, at, is_there, InodeNode, inode_at, node_at, inodes_under, inode_tree, FsRefusal, DiskView, state_of, IsDiskSound, Stays, Client, MayWrite, Looked, OnlyLooks, Found, MayAsk, tree_under, StandsAsRead, IsFurther, IsOpenNow, StandsAtPath, node_pairs, node_tree, not_found}
use Rattle.std.specs.Prelude.{take, cond}
use Rattle.tsd_model.specs.Records.{kept_of}
use Rattle.tsd_model.specs.Sessions.{level_le}
use Rattle.tsd_model.specs.Attained.{record_level, shown_level}
use Rattle.tsd_model.specs.declared.caps.Shown.TheVariants.{Nothing, Key}
use Rattle.tsd_model.specs.declared.requests.Level.TheVariants as level
use Rattle.disk_laws.proofs.AttainedLaws.{attained_where}
use Rattle.fs_trees.specs.InodeTree as inodes
use Rattle.inode_walks.proofs.WalkLaws.{tree_child, is_found, root_stands}
use Rattle.inode_walks.proofs.FurtherLaws.{there_is_inode}
use Rattle.fs_laws.proofs.AtLaws.{at_last}

-- ---- paths, name by name

take_last : (xs : List Name) (i : ℕ) (x : Name) → i < length xs → x ≡ slice_index_or xs i x → take (i + 1) xs ≡ take i xs ++ x ∷ []
take_last [] i x h e = absurd (omega arith)
take_last (y ∷ xs) zero x h e = ap (λ z. z ∷ []) (sym e)
take_last (y ∷ xs) (suc i) x h e =
    let next : suc i + 1 ≡ suc (i + 1) = omega arith in
    ap (λ k. take k (y ∷ xs)) next ∙ ap (λ zs. y ∷ zs) (take_last xs i x (omega arith) e)

drop_first : (xs : List Name) (i : ℕ) (x : Name) → i < length xs → x ≡ slice_index_or xs i x → drop i xs ≡ x ∷ drop (i + 1) xs
drop_first [] i x h e = absurd (omega arith)
drop_first (y ∷ xs) zero x h e = ap (λ z. z ∷ xs) (sym e)
drop_first (y ∷ xs) (suc i) x h e =
    let next : suc (i + 1) ≡ suc i + 1 = omega arith in
    drop_first xs i x (omega arith) e ∙ ap (λ k. x ∷ drop k (y ∷ xs)) next

drop_all : (xs : List Name) (i : ℕ) → length xs ≤ i → drop i xs ≡ []
drop_all [] zero h = refl
drop_all [] (suc i) h = refl
drop_all (x ∷ xs) zero h = absurd (omega arith)
drop_all (x ∷ xs) (suc i) h = drop_all xs i (omega arith)

take_all : (xs : List Name) (i : ℕ) → length xs ≤ i → take i xs ≡ xs
take_all [] zero h = refl
take_all [] (suc i) h = refl
take_all (x ∷ xs) zero h = absurd (omega arith)
take_all (x ∷ xs) (suc i) h = ap (λ ys. x ∷ ys) (take_all xs i (omega arith))

-- where a child is there, what isn't found further is not found below it
further_below : (w : World) (n : Name) (ns : Path) (x : InodeNode) → is_there (child n x) ≡ true → not_found (inodes.tree_of w x) (n ∷ ns) ≡ not_found (inodes.tree_of w (child n x)) ns
further_below w n ns nothing h = absurd (cc)
further_below w n ns (a_file f) h = absurd (cc)
further_below w n ns (a_dir b es) h = ap (λ t. not_found t ns) (sym (tree_child w n (a_dir b es)))

-- ---- the walk

-- after i names this was found, and what the others lead to is what all lead to
pub record IsWalking (c : Client) (first now : DiskView) (names : Path) (i : ℕ) (found : Found) : Type 0 where
  pub more : ℕ
  pub levels : more + i ≡ path_max
  pub stands : StandsAsRead c now more found
  pub node : at (inodes_under now.world c.root) (take i names) ≡ node_at now.world (suc more) found.block
  pub rest : not_found (tree_under c first) names ≡ not_found (node_tree now more found) (drop i names)

pub record Walking (told : Type 0) (c : Client) (first now : DiskView) (names : Path) (i : ℕ) (found : Found) : Type 0 where
  pub looks : OnlyLooks {X = Unit {0}} told first now (Ok tt)
  pub walking : told → IsWalking c first now names i found

pub walks_on : (c : Client) (first now new : DiskView) (names : Path) (i : ℕ) (found next : Found) (n : Name) → i < length names → n ≡ slice_index_or names i n → Looked now new
    → (w : IsWalking c first now names i found) → IsFurther c now new w.more found n next → IsWalking c first new names (i + 1) next
walks_on c first now new names i found next n h is seen w further = record {
  more = further.less;
  levels = let one = further.deeper in let before = w.levels in omega (arith, one, before);
  stands = further.stands;
  node =
      ap (λ u. at (inodes_under u c.root) (take (i + 1) names)) seen.world
      ∙ (ap (at (inodes_under now.world c.root)) (take_last names i n h is)
      ∙ (at_last (take i names) n (inodes_under now.world c.root)
      ∙ (ap (child n) w.node ∙ further.node)));
  rest =
      let there : is_there (child n (node_at now.world (suc w.more) found.block)) ≡ true = ap is_there further.node ∙ further.stands.there in
      w.rest ∙ (ap (not_found (node_tree now w.more found)) (drop_first names i n h is)
      ∙ (further_below now.world n (drop (i + 1) names) (node_at now.world (suc w.more) found.block) there
      ∙ (ap (λ x. not_found (inodes.tree_of now.world x) (drop (i + 1) names)) further.node
      ∙ ap (λ u. not_found (inodes.tree_of u (node_at new.world (suc further.less) next.block)) (drop (i + 1) names)) (sym seen.world))));
}

-- a name that leads nowhere
pub walk_ends : (c : Client) (first now : DiskView) (names : Path) (i : ℕ) (found : Found) (n : Name) (e : FsRefusal) → i < length names → n ≡ slice_index_or names i n
    → (w : IsWalking c first now names i found) → ((ns : Path) → not_found (node_tree now w.more found) (n ∷ ns) ≡ Some e) → not_found (tree_under c first) names ≡ Some e
walk_ends c first now names i found n e h is w lost = w.rest ∙ (ap (not_found (node_tree now w.more found)) (drop_first names i n h is) ∙ lost (drop (i + 1) names))

-- all names were found
pub walk_arrives : (c : Client) (first now : DiskView) (names : Path) (i : ℕ) (found : Found) → length names ≤ i → i ≤ length names → (w : IsWalking c first now names i found) → StandsAtPath c now names found
walk_arrives c first now names i found h k w = record {
  more = w.more;
  levels = let before = w.levels in omega (arith, before, h, k);
  stands = w.stands;
  node = ap (at (inodes_under now.world c.root)) (sym (take_all names i h)) ∙ w.node;
}

pub nothing_missing : (c : Client) (first now : DiskView) (names : Path) (i : ℕ) (found : Found) → length names ≤ i → (w : IsWalking c first now names i found) → ◌≡◌ {A = Option FsRefusal} (not_found (tree_under c first) names) None
nothing_missing c first now names i found h w =
    w.rest ∙ (ap (not_found (node_tree now w.more found)) (drop_all names i h) ∙ is_found now.world (node_at now.world (suc w.more) found.block) w.stands.there)

-- ---- the session

pub still_open : (told : Type 0) (c : Client) (first now : DiskView) → MayAsk told c first → Stays first now → IsOpenNow c now
still_open told c first now may stays = record { number = may.ready.number; begun = stays.sessions c.session ∙ may.ready.begun }

-- ---- the root

-- what the root shows may be written
pub root_may : (told : Type 0) (c : Client) (v : DiskView) → told → MayAsk told c v → IsDiskSound v → MayWrite c v c.root
root_may told c v t may sound = record {
  number = may.ready.number;
  begun = may.ready.begun;
  live = (may.valid t).valid.raw.primaries c.root primary;
  attains = (attained_where v.world v.sessions c.session c.root (shown_at c c.root) level.Write refl).1 (inl (primary, shown));
}
  where
    primary : c.root < v.world.geometry.primaries
    primary = subst (λ n. c.root < n) (ap (λ x. x.primaries) (sym sound.geometry)) may.ready.primary

    shown : level_le level.Write (shown_level v.world c.root (shown_at c c.root)) ≡ true
    shown =
        ap (λ s. level_le level.Write (shown_level v.world c.root s)) (ap (λ t. cond t (Key c.cap) Nothing) (eq-eqb c.root c.root refl))
        ∙ ap (level_le level.Write) (ap (λ rs. record_level (slice_get rs c.root) (kept_of v.world.version c.cap)) sound.records
        ∙ (ap (λ n. record_level (slice_get v.records c.root) (kept_of n c.cap)) sound.version ∙ may.ready.attains))

-- and it was read as what stands at no names
pub walk_begins : (c : Client) (first now : DiskView) (names : Path) (found : Found) → is_there (tree_under c first) ≡ true → Looked first now → found.block ≡ c.root → inode_at first.world c.root ≡ Some (inode_of found.inode)
    → block_len_of found.inode ≡ block_len first.world.geometry → HoldsWrite (state_of now) c.session c.root → MayWrite c now c.root → IsWalking c first now names 0 found
walk_begins c first now names found there seen block says whole held may =
    let root = root_stands first.world c.root there in
    let same : node_at first.world (suc path_max) c.root ≡ node_at now.world (suc path_max) found.block =
    ap (λ w. node_at w (suc path_max) c.root) (sym seen.world) ∙ ap (node_at now.world (suc path_max)) (sym block) in
    record {
      more = path_max;
      levels = refl;
      stands = record {
        there = ap is_there (sym same) ∙ root.1;
        says = ap (inode_at now.world) block ∙ (ap (λ w. inode_at w c.root) seen.world ∙ says);
        pairs = λ a b h. ap (λ w. holds w.pairs a b) seen.world ∙ root.2 a b (ap (λ x. holds (node_pairs x) a b) same ∙ h);
        held = subst (HoldsWrite (state_of now) c.session) (sym block) held;
        may = subst (MayWrite c now) (sym block) may;
        whole = whole ∙ ap (λ w. block_len w.geometry) (sym seen.world);
      };
      node = ap (λ w. inodes_under w c.root) seen.world ∙ (root.0 ∙ same);
      rest = ap (λ x. not_found x names) (ap (inodes.tree_of first.world) (root.0 ∙ same) ∙ ap (λ w. inodes.tree_of w (node_at now.world (suc path_max) found.block)) (sym seen.world));
    }

pub root_inode : (w : World) (root : ℕ) → is_there (inode_tree w root) ≡ true → is_some (inode_at w root) ≡ true
root_inode w root there = there_is_inode w (suc path_max) root (root_stands w root there).1
