-- A file is made: from the free blocks that were counted to the inode that is filled or given up.
use Rattle.std.proofs.Common.{◌≡◌, ◌≢◌, ℕ, ◌+◌, ◌≤◌, true, false, ◌==◌, List, [], ◌∷◌, ◌++◌, length, refl, sym, ◌∙◌, ap, subst, arith, inl, inr, Option, Some, None, Result, Ok, Err}
use Rattle.inode_changes.proofs.Common.{and_parts, or_cases, or_left, eq-eqb, eqb-true, false_from_ne_true, block_len, World, is_live, is_free, free_count, has_number, holds, is_pair, a_file, regular, need, inode_blocks, data_blocks, FsRefusal, found, under_is, number_right, each_under, DiskView, IsValidNow, KeepsRoom, Client, MayWrite, Looked, OnlyLooks, refusal_before, no_room_in, refused_later, room_for_both, may_again, Runs, clash_free_live, runs_look, runs_more, then_runs, Content, Making, shared_of, new_bytes, new_count, all_count, IsFor, RootReaches, Stage, IsAside, AsideOf, Filled, Stopped, HasNewInode, bytes_of, AreOfFiles, IsMadeInode}
use Rattle.fs_trees.specs.declared.refusal.FsRefusal.TheVariants as no
use Rattle.inode_changes.proofs.TidyLaws.{named_of, named_under}
use Rattle.inode_changes.proofs.MakingLaws.{inode_held}
use Rattle.inode_changes.proofs.BeginLaws.{as_it_was}
use Rattle.inode_changes.proofs.TakenLaws.{file_takes}
use Rattle.inode_changes.proofs.EntryLaws.{file_data}

-- what was refused, but by a fault, goes on
pub runs_on : {X Y : Type 0} (told : Type 0) (old new : DiskView) (P : World → Type 0) (e : FsRefusal) (y : Y) → e ≢ no.Device → Runs {X = X} told old new P (Err e) → Runs {X = Y} told old new P (Ok y)
runs_on told old new P e y ne h = record {
  valid = λ t. ((h.valid t).1 ne, tt);
  led = λ t. ((h.led t).1 ne, tt);
  crash = h.crash;
  stays = (h.stays.1 ne, tt);
  counts = h.counts;
  unspent = (h.unspent.1 ne, tt);
  faultless = (h.faultless.1 ne, tt);
  cause = tt;
  spent = tt;
}

-- the root reaches the blocks of its files
files_reached : (root : ℕ) (first : World) (d : ℕ) (shared : List ℕ) → Stage root first d → AreOfFiles root first shared → RootReaches root first shared
files_reached root first d shared at of b h =
    let all = found first root at.there in
    named_under first root at.valid at.primary at.there b
    (ap (λ k. has_number k.blocks b) (named_of first root all.0 all.1) ∙ number_right (root ∷ inode_blocks all.0) (data_blocks all.0) b (file_data root first all.0 (under_is first root all.0 all.1) b (of b h)))

-- a stop that finds the world as it was
pub looks_aside : {X : Type 0} {told : Type 0} {root d : ℕ} {old new : DiskView} {result : Result X FsRefusal} → (told → Stage root old.world d) → OnlyLooks told old new result → Runs told old new (IsAside root old.world) result
looks_aside {told = told} {root = root} {d = d} {old = old} {new = new} {result = result} at looks = runs_look told old new (IsAside root old.world) result (λ t w is. subst (IsAside root old.world) (sym is) (as_it_was root old.world d (at t))) looks

pub aside_on : {X Y : Type 0} {told : Type 0} {root d : ℕ} {old mid new : DiskView} {y : Y} {result : Result X FsRefusal} → (told → Stage root old.world d) → OnlyLooks told old mid (Ok y) → Runs told mid new (IsAside root mid.world) result → Runs told old new (IsAside root old.world) result
aside_on {told = told} {root = root} {old = old} {mid = mid} {new = new} {y = y} {result = result} at looks runs = then_runs told old mid new (IsAside root old.world) y result (looks_aside at looks)
    (runs_more told mid new (IsAside root mid.world) (IsAside root old.world) result (λ t w k. subst (λ x. IsAside root x w) (looks.looked t).0.world k) runs)

-- after the new inode: the free blocks were counted before it
pub record HasBegun (told : Type 0) (c : Client) (old mid begun : DiskView) (d i : ℕ) : Type 0 where
  pub at : told → Stage c.root old.world d
  pub now : told → IsValidNow old
  pub looks : OnlyLooks {X = Unit {0}} told old mid (Ok tt)
  pub began : told → HasNewInode c mid begun d i
  pub runs : Runs {X = ℕ} told old begun (IsAside c.root old.world) (Ok i)

pub begun_so : {told : Type 0} {c : Client} {old mid begun : DiskView} {d i : ℕ} → (told → Stage c.root old.world d) → (told → IsValidNow old) → OnlyLooks {X = Unit {0}} told old mid (Ok tt)
    → (told → HasNewInode c mid begun d i) → Runs {X = ℕ} told mid begun (IsAside c.root mid.world) (Ok i) → HasBegun told c old mid begun d i
begun_so at now looks began runs = record { at = at; now = now; looks = looks; began = began; runs = aside_on at looks runs }

module _ {told : Type 0} {c : Client} {old mid begun : DiskView} {d i : ℕ} (x : HasBegun told c old mid begun d i) where
  module _ (t : told) where
    abbrev at : Stage c.root old.world d
    at = x.at t

    abbrev seen : Looked old mid
    seen = (x.looks.looked t).0

    abbrev b : HasNewInode c mid begun d i
    b = x.began t

    making_first : Making c.root old.world d i [] [] begun.world
    making_first = subst (λ w. Making c.root w d i [] [] begun.world) seen.world b.making

    size_first : begun.world.geometry ≡ old.world.geometry
    size_first = b.geometry ∙ ap (λ w. w.geometry) seen.world

    pairs_first : length begun.world.pairs ≡ length old.world.pairs + 1
    pairs_first = b.pairs ∙ ap (λ w. length w.pairs + 1) seen.world

    blocks_first : free_count begun.world + 1 ≡ free_count old.world
    blocks_first = b.blocks ∙ ap free_count seen.world

    pub may_first : (k : ℕ) → MayWrite c old k → MayWrite c begun k
    may_first k may = b.may k (may_again c old mid k seen x.looks.stays.0 (x.now t) may)

    pub still_for : {content : Content} → IsFor c old content → IsFor c begun content
    still_for suits = record {
      len = suits.len ∙ ap block_len (sym size_first);
      count = suits.count;
      size = suits.size;
      apart = suits.apart;
      may = λ k h. record { may = may_first k (suits.may k h).may; apart = subst (λ g. g.primaries ≤ k) (sym size_first) (suits.may k h).apart };
    }

    -- there is room for the inode and the rest, where the rest has room behind it
    pub room_with : (n p : ℕ) → 1 + n ≤ free_count old.world → ◌≡◌ {A = Option FsRefusal} (no_room_in begun.world n p) None → ◌≡◌ {A = Option FsRefusal} (no_room_in old.world (1 + n) (1 + p)) None
    room_with n p enough room = room_for_both old.world begun.world n p size_first blocks_first pairs_first enough room

    pub full_with : (n p : ℕ) → 1 + n ≤ free_count old.world → (e : FsRefusal) → no_room_in begun.world n p ≡ Some e → no_room_in old.world (1 + n) (1 + p) ≡ Some (refusal_before e 1)
    full_with n p enough e full = refused_later old.world begun.world n p size_first blocks_first pairs_first enough e full

    pub enough_left : (n : ℕ) → 1 + n ≤ free_count old.world → n ≤ free_count begun.world
    enough_left n h = let less = blocks_first in omega (arith, h, less)

    -- the new inode points to nothing
    pub points_nowhere : (k : ℕ) → holds begun.world.pairs i k ≡ false
    points_nowhere k = false_from_ne_true (holds begun.world.pairs i k) (λ h. elim (or_cases (holds old.world.pairs i k) _ (sym (making_first.pairs i k) ∙ h)) [
      | inl was ↦ clash_free_live old.world i new (at.valid.raw.sources i k was)
      | inr own ↦ elim (or_cases (is_pair i k (d, i)) false own) [
        | inl to ↦ clash_free_live old.world i new (subst (λ n. is_live old.world n ≡ true) (eqb-true d i (and_parts (d == i) (i == k) to).0) dir_live)
        | inr never ↦ absurd (cc)
      ]
    ])
      where
        new : is_free old.world i ≡ true
        new = making_first.free i (or_left (i == i) _ (eq-eqb i i refl))

        dir_live : is_live old.world d ≡ true
        dir_live = each_under old.world c.root (λ k. is_live old.world k ≡ true) (at.valid.raw.primaries c.root at.primary) (λ a k pair h. at.valid.raw.targets a k pair) d at.dir

    module _ (content : Content) (of : AreOfFiles c.root old.world (shared_of content)) where
      reached : RootReaches c.root old.world (shared_of content)
      reached = files_reached c.root old.world d (shared_of content) at of

      pub made_so : {full : DiskView} → Filled c begun full i content.size (shared_of content) (new_bytes content) → IsMadeInode c.root old.world d i (a_file (bytes_of old.world content)) full.world
      made_so f =
          let file = f.file old.world d at making_first reached in
          record {
            inode = regular content.size (shared_of content ++ file.fresh);
            shared = shared_of content;
            fresh = file.fresh;
            making = file.making;
            says = file.says;
            blocks = refl;
            bare = refl;
            is = ap (λ x. a_file x) file.bytes_are;
            of_files = of;
          }

      module _ {stop : DiskView} (s : Stopped c begun stop i (shared_of content)) where
        pub left_making : (shared : List ℕ) × Making c.root old.world d i shared [] stop.world
        left_making = s.making old.world d at making_first reached

        pub still_pointed : holds stop.world.pairs d i ≡ true
        still_pointed = inode_held c.root old.world at.valid at.primary at.there d at.dir i left_making.0 [] stop.world left_making.1

  -- after the filling, or where that stopped
  pub filling_runs : {X : Type 0} {full : DiskView} {result : Result X FsRefusal} (content : Content) → (told → AreOfFiles c.root old.world (shared_of content)) → Runs told begun full (AsideOf c.root i (shared_of content) begun.world) result → Runs told old full (IsAside c.root old.world) result
  filling_runs {full = full} {result = result} content of runs = then_runs told old begun full (IsAside c.root old.world) i result x.runs
      (runs_more told begun full (AsideOf c.root i (shared_of content) begun.world) (IsAside c.root old.world) result (λ t w k. k old.world d (x.at t) (making_first t) (reached t content (of t))) runs)

  pub filling_keeps : {full : DiskView} {content : Content} → (told → AreOfFiles c.root old.world (shared_of content)) → (told → IsFor c old content)
      → (told → Filled c begun full i content.size (shared_of content) (new_bytes content)) → told → KeepsRoom (need (1 + new_count content) (1 + all_count content)) old.world full.world
  filling_keeps {full = full} {content = content} of suits filled t = file_takes c old begun full d i (x.at t) (making_first t) content (suits t) (reached t content (of t)) (filled t)
