-- A block is taken for a new inode.
use Rattle.std.proofs.Common.{◌≡◌, ◌≢◌, ℕ, suc, ◌+◌, ◌≤◌, true, false, ◌==◌, List, [], ◌∷◌, length, refl, sym, ◌∙◌, ap, subst, arith, inl, inr, ◌⊎◌, Option, Some, None}
use Rattle.inode_changes.proofs.Common.{and_from, or_left, eq-eqb, false_from_ne_true, World, free_count, has_number, holds, chosen, zeros, with_new_blocks, At, length-with_new_pair, named_at, is_under, FsRefusal, inodes_under_root, read_from_named, DiskView, IsValidNow, Stays, Client, alloc_by, unlink_by, refusal_before, MayWrite, Leads, Went, dropped, taken, clash_free_live, chosen_free, chosen_enough, free_count_new, the_block, Making, Stage, IsAside, HasNewInode, IsBack, AsideOr}
use Rattle.tsd_model.specs.declared.requests.Hint.{Hint}
use Rattle.tsd_model.specs.declared.requests.PlaceKind.{PlaceKind}
use Rattle.fs_trees.specs.declared.ask.ShellKind.TheVariants as kind
use Rattle.fs_trees.specs.declared.refusal.FsRefusal.TheVariants as no
use Rattle.inode_changes.proofs.MakingLaws.{making_begins}
use Rattle.inode_changes.proofs.FillLaws.{aside_now, took_some}
use Rattle.inode_changes.proofs.ShareLaws.{fault_before}
use Rattle.inode_changes.proofs.BackLaws.{taken_back}

pub began_so : (c : Client) (old new : DiskView) (d i : ℕ) → Stage c.root old.world d → IsValidNow old → MayWrite c old d → chosen old.kind old.world (At d) 1 ≡ i ∷ []
    → Went c old new (alloc_by c d 1) d (taken old d 1) → Stays old new → HasNewInode c old new d i
began_so c old new d i at now may only went stays =
    let took = took_some c old d 1 now new may went stays in
    let among : has_number (chosen old.kind old.world (At d) 1) i ≡ true = ap (λ bs. has_number bs i) only ∙ or_left (i == i) false (eq-eqb i i refl) in
    let free = chosen_free old.kind old.world (At d) 1 i among in
    let is : new.world ≡ with_new_blocks old.world d (i ∷ []) = went.world ∙ ap (with_new_blocks old.world d) only in
    let leads : Leads old.world (alloc_by c d 1) (with_new_blocks old.world d (i ∷ [])) = subst (λ bs. Leads old.world (alloc_by c d 1) (with_new_blocks old.world d bs)) only went.leads in
    let new_one : holds old.world.pairs d i ≡ false = false_from_ne_true (holds old.world.pairs d i) (λ h. clash_free_live old.world i free (now.valid.raw.targets d i h)) in
    record {
      making = subst (Making c.root old.world d i [] []) (sym is) (making_begins c.root old.world at.valid at.primary at.there d at.dir c i free leads);
      geometry = took.geometry;
      pairs = ap (λ w. length w.pairs) is ∙ (length-with_new_pair (d, i) old.world.pairs new_one ∙ one_more (length old.world.pairs));
      blocks = ap (λ w. free_count w + 1) is ∙ free_count_new old.world i (zeros old.world) free;
      may = took.may;
      inode = took.parts i among;
    }
  where
    one_more : (n : ℕ) → suc n ≡ n + 1
    one_more n = omega arith

-- ---- stops

pub as_it_was : (root : ℕ) (first : World) (d : ℕ) → Stage root first d → IsAside root first first
as_it_was root first d at = record {
  tree = refl;
  valid = at.valid;
  geometry = refl;
  others = record { records = refl; bytes = λ b live away. refl; pairs = λ x y live away. refl; apart = λ b live away. away };
}

-- the block is taken, or it isn't
pub stop_at_take : (c : Client) (old : DiskView) (d : ℕ) → Stage c.root old.world d → (w : World) → (w ≡ old.world) ⊎ ((w ≡ taken old d 1) × Leads old.world (alloc_by c d 1) (taken old d 1)) → IsAside c.root old.world w
stop_at_take c old d at w h = elim h [
  | inl before ↦ subst (IsAside c.root old.world) (sym before) (as_it_was c.root old.world d at)
  | inr after ↦ subst (IsAside c.root old.world) (sym after.0) (record {
    tree = (read_from_named kind.Inode old.world (taken old d 1) c.root at.there (after.1.keeps c.root (named_at kind.Inode old.world c.root) (inodes_under_root old.world c.root at.primary at.there) refl)).tree;
    valid = after.1.valid;
    geometry = after.1.geometry;
    others = after.1.others c.root at.primary (and_from (is_under old.world c.root d) true at.dir refl);
  })
]

-- ---- one block was chosen

pub only_one : (bs : List ℕ) (i : ℕ) → the_block bs ≡ Some i → bs ≡ i ∷ []
only_one [] i h = absurd (cc)
only_one (b ∷ []) i h = let same : b ≡ i = cc in ap (λ k. k ∷ []) same
only_one (b ∷ k ∷ bs) i h = absurd (cc)

pub one_there : (kind : PlaceKind) (w : World) (h : Hint) (bs : List ℕ) → bs ≡ chosen kind w h 1 → 1 ≤ free_count w → ◌≡◌ {A = Option ℕ} (the_block bs) None → ⊥
one_there kind w h bs are free none = not_one bs none (ap length are ∙ chosen_enough kind w h 1 free)
  where
    not_one : (bs : List ℕ) → ◌≡◌ {A = Option ℕ} (the_block bs) None → length bs ≡ 1 → ⊥
    not_one [] h e = absurd (omega arith)
    not_one (b ∷ []) h e = absurd (cc)
    not_one (b ∷ k ∷ bs) h e = absurd (omega arith)

-- ---- it is given up

module _ (root d i : ℕ) (w : World) where
  pub is_back : (next : World) → next ≡ dropped w d i → IsBack root d i w next
  is_back next e first shared fresh at m = e ∙ taken_back root first at.valid d i shared fresh w m

  pub stop_at_drop : (c : Client) (v : World) → (v ≡ w) ⊎ ((v ≡ dropped w d i) × Leads w (unlink_by c d i) (dropped w d i)) → AsideOr root d i w v
  stop_at_drop c v h first shared fresh at m = elim h [
    | inl before ↦ subst (IsAside root first) (sym before) (aside_now root first d i shared fresh w at m)
    | inr after ↦ subst (IsAside root first) (sym (is_back v after.0 first shared fresh at m)) (as_it_was root first d at)
  ]

-- a refusal as of another time is no fault
pub no_fault : (e : FsRefusal) (made : ℕ) → e ≢ no.Device → refusal_before e made ≢ no.Device
no_fault e made ne h = ne (fault_before e made h)
