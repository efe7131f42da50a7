-- What mounting leaves, in either layout.
use Rattle.std.proofs.Common.{◌≡◌, ◌≢◌, ℕ, ◌<◌, Bool, true, false, refl, sym, ◌∙◌, ap, subst, Result, Ok, Err}
use Rattle.fs_client.proofs.Common.{IfErr, OnOk, has_number, holds, Tree, nothing, a_file, a_dir, is_there, Named, tree_at, named_at, IsTidy, ShellKind, FsRefusal, IsUnder, named_is_under, DiskView, IsValidNow, FilesView, IsTreeAlone, LeavesTidyWorld, OnAnswer, OnlyDeletes, Client, OnlyLooks, files_by, Runs, Trimmed, IsTrim, Trims, IsClean}
use Rattle.fs_trees.specs.declared.ask.ShellAsk.TheVariants as ask
use Rattle.fs_trees.specs.declared.refusal.FsRefusal.TheVariants as no
use Rattle.fs_client.proofs.RunLaws.{on_ok, on_both, answer_ok, ok_of, alone_same, runs_look, runs_more, looks_change}
use Rattle.fs_client.proofs.TidyLaws.{is_tidy, same_tree, tree_alone, only_deletes, trimmed_left}
use Rattle.fs_client.proofs.TrimLaws.{trims_by_looks, then_trims, under_still}

pub not_refused : {X : Type 0} (P : Type 0) (result : Result X FsRefusal) → IfErr result (λ e. e ≡ no.Device) → IfErr result (λ e. e ≡ no.NotThisFs → P)
not_refused P (Ok x) h = tt
not_refused P (Err e) h = λ other. absurd (clash e h other)
  where
    clash : (e : FsRefusal) → e ≡ no.Device → e ≡ no.NotThisFs → ⊥
    clash e p q = cc

pub other_fault : no.NotThisFs ≢ no.Device
other_fault e = cc

pub no_tree_is : (t : Tree) → is_there t ≡ false → t ≡ nothing
no_tree_is nothing h = refl
no_tree_is (a_file x) h = absurd (cc)
no_tree_is (a_dir d es) h = absurd (cc)

-- ---- a tree is there, was looked at, and is tidied

module _ (kind : ShellKind) (told : Type 0) (c : Client) (old mid : DiskView) (x : Bool) (n : Named) (valid : told → IsValidNow old) (primary : told → c.root < old.world.geometry.primaries) (there : told → is_there (tree_at kind old.world c.root) ≡ true)
    (named : told → n ≡ named_at kind old.world c.root) (targets : told → (a b : ℕ) → holds (named_at kind old.world c.root).pairs a b ≡ true → has_number (named_at kind old.world c.root).blocks b ≡ true) (looks : OnlyLooks told old mid (Ok x)) where
  pub under_old : told → IsUnder old.world c.root n
  under_old t = subst (IsUnder old.world c.root) (sym (named t)) (named_is_under kind old.world c.root (primary t) (there t))

  module _ (new : DiskView) (result : Result (Unit {0}) FsRefusal) (trims : Trims told c n mid new result) (clean : told → OnOk result ((a : ℕ) → IsClean n new.world a)) where
    all : Trims told c n old new result
    all = then_trims told c n old mid new x result (trims_by_looks told c n old mid (Ok x) valid under_old (λ t. tt) looks) trims

    as_named : (t : told) → Trimmed c n old new → Trimmed c (named_at kind old.world c.root) old new
    as_named t = subst (λ m. Trimmed c m old new) (named t)

    pub tree_stays : told → OnOk result (tree_at kind new.world c.root ≡ tree_at kind old.world c.root)
    tree_stays t = on_ok (Trimmed c n old new) (tree_at kind new.world c.root ≡ tree_at kind old.world c.root) result (λ h. (same_tree kind c old (there t) new (as_named t h)).tree) (all.trimmed t)

    pub only_deleted : told → OnOk result (OnlyDeletes (files_by kind c) old.world new.world)
    only_deleted t = on_ok (Trimmed c n old new) (OnlyDeletes (files_by kind c) old.world new.world) result (λ h. only_deletes kind c old (there t) new (as_named t h)) (all.trimmed t)

    now_tidy : (t : told) → Trimmed c n old new → ((a : ℕ) → IsClean n new.world a) → IsTidy kind new.world c.root
    now_tidy t h cleaned =
        let same = same_tree kind c old (there t) new (as_named t h) in
        let still : named_at kind new.world c.root ≡ n = same.named ∙ sym (named t) in
        is_tidy kind new.world c.root h.valid.valid
        (subst (IsUnder new.world c.root) (sym still) (under_still old.world new.world c.root n (under_old t) h.keeps))
        (λ a b k. ap (λ m. has_number m.blocks b) same.named ∙ targets t a b (ap (λ m. holds m.pairs a b) (sym same.named) ∙ k))
        (λ a. subst (λ m. IsClean m new.world a) (sym still) (cleaned a))

    pub tidy_now : told → OnOk result (IsTidy kind new.world c.root)
    tidy_now t = on_both (Trimmed c n old new) ((a : ℕ) → IsClean n new.world a) (IsTidy kind new.world c.root) result (now_tidy t) (all.trimmed t) (clean t)

    pub world_left : told → OnAnswer result (LeavesTidyWorld (files_by kind c) old new)
    world_left t = answer_ok (LeavesTidyWorld (files_by kind c) old new) result
        (on_both (IsTidy kind new.world c.root) ((new.spent ≡ false) × Trimmed c n old new) (LeavesTidyWorld (files_by kind c) old new) result
        (λ tidy h. trimmed_left kind c n old new h.0 tidy h.1) (tidy_now t)
        (on_both (new.spent ≡ false) (Trimmed c n old new) ((new.spent ≡ false) × Trimmed c n old new) result (λ p q. (p, q)) (ok_of (new.spent ≡ false) (new.spent ≡ false) result (λ p. p) all.runs.unspent) (all.trimmed t)))
        (trims.only t)

    pub mount_runs : Runs told old new (IsTreeAlone (files_by kind c) old) result
    mount_runs = runs_more told old new (IsTrim c n old) (IsTreeAlone (files_by kind c) old) result (λ t w h. tree_alone kind c old (there t) w (subst (λ m. IsTrim c m old w) (named t) h)) all.runs

-- ---- it was only looked at

module _ {X : Type 0} (told : Type 0) (f : FilesView) (old new : DiskView) (result : Result X FsRefusal) (valid : told → IsValidNow old) (looks : OnlyLooks told old new result) where
  pub looked_left : told → OnAnswer result (LeavesTidyWorld f old new)
  looked_left = (looks_change told f old new ask.Df result (λ t. (valid t).valid) looks).world

  pub looked_runs : Runs told old new (IsTreeAlone f old) result
  looked_runs = runs_look told old new (IsTreeAlone f old) result (λ t w e. alone_same f old w (valid t).valid e) looks
