-- What a file system's calls promise, whether a tree is mounted or not.
use Rattle.std.proofs.Common.{◌≡◌, ◌≢◌, Bool, true, false, refl, sym, subst, Result, Err}
use Rattle.fs_client.proofs.Common.{World, ShellAsk, FsRefusal, DiskView, IsDiskSound, IsValidNow, FilesView, IsEitherTree, IsTreeAlone, IsLeft, LeavesTidyWorld, OnlyDeletes, Changes, FindsTree, IsMade, Looks, Runs, on_answer, unasked, Looked, OnlyLooks}
use Rattle.fs_trees.specs.declared.ask.ShellAsk.TheVariants as ask
use Rattle.fs_trees.specs.declared.refusal.FsRefusal.TheVariants as no
use Rattle.fs_client.proofs.RunLaws.{as_before, changes_so, leaves_same, on_ok, runs_look, runs_more}

pub looks_at : {X : Type 0} (told : Type 0) (old new : DiskView) (result : Result X FsRefusal) → OnlyLooks told old new result → Looks told old new result
looks_at told old new result looks = record {
  world = λ t. on_answer (Looked old new) (new.world ≡ old.world) result (λ l. l.world) (looks.looked t);
  runs = runs_look told old new (λ w. w ≡ old.world) result (λ t w e. e) looks;
}

-- ---- a refusal that is no fault, before anything is asked

module _ {X : Type 0} (told : Type 0) (v : DiskView) (e : FsRefusal) (ne : e ≢ no.Device) (unspent : v.spent ≡ false) (sound : told → IsDiskSound v) (valid : told → IsValidNow v) where
  pub unasked_looks : Looks {X = X} told v v (Err e)
  unasked_looks = record { world = λ t. (tt, λ _. refl); runs = unasked told v (λ w. w ≡ v.world) e ne unspent sound valid (λ t. refl) }

  pub unasked_changes : (f : FilesView) (a : ShellAsk) → Changes {X = X} told f v v a (Err e)
  unasked_changes f a = changes_so told f v v a (Err e) (λ t. tt) (λ t. (tt, λ _. leaves_same f v v refl unspent)) (λ t off. unasked_looks.runs.crash t)
      (unasked told v (IsEitherTree f v a) e ne unspent sound valid (λ t. as_before f v a v.world (valid t).valid refl))

-- ---- of the same file system, where a tree is mounted or where none is

module _ (f : FilesView) (m : Bool) (old new : DiskView) where
  left_as : (w : World) → IsLeft f old w → IsLeft (record f { mounted = m }) old w
  left_as w h = record { valid = h.valid; geometry = h.geometry; others = h.others }

  tidy_as : LeavesTidyWorld f old new → LeavesTidyWorld (record f { mounted = m }) old new
  tidy_as h = record { unspent = h.unspent; tidy = h.tidy; others = h.others; taken = h.taken }

  deletes_as : (w : World) → OnlyDeletes f old.world w → OnlyDeletes (record f { mounted = m }) old.world w
  deletes_as w h = record { pairs = h.pairs; bytes = h.bytes; named = h.named; none = h.none }

  pub made_as : IsMade f old new → IsMade (record f { mounted = m }) old new
  made_as h = record { tree = h.tree; tidy = h.tidy; left = tidy_as h.left; room = h.room }

  module _ {X : Type 0} (told : Type 0) (result : Result X FsRefusal) where
    pub make_as : Runs told old new (IsEitherTree f old ask.Make) result → Runs told old new (IsEitherTree (record f { mounted = m }) old ask.Make) result
    make_as = runs_more told old new (IsEitherTree f old ask.Make) (IsEitherTree (record f { mounted = m }) old ask.Make) result (λ t w e. (e.0, left_as w e.1))

    pub mount_as : Runs told old new (IsTreeAlone f old) result → Runs told old new (IsTreeAlone (record f { mounted = m }) old) result
    mount_as = runs_more told old new (IsTreeAlone f old) (IsTreeAlone (record f { mounted = m }) old) result (λ t w e. (e.0, left_as w e.1, deletes_as w e.2))

    pub finds_as : FindsTree f old new result → FindsTree (record f { mounted = m }) old new result
    finds_as h = record {
      tree = h.tree;
      tidy = h.tidy;
      deletes = on_ok (OnlyDeletes f old.world new.world) (OnlyDeletes (record f { mounted = m }) old.world new.world) result (deletes_as new.world) h.deletes;
      there = h.there;
      only = h.only;
      not_there = h.not_there;
      world = on_answer (LeavesTidyWorld f old new) (LeavesTidyWorld (record f { mounted = m }) old new) result tidy_as h.world;
    }

    -- where it is mounted
    pub mounted_changes : (a : ShellAsk) → m ≡ true → Changes told (record f { mounted = true }) old new a result → Changes told (record f { mounted = m }) old new a result
    mounted_changes a is = subst (λ n. Changes told (record f { mounted = n }) old new a result) (sym is)
