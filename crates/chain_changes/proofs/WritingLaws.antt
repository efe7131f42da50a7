-- A write within a call that changes the tree: what holds before it, and what the call says when it ends there.
use Rattle.std.proofs.Common.{◌≡◌, ◌≢◌, ◌≤◌, ℕ, List, length, refl, sym, subst, inl, inr, ◌⊎◌, Some, Result, Ok, Err}
use Rattle.chain_changes.proofs.Common.{IfErr, block_len, World, IsValid, written, live-with_contents, done, ShellAsk, FsRefusal, DiskView, Answers, IsEitherTree, KeepsRoom, need_on, Changes, Runs, Client, write_by, unlink_by, MayWrite, OnlyLooks, Leads, Steps, dropped, refused_on, ask_refuses, no_more_room, write_takes, drop_takes, may_after, runs_step, runs_more, then_runs, runs_as, runs_refused, changes_of, looks_change, leaves_same, mounted_by, IsAside}
use Rattle.fs_trees.specs.declared.refusal.FsRefusal.TheVariants as no
use Rattle.fs_client.proofs.AgainLaws.{answers_again, changes_again}
use Rattle.chain_changes.proofs.AfterLaws.{Decided, LetsGo, None_loose, decided_answers, decided_leaves, loose_gone, loose_runs}

-- ---- where the call ends

-- what a call says of an ask when it returns
pub record Ends (told : Type 0) (c : Client) (old new : DiskView) (a : ShellAsk) (result : Result (Unit {0}) FsRefusal) : Type 0 where
  pub answer : told → Answers (mounted_by c) old new a result (λ _ answer. answer ≡ done)
  pub changes : Changes told (mounted_by c) old new a result

module _ (told : Type 0) (c : Client) (old new : DiskView) (a : ShellAsk) where
  abbrev P : World → Type 0
  P = IsEitherTree (mounted_by c) old a

  -- before anything is decided, a stop leaves the tree
  pub aside_runs : {X : Type 0} (result : Result X FsRefusal) → Runs told old new (IsAside c.root old.world) result → Runs told old new (IsEitherTree (mounted_by c) old a) result
  aside_runs result runs = runs_more told old new (IsAside c.root old.world) P result (λ t w aside. (inl aside.tree, record { valid = aside.valid; geometry = aside.geometry; others = aside.others })) runs

  -- it is refused, and all is as it was
  pub refused_ends : {X : Type 0} (e : FsRefusal) → (told → e ≢ no.Device → refused_on (mounted_by c) old a ≡ Some e) → (told → e ≢ no.Device → new.world ≡ old.world) → Runs {X = X} told old new (IsEitherTree (mounted_by c) old a) (Err e) → Ends told c old new a (Err e)
  refused_ends e full same runs = record {
    answer = λ t. ask_refuses (mounted_by c) old new a (λ _ answer. answer ≡ done) e (full t) (same t);
    changes = changes_of told (mounted_by c) refl old new a (Err e) (λ t. tt) (λ t. (tt, λ ne. leaves_same (mounted_by c) old new (same t ne) (runs.unspent.1 ne))) (runs_refused told old new P e runs);
  }

  -- the disk fails
  pub fault_ends : {X : Type 0} (e : FsRefusal) → (told → e ≡ no.Device) → Runs {X = X} told old new (IsEitherTree (mounted_by c) old a) (Err e) → Ends told c old new a (Err e)
  fault_ends e only = refused_ends e (λ t ne. absurd (ne (only t))) (λ t ne. absurd (ne (only t)))

  -- it only looked
  pub looks_ends : (told → IsValid old.world) → (e : FsRefusal) → (told → e ≢ no.Device → refused_on (mounted_by c) old a ≡ Some e) → OnlyLooks {X = Unit {0}} told old new (Err e) → Ends told c old new a (Err e)
  looks_ends valid e full looks = record {
    answer = λ t. ask_refuses (mounted_by c) old new a (λ _ answer. answer ≡ done) e (full t) (λ ne. ((looks.looked t).1 ne).world);
    changes = looks_change told (mounted_by c) old new a (Err e) valid looks;
  }

  -- it is decided, and nothing is loose
  pub decided_ends : (told → Decided c old a new.world None_loose) → (told → KeepsRoom (need_on (mounted_by c) old a) old.world new.world) → Runs {X = Unit {0}} told old new (IsEitherTree (mounted_by c) old a) (Ok tt) → Ends told c old new a (Ok tt)
  decided_ends decided kept runs = record {
    answer = λ t. decided_answers c old a new None_loose (decided t);
    changes = changes_of told (mounted_by c) refl old new a (Ok tt) kept (λ t. (decided_leaves c old a new (decided t) runs.unspent.0, tt)) runs;
  }

-- after a look that changed nothing, it says so of the world before that
pub ends_again : {X : Type 0} {told : Type 0} {c : Client} {first mid new : DiskView} {a : ShellAsk} {x : X} {result : Result (Unit {0}) FsRefusal} → (told → IsValid first.world) → OnlyLooks told first mid (Ok x)
    → (told → Answers (mounted_by c) mid new a result (λ _ answer. answer ≡ done)) → Changes told (mounted_by c) mid new a result → Ends told c first new a result
ends_again {told = told} {c = c} {first = first} {mid = mid} {new = new} {a = a} {x = x} {result = result} valid looks answer changes = record {
  answer = λ t. answers_again (mounted_by c) first mid a (looks.looked t).0.world new result (λ _ answer. answer ≡ done) (answer t);
  changes = changes_again told (mounted_by c) first mid new a x result valid looks changes;
}

-- ---- a write within it

-- So far no more is taken than the ask needs, and a stop leaves either tree. The client may write these bytes to a block;
-- they fit, and the world that this leads to has D, and so either tree.
pub record Writing (told : Type 0) (c : Client) (old mid : DiskView) (a : ShellAsk) (d : ℕ) (bytes : List ℕ) (D : World → Type 0) : Type 0 where
  pub so_far : Runs {X = Unit {0}} told old mid (IsEitherTree (mounted_by c) old a) (Ok tt)
  pub kept : told → KeepsRoom (need_on (mounted_by c) old a) old.world mid.world
  pub may : told → MayWrite c mid d
  pub fits : told → length bytes ≤ block_len mid.world.geometry
  pub leads : told → Leads mid.world (write_by c d bytes) (written mid.world d bytes) → D (written mid.world d bytes)
  pub still : told → IsEitherTree (mounted_by c) old a mid.world
  pub either : told → (w : World) → D w → IsEitherTree (mounted_by c) old a w

-- the same bytes, at the same block
pub steps_as : {X : Type 0} {told : Type 0} {c : Client} {old new : DiskView} {result : Result X FsRefusal} {d e : ℕ} {bytes same : List ℕ} → e ≡ d → same ≡ bytes
    → Steps told c old new (write_by c e same) e (written old.world e same) result → Steps told c old new (write_by c d bytes) d (written old.world d bytes) result
steps_as {told = told} {c = c} {old = old} {new = new} {result = result} {d = d} {same = same} p q steps =
    subst (λ bs. Steps told c old new (write_by c d bs) d (written old.world d bs) result) q (subst (λ k. Steps told c old new (write_by c k same) k (written old.world k same) result) p steps)

pub writing_as : {told : Type 0} {c : Client} {old mid : DiskView} {a : ShellAsk} {d : ℕ} {bytes same : List ℕ} {D : World → Type 0} → same ≡ bytes → Writing told c old mid a d bytes D → Writing told c old mid a d same D
writing_as {told} {c} {old} {mid} {a} {d} {bytes} {same} {D} e x = subst (λ bs. Writing told c old mid a d bs D) (sym e) x

pub writing_at : {told : Type 0} {c : Client} {old mid : DiskView} {a : ShellAsk} {d e : ℕ} {bytes : List ℕ} {D : World → Type 0} → e ≡ d → Writing told c old mid a d bytes D → Writing told c old mid a e bytes D
writing_at {told} {c} {old} {mid} {a} {d} {e} {bytes} {D} p x = subst (λ k. Writing told c old mid a k bytes D) (sym p) x

module _ {told : Type 0} {c : Client} {old mid : DiskView} {a : ShellAsk} {d : ℕ} {bytes : List ℕ} {D : World → Type 0} (x : Writing told c old mid a d bytes D) where
  stop : told → (w : World) → (w ≡ mid.world) ⊎ ((w ≡ written mid.world d bytes) × Leads mid.world (write_by c d bytes) (written mid.world d bytes)) → IsEitherTree (mounted_by c) old a w
  stop t w (inl before) = subst (IsEitherTree (mounted_by c) old a) (sym before) (x.still t)
  stop t w (inr after) = subst (IsEitherTree (mounted_by c) old a) (sym after.0) (x.either t (written mid.world d bytes) (x.leads t after.1))

  pub write_runs : (wr : DiskView) (result : Result (Unit {0}) FsRefusal) → Steps told c mid wr (write_by c d bytes) d (written mid.world d bytes) result → Runs told old wr (IsEitherTree (mounted_by c) old a) result
  write_runs wr result steps = then_runs told old mid wr (IsEitherTree (mounted_by c) old a) tt result x.so_far (runs_step told c mid wr (write_by c d bytes) d (written mid.world d bytes) (IsEitherTree (mounted_by c) old a) result (λ t. (x.so_far.valid t).0) stop steps)

  -- the disk fails
  pub write_fails : (wr : DiskView) (e : FsRefusal) → (told → e ≡ no.Device) → Steps {X = Unit {0}} told c mid wr (write_by c d bytes) d (written mid.world d bytes) (Err e) → Ends told c old wr a (Err e)
  write_fails wr e only steps = fault_ends told c old wr a e only (write_runs wr (Err e) steps)

  -- ---- it is written

  module _ {wr : DiskView} (steps : Steps {X = Unit {0}} told c mid wr (write_by c d bytes) d (written mid.world d bytes) (Ok tt)) where
    pub led_to : told → D wr.world
    led_to t = subst D (sym (steps.went t).world) (x.leads t (steps.went t).leads)

    pub may_then : told → (b : ℕ) → MayWrite c mid b → MayWrite c wr b
    may_then t = may_after c mid wr (write_by c d bytes) d (written mid.world d bytes) (steps.went t) (x.so_far.valid t).0 refl refl (λ k y h. h) (λ k h. live-with_contents mid.world d k _ h) steps.stays.0

    pub kept_then : told → KeepsRoom (need_on (mounted_by c) old a) old.world wr.world
    kept_then t = no_more_room (need_on (mounted_by c) old a) old.world mid.world wr.world (x.kept t) (write_takes c mid wr (x.so_far.valid t).0 (write_by c d bytes) d bytes (x.may t).live (steps.went t))

-- the write decides, and nothing is loose
pub write_decides : {told : Type 0} {c : Client} {old mid wr : DiskView} {a : ShellAsk} {d : ℕ} {bytes : List ℕ} → Writing told c old mid a d bytes (λ w. Decided c old a w None_loose) → Steps {X = Unit {0}} told c mid wr (write_by c d bytes) d (written mid.world d bytes) (Ok tt) → Ends told c old wr a (Ok tt)
write_decides {told} {c} {old} {mid} {wr} {a} x steps = decided_ends told c old wr a (led_to x steps) (kept_then x steps) (write_runs x wr (Ok tt) steps)

-- ---- the write decides, and a pointer is to be dropped

module _ {told : Type 0} {c : Client} {old mid : DiskView} {a : ShellAsk} {d : ℕ} {bytes : List ℕ} {b : ℕ} (x : Writing told c old mid a d bytes (λ w. LetsGo c old a w d b))
    {wr : DiskView} (steps : Steps {X = Unit {0}} told c mid wr (write_by c d bytes) d (written mid.world d bytes) (Ok tt)) where
  drop_runs : {X : Type 0} (fin : DiskView) (result : Result X FsRefusal) → (told → IfErr result (λ e. e ≡ no.Device)) → Steps told c wr fin (unlink_by c d b) d (dropped wr.world d b) result → Runs told old fin (IsEitherTree (mounted_by c) old a) result
  drop_runs fin result only j = then_runs told old wr fin (IsEitherTree (mounted_by c) old a) tt result (write_runs x wr (Ok tt) steps) (loose_runs told c old a wr fin d b result (λ t. (steps.went t).valid) (led_to x steps) only j)

  -- the disk fails
  pub drop_fails : {X : Type 0} (fin : DiskView) (e : FsRefusal) → (told → e ≡ no.Device) → Steps {X = X} told c wr fin (unlink_by c d b) d (dropped wr.world d b) (Err e) → Ends told c old fin a (Err e)
  drop_fails fin e only j = fault_ends told c old fin a e only (drop_runs fin (Err e) only j)

  -- it is dropped, and nothing is loose
  pub drop_ends : {X : Type 0} (fin : DiskView) (gone : X) → Steps told c wr fin (unlink_by c d b) d (dropped wr.world d b) (Ok gone) → Ends told c old fin a (Ok tt)
  drop_ends fin gone j = decided_ends told c old fin a
      (λ t. loose_gone c old a wr d b (steps.went t).valid (led_to x steps t) fin (j.went t))
      (λ t. no_more_room (need_on (mounted_by c) old a) old.world wr.world fin.world (kept_then x steps t) (drop_takes c wr fin (steps.went t).valid (unlink_by c d b) d b (j.went t)))
      (runs_as told old fin (IsEitherTree (mounted_by c) old a) gone tt (drop_runs fin (Ok gone) (λ t. tt) j))
