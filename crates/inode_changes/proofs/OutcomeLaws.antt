-- How a call ends: what it answers, and what it leaves.
use Rattle.std.proofs.Common.{◌≡◌, ◌≢◌, true, Result, Some, Ok, Err}
use Rattle.inode_changes.proofs.Common.{Answer, ShellAsk, FsRefusal, DiskView, IsValidNow, FilesView, Answers, IsEitherTree, Runs, Changes, refused_on, OnlyLooks, ask_refuses, looks_as, looks_refused, looks_but_refuses, changes_of, looks_change}
use Rattle.fs_trees.specs.declared.refusal.FsRefusal.TheVariants as no
use Rattle.fs_client.proofs.AgainLaws.{answers_again, changes_again}

-- ---- where it only looked

-- the same looks, answered by another value, by the same refusal, or by one of the call's own
pub looks_still : {X Y : Type 0} {told : Type 0} {old new : DiskView} {x : X} (y : Y) → OnlyLooks told old new (Ok x) → OnlyLooks told old new (Ok y)
looks_still {told = told} {old = old} {new = new} {x = x} y looks = looks_as told old new x y looks

pub looks_stop : {X Y : Type 0} {told : Type 0} {old new : DiskView} {e : FsRefusal} → OnlyLooks {X = X} told old new (Err e) → OnlyLooks {X = Y} told old new (Err e)
looks_stop {told = told} {old = old} {new = new} {e = e} looks = looks_refused told old new e looks

pub looks_refuse : {X Y : Type 0} {told : Type 0} {old new : DiskView} {x : X} {e : FsRefusal} → e ≢ no.Device → OnlyLooks told old new (Ok x) → OnlyLooks {X = Y} told old new (Err e)
looks_refuse {told = told} {old = old} {new = new} {x = x} {e = e} ne looks = looks_but_refuses told old new x e ne looks

pub refuses : {X : Type 0} {f : FilesView} {old new : DiskView} {a : ShellAsk} {tells : X → Answer → Type 0} {e : FsRefusal} → (e ≢ no.Device → refused_on f old a ≡ Some e) → (e ≢ no.Device → new.world ≡ old.world) → Answers {X = X} f old new a (Err e) tells
refuses {f = f} {old = old} {new = new} {a = a} {tells = tells} {e = e} why same = ask_refuses f old new a tells e why same

pub looked_changes : {X : Type 0} {told : Type 0} {f : FilesView} {old new : DiskView} {a : ShellAsk} {result : Result X FsRefusal} → (told → IsValidNow old) → OnlyLooks told old new result → Changes told f old new a result
looked_changes {told = told} {f = f} {old = old} {new = new} {a = a} {result = result} now looks = looks_change told f old new a result (λ t. (now t).valid) looks

-- ---- where a fault stopped it

pub fault_answers : {X : Type 0} {f : FilesView} {old new : DiskView} {a : ShellAsk} {tells : X → Answer → Type 0} {e : FsRefusal} → e ≡ no.Device → Answers {X = X} f old new a (Err e) tells
fault_answers {f = f} {old = old} {new = new} {a = a} {tells = tells} {e = e} only = ask_refuses f old new a tells e (λ ne. absurd (ne only)) (λ ne. absurd (ne only))

pub fault_changes : {X : Type 0} {told : Type 0} {f : FilesView} {old new : DiskView} {a : ShellAsk} {e : FsRefusal} → f.mounted ≡ true → (told → e ≡ no.Device) → Runs {X = X} told old new (IsEitherTree f old a) (Err e) → Changes {X = X} told f old new a (Err e)
fault_changes {told = told} {f = f} {old = old} {new = new} {a = a} {e = e} is only runs = changes_of told f is old new a (Err e) (λ t. tt) (λ t. (tt, λ ne. absurd (ne (only t)))) runs

-- ---- what follows looks

-- a call that begins where others only looked
pub answers_on : {X Y : Type 0} {told : Type 0} {f : FilesView} {first mid new : DiskView} {a : ShellAsk} {x : X} {result : Result Y FsRefusal} {tells : Y → Answer → Type 0} → OnlyLooks told first mid (Ok x) → told → Answers f mid new a result tells → Answers f first new a result tells
answers_on {f = f} {first = first} {mid = mid} {new = new} {a = a} {result = result} {tells = tells} looks t h = answers_again f first mid a (looks.looked t).0.world new result tells h

pub changes_on : {X Y : Type 0} {told : Type 0} {f : FilesView} {first mid new : DiskView} {a : ShellAsk} {x : X} {result : Result Y FsRefusal} → (told → IsValidNow first) → OnlyLooks told first mid (Ok x) → Changes told f mid new a result → Changes told f first new a result
changes_on {told = told} {f = f} {first = first} {mid = mid} {new = new} {a = a} {x = x} {result = result} now looks h = changes_again told f first mid new a x result (λ t. (now t).valid) looks h
