-- From a call on the volume to the request that it carries out.
use Rattle.std.proofs.Common.{◌≡◌, ◌∙◌, ℕ, ◌+◌, ◌≤◌, true, false, List, arith, inl, subst}
use Rattle.tsd_core.proofs.Common.{Ok, Err, OnOk, OnErr, IfOk, HasForm, World, Reply, PlaceKind, Request, View, Uses, Failed, with_sessions, table_change, reply_to, is_read, world_after, LeavesEither, Volume, world_on, due, IsPaid, Core, told_world, DoesRequest, IsCarriedOut, replied}
use Rattle.std.specs.Prelude.{Result}
use Rattle.tsd_model.specs.declared.replies.Reply.TheVariants as reply
use Rattle.image_device.specs.Counts.{CountsFault}
use Rattle.volume_laws.specs.Operations.{IsOperation}

-- ---- outcomes

pub then_ok : {T E P Q : Type 0} (r : Result T E) → (P → Q) → OnOk r P → OnOk r Q
then_ok (Ok x) f p = f p
then_ok (Err e) f p = tt

pub if_ok : {T E : Type 0} {P : T → Type 0} (r : Result T E) → ((x : T) → P x) → IfOk r P
if_ok (Ok x) h = h x
if_ok (Err e) h = tt

pub if_both : {T E P : Type 0} {Q R : T → Type 0} (r : Result T E) → ((x : T) → P → Q x → R x) → OnOk r P → IfOk r Q → IfOk r R
if_both (Ok x) f p q = f x p q
if_both (Err e) f p q = tt

pub ok_if : {T E : Type 0} (P : Type 0) (r : Result T E) → OnOk r P → IfOk r (λ x. P)
ok_if P (Ok x) p = p
ok_if P (Err e) p = tt

pub if_map : {T E : Type 0} {Q R : T → Type 0} (r : Result T E) → ((x : T) → Q x → R x) → IfOk r Q → IfOk r R
if_map (Ok x) f q = f x q
if_map (Err e) f q = tt

pub if_kept : {T E P : Type 0} {Q R : T → Type 0} (r : Result T E) → ((x : T) → Q x → P → R x) → IfOk r Q → OnOk r P → IfOk r R
if_kept (Ok x) f q p = f x q p
if_kept (Err e) f q p = tt

pub and_ok3 : {T E A B C P : Type 0} {Q : T → Type 0} (r : Result T E) → ((x : T) → Q x → A → B → C → P) → IfOk r Q → OnOk r A → OnOk r B → OnOk r C → OnOk r P
and_ok3 (Ok x) f q a b c = f x q a b c
and_ok3 (Err e) f q a b c = tt

pub and_ok : {T E A B : Type 0} {P Q R : T → Type 0} (r : Result T E) → ((x : T) → P x → Q x → A → B → R x) → IfOk r P → IfOk r Q → OnOk r A → OnOk r B → IfOk r R
and_ok (Ok x) f p q a b = f x p q a b
and_ok (Err e) f p q a b = tt

-- ---- what is written

-- the same blocks, named otherwise
pub other_names : {T : Type 0} {told : Type 0} {change : World → World} {old new : Volume} {v w : View} {r : Result T Failed} (bs cs : List ℕ) → bs ≡ cs → IsOperation told bs change old new v w r → IsOperation told cs change old new v w r
other_names {told = told} {change = change} {old = old} {new = new} {v = v} {w = w} {r = r} bs cs same op = subst (λ (ns : List ℕ). IsOperation told ns change old new v w r) same op

-- ---- counts

pub at_most : (few most : ℕ) (v w : View) → Uses few v w → few ≤ most → w.writes ≤ v.writes + most
at_most few most v w uses less = omega (arith, uses.most, less)

pub most_due : (few cost : ℕ) (old : Volume) (v w : View) → Uses few v w → few ≤ due old + cost → w.writes ≤ v.writes + due old + cost
most_due few cost old v w uses less = omega (arith, uses.most, less)

pub paid_more : (few most : ℕ) (old new : Volume) (v w : View) → few ≤ most → IsPaid few old v new w → IsPaid most old v new w
paid_more few most old new v w less paid = omega (arith, paid, less)

-- ---- the request

-- the outcome of a call, as the outcome of the request
operation_of : {T U : Type 0} {bs : List ℕ} (told : Type 0) (change : World → World) (old new : Volume) (v w : View) (r : Result T Failed) → IsOperation told bs change old new v w r
    → (s : Result U Failed) → ((P : Type 0) → OnOk r P → OnOk s P) → ((P : Type 0) → OnErr r P → OnErr s P) → CountsFault s v.faults w.faults → IsOperation told bs change old new v w s
operation_of told change old new v w r op s ok err faults = record {
  at = λ t. ok _ (op.at t);
  done = λ t. ok _ (op.done t);
  any_moment = op.any_moment;
  sent = op.sent;
  data_kept = λ t. let keeps = op.data_kept t in record { reads = ok _ keeps.reads; left = keeps.left };
  unspent = ok _ op.unspent;
  spent = err _ op.spent;
  faults = faults;
  works = op.works;
  geometry = op.geometry;
}

request_of : {T U : Type 0} (told : Type 0) (kind : PlaceKind) (q : Request) (old new : Volume) (v w : View) (r : Result T Failed) → DoesRequest told kind q old new v w r
    → (s : Result U Failed) → ((P : Type 0) → OnOk r P → OnOk s P) → ((P : Type 0) → OnErr r P → OnErr s P) → CountsFault s v.faults w.faults → DoesRequest told kind q old new v w s
request_of told kind q old new v w r does s ok err faults = record {
  operation = operation_of told (λ u. world_after kind u q) old new v w r does.operation s ok err faults;
  version = does.version;
  like = ok _ does.like;
  ready = ok _ does.ready;
  once = λ b. let once = does.once b in record { ring = ok _ once.ring; most = once.most };
  owes = ok _ does.owes;
  grown = λ b. ok _ (does.grown b);
  rests = does.rests;
  any_owed = does.any_owed;
  paid = λ b. ok _ (does.paid b);
  most = does.most;
  limit = does.limit;
  new_paid = λ b. ok _ (does.new_paid b);
  new_most = does.new_most;
  sweep_paid = λ b. ok _ (does.sweep_paid b);
  swept = does.swept;
}

-- the same change of the world, said in other words
pub same_change : {T : Type 0} {bs : List ℕ} (told : Type 0) (f h : World → World) (old new : Volume) (v w : View) (r : Result T Failed) → (told → f (world_on v) ≡ h (world_on v)) → IsOperation told bs f old new v w r
    → IsOperation told bs h old new v w r
same_change told f h old new v w r same op = record {
  at = op.at;
  done = λ t. then_ok r (λ (d : world_on w ≡ f (world_on v)). d ∙ same t) (op.done t);
  any_moment = λ t. subst (λ (u : World). LeavesEither v w u) (same t) (op.any_moment t);
  sent = op.sent;
  data_kept = op.data_kept;
  unspent = op.unspent;
  spent = op.spent;
  faults = op.faults;
  works = op.works;
  geometry = op.geometry;
}

pub carried_out : {T : Type 0} (told : Type 0) (kind : PlaceKind) (q : Request) (old new : Core) (v w : View) (r : Result T Failed) (f : T → Reply)
    → DoesRequest told kind q old.volume new.volume v w r
    → new.grants ≡ with_sessions old.grants (table_change kind (told_world old) old.grants.sessions q)
    → IfOk r (λ x. is_read q ≡ false → f x ≡ reply_to kind (told_world old) q)
    → ((x : T) → is_read q ≡ true → (bytes : List ℕ) × (f x ≡ reply.Bytes bytes))
    → (told → IfOk r (λ x. is_read q ≡ true → f x ≡ reply_to kind (world_on v) q))
    → IfOk r (λ x. HasForm (f x))
    → IsCarriedOut told kind q old new v w (replied r f)
carried_out told kind q old new v w (Ok x) f does table replies read bytes form = record {
  kept = inl (record { table = table; reply = replies; read = read x });
  bytes = bytes;
  form = form;
  volume = request_of told kind q old.volume new.volume v w (Ok x) does (Ok (f x)) (λ P p. p) (λ P p. p) does.operation.faults;
}
carried_out told kind q old new v w (Err e) f does table replies read bytes form = record {
  kept = tt;
  bytes = λ t. tt;
  form = tt;
  volume = request_of told kind q old.volume new.volume v w (Err e) does (Err e) (λ P p. p) (λ P p. p) does.operation.faults;
}
