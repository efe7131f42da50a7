-- What the core promises, as a serving loop asks it.
use Rattle.std.proofs.Common.{◌≡◌, ◌↔◌, ◌<◌, ◌≤◌, ◌+◌, ◌||◌, ◌==◌, ℕ, Bool, List, true, false, cond, refl, sym, ◌∙◌, ap, subst, inl, inr, arith, Option, Some, None}
use Rattle.image_runs.proofs.Common.{or_left, CountsFault, IfOk, IsTrue, is_none, HasForm, is_refusal, step, Outcome, State, is_granted, verdict, Reply, Rule, PlaceKind, Request, View, IsSound, LeavesOnly, weakened, Image, world_of, world_valid, IsAnswer, debt, owed, LeavesEither, Volume, Works, Tables, IsLawful, StandsBeforeOrAfter, AreCounted, Placed, Core, FitsReads, IsCoreAt, state_on, asks_nothing, next_world, write_limit, disk_rules, limit_with, placed_on, writes_before}
use Rattle.std.specs.Prelude.{Result, Ok, Err, OnOk, OnErr}
use Rattle.image_device.specs.declared.device.Failed.{Failed}
use Rattle.tsd_core.specs.Carrying.{left_in}
use Rattle.tsd_model.specs.declared.requests.Request.TheVariants as ask
use Rattle.disk_laws.proofs.AnswerLaws.{refused_answer}
use Rattle.disk_laws.specs.Reclaiming.{is_sweep}
use Rattle.intent_journal.proofs.Emptying.{ring_most}
use Rattle.intent_journal.proofs.OpenedRing.{opened_ring}
use Rattle.intent_journal.specs.Records.{JournalRecord}
use Rattle.intent_journal.specs.Ring.{IsRing, checkpoint_writes, is_full_for}
use Rattle.tsd_core.specs.Journal.{most_homes, waits}
use Rattle.volume_laws.proofs.BlockLaws.{sectors_most}
use Rattle.volume_laws.specs.Rings.{batch_writes}
use Rattle.image_runs.proofs.Behind.{size_of_world}
use Rattle.image_runs.proofs.StepForm.{step_form}

pub counted_in : (v w : View) → Works v w → AreCounted v w
counted_in v w works = record { faults = works.faults; put_faults = works.put_faults }

-- ---- the reply that a call leaves in a room

pub on_left : {T : Type 0} (P : Type 0) (r : Result T Failed) (x : Reply) → OnOk (left_in r x) P → OnOk r P
on_left P (Ok u) x p = p
on_left P (Err e) x p = tt

pub if_left : {T : Type 0} (P : Reply → Type 0) (r : Result T Failed) (x : Reply) → IfOk (left_in r x) P → OnOk r (P x)
if_left P (Ok u) x p = p
if_left P (Err e) x p = tt

pub err_left : {T : Type 0} (P : Type 0) (r : Result T Failed) (x : Reply) → OnErr (left_in r x) P → OnErr r P
err_left P (Ok u) x p = tt
err_left P (Err e) x p = p

pub faults_left : {T : Type 0} (r : Result T Failed) (x : Reply) (before now : ℕ) → CountsFault (left_in r x) before now → CountsFault r before now
faults_left (Ok u) x before now counts = counts
faults_left (Err e) x before now counts = counts

-- ---- an answer

-- an answer by the model is one by the rules
pub given_by : {E : Type 0} (kind : PlaceKind) (old new : Core) (x y : Image) (q : Request) (result : Result Reply E) → IfOk result (λ r. IsAnswer kind (state_on old x) q r (state_on new y)) → IfOk result HasForm
    → IfOk result (λ r. disk_rules.gives (placed_on kind old x) q r (placed_on kind new y))
given_by kind old new x y q (Ok r) answer form = (record { want = answer.want; reply = answer.reply; state = answer.state }, form, refl)
given_by kind old new x y q (Err e) answer form = tt

-- the world before, or that of the step, which has a reply that can be sent
pub before_or_after : (kind : PlaceKind) (c : Core) (q : Request) (v w : View) → IsSound v → FitsReads c v.reads → LeavesEither v w (next_world kind (state_on c v.reads) q)
    → LeavesOnly v w (λ x f. StandsBeforeOrAfter disk_rules (placed_on kind c v.reads) q x × (f ≡ v.sent))
before_or_after kind c q v w sound held either =
    let valid = world_valid v.reads (world_of v.reads) sound.own.whole (record { good = held.good; world = refl }) in
    let form = step_form kind (state_on c v.reads) q valid.raw.sized valid.raw.targets in
    let next : Placed = record { kind = kind; state = (step kind (state_on c v.reads) q).state } in
    weakened v w _ _ either (λ x f left. (
      elim left.0 [
        | inl before ↦ inl before
        | inr after ↦ inr ((step kind (state_on c v.reads) q).reply, next, (record { want = false; reply = refl; state = refl }, form, refl), after)
      ],
      left.1,
    ))

-- ---- before a reply

pub refusal_asks : {E : Type 0} (result : Result Reply E) (b : Bool) (X : Type 0) → IfOk result (λ r. (is_refusal r || b) ≡ true → X) → IfOk result (λ r. is_refusal r ≡ true → X)
refusal_asks (Ok r) b X h = λ e. h (or_left (is_refusal r) b e)
refusal_asks (Err e) b X h = tt

-- one batch of so many homes
batch_most : (rs : List JournalRecord) (homes few : ℕ) → checkpoint_writes rs ≤ 121 → homes ≤ few → batch_writes rs homes ≤ few + 123
batch_most rs homes few ring le =
    elim (homes == 0) as (λ (z : Bool). cond z 0 (homes + 2 + cond (is_full_for rs homes) (checkpoint_writes rs) 0) ≤ few + 123) [
      | true ↦ omega arith
      | false ↦ elim (is_full_for rs homes) as (λ (f : Bool). homes + 2 + cond f (checkpoint_writes rs) 0 ≤ few + 123) [ true ↦ omega (arith, ring, le) | false ↦ omega (arith, le) ]
    ]

batched : (rs : List JournalRecord) (homes few now was : ℕ) → checkpoint_writes rs ≤ 121 → homes ≤ few → now ≤ was + batch_writes rs homes → now ≤ was + (few + 123)
batched rs homes few now was ring le once = omega (arith, once, batch_most rs homes few ring le)

-- what waits goes by the limit of the call, and what doesn't by its batch
within_limit : (v : Volume) (q : Request) (now was : ℕ) → checkpoint_writes v.ring ≤ 121 → v.tables.geometry.sectors ≤ 8 → is_sweep q ≡ false → now ≤ was + write_limit v q
    → (waits v q ≡ false → now ≤ was + batch_writes v.ring (most_homes v.tables.geometry q)) → now ≤ was + limit_with (owed v.tables) q
within_limit v (ask.Write s b shown bytes) now was ring few bounded limit once = batched v.ring v.tables.geometry.sectors 8 now was ring few (once refl)
within_limit v (ask.Alloc s a shown h count) now was ring few bounded limit once = limit
within_limit v (ask.Contig s a shown h count) now was ring few bounded limit once = limit
within_limit v (ask.Create s a shown b) now was ring few bounded limit once = limit
within_limit v (ask.Delete s a shown b) now was ring few bounded limit once = batched v.ring 2 2 now was ring (omega arith) (once refl)
within_limit v (ask.SetCap s b shown caps) now was ring few bounded limit once = batched v.ring 1 1 now was ring (omega arith) (once refl)
within_limit v (ask.Sweep s shown) now was ring few bounded limit once = absurd (cc)
within_limit v q now was ring few bounded limit once = once refl

-- a core at a device: its ring is one, and its blocks are of lawful size
ring_few : (c : Core) (v : View) → IsSound v → FitsReads c v.reads → checkpoint_writes c.volume.ring ≤ 121
ring_few c v sound held = ring_most c.volume.ring (subst IsRing held.shows (opened_ring v.reads sound.own.whole))

sectors_few : (c : Core) (v : View) → IsSound v → FitsReads c v.reads → c.volume.tables.geometry.sectors ≤ 8
sectors_few c v sound held =
    let valid = world_valid v.reads (world_of v.reads) sound.own.whole (record { good = held.good; world = refl }) in
    let same : (world_of v.reads).geometry ≡ c.volume.tables.geometry = size_of_world v.reads ∙ ap (λ (t : Tables). t.geometry) held.tables in
    sectors_most c.volume.tables.geometry (subst IsLawful same valid.raw.sized.lawful)

some_rule : (x : Option Rule) → is_none x ≡ false → (rule : Rule) × (◌≡◌ {A = Option Rule} x (Some rule))
some_rule None h = absurd (cc)
some_rule (Some rule) h = (rule, refl)

-- a request that isn't granted is refused
refused_reply : (kind : PlaceKind) (s : State) (q : Request) (r : Reply) (t : State) → IsAnswer kind s q r t → is_granted s.world s.sessions q ≡ false → is_refusal r ≡ true
refused_reply kind s q r t answer unmet =
    let rule = some_rule (verdict s.world s.sessions q) unmet in
    subst (λ x. is_refusal x ≡ true) (sym (answer.reply ∙ ap (λ (o : Outcome). o.reply) (refused_answer kind s q answer.want rule.0 rule.1))) refl

no_more : (now was : ℕ) → now ≡ was → now ≤ was + 0
no_more now was same = omega (arith, same)

-- how often is written before the reply
pub before_reply : {E : Type 0} (kind : PlaceKind) (c : Core) (q : Request) (v w : View) (t : State) (result : Result Reply E) (X : Type 0) → (X → w.writes ≡ v.writes) → IsSound v → FitsReads c v.reads → is_sweep q ≡ false
    → w.writes ≤ v.writes + write_limit c.volume q → (waits c.volume q ≡ false → w.writes ≤ v.writes + batch_writes c.volume.ring (most_homes c.volume.tables.geometry q)) → IfOk result (λ r. IsAnswer kind (state_on c v.reads) q r t) → IfOk result (λ r. (is_refusal r || asks_nothing q) ≡ true → X)
    → OnOk result (w.writes ≤ v.writes + writes_before (state_on c v.reads) (debt v.reads) q)
before_reply kind c q v w t (Err e) X same sound held bounded limit once given asks = tt
before_reply kind c q v w t (Ok r) X same sound held bounded limit once given asks =
    let s = state_on c v.reads in
    let most = within_limit c.volume q w.writes v.writes (ring_few c v sound held) (sectors_few c v sound held) bounded limit once in
    elim (is_granted s.world s.sessions q) as (λ g. is_granted s.world s.sessions q ≡ g → w.writes ≤ v.writes + cond g (limit_with (debt v.reads) q) 0) [
      | true ↦ λ _. subst (λ (n : ℕ). w.writes ≤ v.writes + limit_with n q) (sym (ap owed held.tables)) most
      | false ↦ λ unmet. no_more w.writes v.writes (same (asks (or_left (is_refusal r) (asks_nothing q) (refused_reply kind s q r t given unmet))))
    ] refl

-- what the tables of a core at a device owe is what is left to be done on it
pub more_left : {E : Type 0} (c : Core) (v : View) (result : Result Bool E) → IfOk result (λ more. IsTrue more ↔ (0 < owed c.volume.tables)) → OnOk result (IsCoreAt c v) → IfOk result (λ more. IsTrue more ↔ (0 < debt v.reads))
more_left c v (Ok more) is at = subst (λ (n : ℕ). IsTrue more ↔ (0 < n)) (sym (ap owed at.1.tables)) is
more_left c v (Err e) is at = tt
