-- A run after formatting, as one from the start.
use Rattle.std.proofs.Common.{◌≡◌, ◌⊎◌, inl, inr, ℕ, ◌+◌, ◌≤◌, List, [], refl, sym, ◌∙◌, subst, append-nil, arith}
use Rattle.image_runs.proofs.Common.{World, PlaceKind, Request, View, LeavesOnly, joined, weakened, Image, IsFormatting, Status, IsPaidFor, HasDebt, Spelling, Placed, Mark, Promptly, mark, ByStatus, Moments, Taking, IsAcknowledged, IsCounted, Voice, disk_service, IsAtEase, RunEnds, IsOwed, ImageRan, IsPromptRun, IsJudged, fresh_start, format_writes, FreshEnds, FreshRan, IsPromptFresh, debt, disk_work}
use Rattle.image_device.specs.Calls.{Uses}
use Rattle.tsd_words.specs.declared.status.Status.TheVariants as status
use Rattle.image_world.proofs.FaultLaws.{no_fault}
use Rattle.image_runs.proofs.Started.{paid_from, paid_nothing}

-- what formatting did: the disk stands for this world, with nothing left to be done
pub record Formatted (w : World) (old mid : View) : Type 0 where
  pub ease : IsAtEase mid w
  pub sent : mid.sent ≡ old.sent
  pub leaves : LeavesOnly old mid (λ x f. IsFormatting old w x f × (f ≡ old.sent))
  pub uses : Uses (format_writes w.geometry) old mid

-- what is owed after formatting is what the requests make
owed_fresh : (v : Voice) (kind : PlaceKind) (w : World) (old mid : View) (asked : List Request) (x : Image) (f : List ℕ) → IsCounted (disk_service v) → Formatted w old mid
    → IsOwed v kind mid asked x f → HasDebt (disk_service v) disk_work (fresh_start kind w) old.sent 0 asked x f
owed_fresh v kind w old mid asked x f counted done owed = elim owed [
  | inl has ↦ rw (sym done.ease.stands.world, done.sent) at has
  | inr few ↦
      let none : debt x ≤ debt mid.reads = few.1 done.ease.quiet.still in
      let settled : debt mid.reads ≡ 0 = done.ease.quiet.settled in
      record {
        answered = [];
        rest = asked;
        parts = refl;
        answers = [];
        state = fresh_start kind w;
        run = refl;
        front = [];
        sent = few.0 ∙ (done.sent ∙ sym (append-nil old.sent));
        count = counted.nothing;
        few = omega (arith, none, settled);
      }
]

pub ends_formatted : (r : Status) (v : Voice) (kind : PlaceKind) (w : World) (old mid new : View) (asked : List Request) (final : Placed) → IsCounted (disk_service v)
    → Formatted w old mid → IsJudged mid.reads r → RunEnds r v kind mid new asked final → FreshEnds r v kind w old new asked final
ends_formatted r v kind w old mid new asked final counted done judged ends =
    let sent = done.sent in
    let stands = done.ease.stands in
    let by : ByStatus r (disk_service v) (fresh_start kind w) old.sent asked final new.sent =
    subst (λ (b : List ℕ). ByStatus r (disk_service v) (fresh_start kind w) b asked final new.sent) sent
    (subst (λ (u : World). ByStatus r (disk_service v) (fresh_start kind u) mid.sent asked final new.sent) (sym stands.world) ends.sent) in
    let moments : LeavesOnly mid new (IsAcknowledged (disk_service v) (fresh_start kind w) old.sent asked) =
    subst (λ (b : List ℕ). LeavesOnly mid new (IsAcknowledged (disk_service v) (fresh_start kind w) b asked)) sent
    (subst (λ (u : World). LeavesOnly mid new (IsAcknowledged (disk_service v) (fresh_start kind u) mid.sent asked)) (sym stands.world) (ends.any_moment done.ease.firm w stands)) in
    let most : IsPaidFor (disk_service v) disk_work (fresh_start kind w) old.sent asked new.sent mid.writes new.writes =
    subst (λ (b : List ℕ). IsPaidFor (disk_service v) disk_work (fresh_start kind w) b asked new.sent mid.writes new.writes) sent
    (subst (λ (u : World). IsPaidFor (disk_service v) disk_work (fresh_start kind u) mid.sent asked new.sent mid.writes new.writes) (sym stands.world) (ends.writes done.ease.quiet)) in
    record {
      sent = by;
      any_moment = joined old mid new _ _ (weakened old mid _ _ done.leaves (λ x f p. inl p)) moments (λ x f p. inr p);
      formatted = inr (mid.clock, done.uses.clock, moments.later, moments.each);
      opens = λ why e. no_fault mid.reads why stands.good (subst (λ (t : Status). IsJudged mid.reads t) e judged);
      debt = λ bounded. joined old mid new _ _ (weakened old mid _ _ done.leaves (λ x f p. inl p)) (ends.debt done.ease.firm bounded) (λ x f p. inr (owed_fresh v kind w old mid asked x f counted done p));
      writes = paid_from v (fresh_start kind w) old.sent asked new.sent mid.writes (old.writes + format_writes w.geometry) new.writes done.uses.most most;
      done = ends.done;
    }

-- formatting failed
pub ends_unformatted : (v : Voice) (kind : PlaceKind) (w : World) (old new : View) → IsCounted (disk_service v) → new.sent ≡ old.sent
    → LeavesOnly old new (λ x f. IsFormatting old w x f × (f ≡ old.sent)) → Uses (format_writes w.geometry) old new → FreshEnds status.DeviceFault v kind w old new [] (fresh_start kind w)
ends_unformatted v kind w old new counted sent leaves uses = record {
  sent = inl (record { answered = []; rest = []; parts = refl; answers = []; state = fresh_start kind w; run = refl; sent = sent ∙ sym (append-nil old.sent); count = counted.nothing });
  any_moment = weakened old new _ _ leaves (λ x f p. inl p);
  formatted = inl (record { failed = refl; none = refl; sent = sent; leaves = leaves });
  opens = λ why e. cc;
  debt = λ bounded. weakened old new _ _ leaves (λ x f p. inl p);
  writes = paid_nothing v (fresh_start kind w) old.sent new.sent (old.writes + format_writes w.geometry) new.writes counted sent uses.most;
  done = λ e. absurd (cc);
}

-- A run after formatting.
pub ran_formatted : {r : Status} {v : Voice} {p : Spelling Request} {kind : PlaceKind} {w : World} {limit : ℕ} {source : Taking} (tells same since : Type 0) (old mid new : View)
    → IsCounted (disk_service v) → (tells → Formatted w old mid) → (tells → IsJudged mid.reads r)
    → ImageRan r v p kind limit source (record { tells = tells; untouched = since; old = mid; new = new }) → FreshRan r v p kind w limit source (record { tells = tells; untouched = same; old = old; new = new })
ran_formatted {r = r} {v = v} {kind = kind} {w = w} tells same since old mid new counted done judged ran = record {
  bytes = ran.bytes;
  came_in = ran.came_in;
  asked = ran.asked;
  these = elim ran.these [ inl closed ↦ inl (record { why = closed.why; untouched = closed.untouched; none = closed.none; sent = λ told. closed.sent told ∙ (done told).sent }) | inr asked ↦ inr asked ];
  final = ran.final;
  ends = λ told. ends_formatted r v kind w old mid new ran.asked ran.final counted (done told) (judged told) (ran.ends told);
}

-- how promptly, from formatting on
pub prompt_formatted : (r : Status) (v : Voice) (kind : PlaceKind) (w : World) (port : Mark → Type 0) (p : Spelling Request) (limit : ℕ) (source : Taking) (old mid new : View) → Formatted w old mid → IsPromptRun r v kind port p limit source mid new → IsPromptFresh r v kind w port p limit source old new
prompt_formatted r v kind w port p limit source old mid new done run = record {
  opened = run.opened;
  of_port = run.of_port;
  not_before = let first = done.uses.clock in let then = run.not_before in omega (arith, first, then);
  sent = run.sent ∙ done.sent;
  writes = λ _. omega (arith, run.writes done.ease.quiet, done.uses.most);
  prompt = elim run.prompt [
    | inl unserved ↦ inl unserved
    | inr prompt ↦ inr (subst (λ (u : World). Promptly r (disk_service v) disk_work port p limit (fresh_start kind u) source run.opened (mark new)) (sym done.ease.stands.world) prompt)
  ];
}

-- a run that ended in formatting
pub ran_unformatted : {v : Voice} {p : Spelling Request} {kind : PlaceKind} {w : World} {limit : ℕ} {source : Taking} {port : Moments}
    → IsCounted (disk_service v) → source.came [] → source.untouched → (port.tells → port.new.sent ≡ port.old.sent)
    → (port.tells → LeavesOnly port.old port.new (λ x f. IsFormatting port.old w x f × (f ≡ port.old.sent)))
    → Uses (format_writes w.geometry) port.old port.new → FreshRan status.DeviceFault v p kind w limit source port
ran_unformatted {v = v} {kind = kind} {w = w} {port = port} counted came untouched sent leaves uses = record {
  bytes = [];
  came_in = came;
  asked = [];
  these = inl (record { why = tt; untouched = untouched; none = refl; sent = sent });
  final = fresh_start kind w;
  ends = λ told. ends_unformatted v kind w port.old port.new counted (sent told) (leaves told) uses;
}
