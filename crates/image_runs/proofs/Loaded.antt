-- A load over an image, from its opening to its line.
use Rattle.std.proofs.Common.{◌≡◌, ◌⊎◌, inl, inr, ℕ, ◌≤◌, List, length, refl, sym, ◌∙◌, ap, subst}
use Rattle.std.specs.Prelude.{Result, Ok, Err, OnOk, IfErr}
use Rattle.image_runs.proofs.Common.{World, free_count, State, PlaceKind, free_count_like, View, LeavesOnly, joined, weakened, Image, IsGood, Stands, world_of, StandAlike, Status, Core, IsCoreAt, state_on, told_world, IsQuiet, at_volume, like_at, line_of, load_words, IsJudged, IsUnopened, HasLoaded, IsLoadDone, IsLoadedBy, granted_count, load_line, loaded, loaded_replies, refused_count, HasApplied, IsSummary, LeavesRun}
use Rattle.tsd_words.specs.declared.status.Status.TheVariants as status
use Rattle.tsd_words.specs.declared.lines.Summary.{Summary}
use Rattle.image_runs.specs.Sending.{HasPut, IsStopped}
use Rattle.image_runs.proofs.Saying.{still_firm}

-- ---- once all requests are carried out

-- what a core tells of the world in the end
pub summed : (kind : PlaceKind) (seed : List ℕ) (w : World) (count : ℕ) (c : Core) (new : View) (s : State) (granted refused free pointers : ℕ) → HasApplied kind seed w count s granted refused
    → IsCoreAt c new → state_on c new.reads ≡ s → free ≡ free_count (told_world c) → pointers ≡ length (told_world c).pairs
    → IsSummary kind seed w count (record { count = count; granted = granted; refused = refused; free = free; pointers = pointers })
summed kind seed w count c new s granted refused free pointers had at state free_is pointers_are =
    let like = like_at c.volume new (at_volume c new at) in
    let last = state ∙ had.state in
    record {
      count_is = refl;
      granted_are = had.granted_are;
      refused_are = had.refused_are;
      free_is = free_is ∙ free_count_like (told_world c) (world_of new.reads) like ∙ ap (λ (u : State). free_count u.world) last;
      pointers_are = pointers_are ∙ ap (λ (es : List (ℕ × ℕ)). length es) like.pairs ∙ ap (λ (u : State). length u.world.pairs) last;
    }

pub loaded_there : (kind : PlaceKind) (seed : List ℕ) (image : Image) (count : ℕ) (c : Core) (new : View) (s : State) (granted refused : ℕ) → HasApplied kind seed (world_of image) count s granted refused
    → IsGood image → IsCoreAt c new → state_on c new.reads ≡ s → IsQuiet new.reads → IsLoadDone kind seed image count new
loaded_there kind seed image count c new s granted refused had good at state quiet = record {
  firm = at.0;
  load = record { good = good; stands = record { good = at.1.good; world = sym (ap (λ (u : State). u.world) (state ∙ had.state)) } };
  quiet = quiet;
}

-- ---- from the image that was opened

pub loaded_on : {T : Type 0} → (kind : PlaceKind) (seed : List ℕ) (old mid : Image) (count : ℕ) (v : View) (result : Result T Status) → IsGood old → world_of mid ≡ world_of old
    → OnOk result (IsLoadDone kind seed mid count v) → OnOk result (IsLoadDone kind seed old count v)
loaded_on kind seed old mid count v (Ok x) good same is = record {
  firm = is.firm;
  load = record { good = good; stands = subst (λ (w : World). Stands v.reads (loaded kind seed w count).world) same is.load.stands };
  quiet = is.quiet;
}
loaded_on kind seed old mid count v (Err why) good same is = tt

-- what a crash leaves of opening and a load
pub load_moments : (kind : PlaceKind) (seed : List ℕ) (count : ℕ) (old mid new : View) → IsGood old.reads → world_of mid.reads ≡ world_of old.reads → mid.sent ≡ old.sent
    → LeavesOnly old mid (λ x f. StandAlike old.reads x × (f ≡ old.sent)) → LeavesRun kind seed count mid new
    → LeavesOnly old new (λ x f. (StandAlike old.reads x ⊎ ((n : ℕ) × (n ≤ count) × IsLoadedBy kind seed old.reads n x)) × (f ≡ old.sent))
load_moments kind seed count old mid new good same sent opening run =
    joined old mid new _ _ (weakened old mid _ _ opening (λ x f left. (inl left.0, left.1))) run
    (λ x f left. (
      inr (left.0.0, left.0.1, record { good = good; stands = subst (λ (w : World). Stands x (loaded kind seed w left.0.0).world) same left.0.2 }),
      left.1 ∙ sent,
    ))

-- where request 0 had no memory, the device is as the opening left it
pub starved_there : {T D : Type 0} (P : D → Type 0) (mid new : D) (result : Result T Status) → P mid → IfErr result (λ why. why ≡ status.NoMemory → new ≡ mid)
    → IfErr result (λ why. why ≡ status.NoMemory → P new)
starved_there P mid new (Ok x) opened first = tt
starved_there P mid new (Err why) opened first = λ e. subst P (sym (first e)) opened

-- ---- statuses

stopped_judged : (image : Image) (why : Status) → IsStopped why → IsJudged image why × IsUnopened why
stopped_judged image status.DeviceFault stops = (tt, tt)
stopped_judged image status.NoMemory stops = (tt, tt)
stopped_judged image r stops = absurd stops

pub judged_on : {T : Type 0} → (image : Image) (result : Result T Status) → IfErr result IsStopped → IfErr result (IsJudged image)
judged_on image (Ok x) stops = tt
judged_on image (Err why) stops = (stopped_judged image why stops).0

pub unopened_on : {T : Type 0} → (image : Image) (result : Result T Status) → IfErr result IsStopped → IfErr result IsUnopened
unopened_on image (Ok x) stops = tt
unopened_on image (Err why) stops = (stopped_judged image why stops).1

-- nothing was loaded
pub not_loaded : (why : Status) (kind : PlaceKind) (seed : List ℕ) (count : ℕ) (old new : View) → IsUnopened why → IsJudged old.reads why → new.sent ≡ old.sent → HasLoaded why kind seed count old new
not_loaded (status.NotImage reason) kind seed count old new stops judged sent = (judged, sent)
not_loaded status.DeviceFault kind seed count old new stops judged sent = sent
not_loaded status.NoMemory kind seed count old new stops judged sent = sent
not_loaded r kind seed count old new stops judged sent = absurd stops

-- ---- the line

pub line_is : (kind : PlaceKind) (seed : List ℕ) (image : Image) (count : ℕ) (s : Summary) → IsSummary kind seed (world_of image) count s
    → line_of (load_words s.count s.granted s.refused s.free s.pointers) ≡ load_line kind seed image count
line_is kind seed image count s is =
    ap (λ (n : ℕ). line_of (load_words n s.granted s.refused s.free s.pointers)) is.count_is
    ∙ ap (λ (n : ℕ). line_of (load_words count n s.refused s.free s.pointers)) is.granted_are
    ∙ ap (λ (n : ℕ). line_of (load_words count (granted_count (loaded_replies kind seed (world_of image) count)) n s.free s.pointers)) is.refused_are
    ∙ ap (λ (n : ℕ). line_of (load_words count (granted_count (loaded_replies kind seed (world_of image) count)) (refused_count (loaded_replies kind seed (world_of image) count)) n s.pointers)) is.free_is
    ∙ ap (λ (n : ℕ). line_of (load_words count (granted_count (loaded_replies kind seed (world_of image) count)) (refused_count (loaded_replies kind seed (world_of image) count)) (free_count (loaded kind seed (world_of image) count).world) n)) is.pointers_are

pub loaded_put : {told : Type 0} {text : List ℕ} {done r : Status} {kind : PlaceKind} {seed : List ℕ} {image : Image} {count : ℕ} {mid new : View} → told → HasPut told text done r mid new → IsLoadDone kind seed image count mid
    → IsLoadDone kind seed image count new
loaded_put {kind = kind} {seed = seed} {image = image} {count = count} {mid = mid} {new = new} tells has is = record {
  firm = still_firm mid new is.firm (has.puts.loose tells);
  load = subst (λ (x : Image). IsLoadedBy kind seed image count x) (sym (has.puts.reads tells)) is.load;
  quiet = subst (λ (x : Image). IsQuiet x) (sym (has.puts.reads tells)) is.quiet;
}
