-- The parts of an opening.
use Rattle.std.proofs.Common.{◌≡◌, ℕ, ◌+◌, ◌≤◌, true, false, List, [], refl, sym, ◌∙◌, ap, subst, arith, Ok, Err}
use Rattle.recovery.proofs.Common.{◌↔◌, Result, IsErrAnd, IsErrOf, Rests, Settles, Uses, IsFirm, LeavesOnly, View, IsLeftNow, IsSound, started, after_sync, after_read, joined, firm_image, uses_and, IsHeaderReading, Image, says_open, AreClosed, Tables, tables_of, IsTheSame, home, is_journal, AgreeBut, open_records, has_valid_records, replay_writes, distinct_homes, open_gates, checkpoint_writes, IsRingAt, opened_none, home_of_empty, at_valid, owed, IsQuiet, Volume, IsVolumeAt, world_on, due, IsPaid, OpenFault, of_volume, HasHead, IsOpening, StandAlike}
use Rattle.image_layout.specs.declared.header.Header.{Header}
use Rattle.image_world.specs.Alike.{ReadAlike}
use Rattle.image_world.specs.Faults.{HasHeader, IsGood}
use Rattle.image_world.specs.Stands.{Stands}
use Rattle.image_world.proofs.AgreeLaws.{same_agree, same_stand, agree_back, agree_both, agree_stands}
use Rattle.image_world.proofs.AlikeLaws.{alike_tables}
use Rattle.image_world.proofs.FaultAlike.{fault_alike}
use Rattle.image_world.proofs.WorldLaws.{one_world}
use Rattle.volume.specs.Loading.{AnswersVolume}
use Rattle.volume.specs.declared.fault.VolumeFault.{VolumeFault}
use Rattle.volume.specs.declared.fault.VolumeFault.TheVariants as loading
use Rattle.volume_laws.specs.Moments.{LeavesWorld, LeavesOwed}
use Rattle.recovery.specs.declared.fault.OpenFault.TheVariants as fault

-- what opening leaves: the world of the start, or none, and what was sent then
abbrev pub Kept : View → Image → List ℕ → Type 0
Kept v0 x f = StandAlike v0.reads x × (f ≡ v0.sent)

alike_self : (a b : Image) → b ≡ a → StandAlike a b
alike_self a b e w = subst (λ (x : Image). Stands a w ↔ Stands x w) (sym e) ((λ s. s), (λ s. s))

-- ---- before the replay
-- nothing is loose, and nothing was written or sent
pub record IsStill (v0 v : View) : Type 0 where
  pub firm : IsFirm v
  pub reads : v.reads ≡ v0.reads
  pub sent : v.sent ≡ v0.sent

still_left : (v0 v : View) → IsStill v0 v → (x : Image) (f : List ℕ) → IsLeftNow v x f → Kept v0 x f
still_left v0 v still x f left = (alike_self v0.reads x (firm_image v still.firm x f left ∙ still.reads), left.1 ∙ still.sent)

pub synced : (v0 v1 : View) → IsFirm v1 → Settles v0 v1 → IsStill v0 v1
synced v0 v1 firm settles = record { firm = firm; reads = settles.reads; sent = settles.sent }

pub read_still : (v0 v1 v2 : View) → IsStill v0 v1 → Rests v1 v2 → IsStill v0 v2
read_still v0 v1 v2 still rests = record {
  firm = λ n. (λ i. rests.loose i n) ∙ still.firm n;
  reads = rests.reads ∙ still.reads;
  sent = rests.sent ∙ still.sent;
}

pub opened_start : (v0 : View) → IsSound v0 → IsFirm v0 → LeavesOnly v0 v0 (Kept v0)
opened_start v0 sound firm = started v0 (Kept v0) sound (still_left v0 v0 (record { firm = firm; reads = refl; sent = refl }))

pub opened_sync : (v0 v1 : View) → IsSound v0 → IsFirm v0 → Settles v0 v1 → LeavesOnly v0 v1 (Kept v0)
opened_sync v0 v1 sound firm settles =
    after_sync v0 v0 v1 (Kept v0) (opened_start v0 sound firm) settles (still_left v0 v0 (record { firm = firm; reads = refl; sent = refl }))

pub opened_head : (v0 v1 v2 : View) → LeavesOnly v0 v1 (Kept v0) → IsStill v0 v1 → Rests v1 v2 → LeavesOnly v0 v2 (Kept v0)
opened_head v0 v1 v2 so_far still rests = after_read v0 v1 v2 (Kept v0) so_far rests (still_left v0 v1 still)

pub opened_replay : (v0 v2 v3 : View) → LeavesOnly v0 v2 (Kept v0) → IsStill v0 v2 → LeavesOnly v2 v3 (λ x f. IsTheSame v2.reads x × (f ≡ v2.sent)) → LeavesOnly v0 v3 (Kept v0)
opened_replay v0 v2 v3 so_far still leaves =
    joined v0 v2 v3 (Kept v0) (λ x f. IsTheSame v2.reads x × (f ≡ v2.sent)) so_far leaves
    (λ x f left. (subst (λ (r : Image). StandAlike r x) still.reads (same_stand v2.reads x left.0), left.1 ∙ still.sent))

-- ---- after it
-- nothing is loose, and the device agrees with what it was
pub record IsReplayed (v0 v : View) : Type 0 where
  pub firm : IsFirm v
  pub agree : ReadAlike v0.reads v.reads
  pub sent : v.sent ≡ v0.sent

pub replayed : (v0 v2 v3 : View) → IsStill v0 v2 → IsRingAt [] v3 → AgreeBut is_journal (home v2.reads) v3.reads → has_valid_records v2.reads ≡ true → IsFirm v3 → v3.sent ≡ v2.sent → IsReplayed v0 v3
replayed v0 v2 v3 still at done valid firm sent = record {
  firm = firm;
  agree = subst (λ (r : Image). ReadAlike r v3.reads) still.reads (same_agree v2.reads v3.reads (record {
    valid = at_valid at ∙ sym valid;
    stands = λ n out. (λ i. home_of_empty v3.reads at.shows i n) ∙ done n out;
  }));
  sent = sent ∙ still.sent;
}

pub loaded : (v0 v3 v4 : View) → IsReplayed v0 v3 → Rests v3 v4 → IsReplayed v0 v4
loaded v0 v3 v4 done rests = record {
  firm = λ n. (λ i. rests.loose i n) ∙ done.firm n;
  agree = subst (λ (r : Image). ReadAlike v0.reads r) (sym rests.reads) done.agree;
  sent = rests.sent ∙ done.sent;
}

pub opened_load : (v0 v3 v4 : View) → LeavesOnly v0 v3 (Kept v0) → IsReplayed v0 v3 → Rests v3 v4 → LeavesOnly v0 v4 (Kept v0)
opened_load v0 v3 v4 so_far done rests = after_read v0 v3 v4 (Kept v0) so_far rests
    (λ x f left. (subst (StandAlike v0.reads) (sym (firm_image v3 done.firm x f left)) (agree_both v0.reads v3.reads done.agree), left.1 ∙ done.sent))

-- the world at the start
pub stood : (v0 v4 : View) → IsReplayed v0 v4 → IsGood v4.reads → Stands v0.reads (world_on v4)
stood v0 v4 done good = agree_stands v4.reads v0.reads (world_on v4) (agree_back v0.reads v4.reads done.agree) (record { good = good; world = refl })

pub opened_finish : (v0 v4 v5 : View) → LeavesOnly v0 v4 (Kept v0) → IsReplayed v0 v4 → IsGood v4.reads → LeavesWorld v4 v5 → LeavesOnly v0 v5 (Kept v0)
opened_finish v0 v4 v5 so_far done good leaves =
    joined v0 v4 v5 (Kept v0) (λ x f. Stands x (world_on v4) × (f ≡ v4.sent)) so_far leaves
    (λ x f left. (
      λ w. (
        (λ s. subst (Stands x) (sym (one_world v0.reads w (world_on v4) s (stood v0 v4 done good))) left.0),
        (λ s. subst (Stands v0.reads) (sym (one_world x w (world_on v4) s left.0)) (stood v0 v4 done good)),
      ),
      left.1 ∙ done.sent,
    ))

-- ---- what it answers
pub opened_fault : (v0 v3 : View) (why : VolumeFault) → IsReplayed v0 v3 → AnswersVolume v3.reads (Err why) → IsOpening v0.reads (Err (of_volume why))
opened_fault v0 v3 loading.NoMemory done p = tt
opened_fault v0 v3 loading.Device done p = tt
opened_fault v0 v3 (loading.Image why) done p = fault_alike v3.reads v0.reads (agree_back v0.reads v3.reads done.agree) why p

-- ---- an image on which nothing is left to be done
pub quiet_replay : (x : Image) → AreClosed x → replay_writes x ≡ 0
quiet_replay x closed =
    let none : distinct_homes (open_records x) ≡ 0 = ap distinct_homes (opened_none x (closed 0 (omega arith))).0 in
    let shut : open_gates x ≡ 0 = rw (closed 0 (omega arith), closed 1 (omega arith), closed 2 (omega arith), closed 3 (omega arith), closed 4 (omega arith), closed 5 (omega arith), closed 6 (omega arith), closed 7 (omega arith)) refl in
    omega (arith, none, shut)

pub same_tables : (v0 v4 : View) (vol : Volume) → IsReplayed v0 v4 → IsVolumeAt vol v4 → vol.tables ≡ tables_of (home v0.reads)
same_tables v0 v4 vol done at =
    let good = (stood v0 v4 done at.good).good in
    sym at.tables ∙ alike_tables (home v0.reads) (home v4.reads) good.header done.agree.homes

pub quiet_flag : (v0 v4 : View) (vol : Volume) → IsQuiet v0.reads → IsReplayed v0 v4 → IsVolumeAt vol v4 → vol.tables.is_sweeping ≡ false
quiet_flag v0 v4 vol quiet done at = ap (λ (t : Tables). t.is_sweeping) (same_tables v0 v4 vol done at) ∙ quiet.still

pub quiet_due : (v0 v4 : View) (vol : Volume) → IsQuiet v0.reads → IsReplayed v0 v4 → IsVolumeAt vol v4 → vol.ring ≡ [] → due vol ≡ 0
quiet_due v0 v4 vol quiet done at none =
    let settled : owed vol.tables ≡ 0 = ap owed (same_tables v0 v4 vol done at) ∙ quiet.settled in
    let empty : checkpoint_writes vol.ring ≡ 0 = ap checkpoint_writes none in
    omega (arith, settled, empty)

pub quiet_uses : (v0 v1 v2 v3 : View) → IsStill v0 v2 → IsQuiet v0.reads → Uses 0 v0 v1 → Uses 0 v1 v2 → Uses (replay_writes v2.reads) v2 v3 → Uses 0 v0 v3
quiet_uses v0 v1 v2 v3 still quiet one two three =
    let nothing = quiet_replay v2.reads (subst AreClosed (sym still.reads) quiet.closed) in
    uses_and 0 0 0 v0 v2 v3 (omega arith) (uses_and 0 0 0 v0 v1 v2 (omega arith) one two) (subst (λ (n : ℕ). Uses n v2 v3) nothing three)

pub quiet_finish : (v0 v4 v5 : View) (vol : Volume) → IsQuiet v0.reads → IsReplayed v0 v4 → IsVolumeAt vol v4 → vol.ring ≡ [] → Uses 0 v0 v4 → (vol.tables.is_sweeping ≡ false → Uses (due vol) v4 v5) → Uses 0 v0 v5
quiet_finish v0 v4 v5 vol quiet done at none four five =
    uses_and 0 0 0 v0 v4 v5 (omega arith) four (subst (λ (n : ℕ). Uses n v4 v5) (quiet_due v0 v4 vol quiet done at none) (five (quiet_flag v0 v4 vol quiet done at)))

pub opened_err : (v0 v3 : View) (why : VolumeFault) (r : Result Volume OpenFault) → IsErrAnd r (λ made. made ≡ of_volume why) → IsReplayed v0 v3 → AnswersVolume v3.reads (Err why) → IsOpening v0.reads r
opened_err v0 v3 why (Ok v) is done p = absurd is
opened_err v0 v3 why (Err made) is done p = subst (λ (e : OpenFault). IsOpening v0.reads (Err e)) (sym is) (opened_fault v0 v3 why done p)

pub opened_device : (v0 : View) (r : Result Volume OpenFault) → IsErrAnd r (λ made. made ≡ fault.Device) → IsOpening v0.reads r
opened_device v0 (Ok v) is = absurd is
opened_device v0 (Err made) is = subst (λ (e : OpenFault). IsOpening v0.reads (Err e)) (sym is) tt

pub quiet_paid : (v0 v4 v5 : View) (vol now : Volume) → IsQuiet v0.reads → IsReplayed v0 v4 → IsVolumeAt vol v4 → vol.ring ≡ [] → Uses 0 v0 v4 → (vol.tables.is_sweeping ≡ false → IsPaid 0 vol v4 now v5) → v5.writes + due now ≤ v0.writes
quiet_paid v0 v4 v5 vol now quiet done at none four five =
    omega (arith, quiet_due v0 v4 vol quiet done at none, five (quiet_flag v0 v4 vol quiet done at), four.most)

-- ---- what is owed on the way
-- as much as at the start, at most
abbrev pub OwesNoMore : View → Image → List ℕ → Type 0
OwesNoMore v0 x f = owed (tables_of (home x)) ≤ owed (tables_of (home v0.reads))

owes_same : (v0 : View) (x : Image) → x ≡ v0.reads → owed (tables_of (home x)) ≤ owed (tables_of (home v0.reads))
owes_same v0 x e = omega (arith, ap (λ (y : Image). owed (tables_of (home y))) e)

still_owes : (v0 v : View) → IsStill v0 v → (x : Image) (f : List ℕ) → IsLeftNow v x f → OwesNoMore v0 x f
still_owes v0 v still x f left = owes_same v0 x (firm_image v still.firm x f left ∙ still.reads)

first_still : (v0 : View) → IsFirm v0 → IsStill v0 v0
first_still v0 firm = record { firm = firm; reads = refl; sent = refl }

pub owed_start : (v0 : View) → IsSound v0 → IsFirm v0 → LeavesOnly v0 v0 (OwesNoMore v0)
owed_start v0 sound firm = started v0 (OwesNoMore v0) sound (still_owes v0 v0 (first_still v0 firm))

pub owed_sync : (v0 v1 : View) → IsSound v0 → IsFirm v0 → Settles v0 v1 → LeavesOnly v0 v1 (OwesNoMore v0)
owed_sync v0 v1 sound firm settles = after_sync v0 v0 v1 (OwesNoMore v0) (owed_start v0 sound firm) settles (still_owes v0 v0 (first_still v0 firm))

pub owed_head : (v0 v1 v2 : View) → LeavesOnly v0 v1 (OwesNoMore v0) → IsStill v0 v1 → Rests v1 v2 → LeavesOnly v0 v2 (OwesNoMore v0)
owed_head v0 v1 v2 so_far still rests = after_read v0 v1 v2 (OwesNoMore v0) so_far rests (still_owes v0 v1 still)

head_right : (x : Image) (h : Header) → IsHeaderReading (x 0) (Ok h) → HasHeader x
head_right x h reading = subst (λ (k : Header). IsHeaderReading (x 0) (Ok k)) reading.3 reading

agree_owes : (v0 : View) (x : Image) → HasHeader (home v0.reads) → ReadAlike v0.reads x → owed (tables_of (home x)) ≤ owed (tables_of (home v0.reads))
agree_owes v0 x header agree = omega (arith, ap owed (alike_tables (home v0.reads) (home x) header agree.homes))

pub owed_replay : (v0 v2 v3 : View) (h : Header) → LeavesOnly v0 v2 (OwesNoMore v0) → IsStill v0 v2 → HasHead v2.reads h → LeavesOnly v2 v3 (λ x f. IsTheSame v2.reads x × (f ≡ v2.sent)) → LeavesOnly v0 v3 (OwesNoMore v0)
owed_replay v0 v2 v3 h so_far still head leaves =
    let right = subst (λ (r : Image). HasHeader (home r)) still.reads (head_right (home v2.reads) h head.header) in
    joined v0 v2 v3 (OwesNoMore v0) (λ x f. IsTheSame v2.reads x × (f ≡ v2.sent)) so_far leaves
    (λ x f left. agree_owes v0 x right (subst (λ (r : Image). ReadAlike r x) still.reads (same_agree v2.reads x left.0)))

pub owed_load : (v0 v3 v4 : View) → HasHeader (home v0.reads) → LeavesOnly v0 v3 (OwesNoMore v0) → IsReplayed v0 v3 → Rests v3 v4 → LeavesOnly v0 v4 (OwesNoMore v0)
owed_load v0 v3 v4 right so_far done rests = after_read v0 v3 v4 (OwesNoMore v0) so_far rests
    (λ x f left. agree_owes v0 x right (subst (ReadAlike v0.reads) (sym (firm_image v3 done.firm x f left)) done.agree))

-- a call that writes at most 0 times writes never
pub unwritten : (old new : View) → Uses 0 old new → new.writes ≡ old.writes
unwritten old new uses = omega (arith, uses.writes, uses.most)

pub right_head : (v0 v2 : View) (h : Header) → IsStill v0 v2 → HasHead v2.reads h → HasHeader (home v0.reads)
right_head v0 v2 h still head = subst (λ (r : Image). HasHeader (home r)) still.reads (head_right (home v2.reads) h head.header)

still_flag : (v0 v4 : View) (vol : Volume) → says_open (home v0.reads 131) ≡ false → IsReplayed v0 v4 → IsVolumeAt vol v4 → vol.tables.is_sweeping ≡ false
unfolding tables_of
still_flag v0 v4 vol flag done at = ap (λ (t : Tables). t.is_sweeping) (same_tables v0 v4 vol done at) ∙ flag

pub owed_finish : (v0 v4 v5 : View) (vol : Volume) → says_open (home v0.reads 131) ≡ false → LeavesOnly v0 v4 (OwesNoMore v0) → IsReplayed v0 v4 → IsVolumeAt vol v4 → (vol.tables.is_sweeping ≡ false → LeavesOwed v4 v5 (owed vol.tables)) → LeavesOnly v0 v5 (OwesNoMore v0)
owed_finish v0 v4 v5 vol flag so_far done at leaves =
    joined v0 v4 v5 (OwesNoMore v0) (λ x f. owed (tables_of (home x)) ≤ owed vol.tables) so_far (leaves (still_flag v0 v4 vol flag done at))
    (λ x f left. omega (arith, left, ap owed (same_tables v0 v4 vol done at)))

-- ---- a call that failed
pub is_device : (r : Result Volume OpenFault) → IsErrAnd r (λ made. made ≡ fault.Device) → IsErrOf r fault.Device
is_device (Ok v) is = absurd is
is_device (Err made) is = λ i. Err (is i)
