-- What is left of an image that fails a test.
use Rattle.std.proofs.Common.{◌≡◌, ℕ, true, List, [], refl, sym, ◌∙◌, ap, subst, arith}
use Rattle.recovery.proofs.Common.{Result, Rests, Settles, Uses, IsFirm, LeavesOnly, View, IsLeftNow, IsSound, started, after_sync, after_read, ends_in, joined, firm_image, Image, IsTheSame, home, is_journal, AgreeBut, has_valid_records, IsRingAt, replay_writes, home_of_empty, at_valid, Volume, IsSpared, LeavesData, Geometry, weakened, header_sector, Tables, tables_of, header_of, IsVolumeAt}
use Rattle.image_world.proofs.WrittenLaws.{above_journal}
use Rattle.volume_laws.specs.Data.{HasSameData, KeepsData}
use Rattle.image_device.specs.declared.device.Failed.{Failed}
use Rattle.recovery.proofs.OpenRuns.{IsStill, synced, read_still}

-- ---- before the replay

-- what a crash leaves: what the image stood for
abbrev Same : View → Image → List ℕ → Type 0
Same v0 x f = IsTheSame v0.reads x

same_self : (a b : Image) → b ≡ a → IsTheSame a b
same_self a b e = subst (IsTheSame a) (sym e) (record { valid = refl; stands = λ n out. refl })

still_same : (v0 v : View) → IsStill v0 v → (x : Image) (f : List ℕ) → IsLeftNow v x f → Same v0 x f
still_same v0 v still x f left = same_self v0.reads x (firm_image v still.firm x f left ∙ still.reads)

synced_same : (v0 v1 : View) → IsSound v0 → IsFirm v0 → Settles v0 v1 → LeavesOnly v0 v1 (Same v0)
synced_same v0 v1 sound firm settles =
    let now : IsStill v0 v0 = record { firm = firm; reads = refl; sent = refl } in
    after_sync v0 v0 v1 (Same v0) (started v0 (Same v0) sound (still_same v0 v0 now)) settles (still_same v0 v0 now)

read_same : (v0 v1 v2 : View) → IsStill v0 v1 → Rests v1 v2 → LeavesOnly v0 v1 (Same v0) → LeavesOnly v0 v2 (Same v0)
read_same v0 v1 v2 still rests so_far = after_read v0 v1 v2 (Same v0) so_far rests (still_same v0 v1 still)

pub spared_head : (v0 v1 v2 : View) → IsSound v0 → IsFirm v1 → Settles v0 v1 → Rests v1 v2 → Uses 0 v0 v2 → IsSpared v0 v2
spared_head v0 v1 v2 sound firm settles rests uses = record {
  reads = same_self v0.reads v2.reads (rests.reads ∙ settles.reads);
  writes = omega (arith, uses.most);
  left = λ at_start. read_same v0 v1 v2 (synced v0 v1 firm settles) rests (synced_same v0 v1 sound at_start settles);
}

-- nothing was called
pub spared_start : (v : View) → IsSound v → IsSpared v v
spared_start v sound = record {
  reads = same_self v.reads v.reads refl;
  writes = omega arith;
  left = λ at_start. started v (Same v) sound (still_same v v (record { firm = at_start; reads = refl; sent = refl }));
}

-- a sync, also one that failed
pub spared_sync : (v0 v1 : View) → IsSound v0 → Settles v0 v1 → Uses 0 v0 v1 → IsSpared v0 v1
spared_sync v0 v1 sound settles uses = record {
  reads = same_self v0.reads v1.reads settles.reads;
  writes = omega (arith, uses.most);
  left = λ at_start. synced_same v0 v1 sound at_start settles;
}

-- ---- after it

-- the journal's records are in place
replayed_same : (v0 v2 v3 : View) → IsStill v0 v2 → IsRingAt [] v3 → AgreeBut is_journal (home v2.reads) v3.reads → has_valid_records v2.reads ≡ true → IsTheSame v0.reads v3.reads
replayed_same v0 v2 v3 still at done valid = subst (λ (r : Image). IsTheSame r v3.reads) still.reads (record {
  valid = at_valid at ∙ sym valid;
  stands = λ n out. (λ i. home_of_empty v3.reads at.shows i n) ∙ done n out;
})

pub spared_load : (v0 v1 v2 v3 v4 : View) → IsSound v0 → IsFirm v1 → Settles v0 v1 → Rests v1 v2 → LeavesOnly v2 v3 (λ x f. IsTheSame v2.reads x × (f ≡ v2.sent))
    → IsRingAt [] v3 → AgreeBut is_journal (home v2.reads) v3.reads → has_valid_records v2.reads ≡ true → IsFirm v3 → Rests v3 v4
    → Uses 0 v0 v2 → Uses (replay_writes v2.reads) v2 v3 → Uses 0 v3 v4 → IsSpared v0 v4
spared_load v0 v1 v2 v3 v4 sound firm settles head leaves at done valid firm3 rests few most none =
    let still = read_still v0 v1 v2 (synced v0 v1 firm settles) head in
    let now = replayed_same v0 v2 v3 still at done valid in
    let limit : replay_writes v2.reads ≡ replay_writes v0.reads = ap replay_writes still.reads in
    record {
      reads = subst (IsTheSame v0.reads) (sym rests.reads) now;
      writes = omega (arith, few.most, most.most, none.most, limit);
      left = λ at_start.
          let so_far = read_same v0 v1 v2 (synced v0 v1 firm settles) head (synced_same v0 v1 sound at_start settles) in
          let replaying = joined v0 v2 v3 (Same v0) (λ x f. IsTheSame v2.reads x × (f ≡ v2.sent)) so_far leaves
          (λ x f left. subst (λ (r : Image). IsTheSame r x) still.reads left.0) in
          after_read v0 v3 v4 (Same v0) replaying rests
          (λ x f left. subst (IsTheSame v0.reads) (sym (firm_image v3 firm3 x f left)) now);
    }

-- ---- the data stays

same_data : (g : Geometry) (image x : Image) → IsTheSame image x → HasSameData g [] image x
same_data g image x same n from out = same.stands n (above_journal n (omega (arith, from)))

as_data : (v w : View) → LeavesOnly v w (Same v) → LeavesData v w
as_data v w leaves = weakened v w (Same v) (λ x f. HasSameData (tables_of (home v.reads)).geometry [] v.reads x) leaves (λ x f same. same_data (tables_of (home v.reads)).geometry v.reads x same)

pub data_start_of : (v0 : View) → IsSound v0 → IsFirm v0 → LeavesData v0 v0
data_start_of v0 sound firm = as_data v0 v0 (started v0 (Same v0) sound (still_same v0 v0 (record { firm = firm; reads = refl; sent = refl })))

pub data_sync : (v0 v1 : View) → IsSound v0 → IsFirm v0 → Settles v0 v1 → LeavesData v0 v1
data_sync v0 v1 sound firm settles = as_data v0 v1 (synced_same v0 v1 sound firm settles)

head_same : (v0 v1 v2 : View) → IsSound v0 → IsFirm v0 → IsFirm v1 → Settles v0 v1 → Rests v1 v2 → LeavesOnly v0 v2 (Same v0)
head_same v0 v1 v2 sound firm now settles rests = read_same v0 v1 v2 (synced v0 v1 now settles) rests (synced_same v0 v1 sound firm settles)

pub data_head : (v0 v1 v2 : View) → IsSound v0 → IsFirm v0 → IsFirm v1 → Settles v0 v1 → Rests v1 v2 → LeavesData v0 v2
data_head v0 v1 v2 sound firm now settles rests = as_data v0 v2 (head_same v0 v1 v2 sound firm now settles rests)

replay_same : (v0 v1 v2 v3 : View) → IsSound v0 → IsFirm v0 → IsFirm v1 → Settles v0 v1 → Rests v1 v2 → LeavesOnly v2 v3 (λ x f. IsTheSame v2.reads x × (f ≡ v2.sent)) → LeavesOnly v0 v3 (Same v0)
replay_same v0 v1 v2 v3 sound firm now settles rests leaves =
    let still = read_still v0 v1 v2 (synced v0 v1 now settles) rests in
    joined v0 v2 v3 (Same v0) (λ x f. IsTheSame v2.reads x × (f ≡ v2.sent)) (head_same v0 v1 v2 sound firm now settles rests) leaves
    (λ x f left. subst (λ (r : Image). IsTheSame r x) still.reads left.0)

-- a replay that failed: what is read in the end is left then too
pub spared_replay : (v0 v1 v2 v3 : View) → IsSound v0 → IsSound v3 → IsFirm v1 → Settles v0 v1 → Rests v1 v2 → LeavesOnly v2 v3 (λ x f. IsTheSame v2.reads x × (f ≡ v2.sent))
    → Uses 0 v0 v2 → Uses (replay_writes v2.reads) v2 v3 → IsSpared v0 v3
spared_replay v0 v1 v2 v3 sound sound3 firm settles head leaves few most =
    let still = read_still v0 v1 v2 (synced v0 v1 firm settles) head in
    let limit : replay_writes v2.reads ≡ replay_writes v0.reads = ap replay_writes still.reads in
    record {
      reads = subst (λ (r : Image). IsTheSame r v3.reads) still.reads (ends_in v2 v3 (λ x f. IsTheSame v2.reads x × (f ≡ v2.sent)) sound3 leaves).0;
      writes = omega (arith, few.most, most.most, limit);
      left = λ at_start. replay_same v0 v1 v2 v3 sound at_start firm settles head leaves;
    }

pub data_replay : (v0 v1 v2 v3 : View) → IsSound v0 → IsFirm v0 → IsFirm v1 → Settles v0 v1 → Rests v1 v2 → LeavesOnly v2 v3 (λ x f. IsTheSame v2.reads x × (f ≡ v2.sent)) → LeavesData v0 v3
data_replay v0 v1 v2 v3 sound firm now settles rests leaves = as_data v0 v3 (replay_same v0 v1 v2 v3 sound firm now settles rests leaves)

pub data_load : (v0 v4 : View) → IsFirm v0 → IsSpared v0 v4 → LeavesData v0 v4
data_load v0 v4 firm spared = as_data v0 v4 (spared.left firm)

geometry_on : (x : Image) → (tables_of x).geometry ≡ (header_of (x header_sector)).geometry
unfolding tables_of
geometry_on x = refl

-- the volume that was loaded goes on from there
pub data_finish : {T : Type 0} (r : Result T Failed) (v0 v4 v5 : View) (vol : Volume) → IsFirm v0 → IsSpared v0 v4 → IsVolumeAt vol v4 → KeepsData vol.tables.geometry [] v4 v5 r → LeavesData v0 v5
data_finish r v0 v4 v5 vol firm spared at keeps =
    joined v0 v4 v5 (λ x f. HasSameData k [] v0.reads x) (λ x f. HasSameData vol.tables.geometry [] v4.reads x) (data_load v0 v4 firm spared) keeps.left
    (λ x f same. subst (λ (g : Geometry). HasSameData g [] v0.reads x) size (λ n from out. same n from out ∙ same_data vol.tables.geometry v0.reads v4.reads spared.reads n from out))
  where
    k : Geometry
    k = (tables_of (home v0.reads)).geometry

    size : vol.tables.geometry ≡ k
    size =
        ap (λ (t : Tables). t.geometry) (sym at.tables)
        ∙ (geometry_on (home v4.reads)
        ∙ (ap (λ (bytes : List ℕ). (header_of bytes).geometry) (spared.reads.stands header_sector refl)
        ∙ sym (geometry_on (home v0.reads))))
