-- A disk that was opened and upgraded, and its line put.
use Rattle.std.proofs.Common.{◌≡◌, ◌⊎◌, inl, inr, ℕ, List, sym, ◌∙◌, ap, subst, ◌≤◌}
use Rattle.image_runs.proofs.Common.{World, zeros, View, LeavesOnly, joined, weakened, Image, IsGood, AreClosed, Stands, world_of, StandAlike, Status, LeavesEither, Volume, IsVolumeAt, world_on, IsJudged, IsUnopened}
use Rattle.tsd_model.specs.Records.{upgraded}
use Rattle.tsd_words.specs.declared.status.Status.TheVariants as status
use Rattle.volume_laws.specs.Erased.{HasOnlyDigests}
use Rattle.volume_laws.proofs.Committed.{told_like as volume_told}
use Rattle.volume_laws.proofs.QuestionLaws.{told_size}
use Rattle.tsd_model.specs.declared.records.Record.{Record}
use Rattle.image_runs.specs.Sending.{HasPut}
use Rattle.image_runs.specs.Upgrade.{HasUpgraded, IsUpgradeOf, IsUpgraded}
use Rattle.image_runs.proofs.Saying.{still_firm}

-- what an image of the world at the start stands for
pub alike_of : (image x : Image) → IsGood image → Stands x (world_of image) → StandAlike image x
alike_of image x good stands w = (
  (λ s. subst (λ (v : World). Stands x v) (sym s.world) stands),
  (λ s. record { good = good; world = s.world ∙ sym stands.world }),
)

-- what a crash leaves of opening and upgrading
pub upgrade_moments : (old mid new : View) → IsGood old.reads → world_on mid ≡ world_of old.reads → mid.sent ≡ old.sent
    → LeavesOnly old mid (λ x f. StandAlike old.reads x × (f ≡ old.sent)) → LeavesEither mid new (upgraded (world_on mid))
    → LeavesOnly old new (λ x f. (StandAlike old.reads x ⊎ IsUpgradeOf old.reads x) × (f ≡ old.sent))
upgrade_moments old mid new good done sent opening more =
    joined old mid new _ _ (weakened old mid _ _ opening (λ x f left. (inl left.0, left.1))) more
    (λ x f left. (
      elim left.0 [
        | inl before ↦ inl (alike_of old.reads x good (subst (λ (w : World). Stands x w) done before))
        | inr after ↦ inr (record { good = good; stands = subst (λ (w : World). Stands x (upgraded w)) done after })
      ],
      left.1 ∙ sent,
    ))

-- the line was put, over a disk that was upgraded
pub upgraded_put : {told : Type 0} {text : List ℕ} {done r : Status} {image : Image} {mid new : View} → told → HasPut told text done r mid new → IsUpgraded image mid → IsUpgraded image new
upgraded_put {image = image} {mid = mid} {new = new} tells has is =
    let same = sym (has.puts.reads tells) in
    record {
      firm = still_firm mid new is.firm (has.puts.loose tells);
      upgrade = subst (λ (x : Image). IsUpgradeOf image x) same is.upgrade;
      closed = subst (λ (x : Image). AreClosed x) same is.closed;
      erased = subst (λ (x : Image). (n : ℕ) → 4 ≤ n → n ≤ 116 → x n ≡ zeros) same is.erased;
      digests = λ one. subst (λ (x : Image). HasOnlyDigests (upgraded (world_of image)).records x) same (is.digests one);
    }

-- nothing was upgraded
pub not_upgraded : (why : Status) (old new : View) → IsUnopened why → IsJudged old.reads why → new.sent ≡ old.sent → HasUpgraded why old new
not_upgraded (status.NotImage reason) old new stops judged sent = (judged, sent)
not_upgraded status.DeviceFault old new stops judged sent = sent
not_upgraded status.NoMemory old new stops judged sent = sent
not_upgraded r old new stops judged sent = absurd stops

-- what a volume's tables tell of the world's version and records
told_version : (vol : Volume) (v : View) → IsVolumeAt vol v → (world_on v).version ≡ vol.tables.version
told_version vol v at = sym (volume_told vol v at).version ∙ (told_size vol.tables).1

told_records : (vol : Volume) (v : View) → IsVolumeAt vol v → (world_on v).records ≡ vol.tables.records
told_records vol v at = sym (volume_told vol v at).records ∙ (told_size vol.tables).2

-- the digests, said of the worlds for which the device stood and stands
digests_told : (old now : Volume) (v w : View) → IsVolumeAt old v → IsVolumeAt now w → (old.tables.version ≡ 1 → HasOnlyDigests now.tables.records w.reads) → (world_on v).version ≡ 1 → HasOnlyDigests (world_on w).records w.reads
digests_told old now v w before after has one = subst (λ (rs : List Record). HasOnlyDigests rs w.reads) (sym (told_records now w after)) (has (sym (told_version old v before) ∙ one))

-- once the volume is upgraded, where it was opened
pub upgraded_there : (old mid new : View) (before now : Volume) → IsGood old.reads → world_on mid ≡ world_of old.reads → IsVolumeAt before mid → IsVolumeAt now new → world_on new ≡ upgraded (world_on mid)
    → AreClosed new.reads → ((n : ℕ) → 4 ≤ n → n ≤ 116 → new.reads n ≡ zeros) → (before.tables.version ≡ 1 → HasOnlyDigests now.tables.records new.reads) → IsUpgraded old.reads new
upgraded_there old mid new before now good opened was at done closed erased digests =
    let last = done ∙ ap (λ (w : World). upgraded w) opened in
    record {
      firm = at.firm;
      upgrade = record { good = good; stands = record { good = at.good; world = sym last } };
      closed = closed;
      erased = erased;
      digests = λ one. subst (λ (w : World). HasOnlyDigests w.records new.reads) last (digests_told before now mid new was at digests (ap (λ (w : World). w.version) opened ∙ one));
    }
