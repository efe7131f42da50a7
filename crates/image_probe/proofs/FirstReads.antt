-- Reads of the first of two images, one after another.
use Rattle.std.proofs.Common.{◌≡◌, inl, inr, ⊎_elim, ℕ, ◌≤◌, refl, sym, ◌∙◌, subst, arith}
use Rattle.std.proofs.Math.Logic.{∥∥₁_elim}
use Rattle.image_device.specs.Image.{IsImage}
use Rattle.image_probe.specs.Reading.{InReading, OnlyReads, ReadCounts}
use Rattle.mirror_device.specs.SideCalls.{SideRests, SideUses}
use Rattle.mirror_device.specs.SidesView.{IsItemNow, IsSideNow, Item, SideView, SidesView}
use Rattle.mirror_device.specs.declared.side.Side.TheVariants.{First}

-- none yet
pub reads_none : (u v : SidesView) → u ≡ v → OnlyReads u v
reads_none u v same = subst (OnlyReads u) same (record {
  reads = refl;
  loose = refl;
  second = refl;
  sent = refl;
  later = omega arith;
  nothing_else = λ t i le left. inl left;
  keeps = λ t i le left. left;
})

pub counts_none : (u v : SidesView) → u ≡ v → ReadCounts u v
counts_none u v same = subst (ReadCounts u) same (record {
  clock = omega arith;
  first_faults = omega arith;
  first_syncs = refl;
  second_faults = refl;
  second_syncs = refl;
  put_faults = refl;
})

module _ (u v : SidesView) (so_far : OnlyReads u v) where
  -- an item of now
  now_in : (i : Item) → IsItemNow v i → InReading u i
  now_in i now = record {
    first = record {
      agrees = λ n h. now.first.image.agrees n ((λ j. so_far.loose j n) ∙ h) ∙ (λ j. so_far.reads j n);
      whole = now.first.image.whole;
    };
    second = subst (λ (w : SideView). IsSideNow w i.second) so_far.second now.second;
    sent = now.sent ∙ so_far.sent;
  }

module _ (u v v' : SidesView) (so_far : OnlyReads u v) (call : SideRests First v v') where
  -- one more
  pub reads_on : OnlyReads u v'
  reads_on = record {
    reads = reads;
    loose = loose;
    second = second;
    sent = sent;
    later = omega (arith, so_far.later, call.time.later);
    nothing_else = λ t i le left. ⊎_elim
        (so_far.nothing_else t i le)
        (λ new. inr (⊎_elim (now_in u v so_far i) (after i) new))
        (call.time.nothing_else t i (omega (arith, le, so_far.later)) left);
    keeps = λ t i le left. call.time.keeps t i (omega (arith, le, so_far.later)) (so_far.keeps t i le left);
  }
    where
      reads : v'.first.reads ≡ u.first.reads
      reads = call.reads ∙ so_far.reads

      loose : v'.first.loose ≡ u.first.loose
      loose = call.loose ∙ so_far.loose

      second : v'.second ≡ u.second
      second = call.others ∙ so_far.second

      sent : v'.sent ≡ u.sent
      sent = call.sent ∙ so_far.sent

      after : (i : Item) → IsItemNow v' i → InReading u i
      after i now = record {
        first = record {
          agrees = λ n h. now.first.image.agrees n ((λ j. loose j n) ∙ h) ∙ (λ j. reads j n);
          whole = now.first.image.whole;
        };
        second = subst (λ (w : SideView). IsSideNow w i.second) second now.second;
        sent = now.sent ∙ sent;
      }

-- the same of reads that merely were so
pub reads_more : (u v v' : SidesView) → ∥ OnlyReads u v ∥₁ → SideRests First v v' → ∥ OnlyReads u v' ∥₁
reads_more u v v' merely call =
    let prop : IsProp (∥ OnlyReads u v' ∥₁) = hlevel in
    ∥∥₁_elim merely prop (λ (so_far : OnlyReads u v). ∣ reads_on u v v' so_far call ∣₁)

pub counts_on : (u v v' : SidesView) → ReadCounts u v → SideUses First v v' → ReadCounts u v'
counts_on u v v' a b = record {
  clock = omega (arith, a.clock, b.clock);
  first_faults = omega (arith, a.first_faults, b.faults);
  first_syncs = b.syncs ∙ a.first_syncs;
  second_faults = b.other_faults ∙ a.second_faults;
  second_syncs = b.other_syncs ∙ a.second_syncs;
  put_faults = b.put_faults ∙ a.put_faults;
}
