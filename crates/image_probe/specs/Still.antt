-- A device that is only read.
use Rattle.std.proofs.Common.{◌≡◌, ◌<◌, ◌+◌, ℕ, zero, suc, true, false, cond, List, replicate, get_or}
use Rattle.std.proofs.Common.{refl, sym, subst, lit<}
use Rattle.std.proofs.lemmas.List.{length-replicate}
use Rattle.image_device.specs.Image.{Image, IsImage, IsSector, zeros}
use Rattle.image_device.specs.View.{IsLeftNow, IsSound, View}
use Rattle.intent_journal.specs.Home.{home, is_journal}
use Rattle.image_world.proofs.WorldLaws.{home_whole}
use Rattle.mirror_device.specs.SidesView.{SidesAreSound, SidesView}

-- Nothing of it is loose, and a crash leaves what it reads as.
abbrev pub still_view : Image → List ℕ → ℕ → ℕ → ℕ → ℕ → View
still_view reads sent clock faults put_faults writes = record {
  reads = reads;
  loose = λ n. false;
  sent = sent;
  clock = clock;
  left = λ t x f. (x ≡ reads) × (f ≡ sent);
  faults = faults;
  put_faults = put_faults;
  writes = writes;
}

pub still_sound : (reads : Image) (sent : List ℕ) (clock faults put_faults writes : ℕ)
    → ((n : ℕ) → IsSector (reads n)) → IsSound (still_view reads sent clock faults put_faults writes)
still_sound reads sent clock faults put_faults writes whole = record {
  counts_now = λ t x f le now. ((λ j n. now.0.agrees n refl j), now.1);
  only_now = λ x f left. (
    record {
      agrees = λ n h j. left.0 j n;
      whole = λ n. subst (λ (y : Image). IsSector (y n)) (sym left.0) (whole n);
    },
    left.1,
  );
  own = record { agrees = λ n h. refl; whole = whole };
}

-- the first of two images, over which so many writes were refused
abbrev pub first_view : SidesView → ℕ → View
first_view v refused = still_view v.first.reads v.sent v.clock (v.first.faults + refused) v.put_faults refused

pub first_sound : (v : SidesView) (refused : ℕ) → SidesAreSound v → IsSound (first_view v refused)
first_sound v refused sound =
    still_sound v.first.reads v.sent v.clock (v.first.faults + refused) v.put_faults refused sound.first_own.whole

-- What each sector is to hold once the open records are in place, with every gate of the journal closed.
abbrev pub settled_reads : Image → Image
settled_reads image n = cond (is_journal n) zeros (home image n)

-- the first of two images as it is to read so, over which so many writes were refused here and there
abbrev pub settled_view : SidesView → ℕ → ℕ → View
settled_view v there here =
    still_view (settled_reads v.first.reads) v.sent v.clock (v.first.faults + (there + here)) v.put_faults
    (there + here)

zeros_whole : IsSector zeros
zeros_whole = record { size = length-replicate {A = ℕ} 512 0; each = λ i. same 512 i }
  where
    same : (n i : ℕ) → get_or (replicate n 0) i 0 < 256
    same zero i = lit< tt
    same (suc n) zero = lit< tt
    same (suc n) (suc i) = same n i

settled_whole : (image : Image) → ((n : ℕ) → IsSector (image n)) → (n : ℕ) → IsSector (settled_reads image n)
settled_whole image whole n =
    elim (is_journal n) as (λ b. IsSector (cond b zeros (home image n))) [
      | true ↦ zeros_whole
      | false ↦ home_whole image whole n
    ]

pub settled_sound : (v : SidesView) (there here : ℕ) → SidesAreSound v → IsSound (settled_view v there here)
settled_sound v there here sound =
    still_sound (settled_reads v.first.reads) v.sent v.clock (v.first.faults + (there + here)) v.put_faults
    (there + here)
    (settled_whole v.first.reads sound.first_own.whole)
