use Rattle.std.proofs.Common.{◌≡◌, ℕ, zero, suc, ◌+◌, ◌≤◌, ◌++◌, inl, inr, List, [], ◌∷◌, length, length-append, append_assoc, refl, sym, ◌∙◌, ap, arith, Result, Ok, Err}
use Rattle.std.specs.Prelude.{OnOk, IsOk}
use Rattle.tsd_model.specs.declared.geometry.Geometry.{Geometry}
use Rattle.tsd_model.specs.Geometry.{IsLawful}
use Rattle.image_device.proofs.Resting.{rests_joined}
use Rattle.image_device.proofs.Moments.{uses_and}
use Rattle.image_layout.specs.Image.{Image, sector_bytes}
use Rattle.image_layout.specs.Offsets.{data_sector}
use Rattle.intent_journal.specs.Home.{home}
use Rattle.volume_changes.proofs.parts.read_parts.Goals as goal

-- one sector more, at the end
bytes_push : (x : Image) (first n : ℕ) → sector_bytes x first (n + 1) ≡ sector_bytes x first n ++ x (first + n)
bytes_push x first n = ap (sector_bytes x first) (one n) ∙ each first n
  where
    one : (m : ℕ) → m + 1 ≡ suc m
    one m = omega arith

    bare : (xs : List ℕ) → xs ++ [] ≡ xs
    bare [] = refl
    bare (y ∷ ys) = ap (λ (zs : List ℕ). y ∷ zs) (bare ys)

    each : (from m : ℕ) → sector_bytes x from (suc m) ≡ sector_bytes x from m ++ x (from + m)
    each from zero = bare (x from) ∙ ap x (omega arith)
    each from (suc m) = ap (λ (ys : List ℕ). x from ++ ys) (each (from + 1) m ∙ ap (λ k. sector_bytes x (from + 1) m ++ x k) (omega arith)) ∙ sym (append_assoc (x from) (sector_bytes x (from + 1) m) (x (from + suc m)))

eight : (g : Geometry) → IsLawful g → g.sectors ≤ 8
eight g lawful = elim lawful.sectors [
  | inl e ↦ omega arith
  | inr rest ↦ elim rest [ inl e ↦ omega arith | inr more ↦ elim more [ inl e ↦ omega arith | inr e ↦ omega arith ] ]
]

ok_of : {T E : Type 0} (r : Result T E) (P : Type 0) → IsOk r → OnOk r P → P
ok_of (Ok v) P is p = p
ok_of (Err e) P is p = absurd (cc)

pub loop-part-preserved : goal.loop-part-preserved
loop-part-preserved g c =
    let view = g.D.Device.view in
    let inv = c.loop-part.invariant in
    let k = c.args.layout.now.geometry in
    let p = c.loop-part.part in
    let most = eight k c.requires.lawful in
    let long : length c.read.new.into ≡ 512 = c.read.array_long in
    let grown : c.extend_from_slice.new.self ≡ c.loop-part.into ++ c.read.new.into =
    ok_of c.extend_from_slice.result _ (c.extend_from_slice.ensures.variant.1 (omega (arith, inv.long, long, most, c.loop-part-test.true))) c.extend_from_slice.ensures.ok in
    record {
      bytes = λ told.
          let same : home (view c.loop-part.dev).reads ≡ home (view c.args.dev.now).reads = ap home (inv.rests told).reads in
          let here : c.read.new.into ≡ home (view c.args.dev.now).reads (data_sector k c.args.block 0 + p) =
          c.in_ok-read.ensures.bytes told ∙ ((λ i. same i c.data_sector.result) ∙ ap (home (view c.args.dev.now).reads) (c.data_sector.ensures.value ∙ omega arith)) in
          grown ∙ ((λ i. inv.bytes told i ++ here i) ∙ sym (bytes_push (home (view c.args.dev.now).reads) (data_sector k c.args.block 0) p));
      long = ap (λ (xs : List ℕ). length xs) grown ∙ (length-append c.loop-part.into c.read.new.into ∙ (let was = inv.long in omega (arith, was, long)));
      rests = λ told. rests_joined (view c.args.dev.now) (view c.loop-part.dev) (view c.read.new.dev) (inv.rests told) (c.read.ensures.rests told);
      uses = uses_and 0 0 0 (view c.args.dev.now) (view c.loop-part.dev) (view c.read.new.dev) (omega arith) inv.uses c.read.ensures.uses;
      faultless = c.in_ok-read.ensures.faults ∙ inv.faultless;
    }
