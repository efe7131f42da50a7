-- Sectors at and above the end of a side.
use Rattle.std.specs.Prelude.{Result, Ok, Err, OnOk, OnErr}
use Rattle.std.proofs.Common.{◌≡◌, ℕ, ◌<◌, ◌≤◌, false, cond, ◌==◌, List, ◌∙◌, ap, arith}
use Rattle.std.proofs.lemmas.Bool.Decides.{nat_tests}
use Rattle.image_device.specs.Image.{Image, zeros, put_at}

away : (sector n : ℕ) → sector < n → (n == sector) ≡ false
away sector n lt = grind (arith, nat_tests)

-- a sector below the end was set, or nothing
pub rest_set : {T E : Type 0} (r : Result T E) (sector end more : ℕ) (bytes : List ℕ) (old new : Image) → OnOk r (new ≡ put_at sector bytes old) → OnErr r (new ≡ old) → end ≤ more → sector < more
    → ((n : ℕ) → end ≤ n → old n ≡ zeros) → (n : ℕ) → more ≤ n → new n ≡ zeros
rest_set (Ok x) sector end more bytes old new ok err le lt rest n far = (λ i. ok i n) ∙ ap (λ b. cond b bytes (old n)) (away sector n (omega arith)) ∙ rest n (omega arith)
rest_set (Err e) sector end more bytes old new ok err le lt rest n far = (λ i. err i n) ∙ rest n (omega arith)
