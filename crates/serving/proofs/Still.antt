-- Nothing is done behind what was sent last.
use Rattle.std.proofs.Common.{◌≡◌, ◌≢◌, ℕ, suc, ◌+◌, ◌<◌, ◌≤◌, false, List, [], ◌∷◌, ◌++◌, length, length-append, ap, sym, ◌∙◌, arith}
use Rattle.image_device.specs.Image.{Image}
use Rattle.image_device.specs.View.{View, IsLeftInPut, IsSound}
use Rattle.image_device.specs.Runs.{LeavesOnly}
use Rattle.image_device.proofs.Moments.{started, joined, weakened, firm_image}
use Rattle.serving.specs.Prompt.{EndsBySending, IsStill}
use Rattle.serving.specs.Service.{Service, IsCounted}

-- before the first request
pub still_first : (v : View) → IsSound v → ((n : ℕ) → v.loose n ≡ false) → EndsBySending v v
still_first v sound firm = started v (IsStill v) sound
    (λ x f left. record { few = (let e = ap length left.1 in omega (arith, e)); whole = λ all. firm_image v firm x f left })

-- where more is sent behind what was done before
pub still_late : (v w z : View) → LeavesOnly v w (λ x f. length f ≤ length w.sent) → length w.sent < length z.sent → EndsBySending w z → EndsBySending v z
still_late v w z few less more =
    joined v w z (IsStill z) (IsStill z)
    (weakened v w _ (IsStill z) few
    (λ x f le. record { few = omega (arith, le, less); whole = λ e. (let same = ap length e in absurd (omega (arith, le, less, same))) }))
    more (λ x f s. s)

-- where nothing was sent before, and then more was
pub still_before : (v w z : View) (P : Image → Type 0) (more : List ℕ) → w.sent ≡ v.sent → z.sent ≡ w.sent ++ more → LeavesOnly v w (λ x f. P x × (f ≡ v.sent)) → z.sent ≢ v.sent → EndsBySending w z → EndsBySending v z
still_before v w z P more same sent silent other still =
    joined v w z (IsStill z) (IsStill z)
    (weakened v w _ (IsStill z) silent
    (λ x f left.
    let now : length f ≡ length w.sent = ap length (left.1 ∙ sym same) in
    let end : length z.sent ≡ length w.sent + length more = ap length sent ∙ length-append w.sent more in
    record { few = omega (arith, now, end); whole = λ e. absurd (other (sym e ∙ left.1)) }))
    still (λ x f s. s)

-- where it was put alone
pub still_put : (w z : View) (line : List ℕ) → ((n : ℕ) → w.loose n ≡ false) → LeavesOnly w z (IsLeftInPut line w) → z.sent ≡ w.sent ++ line → z.reads ≡ w.reads → EndsBySending w z
still_put w z line firm puts sent reads = weakened w z _ (IsStill z) puts
    (λ x f left.
    let now : length f ≡ length w.sent + length left.1.front = ap length left.1.sent ∙ length-append w.sent left.1.front in
    let all : length line ≡ length left.1.front + length left.1.back = ap length left.1.whole ∙ length-append left.1.front left.1.back in
    let end : length z.sent ≡ length w.sent + length line = ap length sent ∙ length-append w.sent line in
    record { few = omega (arith, now, all, end); whole = λ e. (λ i n. left.0.agrees n (firm n) i) ∙ sym reads })

-- what a piece adds
pub less_sent : (w z : View) (line : List ℕ) → z.sent ≡ w.sent ++ line → 1 ≤ length line → length w.sent < length z.sent
less_sent w z line sent some = let longer : length z.sent ≡ length w.sent + length line = ap length sent ∙ length-append w.sent line in omega (arith, longer, some)

-- an answer isn't empty
module _ {Q : Type 0} (k : Service Q) (counted : IsCounted k) (m : k.States) (q : Q) (t : k.States) where
  pub not_empty : (a : List ℕ) → k.gives m q a t → 1 ≤ length a
  not_empty [] given = let one : k.acked ([] ++ []) ≡ suc (k.acked []) = counted.whole m q [] t [] given in absurd (omega (arith, one))
  not_empty (b ∷ bs) given = omega arith

  -- one answer more
  pub still_next : (a : List ℕ) → k.gives m q a t → (v0 v new : View) → EndsBySending v0 v → EndsBySending v new → new.sent ≡ v.sent ++ a → EndsBySending v0 new
  still_next a given v0 v new so_far more sent =
      still_late v0 v new (weakened v0 v (IsStill v) (λ x f. length f ≤ length v.sent) so_far (λ x f s. s.few)) (less_sent v new a sent (not_empty a given)) more
