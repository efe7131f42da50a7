-- Calls that leave the data of blocks, and what lies behind the image.
use Rattle.std.proofs.Common.{◌≡◌, ◌≢◌, ℕ, ◌+◌, ◌<◌, ◌≤◌, Bool, true, false, ◌||◌, ◌&&◌, nat_le, nat_lt, ⊎_elim, List, [], ◌∷◌, refl, sym, ◌∙◌, ap, subst, arith, Result, Ok, Err}
use Rattle.volume_laws.proofs.Common.{OnOk, cases_Bool, both_ways, nat_tests, Geometry, Rests, LeavesOnly, IsConfined, IsFirm, View, IsLeftWithin, IsSound, Failed, weakened, joined, started, rested, firm_image, on_ok, or_false, data_start, Image, data_sector, Patch, IsBefore, IsBeforeOrAfter, home, overlaid, is_journal, AgreeBut, IsRingAt, home_of_empty, home_alike, IsWritten, above_journal, HasSameData, KeepsData, is_data}
use Rattle.volume_laws.proofs.Committed.{ok_map}

above_data : (g : Geometry) (n : ℕ) → data_start g ≤ n → is_journal n ≡ false
above_data g n from = above_journal n (omega (arith, from))

-- ---- one call after another

-- whatever it answers, and whatever its failure is handed on as
pub data_answers : {T U : Type 0} (g : Geometry) (bs : List ℕ) (old new : View) (x : T) (y : U) → KeepsData {T = T} g bs old new (Ok x) → KeepsData {T = U} g bs old new (Ok y)
data_answers g bs old new x y keeps = record { reads = keeps.reads; left = keeps.left }

-- a failure of a call that names no blocks
pub data_fails : {T U : Type 0} (g : Geometry) (bs : List ℕ) (old new : View) (e f : Failed) → KeepsData {T = T} g [] old new (Err e) → KeepsData {T = U} g bs old new (Err f)
data_fails g bs old new e f keeps = record {
  reads = tt;
  left = weakened old new (λ x f. HasSameData g [] old.reads x) (λ x f. HasSameData g bs old.reads x) keeps.left (λ x f same n from out. same n from refl);
}

pub data_same_failure : {T U : Type 0} (g : Geometry) (bs : List ℕ) (old new : View) (e f : Failed) → KeepsData {T = T} g bs old new (Err e) → KeepsData {T = U} g bs old new (Err f)
data_same_failure g bs old new e f keeps = record { reads = tt; left = keeps.left }

-- a call that names no blocks, and then another
pub data_then : {T U : Type 0} (g h : Geometry) (bs : List ℕ) (u v w : View) (x : T) (r : Result U Failed) → h ≡ g → KeepsData {T = T} g [] u v (Ok x) → KeepsData h bs v w r → KeepsData g bs u w r
data_then g h bs u v w x r size one other =
    let two = subst (λ (k : Geometry). KeepsData k bs v w r) size other in
    record {
      reads = ok_map r _ _ (λ (same : HasSameData g bs v.reads w.reads) n from out. same n from out ∙ one.reads n from refl) two.reads;
      left = joined u v w (λ y f. HasSameData g bs u.reads y) (λ y f. HasSameData g bs v.reads y)
          (weakened u v (λ y f. HasSameData g [] u.reads y) (λ y f. HasSameData g bs u.reads y) one.left (λ y f same n from out. same n from refl))
          two.left (λ y f same n from out. same n from out ∙ one.reads n from refl);
    }

-- a call, and then one that names no blocks
pub then_data : {T U : Type 0} (g h : Geometry) (bs : List ℕ) (u v w : View) (x : T) (r : Result U Failed) → h ≡ g → KeepsData {T = T} g bs u v (Ok x) → KeepsData h [] v w r → KeepsData g bs u w r
then_data g h bs u v w x r size one other =
    let two = subst (λ (k : Geometry). KeepsData k [] v w r) size other in
    record {
      reads = ok_map r _ _ (λ (same : HasSameData g [] v.reads w.reads) n from out. same n from refl ∙ one.reads n from out) two.reads;
      left = joined u v w (λ y f. HasSameData g bs u.reads y) (λ y f. HasSameData g [] v.reads y) one.left two.left (λ y f same n from out. same n from refl ∙ one.reads n from out);
    }

-- two calls that name the same blocks
pub data_both : {T U : Type 0} (g h : Geometry) (bs : List ℕ) (u v w : View) (x : T) (r : Result U Failed) → h ≡ g → KeepsData {T = T} g bs u v (Ok x) → KeepsData h bs v w r → KeepsData g bs u w r
data_both g h bs u v w x r size one other =
    let two = subst (λ (k : Geometry). KeepsData k bs v w r) size other in
    record {
      reads = ok_map r _ _ (λ (same : HasSameData g bs v.reads w.reads) n from out. same n from out ∙ one.reads n from out) two.reads;
      left = joined u v w (λ y f. HasSameData g bs u.reads y) (λ y f. HasSameData g bs v.reads y) one.left two.left (λ y f same n from out. same n from out ∙ one.reads n from out);
    }

-- ---- calls that write nothing

same_reads : (g : Geometry) (bs : List ℕ) (v : View) → IsFirm v → (x : Image) → x ≡ v.reads → HasSameData g bs v.reads x
same_reads g bs v firm x same n from out = ap (λ (y : Image). home y n) same

pub data_none : {T : Type 0} (g : Geometry) (bs : List ℕ) (v : View) (x : T) → IsSound v → IsFirm v → KeepsData {T = T} g bs v v (Ok x)
data_none g bs v x sound firm = record {
  reads = λ n from out. refl;
  left = started v (λ y f. HasSameData g bs v.reads y) sound (λ y f left. same_reads g bs v firm y (firm_image v firm y f left));
}

pub data_rested : {T : Type 0} (r : Result T Failed) (g : Geometry) (bs : List ℕ) (old new : View) → IsSound old → IsFirm old → Rests old new → KeepsData g bs old new r
data_rested r g bs old new sound firm rests = record {
  reads = on_ok r (λ n from out. ap (λ (y : Image). home y n) rests.reads);
  left = rested old new (λ y f. HasSameData g bs old.reads y) sound rests (λ y f left. same_reads g bs old firm y (firm_image old firm y f left));
}

-- ---- commits

pub data_committed : {T : Type 0} (r : Result T Failed) (g : Geometry) (bs : List ℕ) (old new : View) (batch : List Patch)
    → ((n : ℕ) → data_start g ≤ n → is_data g bs n ≡ false → old.loose n ≡ false)
    → ((z : Image) (n : ℕ) → data_start g ≤ n → is_data g bs n ≡ false → overlaid batch z n ≡ z n)
    → OnOk r (AgreeBut is_journal (overlaid batch (home old.reads)) (home new.reads))
    → LeavesOnly old new (λ x f. IsBeforeOrAfter batch old x × (f ≡ old.sent)) → KeepsData g bs old new r
data_committed r g bs old new batch firm keeps done leaves = record {
  reads = ok_map r _ _ (λ (agree : AgreeBut is_journal (overlaid batch (home old.reads)) (home new.reads)) n from out. agree n (above_data g n from) ∙ keeps (home old.reads) n from out) done;
  left = weakened old new _ (λ x f. HasSameData g bs old.reads x) leaves (λ x f left n from out. ⊎_elim
      (λ before. before.stands n (or_false (is_journal n) (old.loose n) (above_data g n from) (firm n from out)))
      (λ after. after.stands n (above_data g n from) ∙ keeps (home old.reads) n from out) left.0);
}

-- the ring was emptied
pub data_emptied : {T : Type 0} (r : Result T Failed) (g : Geometry) (bs : List ℕ) (old new : View) → IsFirm old → OnOk r (AgreeBut is_journal (home old.reads) new.reads) → OnOk r (IsRingAt [] new)
    → LeavesOnly old new (λ x f. IsBefore old x × (f ≡ old.sent)) → KeepsData g bs old new r
data_emptied {T = T} r g bs old new firm done ring leaves = record {
  reads = both r done ring;
  left = weakened old new _ (λ x f. HasSameData g bs old.reads x) leaves (λ x f left n from out. left.0.stands n (or_false (is_journal n) (old.loose n) (above_data g n from) (firm n)));
}
  where
    both : (s : Result T Failed) → OnOk s (AgreeBut is_journal (home old.reads) new.reads) → OnOk s (IsRingAt [] new) → OnOk s (HasSameData g bs old.reads new.reads)
    both (Ok u) agree at = λ n from out. (λ i. home_of_empty new.reads at.shows i n) ∙ agree n (above_data g n from)
    both (Err e) agree at = tt

-- ---- writes outside the journal

pub data_confined : {T : Type 0} (r : Result T Failed) (g : Geometry) (bs : List ℕ) (some : ℕ → Bool) (old new : View) → IsFirm old
    → ((n : ℕ) → is_journal n ≡ true → some n ≡ false) → ((n : ℕ) → data_start g ≤ n → is_data g bs n ≡ false → some n ≡ false) → IsConfined some old new → KeepsData g bs old new r
data_confined r g bs some old new firm low apart run = record {
  reads = on_ok r (λ n from out. home_alike old.reads new.reads n (λ m inside. run.reads m (low m inside)) (run.reads n (apart n from out)));
  left = weakened old new (IsLeftWithin some old) (λ x f. HasSameData g bs old.reads x) run.leaves (λ x f left n from out.
      home_alike old.reads x n (λ m inside. left.0.agrees m (or_false (some m) (old.loose m) (low m inside) (firm m))) (left.0.agrees n (or_false (some n) (old.loose n) (apart n from out) (firm n))));
}

-- ---- the sectors of one block

pub other_sector : (g : Geometry) (b n part : ℕ) → is_data g (b ∷ []) n ≡ false → part < g.sectors → n ≢ data_sector g b part
other_sector g b n part out inside same = both_ways (is_data g (b ∷ []) n) out (here (data_sector g b 0) g.sectors n (omega (arith, same)) (omega (arith, same, inside)))
  where
    here : (first k m : ℕ) → first ≤ m → m < first + k → ((nat_le first m && nat_lt m (first + k)) || false) ≡ true
    here first k m low high = grind (arith, nat_tests)

pub written_keeps : (g : Geometry) (b : ℕ) (bytes : List ℕ) (batch : List Patch) → ((z : Image) → IsWritten g b bytes z (overlaid batch z)) → (z : Image) (n : ℕ) → data_start g ≤ n → is_data g (b ∷ []) n ≡ false → overlaid batch z n ≡ z n
written_keeps g b bytes batch written z n from out = (written z).others n (above_data g n from) (λ part inside. other_sector g b n part out inside)
