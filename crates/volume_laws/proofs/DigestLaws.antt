-- Sectors of records that hold digests and nothing else.
use Rattle.std.proofs.Common.{◌≡◌, ℕ, ◌+◌, true, false, List, [], refl, sym, ◌∙◌, ap, subst, arith, Result, Ok, Err}
use Rattle.volume_laws.proofs.Common.{OnOk, on_ok, put_at, caps_start, Image, Patch, overlaid, home, is_journal, AgreeBut, nat_tests, put_here, put_elsewhere, IsConfined, View, Record, Failed, Volume}
use Rattle.cap_store.specs.Stored.{caps_sector_bytes}
use Rattle.volume_laws.specs.Erased.{is_body, HasOnlyDigests}
use Rattle.volume_laws.proofs.Committed.{ok_map}

-- the batch of the header and both sectors was committed
pub digests_laid : {T E : Type 0} (r : Result T E) (batch : List Patch) (h : List ℕ) (records : List Record) (x y : Image)
    → ((z : Image) (n : ℕ) → overlaid batch z n ≡ put_at (caps_start + 1) (caps_sector_bytes 2 records 1) (put_at caps_start (caps_sector_bytes 2 records 0) (put_at 0 h z)) n)
    → OnOk r (AgreeBut is_journal (overlaid batch x) y) → OnOk r (HasOnlyDigests records y)
digests_laid r batch h records x y laid done = ok_map r _ _ (λ (same : AgreeBut is_journal (overlaid batch x) y). record {
  first = same caps_start refl ∙ (laid x caps_start ∙ (put_elsewhere 133 two (put_at 132 one (put_at 0 h x)) 132 refl ∙ put_here 132 one (put_at 0 h x) 132 refl));
  second = same (caps_start + 1) refl ∙ (laid x (caps_start + 1) ∙ put_here 133 two (put_at 132 one (put_at 0 h x)) 133 refl);
}) done
  where
    one : List ℕ
    one = caps_sector_bytes 2 records 0

    two : List ℕ
    two = caps_sector_bytes 2 records 1

-- nothing was committed
pub same_laid : {T E : Type 0} (r : Result T E) (batch : List Patch) (x y : Image) → batch ≡ [] → OnOk r (AgreeBut is_journal (overlaid batch x) y) → OnOk r (AgreeBut is_journal x y)
same_laid r batch x y none done = subst (λ (ps : List Patch). OnOk r (AgreeBut is_journal (overlaid ps x) y)) none done

-- where only the journal differs
digests_agree : (records : List Record) (x y : Image) → HasOnlyDigests records x → AgreeBut is_journal x y → HasOnlyDigests records y
digests_agree records x y has agree = record { first = agree caps_start refl ∙ has.first; second = agree (caps_start + 1) refl ∙ has.second }

outside : (n : ℕ) → is_journal n ≡ false → is_body n ≡ false
outside n out = grind (arith, nat_tests)

-- all but the journal stays
pub all_stays : {T : Type 0} (r : Result T Failed) (x y : Image) (v w : View) → AgreeBut is_journal x y → AgreeBut is_journal y v.reads → IsConfined is_body v w → OnOk r (AgreeBut is_journal x w.reads)
all_stays r x y v w first placed run = on_ok r (λ n out. run.reads n (outside n out) ∙ (placed n out ∙ first n out))

-- The ring was emptied, and then the bodies erased.
module _ {T : Type 0} (r : Result T Failed) (x : Image) (v w : View) (placed : AgreeBut is_journal x v.reads) (run : IsConfined is_body v w) where
  pub digests_erased : (b c : Volume) (records : List Record) → HasOnlyDigests records x → b.tables.records ≡ records → OnOk r (c ≡ record b { is_spent = false }) → OnOk r (HasOnlyDigests c.tables.records w.reads)
  digests_erased b c records has is same = ok_map r _ _ (λ (e : c ≡ record b { is_spent = false }).
      subst (λ (rs : List Record). HasOnlyDigests rs w.reads) (sym (ap (λ (u : Volume). u.tables.records) e ∙ is))
      (digests_agree records x w.reads has (λ n out. run.reads n (outside n out) ∙ placed n out))) same
