-- In the middle of reclaiming: the world is as at the start, and each step so far has been paid for.
use Rattle.std.proofs.Common.{◌≡◌, ℕ, ◌≤◌, false, [], refl, ◌∙◌, arith, Result, Ok}
use Rattle.volume_laws.proofs.Common.{View, IsSound, Failed, Volume, IsVolumeAt, told_by, owed, IsOperation, IsWithin, due}
use Rattle.volume_laws.proofs.OperationLaws.{no_op, none_within, kept_then, op_answers, within_then, within_answers}

-- the answer of a call that tells nothing
abbrev pub done : Result (Unit {0}) Failed
done = Ok tt

pub record IsSettling (told : Type 0) (first : Volume) (start : View) (vol : Volume) (v : View) : Type 0 where
  pub operation : IsOperation told [] (λ w. w) first vol start v done
  pub cost : IsWithin told (owed first.tables) 0 (due first) first vol start v done
  pub tells : told_by vol ≡ told_by first
  pub version : vol.tables.version ≡ first.tables.version
  pub still : vol.tables.is_sweeping ≡ false
  pub as_ready : vol.is_ready ≡ first.is_ready
  pub less : owed vol.tables ≤ owed first.tables

pub settling_none : (told : Type 0) (first : Volume) (start : View) → (told → IsSound start) → first.tables.is_sweeping ≡ false → first.is_spent ≡ false → (told → IsVolumeAt first start) → IsSettling told first start first start
settling_none told first start sound still unspent at = record {
  operation = no_op told first start tt sound at unspent;
  cost = none_within told first start tt (due first) sound at;
  tells = refl;
  version = refl;
  still = still;
  as_ready = refl;
  less = omega arith;
}

module _ (told : Type 0) (first : Volume) (start : View) (vol : Volume) (v : View) (so_far : IsSettling told first start vol v) (now : Volume) (new : View) where
  -- one call more, which may have failed
  pub settling_op : {T : Type 0} (r : Result T Failed) → IsOperation told [] (λ w. w) vol now v new r → IsOperation told [] (λ w. w) first now start new r
  settling_op r op = kept_then told (λ w. w) first vol now start v new tt r so_far.operation op

  pub settling_cost : {T : Type 0} (r : Result T Failed) → IsWithin told (owed vol.tables) 0 (due vol) vol now v new r → IsWithin told (owed first.tables) 0 (due first) first now start new r
  settling_cost r cost = within_then told first vol now start v new tt r (owed first.tables) 0 (due first) (owed vol.tables) 0 (due vol) (owed first.tables) 0 (due first) so_far.cost cost
      (omega arith) so_far.less (omega arith) (omega arith)

  -- one step more
  pub settling_more : {T : Type 0} (x : T) → IsOperation {T = T} told [] (λ w. w) vol now v new (Ok x) → IsWithin {T = T} told (owed vol.tables) 0 (due vol) vol now v new (Ok x)
      → told_by now ≡ told_by vol → now.tables.version ≡ vol.tables.version → now.tables.is_sweeping ≡ false → now.is_ready ≡ vol.is_ready → owed now.tables ≤ owed vol.tables → IsSettling told first start now new
  settling_more x op cost tells version still as_ready less = record {
    operation = op_answers told (λ w. w) first now start new x tt (settling_op (Ok x) op);
    cost = within_answers told (owed first.tables) 0 (due first) first now start new x tt (settling_cost (Ok x) cost);
    tells = tells ∙ so_far.tells;
    version = version ∙ so_far.version;
    still = still;
    as_ready = as_ready ∙ so_far.as_ready;
    less = omega (arith, less, so_far.less);
  }
