-- The records of a fresh disk.
use Rattle.std.proofs.Common.{◌≡◌, ℕ, suc, ◌+◌, ◌<◌, List, [], ◌∷◌, ◌++◌, length, take, get_or, set, sym, ◌∙◌, ap, arith}
use Rattle.std.specs.Prelude.{map}
use Rattle.std.proofs.Math.Seq.{take-suc-set}
use Rattle.std.proofs.lemmas.List.{map-append, take_more}
use Rattle.tsd_model.specs.declared.caps.CapPair.{CapPair}
use Rattle.tsd_model.specs.declared.records.Record.{Record}
use Rattle.tsd_model.specs.Records.{kept}
use Rattle.cap_store.specs.Fresh.{fresh_records}

-- one record more
pub put_more : (caps all : List CapPair) (rs : List Record) (r : Record) (i : ℕ) (d : CapPair) → all ≡ caps → i < length caps → i < length rs → r ≡ kept 1 (get_or all i d)
    → take i rs ≡ fresh_records (take i caps) → take (i + 1) (set rs i r) ≡ fresh_records (take (i + 1) caps)
put_more caps all rs r i d same inside room is so_far =
    let next : i + 1 ≡ suc i = omega arith in
    let here : r ≡ kept 1 (get_or caps i d) = is ∙ ap (λ (l : List CapPair). kept 1 (get_or l i d)) same in
    ap (λ n. take n (set rs i r)) next ∙ take-suc-set rs i r room
    ∙ (λ j. so_far j ++ here j ∷ [])
    ∙ sym (map-append (kept 1) (take i caps) (get_or caps i d ∷ [])) ∙ ap (map (kept 1)) (sym (take_more caps i d inside))
