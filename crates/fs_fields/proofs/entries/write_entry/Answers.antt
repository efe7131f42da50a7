use Rattle.std.proofs.Common.{◌≡◌, ◌++◌, ◌∷◌, [], ◌-◌, ℕ, List, length, refl, sym, ◌∙◌, ap, append_assoc}
use Rattle.std.proofs.lemmas.List.{drop-replicate, take_rest}
use Rattle.std.proofs.lemmas.Result.{on_ok_weaker}
use Rattle.std.specs.Prelude.{take, drop, replicate}
use Rattle.fs_fields.proofs.entries.write_entry.Goals as goal

-- the parts of an entry, one behind the other
joined : (old number name zs : List ℕ) (now mid next : List ℕ) → zs ≡ replicate 28 0 → length zs ≡ 28 → mid ≡ old ++ number → next ≡ mid ++ name → now ≡ next ++ take (28 - length name) (drop (length name) zs) → now ≡ old ++ (number ++ (name ++ replicate (28 - length name) 0))
joined old number name zs now mid next z n a b c =
    c ∙ (ap (λ x. next ++ x) (ap (λ k. take (k - length name) (drop (length name) zs)) (sym n) ∙ (take_rest zs (length name) ∙ (ap (drop (length name)) z ∙ drop-replicate (length name) 28 0)))
    ∙ (ap (λ x. x ++ replicate (28 - length name) 0) (b ∙ ap (λ x. x ++ name) a)
    ∙ (append_assoc (old ++ number) name (replicate (28 - length name) 0) ∙ append_assoc old number (name ++ replicate (28 - length name) 0))))

pub returns-clause-ok : goal.returns-clause-ok
returns-clause-ok c = on_ok_weaker c.extend_from_slice-2.result (λ e. joined c.args.into.now _ c.args.name.now (0 ∷ 0 ∷ 0 ∷ 0 ∷ 0 ∷ 0 ∷ 0 ∷ 0 ∷ 0 ∷ 0 ∷ 0 ∷ 0 ∷ 0 ∷ 0 ∷ 0 ∷ 0 ∷ 0 ∷ 0 ∷ 0 ∷ 0 ∷ 0 ∷ 0 ∷ 0 ∷ 0 ∷ 0 ∷ 0 ∷ 0 ∷ 0 ∷ []) c.extend_from_slice-2.new.self c.write_number.new.into c.extend_from_slice.new.self refl refl c.in_ok-write_number.ensures.ok c.in_ok-extend_from_slice.ensures.ok e) c.extend_from_slice-2.ensures.ok
