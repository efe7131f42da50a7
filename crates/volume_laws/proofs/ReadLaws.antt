-- A block that is read.
use Rattle.std.proofs.Common.{◌≡◌, ℕ, ◌<◌, ◌≤◌, Bool, true, false, not, cond, inl, inr, List, refl, sym, ◌∙◌, ap, subst, arith, Some, None}
use Rattle.volume_laws.proofs.Common.{is_some, cases_Bool, World, contents, is_live, has_number, doomed, settle, reach, restricted, swept, Rests, View, IsSound, rested, firm_image, Image, data_bytes, home, JournalRecord, IsRingAt, at_rested, IsGood, Tables, tables_of, world_with, left_of, data_on, Stands, world_of, live_with, contents_with, LeavesWorld, LeavesOwed, owed, Volume, IsVolumeAt, told_by, world_on}
use Rattle.tsd_model.proofs.SizeLaws.{contents-restricted}
use Rattle.volume_laws.proofs.Committed.{told_like, told_inside}

-- ---- the device
pub rested_at : (vol now : Volume) (old new : View) → now.ring ≡ vol.ring → now.tables ≡ vol.tables → IsVolumeAt vol old → Rests old new → IsVolumeAt now new
rested_at vol now old new ring tables at rests = record {
  firm = λ n. (λ i. rests.loose i n) ∙ at.firm n;
  ring = subst (λ (rs : List JournalRecord). IsRingAt rs new) (sym ring) (at_rested at.ring rests);
  good = subst IsGood (sym rests.reads) at.good;
  tables = ap (λ (x : Image). tables_of (home x)) rests.reads ∙ (at.tables ∙ sym tables);
}

pub rested_world : (old new : View) → Rests old new → world_on new ≡ world_on old
rested_world old new rests = ap world_of rests.reads

pub rested_moments : (vol : Volume) (old new : View) → IsSound old → IsVolumeAt vol old → Rests old new → LeavesWorld old new
rested_moments vol old new sound at rests = rested old new (λ x f. Stands x (world_on old) × (f ≡ old.sent)) sound rests (λ x f left.
    (subst (λ (y : Image). Stands y (world_on old)) (sym (firm_image old at.firm x f left)) (record { good = at.good; world = refl }), left.1))

pub rested_owed : (vol : Volume) (old new : View) → IsSound old → IsVolumeAt vol old → Rests old new → LeavesOwed old new (owed vol.tables)
rested_owed vol old new sound at rests = rested old new (λ x f. owed (tables_of (home x)) ≤ owed vol.tables) sound rests (λ x f left.
    subst (λ (y : Image). owed (tables_of (home y)) ≤ owed vol.tables) (sym (firm_image old at.firm x f left))
    (let e : owed (tables_of (home old.reads)) ≡ owed vol.tables = ap owed at.tables in omega (arith, e)))

-- ---- the bytes
-- what is left of a block is what it was
restricted_same : (w : World) (keep : ℕ → Bool) (b : ℕ) → is_live (restricted w keep) b ≡ true → contents (restricted w keep) b ≡ contents w b
restricted_same w keep b live = contents-restricted w keep b ∙ elim (cases_Bool (keep b)) [
  | inl e ↦ ap (λ s. cond s (contents w b) None) e
  | inr e ↦ absurd (gone (ap is_some (contents-restricted w keep b ∙ ap (λ s. cond s (contents w b) None) e)))
]
  where
    gone : is_live (restricted w keep) b ≡ false → ⊥
    gone e = let clash : true ≡ false = sym live ∙ e in cc

left_same : (t : Tables) (w : World) (b : ℕ) → is_live (left_of t w) b ≡ true → contents (left_of t w) b ≡ contents w b
unfolding left_of
left_same t w b = elim t.is_sweeping as (λ s. is_live (cond s (swept w) (settle w)) b ≡ true → contents (cond s (swept w) (settle w)) b ≡ contents w b) [
  | true ↦ restricted_same w (has_number (reach w)) b
  | false ↦ restricted_same w (λ c. not (has_number (doomed w) c)) b
]

pub read_bytes : (vol : Volume) (v : View) (b : ℕ) → IsVolumeAt vol v → is_live (told_by vol) b ≡ true → contents (world_on v) b ≡ Some (data_bytes (home v.reads) vol.tables.geometry b)
unfolding world_of
read_bytes vol v b at live =
    let t = tables_of (home v.reads) in
    let w = world_with t (data_on (home v.reads)) in
    let here : is_live (left_of t w) b ≡ true = sym ((told_like vol v at).live b) ∙ live in
    let same = left_same t w b here in
    let inside : b < t.geometry.blocks = let told = told_inside vol b live in let size = ap (λ (u : Tables). u.geometry.blocks) at.tables in omega (arith, told, size) in
    let raw : is_live w b ≡ true = sym (ap is_some same) ∙ here in
    same ∙ (contents_with t (data_on (home v.reads)) b inside ∙ (ap (λ s. cond s (Some (data_on (home v.reads) b)) None) (sym (live_with t (data_on (home v.reads)) b inside) ∙ raw)
    ∙ ap (λ (u : Tables). Some (data_bytes (home v.reads) u.geometry b)) at.tables))
