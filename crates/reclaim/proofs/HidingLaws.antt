-- Doomed blocks are hidden, one at a time.
use Rattle.std.proofs.Common.{◌≡◌, ℕ, zero, suc, ◌<◌, Bool, true, false, not, ◌&&◌, ◌||◌, ◌==◌, List, [], ◌∷◌, ◌++◌, refl, sym, ◌∙◌, ap, subst, inl, inr}
use Rattle.reclaim.proofs.Common.{eq-eqb, ne_eqb, and_from, or_right, cases_eq, get_or-set_other, slice_index_or, slice_set, has_number, is_live_in, live_below, Table, LiveMap, doomed, settle, Kept, is_gone, IsAheadOf, Hides, graph_of, AreTables}
use Rattle.block_alloc.specs.LiveMap.{is_live}
use Rattle.graph_laws.proofs.SettleLaws.{live-settle}
use Rattle.reclaim.proofs.CollectLaws.{live_told}
use Rattle.reclaim.proofs.HeldLaws.{has-push}
use Rattle.tsd_model.proofs.ValueLaws.{and_false, and_true, or_false}

abbrev pub with_unhidden : LiveMap → List Bool → LiveMap
with_unhidden live bits = record live { unhidden = bits }

-- the same bitmap tells the same tables
pub tables_with : (t : Table) (old new : LiveMap) (bits : List Bool) → new ≡ with_unhidden old bits → AreTables t old → AreTables t new
tables_with t old new bits is tables = subst (AreTables t) (sym is) (let with_bits : AreTables t (with_unhidden old bits) = record { geometry = tables.geometry; raw = tables.raw } in with_bits)

pub graph_with : (t : Table) (old new : LiveMap) (bits : List Bool) → new ≡ with_unhidden old bits → graph_of t new ≡ graph_of t old
graph_with t old new bits is = ap (graph_of t) is

-- two changes of what is hidden are one
pub raw_twice : (first old new : LiveMap) (bits : List Bool) → old ≡ with_unhidden first old.unhidden → new ≡ with_unhidden old bits → new ≡ with_unhidden first new.unhidden
raw_twice first old new bits was is = is ∙ (ap (λ (m : LiveMap). with_unhidden m bits) was ∙ ap (λ (m : LiveMap). with_unhidden first m.unhidden) (sym is))

-- ---- a block is hidden

cleared : (ts : List Bool) (k : ℕ) → slice_index_or (slice_set ts k false) k false ≡ false
cleared [] k = refl
cleared (t ∷ ts) zero = refl
cleared (t ∷ ts) (suc k) = cleared ts k

-- the block that is popped is live and isn't hidden yet
pub popped_unhidden : (t : Table) (live : LiveMap) (gone : List Bool) (old new : List ℕ) (o : ℕ) → AreTables t live → is_live_in (graph_of t live) o ≡ true
    → Hides live (λ b. is_gone gone b && not (has_number old b)) → old ≡ new ++ o ∷ [] → is_live live.unhidden o ≡ true
popped_unhidden t live gone old new o tables is hides last = hides o ∙ and_from (is_live live.live o) (not (is_gone gone o && not (has_number old o)))
    (sym (live_told t live o within) ∙ is)
    (ap (λ s. not (is_gone gone o && not s)) (ap (λ xs. has_number xs o) last ∙ (has-push new o o ∙ or_right (has_number new o) (o == o) (eq-eqb o o refl))) ∙ ap not (and_false (is_gone gone o)))
  where
    within : o < t.geometry.blocks
    within = subst (λ n. o < n) tables.raw.laid_out.each_block (live_below (graph_of t live).blocks o is)

-- and then it is
pub hidden_one : (live after : LiveMap) (gone : List Bool) (old new : List ℕ) (o : ℕ) → is_gone gone o ≡ true → has_number new o ≡ false
    → Hides live (λ b. is_gone gone b && not (has_number old b)) → old ≡ new ++ o ∷ [] → after ≡ with_unhidden live (slice_set live.unhidden o false)
    → Hides after (λ b. is_gone gone b && not (has_number new b))
hidden_one live after gone old new o marked out hides last is = subst (λ (m : LiveMap). Hides m (λ b. is_gone gone b && not (has_number new b))) (sym is) each
  where
    each : (b : ℕ) → is_live (slice_set live.unhidden o false) b ≡ (is_live live.live b && not (is_gone gone b && not (has_number new b)))
    each b = elim (cases_eq b o) [
      | inl same ↦ ap (is_live (slice_set live.unhidden o false)) same ∙ (cleared live.unhidden o
          ∙ sym (ap (λ k. is_live live.live k && not (is_gone gone k && not (has_number new k))) same
          ∙ (ap (λ s. is_live live.live o && not (is_gone gone o && not s)) out ∙ (ap (λ s. is_live live.live o && not (s && true)) marked ∙ and_false (is_live live.live o)))))
      | inr other ↦ get_or-set_other live.unhidden o b false false other ∙ (hides b
          ∙ ap (λ s. is_live live.live b && not (is_gone gone b && not s)) (ap (λ xs. has_number xs b) last ∙ (has-push new o b ∙ (ap (λ s. has_number new b || s) (ne_eqb o b (λ e. other (sym e))) ∙ or_false (has_number new b)))))
    ]

-- ---- which blocks are hidden

-- what is told another way
pub hides_as : (live : LiveMap) (p q : ℕ → Bool) → ((b : ℕ) → q b ≡ p b) → Hides live p → Hides live q
hides_as live p q same hides b = hides b ∙ ap (λ s. is_live live.live b && not s) (sym (same b))

-- where none waits, the marked ones
pub none_waits : (gone : List Bool) (waiting : List ℕ) (b : ℕ) → waiting ≡ [] → (is_gone gone b && not (has_number waiting b)) ≡ is_gone gone b
none_waits gone waiting b none = ap (λ xs. is_gone gone b && not (has_number xs b)) none ∙ and_true (is_gone gone b)

-- ---- the settled disk

-- where exactly the doomed blocks are hidden, the map has the live blocks of what the disk settles to
pub unhidden_settled : (t : Table) (live : LiveMap) (k : Kept) → IsAheadOf (graph_of t live) k → Hides live (is_gone k.gone)
    → (b : ℕ) → b < t.geometry.blocks → is_live live.unhidden b ≡ is_live_in (settle (graph_of t live)) b
unhidden_settled t live k ahead hides b within =
    let w = graph_of t live in
    hides b ∙ (ap (λ s. s && not (is_gone k.gone b)) (sym (live_told t live b within)) ∙ (ap (λ s. is_live_in w b && not s) (ahead.told b)
    ∙ (flip (is_live_in w b) (not (has_number (doomed w) b)) ∙ sym (live-settle w b))))
  where
    flip : (s t : Bool) → (s && t) ≡ (t && s)
    flip true true = refl
    flip true false = refl
    flip false true = refl
    flip false false = refl
