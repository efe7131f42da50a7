-- The words that are read as a request spell it.
use Rattle.std.proofs.Common.{◌≡◌, ℕ, true, false, cond, List, [], ◌∷◌, refl, sym, subst, Option, Some, None}
use Rattle.std.specs.Prelude.{codes, bytes_eq, option_map}
use Rattle.std.proofs.lemmas.Slice.Eq.{bytes_eq-Decides}
use Rattle.tsd_model.specs.declared.requests.Request.{Request}
use Rattle.script_text.specs.declared.parsed.Access.{Access}
use Rattle.script_text.specs.Reading.{num_of, new_of, shown_of, hint_of, data_of, reads, ends, Words, ◌>>=◌, access_of, begin_of, end_of, read_of, write_of, alloc_of, contig_of, free_of, create_of, delete_of, set_cap_of, sweep_of, list_of, dispatch, forms, named, asked}
use Rattle.script_text.specs.Grammar.{Field, Number, Show, New, Near, Bytes, fields, IsField, AreFields}
use Rattle.script_text.proofs.WordLaws.{num_is, new_is, shown_is, hint_is, data_is}

bind_is : {A B : Type 0} (o : Option A) (k : A → Option B) (y : B) → (o >>= k) ≡ Some y → (x : A) × (o ≡ Some x) × (k x ≡ Some y)
bind_is None k y e = absurd (cc)
bind_is (Some x) k y e = (x, refl, e)

some_is : {A : Type 0} {x y : A} → Some x ≡ Some y → x ≡ y
some_is e = cc

-- a word was read
pub read_word : {A B : Type 0} (f : List ℕ → Option A) (k : A × Words → Option B) (ws : Words) (y : B) → (reads f ws >>= k) ≡ Some y → (w : List ℕ) × (rest : Words) × (x : A) × (ws ≡ w ∷ rest) × (f w ≡ Some x) × (k (x, rest) ≡ Some y)
read_word f k [] y e = absurd (cc)
read_word {A} {B} f k (w ∷ ws) y e =
    elim (f w) as (λ o. f w ≡ o → (option_map (λ x. (x, ws)) o >>= k) ≡ Some y → (v : List ℕ) × (rest : Words) × (x : A) × (w ∷ ws ≡ v ∷ rest) × (f v ≡ Some x) × (k (x, rest) ≡ Some y)) [
      | None ↦ λ p q. absurd (cc)
      | Some x ↦ λ p q. (w, ws, x, refl, p, q)
    ] refl e

pub no_more : {A : Type 0} (ws : Words) (x y : A) → ends ws x ≡ Some y → (ws ≡ []) × (x ≡ y)
no_more [] x y e = (refl, cc)
no_more (w ∷ ws) x y e = absurd (cc)

-- the first word and the others spell the first field and the others
next : (f : Field) (fs : List Field) (w : List ℕ) (rest ws : Words) → ws ≡ w ∷ rest → IsField f w → AreFields fs rest → AreFields (f ∷ fs) ws
next f fs w rest ws e h more = subst (AreFields (f ∷ fs)) (sym e) (h, more)

last : (ws : Words) → ws ≡ [] → AreFields [] ws
last ws e = subst (AreFields []) (sym e) tt

-- the fields of a place, before others
abbrev pub at_place : Access → List Field → List Field
at_place p fs = Number p.session ∷ Number p.block ∷ Show p.shown ∷ fs

-- a place was read, and whatever the words after it spell goes on after its fields
read_place : {B : Type 0} (k : Access × Words → Option B) (ws : Words) (y : B) → (access_of ws >>= k) ≡ Some y → (p : Access) × (rest : Words) × (k (p, rest) ≡ Some y) × ((fs : List Field) → AreFields fs rest → AreFields (at_place p fs) ws)
unfolding access_of
read_place k ws y e =
    let o = bind_is (access_of ws) k y e in
    let s = read_word num_of _ ws o.0 o.1 in
    let b = read_word num_of _ s.1 o.0 s.5 in
    let c = read_word shown_of _ b.1 o.0 b.5 in
    let same : (record { session = s.2; block = b.2; shown = c.2 }, c.1) ≡ o.0 = some_is c.5 in (
      o.0.0,
      o.0.1,
      o.2,
      subst (λ (x : Access × Words). (fs : List Field) → AreFields fs x.1 → AreFields (at_place x.0 fs) ws) same (λ fs h.
          next (Number s.2) (Number b.2 ∷ Show c.2 ∷ fs) s.0 s.1 ws s.3 (num_is s.0 s.2 s.4)
          (next (Number b.2) (Show c.2 ∷ fs) b.0 b.1 s.1 b.3 (num_is b.0 b.2 b.4)
          (next (Show c.2) fs c.0 c.1 b.1 c.3 (shown_is c.0 c.2 c.4) h))),
    )

-- what these words are read as, they spell after the name
abbrev pub Sound : List ℕ → (Words → Option Request) → Type 0
Sound name form = (ws : Words) (q : Request) → form ws ≡ Some q → AreFields (fields q) (name ∷ ws)

begin_is : Sound (codes "open") begin_of
unfolding begin_of
begin_is ws q e =
    let s = read_word num_of _ ws q e in
    let d = no_more s.1 _ q s.5 in
    subst (λ r. AreFields (fields r) (codes "open" ∷ ws)) d.1 (refl, next (Number s.2) [] s.0 s.1 ws s.3 (num_is s.0 s.2 s.4) (last s.1 d.0))

end_is : Sound (codes "close") end_of
unfolding end_of
end_is ws q e =
    let s = read_word num_of _ ws q e in
    let d = no_more s.1 _ q s.5 in
    subst (λ r. AreFields (fields r) (codes "close" ∷ ws)) d.1 (refl, next (Number s.2) [] s.0 s.1 ws s.3 (num_is s.0 s.2 s.4) (last s.1 d.0))

read_is : Sound (codes "read") read_of
unfolding read_of
read_is ws q e =
    let p = read_place _ ws q e in
    let d = no_more p.1 _ q p.2 in
    subst (λ r. AreFields (fields r) (codes "read" ∷ ws)) d.1 (refl, p.3 [] (last p.1 d.0))

write_is : Sound (codes "write") write_of
unfolding write_of
write_is ws q e =
    let p = read_place _ ws q e in
    let x = read_word data_of _ p.1 q p.2 in
    let d = no_more x.1 _ q x.5 in
    subst (λ r. AreFields (fields r) (codes "write" ∷ ws)) d.1 (refl, p.3 (Bytes x.2 ∷ []) (next (Bytes x.2) [] x.0 x.1 p.1 x.3 (data_is x.0 x.2 x.4) (last x.1 d.0)))

alloc_is : Sound (codes "alloc") alloc_of
unfolding alloc_of
alloc_is ws q e =
    let p = read_place _ ws q e in
    let h = read_word hint_of _ p.1 q p.2 in
    let n = read_word num_of _ h.1 q h.5 in
    let d = no_more n.1 _ q n.5 in
    subst (λ r. AreFields (fields r) (codes "alloc" ∷ ws)) d.1 (refl, p.3 (Near h.2 ∷ Number n.2 ∷ []) (next (Near h.2) (Number n.2 ∷ []) h.0 h.1 p.1 h.3 (hint_is h.0 h.2 h.4) (next (Number n.2) [] n.0 n.1 h.1 n.3 (num_is n.0 n.2 n.4) (last n.1 d.0))))

contig_is : Sound (codes "contig") contig_of
unfolding contig_of
contig_is ws q e =
    let p = read_place _ ws q e in
    let h = read_word hint_of _ p.1 q p.2 in
    let n = read_word num_of _ h.1 q h.5 in
    let d = no_more n.1 _ q n.5 in
    subst (λ r. AreFields (fields r) (codes "contig" ∷ ws)) d.1 (refl, p.3 (Near h.2 ∷ Number n.2 ∷ []) (next (Near h.2) (Number n.2 ∷ []) h.0 h.1 p.1 h.3 (hint_is h.0 h.2 h.4) (next (Number n.2) [] n.0 n.1 h.1 n.3 (num_is n.0 n.2 n.4) (last n.1 d.0))))

free_is : Sound (codes "free") free_of
free_is ws q e =
    let d = no_more ws _ q e in
    subst (λ r. AreFields (fields r) (codes "free" ∷ ws)) d.1 (refl, last ws d.0)

create_is : Sound (codes "create") create_of
unfolding create_of
create_is ws q e =
    let p = read_place _ ws q e in
    let n = read_word num_of _ p.1 q p.2 in
    let d = no_more n.1 _ q n.5 in
    subst (λ r. AreFields (fields r) (codes "create" ∷ ws)) d.1 (refl, p.3 (Number n.2 ∷ []) (next (Number n.2) [] n.0 n.1 p.1 n.3 (num_is n.0 n.2 n.4) (last n.1 d.0)))

delete_is : Sound (codes "delete") delete_of
unfolding delete_of
delete_is ws q e =
    let p = read_place _ ws q e in
    let n = read_word num_of _ p.1 q p.2 in
    let d = no_more n.1 _ q n.5 in
    subst (λ r. AreFields (fields r) (codes "delete" ∷ ws)) d.1 (refl, p.3 (Number n.2 ∷ []) (next (Number n.2) [] n.0 n.1 p.1 n.3 (num_is n.0 n.2 n.4) (last n.1 d.0)))

set_cap_is : Sound (codes "setcap") set_cap_of
unfolding set_cap_of
set_cap_is ws q e =
    let p = read_place _ ws q e in
    let r = read_word new_of _ p.1 q p.2 in
    let w = read_word new_of _ r.1 q r.5 in
    let d = no_more w.1 _ q w.5 in
    subst (λ r. AreFields (fields r) (codes "setcap" ∷ ws)) d.1 (refl, p.3 (New r.2 ∷ New w.2 ∷ []) (next (New r.2) (New w.2 ∷ []) r.0 r.1 p.1 r.3 (new_is r.0 r.2 r.4) (next (New w.2) [] w.0 w.1 r.1 w.3 (new_is w.0 w.2 w.4) (last w.1 d.0))))

sweep_is : Sound (codes "sweep") sweep_of
unfolding sweep_of
sweep_is ws q e =
    let s = read_word num_of _ ws q e in
    let c = read_word shown_of _ s.1 q s.5 in
    let d = no_more c.1 _ q c.5 in
    subst (λ r. AreFields (fields r) (codes "sweep" ∷ ws)) d.1 (refl, next (Number s.2) (Show c.2 ∷ []) s.0 s.1 ws s.3 (num_is s.0 s.2 s.4) (next (Show c.2) [] c.0 c.1 s.1 c.3 (shown_is c.0 c.2 c.4) (last c.1 d.0)))

list_is : Sound (codes "list") list_of
unfolding list_of
list_is ws q e =
    let p = read_place _ ws q e in
    let n = read_word num_of _ p.1 q p.2 in
    let d = no_more n.1 _ q n.5 in
    subst (λ r. AreFields (fields r) (codes "list" ∷ ws)) d.1 (refl, p.3 (Number n.2 ∷ []) (next (Number n.2) [] n.0 n.1 p.1 n.3 (num_is n.0 n.2 n.4) (last n.1 d.0)))

abbrev AllSound : List (List ℕ × (Words → Option Request)) → Type 0
AllSound [] = Unit {0}
AllSound (f ∷ fs) = Sound f.0 f.1 × AllSound fs

chosen_is : (fs : List (List ℕ × (Words → Option Request))) → AllSound fs → (w : List ℕ) (ws : Words) (q : Request) → dispatch fs w ws ≡ Some q → AreFields (fields q) (w ∷ ws)
chosen_is [] all w ws q e = absurd (cc)
chosen_is (f ∷ fs) all w ws q e =
    elim (bytes_eq w f.0) as (λ t. bytes_eq w f.0 ≡ t → cond t (f.1 ws) (dispatch fs w ws) ≡ Some q → AreFields (fields q) (w ∷ ws)) [
      | true ↦ λ p g. subst (λ v. AreFields (fields q) (v ∷ ws)) (sym ((bytes_eq-Decides w f.0).0 p)) (all.0 ws q g)
      | false ↦ λ p g. chosen_is fs all.1 w ws q g
    ] refl e

all_sound : AllSound forms
all_sound = (begin_is, (end_is, (read_is, (write_is, (alloc_is, (contig_is, (free_is, (create_is, (delete_is, (set_cap_is, (sweep_is, (list_is, tt))))))))))))

pub asked_is : (ws : Words) (q : Request) → asked ws ≡ Some q → AreFields (fields q) ws
unfolding asked named
asked_is [] q e = absurd (cc)
asked_is (w ∷ ws) q e = chosen_is forms all_sound w ws q e
