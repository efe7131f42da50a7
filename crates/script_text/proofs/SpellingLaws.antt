-- The words that spell a request are read as it; and the same of whole lines.
use Rattle.std.proofs.Common.{◌≡◌, ◌≢◌, ℕ, ◌<◌, ◌≤◌, Bool, true, false, not, cond, ◌==◌, nat_lt, List, [], ◌∷◌, length, take, refl, sym, ◌∙◌, ap, subst, arith, inl, inr, ◌⊎◌, Option, Some, None, Ok}
use Rattle.std.specs.Prelude.{codes, option_map, unwrap_or}
use Rattle.std.specs.Char.{is_ascii_digit}
use Rattle.std.proofs.lemmas.Bool.{and_parts, and_from, ltb-true, lt-ltb, ltb-false, le-ltb}
use Rattle.std.specs.List.{list_all}
use Rattle.std.proofs.lemmas.Bool.Decides.{nat_tests}
use Rattle.std.proofs.lemmas.List.{length-take}
use Rattle.std.proofs.lemmas.List.Sums.{list_all-from_AllPass}
use Rattle.hex.specs.Hex.{decode_of, is_hex_digit}
use Rattle.hex.proofs.HexLemmas.{decode_of-ok}
use Rattle.tsd_model.specs.declared.caps.Cap.{Cap}
use Rattle.tsd_model.specs.declared.caps.CapPair.{CapPair}
use Rattle.tsd_model.specs.declared.caps.Shown.{Shown}
use Rattle.tsd_model.specs.declared.caps.Shown.TheVariants.{Nothing, Key}
use Rattle.tsd_model.specs.declared.requests.Hint.{Hint}
use Rattle.tsd_model.specs.declared.requests.Hint.TheVariants.{Null, At}
use Rattle.tsd_model.specs.declared.requests.Request.{Request}
use Rattle.tsd_model.specs.declared.requests.Request.TheVariants as ask
use Rattle.script_text.specs.declared.parsed.Access.{Access}
use Rattle.script_text.specs.Pieces.{pieces}
use Rattle.script_text.specs.Reading.{num_of, new_of, shown_of, hint_of, data_of, reads, ends, Words, ◌>>=◌, access_of, begin_of, end_of, read_of, write_of, alloc_of, contig_of, free_of, create_of, delete_of, set_cap_of, sweep_of, list_of, dispatch, forms, named, asked, request_of}
use Rattle.script_text.specs.Grammar.{line_max, held_max, Field, Verb, Number, Show, New, Near, Bytes, fields, IsNumber, IsCapText, IsData, IsField, AreFields, IsLine}
use Rattle.script_text.proofs.PiecesLaws.{take_all, join-pieces, pieces-join, lacks, some_pieces}
use Rattle.script_text.proofs.WordLaws.{are_digits, num_back, new_back, shown_back, hint_back, data_back}
use Rattle.script_text.proofs.ReadingLaws.{at_place, asked_is}

pub bind_some : {A B : Type 0} (o : Option A) (k : A → Option B) (x : A) (y : Option B) → o ≡ Some x → k x ≡ y → (o >>= k) ≡ y
bind_some o k x y e f = ap (λ v. v >>= k) e ∙ f

-- the reader reads the value, and the words that it leaves spell the other fields
abbrev Reads : {A : Type 0} → (Words → Option (A × Words)) → Words → A → List Field → Type 0
Reads {A} reader ws x fs = (rest : Words) × (reader ws ≡ Some (x, rest)) × AreFields fs rest

word_back : {A : Type 0} (f : List ℕ → Option A) (x : A) (field : Field) (fs : List Field) (ws : Words) → ((w : List ℕ) → IsField field w → f w ≡ Some x) → AreFields (field ∷ fs) ws → Reads (reads f) ws x fs
word_back f x field fs [] back h = absurd h
word_back f x field fs (w ∷ ws) back h = (ws, ap (option_map (λ v. (v, ws))) (back w h.0), h.1)

num_next : (n : ℕ) (fs : List Field) (ws : Words) → AreFields (Number n ∷ fs) ws → Reads (reads num_of) ws n fs
num_next n fs ws h = word_back num_of n (Number n) fs ws (λ w g. num_back w n g) h

place_back : (p : Access) (fs : List Field) (ws : Words) → AreFields (at_place p fs) ws → Reads access_of ws p fs
unfolding access_of
place_back p fs ws h =
    let s = num_next p.session (Number p.block ∷ Show p.shown ∷ fs) ws h in
    let b = num_next p.block (Show p.shown ∷ fs) s.0 s.2 in
    let c = word_back shown_of p.shown (Show p.shown) fs b.0 (λ w g. shown_back w p.shown g) b.2 in
    (c.0, bind_some _ _ _ _ s.1 (bind_some _ _ _ _ b.1 (bind_some _ _ _ _ c.1 refl)), c.2)

pub ends_back : {A : Type 0} (ws : Words) (x : A) → AreFields [] ws → ends ws x ≡ Some x
ends_back [] x h = refl
ends_back (w ∷ ws) x h = absurd h

begin_back : (s : ℕ) (ws : Words) → AreFields (fields (ask.Begin s)) (codes "open" ∷ ws) → begin_of ws ≡ Some (ask.Begin s)
unfolding begin_of
begin_back s ws g =
    let s1 = num_next s [] ws g.1 in
    bind_some _ _ _ _ s1.1 (ends_back s1.0 _ s1.2)

end_back : (s : ℕ) (ws : Words) → AreFields (fields (ask.End s)) (codes "close" ∷ ws) → end_of ws ≡ Some (ask.End s)
unfolding end_of
end_back s ws g =
    let s1 = num_next s [] ws g.1 in
    bind_some _ _ _ _ s1.1 (ends_back s1.0 _ s1.2)

read_back : (s : ℕ) (b : ℕ) (c : Shown) (ws : Words) → AreFields (fields (ask.Read s b c)) (codes "read" ∷ ws) → read_of ws ≡ Some (ask.Read s b c)
unfolding read_of
read_back s b c ws g =
    let p = place_back (record { session = s; block = b; shown = c }) [] ws g.1 in
    bind_some _ _ _ _ p.1 (ends_back p.0 _ p.2)

write_back : (s : ℕ) (b : ℕ) (c : Shown) (x : List ℕ) (ws : Words) → AreFields (fields (ask.Write s b c x)) (codes "write" ∷ ws) → write_of ws ≡ Some (ask.Write s b c x)
unfolding write_of
write_back s b c x ws g =
    let p = place_back (record { session = s; block = b; shown = c }) (Bytes x ∷ []) ws g.1 in
    let x1 = word_back data_of x (Bytes x) [] p.0 (λ w g. data_back w x g) p.2 in
    bind_some _ _ _ _ p.1 (bind_some _ _ _ _ x1.1 (ends_back x1.0 _ x1.2))

alloc_back : (s : ℕ) (b : ℕ) (c : Shown) (h : Hint) (n : ℕ) (ws : Words) → AreFields (fields (ask.Alloc s b c h n)) (codes "alloc" ∷ ws) → alloc_of ws ≡ Some (ask.Alloc s b c h n)
unfolding alloc_of
alloc_back s b c h n ws g =
    let p = place_back (record { session = s; block = b; shown = c }) (Near h ∷ Number n ∷ []) ws g.1 in
    let h1 = word_back hint_of h (Near h) (Number n ∷ []) p.0 (λ w g. hint_back w h g) p.2 in
    let n1 = num_next n [] h1.0 h1.2 in
    bind_some _ _ _ _ p.1 (bind_some _ _ _ _ h1.1 (bind_some _ _ _ _ n1.1 (ends_back n1.0 _ n1.2)))

contig_back : (s : ℕ) (b : ℕ) (c : Shown) (h : Hint) (n : ℕ) (ws : Words) → AreFields (fields (ask.Contig s b c h n)) (codes "contig" ∷ ws) → contig_of ws ≡ Some (ask.Contig s b c h n)
unfolding contig_of
contig_back s b c h n ws g =
    let p = place_back (record { session = s; block = b; shown = c }) (Near h ∷ Number n ∷ []) ws g.1 in
    let h1 = word_back hint_of h (Near h) (Number n ∷ []) p.0 (λ w g. hint_back w h g) p.2 in
    let n1 = num_next n [] h1.0 h1.2 in
    bind_some _ _ _ _ p.1 (bind_some _ _ _ _ h1.1 (bind_some _ _ _ _ n1.1 (ends_back n1.0 _ n1.2)))

free_back : (ws : Words) → AreFields (fields ask.GetFree) (codes "free" ∷ ws) → free_of ws ≡ Some ask.GetFree
free_back ws g =
    ends_back ws _ g.1

create_back : (s : ℕ) (b : ℕ) (c : Shown) (n : ℕ) (ws : Words) → AreFields (fields (ask.Create s b c n)) (codes "create" ∷ ws) → create_of ws ≡ Some (ask.Create s b c n)
unfolding create_of
create_back s b c n ws g =
    let p = place_back (record { session = s; block = b; shown = c }) (Number n ∷ []) ws g.1 in
    let n1 = num_next n [] p.0 p.2 in
    bind_some _ _ _ _ p.1 (bind_some _ _ _ _ n1.1 (ends_back n1.0 _ n1.2))

delete_back : (s : ℕ) (b : ℕ) (c : Shown) (n : ℕ) (ws : Words) → AreFields (fields (ask.Delete s b c n)) (codes "delete" ∷ ws) → delete_of ws ≡ Some (ask.Delete s b c n)
unfolding delete_of
delete_back s b c n ws g =
    let p = place_back (record { session = s; block = b; shown = c }) (Number n ∷ []) ws g.1 in
    let n1 = num_next n [] p.0 p.2 in
    bind_some _ _ _ _ p.1 (bind_some _ _ _ _ n1.1 (ends_back n1.0 _ n1.2))

set_cap_back : (s : ℕ) (b : ℕ) (c : Shown) (caps : CapPair) (ws : Words) → AreFields (fields (ask.SetCap s b c caps)) (codes "setcap" ∷ ws) → set_cap_of ws ≡ Some (ask.SetCap s b c caps)
unfolding set_cap_of
set_cap_back s b c caps ws g =
    let p = place_back (record { session = s; block = b; shown = c }) (New caps.read ∷ New caps.write ∷ []) ws g.1 in
    let r1 = word_back new_of caps.read (New caps.read) (New caps.write ∷ []) p.0 (λ w g. new_back w caps.read g) p.2 in
    let w1 = word_back new_of caps.write (New caps.write) [] r1.0 (λ w g. new_back w caps.write g) r1.2 in
    bind_some _ _ _ _ p.1 (bind_some _ _ _ _ r1.1 (bind_some _ _ _ _ w1.1 (ends_back w1.0 _ w1.2)))

sweep_back : (s : ℕ) (c : Shown) (ws : Words) → AreFields (fields (ask.Sweep s c)) (codes "sweep" ∷ ws) → sweep_of ws ≡ Some (ask.Sweep s c)
unfolding sweep_of
sweep_back s c ws g =
    let s1 = num_next s (Show c ∷ []) ws g.1 in
    let c1 = word_back shown_of c (Show c) [] s1.0 (λ w g. shown_back w c g) s1.2 in
    bind_some _ _ _ _ s1.1 (bind_some _ _ _ _ c1.1 (ends_back c1.0 _ c1.2))

list_back : (s : ℕ) (b : ℕ) (c : Shown) (n : ℕ) (ws : Words) → AreFields (fields (ask.List s b c n)) (codes "list" ∷ ws) → list_of ws ≡ Some (ask.List s b c n)
unfolding list_of
list_back s b c n ws g =
    let p = place_back (record { session = s; block = b; shown = c }) (Number n ∷ []) ws g.1 in
    let n1 = num_next n [] p.0 p.2 in
    bind_some _ _ _ _ p.1 (bind_some _ _ _ _ n1.1 (ends_back n1.0 _ n1.2))

under_name : (name v : List ℕ) (ws : Words) (q : Request) → v ≡ name → dispatch forms name ws ≡ Some q → asked (v ∷ ws) ≡ Some q
unfolding asked named
under_name name v ws q e f = ap (λ w. dispatch forms w ws) e ∙ f

asked_back : (q : Request) (ws : Words) → 1 ≤ length ws → AreFields (fields q) ws → asked ws ≡ Some q
asked_back q [] some h = absurd (omega (arith, some))
asked_back (ask.Begin s) (v ∷ ws) some g = under_name (codes "open") v ws (ask.Begin s) g.0 (begin_back s ws (refl, g.1))
asked_back (ask.End s) (v ∷ ws) some g = under_name (codes "close") v ws (ask.End s) g.0 (end_back s ws (refl, g.1))
asked_back (ask.Read s b c) (v ∷ ws) some g = under_name (codes "read") v ws (ask.Read s b c) g.0 (read_back s b c ws (refl, g.1))
asked_back (ask.Write s b c x) (v ∷ ws) some g = under_name (codes "write") v ws (ask.Write s b c x) g.0 (write_back s b c x ws (refl, g.1))
asked_back (ask.Alloc s b c h n) (v ∷ ws) some g = under_name (codes "alloc") v ws (ask.Alloc s b c h n) g.0 (alloc_back s b c h n ws (refl, g.1))
asked_back (ask.Contig s b c h n) (v ∷ ws) some g = under_name (codes "contig") v ws (ask.Contig s b c h n) g.0 (contig_back s b c h n ws (refl, g.1))
asked_back ask.GetFree (v ∷ ws) some g = under_name (codes "free") v ws ask.GetFree g.0 (free_back ws (refl, g.1))
asked_back (ask.Create s b c n) (v ∷ ws) some g = under_name (codes "create") v ws (ask.Create s b c n) g.0 (create_back s b c n ws (refl, g.1))
asked_back (ask.Delete s b c n) (v ∷ ws) some g = under_name (codes "delete") v ws (ask.Delete s b c n) g.0 (delete_back s b c n ws (refl, g.1))
asked_back (ask.SetCap s b c caps) (v ∷ ws) some g = under_name (codes "setcap") v ws (ask.SetCap s b c caps) g.0 (set_cap_back s b c caps ws (refl, g.1))
asked_back (ask.Sweep s c) (v ∷ ws) some g = under_name (codes "sweep") v ws (ask.Sweep s c) g.0 (sweep_back s c ws (refl, g.1))
asked_back (ask.List s b c n) (v ∷ ws) some g = under_name (codes "list") v ws (ask.List s b c n) g.0 (list_back s b c n ws (refl, g.1))
asked_back ask.Bad (v ∷ ws) some h = absurd h

-- ---- no word has a space in it

-- what each passes, each passes that asks less
pub weaker : {A : Type 0} (p q : A → Bool) → ((x : A) → p x ≡ true → q x ≡ true) → (xs : List A) → list_all p xs ≡ true → list_all q xs ≡ true
weaker p q h [] a = refl
weaker p q h (x ∷ xs) a = let parts = and_parts (p x) (list_all p xs) a in and_from (q x) (list_all q xs) (h x parts.0) (weaker p q h xs parts.1)

digit_no_space : (x : ℕ) → is_ascii_digit x ≡ true → not (x == 32) ≡ true
digit_no_space x h = grind (arith, nat_tests)

hex_no_space : (x : ℕ) → is_hex_digit x ≡ true → not (x == 32) ≡ true
hex_no_space x h = grind (arith, nat_tests)

hex_lacks : (w bytes : List ℕ) → decode_of w ≡ Ok bytes → lacks 32 w ≡ true
hex_lacks w bytes e = weaker is_hex_digit (λ b. not (b == 32)) hex_no_space w (list_all-from_AllPass is_hex_digit w (decode_of-ok w bytes e).1)

name_lacks : Field → Bool
name_lacks (Verb name) = lacks 32 name
name_lacks f = true

new_lacks : (w : List ℕ) (cap : Cap) → IsCapText w cap → lacks 32 w ≡ true
new_lacks w cap h = hex_lacks w cap.bytes h.1

num_lacks : (w : List ℕ) (n : ℕ) → IsNumber w n → lacks 32 w ≡ true
num_lacks w n h = weaker is_ascii_digit (λ b. not (b == 32)) digit_no_space w (are_digits w h.digits.1)

dash_lacks : (w : List ℕ) → w ≡ codes "-" → lacks 32 w ≡ true
dash_lacks w h = subst (λ v. lacks 32 v ≡ true) (sym h) refl

pub data_lacks : (w bytes : List ℕ) → IsData w bytes → lacks 32 w ≡ true
data_lacks w bytes h = elim h [ inl none ↦ dash_lacks w none.0 | inr digits ↦ hex_lacks w bytes digits.2 ]

field_lacks : (f : Field) (w : List ℕ) → name_lacks f ≡ true → IsField f w → lacks 32 w ≡ true
unfolding name_lacks
field_lacks (Verb name) w n h = subst (λ v. lacks 32 v ≡ true) (sym h) n
field_lacks (Number m) w n h = num_lacks w m h
field_lacks (Show Nothing) w n h = dash_lacks w h
field_lacks (Show (Key cap)) w n h = new_lacks w cap h
field_lacks (New cap) w n h = new_lacks w cap h
field_lacks (Near Null) w n h = dash_lacks w h
field_lacks (Near (At b)) w n h = num_lacks w b h
field_lacks (Bytes bytes) w n h = data_lacks w bytes h

all_lack : (fs : List Field) (ws : Words) → list_all name_lacks fs ≡ true → AreFields fs ws → list_all (lacks 32) ws ≡ true
all_lack [] [] n h = refl
all_lack [] (w ∷ ws) n h = absurd h
all_lack (f ∷ fs) [] n h = absurd h
all_lack (f ∷ fs) (w ∷ ws) n h = let parts = and_parts (name_lacks f) (list_all name_lacks fs) n in
    and_from (lacks 32 w) (list_all (lacks 32) ws) (field_lacks f w parts.0 h.0) (all_lack fs ws parts.1 h.1)

names_lack : (q : Request) → list_all name_lacks (fields q) ≡ true
unfolding name_lacks
names_lack ask.Bad = refl
names_lack (ask.Begin s) = refl
names_lack (ask.End s) = refl
names_lack (ask.Read s b c) = refl
names_lack (ask.Write s b c x) = refl
names_lack (ask.Alloc s b c h n) = refl
names_lack (ask.Contig s b c h n) = refl
names_lack ask.GetFree = refl
names_lack (ask.Create s b c n) = refl
names_lack (ask.Delete s b c n) = refl
names_lack (ask.SetCap s b c caps) = refl
names_lack (ask.Sweep s c) = refl
names_lack (ask.List s b c n) = refl

-- ---- lines

-- what is read is spelled so
pub line_is : (line : List ℕ) → (request_of line ≡ ask.Bad) ⊎ IsLine line (request_of line)
unfolding request_of
line_is line =
    elim (nat_lt line_max (length line)) as (λ t. nat_lt line_max (length line) ≡ t → (cond t ask.Bad (unwrap_or (asked (pieces 32 line)) ask.Bad) ≡ ask.Bad) ⊎ IsLine line (cond t ask.Bad (unwrap_or (asked (pieces 32 line)) ask.Bad))) [
      | true ↦ λ e. inl refl
      | false ↦ λ e. elim (asked (pieces 32 line)) as (λ o. asked (pieces 32 line) ≡ o → (unwrap_or o ask.Bad ≡ ask.Bad) ⊎ IsLine line (unwrap_or o ask.Bad)) [
        | None ↦ λ f. inl refl
        | Some q ↦ λ f. inr (record { short = ltb-false line_max (length line) e; words = pieces 32 line; some = some_words (pieces 32 line) (some_pieces 32 line); spelled = asked_is (pieces 32 line) q f; parted = sym (join-pieces 32 line) })
      ] refl
    ] refl
  where
    some_words : (ws : Words) → ws ≢ [] → 1 ≤ length ws
    some_words [] n = absurd (n refl)
    some_words (w ∷ ws) n = omega arith

-- what is spelled is read
pub line_back : (line : List ℕ) (q : Request) → IsLine line q → request_of line ≡ q
unfolding request_of
line_back line q h =
    let cut : pieces 32 line ≡ h.words = ap (pieces 32) h.parted ∙ pieces-join 32 h.words h.some (all_lack (fields q) h.words (names_lack q) h.spelled) in
    ap (λ t. cond t ask.Bad (unwrap_or (asked (pieces 32 line)) ask.Bad)) (le-ltb line_max (length line) h.short)
    ∙ ap (λ o. unwrap_or o ask.Bad) (ap asked cut ∙ asked_back q h.words h.some h.spelled)

-- a line that is cut after `held_max` bytes is as bad as the whole
pub request_of-cut : (l : List ℕ) → request_of (take held_max l) ≡ request_of l
unfolding request_of
request_of-cut l = elim (nat_lt line_max (length l)) as (λ t. nat_lt line_max (length l) ≡ t → cond (nat_lt line_max (length (take held_max l))) ask.Bad (unwrap_or (asked (pieces 32 (take held_max l))) ask.Bad) ≡ cond t ask.Bad (unwrap_or (asked (pieces 32 l)) ask.Bad)) [
  | true ↦ λ e. let long : line_max < length (take held_max l) = omega (arith, length-take held_max l, ltb-true line_max (length l) e) in
      ap (λ t. cond t ask.Bad (unwrap_or (asked (pieces 32 (take held_max l))) ask.Bad)) (lt-ltb line_max (length (take held_max l)) long)
  | false ↦ λ e. let short : length l ≤ held_max = omega (arith, ltb-false line_max (length l) e) in
      ap (λ m. cond (nat_lt line_max (length m)) ask.Bad (unwrap_or (asked (pieces 32 m)) ask.Bad)) (take_all l held_max short) ∙ ap (λ t. cond t ask.Bad (unwrap_or (asked (pieces 32 l)) ask.Bad)) e
] refl
