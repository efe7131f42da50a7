-- What is read as a request is a body of it, and its body is read as it.
use Rattle.std.proofs.Common.{◌≡◌, ◌≢◌, ◌⊎◌, inl, inr, ℕ, suc, ◌+◌, ◌<◌, ◌≤◌, lit≤, arith, length, true, false, cond, ◌==◌, List, [], ◌∷◌, refl, sym, ◌∙◌, ap, subst, Option, Some, None}
use Rattle.std.specs.Prelude.{nat_le, option_map, unwrap_or}
use Rattle.std.proofs.lemmas.Bool.{eqb-true}
use Rattle.std.proofs.lemmas.List.{length-append}
use Rattle.tsd_model.specs.declared.caps.Shown.TheVariants.{Nothing, Key}
use Rattle.tsd_model.specs.declared.requests.Hint.TheVariants.{Null, At}
use Rattle.tsd_model.specs.declared.caps.CapPair.{CapPair}
use Rattle.tsd_model.specs.declared.caps.Shown.{Shown}
use Rattle.tsd_model.specs.declared.requests.Hint.{Hint}
use Rattle.tsd_model.specs.declared.requests.Request.{Request}
use Rattle.tsd_model.specs.declared.requests.Request.TheVariants as ask
use Rattle.script_text.specs.declared.parsed.Access.{Access}
use Rattle.request_frames.specs.Fields.{Field, Code, Number, Show, New, Near, Rank, Bytes, field_bytes, HasRoomFor, AllFit, bytes_of}
use Rattle.request_frames.specs.Requests.{fields, request_body, IsBody}
use Rattle.request_frames.specs.Reading.{num_of, cap_of, shown_of, hint_of, data_of, ends, ◌>>=◌, access_of, begin_of, end_of, read_of, write_of, alloc_of, contig_of, free_of, create_of, delete_of, set_cap_of, sweep_of, list_of, dispatch, forms, coded, asked, request_of}
use Rattle.request_frames.proofs.FieldLaws.{AreBytes, Spelled, leaves, some_is, bind_is, took, no_more, next, last, bind_some, num_sound, cap_sound, shown_sound, hint_sound, data_sound, num_back, cap_back, shown_back, hint_back, data_back}

-- all that is left is written, where a block may have so many bytes
pub all_written : (p : Access) (bs : List ℕ) → option_map (λ d. ask.Write p.session p.block p.shown d) (cond (nat_le (length bs) 4096) (Some bs) None) ≡ (data_of bs >>= λ d. ends d.1 (ask.Write p.session p.block p.shown d.0))
all_written p bs = elim (nat_le (length bs) 4096) as (λ t. option_map (λ d. ask.Write p.session p.block p.shown d) (cond t (Some bs) None) ≡ (cond t (leaves bs []) None >>= λ d. ends d.1 (ask.Write p.session p.block p.shown d.0))) [
  | true ↦ refl
  | false ↦ refl
]

-- the fields of a place, before others
abbrev pub at_place : Access → List Field → List Field
at_place p fs = Number p.session ∷ Number p.block ∷ Show p.shown ∷ fs

-- a place was read, and whatever the bytes after it spell goes on after its fields
read_place : {B : Type 0} (k : Access × List ℕ → Option B) (bs : List ℕ) (y : B) → AreBytes bs → (access_of bs >>= k) ≡ Some y → (p : Access) × (rest : List ℕ) × AreBytes rest × (k (p, rest) ≡ Some y) × ((fs : List Field) → Spelled fs rest → Spelled (at_place p fs) bs)
unfolding access_of
read_place k bs y all e =
    let o = bind_is (access_of bs) k y e in
    let s = took (λ n. Number n) num_of num_sound _ bs o.0 all o.1 in
    let b = took (λ n. Number n) num_of num_sound _ s.1 o.0 s.4 s.5 in
    let c = took (λ shown. Show shown) shown_of shown_sound _ b.1 o.0 b.4 b.5 in
    let same : (record { session = s.0; block = b.0; shown = c.0 }, c.1) ≡ o.0 = some_is {x = (record { session = s.0; block = b.0; shown = c.0 }, c.1)} c.5 in (
      o.0.0,
      o.0.1,
      subst (λ (x : Access × List ℕ). AreBytes x.1) same c.4,
      o.2,
      subst (λ (x : Access × List ℕ). (fs : List Field) → Spelled fs x.1 → Spelled (at_place x.0 fs) bs) same (λ fs h.
          next (Number s.0) (Number b.0 ∷ Show c.0 ∷ fs) s.1 bs s.2 s.3
          (next (Number b.0) (Show c.0 ∷ fs) b.1 s.1 b.2 b.3
          (next (Show c.0) fs c.1 b.1 c.2 c.3 h))),
    )

-- what is read after the code is spelled by it and the bytes
abbrev pub Asks : ℕ → (List ℕ → Option Request) → Type 0
Asks code form = (bs : List ℕ) (q : Request) → AreBytes bs → form bs ≡ Some q → IsBody (code ∷ bs) q

-- so it is, where the bytes spell the fields after the code
spells : (q r : Request) (code : ℕ) (fs : List Field) (bs : List ℕ) → fields r ≡ Code code ∷ fs → r ≢ ask.Bad → r ≡ q → Spelled fs bs → IsBody (code ∷ bs) q
spells q r code fs bs f some e h = subst (IsBody (code ∷ bs)) e (record {
  some = some;
  fits = subst AllFit (sym f) (tt, h.0);
  spelled = ap (λ xs. code ∷ xs) h.1 ∙ ap bytes_of (sym f);
})

begin_is : Asks 1 begin_of
unfolding begin_of
begin_is bs q all e =
    let s = took (λ n. Number n) num_of num_sound _ bs q all e in
    let end = no_more s.1 _ q s.5 in
    spells q (ask.Begin s.0) 1 (Number s.0 ∷ []) bs refl (λ bad. cc) end.1 (next (Number s.0) [] s.1 bs s.2 s.3 (last s.1 end.0))

end_is : Asks 2 end_of
unfolding end_of
end_is bs q all e =
    let s = took (λ n. Number n) num_of num_sound _ bs q all e in
    let end = no_more s.1 _ q s.5 in
    spells q (ask.End s.0) 2 (Number s.0 ∷ []) bs refl (λ bad. cc) end.1 (next (Number s.0) [] s.1 bs s.2 s.3 (last s.1 end.0))

read_is : Asks 3 read_of
unfolding read_of
read_is bs q all e =
    let p = read_place _ bs q all e in
    let end = no_more p.1 _ q p.3 in
    spells q (ask.Read p.0.session p.0.block p.0.shown) 3 (at_place p.0 []) bs refl (λ bad. cc) end.1 (p.4 [] (last p.1 end.0))

write_is : Asks 4 write_of
unfolding write_of
write_is bs q all e =
    let p = read_place _ bs q all e in
    let d = took (λ bytes. Bytes bytes) data_of data_sound _ p.1 q p.2 p.3 in
    let end = no_more d.1 _ q d.5 in
    spells q (ask.Write p.0.session p.0.block p.0.shown d.0) 4 (at_place p.0 (Bytes d.0 ∷ [])) bs refl (λ bad. cc) end.1 (p.4 (Bytes d.0 ∷ []) (next (Bytes d.0) [] d.1 p.1 d.2 d.3 (last d.1 end.0)))

alloc_is : Asks 5 alloc_of
unfolding alloc_of
alloc_is bs q all e =
    let p = read_place _ bs q all e in
    let near = took (λ hint. Near hint) hint_of hint_sound _ p.1 q p.2 p.3 in
    let n = took (λ n. Number n) num_of num_sound _ near.1 q near.4 near.5 in
    let end = no_more n.1 _ q n.5 in
    spells q (ask.Alloc p.0.session p.0.block p.0.shown near.0 n.0) 5 (at_place p.0 (Near near.0 ∷ Number n.0 ∷ [])) bs refl (λ bad. cc) end.1 (p.4 (Near near.0 ∷ Number n.0 ∷ []) (next (Near near.0) (Number n.0 ∷ []) near.1 p.1 near.2 near.3 (next (Number n.0) [] n.1 near.1 n.2 n.3 (last n.1 end.0))))

contig_is : Asks 6 contig_of
unfolding contig_of
contig_is bs q all e =
    let p = read_place _ bs q all e in
    let near = took (λ hint. Near hint) hint_of hint_sound _ p.1 q p.2 p.3 in
    let n = took (λ n. Number n) num_of num_sound _ near.1 q near.4 near.5 in
    let end = no_more n.1 _ q n.5 in
    spells q (ask.Contig p.0.session p.0.block p.0.shown near.0 n.0) 6 (at_place p.0 (Near near.0 ∷ Number n.0 ∷ [])) bs refl (λ bad. cc) end.1 (p.4 (Near near.0 ∷ Number n.0 ∷ []) (next (Near near.0) (Number n.0 ∷ []) near.1 p.1 near.2 near.3 (next (Number n.0) [] n.1 near.1 n.2 n.3 (last n.1 end.0))))

free_is : Asks 7 free_of
free_is bs q all e =
    let end = no_more bs _ q e in
    spells q ask.GetFree 7 [] bs refl (λ bad. cc) end.1 (last bs end.0)

create_is : Asks 8 create_of
unfolding create_of
create_is bs q all e =
    let p = read_place _ bs q all e in
    let b = took (λ n. Number n) num_of num_sound _ p.1 q p.2 p.3 in
    let end = no_more b.1 _ q b.5 in
    spells q (ask.Create p.0.session p.0.block p.0.shown b.0) 8 (at_place p.0 (Number b.0 ∷ [])) bs refl (λ bad. cc) end.1 (p.4 (Number b.0 ∷ []) (next (Number b.0) [] b.1 p.1 b.2 b.3 (last b.1 end.0)))

delete_is : Asks 9 delete_of
unfolding delete_of
delete_is bs q all e =
    let p = read_place _ bs q all e in
    let b = took (λ n. Number n) num_of num_sound _ p.1 q p.2 p.3 in
    let end = no_more b.1 _ q b.5 in
    spells q (ask.Delete p.0.session p.0.block p.0.shown b.0) 9 (at_place p.0 (Number b.0 ∷ [])) bs refl (λ bad. cc) end.1 (p.4 (Number b.0 ∷ []) (next (Number b.0) [] b.1 p.1 b.2 b.3 (last b.1 end.0)))

set_cap_is : Asks 10 set_cap_of
unfolding set_cap_of
set_cap_is bs q all e =
    let p = read_place _ bs q all e in
    let r = took (λ cap. New cap) cap_of cap_sound _ p.1 q p.2 p.3 in
    let w = took (λ cap. New cap) cap_of cap_sound _ r.1 q r.4 r.5 in
    let end = no_more w.1 _ q w.5 in
    spells q (ask.SetCap p.0.session p.0.block p.0.shown (record { read = r.0; write = w.0 })) 10 (at_place p.0 (New r.0 ∷ New w.0 ∷ [])) bs refl (λ bad. cc) end.1 (p.4 (New r.0 ∷ New w.0 ∷ []) (next (New r.0) (New w.0 ∷ []) r.1 p.1 r.2 r.3 (next (New w.0) [] w.1 r.1 w.2 w.3 (last w.1 end.0))))

sweep_is : Asks 11 sweep_of
unfolding sweep_of
sweep_is bs q all e =
    let s = took (λ n. Number n) num_of num_sound _ bs q all e in
    let c = took (λ shown. Show shown) shown_of shown_sound _ s.1 q s.4 s.5 in
    let end = no_more c.1 _ q c.5 in
    spells q (ask.Sweep s.0 c.0) 11 (Number s.0 ∷ Show c.0 ∷ []) bs refl (λ bad. cc) end.1 (next (Number s.0) (Show c.0 ∷ []) s.1 bs s.2 s.3 (next (Show c.0) [] c.1 s.1 c.2 c.3 (last c.1 end.0)))

list_is : Asks 12 list_of
unfolding list_of
list_is bs q all e =
    let p = read_place _ bs q all e in
    let b = took (λ n. Number n) num_of num_sound _ p.1 q p.2 p.3 in
    let end = no_more b.1 _ q b.5 in
    spells q (ask.List p.0.session p.0.block p.0.shown b.0) 12 (at_place p.0 (Number b.0 ∷ [])) bs refl (λ bad. cc) end.1 (p.4 (Number b.0 ∷ []) (next (Number b.0) [] b.1 p.1 b.2 b.3 (last b.1 end.0)))

abbrev AllAsk : List (ℕ × (List ℕ → Option Request)) → Type 0
AllAsk [] = Unit {0}
AllAsk (f ∷ fs) = Asks f.0 f.1 × AllAsk fs

chosen_is : (fs : List (ℕ × (List ℕ → Option Request))) → AllAsk fs → (code : ℕ) (bs : List ℕ) (q : Request) → AreBytes bs → dispatch fs code bs ≡ Some q → IsBody (code ∷ bs) q
chosen_is [] asks code bs q all e = absurd (cc)
chosen_is (f ∷ fs) asks code bs q all e =
    elim (code == f.0) as (λ t. (code == f.0) ≡ t → cond t (f.1 bs) (dispatch fs code bs) ≡ Some q → IsBody (code ∷ bs) q) [
      | true ↦ λ p g. subst (λ c. IsBody (c ∷ bs) q) (sym (eqb-true code f.0 p)) (asks.0 bs q all g)
      | false ↦ λ p g. chosen_is fs asks.1 code bs q all g
    ] refl e

all_ask : AllAsk forms
all_ask = (begin_is, (end_is, (read_is, (write_is, (alloc_is, (contig_is, (free_is, (create_is, (delete_is, (set_cap_is, (sweep_is, (list_is, tt))))))))))))

asked_is : (body : List ℕ) (q : Request) → AreBytes body → asked body ≡ Some q → IsBody body q
unfolding asked coded
asked_is [] q all e = absurd (cc)
asked_is (b ∷ bs) q all e = chosen_is forms all_ask b bs q (λ i. all (suc i)) e

-- what is read is spelled
pub body_is : (body : List ℕ) → AreBytes body → (request_of body ≡ ask.Bad) ⊎ IsBody body (request_of body)
unfolding request_of
body_is body all = elim (asked body) as (λ o. asked body ≡ o → (unwrap_or o ask.Bad ≡ ask.Bad) ⊎ IsBody body (unwrap_or o ask.Bad)) [
  | None ↦ λ e. inl refl
  | Some q ↦ λ e. inr (asked_is body q all e)
] refl

-- ---- what is spelled is read

place_back : (p : Access) (fs : List Field) → AllFit (at_place p fs) → access_of (bytes_of (at_place p fs)) ≡ Some (p, bytes_of fs)
unfolding access_of
place_back p fs h =
    bind_some _ _ _ _ (num_back p.session (bytes_of (Number p.block ∷ Show p.shown ∷ fs)) h.0)
    (bind_some _ _ _ _ (num_back p.block (bytes_of (Show p.shown ∷ fs)) h.1.0)
    (bind_some _ _ _ _ (shown_back p.shown (bytes_of fs) h.1.1.0) refl))

begin_back : (s : ℕ) → AllFit (fields (ask.Begin s)) → begin_of (bytes_of (Number s ∷ [])) ≡ Some (ask.Begin s)
unfolding begin_of
begin_back s h = bind_some _ _ _ _ (num_back s [] h.1.0) refl

end_back : (s : ℕ) → AllFit (fields (ask.End s)) → end_of (bytes_of (Number s ∷ [])) ≡ Some (ask.End s)
unfolding end_of
end_back s h = bind_some _ _ _ _ (num_back s [] h.1.0) refl

read_back : (s : ℕ) (a : ℕ) (c : Shown) → AllFit (fields (ask.Read s a c)) → read_of (bytes_of (at_place (record { session = s; block = a; shown = c }) ([]))) ≡ Some (ask.Read s a c)
unfolding read_of
read_back s a c h = bind_some _ _ _ _ (place_back (record { session = s; block = a; shown = c }) ([]) h.1) refl

write_back : (s : ℕ) (a : ℕ) (c : Shown) (d : List ℕ) → AllFit (fields (ask.Write s a c d)) → write_of (bytes_of (at_place (record { session = s; block = a; shown = c }) (Bytes d ∷ []))) ≡ Some (ask.Write s a c d)
unfolding write_of
write_back s a c d h = bind_some _ _ _ _ (place_back (record { session = s; block = a; shown = c }) (Bytes d ∷ []) h.1) (bind_some _ _ _ _ (data_back d h.1.1.1.1.0) refl)

alloc_back : (s : ℕ) (a : ℕ) (c : Shown) (near : Hint) (n : ℕ) → AllFit (fields (ask.Alloc s a c near n)) → alloc_of (bytes_of (at_place (record { session = s; block = a; shown = c }) (Near near ∷ Number n ∷ []))) ≡ Some (ask.Alloc s a c near n)
unfolding alloc_of
alloc_back s a c near n h = bind_some _ _ _ _ (place_back (record { session = s; block = a; shown = c }) (Near near ∷ Number n ∷ []) h.1) (bind_some _ _ _ _ (hint_back near (bytes_of (Number n ∷ [])) h.1.1.1.1.0) (bind_some _ _ _ _ (num_back n [] h.1.1.1.1.1.0) refl))

contig_back : (s : ℕ) (a : ℕ) (c : Shown) (near : Hint) (n : ℕ) → AllFit (fields (ask.Contig s a c near n)) → contig_of (bytes_of (at_place (record { session = s; block = a; shown = c }) (Near near ∷ Number n ∷ []))) ≡ Some (ask.Contig s a c near n)
unfolding contig_of
contig_back s a c near n h = bind_some _ _ _ _ (place_back (record { session = s; block = a; shown = c }) (Near near ∷ Number n ∷ []) h.1) (bind_some _ _ _ _ (hint_back near (bytes_of (Number n ∷ [])) h.1.1.1.1.0) (bind_some _ _ _ _ (num_back n [] h.1.1.1.1.1.0) refl))

create_back : (s : ℕ) (a : ℕ) (c : Shown) (b : ℕ) → AllFit (fields (ask.Create s a c b)) → create_of (bytes_of (at_place (record { session = s; block = a; shown = c }) (Number b ∷ []))) ≡ Some (ask.Create s a c b)
unfolding create_of
create_back s a c b h = bind_some _ _ _ _ (place_back (record { session = s; block = a; shown = c }) (Number b ∷ []) h.1) (bind_some _ _ _ _ (num_back b [] h.1.1.1.1.0) refl)

delete_back : (s : ℕ) (a : ℕ) (c : Shown) (b : ℕ) → AllFit (fields (ask.Delete s a c b)) → delete_of (bytes_of (at_place (record { session = s; block = a; shown = c }) (Number b ∷ []))) ≡ Some (ask.Delete s a c b)
unfolding delete_of
delete_back s a c b h = bind_some _ _ _ _ (place_back (record { session = s; block = a; shown = c }) (Number b ∷ []) h.1) (bind_some _ _ _ _ (num_back b [] h.1.1.1.1.0) refl)

set_cap_back : (s a : ℕ) (c : Shown) (caps : CapPair) → AllFit (fields (ask.SetCap s a c caps)) → set_cap_of (bytes_of (at_place (record { session = s; block = a; shown = c }) (New caps.read ∷ New caps.write ∷ []))) ≡ Some (ask.SetCap s a c caps)
unfolding set_cap_of
set_cap_back s a c caps h = bind_some _ _ _ _ (place_back (record { session = s; block = a; shown = c }) (New caps.read ∷ New caps.write ∷ []) h.1) (bind_some _ _ _ _ (cap_back caps.read (bytes_of (New caps.write ∷ [])) h.1.1.1.1.0) (bind_some _ _ _ _ (cap_back caps.write [] h.1.1.1.1.1.0) refl))

sweep_back : (s : ℕ) (c : Shown) → AllFit (fields (ask.Sweep s c)) → sweep_of (bytes_of (Number s ∷ Show c ∷ [])) ≡ Some (ask.Sweep s c)
unfolding sweep_of
sweep_back s c h = bind_some _ _ _ _ (num_back s (bytes_of (Show c ∷ [])) h.1.0) (bind_some _ _ _ _ (shown_back c [] h.1.1.0) refl)

list_back : (s : ℕ) (a : ℕ) (c : Shown) (b : ℕ) → AllFit (fields (ask.List s a c b)) → list_of (bytes_of (at_place (record { session = s; block = a; shown = c }) (Number b ∷ []))) ≡ Some (ask.List s a c b)
unfolding list_of
list_back s a c b h = bind_some _ _ _ _ (place_back (record { session = s; block = a; shown = c }) (Number b ∷ []) h.1) (bind_some _ _ _ _ (num_back b [] h.1.1.1.1.0) refl)

free_back : free_of [] ≡ Some ask.GetFree
free_back = refl

asked_back : (q : Request) → q ≢ ask.Bad → AllFit (fields q) → asked (request_body q) ≡ Some q
unfolding asked coded
asked_back ask.Bad some h = absurd (some refl)
asked_back (ask.Begin s) some h = begin_back s h
asked_back (ask.End s) some h = end_back s h
asked_back (ask.Read s a c) some h = read_back s a c h
asked_back (ask.Write s a c d) some h = write_back s a c d h
asked_back (ask.Alloc s a c near n) some h = alloc_back s a c near n h
asked_back (ask.Contig s a c near n) some h = contig_back s a c near n h
asked_back ask.GetFree some h = free_back
asked_back (ask.Create s a c b) some h = create_back s a c b h
asked_back (ask.Delete s a c b) some h = delete_back s a c b h
asked_back (ask.SetCap s a c caps) some h = set_cap_back s a c caps h
asked_back (ask.Sweep s c) some h = sweep_back s c h
asked_back (ask.List s a c b) some h = list_back s a c b h

-- what is spelled is read
pub body_back : (body : List ℕ) (q : Request) → IsBody body q → request_of body ≡ q
unfolding request_of
body_back body q h = ap (λ bs. unwrap_or (asked bs) ask.Bad) h.spelled ∙ ap (λ o. unwrap_or o ask.Bad) (asked_back q h.some h.fits)

-- ---- how long a body is

-- the most bytes of a field
most : Field → ℕ
most (Code c) = 1
most (Number n) = 4
most (Show shown) = 17
most (New cap) = 16
most (Near hint) = 5
most (Rank l) = 1
most (Bytes bytes) = 4096

-- the most bytes of all
all_most : List Field → ℕ
all_most [] = 0
all_most (f ∷ fs) = most f + all_most fs

field_most : (f : Field) → HasRoomFor f → length (field_bytes f) ≤ most f
unfolding most
field_most (Code c) h = omega arith
field_most (Number n) h = omega arith
field_most (Show Nothing) h = omega arith
field_most (Show (Key cap)) h = omega (arith, h)
field_most (New cap) h = omega (arith, h)
field_most (Near Null) h = omega arith
field_most (Near (At b)) h = omega arith
field_most (Rank l) h = omega arith
field_most (Bytes bytes) h = h

bytes_most : (fs : List Field) → AllFit fs → length (bytes_of fs) ≤ all_most fs
unfolding all_most
bytes_most [] h = omega arith
bytes_most (f ∷ fs) h = omega (arith, length-append (field_bytes f) (bytes_of fs), field_most f h.0, bytes_most fs h.1)

request_most : (q : Request) → all_most (fields q) ≤ 4122
unfolding all_most most
request_most ask.Bad = lit≤ tt
request_most (ask.Begin s) = lit≤ tt
request_most (ask.End s) = lit≤ tt
request_most (ask.Read s b c) = lit≤ tt
request_most (ask.Write s b c bytes) = lit≤ tt
request_most (ask.Alloc s a c hint n) = lit≤ tt
request_most (ask.Contig s a c hint n) = lit≤ tt
request_most ask.GetFree = lit≤ tt
request_most (ask.Create s a c b) = lit≤ tt
request_most (ask.Delete s a c b) = lit≤ tt
request_most (ask.SetCap s b c caps) = lit≤ tt
request_most (ask.Sweep s c) = lit≤ tt
request_most (ask.List s a c start) = lit≤ tt

-- a longer body is no request's
pub long_is_bad : (body : List ℕ) → AreBytes body → 4122 < length body → request_of body ≡ ask.Bad
long_is_bad body all long = elim (body_is body all) [
  | inl bad ↦ bad
  | inr is ↦ absurd (omega (arith, long, ap length is.spelled, bytes_most (fields (request_of body)) is.fits, request_most (request_of body)))
]
