-- One event more.
use Rattle.std.specs.Global.{Box, Vec}
use Rattle.std.proofs.Common.{◌≡◌, ◌≢◌, ◌⊎◌, inl, inr, ⊎_elim, ℕ, zero, suc, ◌≤◌, true, false, cond, ◌==◌, ◌||◌, List, [], ◌∷◌, ◌++◌, length, refl, sym, ◌∙◌, ap, subst, arith, length-append}
use Rattle.std.proofs.lemmas.Bool.Decides.{nat_tests}
use Rattle.std.proofs.lemmas.List.{append-nil}
use Rattle.image_device.specs.declared.event.Event.{Event}
use Rattle.image_device.specs.declared.event.Event.TheVariants.{Write, Sync, Put, Poke}
use Rattle.image_device.specs.Image.{Image}
use Rattle.image_device.specs.View.{View, IsLeftNow, IsLeftWithin, IsLeftInPut}
use Rattle.image_device.specs.Calls.{Elapses, Includes, Rests, Touches, Settles, Appends}
use Rattle.image_device.specs.History.{HistoryState, step, after, IsNow, IsDuring, Had, HadSince}
use Rattle.image_device.specs.Laws.{counts_now}
use Rattle.image_device.specs.MemStation.{history_view}
use Rattle.image_device.proofs.Sets.{or_false_left, or_false_right}

pub after_push : (es : List Event) (s : HistoryState) (e : Event) → after (es ++ e ∷ []) s ≡ step (after es s) e
after_push [] s e = refl
after_push (d ∷ es) s e = after_push es (step s d) e

-- A station began as s' now, which is s, and its record is this now.
module _ (s s' : HistoryState) (es new : List Event) (start : s' ≡ s) where
  -- nothing was recorded
  pub after_same : new ≡ es → after new s' ≡ after es s
  after_same is i = after (is i) (start i)

  -- one event was
  pub after_one : (e : Event) → new ≡ es ++ e ∷ [] → after new s' ≡ step (after es s) e
  after_one e is = (λ i. after (is i) (start i)) ∙ after_push es s e

-- what a crash left before counts
had_keeps : (es : List Event) (s : HistoryState) (e : Event) (x : Image) (f : List ℕ) → ((x : Image) (f : List ℕ) → IsNow (after es s) x f → IsDuring (after es s) e x f)
    → Had es s x f → Had (es ++ e ∷ []) s x f
had_keeps [] s e x f begins now = inl (begins x f now)
had_keeps (d ∷ es) s e x f begins (inl here) = inl here
had_keeps (d ∷ es) s e x f begins (inr later) = inr (had_keeps es (step s d) e x f begins later)

-- nothing else does but what is left inside the new event and after it
had_more : (es : List Event) (s : HistoryState) (e : Event) (x : Image) (f : List ℕ) → Had (es ++ e ∷ []) s x f → Had es s x f ⊎ (IsDuring (after es s) e x f ⊎ IsNow (step (after es s) e) x f)
had_more [] s e x f (inl here) = inr (inl here)
had_more [] s e x f (inr now) = inr (inr now)
had_more (d ∷ es) s e x f (inl here) = inl (inl here)
had_more (d ∷ es) s e x f (inr later) = ⊎_elim (λ had. inl (inr had)) inr (had_more es (step s d) e x f later)

had_inside : (es : List Event) (s : HistoryState) (e : Event) (x : Image) (f : List ℕ) → IsDuring (after es s) e x f → Had (es ++ e ∷ []) s x f
had_inside [] s e x f during = inl during
had_inside (d ∷ es) s e x f during = inr (had_inside es (step s d) e x f during)

-- the same since a moment
keeps : (t : ℕ) (es : List Event) (s : HistoryState) (e : Event) (x : Image) (f : List ℕ) → ((x : Image) (f : List ℕ) → IsNow (after es s) x f → IsDuring (after es s) e x f) → t ≤ length es
    → HadSince t es s x f → HadSince t (es ++ e ∷ []) s x f
keeps zero es s e x f begins le had = had_keeps es s e x f begins had
keeps (suc t) [] s e x f begins le had = absurd (omega arith)
keeps (suc t) (d ∷ es) s e x f begins le had = keeps t es (step s d) e x f begins (omega arith) had

more : (t : ℕ) (es : List Event) (s : HistoryState) (e : Event) (x : Image) (f : List ℕ) → t ≤ length es
    → HadSince t (es ++ e ∷ []) s x f → HadSince t es s x f ⊎ (IsDuring (after es s) e x f ⊎ IsNow (step (after es s) e) x f)
more zero es s e x f le had = had_more es s e x f had
more (suc t) [] s e x f le had = absurd (omega arith)
more (suc t) (d ∷ es) s e x f le had = more t es (step s d) e x f (omega arith) had

inside : (t : ℕ) (es : List Event) (s : HistoryState) (e : Event) (x : Image) (f : List ℕ) → t ≤ length es → IsDuring (after es s) e x f → HadSince t (es ++ e ∷ []) s x f
inside zero es s e x f le during = had_inside es s e x f during
inside (suc t) [] s e x f le during = absurd (omega arith)
inside (suc t) (d ∷ es) s e x f le during = inside t es (step s d) e x f (omega arith) during

-- A station began as s, and es came since. Its counts are a, b and c before a call, and a', b' and c' after it.
module _ (s : HistoryState) (es : List Event) (a b c a' b' c' : ℕ) where
  -- it began as s, whichever way that is said
  began : (P : View → Type 0) (s' : HistoryState) (new : List Event) → s' ≡ s → P (history_view s new a' b' c') → P (history_view s' new a' b' c')
  began P s' new same p = subst (λ (z : HistoryState). P (history_view z new a' b' c')) (sym same) p

  elapses_push : (e : Event) → ((x : Image) (f : List ℕ) → IsNow (after es s) x f → IsDuring (after es s) e x f)
      → ((x : Image) (f : List ℕ) → IsNow (step (after es s) e) x f → IsDuring (after es s) e x f)
      → Elapses (history_view s es a b c) (history_view s (es ++ e ∷ []) a' b' c') (IsDuring (after es s) e)
  elapses_push e begins ends = record {
    later = omega (arith, length-append es (e ∷ []));
    nothing_else = λ t x f le left. ⊎_elim inl (λ new. inr (⊎_elim (λ during. during) (ends x f) new)) (more t es s e x f le left);
    keeps = λ t x f le left. keeps t es s e x f begins le left;
  }

  elapses_same : (P : Image → List ℕ → Type 0) → Elapses (history_view s es a b c) (history_view s es a' b' c') P
  elapses_same P = record { later = omega arith; nothing_else = λ t x f le left. inl left; keeps = λ t x f le left. left }

  -- a call that records nothing
  module _ (s' : HistoryState) (start : s' ≡ s) (new : List Event) (is : new ≡ es) where
    moved : (P : View → Type 0) → P (history_view s es a' b' c') → P (history_view s' new a' b' c')
    moved P p = began P s' new start (subst (λ l. P (history_view s l a' b' c')) (sym is) p)

    pub rests : Rests (history_view s es a b c) (history_view s' new a' b' c')
    rests = moved (λ v. Rests (history_view s es a b c) v) (record { reads = refl; loose = refl; sent = refl; time = elapses_same (IsLeftNow (history_view s es a b c)) })

    pub elapses_not : Elapses (history_view s es a b c) (history_view s' new a' b' c') (IsLeftNow (history_view s' new a' b' c'))
    elapses_not = moved (λ v. Elapses (history_view s es a b c) v (IsLeftNow v)) (elapses_same (IsLeftNow (history_view s es a' b' c')))

    pub touches_not : (sector : ℕ) → Touches sector (history_view s es a b c) (history_view s' new a' b' c')
    touches_not sector = moved (λ v. Touches sector (history_view s es a b c) v)
        (record { reads = λ n h. refl; loose = λ n h. refl; sent = refl; time = elapses_same (IsLeftWithin (λ n. n == sector) (history_view s es a b c)) })

    pub settles_not : Settles (history_view s es a b c) (history_view s' new a' b' c')
    settles_not = moved (λ v. Settles (history_view s es a b c) v) (record { reads = refl; loose = λ n h. h; sent = refl; time = elapses_same (IsLeftNow (history_view s es a b c)) })

    pub appends_not : (piece : List ℕ) → Appends piece (history_view s es a b c) (history_view s' new a' b' c')
    appends_not piece = moved (λ v. Appends piece (history_view s es a b c) v) (record { reads = refl; loose = refl; time = elapses_same (IsLeftInPut piece (history_view s es a b c)) })

  -- a sync that is done
  settles_at : Settles (history_view s es a b c) (history_view s (es ++ Sync ∷ []) a' b' c')
  settles_at = record {
    reads = ap (λ z. z.reads) (after_push es s Sync);
    loose = λ n h. ap (λ z. z.loose n) (after_push es s Sync);
    sent = ap (λ z. z.sent) (after_push es s Sync);
    time = elapses_push Sync (λ x f now. now) (λ x f now. (record { agrees = λ n h. now.0.agrees n refl; whole = now.0.whole }, now.1));
  }

  pub settles : (s' : HistoryState) → s' ≡ s → (new : List Event) → new ≡ es ++ Sync ∷ [] → Settles (history_view s es a b c) (history_view s' new a' b' c')
  settles s' start new is = began (λ v. Settles (history_view s es a b c) v) s' new start (subst (λ l. Settles (history_view s es a b c) (history_view s l a' b' c')) (sym is) settles_at)

  -- a write that is done
  module _ (sector : ℕ) (box : Box (List ℕ)) where
    differs : (n : ℕ) → n ≢ sector → (n == sector) ≡ false
    differs n h = grind (arith, nat_tests)

    is_same : (sector == sector) ≡ true
    is_same = grind (arith, nat_tests)

    touches_at : Touches sector (history_view s es a b c) (history_view s (es ++ Write sector box ∷ []) a' b' c')
    touches_at = record {
      reads = λ n h. ap (λ z. z.reads n) (after_push es s (Write sector box)) ∙ ap (λ t. cond t box.value ((after es s).reads n)) (differs n h);
      loose = λ n h. ap (λ z. z.loose n) (after_push es s (Write sector box)) ∙ ap (λ t. t || (after es s).loose n) (differs n h);
      sent = ap (λ z. z.sent) (after_push es s (Write sector box));
      time = elapses_push (Write sector box) begins ends;
    }
      where
        begins : (x : Image) (f : List ℕ) → IsNow (after es s) x f → IsDuring (after es s) (Write sector box) x f
        begins x f now = (record { agrees = λ n h. now.0.agrees n (or_false_right (n == sector) ((after es s).loose n) h); whole = now.0.whole }, now.1)

        ends : (x : Image) (f : List ℕ) → IsNow (step (after es s) (Write sector box)) x f → IsDuring (after es s) (Write sector box) x f
        ends x f now = (
          record {
            agrees = λ n h. now.0.agrees n h ∙ ap (λ t. cond t box.value ((after es s).reads n)) (or_false_left (n == sector) ((after es s).loose n) h);
            whole = now.0.whole;
          },
          now.1,
        )

    module _ (s' : HistoryState) (start : s' ≡ s) (new : List Event) (is : new ≡ es ++ Write sector box ∷ []) where
      pub touches : Touches sector (history_view s es a b c) (history_view s' new a' b' c')
      touches = began (λ v. Touches sector (history_view s es a b c) v) s' new start (subst (λ l. Touches sector (history_view s es a b c) (history_view s l a' b' c')) (sym is) touches_at)

      pub written : (after new s').reads sector ≡ box.value
      written = ap (λ (z : HistoryState). (after new z).reads sector) start ∙ ap (λ l. (after l s).reads sector) is ∙ ap (λ z. z.reads sector) (after_push es s (Write sector box)) ∙ ap (λ t. cond t box.value ((after es s).reads sector)) is_same

      pub loose : (after new s').loose sector ≡ true
      loose = ap (λ (z : HistoryState). (after new z).loose sector) start ∙ ap (λ l. (after l s).loose sector) is ∙ ap (λ z. z.loose sector) (after_push es s (Write sector box)) ∙ ap (λ t. t || (after es s).loose sector) is_same

  -- a poke that is done
  module _ (sector : ℕ) (box : Box (List ℕ)) where
    pokes_at : Elapses (history_view s es a b c) (history_view s (es ++ Poke sector box ∷ []) a' b' c') (IsLeftNow (history_view s (es ++ Poke sector box ∷ []) a' b' c'))
    pokes_at = record {
      later = omega (arith, length-append es (Poke sector box ∷ []));
      nothing_else = λ t x f le left. ⊎_elim inl (⊎_elim (λ now. inl (counts_now t es s x f now)) (λ now. inr (subst (λ z. IsNow z x f) (sym (after_push es s (Poke sector box))) now))) (more t es s (Poke sector box) x f le left);
      keeps = λ t x f le left. keeps t es s (Poke sector box) x f (λ x f now. now) le left;
    }

    pub pokes : (s' : HistoryState) → s' ≡ s → (new : List Event) → new ≡ es ++ Poke sector box ∷ [] → Elapses (history_view s es a b c) (history_view s' new a' b' c') (IsLeftNow (history_view s' new a' b' c'))
    pokes s' start new is = began (λ v. Elapses (history_view s es a b c) v (IsLeftNow v)) s' new start
        (subst (λ l. Elapses (history_view s es a b c) (history_view s l a' b' c') (IsLeftNow (history_view s l a' b' c'))) (sym is) pokes_at)

  -- a put that is done
  module _ (piece : Vec ℕ) where
    appends_at : Appends piece.items (history_view s es a b c) (history_view s (es ++ Put piece ∷ []) a' b' c')
    appends_at = record {
      reads = ap (λ z. z.reads) (after_push es s (Put piece));
      loose = ap (λ z. z.loose) (after_push es s (Put piece));
      time = elapses_push (Put piece) begins ends;
    }
      where
        begins : (x : Image) (f : List ℕ) → IsNow (after es s) x f → IsDuring (after es s) (Put piece) x f
        begins x f now = (now.0, record { front = []; back = piece.items; sent = now.1 ∙ sym (append-nil (after es s).sent); whole = refl })

        ends : (x : Image) (f : List ℕ) → IsNow (step (after es s) (Put piece)) x f → IsDuring (after es s) (Put piece) x f
        ends x f now = (now.0, record { front = piece.items; back = []; sent = now.1; whole = sym (append-nil piece.items) })

    includes_at : Includes (history_view s es a b c) (history_view s (es ++ Put piece ∷ []) a' b' c') (IsLeftInPut piece.items (history_view s es a b c))
    includes_at t x f le during = inside t es s (Put piece) x f le during

    module _ (s' : HistoryState) (start : s' ≡ s) (text : List ℕ) (same : piece.items ≡ text) (new : List Event) (is : new ≡ es ++ Put piece ∷ []) where
      pub appends : Appends text (history_view s es a b c) (history_view s' new a' b' c')
      appends = began (λ v. Appends text (history_view s es a b c) v) s' new start
          (subst (λ p. Appends p (history_view s es a b c) (history_view s new a' b' c')) same (subst (λ l. Appends piece.items (history_view s es a b c) (history_view s l a' b' c')) (sym is) appends_at))

      pub includes : Includes (history_view s es a b c) (history_view s' new a' b' c') (IsLeftInPut text (history_view s es a b c))
      includes = began (λ v. Includes (history_view s es a b c) v (IsLeftInPut text (history_view s es a b c))) s' new start
          (subst (λ p. Includes (history_view s es a b c) (history_view s new a' b' c') (IsLeftInPut p (history_view s es a b c))) same (subst (λ l. Includes (history_view s es a b c) (history_view s l a' b' c') (IsLeftInPut piece.items (history_view s es a b c))) (sym is) includes_at))
