-- Requests handed out of bytes that are held.
use Rattle.std.proofs.Common.{◌≡◌, inl, inr, ℕ, Bool, true, false, MatchBool, List, [], ◌∷◌, ◌++◌, refl, sym, ◌∙◌, ap, subst, append_assoc, append-nil}
use Rattle.std.proofs.lemmas.Bool.{cases_Bool}
use Rattle.tsd_words.specs.declared.status.Status.TheVariants as status
use Rattle.serving.specs.Goes.{Handed, Reads, SameCounts}
use Rattle.serving.specs.Ran.{AskedBy}
use Rattle.serving.specs.Input.{Spelling}
use Rattle.serving.specs.declared.intake.Intake.{Intake}
use Rattle.gathering_runs.specs.Turns.{HandsOut}
use Rattle.serving.specs.Input.{completed}

module _ {Q : Type 0} (p : Spelling Q) where
  -- none
  pub hands_none : (fed : List ℕ → Type 0) (i : Intake) → HandsOut p fed fed i i []
  hands_none fed i = record {
    limit = refl;
    over = refl;
    none = λ e. refl;
    reads = λ e bytes before was. subst (λ l. Reads p fed i bytes l) (sym (append-nil before)) was;
  }

  nothing_more : (qs more : List Q) → qs ≡ [] → more ≡ [] → qs ++ more ≡ []
  nothing_more qs more a b = ap (λ l. l ++ more) a ∙ b

  -- some, and then more
  pub hands_then : (fed mid_fed new_fed : List ℕ → Type 0) (i j n : Intake) (qs more : List Q) → HandsOut p fed mid_fed i j qs → HandsOut p mid_fed new_fed j n more → HandsOut p fed new_fed i n (qs ++ more)
  hands_then fed mid_fed new_fed i j n qs more a b = record {
    limit = b.limit ∙ a.limit;
    over = b.over ∙ a.over;
    none = λ e. nothing_more qs more (a.none e) (b.none (a.over ∙ e));
    reads = λ e bytes before was. subst (λ l. Reads p new_fed n bytes l) (append_assoc before qs more) (b.reads (a.over ∙ e) bytes (before ++ qs) (a.reads e bytes before was));
  }

  -- the next one, if one is held
  pub hands_held : (fed new_fed : List ℕ → Type 0) (i j : Intake) (b : Bool) (q : Q) → SameCounts i j → j.over ≡ i.over → (i.over ≡ true → b ≡ false)
      → (i.over ≡ false → (bytes : List ℕ) (qs : List Q) → Reads p fed i bytes qs → Reads p new_fed j bytes (qs ++ completed b q)) → HandsOut p fed new_fed i j (completed b q)
  hands_held fed new_fed i j b q counts over nothing handed = record { limit = counts.limit; over = over; none = λ e. ap (λ t. completed t q) (nothing e); reads = handed }

-- ---- lists of requests: the first, those behind it, and the one in the room
-- a request more was carried out, and more were handed out
pub behind_first : {Q : Type 0} (first q : Q) (more gone done : List Q) → first ∷ more ≡ gone ++ q ∷ [] → first ∷ (more ++ done) ≡ gone ++ q ∷ done
behind_first first q more gone done same = ap (λ l. l ++ done) same ∙ append_assoc gone (q ∷ []) done

-- and the last of them waits
pub behind_waiting : {Q : Type 0} (first q next : Q) (more gone done : List Q) → first ∷ more ≡ gone ++ q ∷ [] → first ∷ (more ++ (done ++ next ∷ [])) ≡ (gone ++ q ∷ done) ++ next ∷ []
behind_waiting first q next more gone done same = behind_first first q more gone (done ++ next ∷ []) same ∙ sym (append_assoc gone (q ∷ done) (next ∷ []))

-- ---- what was handed out so far, and more
module _ {Q : Type 0} (p : Spelling Q) (fed new_fed : List ℕ → Type 0) (ended : Type 0) (i j : Intake) (bytes : List ℕ) (qs more : List Q) (was : Handed p fed ended i bytes qs) (hands : HandsOut p fed new_fed i j more) where
  none_more : i.over ≡ true → qs ≡ qs ++ more
  none_more e = sym (ap (λ m. qs ++ m) (hands.none e) ∙ append-nil qs)

  over_then : i.over ≡ true → Handed p new_fed ended j bytes (qs ++ more)
  over_then e = subst (λ b. MatchBool b (AskedBy status.Done p j.limit bytes ended (qs ++ more)) (Reads p new_fed j bytes (qs ++ more))) (sym (hands.over ∙ e))
      (subst (λ n. AskedBy status.Done p n bytes ended (qs ++ more)) (sym hands.limit)
      (subst (λ l. AskedBy status.Done p i.limit bytes ended l) (none_more e) (subst (λ b. MatchBool b (AskedBy status.Done p i.limit bytes ended qs) (Reads p fed i bytes qs)) e was)))

  read_then : i.over ≡ false → Handed p new_fed ended j bytes (qs ++ more)
  read_then e = subst (λ b. MatchBool b (AskedBy status.Done p j.limit bytes ended (qs ++ more)) (Reads p new_fed j bytes (qs ++ more))) (sym (hands.over ∙ e))
      (hands.reads e bytes qs (subst (λ b. MatchBool b (AskedBy status.Done p i.limit bytes ended qs) (Reads p fed i bytes qs)) e was))

  pub handed_then : Handed p new_fed ended j bytes (qs ++ more)
  handed_then = elim (cases_Bool i.over) [ inl e ↦ over_then e | inr e ↦ read_then e ]
