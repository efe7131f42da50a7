-- A text that is put piece by piece beside two sides.
use Rattle.std.proofs.Common.{◌≡◌, inl, inr, ⊎_elim, ℕ, ◌+◌, ◌<◌, List, ◌++◌, length, take}
use Rattle.std.proofs.Common.{refl, sym, ◌∙◌, ap, subst, arith, append_assoc, length-append}
use Rattle.std.proofs.Common.{drop, take-append-drop}
use Rattle.std.proofs.Math.Seq.{take-append-add}
use Rattle.image_device.specs.View.{IsPart}
use Rattle.mirror_device.specs.Putting.{SidesSend}
use Rattle.mirror_device.specs.SideCalls.{SidesAppend, SidesPut}
use Rattle.mirror_device.specs.SidesView.{IsItemInPut, IsItemNow, IsSideNow, Item, SideView, SidesView}

-- a part of the rest is a part of the whole
part_of_rest : (before done rest text middle now : List ℕ) → text ≡ done ++ rest → middle ≡ before ++ done
    → IsPart middle rest now → IsPart before text now
part_of_rest before done rest text middle now split sent part = record {
  front = done ++ part.front;
  back = part.back;
  sent = part.sent ∙ ap (λ l. l ++ part.front) sent ∙ append_assoc before done part.front;
  whole = split ∙ ap (λ l. done ++ l) part.whole ∙ sym (append_assoc done part.front part.back);
}

pub split_more : (done rest text : List ℕ) → text ≡ done ++ rest → (t : ℕ)
    → text ≡ (done ++ take t rest) ++ drop t rest
split_more done rest text split t =
    split ∙ ap (λ l. done ++ l) (sym (take-append-drop t rest)) ∙ sym (append_assoc done (take t rest) (drop t rest))

-- none yet
pub sends_none : (text : List ℕ) (v : SidesView) → SidesSend text v v
sends_none text v = record {
  first = refl;
  second = refl;
  later = omega arith;
  nothing_else = λ t i le left. inl left;
  keeps = λ t i le left. left;
}

pub puts_none : (v : SidesView) → SidesPut v v
puts_none v = record {
  clock = omega arith;
  first_faults = refl;
  first_syncs = refl;
  second_faults = refl;
  second_syncs = refl;
  put_faults = omega arith;
}

pub puts_on : (u v w : SidesView) → SidesPut u v → SidesPut v w → SidesPut u w
puts_on u v w a b = record {
  clock = omega (arith, a.clock, b.clock);
  first_faults = b.first_faults ∙ a.first_faults;
  first_syncs = b.first_syncs ∙ a.first_syncs;
  second_faults = b.second_faults ∙ a.second_faults;
  second_syncs = b.second_syncs ∙ a.second_syncs;
  put_faults = omega (arith, a.put_faults, b.put_faults);
}

module _ (v0 v v' : SidesView) (done rest text : List ℕ) (split : text ≡ done ++ rest)
    (sent : v.sent ≡ v0.sent ++ done) where
  -- one put more
  pub sends_on : SidesSend text v0 v → SidesAppend rest v v' → IsPart v.sent rest v'.sent → SidesSend text v0 v'
  sends_on so_far more part = record {
    first = more.first ∙ so_far.first;
    second = more.second ∙ so_far.second;
    later = omega (arith, so_far.later, more.time.later);
    nothing_else = λ t i le left. ⊎_elim
        (so_far.nothing_else t i le)
        (λ new. inr (⊎_elim (inside i) (after i) new))
        (more.time.nothing_else t i (omega (arith, le, so_far.later)) left);
    keeps = λ t i le left. more.time.keeps t i (omega (arith, le, so_far.later)) (so_far.keeps t i le left);
  }
    where
      inside : (i : Item) → IsItemInPut rest v i → IsItemInPut text v0 i
      inside i here = record {
        first = subst (λ (s : SideView). IsSideNow s i.first) so_far.first here.first;
        second = subst (λ (s : SideView). IsSideNow s i.second) so_far.second here.second;
        sent = part_of_rest v0.sent done rest text v.sent i.sent split sent here.sent;
      }

      after : (i : Item) → IsItemNow v' i → IsItemInPut text v0 i
      after i now = record {
        first = subst (λ (s : SideView). IsSideNow s i.first) (more.first ∙ so_far.first) now.first;
        second = subst (λ (s : SideView). IsSideNow s i.second) (more.second ∙ so_far.second) now.second;
        sent =
            subst (λ (l : List ℕ). IsPart v0.sent text l) (sym now.sent)
            (part_of_rest v0.sent done rest text v.sent v'.sent split sent part);
      }

  pub sent_on : (t : ℕ) → v'.sent ≡ v.sent ++ take t rest → v'.sent ≡ v0.sent ++ (done ++ take t rest)
  sent_on t is = is ∙ ap (λ l. l ++ take t rest) sent ∙ append_assoc v0.sent done (take t rest)

  -- a put that failed took no more than a part of the rest
  pub part_on : (n : ℕ) → n < length rest → v'.sent ≡ v.sent ++ take n rest
      → (t : ℕ) × (t < length text) × (v'.sent ≡ v0.sent ++ take t text)
  part_on n less is =
      let longer : length text ≡ length done + length rest = ap length split ∙ length-append done rest in
      let front : take (length done + n) text ≡ done ++ take n rest =
      ap (λ l. take (length done + n) l) split ∙ take-append-add done rest n in
      (length done + n, omega arith, sent_on n is ∙ ap (λ l. v0.sent ++ l) (sym front))
