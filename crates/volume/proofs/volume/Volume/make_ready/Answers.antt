use Rattle.std.proofs.Common.{◌≡◌, ℕ, false, inl, inr, ap, sym, ◌∙◌}
use Rattle.volume.proofs.Common.{cases_Bool, IsAheadOf, is_gone, graph_in, owed, Volume, tables_in, none_gone, hides_same, none_owed}
use Rattle.volume.proofs.volume.Volume.make_ready.Goals as goal

pub invariant_of-self : goal.invariant_of-self
invariant_of-self c =
    let i = c.self.inside in
    let v = c.self.invariant in
    let t = tables_in i.header i.pointers i.counts i.live i.caps i.is_sweeping in
    let none : owed t ≡ 0 = ap (λ (w : Volume). owed w.tables) c.self.view_is ∙ c.requires.settled in
    let k = c.reset.new.self in
    let ahead : IsAheadOf (graph_in t) k = c.reset.ensures.ahead (graph_in t) (ap (λ g. g.blocks) (sym v.counts)) ((none_owed t).0 none) v.sound.counted in
    let before : (b : ℕ) → is_gone i.ahead.gone b ≡ false = elim (cases_Bool i.is_ready) [
      | inl is ↦ none_gone t i.ahead none (v.ahead is)
      | inr not_yet ↦ v.begun not_yet
    ] in
    record {
      pointers = v.pointers;
      counts = v.counts;
      live = v.live;
      kept_version = v.kept_version;
      kept = v.kept;
      marks_each = v.marks_each;
      sound = v.sound;
      counted = ahead.counts_each;
      hidden = hides_same i.live (is_gone i.ahead.gone) (is_gone k.gone) v.hidden (λ b. none_gone t k none ahead b ∙ sym (before b));
      ahead = λ _. ahead;
      begun = λ never. absurd (cc);
      still = λ _. ap (λ (w : Volume). w.tables.is_sweeping) c.self.view_is ∙ c.requires.still;
    }
