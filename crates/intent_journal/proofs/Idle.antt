-- No gate is open, and nothing is loose: all is in place.
use Rattle.std.proofs.Common.{◌≡◌, ℕ, ◌<◌, Bool, false, List, [], sym, ◌∙◌, arith}
use Rattle.intent_journal.proofs.Common.{IsListed, IsRingAt, Patch, View, is_gate_open, is_listed_open, open_records, records}
use Rattle.intent_journal.proofs.Opened.{opened_none}

module _ (v : View) (ps : List Patch) (gates : List Bool) (listed : IsListed ps gates v) (closed : (index : ℕ) → index < records → is_listed_open gates index ≡ false) where
  shut : (index : ℕ) → index < records → is_gate_open v.reads index ≡ false
  shut index less = sym (listed.gates index less) ∙ closed index less

  none_open : open_records v.reads ≡ []
  none_open = (opened_none v.reads (shut 0 (omega arith))).0

  pub idle_ring : IsRingAt [] v
  idle_ring = record { shows = none_open; others_closed = λ index _ less. shut index less; journal_firm = listed.journal_firm }
