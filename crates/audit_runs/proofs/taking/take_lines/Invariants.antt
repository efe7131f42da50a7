use Rattle.std.proofs.Common.{◌≡◌, ◌≤◌, ◌+◌, ◌^◌, ℕ, List, Option, length}
use Rattle.script_text.specs.Lines.{WasFed}
use Rattle.serving.specs.Goes.{Handed, ends_left, remaining}
use Rattle.serving.specs.Ran.{Came, IsAtEnd}
use Rattle.image_audit.specs.declared.listing.Listing.{Listing}
use Rattle.audit_runs.specs.Lines.{listing_spelling}
use Rattle.audit_runs.specs.Taking.{HasTaken}
use Rattle.audit_runs.proofs.taking.take_lines.Given as goal

abbrev pub invariant-loop-certificate : goal.invariant-loop-certificate
invariant-loop-certificate g l =
    let before = l.fn.source in
    record {
      limit : l.intake.limit ≡ 2 ^ 40;
      blocks : length l.certificate.entries ≡ length l.fn.certificate.entries;
      once : g.S.Source.ends l.source + ends_left l.intake ≤ g.S.Source.ends before + 1;
      source_faults : g.S.Source.faults l.source ≡ g.S.Source.faults before;
      goes : (bytes : List ℕ) × (said : List (Option Listing))
          × Came g.S.Source.told (g.S.Source.taken before) (g.S.Source.taken l.source) (g.S.Source.left_bytes before) (g.S.Source.left_bytes l.source) bytes
          × Handed listing_spelling (λ x. WasFed x l.lines.cutter) (IsAtEnd g.S.Source.told (g.S.Source.ended l.source) (g.S.Source.left_bytes l.source)) l.intake bytes said
          × HasTaken (length l.fn.certificate.entries) said l.fault l.certificate
          × (length said + remaining l.intake ≤ 2 ^ 40 + 65537);
    }

abbrev pub decreases-loop-certificate : goal.decreases-loop-certificate
decreases-loop-certificate g l = remaining l.intake
