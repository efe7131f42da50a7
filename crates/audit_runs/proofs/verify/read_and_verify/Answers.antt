use Rattle.std.proofs.Common.{◌≡◌, ◌∙◌, ℕ, None, length, sym, ap, subst}
use Rattle.std.proofs.lemmas.List.{length-replicate}
use Rattle.tsd_model.specs.declared.geometry.Geometry.{Geometry}
use Rattle.script_text.specs.Pieces.{all_lines}
use Rattle.volume_laws.specs.Volume.{told_by}
use Rattle.image_audit.specs.Listing.{Listed}
use Rattle.audit_runs.specs.Taking.{IsReadAs}
use Rattle.audit_runs.proofs.verify.read_and_verify.Goals as goal

pub returns-in-Ok-take_lines-clause-answered : goal.returns-in-Ok-take_lines-clause-answered
returns-in-Ok-take_lines-clause-answered g c =
    let read = c.in-Ok-take_lines.ensures.read in
    let size = c.geometry.ensures in
    let many : length c.in-Ok.certificate.entries ≡ (told_by c.args.volume.now).geometry.blocks =
    ap (λ (l : Listed). length l.entries) c.in-Ok.ensures ∙ length-replicate c.geometry.result.blocks None ∙ ap (λ (n : Geometry). n.blocks) size.value ∙ sym (ap (λ (n : Geometry). n.blocks) size.told) in
    record {
      bytes = read.bytes;
      came_in = read.came_in;
      taken = (read.taken.0, read.taken.1, c.answer_line.ensures (all_lines read.bytes) (subst (λ (n : ℕ). IsReadAs n (all_lines read.bytes) c.in-Ok-take_lines.fault c.take_lines.new.certificate.entries) many read.taken.2));
    }
