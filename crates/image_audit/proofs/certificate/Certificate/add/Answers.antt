use Rattle.image_audit.proofs.ListingLaws.{added_line, refused_line}
use Rattle.image_audit.proofs.certificate.Certificate.add.Goals as goal

pub returns-clause-added : goal.returns-clause-added
returns-clause-added c = added_line c.take.result c.args.line.now c.parse_listing.result c.args.self.now.entries c.take.new.self.entries c.parse_listing.ensures.value c.take.ensures.taken

pub returns-clause-refused : goal.returns-clause-refused
returns-clause-refused c = refused_line c.take.result c.args.line.now c.parse_listing.result c.args.self.now.entries c.parse_listing.ensures.value c.take.ensures.refused
