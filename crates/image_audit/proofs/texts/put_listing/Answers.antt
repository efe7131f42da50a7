use Rattle.std.proofs.Common.{refl}
use Rattle.image_audit.specs.Texts.{listing_words}
use Rattle.image_audit.proofs.texts.put_listing.Goals as goal

pub returns-clause-read : goal.returns-clause-read
returns-clause-read c = record {
  words = listing_words c.args.listing.now;
  spelled = (refl, (c.put_number.ensures.spelled, (refl, (c.put_counted.ensures.spelled, (refl, (c.put_parent.ensures.spelled, tt))))));
  parted = refl;
}
