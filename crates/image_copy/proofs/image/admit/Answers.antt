use Rattle.std.proofs.Common.{subst}
use Rattle.image_shell.proofs.Common.{told_by}
use Rattle.image_copy.specs.Copied.{AreAdmitted}
use Rattle.image_copy.specs.Steps.{IsDenial}
use Rattle.image_copy.proofs.ImageLaws.{root_inside}
use Rattle.image_copy.proofs.image.admit.Goals as goal

pub first_shared-requires-clause-root : goal.first_shared-requires-clause-root
first_shared-requires-clause-root c =
    let both : AreAdmitted (told_by c.args.volume) c.args.words.now = subst (λ o. IsDenial (told_by c.args.volume) c.args.words.now o) c.in-None.is c.denied.ensures in
    let size = c.geometry-size.ensures in
    root_inside c.args.volume c.args.words.now.from both.from size.told size.sized.lawful.primaries.2

pub first_shared-requires-clause-other : goal.first_shared-requires-clause-other
first_shared-requires-clause-other c =
    let both : AreAdmitted (told_by c.args.volume) c.args.words.now = subst (λ o. IsDenial (told_by c.args.volume) c.args.words.now o) c.in-None.is c.denied.ensures in
    let size = c.geometry-size.ensures in
    root_inside c.args.volume c.args.words.now.into both.into size.told size.sized.lawful.primaries.2

pub returns-in-Some-clause-refused : goal.returns-in-Some-clause-refused
returns-in-Some-clause-refused c = subst (λ o. IsDenial (told_by c.args.volume) c.args.words.now o) c.in-Some.is c.denied.ensures

pub returns-in-Ok-clause-admitted : goal.returns-in-Ok-clause-admitted
returns-in-Ok-clause-admitted c = record {
  of = c.new.ensures.volume;
  none = c.new.ensures.sessions;
  ready = c.new.ensures.ready c.requires.unspent;
  both = subst (λ o. IsDenial (told_by c.args.volume) c.args.words.now o) c.in-None.is c.denied.ensures;
  sharing = c.in-Ok.ensures;
}
