use Rattle.std.proofs.Common.{refl}
use Rattle.serving.proofs.Inputs.{reads_on}
use Rattle.serving.proofs.intake.Intake.read_held.Goals as goal

pub returns-clause-handed : goal.returns-clause-handed
returns-clause-handed g c bytes qs was =
    reads_on g.R.Protocol.spelling _ _ c.args.self.now _ bytes qs c.feed-fed.result.whole c.feed-fed.new.into c.feed-fed.result.used was refl refl refl c.args.self.now.ordered c.feed-fed.ensures.within c.feed-fed.ensures.fed c.feed-fed.ensures.asked
