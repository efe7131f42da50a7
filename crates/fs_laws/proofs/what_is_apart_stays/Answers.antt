use Rattle.fs_laws.proofs.ApartLaws.{apart_stays}
use Rattle.fs_laws.proofs.what_is_apart_stays.Goals as goal

pub returns : goal.returns
returns c = apart_stays
