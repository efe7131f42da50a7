use Rattle.image_world.proofs.AgreeLaws.{agree_both, agree_owe, unused_agree}
use Rattle.image_world.proofs.AlikeLaws.{alike_tables, alike_raw}
use Rattle.image_world.proofs.FaultAlike.{fault_both}
use Rattle.image_world.proofs.agreeing.only_what_matters_matters.Goals as goal

pub returns : goal.returns
returns c = record {
  same = λ x y header alike. (alike_tables x y header alike, alike_raw x y header alike);
  stands = agree_both;
  fault = fault_both;
  owes = agree_owe;
  unused = unused_agree;
}
