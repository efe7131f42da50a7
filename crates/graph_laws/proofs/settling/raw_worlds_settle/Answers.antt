use Rattle.graph_laws.proofs.CommuteLaws.{settle_once}
use Rattle.graph_laws.proofs.SettleLaws.{graph-settle, led_has_none, none_is_led, settle_none}
use Rattle.graph_laws.proofs.StepLaws.{none_lost, lost_none, some_lost}
use Rattle.graph_laws.proofs.WeightLaws.{free_count-settle, length-settle_pairs}
use Rattle.graph_laws.proofs.Common.{settle_is_valid}
use Rattle.graph_laws.proofs.settling.raw_worlds_settle.Goals as goal

pub returns-clause-valid : goal.returns-clause-valid
returns-clause-valid c = λ r. (settle_is_valid r, graph-settle r)

pub returns-clause-once : goal.returns-clause-once
returns-clause-once c = settle_once

pub returns-clause-none : goal.returns-clause-none
returns-clause-none c = λ r out. ((none_is_led r out.each_block, led_has_none r), (lost_none r out.each_block, none_lost r), settle_none r out)

pub returns-clause-lost : goal.returns-clause-lost
returns-clause-lost c = some_lost

pub returns-clause-sizes : goal.returns-clause-sizes
returns-clause-sizes c = λ r out. (free_count-settle r out.each_block, length-settle_pairs r)
