use Rattle.graph_laws.proofs.ToldLaws.{told_has_graph, raw-graph, has_graph}
use Rattle.graph_laws.proofs.SameGraphLaws.{as_one, stay_as_one, bytes_stay_apart}
use Rattle.graph_laws.proofs.graphs.graphs_tell.Goals as goal

pub returns-clause-bytes : goal.returns-clause-bytes
returns-clause-bytes c = told_has_graph

pub returns-clause-raw : goal.returns-clause-raw
returns-clause-raw c = λ w live raw tells. (raw-graph w live raw.laid_out.each_block tells raw, has_graph w live raw.laid_out.each_block tells)

pub returns-clause-tells : goal.returns-clause-tells
returns-clause-tells c = as_one

pub returns-clause-stays : goal.returns-clause-stays
returns-clause-stays c = stay_as_one

pub returns-clause-apart : goal.returns-clause-apart
returns-clause-apart c = bytes_stay_apart
