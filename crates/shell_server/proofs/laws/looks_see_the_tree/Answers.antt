use Rattle.shell_server.proofs.SeenLaws.{sees}
use Rattle.shell_server.proofs.laws.looks_see_the_tree.Goals as goal

pub returns : goal.returns
returns c start s x path rests named = sees start s x path rests named
