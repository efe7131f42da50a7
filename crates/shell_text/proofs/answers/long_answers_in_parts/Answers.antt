use Rattle.shell_text.proofs.AnswerLaws.{data_in_parts, names_in_parts}
use Rattle.shell_text.proofs.answers.long_answers_in_parts.Goals as goal

pub returns-clause-data : goal.returns-clause-data
returns-clause-data c = data_in_parts

pub returns-clause-names : goal.returns-clause-names
returns-clause-names c = names_in_parts
