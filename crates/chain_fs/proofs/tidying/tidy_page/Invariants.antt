use Rattle.chain_fs.proofs.Common.{named_of}
use Rattle.chain_fs.proofs.tidying.tidy_page.Given as goal

abbrev pub ghost-delete_others : goal.ghost-delete_others
ghost-delete_others g a = named_of g.kept

abbrev pub ghost-tidy_files : goal.ghost-tidy_files
ghost-tidy_files g a = g.kept
