use Rattle.inode_fs.proofs.mounting.tidy_block.Given as goal

abbrev pub ghost-delete_others : goal.ghost-delete_others
ghost-delete_others g a = g.kept

abbrev pub ghost-delete_others-2 : goal.ghost-delete_others-2
ghost-delete_others-2 g a = g.kept
