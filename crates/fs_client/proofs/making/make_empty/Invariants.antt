use Rattle.fs_client.proofs.Common.{root_alone}
use Rattle.fs_client.proofs.making.make_empty.Given as goal

-- of an empty tree the root alone is kept
abbrev pub ghost-delete_others : goal.ghost-delete_others
ghost-delete_others g a = root_alone a.client.now.root
