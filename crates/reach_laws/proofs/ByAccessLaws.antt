-- What a run changed, it changed by access.
use Rattle.reach_laws.proofs.Common.{RunsChangeByAccess}
use Rattle.reach_laws.proofs.UnreachedLaws.{unreached_is_hidden, unreached_stays}
use Rattle.reach_laws.proofs.WriterLaws.{blocks_by_access, bytes_by_access, caps_by_access, new_pointers_by_access, pointers_by_access}

pub run_by_access : RunsChangeByAccess
run_by_access kind w wants qs valid = record {
  bytes = bytes_by_access kind w wants qs valid;
  pointers = pointers_by_access kind w wants qs valid;
  new_pointers = new_pointers_by_access kind w wants qs valid;
  caps = caps_by_access kind w wants qs valid;
  blocks = blocks_by_access kind w wants qs valid;
  unreached = unreached_stays kind w wants qs valid;
  hidden = unreached_is_hidden kind w wants qs valid;
}
