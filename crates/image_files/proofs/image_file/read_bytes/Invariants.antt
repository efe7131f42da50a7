use Rattle.std.proofs.Common.{◌≤◌, length}
use Rattle.image_files.proofs.image_file.read_bytes.Given as goal

abbrev pub invariant-loop : goal.invariant-loop
invariant-loop l = l.got ≤ length l.room
