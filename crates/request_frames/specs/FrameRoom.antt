-- The replies whose frames are short, and how much room the frame of a reply takes.
use Rattle.std.specs.Prelude.{ℕ, ◌+◌, Bool, true, nat_le, length}
use Rattle.tsd_model.specs.declared.replies.Reply.{Reply}
use Rattle.tsd_model.specs.declared.replies.Reply.TheVariants as reply

-- every reply but the bytes of a block that has more than 1,024
abbrev pub is_short : Reply → Bool
is_short (reply.Bytes bytes) = nat_le (length bytes) 1024
is_short (reply.Blocks blocks) = true
is_short (reply.Targets blocks) = true
is_short reply.Done = true
is_short (reply.Free n) = true
is_short (reply.Gone n) = true
is_short reply.NoMemory = true
is_short (reply.Refused r) = true

-- Bytes stand after a length of two bytes and a code. All others have room where the longest list of targets has it.
abbrev pub frame_room : Reply → ℕ
frame_room (reply.Bytes bytes) = 3 + length bytes
frame_room (reply.Blocks blocks) = 259
frame_room (reply.Targets blocks) = 259
frame_room reply.Done = 259
frame_room (reply.Free n) = 259
frame_room (reply.Gone n) = 259
frame_room reply.NoMemory = 259
frame_room (reply.Refused r) = 259
