-- Where the journal stands: a ring of eight records in sectors 2 to 130. A record has a gate, a descriptor and its
-- share of the bodies.
use Rattle.std.specs.Prelude.{ℕ, ◌+◌, ◌*◌, ◌==◌, if◌then◌else◌}

-- the first sector and the last one
abbrev pub ring_start : ℕ
ring_start = 2

abbrev pub ring_end : ℕ
ring_end = 130

-- how many records there are
abbrev pub records : ℕ
records = 8

-- how many bodies all records have together
abbrev pub bodies : ℕ
bodies = 113

-- the gate of a record: that of record 0 before the bodies, those of the others after them
abbrev pub gate_sector : ℕ → ℕ
gate_sector index = if index == 0 then 2 else 115 + 2 * index

-- the descriptor of a record stands right after its gate
abbrev pub descriptor_sector : ℕ → ℕ
descriptor_sector index = gate_sector index + 1

-- the bodies of all records in order, counted from 0
abbrev pub body_sector : ℕ → ℕ
body_sector body = 4 + body
