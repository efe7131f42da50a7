-- The requests that a seed gives: from the words of its stream, the pairs of its primary blocks and the size of the
-- disk.
use Rattle.std.specs.Prelude.{ℕ, ◌+◌, ◌-◌, ◌*◌, ◌/◌, ◌%◌, ◌^◌, ◌==◌, min, nat_lt, List, Option, Some, None, slice_get}
use Rattle.std.specs.Prelude.{if◌then◌else◌}
use Rattle.std.specs.Int.{w32, to_le_bytes}
use Rattle.rand_chacha.specs.ChaCha.{word_at, key_of}
use Rattle.tsd_model.specs.declared.caps.CapPair.{CapPair}
use Rattle.tsd_model.specs.declared.caps.Shown.{Shown}
use Rattle.tsd_model.specs.declared.caps.Shown.TheVariants.{Nothing, Key}
use Rattle.tsd_model.specs.declared.geometry.Geometry.{Geometry}
use Rattle.tsd_model.specs.declared.requests.Hint.TheVariants.{At}
use Rattle.tsd_model.specs.declared.requests.Request.{Request}
use Rattle.tsd_model.specs.declared.requests.Request.TheVariants as ask
use Rattle.cap_store.specs.Seeds.{seed_pairs}

-- the word at a place of stream 0 of a key; ChaCha20 has ten double rounds
abbrev pub stream_word : List ℕ → ℕ → ℕ
stream_word key place = word_at 10 key 0 place

-- where the two words of a request stand: words 0 to 127 serve the pairs of sixteen primary blocks, and each request
-- from request 1 on takes the next two
abbrev pub words_place : ℕ → ℕ
words_place number = 128 + 2 * (number - 1)

-- how many of the first blocks a request may name: one more with every fourth request, up to all
abbrev pub window : ℕ → ℕ → ℕ
window blocks number = min blocks (1 + number / 4)

abbrev pub write_key : Option CapPair → Shown
write_key None = Nothing
write_key (Some pair) = Key pair.write

-- what is shown at a block: the capability to write of a primary block, and nothing at another
abbrev pub shown_at : List CapPair → ℕ → ℕ → Shown
shown_at pairs primaries block = if nat_lt block primaries then write_key (slice_get pairs block) else Nothing

-- how many blocks are asked for: 1 to 4, by the two highest bits of a word
abbrev pub count_of : ℕ → ℕ
count_of y = 1 + y / 2 ^ 30

-- a request of each kind from 0 to 7 of block a, and of b where it names another
abbrev pub request_of_kind : ℕ → ℕ → ℕ → Shown → ℕ → Request
request_of_kind kind a b shown y =
    if kind == 0 then ask.Read 1 a shown
    else if kind == 1 then ask.Write 1 a shown (to_le_bytes w32 y)
    else if kind == 2 then ask.Alloc 1 a shown (At b) (count_of y)
    else if kind == 3 then ask.Contig 1 a shown (At b) (count_of y)
    else if kind == 4 then ask.Create 1 a shown b
    else if kind == 5 then ask.Delete 1 a shown b
    else if kind == 6 then ask.GetFree
    else ask.List 1 a shown 0

-- a request of two words, with so many blocks to be named: the kind is x mod 8, block a is x / 8 and block b is y by
-- that many
abbrev pub request_of_words : List CapPair → ℕ → ℕ → ℕ → ℕ → Request
request_of_words pairs primaries named x y =
    let a = x / 8 % named in
    request_of_kind (x % 8) a (y % named) (shown_at pairs primaries a) y

-- request 0 opens session 1; each other one is of its two words
abbrev pub request_at : (ℕ → ℕ) → List CapPair → Geometry → ℕ → Request
request_at word pairs geometry number =
    if number == 0 then ask.Begin 1
    else request_of_words pairs geometry.primaries (window geometry.blocks number) (word (words_place number))
    (word (words_place number + 1))

-- the request of this number that a seed gives for a disk of this size
abbrev pub seed_request : List ℕ → Geometry → ℕ → Request
seed_request seed geometry number = request_at (stream_word (key_of seed)) (seed_pairs seed) geometry number
