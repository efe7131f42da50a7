use Rattle.std.proofs.Common.{◌≡◌, ◌+◌, ◌*◌, ◌^◌, ◌<◌, ◌≤◌, length, refl, sym, ◌∙◌, ap, subst, arith, Ok, Err}
use Rattle.chain_changes.proofs.Common.{slice_index_or, take, drop, length-take, block_len, bytes_room, link_field, part_bytes, write_by, written, Steps, first_block}
use Rattle.chain_changes.proofs.WriteLaws.{Writing, part_length, next_linked, writing_begins, writing_ends, writing_on, runs_on, may_now}
use Rattle.chain_changes.proofs.bytes.write_chain.Goals as goal

pub bytes_room-room-requires : goal.bytes_room-room-requires
bytes_room-room-requires g c = c.requires.head

pub loop-position-init : goal.loop-position-init
loop-position-init g c =
    let first = g.K.Blocks.view c.args.disk.now in
    let room = c.bytes_room-room.result in
    writing_begins g.K.Blocks.told c.args.client.now first c.args.blocks.now c.args.bytes.now room c.requires.unspent
    (λ t. g.met.K.Blocks.sound c.args.disk.now t c.requires.unspent) c.requires.valid
    (λ t. subst (λ r. length c.args.bytes.now ≤ r * length c.args.blocks.now) (sym c.bytes_room-room.ensures) (c.requires.enough t))

pub next_block-next-requires : goal.next_block-next-requires
next_block-next-requires g c = c.loop-position-test.true

pub file_part-part-requires : goal.file_part-part-requires
file_part-part-requires g c =
    let short = length-take c.bytes_room-room.result c.loop-position.rest.now in
    let long = ap length c.first_bytes.ensures in
    let room = c.bytes_room-room.ensures in
    let few = c.requires.few in
    let head = c.requires.head in
    record {
      linked = subst (λ o. link_field o < 2 ^ 32) (sym c.next_block-next.ensures) (next_linked c.args.blocks.now c.loop-position.position c.requires.linkable);
      fits = omega (arith, short, long, room, few, head);
    }

pub offset_bounds-blocks-position : goal.offset_bounds-blocks-position
offset_bounds-blocks-position g c = omega (arith, c.requires.many, c.loop-position-test.true)

pub bounds-blocks-position : goal.bounds-blocks-position
bounds-blocks-position g c = c.loop-position-test.true

pub write_block-requires : goal.write_block-requires
write_block-requires g c =
    let told = g.K.Blocks.told in
    let first = g.K.Blocks.view c.args.disk.now in
    let now = g.K.Blocks.view c.loop-position.disk in
    let me = c.args.client.now in
    let blocks = c.args.blocks.now in
    let bytes = c.args.bytes.now in
    let room = c.bytes_room-room.result in
    let position = c.loop-position.position in
    let rest = c.loop-position.rest.now in
    let b = slice_index_or c.args.blocks.now c.loop-position.position 0 in
    let inv = c.loop-position.invariant in
    let inside = c.loop-position-test.true in
    let part_is : c.file_part-part.result ≡ part_bytes c.next_block-next.result c.first_bytes.result.now = c.file_part-part.ensures in
    record {
      unspent = inv.runs.unspent.0;
      valid = λ t. (inv.runs.valid t).0;
      may = λ t. may_now told me first now now blocks bytes room position b rest inv inside refl t (c.requires.may t);
      fits = λ t.
          let size = ap block_len (inv.geometry t) in
          let is = c.requires.len t in
          let short = length-take room rest in
          let long = ap length c.first_bytes.ensures in
          let whole = ap length part_is ∙ part_length c.next_block-next.result c.first_bytes.result.now in
          let fits = c.bytes_room-room.ensures in
          let head = c.requires.head in
          omega (arith, size, is, short, long, whole, fits, head);
    }

pub returns-in-Err : goal.returns-in-Err
returns-in-Err g c =
    let told = g.K.Blocks.told in
    let first = g.K.Blocks.view c.args.disk.now in
    let now = g.K.Blocks.view c.loop-position.disk in
    let me = c.args.client.now in
    let blocks = c.args.blocks.now in
    let bytes = c.args.bytes.now in
    let room = c.bytes_room-room.result in
    let position = c.loop-position.position in
    let rest = c.loop-position.rest.now in
    let b = slice_index_or c.args.blocks.now c.loop-position.position 0 in
    let inv = c.loop-position.invariant in
    let inside = c.loop-position-test.true in
    let new = g.K.Blocks.view c.write_block.new.disk in
    let part_is : c.file_part-part.result ≡ part_bytes (first_block (drop (position + 1) blocks)) (take room rest) =
    c.file_part-part.ensures ∙ (ap (λ o. part_bytes o c.first_bytes.result.now) c.next_block-next.ensures ∙ ap (part_bytes (first_block (drop (position + 1) blocks))) c.first_bytes.ensures) in
    let h = c.in-Err.ensures in
    let r = c.in-Err.refusal in
    let steps = subst (λ x. Steps {X = Unit {0}} told me now new (write_by me b x) b (written now.world b x) (Err r)) part_is h.steps in
    record {
      wrote = λ t. tt;
      only = h.only;
      runs = runs_on told me first now new blocks bytes room position b rest inv inside refl (Err r) steps;
    }

pub loop-position-preserved : goal.loop-position-preserved
loop-position-preserved g c =
    let told = g.K.Blocks.told in
    let first = g.K.Blocks.view c.args.disk.now in
    let now = g.K.Blocks.view c.loop-position.disk in
    let me = c.args.client.now in
    let blocks = c.args.blocks.now in
    let bytes = c.args.bytes.now in
    let room = c.bytes_room-room.result in
    let position = c.loop-position.position in
    let rest = c.loop-position.rest.now in
    let b = slice_index_or c.args.blocks.now c.loop-position.position 0 in
    let inv = c.loop-position.invariant in
    let inside = c.loop-position-test.true in
    let new = g.K.Blocks.view c.write_block.new.disk in
    let part_is : c.file_part-part.result ≡ part_bytes (first_block (drop (position + 1) blocks)) (take room rest) =
    c.file_part-part.ensures ∙ (ap (λ o. part_bytes o c.first_bytes.result.now) c.next_block-next.ensures ∙ ap (part_bytes (first_block (drop (position + 1) blocks))) c.first_bytes.ensures) in
    let h = c.in-Ok.ensures in
    let steps = subst (λ x. Steps {X = Unit {0}} told me now new (write_by me b x) b (written now.world b x) (Ok tt)) part_is h.steps in
    let small = c.requires.few in
    let fits = c.bytes_room-room.ensures in
    subst (Writing told me first new blocks bytes room (position + 1)) (sym c.bytes_behind-rest.ensures)
    (writing_on told me first now new blocks bytes room position b rest inv inside refl (λ t. fits ∙ ap bytes_room (c.requires.len t)) (omega (arith, small, fits)) c.requires.linkable c.requires.apart steps
    (λ t. may_now told me first now now blocks bytes room position b rest inv inside refl t (c.requires.may t)))

pub returns : goal.returns
returns g c =
    let told = g.K.Blocks.told in
    let first = g.K.Blocks.view c.args.disk.now in
    let now = g.K.Blocks.view c.loop-position.disk in
    let inv = c.loop-position.invariant in
    record {
      wrote = writing_ends told c.args.client.now first now c.args.blocks.now c.args.bytes.now c.bytes_room-room.result c.loop-position.position c.loop-position.rest.now inv (omega (arith, c.loop-position-test.false));
      only = λ t. tt;
      runs = inv.runs;
    }
