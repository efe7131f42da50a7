use Rattle.std.proofs.Common.{◌≡◌, ◌≢◌, ℕ, ◌-◌, ◌^◌, ◌<◌, ◌≤◌, min, ◌++◌, length, sym, ◌∙◌, ap, subst, arith, Err}
use Rattle.chain_changes.proofs.Common.{take, block_len, bytes_room, link_field, part_bytes, Path, no_look, looks_but_refuses, looks_change, block_len_of, part_cluster, part_in, mounted_by, first_block, IsLastOf}
use Rattle.fs_trees.specs.declared.ask.ShellAsk.TheVariants as ask
use Rattle.fs_trees.specs.declared.refusal.FsRefusal.TheVariants as no
use Rattle.chain_changes.proofs.FileLaws.{long_room}
use Rattle.chain_changes.proofs.WriteLaws.{first_linked}
use Rattle.chain_changes.proofs.GrowthLaws.{stage, Parted, grow_refused, grow_writes}
use Rattle.chain_changes.proofs.WritingLaws.{writing_as, write_fails, write_decides}
use Rattle.chain_changes.proofs.appending.grow.Goals.{After-parts, After-file_part-part}
use Rattle.chain_changes.proofs.appending.grow.Goals as goal

-- what the last cluster takes, and what is left for further ones
parted : (g : _) (c : After-parts g) (path : Path) → (g.K.Blocks.told → IsLastOf c.args.client.now (g.K.Blocks.view c.args.disk.now) path c.args.last.now)
    → Parted g.K.Blocks.told c.args.client.now (g.K.Blocks.view c.args.disk.now) path c.args.bytes.now c.args.last.now c.block_len-len.result (min c.room_left.result (length c.args.bytes.now)) c.parts.result.1.now
parted g c path last = record {
  last = last;
  valid = λ t. (c.requires.may.valid t).valid;
  primary = λ t. subst (λ y. c.args.client.now.root < y.primaries) (sym (g.met.K.Blocks.sound c.args.disk.now t c.requires.may.ready.unspent).geometry) c.requires.may.ready.primary;
  some = c.requires.some;
  taken_is = ap (λ n. min n (length c.args.bytes.now)) c.room_left.ensures;
  len_is = c.block_len-len.ensures.value ∙ ap block_len_of c.cluster.ensures;
  rest_is = c.parts.ensures.rest;
}

-- the bytes that are written to the last cluster
bytes_are : (g : _) (c : After-file_part-part g) → c.file_part-part.result ≡ part_bytes (first_block c.in-Ok.blocks) (part_in c.args.last.now.cluster ++ take (min c.room_left.result (length c.args.bytes.now)) c.args.bytes.now)
bytes_are g c =
    c.file_part-part.ensures ∙ (ap (λ n. part_bytes n (c.bytes.result.now ++ c.parts.result.0.now)) (c.first_block-next.ensures ∙ ap first_block c.as_slice.ensures.value)
    ∙ (ap (λ y. part_bytes (first_block c.in-Ok.blocks) (y ++ c.parts.result.0.now)) c.bytes.ensures.value ∙ ap (λ y. part_bytes (first_block c.in-Ok.blocks) (part_in c.args.last.now.cluster ++ y)) c.parts.ensures.here))

pub bytes_room-requires : goal.bytes_room-requires
bytes_room-requires g c = c.block_len-len.ensures.whole

pub returns-then-bytes_room-eq0 : goal.returns-then-bytes_room-eq0
returns-then-bytes_room-eq0 g c =
    let told = g.K.Blocks.told in
    let me = c.args.client.now in
    let first = g.K.Blocks.view c.args.disk.now in
    let x = c.args.bytes.now in
    let len = c.block_len-len.result in
    let never : told → ⊥ = λ t.
    let whole : len ≡ block_len first.world.geometry = c.block_len-len.ensures.value ∙ (ap block_len_of c.cluster.ensures ∙ (c.requires.last t).1.last.read.read.whole) in
    let some = long_room first.world (c.requires.may.valid t).valid in
    let none : bytes_room (block_len first.world.geometry) ≡ 0 = ap bytes_room (sym whole) ∙ (sym c.bytes_room.ensures ∙ c.if-bytes_room-eq0.true) in
    omega (arith, some, none) in
    record {
      answer = λ t path last. absurd (never t);
      changes = λ path last. looks_change told (mounted_by me) first first (ask.Append path x) (Err no.NotThisFs) (λ t. (c.requires.may.valid t).valid)
          (looks_but_refuses told first first tt no.NotThisFs (λ d. cc) (no_look told first c.requires.may.ready.unspent (λ t. g.met.K.Blocks.sound c.args.disk.now t c.requires.may.ready.unspent) c.requires.may.valid));
    }

pub new_tail-requires : goal.new_tail-requires
new_tail-requires g c =
    let me = c.args.client.now in
    let first = g.K.Blocks.view c.args.disk.now in
    let x = c.args.bytes.now in
    let part = c.args.last.now in
    record {
      unspent = c.requires.may.ready.unspent;
      valid = c.requires.may.valid;
      may = λ t. (c.requires.last t).1.last.may;
      stage = λ t. stage me first (c.requires.last t).0 x part (c.requires.last t).1 (c.requires.may.valid t).valid
          (subst (λ y. me.root < y.primaries) (sym (g.met.K.Blocks.sound c.args.disk.now t c.requires.may.ready.unspent).geometry) c.requires.may.ready.primary);
      len = λ t. c.block_len-len.ensures.value ∙ (ap block_len_of c.cluster.ensures ∙ (c.requires.last t).1.last.read.read.whole);
      head = more c.block_len-len.result c.bytes_room.result c.block_len-len.ensures.whole c.bytes_room.ensures c.if-bytes_room-eq0.false;
      few = c.block_len-len.ensures.fits;
      small = let fewer = c.parts.ensures.fewer in let small = c.requires.small in omega (arith, fewer, small);
    }
  where
    more : (len room : ℕ) → 16 ≤ len → room ≡ len - 16 → room ≢ 0 → 16 < len
    more len room h e ne = grind arith

pub returns-in-Err : goal.returns-in-Err
returns-in-Err g c =
    let e = c.in-Err.ensures in
    let ends = λ (path : Path) (last : g.K.Blocks.told → IsLastOf c.args.client.now (g.K.Blocks.view c.args.disk.now) path c.args.last.now).
    grow_refused (parted g (goal.at.returns-in-Err g c).After-parts path last) (g.K.Blocks.view c.new_tail.new.disk) c.in-Err.refusal e.full e.same e.runs in
    record { answer = λ t path last. (ends path (λ _. last)).answer t; changes = λ path last. (ends path last).changes }

pub file_part-part-requires : goal.file_part-part-requires
file_part-part-requires g c =
    let part = c.args.last.now in
    let blocks = c.in-Ok.blocks in
    let next_is = c.first_block-next.ensures ∙ ap first_block c.as_slice.ensures.value in
    record {
      linked = subst (λ n. link_field n < 2 ^ 32) (sym next_is) (first_linked blocks c.in-Ok.ensures.linkable);
      fits =
          let front = ap length c.bytes.ensures.value in
          let fits = c.bytes.ensures.fits in
          let here = c.parts.ensures.few in
          let left = c.room_left.ensures in
          let long : c.block_len-len.result ≡ block_len_of (part_cluster part.cluster) = c.block_len-len.ensures.value ∙ ap block_len_of c.cluster.ensures in
          let most = c.block_len-len.ensures.fits in
          let least = c.block_len-len.ensures.whole in
          omega (arith, front, fits, here, left, long, most, least);
    }

pub write_block-requires : goal.write_block-requires
write_block-requires g c =
    let e = c.in-Ok.ensures in
    let at = goal.at.write_block-requires g c in
    let writes = λ (path : Path) (last : g.K.Blocks.told → IsLastOf c.args.client.now (g.K.Blocks.view c.args.disk.now) path c.args.last.now).
    writing_as (bytes_are g at.After-file_part-part) (grow_writes (parted g at.After-parts path last) e.linkable e.made e.room e.runs) in
    let w = λ (t : g.K.Blocks.told). let last = c.requires.last t in writes last.0 (λ _. last.1) in
    record { unspent = e.runs.unspent.0; valid = λ t. (e.runs.valid t).0; may = λ t. (w t).may t; fits = λ t. (w t).fits t }

pub returns-in-Ok-write_block : goal.returns-in-Ok-write_block
returns-in-Ok-write_block g c =
    let e = c.in-Ok.ensures in
    let at = goal.at.returns-in-Ok-write_block g c in
    let writes = λ (path : Path) (last : g.K.Blocks.told → IsLastOf c.args.client.now (g.K.Blocks.view c.args.disk.now) path c.args.last.now).
    writing_as (bytes_are g at.After-file_part-part) (grow_writes (parted g at.After-parts path last) e.linkable e.made e.room e.runs) in
    let ends = λ (path : Path) (last : g.K.Blocks.told → IsLastOf c.args.client.now (g.K.Blocks.view c.args.disk.now) path c.args.last.now). write_decides (writes path last) c.in-Ok-write_block.ensures.steps in
    record { answer = λ t path last. (ends path (λ _. last)).answer t; changes = λ path last. (ends path last).changes }

pub returns-in-Err-write_block : goal.returns-in-Err-write_block
returns-in-Err-write_block g c =
    let e = c.in-Ok.ensures in
    let at = goal.at.returns-in-Err-write_block g c in
    let writes = λ (path : Path) (last : g.K.Blocks.told → IsLastOf c.args.client.now (g.K.Blocks.view c.args.disk.now) path c.args.last.now).
    writing_as (bytes_are g at.After-file_part-part) (grow_writes (parted g at.After-parts path last) e.linkable e.made e.room e.runs) in
    let h = c.in-Err-write_block.ensures in
    let ends = λ (path : Path) (last : g.K.Blocks.told → IsLastOf c.args.client.now (g.K.Blocks.view c.args.disk.now) path c.args.last.now). write_fails (writes path last) (g.K.Blocks.view c.write_block.new.disk) c.in-Err-write_block.refusal h.only h.steps in
    record { answer = λ t path last. (ends path (λ _. last)).answer t; changes = λ path last. (ends path last).changes }
