use Rattle.std.proofs.Common.{◌≡◌, ◌≢◌, ℕ, ◌+◌, ◌-◌, ◌*◌, ◌<◌, ◌≤◌, true, length, refl, sym, ◌∙◌, ap, subst, arith, Ok, Err}
use Rattle.chain_changes.proofs.Common.{drop, block_len, has_number, are_apart, MayWrite, bytes_room, clusters_for, no_look, no_room_in, runs_look, runs_but_refuses, runs_as, runs_refused, IsAside}
use Rattle.fs_trees.specs.declared.refusal.FsRefusal.TheVariants as no
use Rattle.chain_changes.proofs.ChainLaws.{aside_first}
use Rattle.chain_changes.proofs.WriteLaws.{in_drop}
use Rattle.chain_changes.proofs.FileLaws.{clusters, some_clusters, few_clusters, long_room, behind_may, behind_apart, behind_enough, NewBlocks, file_runs, file_made}
use Rattle.chain_changes.proofs.file.new_file.Goals.{After-blocks_wanted-wanted}
use Rattle.chain_changes.proofs.file.new_file.Goals as goal

-- how many blocks are wanted
wanted_is : (g : _) (c : After-blocks_wanted-wanted g) → g.K.Blocks.told → c.blocks_wanted-wanted.result ≡ clusters_for (g.K.Blocks.view c.args.disk.now).world.geometry (length c.args.bytes.now) + c.args.ahead
wanted_is g c t =
    let bytes = c.args.bytes.now in
    c.blocks_wanted-wanted.ensures ∙ (ap (λ n. clusters n (bytes_room c.args.len) + c.args.ahead) c.len.ensures.value ∙ ap (λ n. clusters (length bytes) (bytes_room n) + c.args.ahead) (c.requires.len t))

pub bytes_room-requires : goal.bytes_room-requires
bytes_room-requires g c = c.requires.head

pub returns-then-bytes_room-eq0 : goal.returns-then-bytes_room-eq0
returns-then-bytes_room-eq0 g c =
    let told = g.K.Blocks.told in
    let first = g.K.Blocks.view c.args.disk.now in
    let root = c.args.client.now.root in
    let never : told → ⊥ = λ t.
    let some = long_room first.world (c.requires.valid t).valid in
    let none : bytes_room (block_len first.world.geometry) ≡ 0 = ap bytes_room (sym (c.requires.len t)) ∙ (sym c.bytes_room.ensures ∙ c.if-bytes_room-eq0.true) in
    omega (arith, some, none) in
    record {
      made = λ t. tt;
      some = tt;
      linkable = tt;
      room = λ t. tt;
      full = λ t. absurd (never t);
      same = λ t ne. refl;
      runs = runs_but_refuses told first first (IsAside root first.world) tt no.NotThisFs (λ d. cc)
          (runs_look told first first (IsAside root first.world) (Ok tt) (λ t w is. subst (IsAside root first.world) (sym is) (aside_first root first.world c.args.source (c.requires.stage t)))
          (no_look told first c.requires.unspent (λ t. g.met.K.Blocks.sound c.args.disk.now t c.requires.unspent) c.requires.valid));
    }

pub blocks_wanted-wanted-requires : goal.blocks_wanted-wanted-requires
blocks_wanted-wanted-requires g c = record {
  small = c.len.ensures.fits;
  few = c.requires.ahead;
  room = more c.args.len c.bytes_room.result c.requires.head c.bytes_room.ensures c.if-bytes_room-eq0.false;
}
  where
    more : (len room : ℕ) → 16 ≤ len → room ≡ len - 16 → room ≢ 0 → 16 < len
    more len room h e ne = grind arith

pub new_chain-requires : goal.new_chain-requires
new_chain-requires g c =
    let first = g.K.Blocks.view c.args.disk.now in
    let bytes = c.args.bytes.now in
    let is = wanted_is g (goal.at.new_chain-requires g c).After-blocks_wanted-wanted in
    record {
      unspent = c.requires.unspent;
      valid = c.requires.valid;
      may = c.requires.may;
      stage = c.requires.stage;
      few = λ t.
          let few = few_clusters (length bytes) (bytes_room (block_len first.world.geometry)) (subst (λ n. n ≤ 4096) c.len.ensures.value c.len.ensures.fits) (long_room first.world (c.requires.valid t).valid) in
          let one = c.requires.ahead in
          omega (arith, is t, few, one);
    }

pub returns-in-Err : goal.returns-in-Err
returns-in-Err g c =
    let first = g.K.Blocks.view c.args.disk.now in
    let is = wanted_is g (goal.at.returns-in-Err g c).After-blocks_wanted-wanted in
    let e = c.in-Err.ensures in
    record {
      made = λ t. tt;
      some = tt;
      linkable = tt;
      room = λ t. tt;
      full = λ t ne. ap (λ n. no_room_in first.world n n) (sym (is t)) ∙ e.full t ne;
      same = e.same;
      runs = e.runs;
    }

pub blocks_behind-requires : goal.blocks_behind-requires
blocks_behind-requires g c =
    let many = c.in-Ok.ensures.many in
    let wanted = c.blocks_wanted-wanted.ensures in
    let some = some_clusters c.len.result (bytes_room c.args.len) in
    omega (arith, many, wanted, some)

pub write_chain-requires : goal.write_chain-requires
write_chain-requires g c =
    let me = c.args.client.now in
    let first = g.K.Blocks.view c.args.disk.now in
    let bytes = c.args.bytes.now in
    let ahead = c.args.ahead in
    let source = c.args.source in
    let wanted = c.blocks_wanted-wanted.result in
    let is = wanted_is g (goal.at.write_chain-requires g c).After-blocks_wanted-wanted in
    let mid = g.K.Blocks.view c.new_chain.new.disk in
    let e = c.in-Ok.ensures in
    let blocks = c.in-Ok.blocks in
    let own_is = c.blocks_behind.ensures.value in
    let own = c.blocks_behind.result.now in
    let data_is = c.as_slice.ensures.value in
    record {
      unspent = e.runs.unspent.0;
      valid = λ t. (e.runs.valid t).0;
      may = λ t. subst (λ bs. (b : ℕ) → has_number bs b ≡ true → MayWrite me mid b) (sym own_is) (behind_may me first mid mid source ahead wanted bytes blocks (c.requires.stage t) (c.requires.valid t).valid (is t) (e.made t));
      apart = λ t. ap are_apart own_is ∙ behind_apart me first mid mid source ahead wanted bytes blocks (c.requires.stage t) (c.requires.valid t).valid (is t) (e.made t);
      linkable = λ b h. e.linkable b (in_drop blocks ahead b (ap (λ bs. has_number bs b) (sym own_is) ∙ h));
      len = λ t. c.requires.len t ∙ ap block_len (sym (e.made t).making.geometry);
      head = c.requires.head;
      few = c.requires.few;
      many = c.blocks_behind.ensures.fits;
      enough = λ t. subst (λ bs. length bs ≤ bytes_room c.args.len * length own) (sym data_is) (subst (λ bs. length bytes ≤ bytes_room c.args.len * length bs) (sym own_is)
          (subst (λ n. length bytes ≤ bytes_room n * length (drop ahead blocks)) (sym (c.requires.len t)) (behind_enough me first mid mid source ahead wanted bytes blocks (c.requires.stage t) (c.requires.valid t).valid (is t) (e.made t))));
    }

pub returns-in-Ok-write_chain : goal.returns-in-Ok-write_chain
returns-in-Ok-write_chain g c =
    let first = g.K.Blocks.view c.args.disk.now in
    let is = wanted_is g (goal.at.returns-in-Ok-write_chain g c).After-blocks_wanted-wanted in
    let e = c.in-Ok.ensures in
    let new = g.K.Blocks.view c.write_chain.new.disk in
    let u = c.in-Ok-write_chain.ensures in
    let x : NewBlocks g.K.Blocks.told c.args.client.now (g.K.Blocks.view c.args.disk.now) (g.K.Blocks.view c.new_chain.new.disk) c.args.source c.args.ahead c.blocks_wanted-wanted.result c.args.bytes.now c.in-Ok.blocks = record { stage = c.requires.stage; valid = c.requires.valid; is = is; made = e.made; runs = e.runs } in
    record {
      made = file_made x c.blocks_behind.ensures.value c.as_slice.ensures.value new u.wrote;
      some =
          let many = e.many in
          let much = c.blocks_wanted-wanted.ensures in
          let some = some_clusters c.len.result (bytes_room c.args.len) in
          omega (arith, many, much, some);
      linkable = e.linkable;
      room = λ t. ap (λ n. no_room_in first.world n n) (sym (is t)) ∙ e.room t;
      full = λ t. tt;
      same = λ t. tt;
      runs = runs_as _ _ _ _ tt c.in-Ok.blocks (file_runs x c.blocks_behind.ensures.value c.as_slice.ensures.value new (Ok tt) u.runs);
    }

pub returns-in-Err-write_chain : goal.returns-in-Err-write_chain
returns-in-Err-write_chain g c =
    let is = wanted_is g (goal.at.returns-in-Err-write_chain g c).After-blocks_wanted-wanted in
    let e = c.in-Ok.ensures in
    let new = g.K.Blocks.view c.write_chain.new.disk in
    let u = c.in-Err-write_chain.ensures in
    let r = c.in-Err-write_chain.refusal in
    let x : NewBlocks g.K.Blocks.told c.args.client.now (g.K.Blocks.view c.args.disk.now) (g.K.Blocks.view c.new_chain.new.disk) c.args.source c.args.ahead c.blocks_wanted-wanted.result c.args.bytes.now c.in-Ok.blocks = record { stage = c.requires.stage; valid = c.requires.valid; is = is; made = e.made; runs = e.runs } in
    record {
      made = λ t. tt;
      some = tt;
      linkable = tt;
      room = λ t. tt;
      full = λ t ne. absurd (ne (u.only t));
      same = λ t ne. absurd (ne (u.only t));
      runs = runs_refused _ _ _ _ r (file_runs x c.blocks_behind.ensures.value c.as_slice.ensures.value new (Err r) u.runs);
    }
