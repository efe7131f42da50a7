use Rattle.std.proofs.Common.{◌≡◌, ◌*◌, ◌≤◌, length, sym, ◌∙◌, ap, subst, arith, Ok, Err}
use Rattle.chain_changes.proofs.Common.{div-le_self, div_ceil, block_len, has_number, are_apart, bytes_room, no_room_in, runs_as, runs_refused, clusters_more}
use Rattle.chain_changes.proofs.TailLaws.{few_more, tail_enough, NewClusters, tail_runs, tail_made}
use Rattle.chain_changes.proofs.appending.new_tail.Goals.{After-div_ceil-count}
use Rattle.chain_changes.proofs.appending.new_tail.Goals as goal

-- how many blocks are wanted
count_is : (g : _) (c : After-div_ceil-count g) → c.div_ceil-count.result ≡ clusters_more c.args.len c.args.bytes.now
count_is g c = c.div_ceil-count.ensures ∙ ap (div_ceil (length c.args.bytes.now)) c.bytes_room.ensures

count_there : (g : _) (c : After-div_ceil-count g) → g.K.Blocks.told → c.div_ceil-count.result ≡ clusters_more (block_len (g.K.Blocks.view c.args.disk.now).world.geometry) c.args.bytes.now
count_there g c t = count_is g c ∙ ap (λ n. clusters_more n c.args.bytes.now) (c.requires.len t)

pub bytes_room-requires : goal.bytes_room-requires
bytes_room-requires g c = let head = c.requires.head in omega (arith, head)

pub div_ceil-count-requires : goal.div_ceil-count-requires
div_ceil-count-requires g c = let head = c.requires.head in omega (arith, head, c.bytes_room.ensures)

pub overflow_cast-count : goal.overflow_cast-count
overflow_cast-count g c =
    let whole = div-le_self (length c.args.bytes.now) c.bytes_room.result in
    let small = c.requires.small in
    omega (arith, c.div_ceil-count.ensures, whole, small)

pub new_chain-requires : goal.new_chain-requires
new_chain-requires g c =
    let first = g.K.Blocks.view c.args.disk.now in
    let bytes = c.args.bytes.now in
    let is = count_there g (goal.at.new_chain-requires g c).After-div_ceil-count in
    record {
      unspent = c.requires.unspent;
      valid = c.requires.valid;
      may = c.requires.may;
      stage = c.requires.stage;
      few = λ t. subst (λ n. n ≤ 64) (sym (is t)) (few_more first.world bytes (c.requires.valid t).valid c.requires.small);
    }

pub returns-in-Err : goal.returns-in-Err
returns-in-Err g c =
    let first = g.K.Blocks.view c.args.disk.now in
    let is = count_is g (goal.at.returns-in-Err g c).After-div_ceil-count in
    let e = c.in-Err.ensures in
    record {
      made = λ t. tt;
      linkable = tt;
      room = λ t. tt;
      full = λ t ne. ap (λ n. no_room_in first.world n n) (sym is) ∙ e.full t ne;
      same = e.same;
      runs = e.runs;
    }

pub write_chain-requires : goal.write_chain-requires
write_chain-requires g c =
    let me = c.args.client.now in
    let first = g.K.Blocks.view c.args.disk.now in
    let bytes = c.args.bytes.now in
    let source = c.args.source in
    let count = c.div_ceil-count.result in
    let is = count_there g (goal.at.write_chain-requires g c).After-div_ceil-count in
    let mid = g.K.Blocks.view c.new_chain.new.disk in
    let e = c.in-Ok.ensures in
    let blocks = c.in-Ok.blocks in
    let own = c.as_slice.ensures.value in
    record {
      unspent = e.runs.unspent.0;
      valid = λ t. (e.runs.valid t).0;
      may = λ t b h. (e.made t).own b (ap (λ bs. has_number bs b) (sym own) ∙ h);
      apart = λ t. ap are_apart own ∙ (e.made t).making.once;
      linkable = λ b h. e.linkable b (ap (λ bs. has_number bs b) (sym own) ∙ h);
      len = λ t. c.requires.len t ∙ ap block_len (sym (e.made t).making.geometry);
      head = let head = c.requires.head in omega (arith, head);
      few = c.requires.few;
      many = subst (λ bs. length bs ≤ 64) (sym own) c.as_slice.ensures.fits;
      enough = λ t. subst (λ bs. length bytes ≤ bytes_room c.args.len * length bs) (sym own)
          (subst (λ n. length bytes ≤ bytes_room n * length blocks) (sym (c.requires.len t)) (tail_enough me first mid mid source count bytes blocks (c.requires.stage t) (c.requires.valid t).valid (is t) (e.made t)));
    }

pub returns-in-Ok-write_chain : goal.returns-in-Ok-write_chain
returns-in-Ok-write_chain g c =
    let first = g.K.Blocks.view c.args.disk.now in
    let new = g.K.Blocks.view c.write_chain.new.disk in
    let e = c.in-Ok.ensures in
    let u = c.in-Ok-write_chain.ensures in
    let x : NewClusters g.K.Blocks.told c.args.client.now (g.K.Blocks.view c.args.disk.now) (g.K.Blocks.view c.new_chain.new.disk) c.args.source c.div_ceil-count.result c.args.bytes.now c.in-Ok.blocks = record { stage = c.requires.stage; valid = c.requires.valid; is = count_there g (goal.at.returns-in-Ok-write_chain g c).After-div_ceil-count; made = e.made; runs = e.runs } in
    record {
      made = tail_made x c.as_slice.ensures.value new u.wrote;
      linkable = e.linkable;
      room = λ t. ap (λ n. no_room_in first.world n n) (sym (count_is g (goal.at.returns-in-Ok-write_chain g c).After-div_ceil-count)) ∙ e.room t;
      full = λ t. tt;
      same = λ t. tt;
      runs = runs_as _ _ _ _ tt c.in-Ok.blocks (tail_runs x c.as_slice.ensures.value new (Ok tt) u.runs);
    }

pub returns-in-Err-write_chain : goal.returns-in-Err-write_chain
returns-in-Err-write_chain g c =
    let e = c.in-Ok.ensures in
    let u = c.in-Err-write_chain.ensures in
    let r = c.in-Err-write_chain.refusal in
    let x : NewClusters g.K.Blocks.told c.args.client.now (g.K.Blocks.view c.args.disk.now) (g.K.Blocks.view c.new_chain.new.disk) c.args.source c.div_ceil-count.result c.args.bytes.now c.in-Ok.blocks = record { stage = c.requires.stage; valid = c.requires.valid; is = count_there g (goal.at.returns-in-Err-write_chain g c).After-div_ceil-count; made = e.made; runs = e.runs } in
    record {
      made = λ t. tt;
      linkable = tt;
      room = λ t. tt;
      full = λ t ne. absurd (ne (u.only t));
      same = λ t ne. absurd (ne (u.only t));
      runs = runs_refused _ _ _ _ r (tail_runs x c.as_slice.ensures.value (g.K.Blocks.view c.write_chain.new.disk) (Err r) u.runs);
    }
