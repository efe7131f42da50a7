use Rattle.volume.proofs.Common.{spent_unless_ok, spent_on_err, works_of, committed_uses, OnOk, Geometry, block_len, filled, with_contents, View, Volume, IsVolumeAt, world_on, JournalRecord, Uses, committed, commit_writes, Tables, batch_cost, IsPaid, LeavesEither, length-filled, paid, written_ok, written_moments, told_geometry, told_inside, ok_map, written_owed, data_committed, written_keeps, commits_once, KeepsData}
use Rattle.std.proofs.Common.{◌≡◌, ◌<◌, ◌≤◌, List, [], ◌∷◌, length, refl, sym, ◌∙◌, ap, subst, arith}
use Rattle.std.specs.Prelude.{ℕ}
use Rattle.volume.proofs.volume.Volume.write_block.Goals as goal

-- the bytes as the body has them are those of the clause
same_bytes : (vol : Volume) (v : View) (g : Geometry) (bytes given : List ℕ) → IsVolumeAt vol v → g ≡ vol.tables.geometry → bytes ≡ given → filled (block_len g) bytes ≡ filled (block_len (world_on v).geometry) given
same_bytes vol v g bytes given at same is =
    let size : g ≡ (world_on v).geometry = same ∙ sym (told_geometry vol v at) in
    λ i. filled (block_len (size i)) (is i)

pub put_block-requires-clause-inside : goal.put_block-requires-clause-inside
put_block-requires-clause-inside g c =
    let size = c.of.ensures ∙ ap (λ (w : Volume). w.tables.geometry) c.self.view_is in
    subst (λ (k : Geometry). c.args.block < k.blocks) (sym size) (told_inside c.args.self.now c.args.block c.requires.live)

-- the bytes fit
fits : (g : Geometry) (vol : Volume) (bytes given : List ℕ) → g ≡ vol.tables.geometry → bytes ≡ given → length given ≤ block_len vol.tables.geometry → length bytes ≤ block_len g
fits g vol bytes given same is most = let long = ap (λ (xs : List ℕ). length xs) is in let size = ap (λ (k : Geometry). k.sectors) same in omega (arith, long, size, most)

pub returns-clause-operation : goal.returns-clause-operation
returns-clause-operation g c = record {
  at = λ told.
      let old = g.D.Device.view c.args.dev.now in
      let new = g.D.Device.view c.commit-outcome.new.dev in
      let k = c.of.result.geometry in
      let bytes = c.as_slice.result.now in
      let size = c.of.ensures ∙ ap (λ (w : Volume). w.tables.geometry) c.self.view_is in
      let long = length-filled bytes (block_len k) (fits k c.args.self.now bytes c.args.bytes.now size c.as_slice.ensures.value c.requires.size) in
      ok_map c.commit-outcome.result _ _ (λ both. both.0)
      (written_ok c.commit-outcome.result c.args.self.now _ old new c.put_block.new.batch k c.args.block (filled (block_len k) bytes)
      (c.requires.at told) size c.requires.live long
      c.put_block.ensures.written (c.commit-outcome.ensures.done told) (c.commit-outcome.ensures.at told) (c.commit-outcome.ensures.firm told) (ap (λ (w : Volume). w.tables) c.self.view_is));
  done = λ told.
      let old = g.D.Device.view c.args.dev.now in
      let new = g.D.Device.view c.commit-outcome.new.dev in
      let k = c.of.result.geometry in
      let bytes = c.as_slice.result.now in
      let size = c.of.ensures ∙ ap (λ (w : Volume). w.tables.geometry) c.self.view_is in
      let long = length-filled bytes (block_len k) (fits k c.args.self.now bytes c.args.bytes.now size c.as_slice.ensures.value c.requires.size) in
      let all = same_bytes c.args.self.now old k bytes c.args.bytes.now (c.requires.at told) size c.as_slice.ensures.value in
      let now : Volume = record c.args.self.now { ring = c.commit-outcome.new.self } in
      ok_map c.commit-outcome.result _ _ (λ both. both.1 ∙ ap (with_contents (world_on old) c.args.block) all)
      (written_ok c.commit-outcome.result c.args.self.now now old new c.put_block.new.batch k c.args.block (filled (block_len k) bytes)
      (c.requires.at told) size c.requires.live long
      c.put_block.ensures.written (c.commit-outcome.ensures.done told) (c.commit-outcome.ensures.at told) (c.commit-outcome.ensures.firm told) refl);
  any_moment = λ told.
      let old = g.D.Device.view c.args.dev.now in
      let new = g.D.Device.view c.commit-outcome.new.dev in
      let k = c.of.result.geometry in
      let bytes = c.as_slice.result.now in
      let size = c.of.ensures ∙ ap (λ (w : Volume). w.tables.geometry) c.self.view_is in
      let long = length-filled bytes (block_len k) (fits k c.args.self.now bytes c.args.bytes.now size c.as_slice.ensures.value c.requires.size) in
      let all = same_bytes c.args.self.now old k bytes c.args.bytes.now (c.requires.at told) size c.as_slice.ensures.value in
      let then : LeavesEither old new (with_contents (world_on old) c.args.block (filled (block_len k) bytes)) =
      written_moments c.args.self.now old new c.put_block.new.batch k c.args.block (filled (block_len k) bytes)
      (c.requires.at told) size c.requires.live long c.put_block.ensures.written (c.commit-outcome.ensures.any_moment told) in
      subst (λ (f : List ℕ). LeavesEither old new (with_contents (world_on old) c.args.block f)) all then;
  sent = c.commit-outcome.ensures.sent;
  data_kept = λ told.
      let old = g.D.Device.view c.args.dev.now in
      let new = g.D.Device.view c.commit-outcome.new.dev in
      let k = c.of.result.geometry in
      let size = c.of.ensures ∙ ap (λ (w : Volume). w.tables.geometry) c.self.view_is in
      let at = c.requires.at told in
      subst (λ (h : Geometry). KeepsData h (c.args.block ∷ []) old new c.commit-outcome.result) size
      (data_committed c.commit-outcome.result k (c.args.block ∷ []) old new c.put_block.new.batch (λ n from out. at.firm n)
      (written_keeps k c.args.block (filled (block_len k) c.as_slice.result.now) c.put_block.new.batch c.put_block.ensures.written)
      (c.commit-outcome.ensures.done told) (c.commit-outcome.ensures.any_moment told));
  unspent = spent_unless_ok c.commit-outcome.result c.is_err-self-inside.result c.is_err-self-inside.ensures.value;
  spent = spent_on_err c.commit-outcome.result c.is_err-self-inside.result c.is_err-self-inside.ensures.value;
  faults = c.commit-outcome.ensures.faults;
  works = works_of _ (g.D.Device.view c.args.dev.now) (g.D.Device.view c.commit-outcome.new.dev) c.commit-outcome.ensures.uses;
  geometry = ap (λ (w : Volume). w.tables.geometry) c.self.view_is;
}

pub returns-clause-cost : goal.returns-clause-cost
returns-clause-cost g c = record {
  any_owed = λ told.
      written_owed c.args.self.now (g.D.Device.view c.args.dev.now) (g.D.Device.view c.commit-outcome.new.dev) c.put_block.new.batch c.of.result.geometry c.args.block (filled (block_len c.of.result.geometry) c.as_slice.result.now)
      (c.requires.at told) (c.of.ensures ∙ ap (λ (w : Volume). w.tables.geometry) c.self.view_is) c.put_block.ensures.written (c.commit-outcome.ensures.any_moment told);
  paid =
      let old = g.D.Device.view c.args.dev.now in
      let new = g.D.Device.view c.commit-outcome.new.dev in
      let size = c.of.ensures ∙ ap (λ (w : Volume). w.tables.geometry) c.self.view_is in
      let few : length c.put_block.new.batch ≤ c.args.self.now.tables.geometry.sectors = let most = c.put_block.ensures.homes in let e = ap (λ (k : Geometry). k.sectors) size in omega (arith, most, e) in
      let ring = ap (λ (w : Volume). w.ring) c.self.view_is in
      let uses = subst (λ (rs : List JournalRecord). Uses (commit_writes rs c.put_block.new.batch) old new) ring c.commit-outcome.ensures.uses in
      let records = subst (λ (rs : List JournalRecord). OnOk c.commit-outcome.result (c.commit-outcome.new.self ≡ committed rs c.put_block.new.batch)) ring c.commit-outcome.ensures.records in
      subst (λ (t : Tables). OnOk c.commit-outcome.result (IsPaid (batch_cost c.args.self.now.tables.geometry.sectors) c.args.self.now old (record { tables = t; ring = c.commit-outcome.new.self; is_ready = c.self.inside.is_ready; is_spent = c.is_err-self-inside.result }) new))
      (sym (ap (λ (w : Volume). w.tables) c.self.view_is))
      (paid c.commit-outcome.result c.args.self.now (record { tables = c.args.self.now.tables; ring = c.commit-outcome.new.self; is_ready = c.self.inside.is_ready; is_spent = c.is_err-self-inside.result }) c.put_block.new.batch c.args.self.now.tables.geometry.sectors old new few uses records refl);
  uses =
      let size = c.of.ensures ∙ ap (λ (w : Volume). w.tables.geometry) c.self.view_is in
      let few : length c.put_block.new.batch ≤ c.args.self.now.tables.geometry.sectors = let most = c.put_block.ensures.homes in let e = ap (λ (k : Geometry). k.sectors) size in omega (arith, most, e) in
      committed_uses c.args.self.now c.self.inside.ring (g.D.Device.view c.args.dev.now) (g.D.Device.view c.commit-outcome.new.dev) c.put_block.new.batch c.args.self.now.tables.geometry.sectors few (ap (λ (w : Volume). w.ring) c.self.view_is) c.commit-outcome.ensures.uses;
}

pub returns-clause-once : goal.returns-clause-once
returns-clause-once g c =
    let size = c.of.ensures ∙ ap (λ (w : Volume). w.tables.geometry) c.self.view_is in
    let few : length c.put_block.new.batch ≤ c.args.self.now.tables.geometry.sectors = let most = c.put_block.ensures.homes in let e = ap (λ (k : Geometry). k.sectors) size in omega (arith, most, e) in
    commits_once c.commit-outcome.result c.args.self.now _ c.self.inside.ring (g.D.Device.view c.args.dev.now) (g.D.Device.view c.commit-outcome.new.dev) c.put_block.new.batch c.args.self.now.tables.geometry.sectors few (ap (λ (w : Volume). w.ring) c.self.view_is)
    c.commit-outcome.ensures.uses c.commit-outcome.ensures.records
