use Rattle.std.proofs.Common.{◌≡◌, arith}
use Rattle.volume.proofs.Common.{LeavesWorld, owed, checkpoint_writes, as_either, spent_unless_ok, spent_on_err, works_of, Geometry, IsLawful, block_len, on_ok, data_bytes, home, JournalRecord, IsRingAt, AreSound, Tables, Volume, data_rested, ok_map, told_inside}
use Rattle.std.proofs.Common.{◌<◌, List, [], sym, ◌∙◌, ap, subst, Some}
use Rattle.volume_laws.proofs.ReadLaws.{rested_at, rested_world, rested_moments, rested_owed, read_bytes}
use Rattle.volume.proofs.volume.Volume.read_block.Given
use Rattle.volume.proofs.volume.Volume.read_block.Goals as goal

pub read_parts-outcome-requires : goal.read_parts-outcome-requires
read_parts-outcome-requires g c =
    let size = c.of.ensures ∙ ap (λ (w : Volume). w.tables.geometry) c.self.view_is in
    let is = ap (λ (w : Volume). w.tables) c.self.view_is in
    record {
      lawful = subst IsLawful (sym size) (subst (λ (t : Tables). AreSound t) is c.self.invariant.sound).slots.lawful;
      inside = subst (λ (k : Geometry). c.args.block < k.blocks) (sym size) (told_inside c.args.self.now c.args.block c.requires.live);
      at = λ told. subst (λ (rs : List JournalRecord). IsRingAt rs (g.D.Device.view c.args.dev.now)) (sym (ap (λ (w : Volume). w.ring) c.self.view_is)) (c.requires.at told).ring;
    }

pub returns-clause-bytes : goal.returns-clause-bytes
returns-clause-bytes g c told =
    let v = g.D.Device.view c.args.dev.now in
    let size = c.of.ensures ∙ ap (λ (w : Volume). w.tables.geometry) c.self.view_is in
    ok_map c.read_parts-outcome.result _ _ (λ bytes. read_bytes c.args.self.now v c.args.block (c.requires.at told) c.requires.live
    ∙ ap Some (sym (bytes ∙ ap (λ (k : Geometry). data_bytes (home v.reads) k c.args.block) size))) (c.read_parts-outcome.ensures.bytes told)

pub returns-clause-full : goal.returns-clause-full
returns-clause-full g c =
    let size = c.of.ensures ∙ ap (λ (w : Volume). w.tables.geometry) c.self.view_is in
    ok_map c.read_parts-outcome.result _ _ (λ long. long ∙ ap block_len size) c.read_parts-outcome.ensures.full

kept_now : (g : Given.Over) (c : goal.After-self-1 g) → g.D.Device.told → LeavesWorld (g.D.Device.view c.args.dev.now) (g.D.Device.view c.read_parts-outcome.new.dev)
kept_now g c told = rested_moments c.args.self.now (g.D.Device.view c.args.dev.now) (g.D.Device.view c.read_parts-outcome.new.dev) (g.met.D.Device.sound c.args.dev.now told) (c.requires.at told) (c.read_parts-outcome.ensures.rests told)

pub returns-clause-operation : goal.returns-clause-operation
returns-clause-operation g c = record {
  at = λ told.
      on_ok c.read_parts-outcome.result
      (rested_at c.args.self.now _ (g.D.Device.view c.args.dev.now) (g.D.Device.view c.read_parts-outcome.new.dev) (ap (λ (w : Volume). w.ring) c.self.view_is) (ap (λ (w : Volume). w.tables) c.self.view_is) (c.requires.at told) (c.read_parts-outcome.ensures.rests told));
  done = λ told. on_ok c.read_parts-outcome.result (rested_world (g.D.Device.view c.args.dev.now) (g.D.Device.view c.read_parts-outcome.new.dev) (c.read_parts-outcome.ensures.rests told));
  any_moment = λ t. as_either _ _ _ (kept_now g c t);
  sent = λ t. (c.read_parts-outcome.ensures.rests t).sent;
  data_kept = λ told. data_rested c.read_parts-outcome.result c.args.self.now.tables.geometry [] (g.D.Device.view c.args.dev.now) (g.D.Device.view c.read_parts-outcome.new.dev) (g.met.D.Device.sound c.args.dev.now told) (c.requires.at told).firm (c.read_parts-outcome.ensures.rests told);
  unspent = spent_unless_ok c.read_parts-outcome.result c.is_err-self-inside.result c.is_err-self-inside.ensures.value;
  spent = spent_on_err c.read_parts-outcome.result c.is_err-self-inside.result c.is_err-self-inside.ensures.value;
  faults = c.read_parts-outcome.ensures.faults;
  works = works_of _ (g.D.Device.view c.args.dev.now) (g.D.Device.view c.read_parts-outcome.new.dev) c.read_parts-outcome.ensures.uses;
  geometry = ap (λ (w : Volume). w.tables.geometry) c.self.view_is;
}

pub returns-clause-cost : goal.returns-clause-cost
returns-clause-cost g c = record {
  any_owed = λ told. rested_owed c.args.self.now (g.D.Device.view c.args.dev.now) (g.D.Device.view c.read_parts-outcome.new.dev) (g.met.D.Device.sound c.args.dev.now told) (c.requires.at told) (c.read_parts-outcome.ensures.rests told);
  paid = on_ok c.read_parts-outcome.result (let ring : checkpoint_writes c.self.inside.ring ≡ checkpoint_writes c.args.self.now.ring = ap (λ (w : Volume). checkpoint_writes w.ring) c.self.view_is in let same = ap (λ (w : Volume). owed w.tables) c.self.view_is in omega (arith, ring, same, c.read_parts-outcome.ensures.uses.most));
  uses = c.read_parts-outcome.ensures.uses;
}
