use Rattle.cap_store.proofs.SeedLaws.{filled}
use Rattle.cap_store.proofs.seeds.next_cap.Goals as goal

pub returns-clause-value : goal.returns-clause-value
returns-clause-value c = let p = filled c.args.words.now c.fill_bytes_via_u32.new.dst c.fill_bytes_via_u32.new.rng c.requires c.fill_bytes_via_u32.ensures in (λ i. record { bytes = p.0 i })

pub returns-clause-position : goal.returns-clause-position
returns-clause-position c = (filled c.args.words.now c.fill_bytes_via_u32.new.dst c.fill_bytes_via_u32.new.rng c.requires c.fill_bytes_via_u32.ensures).1
