-- The further clusters of a file, in the making.
use Rattle.std.proofs.Common.{◌≡◌, ℕ, ◌*◌, ◌≤◌, length, List, sym, ◌∙◌, ap, subst, arith, Result, Ok}
use Rattle.std.proofs.Common.{mul_comm}
use Rattle.chain_changes.proofs.Common.{div_ceil_times, div_ceil, block_len, World, IsValid, bytes_room, FsRefusal, DiskView, IsValidNow, Runs, runs_more, then_runs, Client, Stage, IsAside, AsideWith, NewChain, ArePartsOf, Wrote, clusters_more, NewTail}
use Rattle.chain_changes.proofs.FileLaws.{few_clusters, long_room}

pub few_more : (w : World) (bytes : List ℕ) → IsValid w → length bytes ≤ 4096 → clusters_more (block_len w.geometry) bytes ≤ 64
few_more w bytes valid small = let few = few_clusters (length bytes) (bytes_room (block_len w.geometry)) small (long_room w valid) in omega (arith, few)

module _ (c : Client) (old mid new : DiskView) (source count : ℕ) (bytes blocks : List ℕ) (at : Stage c.root old.world source) (valid : IsValid old.world) (is : count ≡ clusters_more (block_len old.world.geometry) bytes) (chain : NewChain c old mid source count blocks) where
  pub tail_enough : length bytes ≤ bytes_room (block_len old.world.geometry) * length blocks
  tail_enough =
      let room = bytes_room (block_len old.world.geometry) in
      let some = long_room old.world valid in
      let bound = (div_ceil_times (length bytes) room (omega (arith, some))).0 in
      let many = chain.many ∙ is in
      subst (λ n. length bytes ≤ room * n) (sym many) (subst (λ k. length bytes ≤ k) (mul_comm (div_ceil (length bytes) room) room) bound)

  pub tail_aside : (w : World) → AsideWith c.root blocks mid.world w → IsAside c.root old.world w
  tail_aside w aside = aside old.world source blocks at chain.making (λ b h. h)

  pub is_tail : Wrote c mid new blocks bytes → NewTail c old new source bytes blocks
  is_tail wrote = record {
    making = wrote.here.making old.world source blocks at chain.making (λ b h. h);
    many = chain.many ∙ is;
    links = wrote.here.links;
    blocks_are = wrote.here.blocks_are;
    from = wrote.here.from;
    parts = subst (λ r. ArePartsOf r bytes wrote.here.links) (ap (λ g. bytes_room (block_len g)) chain.making.geometry) wrote.here.parts;
    may = λ b m. wrote.may b (chain.may b m);
  }

-- the new blocks: as many as the bytes take
pub record NewClusters (told : Type 0) (c : Client) (old mid : DiskView) (source count : ℕ) (bytes blocks : List ℕ) : Type 0 where
  pub stage : told → Stage c.root old.world source
  pub valid : told → IsValidNow old
  pub is : told → count ≡ clusters_more (block_len old.world.geometry) bytes
  pub made : told → NewChain c old mid source count blocks
  pub runs : Runs told old mid (IsAside c.root old.world) (Ok blocks)

-- then they are written
module _ {told : Type 0} {c : Client} {old mid : DiskView} {source count : ℕ} {bytes blocks own : List ℕ} (x : NewClusters told c old mid source count bytes blocks) (own_is : own ≡ blocks) where
  pub tail_runs : (new : DiskView) (result : Result (Unit {0}) FsRefusal) → Runs told mid new (AsideWith c.root own mid.world) result → Runs told old new (IsAside c.root old.world) result
  tail_runs new result runs = then_runs told old mid new (IsAside c.root old.world) blocks result x.runs
      (runs_more told mid new (AsideWith c.root own mid.world) (IsAside c.root old.world) result
      (λ t w aside. tail_aside c old mid new source count bytes blocks (x.stage t) (x.valid t).valid (x.is t) (x.made t) w (subst (λ bs. AsideWith c.root bs mid.world w) own_is aside)) runs)

  pub tail_made : (new : DiskView) → (told → Wrote c mid new own bytes) → told → NewTail c old new source bytes blocks
  tail_made new wrote t = is_tail c old mid new source count bytes blocks (x.stage t) (x.valid t).valid (x.is t) (x.made t) (subst (λ bs. Wrote c mid new bs bytes) own_is (wrote t))
