-- The inode of a new directory is written, which no directory names yet.
use Rattle.std.proofs.Common.{◌≡◌, ℕ, ◌-◌, ◌≤◌, true, ◌==◌, [], ◌∷◌, length, refl, sym, ◌∙◌, ap, subst, arith, ◌⊎◌, Some, Result, Ok}
use Rattle.inode_changes.proofs.Common.{or_left, eq-eqb, replicate, option_and_then, block_len, World, has_number, IsValid, empty_tree, directory, inode_in, inode_bytes, inode_at, FsRefusal, DiskView, Runs, Client, write_by, written, Steps, Leads, Went, runs_step, then_runs, block_long, written_here, reads_back, HasNewInode, Stage, IsAside, IsMadeInode}
use Rattle.inode_changes.proofs.FillLaws.{made_by_one, stop_at_one}

module _ (c : Client) (old mid : DiskView) (d i : ℕ) (at : Stage c.root old.world d) (b : HasNewInode c old mid d i) where
  among : has_number (i ∷ []) i ≡ true
  among = or_left (i == i) _ (eq-eqb i i refl)

  pub empty_fits : IsValid mid.world → length (inode_bytes (directory [])) ≤ block_len mid.world.geometry
  empty_fits valid = let room = block_long mid.world valid in omega (arith, room)

  stop_at_inode : (w : World) → (w ≡ mid.world) ⊎ ((w ≡ written mid.world i (inode_bytes (directory []))) × Leads mid.world (write_by c i (inode_bytes (directory []))) (written mid.world i (inode_bytes (directory [])))) → IsAside c.root old.world w
  stop_at_inode w h = stop_at_one c (i ∷ []) i among mid.world (inode_bytes (directory [])) w h old.world d i [] [] at b.making (λ k m. m)

  says : inode_at (written mid.world i (inode_bytes (directory []))) i ≡ Some (directory [])
  says =
      let len = block_len mid.world.geometry in
      let zero = inode_bytes (directory []) in
      ap (option_and_then (inode_in len)) (written_here mid.world i zero b.inode.live) ∙ reads_back len (directory []) (replicate (len - length zero) 0) (omega arith, omega arith, refl) refl

  pub made_so : (new : DiskView) → Went c mid new (write_by c i (inode_bytes (directory []))) i (written mid.world i (inode_bytes (directory []))) → IsMadeInode c.root old.world d i empty_tree new.world
  made_so new went = subst (IsMadeInode c.root old.world d i empty_tree) (sym went.world) (record {
    inode = directory [];
    shared = [];
    fresh = [];
    making = made_by_one c (i ∷ []) i among mid.world (inode_bytes (directory [])) went.leads old.world d i [] [] at b.making (λ k m. m);
    says = says;
    blocks = refl;
    bare = refl;
    is = refl;
    of_files = λ k h. absurd (cc);
  })

-- after the inode was written, or where that stopped
pub inode_runs : {told : Type 0} {c : Client} {old mid new : DiskView} {d i : ℕ} {result : Result (Unit {0}) FsRefusal} → (told → Stage c.root old.world d) → (told → HasNewInode c old mid d i) → Runs {X = ℕ} told old mid (IsAside c.root old.world) (Ok i)
    → Steps told c mid new (write_by c i (inode_bytes (directory []))) i (written mid.world i (inode_bytes (directory []))) result → Runs told old new (IsAside c.root old.world) result
inode_runs {told = told} {c = c} {old = old} {mid = mid} {new = new} {d = d} {i = i} {result = result} at began runs wrote = then_runs told old mid new (IsAside c.root old.world) i result runs
    (runs_step told c mid new (write_by c i (inode_bytes (directory []))) i (written mid.world i (inode_bytes (directory []))) (IsAside c.root old.world) result (λ t. (runs.valid t).0) (λ t. stop_at_inode c old mid d i (at t) (began t)) wrote)
