-- From a directory to what a name is in it.
use Rattle.std.proofs.Common.{◌≡◌, ◌≢◌, ℕ, zero, suc, true, List, ◌∷◌, refl, sym, ◌∙◌, ap, subst, Option, Some, None, Result, Ok, Err}
use Rattle.inode_walks.proofs.Common.{is_some, IfOk, IfErr, OnOk, block_len, World, holds, HoldsWrite, ways_lead_on, read_named, Name, Path, nothing, child, is_there, Entry, Inode, directory, regular, block_named, InodeNode, inode_at, node_by, node_at, FsRefusal, DiskView, state_of, IsValidNow, Client, shown_at, MayWrite, Looked, inode_of, block_len_of, Found, node_pairs, StandsAsRead, IsOpenNow, IsFurther, node_tree, not_found, named_block, block_said}
use Rattle.fs_trees.specs.declared.refusal.FsRefusal.TheVariants as no
use Rattle.inode_walks.proofs.WalkLaws.{block_is, node_block, file_node, dir_node, child_node, child_pair, child_pairs, named_is_there, in_a_dir, in_a_file, nothing_there}

-- what is read has an inode
pub there_is_inode : (w : World) (more b : ℕ) → is_there (node_at w more b) ≡ true → is_some (inode_at w b) ≡ true
there_is_inode w zero b h = absurd (cc)
there_is_inode w (suc more) b h = by_inode (inode_at w b) h
  where
    by_inode : (o : Option Inode) → is_there (node_by (λ c. node_at w more c) b o) ≡ true → is_some o ≡ true
    by_inode None h = absurd (cc)
    by_inode (Some i) h = refl

pub a_level : (w : World) (more b : ℕ) → is_there (node_at w more b) ≡ true → (less : ℕ) × (more ≡ suc less)
a_level w zero b h = absurd (cc)
a_level w (suc more) b h = (more, refl)

-- ---- the block that a name stands for

said_block : (n : Name) (i : Inode) (b : ℕ) → block_said n i ≡ Ok b → (es : List Entry) × (i ≡ directory es) × (block_named n es ≡ Some b)
said_block n (directory es) b h = (es, refl, some (block_named n es) b h)
  where
    some : (o : Option ℕ) (b : ℕ) → named_block o ≡ Ok b → o ≡ Some b
    some None b h = absurd (cc)
    some (Some c) b h = let e : c ≡ b = cc in ap (λ x. Some x) e
said_block n (regular size blocks) b h = absurd (cc)

module _ (c : Client) (v : DiskView) (more : ℕ) (dir : Found) (stands : StandsAsRead c v more dir) (n : Name) where
  node : InodeNode
  node = node_at v.world (suc more) dir.block

  module _ (b : ℕ) (said : block_said n (inode_of dir.inode) ≡ Ok b) where
    list : List Entry
    list = (said_block n (inode_of dir.inode) b said).0

    says : inode_at v.world dir.block ≡ Some (directory list)
    unfolding list
    says = stands.says ∙ ap (λ i. Some i) (said_block n (inode_of dir.inode) b said).1

    listed : block_named n list ≡ Some b
    unfolding list
    listed = (said_block n (inode_of dir.inode) b said).2

    pub child_is : child n (node_at v.world (suc more) dir.block) ≡ node_at v.world more b
    child_is = child_node v.world more dir.block stands.there n list says ∙ ap (read_named (λ k. node_at v.world more k)) listed

    pub child_there : is_there (node_at v.world more b) ≡ true
    child_there = let d = dir_node v.world more dir.block stands.there list says in named_is_there (λ k. node_at v.world more k) n b list d.0 d.1 listed

    pub pair_held : holds v.world.pairs dir.block b ≡ true
    pair_held = stands.pairs dir.block b (child_pair v.world more dir.block stands.there n list b says (subst (λ x. block_is x b) (sym child_is) (node_block v.world more b child_there)))

    pub has_inode : is_some (inode_at v.world b) ≡ true
    has_inode = there_is_inode v.world more b child_there

    pub may_read : IsValidNow v → IsOpenNow c v → MayWrite c v b
    may_read now opened = record {
      number = opened.number;
      begun = opened.begun;
      live = now.valid.raw.targets dir.block b pair_held;
      attains = ways_lead_on (state_of v) c.session dir.block b (shown_at c b) (now.valid.raw.apart dir.block b pair_held) pair_held stands.held;
    }

    -- what was read there stands there
    pub further : (new : DiskView) (found : Found) → Looked v new → found.block ≡ b → inode_at v.world b ≡ Some (inode_of found.inode) → block_len_of found.inode ≡ block_len v.world.geometry → HoldsWrite (state_of new) c.session b → MayWrite c new b → IsFurther c v new more dir n found
    further new found seen block is whole held may =
        let level = a_level v.world more b child_there in
        let same : node_at v.world more b ≡ node_at new.world (suc level.0) found.block =
        ap (λ k. node_at v.world k b) level.1 ∙ (ap (λ w. node_at w (suc level.0) b) (sym seen.world) ∙ ap (node_at new.world (suc level.0)) (sym block)) in
        record {
          less = level.0;
          deeper = level.1;
          node = child_is ∙ same;
          stands = record {
            there = ap is_there (sym same) ∙ child_there;
            says = ap (inode_at new.world) block ∙ (ap (λ w. inode_at w b) seen.world ∙ is);
            pairs = λ x y h. ap (λ w. holds w.pairs x y) seen.world
                ∙ stands.pairs x y (child_pairs v.world more dir.block stands.there n list x y says (ap (λ z. holds (node_pairs z) x y) (child_is ∙ same) ∙ h));
            held = ap_held (sym block) held;
            may = subst (MayWrite c new) (sym block) may;
            whole = whole ∙ ap (λ w. block_len w.geometry) (sym seen.world);
          };
        }
      where
        ap_held : {k : ℕ} {b : ℕ} → b ≡ k → HoldsWrite (state_of new) c.session b → HoldsWrite (state_of new) c.session k
        ap_held e h = subst (HoldsWrite (state_of new) c.session) e h

  -- why there is none
  pub lost : (ns : Path) (e : FsRefusal) → block_said n (inode_of dir.inode) ≡ Err e → not_found (node_tree v more dir) (n ∷ ns) ≡ Some e
  lost ns e said = by_inode (inode_of dir.inode) stands.says said
    where
      by_name : (es : List Entry) (o : Option ℕ) → inode_at v.world dir.block ≡ Some (directory es) → block_named n es ≡ o → named_block o ≡ Err e → not_found (node_tree v more dir) (n ∷ ns) ≡ Some e
      by_name es None says none h =
          let d = dir_node v.world more dir.block stands.there es says in
          let gone : child n (node_at v.world (suc more) dir.block) ≡ nothing = child_node v.world more dir.block stands.there n es says ∙ ap (read_named (λ k. node_at v.world more k)) none in
          let is : no.NoEntry ≡ e = cc in
          in_a_dir v.world n ns (node_at v.world (suc more) dir.block) dir.block d.0 d.2 ∙ (nothing_there v.world ns (child n (node_at v.world (suc more) dir.block)) gone ∙ ap (λ x. Some x) is)
      by_name es (Some b) says some h = absurd (cc)

      by_inode : (i : Inode) → inode_at v.world dir.block ≡ Some i → block_said n i ≡ Err e → not_found (node_tree v more dir) (n ∷ ns) ≡ Some e
      by_inode (directory es) says h = by_name es (block_named n es) says refl h
      by_inode (regular size blocks) says h =
          let is : no.NotDir ≡ e = cc in
          in_a_file v.world n ns (node_at v.world (suc more) dir.block) _ (file_node v.world more dir.block stands.there size blocks says) ∙ ap (λ x. Some x) is

-- ---- what reading there gives

module _ (c : Client) (v new : DiskView) (more : ℕ) (dir : Found) (stands : StandsAsRead c v more dir) (n : Name) (b : ℕ) (said : block_said n (inode_of dir.inode) ≡ Ok b) where
  pub further_read : (result : Result Found FsRefusal) → IfOk result (λ found. found.block ≡ b) → IfOk result (λ found. inode_at v.world b ≡ Some (inode_of found.inode)) → IfOk result (λ found. block_len_of found.inode ≡ block_len v.world.geometry)
      → OnOk result (HoldsWrite (state_of new) c.session b) → OnOk result (MayWrite c new b) → OnOk result (Looked v new) → IfOk result (IsFurther c v new more dir n)
  further_read (Ok found) block is whole held may seen = further c v more dir stands n b said new found seen block is whole held may
  further_read (Err e) block is whole held may seen = tt

-- a fault leads nowhere else
pub only_faults : (result : Result Found FsRefusal) (P : FsRefusal → Type 0) → IfErr result (λ e. e ≡ no.Device) → IfErr result (λ e. e ≢ no.Device → P e)
only_faults (Ok found) P h = tt
only_faults (Err e) P h = λ ne. absurd (ne h)

-- a name that leads nowhere is no fault
pub no_fault : (n : Name) (i : Inode) (e : FsRefusal) → block_said n i ≡ Err e → e ≢ no.Device
no_fault n (directory es) e h d = by_name (block_named n es) h d
  where
    by_name : (o : Option ℕ) → named_block o ≡ Err e → e ≢ no.Device
    by_name None h d = let is : no.NoEntry ≡ e = cc in cc
    by_name (Some b) h d = absurd (cc)
no_fault n (regular size blocks) e h d = let is : no.NotDir ≡ e = cc in cc

-- what follows from two facts of an answer
pub on_both : {X : Type 0} (result : Result X FsRefusal) (P Q R : Type 0) → (P → Q → R) → OnOk result P → OnOk result Q → OnOk result R
on_both (Ok x) P Q R f h k = f h k
on_both (Err e) P Q R f h k = tt
