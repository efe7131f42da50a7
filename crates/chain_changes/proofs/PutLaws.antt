-- The stages of a put: what was found of the name, the new file, and the write of a cluster that then follows.
use Rattle.std.proofs.Common.{◌≡◌, ◌≢◌, ℕ, ◌+◌, ◌<◌, ◌≤◌, true, not, cond, ◌&&◌, List, [], ◌∷◌, length, sym, ◌∙◌, ap, subst, Option, Some, None, Ok, Err}
use Rattle.chain_changes.proofs.Common.{slice_index_or, block_len, World, written, Name, is_name, Entry, nothing, entry, names_max, has_room, tree_of_files, entries_room, directory_bytes, need, clusters_for, ShellAsk, FsRefusal, DiskView, IsDiskSound, IsEitherTree, KeepsRoom, need_on, Runs, Client, write_by, MayWrite, Leads, Steps, no_room_in, refused_on, runs_as, cluster_of, block_len_of, dir_cluster, entries_in, listed_at, MayAsk, mounted_by, AreOthers, file_names, IsEntry, Taken, Free, Page, is_known, AreLinkable, NewFile, IsLookupOf, Making, IsAside}
use Rattle.fs_trees.specs.declared.ask.ShellAsk.TheVariants as ask
use Rattle.fs_trees.specs.declared.refusal.FsRefusal.TheVariants as no
use Rattle.chain_changes.proofs.AddLaws.{add_fits, add_decided, set_fits, set_lets}
use Rattle.chain_changes.proofs.ExtendLaws.{one_fits, first_among, making_one, linked_fits, extend_decided}
use Rattle.chain_changes.proofs.AfterLaws.{Decided, LetsGo, None_loose, This_loose, decided_either}
use Rattle.chain_changes.proofs.MakingLaws.{aside_now}
use Rattle.chain_changes.proofs.PlacedLaws.{putting_over, putting_new, the_taken, over_entry, new_name, new_count, new_entry, roomy_there, none_behind, full_there, needed_over, refused_over, needed_new, refused_new, set_bytes, add_bytes}
use Rattle.chain_changes.proofs.PuttingLaws.{Putting, stage, aside_either}
use Rattle.chain_changes.proofs.TakenLaws.{file_takes}
use Rattle.chain_changes.proofs.WritingLaws.{Ends, Writing, aside_runs, refused_ends, write_runs, led_to, may_then, kept_then}

-- ---- what was found

-- Where the entry is to stand, and what the ask takes: the clusters of the bytes, and so many ahead of them. D is what the
-- put is to know of the name.
pub record Found (c : Client) (old : DiskView) (n : Name) (page : Page) (body : List ℕ) (ahead : ℕ) (D : Putting c old n page → Type 0) : Type 0 where
  pub putting : Putting c old n page
  pub refused : refused_on (mounted_by c) old (ask.Put (n ∷ []) body) ≡ no_room_in old.world (clusters_for old.world.geometry (length body) + ahead) (clusters_for old.world.geometry (length body) + ahead)
  pub needed : need_on (mounted_by c) old (ask.Put (n ∷ []) body) ≡ need (clusters_for old.world.geometry (length body) + ahead) (clusters_for old.world.geometry (length body) + ahead)
  pub here : D putting

-- it stands in the cluster
abbrev pub IsOver : (c : Client) (old : DiskView) (n : Name) (page : Page) → ℕ → ℕ → Putting c old n page → Type 0
IsOver c old n page position first x = IsEntry n (entries_in page.cluster) position first

-- no file has it, and there may be one name more
pub record IsNew (c : Client) (old : DiskView) (n : Name) (page : Page) (x : Putting c old n page) : Type 0 where
  pub others : AreOthers n (file_names x.chains.files)
  pub few : length x.chains.files < names_max

-- the same, and no cluster is behind this one
pub record IsNewBehind (c : Client) (old : DiskView) (n : Name) (page : Page) (x : Putting c old n page) : Type 0 where
  pub new : IsNew c old n page x
  pub none : x.behind ≡ []

primary : {told : Type 0} {c : Client} {old : DiskView} → MayAsk told c old → (told → IsDiskSound old) → told → c.root < old.world.geometry.primaries
primary {c = c} may sound t = subst (λ g. c.root < g.primaries) (sym (sound t).geometry) may.ready.primary

module _ {told : Type 0} {c : Client} {old : DiskView} {n : Name} {page : Page} (body : List ℕ) (may : MayAsk told c old) (sound : told → IsDiskSound old) (named : is_name n ≡ true) where
  pub found_over : {position first : ℕ} → (told → IsLookupOf c old n (Taken page position first)) → told → Found c old n page body 0 (IsOver c old n page position first)
  found_over {position} {first} found t =
      let at = found t in
      let file = over_entry c old n page (may.valid t) (may.tree t) (primary may sound t) named (is_known told c old t may (sound t)) position first at in
      record {
        putting = putting_over c old n page (may.valid t) (may.tree t) (primary may sound t) named position first at;
        refused = refused_over c old n at.chains at.under body file.0 file.1;
        needed = needed_over c old n at.chains at.under body file.0 file.1;
        here = (the_taken c old n page (may.valid t) (may.tree t) (primary may sound t) named position first at).entry;
      }

  module _ {count : ℕ} (found : told → IsLookupOf c old n (Free page count)) (less : count < names_max) (t : told) where
    abbrev at : IsLookupOf c old n (Free page count)
    at = found t

    abbrev x : Putting c old n page
    x = putting_new c old n page (may.valid t) (may.tree t) (primary may sound t) named count at

    lacks : entry n (tree_of_files (found t).chains.files) ≡ nothing
    lacks = new_entry c old n page (may.valid t) (may.tree t) (primary may sound t) named count at

    is_new : IsNew c old n page (putting_new c old n page (may.valid t) (may.tree t) (primary may sound t) named count (found t))
    is_new = record {
      others = new_name c old n page (may.valid t) (may.tree t) (primary may sound t) named count at;
      few = subst (λ k. k < names_max) (sym (new_count c old n page (may.valid t) (may.tree t) (primary may sound t) named count at)) less;
    }

    found_new : (ahead : ℕ) (D : Putting c old n page → Type 0) → cond {A = ℕ} (not (has_room old.world (found t).chains) && true) 1 0 ≡ ahead → D x → Found c old n page body ahead D
    found_new ahead D extra here = record {
      putting = x;
      refused = refused_new c old n at.chains at.under body lacks ahead is_new.few extra;
      needed = needed_new c old n at.chains at.under body lacks ahead extra;
      here = here;
    }

    pub found_roomy : length (entries_in page.cluster) < entries_room (block_len_of (dir_cluster page.cluster)) → Found c old n page body 0 (IsNew c old n page)
    found_roomy roomy = found_new 0 (IsNew c old n page) (ap (λ b. cond {A = ℕ} (not b && true) 1 0) (roomy_there c old n page (may.valid t) (may.tree t) (primary may sound t) named count at roomy)) is_new

    pub found_full : entries_room (block_len_of (dir_cluster page.cluster)) ≤ length (entries_in page.cluster) → Found c old n page body 1 (IsNewBehind c old n page)
    found_full full = found_new 1 (IsNewBehind c old n page) (ap (λ b. cond {A = ℕ} (not b && true) 1 0) (full_there c old n page (may.valid t) (may.tree t) (primary may sound t) named count at full))
        (record { new = is_new; none = none_behind c old n page (may.valid t) (may.tree t) (primary may sound t) named count at full })

-- ---- the new file

-- want of room refuses it
pub put_refused : {X : Type 0} {told : Type 0} {c : Client} {old : DiskView} {n : Name} {page : Page} {body : List ℕ} {ahead : ℕ} {D : Putting c old n page → Type 0} → (told → Found c old n page body ahead D)
    → (new : DiskView) (e : FsRefusal) → (told → e ≢ no.Device → no_room_in old.world (clusters_for old.world.geometry (length body) + ahead) (clusters_for old.world.geometry (length body) + ahead) ≡ Some e) → (told → e ≢ no.Device → new.world ≡ old.world)
    → Runs {X = X} told old new (IsAside c.root old.world) (Err e) → Ends told c old new (ask.Put (n ∷ []) body) (Err e)
put_refused {told = told} {c = c} {old = old} {n = n} {body = body} found new e full same runs =
    refused_ends told c old new (ask.Put (n ∷ []) body) e (λ t ne. (found t).refused ∙ full t ne) same (aside_runs told c old new (ask.Put (n ∷ []) body) (Err e) runs)

-- it stands under the cluster, and nothing names it yet
pub record Made (told : Type 0) (c : Client) (old mid : DiskView) (n : Name) (page : Page) (body blocks : List ℕ) (ahead : ℕ) (D : Putting c old n page → Type 0) : Type 0 where
  pub found : told → Found c old n page body ahead D
  pub made : told → NewFile c old mid page.block ahead body blocks
  pub some : ahead < length blocks
  pub linkable : AreLinkable blocks
  pub room : told → ◌≡◌ {A = Option FsRefusal} (no_room_in old.world (clusters_for old.world.geometry (length body) + ahead) (clusters_for old.world.geometry (length body) + ahead)) None
  pub runs : Runs told old mid (IsAside c.root old.world) (Ok blocks)

module _ {told : Type 0} {c : Client} {old mid : DiskView} {n : Name} {page : Page} {body blocks : List ℕ} {ahead : ℕ} {D : Putting c old n page → Type 0} (m : Made told c old mid n page body blocks ahead D) where
  abbrev a : ShellAsk
  a = ask.Put (n ∷ []) body

  granted : told → ◌≡◌ {A = Option FsRefusal} (refused_on (mounted_by c) old (ask.Put (n ∷ []) body)) None
  granted t = (m.found t).refused ∙ m.room t

  -- what is left to say of bytes that are written to a block
  abbrev Fit : ℕ → (World → Type 0) → List ℕ → Type 0
  Fit b E bs = MayWrite c mid b × (length bs ≤ block_len mid.world.geometry) × (Leads mid.world (write_by c b bs) (written mid.world b bs) → E (written mid.world b bs))

  writes : (b : ℕ) (bs : List ℕ) (E : World → Type 0) → (told → Fit b E bs) → (told → (w : World) → E w → IsEitherTree (mounted_by c) old a w) → Writing told c old mid a b bs E
  writes b bs E fit either = record {
    so_far = runs_as told old mid (IsEitherTree (mounted_by c) old a) blocks tt (aside_runs told c old mid a (Ok blocks) m.runs);
    kept = λ t. subst (λ k. KeepsRoom k old.world mid.world) (sym (m.found t).needed) (file_takes c old mid page.block ahead body blocks (m.found t).putting.valid.valid (m.made t));
    may = λ t. (fit t).0;
    fits = λ t. (fit t).1;
    leads = λ t. (fit t).2;
    still = λ t. aside_either c old n page (m.found t).putting body mid.world (aside_now c.root old.world page.block (stage c old n page (m.found t).putting) blocks mid.world (m.made t).making);
    either = either;
  }

-- ---- the write of the cluster

-- its bytes, of the name and the block that they are made of
pub entered_is : (next : Option ℕ) (position : ℕ) (es : List Entry) {m n : Name} {new blocks : List ℕ} → m ≡ n → new ≡ blocks
    → directory_bytes next (listed_at position (record { name = m; block = slice_index_or new 0 0 }) es) ≡ directory_bytes next (listed_at position (record { name = n; block = slice_index_or blocks 0 0 }) es)
entered_is next position es e q = cc

-- with the entry in place of the old one
pub writes_over : {told : Type 0} {c : Client} {old mid : DiskView} {n : Name} {page : Page} {body blocks : List ℕ} {position first : ℕ} → Made told c old mid n page body blocks 0 (IsOver c old n page position first)
    → Writing told c old mid (ask.Put (n ∷ []) body) page.block (directory_bytes (cluster_of (dir_cluster page.cluster)).next (listed_at position (record { name = n; block = slice_index_or blocks 0 0 }) (entries_in page.cluster))) (λ w. LetsGo c old (ask.Put (n ∷ []) body) w page.block first)
writes_over {told} {c} {old} {mid} {n} {page} {body} {blocks} {position} {first} m =
    let es = entries_in page.cluster in
    let next = (cluster_of (dir_cluster page.cluster)).next in
    let E : World → Type 0 = λ w. LetsGo c old (ask.Put (n ∷ []) body) w page.block first in
    writes m page.block (directory_bytes next (listed_at position (record { name = n; block = slice_index_or blocks 0 0 }) es)) E
    (λ t. let x = (m.found t).putting in let at = (m.found t).here in
    subst (Fit m page.block E) (sym (set_bytes next n (slice_index_or blocks 0 0) es position first at)) (
      (m.made t).may page.block x.may,
      set_fits c old n page x body blocks mid (m.made t) (m.room t) m.linkable m.some position first at,
      set_lets c old n page x body blocks mid (m.made t) (m.room t) m.linkable m.some position first at (granted m t),
    ))
    (λ t w lets. decided_either c old (ask.Put (n ∷ []) body) w (This_loose page.block first) lets.decided)

-- with the entry behind the others
pub writes_behind : {told : Type 0} {c : Client} {old mid : DiskView} {n : Name} {page : Page} {body blocks : List ℕ} → Made told c old mid n page body blocks 0 (IsNew c old n page)
    → (position : ℕ) → position ≡ length (entries_in page.cluster) → length (entries_in page.cluster) < entries_room (block_len_of (dir_cluster page.cluster))
    → Writing told c old mid (ask.Put (n ∷ []) body) page.block (directory_bytes (cluster_of (dir_cluster page.cluster)).next (listed_at position (record { name = n; block = slice_index_or blocks 0 0 }) (entries_in page.cluster))) (λ w. Decided c old (ask.Put (n ∷ []) body) w None_loose)
writes_behind {told} {c} {old} {mid} {n} {page} {body} {blocks} m position last roomy =
    let es = entries_in page.cluster in
    let next = (cluster_of (dir_cluster page.cluster)).next in
    let E : World → Type 0 = λ w. Decided c old (ask.Put (n ∷ []) body) w None_loose in
    writes m page.block (directory_bytes next (listed_at position (record { name = n; block = slice_index_or blocks 0 0 }) es)) E
    (λ t. let x = (m.found t).putting in let new = (m.found t).here in
    subst (Fit m page.block E) (sym (add_bytes next n (slice_index_or blocks 0 0) es position last)) (
      (m.made t).may page.block x.may,
      add_fits c old n page x body blocks mid (m.made t) (m.room t) m.linkable m.some new.others new.few roomy,
      add_decided c old n page x body blocks mid (m.made t) (m.room t) m.linkable m.some new.others new.few roomy (granted m t),
    ))
    (λ t w decided. decided_either c old (ask.Put (n ∷ []) body) w None_loose decided)

-- ---- the two writes of a new cluster

pub one_is : {m n : Name} {new blocks : List ℕ} → m ≡ n → new ≡ blocks → directory_bytes None (record { name = m; block = slice_index_or new 1 0 } ∷ []) ≡ directory_bytes None (record { name = n; block = slice_index_or blocks 1 0 } ∷ [])
one_is e q = cc

-- the new cluster, with the entry alone
pub writes_new : {told : Type 0} {c : Client} {old mid : DiskView} {n : Name} {page : Page} {body blocks : List ℕ} → Made told c old mid n page body blocks 1 (IsNewBehind c old n page)
    → Writing told c old mid (ask.Put (n ∷ []) body) (slice_index_or blocks 0 0) (directory_bytes None (record { name = n; block = slice_index_or blocks 1 0 } ∷ [])) (Making c.root old.world page.block blocks)
writes_new {told} {c} {old} {mid} {n} {page} {body} {blocks} m =
    writes m (slice_index_or blocks 0 0) (directory_bytes None (record { name = n; block = slice_index_or blocks 1 0 } ∷ [])) (Making c.root old.world page.block blocks)
    (λ t. let x = (m.found t).putting in (
      (m.made t).own (slice_index_or blocks 0 0) (first_among c old n page x body blocks mid (m.made t) (m.room t) m.linkable m.some),
      one_fits c old n page x body blocks mid (m.made t) (m.room t) m.linkable m.some,
      making_one c old n page x body blocks mid (m.made t) (m.room t) m.linkable m.some,
    ))
    (λ t w making. let x = (m.found t).putting in aside_either c old n page x body w (aside_now c.root old.world page.block (stage c old n page x) blocks w making))

-- then the last one, which leads to it
pub writes_linked : {told : Type 0} {c : Client} {old mid wr : DiskView} {n : Name} {page : Page} {body blocks : List ℕ} (m : Made told c old mid n page body blocks 1 (IsNewBehind c old n page))
    → Steps {X = Unit {0}} told c mid wr (write_by c (slice_index_or blocks 0 0) (directory_bytes None (record { name = n; block = slice_index_or blocks 1 0 } ∷ []))) (slice_index_or blocks 0 0)
    (written mid.world (slice_index_or blocks 0 0) (directory_bytes None (record { name = n; block = slice_index_or blocks 1 0 } ∷ []))) (Ok tt)
    → Writing told c old wr (ask.Put (n ∷ []) body) page.block (directory_bytes (Some (slice_index_or blocks 0 0)) (entries_in page.cluster)) (λ w. Decided c old (ask.Put (n ∷ []) body) w None_loose)
writes_linked {told} {c} {old} {mid} {wr} {n} {page} {body} {blocks} m steps =
    let a = ask.Put (n ∷ []) body in
    let bytes = directory_bytes (Some (slice_index_or blocks 0 0)) (entries_in page.cluster) in
    let first = writes_new m in
    record {
      so_far = write_runs first wr (Ok tt) steps;
      kept = kept_then first steps;
      may = λ t. may_then first steps t page.block ((m.made t).may page.block (m.found t).putting.may);
      fits = λ t. let x = m.found t in subst (λ w. length bytes ≤ block_len w.geometry) (sym (steps.went t).world)
          (linked_fits c old n page x.putting body blocks mid (m.made t) (m.room t) m.linkable m.some (steps.went t).leads x.here.none x.here.new.others x.here.new.few);
      leads = λ t. let x = m.found t in subst (λ w. Leads w (write_by c page.block bytes) (written w page.block bytes) → Decided c old a (written w page.block bytes) None_loose) (sym (steps.went t).world)
          (extend_decided c old n page x.putting body blocks mid (m.made t) (m.room t) m.linkable m.some (steps.went t).leads x.here.none x.here.new.others x.here.new.few (granted m t));
      still = λ t. first.either t wr.world (led_to first steps t);
      either = λ t w decided. decided_either c old a w None_loose decided;
    }
