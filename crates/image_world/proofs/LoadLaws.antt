-- From the four loadings and the tests to the tables.
use Rattle.std.proofs.Common.{◌≡◌, ℕ, ◌<◌, sym, ◌∙◌, ap, subst}
use Rattle.std.proofs.Common.{Err}
use Rattle.image_world.proofs.Common.{Geometry, Header, IsVersion, Image, IsLoaded, AreSlots, Pointers, IsPointers, AreCounts, Counts, IsCounts, LiveMap, IsMap, AreBits, AreKept, IsTableFault, LoadFault, AreRead, IsTesting, TablesAgree}
use Rattle.cap_store.specs.Store.{IsTable as IsStore}
use Rattle.image_world.specs.declared.tables.ImageTables.{ImageTables}
use Rattle.image_world.specs.Loaded.{DoFit, AreStored}
use Rattle.image_world.specs.declared.fault.LoadFault.TheVariants as fault
use Rattle.image_world.specs.Loading.{AnswersTables}

-- three tables of one size, read from one image
pub are_read : (g : Geometry) (p : Pointers) (m : LiveMap) (c : Counts) (x y z : Image) → p.geometry ≡ g → c.geometry ≡ g → IsLoaded x g p → y ≡ x → z ≡ x
    → AreBits m.live g y → AreCounts c.counts c.geometry z → AreRead p m c x
are_read g p m c x y z size same loaded y_is z_is bits counts =
    let all : AreRead (record { geometry = g; slots = p.slots }) m c x = record {
      slots = loaded.stored;
      live = subst (λ (w : Image). AreBits m.live g w) y_is bits;
      counts = subst (λ (k : Geometry). AreCounts c.counts k x) same (subst (λ (w : Image). AreCounts c.counts c.geometry w) z_is counts);
      no_bad = loaded.no_bad;
      none_repeated = loaded.none_repeated;
    } in
    subst (λ (k : Geometry). AreRead (record { geometry = k; slots = p.slots }) m c x) (sym size) all

-- the tables of an image
pub are_stored : (h : Header) (t : ImageTables) (x w : Image) → t.pointers.geometry ≡ h.geometry → AreRead t.pointers t.live t.counts x → t.caps.version ≡ h.version → w ≡ x
    → AreKept t.caps.version t.caps.records w → AreStored h t x
are_stored h t x w size read version w_is kept = record {
  live = subst (λ (g : Geometry). AreBits t.live.live g x) size read.live;
  slots = subst (λ (g : Geometry). AreSlots t.pointers.slots g x) size read.slots;
  counts = subst (λ (g : Geometry). AreCounts t.counts.counts g x) size read.counts;
  records = subst (λ (v : ℕ). AreKept v t.caps.records x) version (subst (λ (y : Image). AreKept t.caps.version t.caps.records y) w_is kept);
}

-- tables of one disk that agree fit one another
pub do_fit : (h : Header) (t : ImageTables) → IsVersion h.version → t.pointers.geometry ≡ h.geometry → t.live.geometry ≡ h.geometry → t.counts.geometry ≡ h.geometry → t.caps.geometry ≡ h.geometry
    → t.caps.version ≡ h.version → t.live.unhidden ≡ t.live.live → IsPointers t.pointers → IsMap t.live → IsCounts t.counts → IsStore t.caps → TablesAgree t.pointers t.live t.counts → DoFit h t
do_fit h t version p m c s v hidden pointers live counts caps agree = record {
  pointers = p;
  counts = c;
  live = m;
  none_hidden = hidden;
  version = v;
  caps = s;
  sound = λ is_sweeping. record {
    version = version;
    slots = subst (λ (g : Geometry). IsPointers (record { geometry = g; slots = t.pointers.slots })) p pointers;
    each_block = live.each_block ∙ ap (λ (g : Geometry). g.blocks) m;
    each_count = counts.each ∙ ap (λ (g : Geometry). g.blocks) c;
    each_record = caps.each ∙ ap (λ (g : Geometry). g.primaries) s;
    primaries = λ b inside. agree.primaries b (subst (λ (g : Geometry). b < g.primaries) (sym m) inside);
    ends = agree.ends;
    counted = λ b inside. agree.counts b (subst (λ (g : Geometry). b < g.blocks) (sym p) inside);
  };
}

-- a test that fails is the first fault of the image
pub failed : (h : Header) (p : Pointers) (m : LiveMap) (c : Counts) (x : Image) (why : LoadFault) → p.geometry ≡ h.geometry → AreRead p m c x → IsTesting p m c (Err why) → AnswersTables x h (Err why)
failed h p m c x fault.NoMemory size read test = tt
failed h p m c x fault.Device size read test = absurd test
failed h p m c x (fault.Image why) size read test = subst (λ (g : Geometry). IsTableFault x g why) size (test x read)
