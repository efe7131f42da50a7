-- From the tables that were loaded to a volume at its device.
use Rattle.std.proofs.Common.{◌≡◌, ℕ, ◌&&◌, not, Bool, false, List, [], length, replicate, sym, ◌∙◌, ap, subst, arith}
use Rattle.std.proofs.Common.{Ok, Err, inl, inr}
use Rattle.volume.proofs.Common.{cases_lt, get_or-replicate, get_or_past, length-replicate, IsFirm, View, Header, header_sector, sweep_flag, IsHeaderReading, Image, says_open, home, open_records, is_gate_open, LiveMap, Kept, is_gone, Hides, HasTables, header_on, tables_of, DoFit, AreStored, tables_with, IsVolumeAt, AreParts}
use Rattle.intent_journal.proofs.Opened.{opened_none, home_of_empty}
use Rattle.intent_journal.specs.Records.{AreClosed}
use Rattle.block_alloc.specs.LiveMap.{is_live}
use Rattle.image_world.specs.Faults.{IsFormatGateOpen, IsGood, HasHeader, IsTableFault}
use Rattle.image_world.proofs.AnswerLaws.{damaged}
use Rattle.image_world.proofs.SoundLaws.{tables_good, has_one}
use Rattle.image_world.specs.declared.tables.ImageTables.{ImageTables}
use Rattle.image_world.specs.declared.fault.LoadFault.{LoadFault}
use Rattle.image_world.specs.declared.fault.LoadFault.TheVariants as table_fault
use Rattle.image_world.specs.Loading.{AnswersTables as AreLoading}
use Rattle.volume.specs.Loading.{AnswersVolume, of_tables}
use Rattle.tsd_model.proofs.ValueLaws.{and_true}

-- ---- an image whose gates are closed is its own home
at_home : (x : Image) → AreClosed x → home x ≡ x
at_home x closed = home_of_empty x (opened_none x (closed 0 (omega arith))).0

has_tables : (h : Header) (t : ImageTables) (s : Bool) (x : Image) → AreStored h t x → IsHeaderReading (x header_sector) (Ok h) → says_open (x sweep_flag) ≡ s → HasTables (tables_with h t s) x
has_tables h t s x stored header flag = record { header = header; live = stored.live; slots = stored.slots; counts = stored.counts; records = stored.records; flag = flag }

pub loaded_good : (h : Header) (t : ImageTables) (s : Bool) (x : Image) → DoFit h t → AreStored h t x → IsFormatGateOpen x → AreClosed x → IsHeaderReading (x header_sector) (Ok h) → says_open (x sweep_flag) ≡ s → IsGood x
loaded_good h t s x fit stored formatted closed header flag =
    tables_good (tables_with h t s) x formatted (opened_none x (closed 0 (omega arith))).1 (fit.sound s)
    (subst (HasTables (tables_with h t s)) (sym (at_home x closed)) (has_tables h t s x stored header flag))

-- ---- the volume
pub loaded_at : (h : Header) (t : ImageTables) (s ready spent : Bool) (old new : View) → DoFit h t → AreStored h t old.reads → IsFirm old → IsFormatGateOpen old.reads → AreClosed old.reads → IsHeaderReading (old.reads header_sector) (Ok h) → says_open (old.reads sweep_flag) ≡ s
    → new.reads ≡ old.reads → new.loose ≡ old.loose → IsVolumeAt (record { tables = tables_with h t s; ring = []; is_ready = ready; is_spent = spent }) new
loaded_at h t s ready spent old new fit stored firm formatted closed header flag reads loose =
    let x = old.reads in
    let still : IsFirm new = λ n. (λ i. loose i n) ∙ firm n in
    record {
      firm = still;
      ring = record {
        shows = ap (λ (y : Image). open_records y) reads ∙ (opened_none x (closed 0 (omega arith))).0;
        others_closed = λ index from less. ap (λ (y : Image). is_gate_open y index) reads ∙ closed index less;
        journal_firm = λ n journal. still n;
      };
      good = subst IsGood (sym reads) (loaded_good h t s x fit stored formatted closed header flag);
      tables = ap (λ (y : Image). tables_of (home y)) reads ∙ (ap tables_of (at_home x closed) ∙ has_one (tables_with h t s) x (fit.sound s) (has_tables h t s x stored header flag));
    }

-- ---- a fault of the tables is one of the image
pub loading_failed : (h : Header) (x : Image) (why : LoadFault) → IsFormatGateOpen x → AreClosed x → IsHeaderReading (x header_sector) (Ok h) → AreLoading x h (Err why) → AnswersVolume x (Err (of_tables why))
loading_failed h x table_fault.NoMemory formatted closed header failed = tt
loading_failed h x table_fault.Device formatted closed header failed = tt
loading_failed h x (table_fault.Image why) formatted closed header failed =
    let here : HasHeader x = subst (λ (k : Header). IsHeaderReading (x header_sector) (Ok k)) header.3 header in
    let found : IsTableFault x (header_on x).geometry why = subst (λ (k : Header). IsTableFault x k.geometry why) header.3 failed in
    damaged x why formatted (opened_none x (closed 0 (omega arith))).1 (subst HasHeader (sym (at_home x closed)) here)
    (subst (λ (y : Image). IsTableFault y (header_on y).geometry why) (sym (at_home x closed)) found)

-- ---- nothing is known to be doomed
pub none_gone : (n b : ℕ) → is_gone (replicate n false) b ≡ false
none_gone n b = elim (cases_lt b n) [
  | inl less ↦ get_or-replicate n b false false less
  | inr past ↦ get_or_past (replicate n false) b false (omega (arith, length-replicate n false))
]

pub none_hidden : (m : LiveMap) (k : Kept) → m.unhidden ≡ m.live → ((b : ℕ) → is_gone k.gone b ≡ false) → Hides m (is_gone k.gone)
none_hidden m k same none b = ap (λ bits. is_live bits b) same ∙ sym (ap (λ t. is_live m.live b && not t) (none b) ∙ and_true (is_live m.live b))

pub parts_fit : (h : Header) (t : ImageTables) (s : Bool) (marks : List Bool) (k : Kept) → DoFit h t → marks ≡ replicate h.geometry.blocks false → k ≡ record { counts = replicate h.geometry.blocks 0; gone = replicate h.geometry.blocks false; doomed = 0; pairs = 0 }
    → AreParts h t.pointers t.counts t.live t.caps s (length marks) k false
parts_fit h t s marks k fit marked new =
    let none : (b : ℕ) → is_gone k.gone b ≡ false = λ b. ap (λ (q : Kept). is_gone q.gone b) new ∙ none_gone h.geometry.blocks b in
    record {
      pointers = fit.pointers;
      counts = fit.counts;
      live = fit.live;
      kept_version = fit.version;
      kept = fit.caps;
      marks_each = ap length marked ∙ length-replicate h.geometry.blocks false;
      sound = fit.sound s;
      counted = ap (λ (q : Kept). length q.counts) new ∙ length-replicate h.geometry.blocks 0;
      hidden = none_hidden t.live k fit.none_hidden none;
      ahead = λ yes. absurd (cc);
      begun = λ no. none;
      still = λ yes. absurd (cc);
    }
