-- Records of a version, and their bytes.
use Rattle.std.proofs.Common.{◌≡◌, inl, inr, ℕ, zero, suc, ◌+◌, ◌-◌, ◌*◌, ◌<◌, ◌≤◌, ◌==◌, true, List, [], ◌∷◌, ◌++◌, length, take, drop, get_or, set, replicate, Some, refl, sym, ◌∙◌, ap, subst, arith, append_assoc, append-nil}
use Rattle.std.specs.Prelude.{map, slice_get}
use Rattle.std.specs.List.{flat_map, list_all}
use Rattle.std.proofs.lemmas.Bool.{and_from}
use Rattle.std.proofs.lemmas.List.{length-append, length-map, length-take-le, map-append, take_at, take_all, take_more, take-append-drop, drop_at, drop_all, drop_more, drop-drop, drop-replicate, get_or_at, set_at}
use Rattle.std.proofs.lemmas.List.Concat.{flat_map-append}
use Rattle.std.proofs.lemmas.Option.{same_Some, none-some}
use Rattle.sha2.proofs.Facts256.{length-sha256}
use Rattle.tsd_model.specs.declared.caps.Cap.{Cap}
use Rattle.tsd_model.specs.declared.caps.CapPair.{CapPair}
use Rattle.tsd_model.specs.declared.records.KeptCap.{KeptCap}
use Rattle.tsd_model.specs.declared.records.KeptCap.TheVariants.{Plain, Digested}
use Rattle.tsd_model.specs.declared.records.Record.{Record}
use Rattle.tsd_model.specs.Records.{is_of_version, is_record_of, kept, kept_of, upgraded_kept, upgraded_record}
use Rattle.image_layout.specs.Header.{IsVersion}
use Rattle.image_layout.specs.Image.{kept_len}
use Rattle.cap_store.specs.Store.{IsOfVersion, IsRecord, AreRecords}
use Rattle.cap_store.specs.Stored.{kept_as, kept_bytes, record_bytes, sector_record}

-- there are two versions
pub for_version : (P : ℕ → Type 0) → P 1 → P 2 → (version : ℕ) → IsVersion version → P version
for_version P one two version (inl is) = subst P (sym is) one
for_version P one two version (inr is) = subst P (sym is) two

-- ---- what a version keeps
kept_is : (c : Cap) → length c.bytes ≡ 16 → (version : ℕ) → IsVersion version → IsOfVersion version (kept_of version c)
kept_is c long = for_version (λ v. IsOfVersion v (kept_of v c)) (refl, long) (refl, length-sha256 c.bytes)

pub record_is : (version : ℕ) (caps : CapPair) → IsVersion version → length caps.read.bytes ≡ 16 → length caps.write.bytes ≡ 16 → IsRecord version (kept version caps)
record_is version caps is read write = record { read = kept_is caps.read read version is; write = kept_is caps.write write version is }

is_of_version_kept : (version : ℕ) (k : KeptCap) → IsOfVersion version k → is_of_version version k ≡ true
is_of_version_kept version (Plain c) is = subst (λ v. (v == 1) ≡ true) (sym is.0) refl
is_of_version_kept version (Digested d) is = subst (λ v. (v == 2) ≡ true) (sym is.0) refl

-- each record is of the version, as a world asks it
pub all_of_version : (version : ℕ) (rs : List Record) → AreRecords version rs → list_all (is_record_of version) rs ≡ true
all_of_version version [] are = refl
all_of_version version (x ∷ xs) are =
    let first = are zero x refl in
    and_from (is_record_of version x) (list_all (is_record_of version) xs)
    (and_from (is_of_version version x.read) (is_of_version version x.write) (is_of_version_kept version x.read first.read) (is_of_version_kept version x.write first.write))
    (all_of_version version xs (λ b s at. are (suc b) s at))

upgraded_is : (k : KeptCap) (version : ℕ) → IsOfVersion version k → IsOfVersion 2 (upgraded_kept k)
upgraded_is (Plain c) version is = (refl, length-sha256 c.bytes)
upgraded_is (Digested d) version is = (refl, subst (λ v. length d ≡ kept_len v) is.0 is.1)

-- each record of an upgraded list is of version 2
pub upgraded_are : (version : ℕ) (rs : List Record) → AreRecords version rs → AreRecords 2 (map upgraded_record rs)
upgraded_are version [] are block r is = absurd (none-some r is)
upgraded_are version (x ∷ xs) are zero r is =
    let first = are zero x refl in
    subst (IsRecord 2) (same_Some (upgraded_record x) r is) (record { read = upgraded_is x.read version first.read; write = upgraded_is x.write version first.write })
upgraded_are version (x ∷ xs) are (suc block) r is = upgraded_are version xs (λ b s at. are (suc b) s at) block r is

digest_stays : (k : KeptCap) → IsOfVersion 2 k → upgraded_kept k ≡ k
digest_stays (Plain c) is = absurd (let never : 2 ≡ 1 = is.0 in omega arith)
digest_stays (Digested d) is = refl

-- records of version 2 stay as they are
pub upgraded_stays : (rs : List Record) → AreRecords 2 rs → map upgraded_record rs ≡ rs
upgraded_stays [] are = refl
upgraded_stays (x ∷ xs) are =
    let first = are zero x refl in
    let head : upgraded_record x ≡ x = λ i. record { read = digest_stays x.read first.read i; write = digest_stays x.write first.write i } in
    (λ i. head i ∷ upgraded_stays xs (λ b s at. are (suc b) s at) i)

-- ---- the bytes of a record
kept_long : (version : ℕ) (k : KeptCap) → IsOfVersion version k → length (kept_bytes k) ≡ kept_len version
kept_long version (Plain c) is = is.1
kept_long version (Digested d) is = is.1

record_long : (version : ℕ) (r : Record) → IsRecord version r → length (record_bytes r) ≡ 2 * kept_len version
record_long version r is =
    let read = kept_long version r.read is.read in
    let write = kept_long version r.write is.write in
    omega (arith, length-append (kept_bytes r.read) (kept_bytes r.write), read, write)

pub records_long : (version : ℕ) (rs : List Record) → AreRecords version rs → length (flat_map record_bytes rs) ≡ 2 * kept_len version * length rs
records_long version [] are = omega arith
records_long version (x ∷ xs) are =
    let first = record_long version x (are zero x refl) in
    let rest = records_long version xs (λ b s at. are (suc b) s at) in
    omega (arith, length-append (record_bytes x) (flat_map record_bytes xs), first, rest)

-- ---- records read back from their bytes
read_back : (version : ℕ) (k : KeptCap) → IsOfVersion version k → kept_as version (kept_bytes k) ≡ k
read_back version (Plain c) is = subst (λ v. kept_as v c.bytes ≡ Plain c) (sym is.0) refl
read_back version (Digested d) is = subst (λ v. kept_as v d ≡ Digested d) (sym is.0) refl

pub records_back : (version : ℕ) (rs : List Record) (rest : List ℕ) (k : ℕ) (r : Record) → AreRecords version rs → slice_get rs k ≡ Some r
    → sector_record version (flat_map record_bytes rs ++ rest) k ≡ r
records_back version [] rest k r are is = absurd (none-some r is)
records_back version (x ∷ xs) rest zero r are is =
    let first : IsRecord version x = are zero x refl in
    let len : ℕ = kept_len version in
    let R : List ℕ = kept_bytes x.read in
    let W : List ℕ = kept_bytes x.write in
    let T : List ℕ = flat_map record_bytes xs ++ rest in
    let whole : flat_map record_bytes (x ∷ xs) ++ rest ≡ R ++ (W ++ T) = append_assoc (R ++ W) (flat_map record_bytes xs) rest ∙ append_assoc R W T in
    let at_read : 2 * len * 0 ≡ 0 = omega arith in
    let at_write : 2 * len * 0 + len ≡ len = omega arith in
    let read : take len (drop (2 * len * 0) (flat_map record_bytes (x ∷ xs) ++ rest)) ≡ R =
    ap (λ n. take len (drop n (flat_map record_bytes (x ∷ xs) ++ rest))) at_read ∙ ap (take len) whole ∙ take_at R (W ++ T) len (kept_long version x.read first.read) in
    let write : take len (drop (2 * len * 0 + len) (flat_map record_bytes (x ∷ xs) ++ rest)) ≡ W =
    ap (λ n. take len (drop n (flat_map record_bytes (x ∷ xs) ++ rest))) at_write ∙ ap (λ l. take len (drop len l)) whole ∙ ap (take len) (drop_at R (W ++ T) len (kept_long version x.read first.read)) ∙ take_at W T len (kept_long version x.write first.write) in
    let is_x : sector_record version (flat_map record_bytes (x ∷ xs) ++ rest) 0 ≡ x = λ i. record {
      read = (ap (kept_as version) read ∙ read_back version x.read first.read) i;
      write = (ap (kept_as version) write ∙ read_back version x.write first.write) i;
    } in
    is_x ∙ same_Some x r is
records_back version (x ∷ xs) rest (suc k) r are is =
    let len : ℕ = kept_len version in
    let T : List ℕ = flat_map record_bytes xs ++ rest in
    let size : length (record_bytes x) ≡ 2 * len = record_long version x (are zero x refl) in
    let past : (n : ℕ) → drop (2 * len + n) (flat_map record_bytes (x ∷ xs) ++ rest) ≡ drop n T =
    λ n. sym (drop-drop n (2 * len) (flat_map record_bytes (x ∷ xs) ++ rest)) ∙ ap (drop n) (ap (drop (2 * len)) (append_assoc (record_bytes x) (flat_map record_bytes xs) rest) ∙ drop_at (record_bytes x) T (2 * len) size) in
    let all : List ℕ = flat_map record_bytes (x ∷ xs) ++ rest in
    let at_read : 2 * len * suc k ≡ 2 * len + 2 * len * k = omega arith in
    let at_write : 2 * len * suc k + len ≡ 2 * len + (2 * len * k + len) = omega arith in
    let read : drop (2 * len * suc k) all ≡ drop (2 * len * k) T = ap (λ n. drop n all) at_read ∙ past (2 * len * k) in
    let write : drop (2 * len * suc k + len) all ≡ drop (2 * len * k + len) T = ap (λ n. drop n all) at_write ∙ past (2 * len * k + len) in
    let moved : sector_record version all (suc k) ≡ sector_record version T k = λ i. record { read = kept_as version (take len (read i)); write = kept_as version (take len (write i)) } in
    moved ∙ records_back version xs rest k r (λ b s at. are (suc b) s at) is

-- ---- records written one after another
-- a record where there is none
abbrev pub blank : Record
blank = record { read = Plain (record { bytes = [] }); write = Plain (record { bytes = [] }) }

-- one record more
more_bytes : (rs : List Record) (i : ℕ) → i < length rs
    → flat_map record_bytes (take (i + 1) rs) ≡ (flat_map record_bytes (take i rs) ++ kept_bytes (get_or rs i blank).read) ++ kept_bytes (get_or rs i blank).write
more_bytes rs i less =
    let r : Record = get_or rs i blank in
    let front : List ℕ = flat_map record_bytes (take i rs) in
    ap (flat_map record_bytes) (take_more rs i blank less) ∙ flat_map-append record_bytes (take i rs) (r ∷ [])
    ∙ ap (λ l. front ++ l) (append-nil (record_bytes r)) ∙ sym (append_assoc front (kept_bytes r.read) (kept_bytes r.write))

-- a record more has room where all have
pub room : (rs : List Record) (i : ℕ) → i < length rs → length (flat_map record_bytes rs) ≤ 512
    → (length (flat_map record_bytes (take i rs)) + length (kept_bytes (get_or rs i blank).read)) + length (kept_bytes (get_or rs i blank).write) ≤ 512
room rs i less fits =
    let r : Record = get_or rs i blank in
    let front : List ℕ = flat_map record_bytes (take i rs) in
    let back : List ℕ = flat_map record_bytes (drop (i + 1) rs) in
    let all : flat_map record_bytes rs ≡ flat_map record_bytes (take (i + 1) rs) ++ back =
    ap (flat_map record_bytes) (sym (take-append-drop (i + 1) rs)) ∙ flat_map-append record_bytes (take (i + 1) rs) (drop (i + 1) rs) in
    let longer : length (flat_map record_bytes rs) ≡ length (flat_map record_bytes (take (i + 1) rs)) + length back = ap length all ∙ length-append (flat_map record_bytes (take (i + 1) rs)) back in
    let taken : length (flat_map record_bytes (take (i + 1) rs)) ≡ (length front + length (kept_bytes r.read)) + length (kept_bytes r.write) =
    ap length (more_bytes rs i less) ∙ length-append (front ++ kept_bytes r.read) (kept_bytes r.write) ∙ ap (λ n. n + length (kept_bytes r.write)) (length-append front (kept_bytes r.read)) in
    omega (arith, longer, taken, fits)

-- bytes more in front of the zeros
put_more : (front kept : List ℕ) (at : ℕ) (old new : List ℕ) → at ≡ length front → old ≡ front ++ replicate (512 - at) 0
    → new ≡ take at old ++ kept ++ drop (at + length kept) old → new ≡ (front ++ kept) ++ replicate (512 - (at + length kept)) 0
put_more front kept at old new is so_far put =
    let zs : List ℕ = replicate (512 - at) 0 in
    let before : take at old ≡ front = ap (take at) so_far ∙ take_at front zs at (sym is) in
    let behind : drop (at + length kept) old ≡ replicate (512 - (at + length kept)) 0 =
    sym (drop-drop (length kept) at old) ∙ ap (drop (length kept)) (ap (drop at) so_far ∙ drop_at front zs at (sym is)) ∙ drop-replicate (length kept) (512 - at) 0 ∙ ap (λ n. replicate n 0) (less at (length kept)) in
    put ∙ (λ i. (before i ++ kept) ++ behind i)
  where
    less : (m n : ℕ) → 512 - m - n ≡ 512 - (m + n)
    less m n = omega arith

-- a record more in front of the zeros
pub record_put : (rs : List Record) (i at mid end : ℕ) (old half new : List ℕ) → i < length rs
    → at ≡ length (flat_map record_bytes (take i rs)) → old ≡ flat_map record_bytes (take i rs) ++ replicate (512 - at) 0
    → mid ≡ at + length (kept_bytes (get_or rs i blank).read)
    → half ≡ take at old ++ kept_bytes (get_or rs i blank).read ++ drop (at + length (kept_bytes (get_or rs i blank).read)) old
    → end ≡ mid + length (kept_bytes (get_or rs i blank).write)
    → new ≡ take mid half ++ kept_bytes (get_or rs i blank).write ++ drop (mid + length (kept_bytes (get_or rs i blank).write)) half
    → (end ≡ length (flat_map record_bytes (take (i + 1) rs))) × (new ≡ flat_map record_bytes (take (i + 1) rs) ++ replicate (512 - end) 0)
record_put rs i at mid end old half new less is so_far is_mid put is_end put2 =
    let R : List ℕ = kept_bytes (get_or rs i blank).read in
    let W : List ℕ = kept_bytes (get_or rs i blank).write in
    let front : List ℕ = flat_map record_bytes (take i rs) in
    let first : half ≡ (front ++ R) ++ replicate (512 - mid) 0 = put_more front R at old half is so_far put ∙ ap (λ n. (front ++ R) ++ replicate (512 - n) 0) (sym is_mid) in
    let mid_is : mid ≡ length (front ++ R) = is_mid ∙ ap (λ n. n + length R) is ∙ sym (length-append front R) in
    let second : new ≡ ((front ++ R) ++ W) ++ replicate (512 - (mid + length W)) 0 = put_more (front ++ R) W mid half new mid_is first put2 in
    let all = more_bytes rs i less in
    let end_is : end ≡ length ((front ++ R) ++ W) = is_end ∙ ap (λ n. n + length W) mid_is ∙ sym (length-append (front ++ R) W) in (
      end_is ∙ ap length (sym all),
      second ∙ (λ j. sym all j ++ replicate (512 - sym is_end j) 0),
    )

-- ---- records upgraded one after another
pub map_more : (rs now : List Record) (i : ℕ) (d : Record) → i < length rs → now ≡ map upgraded_record (take i rs) ++ drop i rs
    → set now i (upgraded_record (get_or now i d)) ≡ map upgraded_record (take (i + 1) rs) ++ drop (i + 1) rs
map_more rs now i d less so_far =
    let x : Record = get_or rs i d in
    let front : List Record = map upgraded_record (take i rs) in
    let back : List Record = drop (i + 1) rs in
    let long : length front ≡ i = length-map (take i rs) upgraded_record ∙ length-take-le i rs (omega arith) in
    let is : now ≡ front ++ x ∷ back = so_far ∙ ap (λ l. front ++ l) (drop_more rs i d less) in
    let here : get_or now i d ≡ x = ap (λ l. get_or l i d) is ∙ get_or_at front x back d i long in
    (λ j. set (is j) i (upgraded_record (here j))) ∙ set_at front x back (upgraded_record x) i long
    ∙ sym (append_assoc front (upgraded_record x ∷ []) back)
    ∙ ap (λ l. l ++ back) (sym (map-append upgraded_record (take i rs) (x ∷ [])) ∙ ap (map upgraded_record) (sym (take_more rs i d less)))

pub map_all : (rs now : List Record) (i : ℕ) → length rs ≤ i → now ≡ map upgraded_record (take i rs) ++ drop i rs → now ≡ map upgraded_record rs
map_all rs now i past so_far =
    so_far ∙ ap (λ l. map upgraded_record (take i rs) ++ l) (drop_all i rs past) ∙ append-nil (map upgraded_record (take i rs)) ∙ ap (map upgraded_record) (take_all i rs past)
