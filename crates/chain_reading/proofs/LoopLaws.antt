-- What holds while clusters are looked at one after the other.
use Rattle.std.proofs.Common.{◌≡◌, ℕ, suc, ◌+◌, ◌-◌, ◌*◌, ◌<◌, ◌≤◌, Bool, true, false, not, cond, ◌==◌, nat_le, List, [], ◌∷◌, length, refl, sym, ◌∙◌, ap, subst, arith, Option, Some, None, Ok}
use Rattle.chain_reading.proofs.Common.{eqb-true, drop, slice_index, option_and_then, World, has_number, holds, only_if, Entry, Cluster, names_max, HoldsWrite, ways_lead_on, DiskView, state_of, IsValidNow, Stays, Client, shown_at, MayWrite, Looked, OnlyLooks, may_again, has_block, Gains, Agrees, BlockSet, is_false, drop_at, drop_end, agrees_more, is_new, entry_blocks, part_seen, ListedCluster, page_seen, go_on, file_by, file_from, files_from, page_on, directory_by, directory_from, Comes}

-- ---- what is come to

pub comes_none : (m : BlockSet) (o : Option (List ℕ)) → ◌≡◌ {A = Option (List ℕ)} o None → Comes m o false
comes_none m None e = refl
comes_none m (Some s) e = absurd (cc)

pub comes_some : (m : BlockSet) (o : Option (List ℕ)) (s : List ℕ) → o ≡ Some s → Agrees m s → Comes m o true
comes_some m o s e h = subst (λ x. Comes m x true) (sym e) (refl, h)

pub none_of : (m : BlockSet) (o : Option (List ℕ)) → Comes m o false → ◌≡◌ {A = Option (List ℕ)} o None
none_of m None h = refl
none_of m (Some s) h = absurd (let never = h.0 in cc)

pub some_of : (m : BlockSet) (o : Option (List ℕ)) → Comes m o true → (s : List ℕ) × (o ≡ Some s) × Agrees m s
some_of m None h = absurd (cc)
some_of m (Some s) h = (s, refl, h.1)

-- what a block points to may be written, where that block may
pub led_may : (c : Client) (old new : DiskView) (a b d : ℕ) → IsValidNow new → MayWrite c old a → Stays old new → holds new.world.pairs b d ≡ true → HoldsWrite (state_of new) c.session b → MayWrite c new d
led_may c old new a b d now may stays pair held = record {
  number = may.number;
  begun = stays.sessions c.session ∙ may.begun;
  live = now.valid.raw.targets b d pair;
  attains = ways_lead_on (state_of new) c.session b d (shown_at c d) (now.valid.raw.apart b d pair) pair held;
}

deeper : (n i : ℕ) → i < n → n - i ≡ suc (n - (i + 1))
deeper n i h = omega arith

no_more : (n i : ℕ) → n ≤ i → n - i ≡ 0
no_more n i h = omega arith

not_first : (i : ℕ) → (i + 1 == 0) ≡ false
not_first i = is_false (i + 1 == 0) (λ e. let never = eqb-true (i + 1) 0 e in absurd (omega (arith, never)))

-- a loop over as many as there are blocks
pub within_is : (v : DiskView) (end i : ℕ) → v.world.geometry.blocks ≡ v.geometry.blocks → end ≡ v.geometry.blocks → i < end → i < v.world.geometry.blocks
within_is v end i sound is h = omega (arith, sound, is, h)

pub over_is : (v : DiskView) (end i : ℕ) → v.world.geometry.blocks ≡ v.geometry.blocks → end ≡ v.geometry.blocks → end ≤ i → v.world.geometry.blocks ≤ i
over_is v end i sound is h = omega (arith, sound, is, h)

-- ---- a file

-- after i clusters of a file it goes on at this block, and what was come to by then is in the set
abbrev pub FileGoesOn : World → ℕ → ℕ → ℕ → BlockSet → BlockSet → Type 0
FileGoesOn w start i b begun m = (s : List ℕ) → Agrees begun s → (t : List ℕ) × Agrees m t × (file_from w w.geometry.blocks true start s ≡ file_from w (w.geometry.blocks - i) (i == 0) b t)

pub record Following (told : Type 0) (c : Client) (first now : DiskView) (start i b : ℕ) (begun m : BlockSet) : Type 0 where
  pub looks : OnlyLooks {X = Unit {0}} told first now (Ok tt)
  pub may : told → MayWrite c now b
  pub on : told → FileGoesOn first.world start i b begun m

pub file_begins : (w : World) (start : ℕ) (m : BlockSet) → FileGoesOn w start 0 start m m
file_begins w start m s agrees = (s, agrees, ap (λ n. file_from w n true start s) (sym (all w.geometry.blocks)))
  where
    all : (n : ℕ) → n - 0 ≡ n
    all n = omega arith

module _ (w : World) (start i b : ℕ) (begun m next : BlockSet) (on : FileGoesOn w start i b begun m) where
  pub file_over : w.geometry.blocks ≤ i → (s : List ℕ) → Agrees begun s → Comes m (file_from w w.geometry.blocks true start s) false
  file_over over s agrees = let so = on s agrees in comes_none m _ (so.2 ∙ ap (λ n. file_from w n (i == 0) b so.0) (no_more w.geometry.blocks i over))

  module _ (within : i < w.geometry.blocks) where
    abbrev rest : ℕ
    rest = w.geometry.blocks - (i + 1)

    file_step : (s : List ℕ) (agrees : Agrees begun s) → file_from w w.geometry.blocks true start s ≡ cond (has_number (on s agrees).0 b) None (file_by (λ d u. file_from w rest false d u) (b ∷ (on s agrees).0) (part_seen w (i == 0) b))
    file_step s agrees = (on s agrees).2 ∙ ap (λ n. file_from w n (i == 0) b (on s agrees).0) (deeper w.geometry.blocks i within)

    pub file_twice : (result : Bool) → result ≡ not (has_block m b) → result ≡ false → (s : List ℕ) → Agrees begun s → Comes next (file_from w w.geometry.blocks true start s) false
    file_twice result tells old s agrees =
        let so = on s agrees in
        comes_none next _ (file_step s agrees ∙ ap (λ t. cond t None (file_by (λ d u. file_from w rest false d u) (b ∷ so.0) (part_seen w (i == 0) b))) (is_new m so.0 b result so.1 tells ∙ ap not old))

    module _ (result : Bool) (tells : result ≡ not (has_block m b)) (first : result ≡ true) where
      file_inside : (s : List ℕ) (agrees : Agrees begun s) → file_from w w.geometry.blocks true start s ≡ file_by (λ d u. file_from w rest false d u) (b ∷ (on s agrees).0) (part_seen w (i == 0) b)
      file_inside s agrees =
          let so = on s agrees in
          file_step s agrees ∙ ap (λ t. cond t None (file_by (λ d u. file_from w rest false d u) (b ∷ so.0) (part_seen w (i == 0) b))) (is_new m so.0 b result so.1 tells ∙ ap not first)

      pub file_stops : ◌≡◌ {A = Option Cluster} (part_seen w (i == 0) b) None → (s : List ℕ) → Agrees begun s → Comes next (file_from w w.geometry.blocks true start s) false
      file_stops none s agrees = comes_none next _ (file_inside s agrees ∙ ap (file_by (λ d u. file_from w rest false d u) (b ∷ (on s agrees).0)) none)

      module _ (cl : Cluster) (seen : part_seen w (i == 0) b ≡ Some cl) (small : b < 1048576) (gains : Gains m next b) where
        pub file_ends : ◌≡◌ {A = Option ℕ} cl.next None → (s : List ℕ) → Agrees begun s → Comes next (file_from w w.geometry.blocks true start s) true
        file_ends end s agrees =
            let so = on s agrees in
            comes_some next _ (b ∷ so.0)
            (file_inside s agrees ∙ (ap (file_by (λ d u. file_from w rest false d u) (b ∷ so.0)) seen ∙ ap (go_on (λ d u. file_from w rest false d u) (b ∷ so.0)) end))
            (agrees_more m next so.0 b small so.1 gains)

        pub file_goes_on : (d : ℕ) → cl.next ≡ Some d → FileGoesOn w start (i + 1) d begun next
        file_goes_on d link s agrees =
            let so = on s agrees in (
              b ∷ so.0,
              agrees_more m next so.0 b small so.1 gains,
              file_inside s agrees ∙ (ap (file_by (λ e u. file_from w rest false e u) (b ∷ so.0)) seen ∙ (ap (go_on (λ e u. file_from w rest false e u) (b ∷ so.0)) link
                  ∙ ap (λ t. file_from w rest t d (b ∷ so.0)) (sym (not_first i)))),
            )

-- ---- the files of entries

-- as many first blocks as entries
many_blocks : (es : List Entry) → length (entry_blocks es) ≡ length es
many_blocks [] = refl
many_blocks (e ∷ es) = ap (λ n. suc n) (many_blocks es)

pub within_blocks : (es : List Entry) (n i : ℕ) → n ≡ length es → i < n → i < length (entry_blocks es)
within_blocks es n i e h = let many = many_blocks es in omega (arith, many, e, h)

pub over_blocks : (es : List Entry) (n i : ℕ) → n ≡ length es → n ≤ i → length (entry_blocks es) ≤ i
over_blocks es n i e h = let many = many_blocks es in omega (arith, many, e, h)

-- after i of the files that begin at these blocks
abbrev pub FilesGoOn : World → List ℕ → ℕ → BlockSet → BlockSet → Type 0
FilesGoOn w bs i begun m = (s : List ℕ) → Agrees begun s → (t : List ℕ) × Agrees m t × (files_from w bs s ≡ files_from w (drop i bs) t)

pub record Visiting (told : Type 0) (c : Client) (first now : DiskView) (bs : List ℕ) (i : ℕ) (begun m : BlockSet) : Type 0 where
  pub looks : OnlyLooks {X = Unit {0}} told first now (Ok tt)
  pub may : told → (b : ℕ) → has_number bs b ≡ true → MayWrite c now b
  pub on : told → FilesGoOn first.world bs i begun m

-- what may be written still may
pub may_still : (c : Client) (now new : DiskView) (bs : List ℕ) → Looked now new → Stays now new → IsValidNow now → ((b : ℕ) → has_number bs b ≡ true → MayWrite c now b) → (b : ℕ) → has_number bs b ≡ true → MayWrite c new b
may_still c now new bs seen stays valid may b h = may_again c now new b seen stays valid (may b h)

-- what is told of the same world and block
pub file_told : (w first : World) (k b : ℕ) (m next : BlockSet) (result other : Bool) → w ≡ first → k ≡ b → result ≡ other
    → ((s : List ℕ) → Agrees m s → Comes next (file_from w w.geometry.blocks true k s) result) → (s : List ℕ) → Agrees m s → Comes next (file_from first first.geometry.blocks true b s) other
file_told w first k b m next result other world block test h s agrees =
    subst (λ r. Comes next (file_from first first.geometry.blocks true b s) r) test (subst (λ x. Comes next (file_from first first.geometry.blocks true x s) result) block (subst (λ u. Comes next (file_from u u.geometry.blocks true k s) result) world (h s agrees)))

module _ (w : World) (bs : List ℕ) (i : ℕ) (begun m : BlockSet) (on : FilesGoOn w bs i begun m) where
  files_step : i < length bs → (s : List ℕ) (agrees : Agrees begun s) → files_from w bs s ≡ option_and_then (λ t. files_from w (drop (i + 1) bs) t) (file_from w w.geometry.blocks true (slice_index bs i) (on s agrees).0)
  files_step h s agrees = (on s agrees).2 ∙ ap (λ xs. files_from w xs (on s agrees).0) (drop_at bs i h)

  pub files_go_on : (next : BlockSet) → i < length bs → ((s : List ℕ) → Agrees m s → Comes next (file_from w w.geometry.blocks true (slice_index bs i) s) true) → FilesGoOn w bs (i + 1) begun next
  files_go_on next h right s agrees =
      let so = on s agrees in
      let one = some_of next _ (right so.0 so.1) in
      (one.0, one.2, files_step h s agrees ∙ ap (option_and_then (λ t. files_from w (drop (i + 1) bs) t)) one.1)

  pub files_stop : (next : BlockSet) → i < length bs → ((s : List ℕ) → Agrees m s → Comes next (file_from w w.geometry.blocks true (slice_index bs i) s) false) → (s : List ℕ) → Agrees begun s → Comes next (files_from w bs s) false
  files_stop next h wrong s agrees =
      let so = on s agrees in
      comes_none next _ (files_step h s agrees ∙ ap (option_and_then (λ t. files_from w (drop (i + 1) bs) t)) (none_of next _ (wrong so.0 so.1)))

  pub files_end : length bs ≤ i → (s : List ℕ) → Agrees begun s → Comes m (files_from w bs s) true
  files_end h s agrees =
      let so = on s agrees in
      comes_some m _ so.0 (so.2 ∙ ap (λ xs. files_from w xs so.0) (drop_end bs i h)) so.1

-- ---- the directory

-- after i clusters of the directory, with so many entries, it goes on at this block
abbrev pub DirectoryGoesOn : World → ℕ → ℕ → ℕ → ℕ → BlockSet → BlockSet → Type 0
DirectoryGoesOn w start i b count begun m = (s : List ℕ) → Agrees begun s → (t : List ℕ) × Agrees m t × (directory_from w w.geometry.blocks start 0 s ≡ directory_from w (w.geometry.blocks - i) b count t)

pub record Reading (told : Type 0) (c : Client) (first now : DiskView) (start i b count : ℕ) (begun m : BlockSet) : Type 0 where
  pub looks : OnlyLooks {X = Unit {0}} told first now (Ok tt)
  pub may : told → MayWrite c now b
  pub on : told → DirectoryGoesOn first.world start i b count begun m
  pub few : count ≤ 127 * i

pub directory_begins : (w : World) (start : ℕ) (m : BlockSet) → DirectoryGoesOn w start 0 start 0 m m
directory_begins w start m s agrees = (s, agrees, ap (λ n. directory_from w n start 0 s) (sym (all w.geometry.blocks)))
  where
    all : (n : ℕ) → n - 0 ≡ n
    all n = omega arith

-- what is told of the same world
pub files_told : (w first : World) (bs : List ℕ) (m next : BlockSet) (result other : Bool) → w ≡ first → result ≡ other
    → ((s : List ℕ) → Agrees m s → Comes next (files_from w bs s) result) → (s : List ℕ) → Agrees m s → Comes next (files_from first bs s) other
files_told w first bs m next result other world test h s agrees =
    subst (λ r. Comes next (files_from first bs s) r) test (subst (λ u. Comes next (files_from u bs s) result) world (h s agrees))

module _ (w : World) (start i b count : ℕ) (begun m : BlockSet) (on : DirectoryGoesOn w start i b count begun m) where
  pub directory_over : w.geometry.blocks ≤ i → (s : List ℕ) → Agrees begun s → Comes m (directory_from w w.geometry.blocks start 0 s) false
  directory_over over s agrees = let so = on s agrees in comes_none m _ (so.2 ∙ ap (λ n. directory_from w n b count so.0) (no_more w.geometry.blocks i over))

  module _ (within : i < w.geometry.blocks) where
    abbrev behind : ℕ → ℕ → List ℕ → Option (List ℕ)
    behind d k t = directory_from w (w.geometry.blocks - (i + 1)) d k t

    directory_step : (s : List ℕ) (agrees : Agrees begun s) → directory_from w w.geometry.blocks start 0 s ≡ cond (has_number (on s agrees).0 b) None (directory_by w behind count (b ∷ (on s agrees).0) (page_seen w b))
    directory_step s agrees = (on s agrees).2 ∙ ap (λ n. directory_from w n b count (on s agrees).0) (deeper w.geometry.blocks i within)

    module _ (result : Bool) (tells : result ≡ not (has_block m b)) where
      pub directory_twice : (next : BlockSet) → result ≡ false → (s : List ℕ) → Agrees begun s → Comes next (directory_from w w.geometry.blocks start 0 s) false
      directory_twice next old s agrees =
          let so = on s agrees in
          comes_none next _ (directory_step s agrees ∙ ap (λ t. cond t None (directory_by w behind count (b ∷ so.0) (page_seen w b))) (is_new m so.0 b result so.1 tells ∙ ap not old))

      module _ (first : result ≡ true) where
        directory_inside : (s : List ℕ) (agrees : Agrees begun s) → directory_from w w.geometry.blocks start 0 s ≡ directory_by w behind count (b ∷ (on s agrees).0) (page_seen w b)
        directory_inside s agrees =
            let so = on s agrees in
            directory_step s agrees ∙ ap (λ t. cond t None (directory_by w behind count (b ∷ so.0) (page_seen w b))) (is_new m so.0 b result so.1 tells ∙ ap not first)

        pub directory_stops : (next : BlockSet) → ◌≡◌ {A = Option ListedCluster} (page_seen w b) None → (s : List ℕ) → Agrees begun s → Comes next (directory_from w w.geometry.blocks start 0 s) false
        directory_stops next none s agrees = comes_none next _ (directory_inside s agrees ∙ ap (directory_by w behind count (b ∷ (on s agrees).0)) none)

        module _ (p : ListedCluster) (seen : page_seen w b ≡ Some p) (small : b < 1048576) (mid next : BlockSet) (gains : Gains m mid b) where
          with_files : (s : List ℕ) (agrees : Agrees begun s) (o : Option (List ℕ)) → files_from w (entry_blocks p.entries) (b ∷ (on s agrees).0) ≡ o → directory_from w w.geometry.blocks start 0 s ≡ page_on behind p.cluster.next (count + length p.entries) o
          with_files s agrees o e =
              directory_inside s agrees ∙ (ap (directory_by w behind count (b ∷ (on s agrees).0)) seen ∙ ap (page_on behind p.cluster.next (count + length p.entries)) e)

          pub files_are_wrong : ((s : List ℕ) → Agrees mid s → Comes next (files_from w (entry_blocks p.entries) s) false) → (s : List ℕ) → Agrees begun s → Comes next (directory_from w w.geometry.blocks start 0 s) false
          files_are_wrong wrong s agrees =
              let so = on s agrees in
              comes_none next _ (with_files s agrees None (none_of next _ (wrong (b ∷ so.0) (agrees_more m mid so.0 b small so.1 gains))))

          module _ (right : (s : List ℕ) → Agrees mid s → Comes next (files_from w (entry_blocks p.entries) s) true) where
            pub directory_ends : ◌≡◌ {A = Option ℕ} p.cluster.next None → (few : Bool) → few ≡ nat_le (count + length p.entries) names_max → (s : List ℕ) → Agrees begun s → Comes next (directory_from w w.geometry.blocks start 0 s) few
            directory_ends end few is s agrees =
                let so = on s agrees in
                let files = some_of next _ (right (b ∷ so.0) (agrees_more m mid so.0 b small so.1 gains)) in
                subst (λ o. Comes next o few) (sym (with_files s agrees (Some files.0) files.1 ∙ ap (λ o. page_on behind o (count + length p.entries) (Some files.0)) end)) (by_test few files.0 files.2 (nat_le (count + length p.entries) names_max) is)
              where
                by_test : (few : Bool) (u : List ℕ) → Agrees next u → (test : Bool) → few ≡ test → Comes next (only_if test (λ _. Some u)) few
                by_test few u agrees true e = (e, agrees)
                by_test few u agrees false e = e

            pub directory_goes_on : (d k : ℕ) → p.cluster.next ≡ Some d → k ≡ count + length p.entries → DirectoryGoesOn w start (i + 1) d k begun next
            directory_goes_on d k link is s agrees =
                let so = on s agrees in
                let files = some_of next _ (right (b ∷ so.0) (agrees_more m mid so.0 b small so.1 gains)) in (
                  files.0,
                  files.2,
                  with_files s agrees (Some files.0) files.1 ∙ (ap (λ o. page_on behind o (count + length p.entries) (Some files.0)) link ∙ ap (λ n. behind d n files.0) (sym is)),
                )
