-- What a granted request leaves as it is.
use Rattle.std.proofs.Common.{◌≡◌, ℕ, Bool, true, false, not, cond, nat_lt, List, [], ◌∷◌, refl, sym, ◌∙◌, subst, Option, Some, None}
use Rattle.disk_laws.proofs.Common.{and_parts, eq-eqb, is_some, is_none, holds, World, contents, is_live, is_free, has_number, restricted, reach, doomed, chosen, chosen_run, Sessions, change, filled, with_pointer, without_pointer, with_contents, zeros, with_new_blocks, run_at, block_len, PlaceKind, Request, contents-restricted, writes_to}
use Rattle.tsd_model.specs.declared.requests.Request.TheVariants as ask
use Rattle.disk_laws.proofs.ChangeLaws.{live-with_contents, contents-other, old_pair, AllOf, AllFree, AllOf-map, chosen_are_free, chosen_run_is_free}

-- ---- new blocks

pub live-new_blocks : (a : ℕ) (bs : List ℕ) (w : World) (c : ℕ) → is_live w c ≡ true → is_live (with_new_blocks w a bs) c ≡ true
live-new_blocks a [] w c h = h
live-new_blocks a (b ∷ bs) w c h = live-new_blocks a bs (with_pointer (with_contents w b (zeros w)) a b) c (live-with_contents w b c (zeros w) h)

pub holds-new_blocks : (a : ℕ) (bs : List ℕ) (w : World) (x y : ℕ) → holds w.pairs x y ≡ true → holds (with_new_blocks w a bs).pairs x y ≡ true
holds-new_blocks a [] w x y h = h
holds-new_blocks a (b ∷ bs) w x y h = holds-new_blocks a bs (with_pointer (with_contents w b (zeros w)) a b) x y (old_pair (with_contents w b (zeros w)) a b x y h)

contents-new_blocks : (a : ℕ) (bs : List ℕ) (w : World) (c : ℕ) → AllOf (λ b. c ≡ b → ⊥) bs → contents (with_new_blocks w a bs) c ≡ contents w c
contents-new_blocks a [] w c h = refl
contents-new_blocks a (b ∷ bs) w c h = contents-new_blocks a bs (with_pointer (with_contents w b (zeros w)) a b) c h.1 ∙ contents-other w b c (zeros w) h.0

live_not_free : (w : World) (c : ℕ) → is_live w c ≡ true → (b : ℕ) → is_free w b ≡ true → c ≡ b → ⊥
live_not_free w c h b free same = both (contents w b) (subst (λ k. is_live w k ≡ true) same h) (and_parts (nat_lt b _) (is_none (contents w b)) free).1
  where
    both : (o : Option (List ℕ)) → is_some o ≡ true → is_none o ≡ true → ⊥
    both None p q = cc
    both (Some x) p q = cc

-- a live block keeps its contents where free blocks are taken
pub contents-taken : (a : ℕ) (bs : List ℕ) (w : World) (c : ℕ) → AllFree w bs → is_live w c ≡ true → contents (with_new_blocks w a bs) c ≡ contents w c
contents-taken a bs w c free h = contents-new_blocks a bs w c (AllOf-map (λ b. is_free w b ≡ true) (λ b. c ≡ b → ⊥) (live_not_free w c h) bs free)

-- ---- contents

-- a block that passes keeps its contents
pub contents-kept : (w : World) (keep : ℕ → Bool) (b : ℕ) → is_live (restricted w keep) b ≡ true → contents (restricted w keep) b ≡ contents w b
contents-kept w keep b h = contents-restricted w keep b ∙ passes (keep b) (contents w b) (subst (λ o. is_some o ≡ true) (contents-restricted w keep b) h)
  where
    passes : (t : Bool) (o : Option (List ℕ)) → is_some (cond t o None) ≡ true → cond t o None ≡ o
    passes true o g = refl
    passes false o g = absurd (cc)

pub contents-change : (kind : PlaceKind) (w : World) (u : Sessions) (q : Request) (b : ℕ) → is_live w b ≡ true → is_live (change kind w u q).state.world b ≡ true → writes_to q b ≡ false → contents (change kind w u q).state.world b ≡ contents w b
contents-change kind w u ask.Bad b h g n = refl
contents-change kind w u (ask.Begin s) b h g n = refl
contents-change kind w u (ask.End s) b h g n = refl
contents-change kind w u (ask.Read s x shown) b h g n = refl
contents-change kind w u (ask.Write s x shown bytes) b h g n = contents-other w x b (filled (block_len w.geometry) bytes) (λ e. clash (sym (eq-eqb x b (sym e)) ∙ n))
  where
    clash : true ≡ false → ⊥
    clash k = cc
contents-change kind w u (ask.Alloc s a shown hint count) b h g n = contents-taken a (chosen kind w hint count) w b (chosen_are_free kind w hint count) h
contents-change kind w u (ask.Contig s a shown hint count) b h g n = contents-taken a (run_at (chosen_run kind w hint count) count) w b (chosen_run_is_free kind w hint count) h
contents-change kind w u ask.GetFree b h g n = refl
contents-change kind w u (ask.Create s a shown x) b h g n = refl
contents-change kind w u (ask.Delete s a shown x) b h g n = contents-kept (without_pointer w a x) (λ c. not (has_number (doomed (without_pointer w a x)) c)) b g
contents-change kind w u (ask.SetCap s x shown caps) b h g n = refl
contents-change kind w u (ask.Sweep s shown) b h g n = contents-kept w (has_number (reach w)) b g
contents-change kind w u (ask.List s a shown start) b h g n = refl

-- ---- live blocks and pairs, but by a deletion or a sweep

-- it takes neither blocks nor pairs away
abbrev pub only_adds : Request → Bool
only_adds (ask.Delete s a shown b) = false
only_adds (ask.Sweep s shown) = false
only_adds q = true

pub live-change : (kind : PlaceKind) (w : World) (u : Sessions) (q : Request) (b : ℕ) → only_adds q ≡ true → is_live w b ≡ true → is_live (change kind w u q).state.world b ≡ true
live-change kind w u ask.Bad b o h = h
live-change kind w u (ask.Begin s) b o h = h
live-change kind w u (ask.End s) b o h = h
live-change kind w u (ask.Read s x shown) b o h = h
live-change kind w u (ask.Write s x shown bytes) b o h = live-with_contents w x b (filled (block_len w.geometry) bytes) h
live-change kind w u (ask.Alloc s a shown hint count) b o h = live-new_blocks a (chosen kind w hint count) w b h
live-change kind w u (ask.Contig s a shown hint count) b o h = live-new_blocks a (run_at (chosen_run kind w hint count) count) w b h
live-change kind w u ask.GetFree b o h = h
live-change kind w u (ask.Create s a shown x) b o h = h
live-change kind w u (ask.Delete s a shown x) b o h = absurd (cc)
live-change kind w u (ask.SetCap s x shown caps) b o h = h
live-change kind w u (ask.Sweep s shown) b o h = absurd (cc)
live-change kind w u (ask.List s a shown start) b o h = h

pub holds-change : (kind : PlaceKind) (w : World) (u : Sessions) (q : Request) (a b : ℕ) → only_adds q ≡ true → holds w.pairs a b ≡ true → holds (change kind w u q).state.world.pairs a b ≡ true
holds-change kind w u ask.Bad a b o h = h
holds-change kind w u (ask.Begin s) a b o h = h
holds-change kind w u (ask.End s) a b o h = h
holds-change kind w u (ask.Read s x shown) a b o h = h
holds-change kind w u (ask.Write s x shown bytes) a b o h = h
holds-change kind w u (ask.Alloc s x shown hint count) a b o h = holds-new_blocks x (chosen kind w hint count) w a b h
holds-change kind w u (ask.Contig s x shown hint count) a b o h = holds-new_blocks x (run_at (chosen_run kind w hint count) count) w a b h
holds-change kind w u ask.GetFree a b o h = h
holds-change kind w u (ask.Create s x shown y) a b o h = old_pair w x y a b h
holds-change kind w u (ask.Delete s x shown y) a b o h = absurd (cc)
holds-change kind w u (ask.SetCap s x shown caps) a b o h = h
holds-change kind w u (ask.Sweep s shown) a b o h = absurd (cc)
holds-change kind w u (ask.List s x shown start) a b o h = h
