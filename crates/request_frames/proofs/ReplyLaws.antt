-- What is read as a reply is a body of it, and its body is read as it.
use Rattle.std.proofs.Common.{◌≡◌, inl, inr, ℕ, suc, ◌≤◌, true, false, cond, ◌==◌, ◌&&◌, ◌||◌, nat_le, List, [], ◌∷◌, ◌++◌, length, refl, sym, ◌∙◌, ap, subst, arith, Option, Some, None}
use Rattle.std.specs.Prelude.{MatchOption}
use Rattle.std.proofs.lemmas.Bool.{eqb-true, leb-true, le-leb, and_parts, and_from}
use Rattle.tsd_model.specs.declared.replies.Reply.{Reply}
use Rattle.tsd_model.specs.declared.replies.Reply.TheVariants as reply
use Rattle.tsd_model.specs.declared.replies.Rule.{Rule}
use Rattle.tsd_model.specs.declared.replies.Rule.TheVariants as rule
use Rattle.tsd_model.specs.ReplyForm.{IsBlockSize, HasBody, AreNumbers, RuleHasNumbers, HasNumbers, HasForm}
use Rattle.tsd_model.specs.Step.{targets_max}
use Rattle.request_frames.specs.Fields.{Field, Code, Number, Rank, Bytes, AllFit, bytes_of}
use Rattle.request_frames.specs.Replies.{rule_fields, number_fields, reply_fields, reply_body, IsReply}
use Rattle.request_frames.specs.Reading.{num_of, level_of, data_of, list_of_blocks, ends, dispatch}
use Rattle.request_frames.specs.ReplyReading.{is_block_size, bytes_reply, blocks_reply, free_reply, gone_reply, targets_reply, bare, denied_reply, full_reply, no_run_reply, pointers_full_reply, rule_forms, ruled, refused_reply, reply_forms, answered, reply_of}
use Rattle.request_frames.proofs.FieldLaws.{AreBytes, Spelled, some_is, bind_is, took, no_more, next, last, bind_some, num_sound, level_sound, data_sound, num_back, level_back, data_back}
use Rattle.request_frames.proofs.BlocksLaws.{blocks_sound, blocks_back}

-- ---- the form of a reply and its fields

numbers_of : (ns : List ℕ) → AllFit (number_fields ns) → AreNumbers ns
numbers_of [] h = tt
numbers_of (n ∷ ns) h = (h.0, numbers_of ns h.1)

fits_of : (ns : List ℕ) → AreNumbers ns → AllFit (number_fields ns)
fits_of [] h = tt
fits_of (n ∷ ns) h = (h.0, fits_of ns h.1)

rule_numbers : (r : Rule) → AllFit (rule_fields r) → RuleHasNumbers r
rule_numbers rule.BadRequest h = tt
rule_numbers rule.BadSession h = tt
rule_numbers rule.NotOpen h = tt
rule_numbers rule.AlreadyOpen h = tt
rule_numbers rule.BadCount h = tt
rule_numbers rule.BadSize h = tt
rule_numbers rule.NoSuchBlock h = tt
rule_numbers rule.FreeBlock h = tt
rule_numbers rule.NotPrimary h = tt
rule_numbers rule.IsPrimary h = tt
rule_numbers (rule.Denied a n) h = tt
rule_numbers rule.PointerExists h = tt
rule_numbers rule.NoPointer h = tt
rule_numbers (rule.Full a b) h = (h.1.0, h.1.1.0)
rule_numbers (rule.NoRun a b) h = (h.1.0, h.1.1.0)
rule_numbers (rule.PointersFull a b) h = (h.1.0, h.1.1.0)

rule_fits : (r : Rule) → RuleHasNumbers r → AllFit (rule_fields r)
rule_fits rule.BadRequest h = (tt, tt)
rule_fits rule.BadSession h = (tt, tt)
rule_fits rule.NotOpen h = (tt, tt)
rule_fits rule.AlreadyOpen h = (tt, tt)
rule_fits rule.BadCount h = (tt, tt)
rule_fits rule.BadSize h = (tt, tt)
rule_fits rule.NoSuchBlock h = (tt, tt)
rule_fits rule.FreeBlock h = (tt, tt)
rule_fits rule.NotPrimary h = (tt, tt)
rule_fits rule.IsPrimary h = (tt, tt)
rule_fits (rule.Denied a n) h = (tt, (tt, (tt, tt)))
rule_fits rule.PointerExists h = (tt, tt)
rule_fits rule.NoPointer h = (tt, tt)
rule_fits (rule.Full a b) h = (tt, (h.0, (h.1, tt)))
rule_fits (rule.NoRun a b) h = (tt, (h.0, (h.1, tt)))
rule_fits (rule.PointersFull a b) h = (tt, (h.0, (h.1, tt)))

-- fields that fit have the numbers of the form
has_numbers : (r : Reply) → AllFit (reply_fields r) → HasNumbers r
has_numbers reply.Done h = tt
has_numbers (reply.Bytes bytes) h = tt
has_numbers (reply.Blocks ns) h = numbers_of ns h.1
has_numbers (reply.Free n) h = h.1.0
has_numbers (reply.Gone n) h = h.1.0
has_numbers (reply.Targets ns) h = numbers_of ns h.1
has_numbers reply.NoMemory h = tt
has_numbers (reply.Refused r) h = rule_numbers r h.1

pub form_of : (r : Reply) → HasBody r → AllFit (reply_fields r) → HasForm r
form_of r some fits = record { body = some; numbers = has_numbers r fits }

pub block_fits : (n : ℕ) → IsBlockSize n → n ≤ 4096
block_fits n h = elim h [ inl a ↦ omega (arith, a) | inr g ↦ elim g [ inl b ↦ omega (arith, b) | inr k ↦ elim k [ inl c ↦ omega (arith, c) | inr d ↦ omega (arith, d) ] ] ]

-- the fields of a reply of that form fit
all_fit : (r : Reply) → HasBody r → HasNumbers r → AllFit (reply_fields r)
all_fit reply.Done some h = (tt, tt)
all_fit (reply.Bytes bytes) some h = (tt, (block_fits (length bytes) some, tt))
all_fit (reply.Blocks ns) some h = (tt, fits_of ns h)
all_fit (reply.Free n) some h = (tt, (h, tt))
all_fit (reply.Gone n) some h = (tt, (h, tt))
all_fit (reply.Targets ns) some h = (tt, fits_of ns h)
all_fit reply.NoMemory some h = (tt, tt)
all_fit (reply.Refused r) some h = (tt, rule_fits r h)

-- ---- what is read is spelled

-- what is read after the code is spelled by it and the bytes
abbrev Answers : ℕ → (List ℕ → Option Reply) → Type 0
Answers code form = (bs : List ℕ) (q : Reply) → AreBytes bs → form bs ≡ Some q → IsReply (code ∷ bs) q

-- so it is, where the bytes spell the fields after the code
spells : (q r : Reply) (code : ℕ) (fs : List Field) (bs : List ℕ) → reply_fields r ≡ Code code ∷ fs → HasBody r → r ≡ q → Spelled fs bs → IsReply (code ∷ bs) q
spells q r code fs bs f some e h = subst (IsReply (code ∷ bs)) e (record {
  form = form_of r some (subst AllFit (sym f) (tt, h.0));
  spelled = ap (λ xs. code ∷ xs) h.1 ∙ ap bytes_of (sym f);
})

-- ---- rules

abbrev Refuses : ℕ → (List ℕ → Option Reply) → Type 0
Refuses code form = (bs : List ℕ) (q : Reply) → AreBytes bs → form bs ≡ Some q → IsReply (8 ∷ code ∷ bs) q

rules : (q : Reply) (r : Rule) (code : ℕ) (fs : List Field) (bs : List ℕ) → rule_fields r ≡ Code code ∷ fs → reply.Refused r ≡ q → Spelled fs bs → IsReply (8 ∷ code ∷ bs) q
rules q r code fs bs f e h = spells q (reply.Refused r) 8 (Code code ∷ fs) (code ∷ bs) (ap (λ gs. Code 8 ∷ gs) f) tt e ((tt, h.0), ap (λ xs. code ∷ xs) h.1)

bare_is : (r : Rule) (code : ℕ) → rule_fields r ≡ Code code ∷ [] → Refuses code (bare r)
bare_is r code f bs q all e = let end = no_more bs _ q e in rules q r code [] bs f end.1 (last bs end.0)

denied_is : Refuses 10 denied_reply
unfolding denied_reply
denied_is bs q all e =
    let a = took (λ l. Rank l) level_of level_sound _ bs q all e in
    let n = took (λ l. Rank l) level_of level_sound _ a.1 q a.4 a.5 in
    let end = no_more n.1 _ q n.5 in
    rules q (rule.Denied a.0 n.0) 10 (Rank a.0 ∷ Rank n.0 ∷ []) bs refl end.1 (next (Rank a.0) (Rank n.0 ∷ []) a.1 bs a.2 a.3 (next (Rank n.0) [] n.1 a.1 n.2 n.3 (last n.1 end.0)))

full_is : Refuses 13 full_reply
unfolding full_reply
full_is bs q all e =
    let f = took (λ n. Number n) num_of num_sound _ bs q all e in
    let w = took (λ n. Number n) num_of num_sound _ f.1 q f.4 f.5 in
    let end = no_more w.1 _ q w.5 in
    rules q (rule.Full f.0 w.0) 13 (Number f.0 ∷ Number w.0 ∷ []) bs refl end.1 (next (Number f.0) (Number w.0 ∷ []) f.1 bs f.2 f.3 (next (Number w.0) [] w.1 f.1 w.2 w.3 (last w.1 end.0)))

no_run_is : Refuses 14 no_run_reply
unfolding no_run_reply
no_run_is bs q all e =
    let f = took (λ n. Number n) num_of num_sound _ bs q all e in
    let w = took (λ n. Number n) num_of num_sound _ f.1 q f.4 f.5 in
    let end = no_more w.1 _ q w.5 in
    rules q (rule.NoRun f.0 w.0) 14 (Number f.0 ∷ Number w.0 ∷ []) bs refl end.1 (next (Number f.0) (Number w.0 ∷ []) f.1 bs f.2 f.3 (next (Number w.0) [] w.1 f.1 w.2 w.3 (last w.1 end.0)))

pointers_full_is : Refuses 15 pointers_full_reply
unfolding pointers_full_reply
pointers_full_is bs q all e =
    let h = took (λ n. Number n) num_of num_sound _ bs q all e in
    let m = took (λ n. Number n) num_of num_sound _ h.1 q h.4 h.5 in
    let end = no_more m.1 _ q m.5 in
    rules q (rule.PointersFull h.0 m.0) 15 (Number h.0 ∷ Number m.0 ∷ []) bs refl end.1 (next (Number h.0) (Number m.0 ∷ []) h.1 bs h.2 h.3 (next (Number m.0) [] m.1 h.1 m.2 m.3 (last m.1 end.0)))

abbrev AllRefuses : List (ℕ × (List ℕ → Option Reply)) → Type 0
AllRefuses [] = Unit {0}
AllRefuses (f ∷ fs) = Refuses f.0 f.1 × AllRefuses fs

chosen_rule : (fs : List (ℕ × (List ℕ → Option Reply))) → AllRefuses fs → (code : ℕ) (bs : List ℕ) (q : Reply) → AreBytes bs → dispatch fs code bs ≡ Some q → IsReply (8 ∷ code ∷ bs) q
chosen_rule [] each code bs q all e = absurd (cc)
chosen_rule (f ∷ fs) each code bs q all e =
    elim (code == f.0) as (λ t. (code == f.0) ≡ t → cond t (f.1 bs) (dispatch fs code bs) ≡ Some q → IsReply (8 ∷ code ∷ bs) q) [
      | true ↦ λ p g. subst (λ c. IsReply (8 ∷ c ∷ bs) q) (sym (eqb-true code f.0 p)) (each.0 bs q all g)
      | false ↦ λ p g. chosen_rule fs each.1 code bs q all g
    ] refl e

each_refuses : AllRefuses rule_forms
each_refuses = (bare_is rule.BadRequest 0 refl, (bare_is rule.BadSession 1 refl, (bare_is rule.NotOpen 2 refl, (bare_is rule.AlreadyOpen 3 refl, (bare_is rule.BadCount 4 refl, (bare_is rule.BadSize 5 refl, (bare_is rule.NoSuchBlock 6 refl, (bare_is rule.FreeBlock 7 refl, (bare_is rule.NotPrimary 8 refl, (bare_is rule.IsPrimary 9 refl, (denied_is, (bare_is rule.PointerExists 11 refl, (bare_is rule.NoPointer 12 refl, (full_is, (no_run_is, (pointers_full_is, tt))))))))))))))))

refused_is : Answers 8 refused_reply
unfolding refused_reply ruled
refused_is [] q all e = absurd (cc)
refused_is (b ∷ bs) q all e = chosen_rule rule_forms each_refuses b bs q (λ i. all (suc i)) e

-- ---- replies

ended_is : (r : Reply) (code : ℕ) → reply_fields r ≡ Code code ∷ [] → HasBody r → Answers code (λ bs. ends bs r)
ended_is r code f some bs q all e = let end = no_more bs _ q e in spells q r code [] bs f some end.1 (last bs end.0)

size_is : (n : ℕ) → is_block_size n ≡ true → IsBlockSize n
size_is n h =
    elim (n == 512) as (λ t. (n == 512) ≡ t → (((t || (n == 1024)) || (n == 2048)) || (n == 4096)) ≡ true → IsBlockSize n) [
      | true ↦ λ p q. inl (eqb-true n 512 p)
      | false ↦ λ p q. elim (n == 1024) as (λ t. (n == 1024) ≡ t → ((t || (n == 2048)) || (n == 4096)) ≡ true → IsBlockSize n) [
        | true ↦ λ p1 q1. inr (inl (eqb-true n 1024 p1))
        | false ↦ λ p1 q1. elim (n == 2048) as (λ t. (n == 2048) ≡ t → (t || (n == 4096)) ≡ true → IsBlockSize n) [
          | true ↦ λ p2 q2. inr (inr (inl (eqb-true n 2048 p2)))
          | false ↦ λ p2 q2. inr (inr (inr (eqb-true n 4096 q2)))
        ] refl q1
      ] refl q
    ] refl h

bytes_is : Answers 2 bytes_reply
unfolding bytes_reply
bytes_is bs q all e =
    let d = took (λ bytes. Bytes bytes) data_of data_sound _ bs q all e in
    elim (is_block_size (length d.0)) as (λ t. is_block_size (length d.0) ≡ t → cond t (ends d.1 (reply.Bytes d.0)) None ≡ Some q → IsReply (2 ∷ bs) q) [
      | true ↦ λ p g. let end = no_more d.1 _ q g in
          spells q (reply.Bytes d.0) 2 (Bytes d.0 ∷ []) bs refl (size_is (length d.0) p) end.1 (next (Bytes d.0) [] d.1 bs d.2 d.3 (last d.1 end.0))
      | false ↦ λ p g. absurd (cc)
    ] refl d.5

blocks_is : Answers 3 blocks_reply
unfolding blocks_reply
blocks_is bs q all e =
    let o = bind_is (list_of_blocks bs) _ q e in
    let s = blocks_sound bs o.0 all o.1 in
    elim (nat_le 1 (length o.0) && nat_le (length o.0) 32) as (λ t. (nat_le 1 (length o.0) && nat_le (length o.0) 32) ≡ t → cond t (Some (reply.Blocks o.0)) None ≡ Some q → IsReply (3 ∷ bs) q) [
      | true ↦ λ p g. let parts = and_parts (nat_le 1 (length o.0)) (nat_le (length o.0) 32) p in
          spells q (reply.Blocks o.0) 3 (number_fields o.0) bs refl (leb-true 1 (length o.0) parts.0, leb-true (length o.0) 32 parts.1) (some_is g) s.0
      | false ↦ λ p g. absurd (cc)
    ] refl o.2

free_is : Answers 4 free_reply
unfolding free_reply
free_is bs q all e =
    let n = took (λ m. Number m) num_of num_sound _ bs q all e in
    let end = no_more n.1 _ q n.5 in
    spells q (reply.Free n.0) 4 (Number n.0 ∷ []) bs refl tt end.1 (next (Number n.0) [] n.1 bs n.2 n.3 (last n.1 end.0))

gone_is : Answers 5 gone_reply
unfolding gone_reply
gone_is bs q all e =
    let n = took (λ m. Number m) num_of num_sound _ bs q all e in
    let end = no_more n.1 _ q n.5 in
    spells q (reply.Gone n.0) 5 (Number n.0 ∷ []) bs refl tt end.1 (next (Number n.0) [] n.1 bs n.2 n.3 (last n.1 end.0))

targets_is : Answers 6 targets_reply
unfolding targets_reply
targets_is bs q all e =
    let o = bind_is (list_of_blocks bs) _ q e in
    let s = blocks_sound bs o.0 all o.1 in
    spells q (reply.Targets o.0) 6 (number_fields o.0) bs refl s.1 (some_is o.2) s.0

abbrev AllAnswers : List (ℕ × (List ℕ → Option Reply)) → Type 0
AllAnswers [] = Unit {0}
AllAnswers (f ∷ fs) = Answers f.0 f.1 × AllAnswers fs

chosen_is : (fs : List (ℕ × (List ℕ → Option Reply))) → AllAnswers fs → (code : ℕ) (bs : List ℕ) (q : Reply) → AreBytes bs → dispatch fs code bs ≡ Some q → IsReply (code ∷ bs) q
chosen_is [] each code bs q all e = absurd (cc)
chosen_is (f ∷ fs) each code bs q all e =
    elim (code == f.0) as (λ t. (code == f.0) ≡ t → cond t (f.1 bs) (dispatch fs code bs) ≡ Some q → IsReply (code ∷ bs) q) [
      | true ↦ λ p g. subst (λ c. IsReply (c ∷ bs) q) (sym (eqb-true code f.0 p)) (each.0 bs q all g)
      | false ↦ λ p g. chosen_is fs each.1 code bs q all g
    ] refl e

each_answers : AllAnswers reply_forms
each_answers = (ended_is reply.Done 1 refl tt, (bytes_is, (blocks_is, (free_is, (gone_is, (targets_is, (ended_is reply.NoMemory 7 refl tt, (refused_is, tt))))))))

read_is : (body : List ℕ) (q : Reply) → AreBytes body → reply_of body ≡ Some q → IsReply body q
unfolding reply_of answered
read_is [] q all e = absurd (cc)
read_is (b ∷ bs) q all e = chosen_is reply_forms each_answers b bs q (λ i. all (suc i)) e

-- what is read is spelled
pub reply_is : (body : List ℕ) → AreBytes body → MatchOption (reply_of body) (Unit {0}) (λ r. IsReply body r)
reply_is body all = elim (reply_of body) as (λ o. reply_of body ≡ o → MatchOption o (Unit {0}) (λ r. IsReply body r)) [
  | None ↦ λ e. tt
  | Some q ↦ λ e. read_is body q all e
] refl

-- ---- what is spelled is read

size_back : (n : ℕ) → IsBlockSize n → is_block_size n ≡ true
size_back n h = elim h [ inl e ↦ ap is_block_size e | inr h1 ↦ elim h1 [ inl e ↦ ap is_block_size e | inr h2 ↦ elim h2 [ inl e ↦ ap is_block_size e | inr e ↦ ap is_block_size e ] ] ]

bytes_back : (bytes : List ℕ) → IsBlockSize (length bytes) → length bytes ≤ 4096 → bytes_reply (bytes ++ []) ≡ Some (reply.Bytes bytes)
unfolding bytes_reply
bytes_back bytes size few = bind_some _ _ _ _ (data_back bytes few) (ap (λ t. cond t (Some (reply.Bytes bytes)) None) (size_back (length bytes) size))

blocks_reply_back : (ns : List ℕ) → AllFit (number_fields ns) → 1 ≤ length ns → length ns ≤ 32 → blocks_reply (bytes_of (number_fields ns)) ≡ Some (reply.Blocks ns)
unfolding blocks_reply
blocks_reply_back ns h some few = bind_some _ _ _ _ (blocks_back ns h (omega (arith, few))) (ap (λ t. cond t (Some (reply.Blocks ns)) None) (and_from (nat_le 1 (length ns)) (nat_le (length ns) 32) (le-leb 1 (length ns) some) (le-leb (length ns) 32 few)))

targets_back : (ns : List ℕ) → AllFit (number_fields ns) → length ns ≤ targets_max → targets_reply (bytes_of (number_fields ns)) ≡ Some (reply.Targets ns)
unfolding targets_reply
targets_back ns h few = bind_some _ _ _ _ (blocks_back ns h few) refl

rule_back : (r : Rule) → AllFit (rule_fields r) → refused_reply (bytes_of (rule_fields r)) ≡ Some (reply.Refused r)
unfolding refused_reply ruled denied_reply full_reply no_run_reply pointers_full_reply
rule_back rule.BadRequest h = refl
rule_back rule.BadSession h = refl
rule_back rule.NotOpen h = refl
rule_back rule.AlreadyOpen h = refl
rule_back rule.BadCount h = refl
rule_back rule.BadSize h = refl
rule_back rule.NoSuchBlock h = refl
rule_back rule.FreeBlock h = refl
rule_back rule.NotPrimary h = refl
rule_back rule.IsPrimary h = refl
rule_back (rule.Denied a n) h = bind_some _ _ _ _ (level_back a (bytes_of (Rank n ∷ []))) (bind_some _ _ _ _ (level_back n []) refl)
rule_back rule.PointerExists h = refl
rule_back rule.NoPointer h = refl
rule_back (rule.Full a b) h = bind_some _ _ _ _ (num_back a (bytes_of (Number b ∷ [])) h.1.0) (bind_some _ _ _ _ (num_back b [] h.1.1.0) refl)
rule_back (rule.NoRun a b) h = bind_some _ _ _ _ (num_back a (bytes_of (Number b ∷ [])) h.1.0) (bind_some _ _ _ _ (num_back b [] h.1.1.0) refl)
rule_back (rule.PointersFull a b) h = bind_some _ _ _ _ (num_back a (bytes_of (Number b ∷ [])) h.1.0) (bind_some _ _ _ _ (num_back b [] h.1.1.0) refl)

spelled_back : (r : Reply) → HasBody r → AllFit (reply_fields r) → reply_of (reply_body r) ≡ Some r
unfolding reply_of answered free_reply gone_reply
spelled_back reply.Done some h = refl
spelled_back (reply.Bytes bytes) some h = bytes_back bytes some h.1.0
spelled_back (reply.Blocks ns) some h = blocks_reply_back ns h.1 some.0 some.1
spelled_back (reply.Free n) some h = bind_some _ _ _ _ (num_back n [] h.1.0) refl
spelled_back (reply.Gone n) some h = bind_some _ _ _ _ (num_back n [] h.1.0) refl
spelled_back (reply.Targets ns) some h = targets_back ns h.1 some
spelled_back reply.NoMemory some h = refl
spelled_back (reply.Refused r) some h = rule_back r h.1

-- what is spelled is read
pub reply_back : (body : List ℕ) (r : Reply) → IsReply body r → reply_of body ≡ Some r
reply_back body r h = ap reply_of h.spelled ∙ spelled_back r h.form.body (all_fit r h.form.body h.form.numbers)
