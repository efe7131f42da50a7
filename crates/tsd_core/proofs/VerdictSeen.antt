-- What isn't seen of a table changes no verdict and no attained level, since pairs come from live blocks.
use Rattle.std.proofs.Common.{◌≡◌, ℕ, true, false, cond, not, ◌&&◌, ◌==◌, List, [], ◌∷◌, ◌++◌, refl, ◌∙◌, ap}
use Rattle.tsd_core.proofs.Common.{and_from, eq-eqb, or_left, or_right, map, filter, unwrap_or, option_map_or, is_pair, holds, sources_to, World, is_live, is_primary, primary_blocks, Sessions, level_le, greatest, is_open, levels_from, level_from, levels_at_live, fitted, shown_level, led_level, attained_from, attained, session_of, needs, check, first_rule, is_bad, has_bad_session, is_begin, block_rules, pair_rules, room_rules, verdict, Shown, Need, Level, Request}
use Rattle.tsd_model.specs.declared.replies.Rule.TheVariants as rule
use Rattle.tsd_model.specs.declared.requests.Level.TheVariants as level
use Rattle.disk_laws.proofs.HeldLaws.{level-fitted}
use Rattle.tsd_core.proofs.SeenLaws.{open-map}

pub open-fitted : (t : World) (v : Sessions) (s : ℕ) → is_open (fitted t v) s ≡ is_open v s
open-fitted t v s = open-map (map (levels_at_live t)) v s

-- each pair comes from a block that is live there
abbrev pub ComesFrom : World → World → Type 0
ComesFrom w t = (a b : ℕ) → holds w.pairs a b ≡ true → is_live t a ≡ true

-- levels that agree at the sources of the pairs to a block
same_at_sources : (f g : ℕ → Level) (b : ℕ) (es : List (ℕ × ℕ)) → ((a : ℕ) → holds es a b ≡ true → f a ≡ g a) → map f (sources_to es b) ≡ map g (sources_to es b)
same_at_sources f g b [] same = refl
same_at_sources f g b (e ∷ es) same =
    let rest : map f (sources_to es b) ≡ map g (sources_to es b) = same_at_sources f g b es (λ a h. same a (or_right (is_pair a b e) (holds es a b) h)) in
    elim (e.1 == b) as (λ t. (e.1 == b) ≡ t → map f (map (λ (h : ℕ × ℕ). h.0) (cond t (e ∷ filter (λ h. h.1 == b) es) (filter (λ h. h.1 == b) es))) ≡ map g (map (λ (h : ℕ × ℕ). h.0) (cond t (e ∷ filter (λ h. h.1 == b) es) (filter (λ h. h.1 == b) es)))) [
      | true ↦ λ to. λ i. same e.0 (or_left (is_pair e.0 b e) (holds es e.0 b) (and_from (e.0 == e.0) (e.1 == b) (eq-eqb e.0 e.0 refl) to)) i ∷ rest i
      | false ↦ λ to. rest
    ] refl

led-fitted : (t : World) (v : Sessions) (s o b : ℕ) (es : List (ℕ × ℕ)) → ((a : ℕ) → holds es a b ≡ true → is_live t a ≡ true) → led_level (levels_from (fitted t v) s o) b es ≡ led_level (levels_from v s o) b es
led-fitted t v s o b es live = ap greatest (same_at_sources (level_from (fitted t v) s o) (level_from v s o) b es
    (λ a h. level-fitted t v s o a ∙ ap (λ x. cond x (level_from v s o a) level.Bare) (live a h)))

pub attained_from-fitted : (w t : World) → ComesFrom w t → (v : Sessions) (s b : ℕ) (shown : Shown) (o : ℕ) → attained_from w (fitted t v) s b shown o ≡ attained_from w v s b shown o
attained_from-fitted w t from v s b shown o = ap (λ l. cond (is_primary w b) (cond (o == b) (shown_level w b shown) level.Bare) l) (led-fitted t v s o b w.pairs (λ a h. from a b h))

pub attained-fitted : (w t : World) → ComesFrom w t → (v : Sessions) (s b : ℕ) (shown : Shown) → attained w (fitted t v) s b shown ≡ attained w v s b shown
attained-fitted w t from v s b shown = λ i. greatest (map (λ o. attained_from-fitted w t from v s b shown o i) (primary_blocks w))

pub verdict-fitted : (w t : World) → ComesFrom w t → (v : Sessions) (q : Request) → verdict w (fitted t v) q ≡ verdict w v q
verdict-fitted w t from v q = λ i. first_rule ((
    (check (is_bad q) rule.BadRequest
    ∷ check (has_bad_session q) rule.BadSession
    ∷ check (is_begin q && option_map_or (λ s. open-fitted t v s i) (session_of q) false) rule.AlreadyOpen
    ∷ check (not (is_begin q) && option_map_or (λ s. not (open-fitted t v s i)) (session_of q) false) rule.NotOpen
    ∷ [])
    ++ (block_rules w q
    ++ (map (λ (n : Need). check (not (level_le n.level (attained-fitted w t from v (unwrap_or (session_of q) 0) n.block n.shown i))) (rule.Denied (attained-fitted w t from v (unwrap_or (session_of q) 0) n.block n.shown i) n.level)) (needs q)
    ++ pair_rules w q)))
    ++ room_rules w q)
