use Rattle.std.proofs.Common.{◌≡◌, ◌≢◌, IfSome, List, cond, [], ◌∷◌, ◌++◌, refl, sym, ◌∙◌, ap, subst, append_assoc, arith, rules}
use Rattle.fs_trees.specs.declared.ask.ShellAsk.TheVariants as ask
use Rattle.fs_trees.specs.declared.refusal.FsRefusal.TheVariants as no
use Rattle.shell_server.proofs.Common.{Image, Name, names_head, AnswersByLine, IsNameListing, IsSpeaking, ShellState, heard, is_empty, listed, shell_step, shell_rests, shell_state, AreBehind}
use Rattle.shell_server.proofs.LsLaws.{behind, first_is, first_of, lists, line_headed, ls_answers, ls_in_parts, ls_not_refused, next_is, no_names, said_all, said_most, said_next, said_none, said_piece, whole_line}
use Rattle.shell_server.proofs.SendLaws.{error_is}
use Rattle.shell_server.proofs.SpeakLaws.{speaks_none, speaks_put, speaks_look, speaks_lost, speaks_cut, speaks_end, speaks_never}
use Rattle.shell_server.proofs.listing.send_names.Goals.{After-next_on-arg-in-loop-left-3-1, After-send_text, After-send_text-in-loop-left}
use Rattle.shell_server.proofs.listing.send_names.Goals as goal

module _ (g : _) (c : After-send_text g) where
  abbrev state : ShellState
  state = shell_state (g.F.Files.view c.args.files.now) (g.P.Device.view c.args.port.now).reads

  hears : heard (g.F.Files.view c.args.files.now).kind (ask.Ls c.args.path.now) ≡ ask.Ls c.args.path.now
  hears = ap (λ t. cond t (ask.Ls c.args.path.now) ask.Bad) c.known.ensures

  -- nothing was sent yet
  begun : IsSpeaking g.P.Device.told g.K.Started.start (g.F.Files.view c.args.files.now) (g.F.Files.view c.args.files.now) c.args.core.now c.args.core.now (g.P.Device.view c.args.port.now) (g.P.Device.view c.args.port.now) []
  begun = speaks_none g.P.Device.told g.K.Started.start (g.F.Files.view c.args.files.now) c.args.core.now (g.P.Device.view c.args.port.now) c.requires.ready c.requires.at (λ told. g.met.P.Device.sound c.args.port.now told)

  -- the line of the names answers
  answers : (told : g.P.Device.told) → AnswersByLine g.K.Started.start state (ask.Ls c.args.path.now) (whole_line (c.requires.told told).0) state
  answers told = ls_answers g.K.Started.start state c.args.path.now (c.requires.told told).0 hears (c.requires.told told).1 (g.P.Device.view c.args.port.now).reads (shell_rests g.K.Started.start (g.F.Files.view c.args.files.now) c.args.core.now (g.P.Device.view c.args.port.now).reads (c.requires.at told).1)

  module _ (told : g.P.Device.told) (ns : List Name) (is : (shell_step state (ask.Ls c.args.path.now)).answer ≡ listed ns) where
    listing : IsNameListing ns
    listing = lists state c.args.path.now ns hears refl (c.requires.at told).1.kept.valid is

    first : c.args.first ≡ first_of ns
    first = first_is (shell_step state (ask.Ls c.args.path.now)).answer ns c.args.first is (c.requires.told told) listing

    head : c.as_slice.result.now ≡ names_head (is_empty ns)
    head = c.as_slice.ensures.value ∙ c.print_names_head.ensures ∙ ap names_head (no_names c.is_none.result ns c.args.first c.is_none.ensures first)

-- the next name was sent
piece_is : (g : _) (c : After-send_text-in-loop-left g) → c.as_slice-in-loop-left.result.now ≡ 32 ∷ c.in-Some.name
piece_is g c = c.as_slice-in-loop-left.ensures.value ∙ c.print_name.ensures

spoken : (g : _) (c : After-next_on-arg-in-loop-left-3-1 g) → IsSpeaking g.P.Device.told g.K.Started.start (g.F.Files.view c.args.files.now) (g.F.Files.view c.loop-left.files) c.args.core.now c.loop-left.core (g.P.Device.view c.args.port.now) (g.P.Device.view c.send_text-in-loop-left.new.port) (c.loop-left.invariant.0 ++ c.as_slice-in-loop-left.result.now)
spoken g c = speaks_put c.loop-left.invariant.1 c.in_ok-send_text-2.ensures.puts

pub returns-in_err-send_text : goal.returns-in_err-send_text
returns-in_err-send_text g c =
    let i = (goal.at.returns-in_err-send_text g c).After-send_text in
    rw (error_is c.from_residual.result c.in_err-send_text.field-0.0 c.from_residual.ensures) (speaks_cut (begun g i) (ask.Ls c.args.path.now) c.in_err-send_text.ensures.stops c.in_err-send_text.ensures.puts
    (λ told.
    let r = c.requires.told told in
    let ns = r.0 in
    (whole_line ns, behind ns, line_headed ns ∙ ap (λ l. l ++ behind ns) (sym (head g i told ns r.1)), answers g i told)))

pub loop-left-init : goal.loop-left-init
loop-left-init g c =
    let i = (goal.at.loop-left-init g c).After-send_text in (
      c.as_slice.result.now,
      speaks_put (begun g i) c.in_ok-send_text.ensures.puts,
      λ told ns is. said_none ns c.as_slice.result.now c.args.first (first g i told ns is) (head g i told ns is),
      λ told. subst (λ (x : Image). IfSome c.args.first (λ name. AreBehind name c.args.ahead.now.items (shell_step (shell_state (g.F.Files.view c.args.files.now) x) (ask.Ls c.args.path.now)).answer)) (sym (c.in_ok-send_text.ensures.puts.reads told)) (c.requires.ahead told),
    )

pub returns-in-None : goal.returns-in-None
returns-in-None g c =
    let i = c.loop-left.invariant in
    let at = (goal.at.returns-in-None g c).After-send_text in
    speaks_end i.1 (ask.Ls c.args.path.now) c.send_end.result c.send_end.ensures.stops c.send_end.ensures.puts
    (λ told.
    let r = c.requires.told told in
    subst (λ l. AnswersByLine g.K.Started.start (state g at) (ask.Ls c.args.path.now) l (state g at)) (said_all c.loop-left.next c.loop-left.left i.0 r.0 (i.2 told r.0 r.1) c.in-None.is) (answers g at told))

pub returns-in_err-send_text-2 : goal.returns-in_err-send_text-2
returns-in_err-send_text-2 g c =
    let i = c.loop-left.invariant in
    rw (error_is c.from_residual-in_err-send_text-2.result c.in_err-send_text-2.field-0.0 c.from_residual-in_err-send_text-2.ensures) (speaks_cut i.1 (ask.Ls c.args.path.now) c.in_err-send_text-2.ensures.stops c.in_err-send_text-2.ensures.puts
    (λ told.
    let r = c.requires.told told in
    let back = said_piece c.loop-left.next c.loop-left.left i.0 r.0 (i.2 told r.0 r.1) c.in-Some.name c.in-Some.is c.as_slice-in-loop-left.result.now (piece_is g (goal.at.returns-in_err-send_text-2 g c).After-send_text-in-loop-left) in
    (whole_line r.0, back.0, back.1, answers g (goal.at.returns-in_err-send_text-2 g c).After-send_text told)))

pub next_on-requires-clause-ready : goal.next_on-requires-clause-ready
next_on-requires-clause-ready g c = c.loop-left.invariant.1.ready

pub next_on-requires-clause-at : goal.next_on-requires-clause-at
next_on-requires-clause-at g c = (spoken g (goal.at.next_on-requires-clause-at g c).After-next_on-arg-in-loop-left-3-1).at

pub next_on-requires-clause-ahead : goal.next_on-requires-clause-ahead
next_on-requires-clause-ahead g c = λ told.
    let q = ask.Ls c.args.path.now in
    let f1 = g.F.Files.view c.loop-left.files in
    let answer = (shell_step (shell_state f1 (g.P.Device.view c.loop-left.port).reads) q).answer in
    let here = subst (λ o. IfSome o (λ name. AreBehind name c.loop-left.ahead.items answer)) c.in-Some.is (c.loop-left.invariant.3 told) in
    subst (λ (x : Image). AreBehind c.in-Some.name c.loop-left.ahead.items (shell_step (shell_state f1 x) q).answer) (sym (c.in_ok-send_text-2.ensures.puts.reads told)) here

pub returns-in-Err-Device : goal.returns-in-Err-Device
returns-in-Err-Device g c =
    let i = c.loop-left.invariant in
    let piece = c.as_slice-in-loop-left.result.now in
    speaks_lost (spoken g (goal.at.returns-in-Err-Device g c).After-next_on-arg-in-loop-left-3-1) (rw c.in-Err-Device.field-0-is at c.in-Err-Device.ensures.looked)
    (λ told.
    let r = c.requires.told told in
    let ns = r.0 in
    let back = said_piece c.loop-left.next c.loop-left.left i.0 ns (i.2 told ns r.1) c.in-Some.name c.in-Some.is piece (piece_is g (goal.at.returns-in-Err-Device g c).After-send_text-in-loop-left) in
    (whole_line ns, back.0, back.1 ∙ sym (append_assoc i.0 piece back.0), answers g (goal.at.returns-in-Err-Device g c).After-send_text told, ls_in_parts c.args.path.now ns))

pub returns-in-Err : goal.returns-in-Err
returns-in-Err g c =
    let so_far = spoken g (goal.at.returns-in-Err g c).After-next_on-arg-in-loop-left-3-1 in
    let other : c.in-Err.field-0 ≢ no.Device = search rules in
    let look = c.in-Err.ensures.looked in
    let never : g.P.Device.told → ⊥ = λ told.
    let r = c.requires.told told in
    ls_not_refused r.0 c.in-Err.field-0 (shell_step (state g (goal.at.returns-in-Err g c).After-send_text) (ask.Ls c.args.path.now)).answer r.1 (ap (λ (u : ShellState). (shell_step u (ask.Ls c.args.path.now)).answer) (sym (so_far.state told)) ∙ look.refused told other) in
    speaks_never so_far look other never c.send_end-in-Err.ensures.stops c.send_end-in-Err.ensures.puts

pub loop-left-preserved : goal.loop-left-preserved
loop-left-preserved g c =
    let i = c.loop-left.invariant in
    let piece = c.as_slice-in-loop-left.result.now in
    let so_far = spoken g (goal.at.loop-left-preserved g c).After-next_on-arg-in-loop-left-3-1 in
    let at = (goal.at.loop-left-preserved g c).After-send_text in
    let look = c.in-Ok.ensures.looked in (
      i.0 ++ piece,
      speaks_look so_far look,
      λ told ns is.
          let later = next_is (state g at) (shell_state (g.F.Files.view c.loop-left.files) (g.P.Device.view c.send_text-in-loop-left.new.port).reads) (ask.Ls c.args.path.now) ns c.in-Some.name c.in-Ok.more (so_far.state told) is (look.read told) in
          said_next c.loop-left.next c.loop-left.left i.0 ns (i.2 told ns is) c.in-Some.name c.in-Some.is piece (piece_is g (goal.at.loop-left-preserved g c).After-send_text-in-loop-left) c.in-Ok.more (listing g at told ns is) c.loop-left-test.true later,
      c.in-Ok.ensures.ahead,
    )

pub returns : goal.returns
returns g c =
    let i = c.loop-left.invariant in
    let at = (goal.at.returns g c).After-send_text in
    speaks_end i.1 (ask.Ls c.args.path.now) c.send_end-2.result c.send_end-2.ensures.stops c.send_end-2.ensures.puts
    (λ told.
    let r = c.requires.told told in
    let none_more : c.loop-left.left ≡ 0 = omega (arith, c.loop-left-test.false) in
    subst (λ l. AnswersByLine g.K.Started.start (state g at) (ask.Ls c.args.path.now) l (state g at)) (said_most c.loop-left.next c.loop-left.left i.0 r.0 (i.2 told r.0 r.1) (listing g at told r.0 r.1) none_more) (answers g at told))
