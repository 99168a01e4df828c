use Rattle.std.proofs.Common.{◌≡◌, ◌<◌, ◌-◌, ◌∙◌, sym, ap, length, arith}
use Rattle.std.specs.Prelude.{Some, slice_get}
use Rattle.std.proofs.lemmas.List.{length-map}
use Rattle.std.proofs.lemmas.Option.{slice_get-get_or}
use Rattle.lrc_text.specs.Parts.{texts_of}
use Rattle.lrc_explore_text.proofs.Listed.{Part}
use Rattle.lrc_explore_text.proofs.Numbered.{line_of_some, no_line, text_at}
use Rattle.lrc_explore_text.proofs.outcome_run.place_of.Goals as goal

pub returns-then-at-len : goal.returns-then-at-len
returns-then-at-len c =
    let lines = c.in_ok-lines.lines.items in
    no_line c.args.nodes c.args.outcomes.now (texts_of lines) (c.args.number - 1) c.args.number c.in_ok-lines.ensures
    (omega (arith, c.if-at-len.true, c.len.ensures, length-map lines (λ (p : Part). p.items))) (omega (arith, c.requires))

pub place_of_line-requires : goal.place_of_line-requires
place_of_line-requires c =
    let lines = c.in_ok-lines.lines.items in
    let at = c.args.number - 1 in
    let within : at < length lines = omega (arith, c.if-at-len.false, c.len.ensures) in
    let there : slice_get (texts_of lines) at ≡ Some c.deref.result.now =
    text_at lines at c.index.result.now (slice_get-get_or lines at _ within ∙ ap Some (sym c.index.ensures)) ∙ ap Some (sym c.deref.ensures.value) in
    line_of_some (texts_of lines) _ c.deref.result.now at c.in_ok-lines.ensures.same there

pub returns : goal.returns
returns c =
    let lines = c.in_ok-lines.lines.items in
    let at = c.args.number - 1 in
    let within : at < length lines = omega (arith, c.if-at-len.false, c.len.ensures) in
    let there : slice_get (texts_of lines) at ≡ Some c.deref.result.now =
    text_at lines at c.index.result.now (slice_get-get_or lines at _ within ∙ ap Some (sym c.index.ensures)) ∙ ap Some (sym c.deref.ensures.value) in
    record { lines = texts_of lines; list = c.in_ok-lines.ensures; line = c.deref.result.now; there = there; at = c.in_ok-place.ensures }
