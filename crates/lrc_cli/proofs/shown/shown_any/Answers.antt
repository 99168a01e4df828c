-- What is shown of a named program is what is shown of its core, on threads too.
use Rattle.std.proofs.Common.{◌∙◌, List, ℕ, ap, option_map}
use Rattle.std.specs.Borrow.{Bor}
use Rattle.lrc_cli.specs.Reading.{run_for}
use Rattle.lrc_cli.proofs.ShownLemmas.{as_read, unread}
use Rattle.lrc_cli.proofs.shown.shown_any.Goals as goal

pub returns-in_err-reading : goal.returns-in_err-reading
returns-in_err-reading g c =
    let events : _ = option_map (λ (e : Bor (List ℕ)). e.now) c.args.events in
    unread c.args.run.now c.args.shape c.args.text.now events c.from_residual.result c.in_err-reading.field-0.0 c.from_residual.ensures.1
    c.in_err-reading.ensures.err

pub returns : goal.returns
returns g c =
    let events : _ = option_map (λ (e : Bor (List ℕ)). e.now) c.args.events in
    as_read c.args.run.now c.run_for-own.result c.args.shape c.args.text.now c.told-told.result events c.show_any.result _ _
    c.in_ok-reading.ensures.ok (c.run_for-own.ensures ∙ ap (run_for c.args.run.now) c.nodes.ensures) c.told-told.ensures c.show_any.ensures
