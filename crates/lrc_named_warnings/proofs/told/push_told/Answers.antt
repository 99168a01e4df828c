use Rattle.std.proofs.Common.{◌≡◌, ◌∙◌, ◌++◌, ap}
use Rattle.std.proofs.lemmas.Result.{on_ok_weaker}
use Rattle.lrc_named_warnings.specs.Context.{context_seen}
use Rattle.lrc_named_warnings.specs.Told.{told_text}
use Rattle.lrc_named_warnings.proofs.Telling.{told}
use Rattle.lrc_named_warnings.proofs.told.push_told.Goals as goal

pub returns : goal.returns
returns c =
    let file = c.args.file.now in
    let context = context_seen c.args.context.now in
    let old = c.args.out.now.items in
    on_ok_weaker c.push_notes.result
    (λ (h : c.push_notes.new.out.items ≡ old ++ told_text file context c.deref.result.now).
    told file context c.args.warned.now old c.push_notes.new.out.items c.in_ok-notes.notes.items c.in_ok-notes.ensures.these c.in_ok-notes.ensures.sorted
    (h ∙ ap (λ l. old ++ told_text file context l) c.deref.ensures.value))
    c.push_notes.ensures
