use Rattle.std.proofs.Common.{◌≡◌, ◌∙◌, ◌++◌, None, ap, sym, append_assoc, get_or, map, take}
use Rattle.lrc_text.proofs.Each.{each_more}
use Rattle.lrc_text.specs.Each.{each}
use Rattle.lrc_why_run.specs.Private.{name_text}
use Rattle.lrc_why_run.proofs.private.push_names.Goals as goal

pub loop-name-preserved : goal.loop-name-preserved
loop-name-preserved c =
    let of = name_text c.args.shown (map (λ name. name.now) c.args.names.now) c.args.privates.now c.args.statement.now in
    let items = c.args.lasts.now in
    let at = c.loop-name.name in
    let old = c.args.text.now.items in
    c.in_ok-push_read_name.ensures ∙ ap (λ l. l ++ of at (get_or items at None)) c.loop-name.invariant
    ∙ append_assoc old (each of (take at items)) (of at (get_or items at None)) ∙ ap (λ l. old ++ l) (sym (each_more of items at None c.loop-name-test.true))
