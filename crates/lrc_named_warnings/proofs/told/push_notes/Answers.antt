use Rattle.std.proofs.Common.{◌≡◌, ◌∙◌, ◌++◌, ap, sym, map, length, arith, rules}
use Rattle.std.proofs.lemmas.List.{length-map}
use Rattle.std.proofs.lemmas.Result.{on_ok_weaker}
use Rattle.lrc_lint_lines.specs.Head.{count_text}
use Rattle.lrc_named_warnings.specs.Context.{context_seen}
use Rattle.lrc_named_warnings.specs.Lines.{firsts, line_of, lines_text}
use Rattle.lrc_named_warnings.specs.Seen.{line_seen}
use Rattle.lrc_named_warnings.proofs.Telling.{counted}
use Rattle.lrc_named_warnings.proofs.told.push_notes.Goals as goal

pub returns : goal.returns
returns c =
    let file = c.args.file.now in
    let old = c.args.out.now.items in
    let one = c.push_lines.new.out.items in
    let new = c.push_count.new.out.items in
    let seen = map (λ line. line_seen line.now) c.in_ok-told.told.items in
    let many : c.len.result ≡ length c.in_ok-told.told.items = first_of (omega arith, search rules) in
    on_ok_weaker c.push_count.result
    (λ (h : new ≡ one ++ count_text c.len.result).
    counted file old one new seen (firsts (map (line_of (context_seen c.args.context.now)) c.args.notes.now)) c.len.result
    (c.in_ok-told.ensures ∙ ap (λ l. firsts (map line_seen l)) c.deref.ensures.value ∙ ap firsts c.in_ok-lines.ensures)
    (many ∙ sym (length-map c.in_ok-told.told.items (λ line. line_seen line.now)))
    (c.in_ok-push_lines.ensures ∙ ap (λ l. old ++ lines_text file (map (λ line. line_seen line.now) l)) c.deref-2.ensures.value)
    h)
    c.push_count.ensures
