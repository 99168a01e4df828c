use Rattle.std.proofs.Common.{◌≡◌, ◌∙◌, ◌++◌, ℕ, List, ap, append_assoc}
use Rattle.lrc_lines.proofs.Following.{on_ok}
use Rattle.lrc_trace.specs.declared.act.Deed.{Deed}
use Rattle.lrc_judge.specs.Races.{word_of}
use Rattle.lrc_explain.specs.Access.{left_in, reads_words, unless_last}
use Rattle.lrc_explain.proofs.access.push_words.Goals as goal

pub returns-in_ok-push_reads-in-Read : goal.returns-in_ok-push_reads-in-Read
returns-in_ok-push_reads-in-Read c = λ before is.
    let old = c.args.text.now.items in
    let value = c.in-Read.value in
    let left = c.args.left in
    let left_is : left ≡ left_in c.in-Read.field-0 before = is ∙ ap (λ (d : Deed). left_in (word_of d) before) c.in-Read.is in
    rw c.in-Read.is (on_ok c.push_read.result
    (λ e. e ∙ ap (λ (l : List ℕ). l ++ unless_last value left) c.in_ok-push_reads-in-Read.ensures
    ∙ append_assoc old (reads_words value) (unless_last value left)
    ∙ ap (λ (k : ℕ). old ++ (reads_words value ++ unless_last value k)) left_is)
    c.push_read.ensures)
