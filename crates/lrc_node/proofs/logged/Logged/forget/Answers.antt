use Rattle.std.proofs.Common.{◌≡◌, ◌∙◌, ◌-◌, ◌<◌, List, arith, ap, length, sym}
use Rattle.std.specs.Prelude.{slice_index_or, vec_len}
use Rattle.lrc_protocol.specs.Run.{EntryRecord}
use Rattle.lrc_node.specs.Logged.{LoggedNode, TracedLog, newest}
use Rattle.lrc_node.proofs.Newest.{newest-few, newest-first}
use Rattle.lrc_node.proofs.logged.Logged.forget.Goals as goal

pub returns-then-count-gt1-clause-log : goal.returns-then-count-gt1-clause-log
returns-then-count-gt1-clause-log c =
    let log = c.self.inside.log.items in
    let more : 1 < vec_len c.self.inside.log = omega (arith, c.if-count-gt1.true, c.len-count.ensures) in
    let count : vec_len c.self.inside.log ≡ length log = omega arith in
    let left : c.truncate.new.self.items ≡ newest log =
    c.truncate.ensures.items
    ∙ newest-first log c.swap_remove-oldest.new.self.items (omega (arith, more)) (omega (arith, more, c.swap_remove-oldest.ensures.len))
    (λ d. c.swap_remove-oldest.ensures.by_index.0 d more ∙ ap (λ n. slice_index_or log (n - 1) d) count) in
    ap (λ (t : TracedLog). t.logged) c.keep.ensures
    ∙ ap (λ (g : List EntryRecord). let l : LoggedNode = record { node = c.self.inside.node.node; log = g } in l) left
    ∙ ap (λ (t : TracedLog). let l : LoggedNode = record { node = t.logged.node; log = newest t.logged.log } in l) c.self.view_is

pub returns-else-count-gt1-clause-log : goal.returns-else-count-gt1-clause-log
returns-else-count-gt1-clause-log c =
    let log = c.self.inside.log.items in
    let same : log ≡ newest log = newest-few log (omega (arith, c.if-count-gt1.false, c.len-count.ensures)) in
    sym (ap (λ (t : TracedLog). t.logged) c.self.view_is)
    ∙ ap (λ (g : List EntryRecord). let l : LoggedNode = record { node = c.self.inside.node.node; log = g } in l) same
    ∙ ap (λ (t : TracedLog). let l : LoggedNode = record { node = t.logged.node; log = newest t.logged.log } in l) c.self.view_is
