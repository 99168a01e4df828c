use Rattle.std.proofs.Common.{◌∙◌, ap, sym, map, get_or, List, Bool}
use Rattle.std.specs.Prelude.{false}
use Rattle.lrc_lint_warned.specs.Found.{statement_seen}
use Rattle.lrc_lint_warned.proofs.Known.{nothing_added}
use Rattle.lrc_lint_warned.proofs.Lists.{unmarked}
use Rattle.lrc_lint_warned.proofs.words.never_written.Goals as goal

pub returns-then-some_writes_some : goal.returns-then-some_writes_some
returns-then-some_writes_some c =
    nothing_added c.args.words (map statement_seen c.args.statements.now) c.args.out.now.items (sym c.some_writes_some.ensures ∙ c.if-some_writes_some.true)

pub never_written_by-requires-clause-unmarked : goal.never_written_by-requires-clause-unmarked
never_written_by-requires-clause-unmarked c = λ k h.
    ap (λ (l : List Bool). get_or l k false) (c.deref_mut.ensures.value ∙ c.in_ok-known.ensures.items_if_clones_equal (λ y e. e)) ∙ unmarked c.args.words k

pub never_written_by-requires-clause-constants : goal.never_written_by-requires-clause-constants
never_written_by-requires-clause-constants c = sym c.some_writes_some.ensures ∙ c.if-some_writes_some.false
