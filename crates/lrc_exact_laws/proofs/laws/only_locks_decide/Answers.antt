use Rattle.std.proofs.Common.{[], inl, sym, ◌∙◌, append-nil}
use Rattle.lrc_exact_laws.specs.Order.{acquirers}
use Rattle.lrc_exact.specs.Rule.{exact_rule}
use Rattle.lrc_exact_laws.specs.Laws.{OnlyLocksDecide}
use Rattle.lrc_exact_laws.proofs.Deciding.{no_acquirer, one_begins}
use Rattle.lrc_exact_laws.proofs.laws.only_locks_decide.Goals as goal

decide : OnlyLocksDecide
decide program shape run other a b locks =
    one_begins (exact_rule shape) (λ state word. (state.words word).value) program shape.nodes run other a.exact.states b.exact.states
    record { follows = a.follows; synchronized = a.synchronized; keeps = a.exact.keeps; reads = a.exact.reads }
    record { follows = b.follows; synchronized = b.synchronized; keeps = b.exact.keeps; reads = b.exact.reads } locks

pub returns-clause-locks : goal.returns-clause-locks
returns-clause-locks c = decide

pub returns-clause-without_locks : goal.returns-clause-without_locks
returns-clause-without_locks c = λ program shape run other a b none none'.
    decide program shape run other a b (λ l. inl ([], append-nil (acquirers l run) ∙ no_acquirer run none l ∙ sym (no_acquirer other none' l)))
