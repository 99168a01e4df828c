use Rattle.std.proofs.Common.{refl}
use Rattle.lrc_lang.proofs.Behind.{IsBehind-start}
use Rattle.lrc_lang.proofs.Reading.{IsRead-start, IsRead-more, IsText-end, fault_here, fault_answer}
use Rattle.lrc_lang.proofs.parser.read_into.Goals as goal

pub loop-kind-init : goal.loop-kind-init
loop-kind-init c =
    rw (c.new-lexer.ensures.line, c.new-lexer.ensures.rest)
    (IsRead-start c.args.text.now c.args.state.now c.empty-limits.result
    (IsBehind-start c.args.state.now c.empty-limits.result c.requires.start c.empty-limits.ensures.names c.empty-limits.ensures.nested
    c.empty-limits.ensures.operators))

pub loop-kind-preserved : goal.loop-kind-preserved
loop-kind-preserved c =
    IsRead-more c.args.text.now _ _ c.loop-kind.state c.take.new.state c.loop-kind.limits c.take.new.limits c.loop-kind.invariant
    _ _ _ _ c.next_lexeme-found.ensures.next (λ e. cc (c.if-is_end.ensures.1 e)) c.in_default.ensures

pub returns-then-is_end-clause-program : goal.returns-then-is_end-clause-program
returns-then-is_end-clause-program c =
    IsText-end c.args.text.now _ _ c.loop-kind.state c.take.new.state c.loop-kind.limits c.take.new.limits c.loop-kind.invariant
    c.requires.short _ _ _ _ c.next_lexeme-found.ensures.next (c.if-is_end.ensures.0 refl) c.in_default.ensures

pub returns-in-Err-clause-fault : goal.returns-in-Err-clause-fault
returns-in-Err-clause-fault c =
    fault_answer c.args.text.now _ c.in-Err.kind c.fault.result c.fault.ensures.kind c.fault.ensures.line c.fault.ensures.no_line
    (fault_here c.args.text.now _ _ c.loop-kind.state c.take.new.state c.loop-kind.limits c.take.new.limits c.loop-kind.invariant
    c.requires.short _ _ _ _ c.in-Err.kind c.next_lexeme-found.ensures.next c.in-Err.ensures)
