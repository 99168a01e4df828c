use Rattle.std.proofs.Common.{List, ℕ, arith, rules, subst, sym}
use Rattle.std.specs.declared.io.ErrorKind.{ErrorKind}
use Rattle.lrc_shell_sources.specs.Known.{IsCause, IsReadOff}
use Rattle.lrc_races_stream.proofs.HearingLemmas.{heard_unread}
use Rattle.lrc_races_stream.proofs.TellerLemmas.{block_front, read_no_more}
use Rattle.lrc_races_stream.proofs.teller.Teller.turn.Goals as goal

pub returns-in-Ok-eq0-clause-comes : goal.returns-in-Ok-eq0-clause-comes
returns-in-Ok-eq0-clause-comes g c form asked held start u =
    c.finish.ensures.comes form asked held (g.B.Blocks.left c.args.trace.now) start u
    (c.in-Ok-eq0.ensures.end c.in-Ok-eq0.field-0-test (search (rules, arith)))

pub returns-in-Ok-eq0-clause-hears : goal.returns-in-Ok-eq0-clause-hears
returns-in-Ok-eq0-clause-hears g c form held start h =
    c.finish.ensures.hears form held (g.B.Blocks.left c.args.trace.now) start h
    (c.in-Ok-eq0.ensures.end c.in-Ok-eq0.field-0-test (search (rules, arith)))

pub returns-in-Ok-clause-comes : goal.returns-in-Ok-clause-comes
returns-in-Ok-clause-comes g c form asked held start u =
    c.take.ensures.comes form asked held (g.B.Blocks.left c.args.trace.now) (g.B.Blocks.left c.read.new.self) start u
    (subst (λ (bytes : List ℕ). IsReadOff (g.B.Blocks.left c.args.trace.now) bytes (g.B.Blocks.left c.read.new.self))
    (sym (block_front c.in-Ok.count c.args.self.now.block.len c.read.new.block _ c.in-Ok.ensures.count (search (rules, arith)))) c.in-Ok.ensures.ok)

pub returns-in-Ok-clause-hears : goal.returns-in-Ok-clause-hears
returns-in-Ok-clause-hears g c form held start h =
    c.take.ensures.hears form held (g.B.Blocks.left c.args.trace.now) (g.B.Blocks.left c.read.new.self) start h
    (subst (λ (bytes : List ℕ). IsReadOff (g.B.Blocks.left c.args.trace.now) bytes (g.B.Blocks.left c.read.new.self))
    (sym (block_front c.in-Ok.count c.args.self.now.block.len c.read.new.block _ c.in-Ok.ensures.count (search (rules, arith)))) c.in-Ok.ensures.ok)

pub returns-in-Err-clause-comes : goal.returns-in-Err-clause-comes
returns-in-Err-clause-comes g c form asked held start u =
    read_no_more form asked held (g.B.Blocks.left c.args.trace.now) start _ _ u _
    (subst (λ (kind : ErrorKind). IsCause (g.B.Blocks.left c.args.trace.now) kind) (sym c.kind.ensures) c.in-Err.ensures.err)

pub returns-in-Err-clause-hears : goal.returns-in-Err-clause-hears
returns-in-Err-clause-hears g c form held start h =
    heard_unread h _ (subst (λ (kind : ErrorKind). IsCause (g.B.Blocks.left c.args.trace.now) kind) (sym c.kind.ensures) c.in-Err.ensures.err)
