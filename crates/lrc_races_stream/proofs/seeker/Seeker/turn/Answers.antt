use Rattle.std.proofs.Common.{List, ℕ, arith, rules, subst, sym}
use Rattle.std.specs.declared.io.ErrorKind.{ErrorKind}
use Rattle.lrc_shell_sources.specs.Known.{IsCause, IsReadOff}
use Rattle.lrc_races_stream.proofs.TellerLemmas.{block_front}
use Rattle.lrc_races_stream.proofs.SeekerLemmas.{end_goes, end_stops, no_more, take_goes, take_stops}
use Rattle.lrc_races_stream.proofs.seeker.Seeker.turn.Goals as goal

pub returns-in-Ok-eq0-clause-goes : goal.returns-in-Ok-eq0-clause-goes
returns-in-Ok-eq0-clause-goes g c =
    end_goes g.K.Keep.has_kept (g.B.Blocks.left c.args.trace.now) (g.B.Blocks.left c.read.new.self) c.args.self.now.front c.end.new.self.front
    c.end.result
    (c.in-Ok-eq0.ensures.end c.in-Ok-eq0.field-0-test (search (rules, arith))) c.end.ensures.goes

pub returns-in-Ok-eq0-clause-stop : goal.returns-in-Ok-eq0-clause-stop
returns-in-Ok-eq0-clause-stop g c =
    end_stops g.K.Keep.has_kept (g.B.Blocks.left c.args.trace.now) (g.B.Blocks.left c.read.new.self) c.args.self.now.front c.end.new.self.front
    c.end.result (c.in-Ok-eq0.ensures.end c.in-Ok-eq0.field-0-test (search (rules, arith))) c.end.ensures.stop

pub returns-in-Ok-clause-goes : goal.returns-in-Ok-clause-goes
returns-in-Ok-clause-goes g c =
    take_goes g.K.Keep.has_kept (g.B.Blocks.left c.args.trace.now) (g.B.Blocks.left c.read.new.self) c.args.self.now.front c.take.new.self.front
    c.take.result _
    (subst (λ (bytes : List ℕ). IsReadOff (g.B.Blocks.left c.args.trace.now) bytes (g.B.Blocks.left c.read.new.self))
    (sym (block_front c.in-Ok.count c.args.self.now.block.len c.read.new.block _ c.in-Ok.ensures.count (search (rules, arith)))) c.in-Ok.ensures.ok)
    c.take.ensures.goes

pub returns-in-Ok-clause-stop : goal.returns-in-Ok-clause-stop
returns-in-Ok-clause-stop g c =
    take_stops g.K.Keep.has_kept (g.B.Blocks.left c.args.trace.now) (g.B.Blocks.left c.read.new.self) c.args.self.now.front c.take.new.self.front
    c.take.result _
    (subst (λ (bytes : List ℕ). IsReadOff (g.B.Blocks.left c.args.trace.now) bytes (g.B.Blocks.left c.read.new.self))
    (sym (block_front c.in-Ok.count c.args.self.now.block.len c.read.new.block _ c.in-Ok.ensures.count (search (rules, arith)))) c.in-Ok.ensures.ok)
    c.take.ensures.stop

pub returns-in-Err-clause-stop : goal.returns-in-Err-clause-stop
returns-in-Err-clause-stop g c sought form last held u =
    no_more g.K.Keep.has_kept sought form last held (g.B.Blocks.left c.args.trace.now) _ u _
    (subst (λ (kind : ErrorKind). IsCause (g.B.Blocks.left c.args.trace.now) kind) (sym c.kind.ensures) c.in-Err.ensures.err)
