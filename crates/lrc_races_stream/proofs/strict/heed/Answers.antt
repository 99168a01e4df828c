-- Nothing is looked for, or nothing is found, or this, or memory ran out.
use Rattle.std.proofs.Common.{subst}
use Rattle.std.specs.Prelude.{Option}
use Rattle.lrc_races_text.specs.declared.ill.Ill.{Ill}
use Rattle.lrc_races_stream.specs.Strict.{TellsIll}
use Rattle.lrc_races_stream.proofs.StrictLemmas.{found_ill, found_none, lenient}
use Rattle.lrc_races_stream.proofs.strict.heed.Goals as goal

pub returns-else-strict-clause-none : goal.returns-else-strict-clause-none
returns-else-strict-clause-none g c = lenient c.args.strict g.K.Keep.has_kept c.args.kept.now c.if-strict.false

pub returns-in-Ok-Some-clause-ill : goal.returns-in-Ok-Some-clause-ill
returns-in-Ok-Some-clause-ill g c =
    found_ill c.args.strict g.K.Keep.has_kept c.args.kept.now c.in-Ok-Some.ill c.if-strict.true
    (subst (λ (ill : Option Ill). TellsIll g.K.Keep.has_kept c.args.kept.now ill) c.in-Ok-Some.field-0-is c.in-Ok-Some.ensures)

pub returns-in-Ok-None-clause-none : goal.returns-in-Ok-None-clause-none
returns-in-Ok-None-clause-none g c =
    found_none c.args.strict g.K.Keep.has_kept c.args.kept.now
    (subst (λ (ill : Option Ill). TellsIll g.K.Keep.has_kept c.args.kept.now ill) c.in-Ok-None.field-0-is c.in-Ok-None.ensures)
