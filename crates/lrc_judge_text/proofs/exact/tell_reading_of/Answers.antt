use Rattle.std.proofs.Common.{Option, false, arith, subst, sym}
use Rattle.std.specs.Prelude.{Some}
use Rattle.lrc_exact_judge.specs.First.{IsFound}
use Rattle.lrc_exact_judge.specs.declared.first.Inexact.{Inexact}
use Rattle.lrc_acts.specs.declared.judge_lines.Place.{Place}
use Rattle.lrc_judge_text.specs.Judgement.{TellsExactReading, exact, exact_line, exact_shape, inexact, inexact_line}
use Rattle.lrc_judge_text.proofs.exact.tell_reading_of.Goals as goal

pub place_at-requires : goal.place_at-requires
place_at-requires c =
    let found = subst (λ (o : Option Inexact). IsFound (exact_shape c.args.nodes c.args.memory) c.args.acts.now o) c.in-Some.is c.in_ok-found.ensures in
    omega (arith, found.is.within, found.looked_at.within, c.requires.lines)

pub returns-in_ok-push_inexact-in-Some : goal.returns-in_ok-push_inexact-in-Some
returns-in_ok-push_inexact-in-Some c =
    let found = subst (λ (o : Option Inexact). IsFound (exact_shape c.args.nodes c.args.memory) c.args.acts.now o) c.in-Some.is c.in_ok-found.ensures in
    record {
      added = inexact_line c.place_at.result c.in-Some.first.read c.in-Some.first.given;
      whole = c.in_ok-push_inexact-in-Some.ensures;
      so = subst (λ (p : Place). TellsExactReading c.args.nodes (Some c.args.memory) c.args.acts.now c.args.lines.now false
          (inexact_line p c.in-Some.first.read c.in-Some.first.given)) (sym c.place_at.ensures) (inexact found);
    }

pub returns-in_ok-extend_from_slice-in-None : goal.returns-in_ok-extend_from_slice-in-None
returns-in_ok-extend_from_slice-in-None c = record {
  added = exact_line;
  whole = c.in_ok-extend_from_slice-in-None.ensures.items;
  so = exact (subst (λ (o : Option Inexact). IsFound (exact_shape c.args.nodes c.args.memory) c.args.acts.now o) c.in-None.is c.in_ok-found.ensures);
}
