use Rattle.std.proofs.Common.{length, take}
use Rattle.std.specs.Prelude.{MatchOption}
use Rattle.std.proofs.lemmas.Result.{IfOk-weaker}
use Rattle.lrc_exact.specs.Rule.{ReadsExactly}
use Rattle.lrc_exact_judge.specs.First.{IsFirstInexact, IsFound}
use Rattle.lrc_exact_judge.specs.Shape.{shape_of}
use Rattle.lrc_exact_judge.proofs.Reading.{found-in}
use Rattle.lrc_exact_judge.proofs.first.first_inexact.Goals as goal

pub returns : goal.returns
returns c =
    let shape = shape_of c.args.layout in
    let run = c.args.acts.now in
    let n = c.looked_at.result in
    IfOk-weaker c.first_in.result
    (λ found. MatchOption found (ReadsExactly shape (take n run)) (IsFirstInexact shape (take n run) (length (take n run))))
    (IsFound shape run)
    (λ found h. record { n = n; looked_at = c.looked_at.ensures; is = found-in shape run n found c.looked_at.ensures.within h })
    c.first_in.ensures
