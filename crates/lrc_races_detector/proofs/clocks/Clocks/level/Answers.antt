-- All entries of the chunk are known, or nothing is done.
use Rattle.std.proofs.Common.{◌/◌, inl, inr, refl, arith}
use Rattle.std.proofs.lemmas.Bool.{cases_eq}
use Rattle.std.proofs.lemmas.Result.{on_ok_weaker}
use Rattle.lrc_races_detector.proofs.clocks.Clocks.level.Goals as goal

pub returns-then-knows_all : goal.returns-then-knows_all
returns-then-knows_all c =
    let chunk = c.args.thread / 128 in
    let known = c.if-knows_all.ensures in
    on_ok_weaker c.level_row.result (λ levelled. record {
      here = λ thread.
          elim (cases_eq (thread / 128) chunk) [
            | inl same ↦ inr (
              same,
              known thread (omega (arith, same))
                  (omega (arith, same)),
              levelled.here.here thread same,
            )
            | inr apart ↦ inl (levelled.here.others thread apart)
          ];
      others = levelled.others;
    }) c.level_row.ensures

pub returns : goal.returns
returns c = record { here = λ thread. inl refl; others = λ other ne. refl }
