use Rattle.std.proofs.Common.{refl, subst}
use Rattle.lrc_exact.specs.Rule.{Shape}
use Rattle.lrc_exact_search.specs.Searching.{MeetsMore}
use Rattle.lrc_cli.proofs.exact.all_exact_runs.Goals as goal

pub returns-in-Err-TooMany-clause-err : goal.returns-in-Err-TooMany-clause-err
returns-in-Err-TooMany-clause-err c = (
  refl,
  subst (λ (shape : Shape). MeetsMore c.args.program.now shape c.args.exploring.now.most.count) c.setting_of-setting.ensures.shape
      (c.in-Err-TooMany.ensures.too_many c.in-Err-TooMany.field-0-is),
)
