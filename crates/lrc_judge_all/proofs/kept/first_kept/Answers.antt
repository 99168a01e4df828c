use Rattle.std.proofs.Common.{refl, true}
use Rattle.lrc_judge_all.specs.declared.kept.Kept.{Kept}
use Rattle.lrc_judge_all.proofs.Keeping.{kept_first}
use Rattle.lrc_judge_all.proofs.kept.first_kept.Goals as goal

pub returns : goal.returns
returns c = λ run known word done nothing.
    let new : Kept = record { last = c.args.position; latest = c.args.value; are_ordered = true; values = c.insert-2.new.self } in
    kept_first run known word c.args.position c.args.value done c.new-values.result c.insert.new.self new nothing c.new-values.ensures.empty
    c.in_ok-insert.ensures.updates c.in_ok-insert-2.ensures.updates refl refl refl
