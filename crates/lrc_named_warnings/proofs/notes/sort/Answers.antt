use Rattle.std.proofs.Common.{rules, ◌≡◌}
use Rattle.std.proofs.lemmas.Result.{on_ok_weaker}
use Rattle.std.proofs.lemmas.List.Sorted.{answers_always}
use Rattle.lrc_named_warnings.specs.Notes.{key_of}
use Rattle.lrc_named_warnings.proofs.notes.sort.Goals as goal

pub returns-clause-sorted : goal.returns-clause-sorted
returns-clause-sorted c =
    on_ok_weaker c.sort_by_key.result (λ h. h key_of (answers_always _ (λ a r. r ≡ key_of a.0.now) _ (λ f a r q k. search rules))) c.sort_by_key.ensures.sorted
