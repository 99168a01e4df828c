-- The line of a fault.
use Rattle.lrc_races_text.specs.Tables.{naming_of}
use Rattle.lrc_races_text.proofs.TextLemmas.{start, one, two, faulted}
use Rattle.lrc_races_text.proofs.spelling.push_fault.Goals as goal

pub returns-in_ok-push_two-in-Some-2 : goal.returns-in_ok-push_two-in-Some-2
returns-in_ok-push_two-in-Some-2 c =
    let a = two (start c.args.text.now.items) _ _ c.in_ok-push_number-in-Some.ensures.ok in
    let b = two a _ _ c.in_ok-push_two-in-Some.ensures in
    let d = one b _ c.in_ok-push_reason-in-Some.ensures in
    let e = two d _ _ c.in_ok-push_two-in-Some-2.ensures in
    faulted (naming_of c.args.names.now) c.args.text.now.items _ c.in-Some.is e.is
