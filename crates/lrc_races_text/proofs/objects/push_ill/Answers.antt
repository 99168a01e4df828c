-- The parts are added, one after another.
use Rattle.lrc_races_text.proofs.TextLemmas.{start, one, two}
use Rattle.lrc_races_text.proofs.objects.push_ill.Goals as goal

pub returns : goal.returns
returns c =
    let a = two (start c.args.text.now.items) _ _ c.in_ok-push_number.ensures.ok in
    let b = two a _ _ c.in_ok-push_two.ensures in
    let d = one b _ c.in_ok-push_quoted.ensures in
    (two d _ _ c.in_ok-push_two-2.ensures).is
