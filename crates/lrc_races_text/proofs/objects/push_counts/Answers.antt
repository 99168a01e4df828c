-- The numbers are added, one after another.
use Rattle.lrc_races_text.proofs.TextLemmas.{start, two}
use Rattle.lrc_races_text.proofs.objects.push_counts.Goals as goal

pub returns : goal.returns
returns c =
    let a = two (start c.args.text.now.items) _ _ c.in_ok-push_number.ensures.ok in
    let b = two a _ _ c.in_ok-push_number-2.ensures.ok in
    let d = two b _ _ c.in_ok-push_count.ensures in
    let e = two d _ _ c.in_ok-push_count-2.ensures in
    let f = two e _ _ c.in_ok-push_count-3.ensures in
    let g = two f _ _ c.in_ok-push_count-4.ensures in
    (two g _ _ c.in_ok-push_two.ensures).is
