use Rattle.std.proofs.Common.{◌≡◌, ◌∙◌, ap, refl, sym}
use Rattle.std.specs.Prelude.{◌&&◌}
use Rattle.lrc_judge.specs.Order.{is_before}
use Rattle.lrc_judge_all.specs.declared.kept.Kept.{Kept}
use Rattle.lrc_judge_all.proofs.Keeping.{kept_earlier, kept_later}
use Rattle.lrc_judge_all.proofs.kept.Kept.with.Goals as goal
use Rattle.lrc_judge_all.proofs.kept.Kept.with.Goals.{then-are_ordered, else-are_ordered}

pub returns-then-last-position : goal.returns-then-last-position
returns-then-last-position c = λ run known word of done fresh kept.
    let before = is_before c.args.order.now c.args.self.last c.args.position in
    let follows : c.if-are_ordered.follows ≡ (c.args.self.are_ordered && before) =
    elim c.if-are_ordered.branch [
      | then-are_ordered w ↦ w.follows-is ∙ w.is_before-follows.ensures ∙ sym (ap (λ x. x && before) w.if-are_ordered.true)
      | else-are_ordered w ↦ w.follows-is ∙ w.if-are_ordered.false ∙ sym (ap (λ x. x && before) w.if-are_ordered.false)
    ] in
    let new : Kept =
    record { last = c.args.position; latest = c.args.value; are_ordered = c.if-are_ordered.follows; values = c.insert.new.self } in
    kept_later run known word c.args.position c.args.value done c.args.order.now c.args.self new of fresh kept c.if-last-position.true refl refl follows
    c.in_ok-insert.ensures.updates

pub returns : goal.returns
returns c = λ run known word of done fresh kept.
    let before = is_before c.args.order.now c.args.self.last c.args.position in
    let follows : c.if-are_ordered.follows ≡ (c.args.self.are_ordered && before) =
    elim c.if-are_ordered.branch [
      | then-are_ordered w ↦ w.follows-is ∙ w.is_before-follows.ensures ∙ sym (ap (λ x. x && before) w.if-are_ordered.true)
      | else-are_ordered w ↦ w.follows-is ∙ w.if-are_ordered.false ∙ sym (ap (λ x. x && before) w.if-are_ordered.false)
    ] in
    let new : Kept =
    record { last = c.args.self.last; latest = c.args.self.latest; are_ordered = c.if-are_ordered.follows; values = c.insert.new.self } in
    kept_earlier run known word c.args.position c.args.value done c.args.order.now c.args.self new of fresh kept c.if-last-position.false refl refl follows
    c.in_ok-insert.ensures.updates
