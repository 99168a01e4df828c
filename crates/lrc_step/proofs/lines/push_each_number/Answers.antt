use Rattle.std.proofs.Common.{◌∙◌, ◌<◌, ◌++◌, ap, sym, append_assoc, length, take, get_or}
use Rattle.lrc_text.specs.Each.{each}
use Rattle.lrc_text.proofs.Each.{each_more}
use Rattle.lrc_step.specs.Lines.{number_at}
use Rattle.lrc_step.proofs.lines.push_each_number.Goals as goal

pub loop-place-preserved : goal.loop-place-preserved
loop-place-preserved c =
    let numbers = c.args.numbers.now in
    let n = c.loop-place.place in
    let within : n < length numbers = c.loop-place-test.true in
    c.in_ok-push_number_at.ensures
    ∙ ap (λ l. l ++ number_at n (get_or numbers n 0)) c.loop-place.invariant
    ∙ append_assoc _ (each number_at (take n numbers)) (number_at n (get_or numbers n 0))
    ∙ ap (λ l. c.args.text.now.items ++ l) (sym (each_more number_at numbers n 0 within))
