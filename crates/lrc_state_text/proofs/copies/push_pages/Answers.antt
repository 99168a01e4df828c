use Rattle.std.proofs.Common.{◌≡◌, ◌<◌, ℕ, List, length, subst, sym, rules, arith, not}
use Rattle.std.specs.Prelude.{All}
use Rattle.lrc_state_text.specs.Copies.{is_at_start}
use Rattle.lrc_state_text.proofs.Lists.{are_below}
use Rattle.lrc_state_text.proofs.copies.push_pages.Goals as goal

pub push_listed-requires : goal.push_listed-requires
push_listed-requires c =
    let memory = c.args.memory.now.memory in
    let same : c.deref.result.now ≡ c.in_ok-shown.shown.items = search rules in
    subst (λ (l : List ℕ). All (λ k. k < length memory.copies) l) (sym same)
    (are_below (λ page. not (is_at_start memory page)) (length memory.copies) (length memory.copies) c.in_ok-shown.shown.items
    c.in_ok-shown.ensures (omega arith))
