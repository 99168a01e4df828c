use Rattle.std.proofs.Common.{◌≤◌, List, length, not, sym, subst}
use Rattle.std.specs.Prelude.{◌==◌, All}
use Rattle.std.proofs.lemmas.List.Elements.{All-filter}
use Rattle.lrc_protocol.specs.Pages.{Asked}
use Rattle.lrc_need.proofs.need.Need.take_changes.Goals as goal

pub invariant_of-self : goal.invariant_of-self
invariant_of-self c = record {
  in_range = c.self.invariant.in_range;
  some =
      subst (λ (l : List Asked). All (λ a. 1 ≤ length a.indices) l) (sym c.drop_maker.ensures)
      (All-filter (λ a. not (a.maker == c.args.maker)) (λ a. 1 ≤ length a.indices) c.self.inside.asked.items c.self.invariant.some);
}
