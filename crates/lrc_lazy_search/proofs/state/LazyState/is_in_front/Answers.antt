use Rattle.std.proofs.Common.{◌∙◌, sym}
use Rattle.lrc_lazy_search.proofs.Making.{front_can}
use Rattle.lrc_lazy_search.proofs.state.LazyState.is_in_front.Goals as goal

pub returns-in_default-deed : goal.returns-in_default-deed
returns-in_default-deed c =
    let flat = c.args.flat.now in
    let key = c.args.self.now in
    let deed = c.in-Some.deed in
    let is = sym c.next_deed.ensures ∙ c.in-Some.is in
    record {
      front = λ yes. front_can flat key c.requires.fit c.args.node deed is (λ l e. c.in_default-deed.not-Acquire l e);
      behind = λ no. cc;
    }
