use Rattle.std.proofs.Common.{◌≡◌, ◌∙◌, [], ◌∷◌, ◌++◌, ap}
use Rattle.std.specs.Prelude.{slice_get}
use Rattle.indexmap.proofs.CallerLemmas.{insert_entry-new}
use Rattle.lrc_orders_less.specs.contracts.reaches.TextPartialEq.TheImpl.{eq-value as text_eq}
use Rattle.lrc_orders_less.proofs.Pairs.{last_there}
use Rattle.lrc_orders_less.proofs.reaches.Reaches.keep_text.Goals as goal

pub returns-clause-entries : goal.returns-clause-entries
returns-clause-entries c =
    c.in_ok-insert.ensures.entries ∙ insert_entry-new text_eq.it c.args.self.now.texts c.args.text c.args.found c.requires

pub returns-clause-there : goal.returns-clause-there
returns-clause-there c =
    let old = c.args.self.now.texts in
    let text = c.args.text in
    let found = c.args.found in
    let entries : c.insert.new.self.entries ≡ old.entries ++ (text, found) ∷ [] =
    c.in_ok-insert.ensures.entries ∙ insert_entry-new text_eq.it old text found c.requires in
    (found, ap (λ n. slice_get c.insert.new.self.entries n) c.len-place.ensures.len ∙ last_there old.entries c.insert.new.self.entries text found entries)
