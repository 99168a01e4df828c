use Rattle.std.proofs.Common.{◌≡◌, ◌∙◌, [], ◌∷◌, ◌++◌, List, sym, ap}
use Rattle.std.specs.Prelude.{Some, is_some, slice_get}
use Rattle.std.proofs.lemmas.Result.{IfOk-weaker}
use Rattle.indexmap.specs.IndexMap.{get}
use Rattle.lrc_exec.specs.declared.spot.Spot.{Spot}
use Rattle.lrc_orders_table.proofs.Entries.{found_at}
use Rattle.lrc_orders_less.specs.Reaches.{AreTexts}
use Rattle.lrc_orders_less.specs.contracts.reaches.TextPartialEq.TheImpl.{eq-value as text_eq}
use Rattle.lrc_orders_less.proofs.Pairs.{none_found, text_is, texts_more}
use Rattle.lrc_orders_less.proofs.reaches.Reaches.text.Goals as goal

pub returns-in-Some-clause-there : goal.returns-in-Some-clause-there
returns-in-Some-clause-there c =
    let text = c.args.text in
    let (key, found, at, same) = found_at (text_eq.it text) c.args.self.now.texts.entries c.in-Some.place c.in-Some.ensures.index in
    (found, at ∙ ap (λ k. Some (k, found)) (sym (text_is text key same)))

pub keep_text-requires : goal.keep_text-requires
keep_text-requires c =
    none_found (get text_eq.it c.args.self.now.texts c.args.text) (sym c.get_index_of.ensures.found ∙ ap (λ o. is_some o) c.in_default.is)

pub returns-clause-texts : goal.returns-clause-texts
returns-clause-texts c =
    let flat = c.args.flat.now in
    let text = c.args.text in
    let spot = c.args.spot.now in
    let old = c.args.self.now.texts.entries in
    let new = c.keep_text.new.self.texts.entries in
    let found = c.in_ok-found.found in
    IfOk-weaker c.keep_text.result (λ _. new ≡ old ++ (text, found) ∷ [])
    (λ _. (threads : List Spot) → slice_get threads text.thread ≡ Some spot → AreTexts flat threads old → AreTexts flat threads new)
    (λ _ entries threads there are.
    texts_more flat threads old new text found are entries (record { spot = spot; there = there; reach = c.in_ok-found.ensures })) c.keep_text.ensures.entries
