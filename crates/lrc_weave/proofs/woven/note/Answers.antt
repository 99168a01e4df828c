use Rattle.std.proofs.Common.{◌≡◌, ◌∙◌, ◌++◌, None, Some, append-nil, sym, ap, rules}
use Rattle.std.specs.Prelude.{slice_index_or}
use Rattle.std.specs.Option.{option_to_list}
use Rattle.std.proofs.lemmas.Option.{slice_get-get_or}
use Rattle.lrc_weave.proofs.woven.note.Goals as goal

pub returns-in-None : goal.returns-in-None
returns-in-None c =
    let log = c.args.log.now.items in
    let entry = c.index.result.now in
    let value : entry ≡ slice_index_or log c.args.place entry = search rules in
    let none : entry.turn.act ≡ None = search rules in (
      entry,
      slice_get-get_or log c.args.place entry c.requires.there ∙ ap Some (sym value),
      sym (ap (λ act. c.args.acts.now.items ++ option_to_list act) none ∙ append-nil c.args.acts.now.items),
    )
