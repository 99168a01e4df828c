-- The lists are those of the run, and can be searched.
use Rattle.lrc_judge.proofs.Searching.{searchable}
use Rattle.lrc_judge.proofs.Crossing.{entry_does}
use Rattle.lrc_judge.specs.Lanes.{IsEntry}
use Rattle.lrc_judge.specs.declared.entries.Told.TheVariants.{EachWrite, EachValue}
use Rattle.lrc_judge.proofs.written.Written.of.Goals as goal

pub returns : goal.returns
returns c =
    let run = c.args.acts.now in
    let order = c.in_ok-order.order in
    let is = c.in_ok-order.ensures in
    let words = c.in_ok-by_word.ensures in
    let values = c.in_ok-by_value.ensures in
    record {
      order = is;
      by_word = words;
      by_value = values;
      ready = record {
        words = searchable run (IsEntry run EachWrite) c.in_ok-by_word.by_word.items order words (λ l i e. entry_does e) is;
        values = searchable run (IsEntry run EachValue) c.in_ok-by_value.by_value.items order values (λ l i e. entry_does e) is;
      };
    }
