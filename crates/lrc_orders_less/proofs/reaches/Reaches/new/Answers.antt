use Rattle.std.proofs.Common.{length, ap, arith}
use Rattle.std.proofs.lemmas.Option.{slice_get_within}
use Rattle.lrc_orders_less.proofs.reaches.Reaches.new.Goals as goal

pub returns : goal.returns
returns c = λ flat threads. record {
  pairs = λ k pair known at so.
      let within = slice_get_within c.new.result.entries k (pair, known) at in
      absurd (omega (arith, within, ap (λ l. length l) c.new.ensures.empty));
  texts = λ k text found at.
      let within = slice_get_within c.new-2.result.entries k (text, found) at in
      absurd (omega (arith, within, ap (λ l. length l) c.new-2.ensures.empty));
}
