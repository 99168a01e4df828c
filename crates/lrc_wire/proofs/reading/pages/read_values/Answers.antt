use Rattle.std.proofs.Common.{◌≡◌, ◌∙◌, ℕ, ◌<◌, ◌-◌, List, length, take, Ok, sym, ap, arith}
use Rattle.std.specs.Int.{w64}
use Rattle.std.proofs.lemmas.Result.{err_from_is_err_and}
use Rattle.std.proofs.lemmas.List.{take_more_set, length-set, take_all}
use Rattle.lrc_wire.specs.Reading.{elements_at, number_at, values_at}
use Rattle.lrc_wire.proofs.Elements.{with_nothing, goes_on, ends, is_done}
use Rattle.lrc_wire.proofs.reading.pages.read_values.Goals as goal

pub loop-offset-init : goal.loop-offset-init
unfolding values_at
loop-offset-init c =
    let none : c.words-words.result - 0 ≡ c.words-words.result = omega arith in
    record {
      long = c.size.ensures ∙ sym c.words-words.ensures;
      read = rw none (with_nothing (elements_at (λ _ rest. number_at w64 rest) (λ state _. state) c.words-words.result (tt {0}) c.args.bytes.now.now));
    }

pub returns-in_err-value : goal.returns-in_err-value
returns-in_err-value c =
    let p = err_from_is_err_and c.from_residual.result c.from_residual.ensures.1 in
    let long : length c.args.page.now ≡ c.words-words.result = c.size.ensures ∙ sym c.words-words.ensures in
    rw (p.1, p.2) (ends (λ _ rest. number_at w64 rest) (λ state _. state) c.in_err-value.field-0.0
    (take c.loop-offset.offset c.loop-offset.page) c.words-words.result c.loop-offset.offset (tt {0}) c.loop-offset.bytes.now
    (values_at (length c.args.page.now) c.args.bytes.now.now) c.loop-offset-test.true c.in_err-value.ensures
    (c.loop-offset.invariant.read ∙ ap (λ (n : ℕ). values_at n c.args.bytes.now.now) (sym long)))

pub loop-offset-preserved : goal.loop-offset-preserved
loop-offset-preserved c =
    let page = c.loop-offset.page in
    let offset = c.loop-offset.offset in
    let within : offset < length page = omega (arith, c.loop-offset.invariant.long, c.loop-offset-test.true) in
    record {
      long = rw c.set.ensures (length-set page offset c.in_ok-value.value ∙ c.loop-offset.invariant.long);
      read = rw (c.set.ensures, take_more_set page offset c.in_ok-value.value within)
          (goes_on (λ _ rest. number_at w64 rest) (λ state _. state) (take offset page) c.words-words.result offset
          (tt {0}) c.loop-offset.bytes.now c.in_ok-value.value c.read_u64.new.bytes.now _ c.loop-offset-test.true c.in_ok-value.ensures
          c.loop-offset.invariant.read);
    }

pub returns : goal.returns
returns c =
    let long : length c.args.page.now ≡ c.words-words.result = c.size.ensures ∙ sym c.words-words.ensures in
    let all : take c.loop-offset.offset c.loop-offset.page ≡ c.loop-offset.page =
    take_all c.loop-offset.offset c.loop-offset.page (omega (arith, c.loop-offset.invariant.long, c.loop-offset-test.false)) in
    ap (λ (n : ℕ). values_at n c.args.bytes.now.now) long
    ∙ is_done (λ _ rest. number_at w64 rest) (λ state _. state) (take c.loop-offset.offset c.loop-offset.page) c.words-words.result c.loop-offset.offset
    (tt {0}) c.loop-offset.bytes.now _ c.loop-offset-test.false c.loop-offset.invariant.read
    ∙ ap (λ (page : List ℕ). Ok (page, c.loop-offset.bytes.now)) all
