use Rattle.std.proofs.Common.{◌≡◌, ◌∙◌, ℕ, length, sym, ap}
use Rattle.std.proofs.lemmas.Result.{err_from_is_err_and}
use Rattle.lrc_page.specs.Page.{words_of}
use Rattle.lrc_wire.specs.Reading.{values_at}
use Rattle.lrc_wire.proofs.PageValues.{zeros_long, behind_size}
use Rattle.lrc_wire.proofs.reading.pages.read_page_values.Goals as goal

pub returns-in_err-read_values : goal.returns-in_err-read_values
returns-in_err-read_values c =
    let p = err_from_is_err_and c.from_residual-in_err-read_values.result c.from_residual-in_err-read_values.ensures.1 in
    let long : length c.deref_mut.result.now ≡ words_of c.in_ok-size.size = ap length (c.deref_mut.ensures.value ∙ c.in_ok-page.ensures.ok ∙ c.zero.ensures)
    ∙ zeros_long c.in_ok-size.size in
    rw (p.1, p.2) (λ other. behind_size c.args.version c.args.bytes.now.now c.read_size.new.bytes.now (words_of c.in_ok-size.size) c.in_ok-size.ensures
    ∙ ap (λ (n : ℕ). values_at n c.read_size.new.bytes.now) (sym long) ∙ c.in_err-read_values.ensures other)

pub returns : goal.returns
returns c =
    let long : length c.deref_mut.result.now ≡ words_of c.in_ok-size.size = ap length (c.deref_mut.ensures.value ∙ c.in_ok-page.ensures.ok ∙ c.zero.ensures)
    ∙ zeros_long c.in_ok-size.size in
    behind_size c.args.version c.args.bytes.now.now c.read_size.new.bytes.now (words_of c.in_ok-size.size) c.in_ok-size.ensures
    ∙ ap (λ (n : ℕ). values_at n c.read_size.new.bytes.now) (sym long) ∙ c.in_ok-read_values.ensures
