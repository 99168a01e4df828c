use Rattle.std.proofs.Common.{◌≡◌, ◌∙◌, ◌∷◌, ◌++◌, [], ℕ, List, ap, get_or, refl, sym, take}
use Rattle.std.proofs.lemmas.List.{take_more}
use Rattle.lrc_chart_build.specs.Bands.{last_or}
use Rattle.lrc_chart_build.proofs.bands.last_or.Goals as goal

last_more : (other : ℕ) (numbers : List ℕ) (number : ℕ) → last_or other (numbers ++ number ∷ []) ≡ number
last_more other [] number = refl
last_more other (first ∷ more) number = last_more first more number

pub loop-number-preserved : goal.loop-number-preserved
loop-number-preserved c =
    let numbers = c.args.numbers.now in
    let k = c.loop-number.number-index in
    sym (ap (last_or c.args.other) (take_more numbers k 0 c.loop-number-test.true) ∙ last_more c.args.other (take k numbers) (get_or numbers k 0))
