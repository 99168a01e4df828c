-- Two texts are a list of two.
use Rattle.std.proofs.Common.{◌≡◌, ◌<◌, ◌≤◌, List, [], ◌∷◌, Option, arith, get_or, length, map, refl, subst, sym}
use Rattle.std.specs.Prelude.{MatchOption}
use Rattle.std.specs.Borrow.{Bor}
use Rattle.clap.specs.Words.{Text}
use Rattle.lrc_cli_args.specs.Options.{AreLines}
use Rattle.lrc_cli_args.specs.declared.choice.LinePair.{LinePair}
use Rattle.lrc_cli_args.proofs.races.line_pair.Goals as goal

pair_up : (texts : List (Bor Text)) (one other : Text) (result : Option LinePair)
    → MatchOption result ((lines : LinePair) → ¬ AreLines (one ∷ other ∷ []) lines) (AreLines (one ∷ other ∷ []))
    → map (λ text. text.now) texts ≡ one ∷ other ∷ []
    → MatchOption result ((lines : LinePair) → ¬ AreLines (map (λ text. text.now) texts) lines) (AreLines (map (λ text. text.now) texts))
pair_up texts one other result said is =
    subst (λ (all : List Text). MatchOption result ((lines : LinePair) → ¬ AreLines all lines) (AreLines all)) (sym is) said

two_texts : (texts : List (Bor Text)) (other : Bor Text) → 2 ≤ length texts → length texts < 3
    → map (λ text. text.now) texts ≡ (get_or texts 0 other).now ∷ (get_or texts 1 other).now ∷ []
two_texts [] other least below = absurd (omega arith)
two_texts (one ∷ []) other least below = absurd (omega arith)
two_texts (one ∷ two ∷ []) other least below = refl
two_texts (one ∷ two ∷ three ∷ more) other least below = absurd (omega arith)

pub returns-in-len2 : goal.returns-in-len2
returns-in-len2 c = pair_up c.args.texts.now _ _ c.pair_of.result c.pair_of.ensures
    (two_texts c.args.texts.now (record { ref_ptr = (0, 0); now = [] }) (omega (arith, c.in-len2.len_at_least)) (omega (arith, c.in-len2.len_below)))
