-- What is no number of a line is none of a pair.
use Rattle.std.proofs.Common.{◌≡◌, List, ◌∷◌, subst, sym}
use Rattle.clap.specs.Words.{Text}
use Rattle.lrc_cli_args.specs.Options.{IsLine}
use Rattle.lrc_cli_args.proofs.races.pair_of.Goals as goal

same_second : (a b x y : Text) (xs ys : List Text) → a ∷ x ∷ xs ≡ b ∷ y ∷ ys → x ≡ y
same_second a b x y xs ys e = cc

pub returns-in_default-line_of : goal.returns-in_default-line_of
returns-in_default-line_of c = λ lines a.
    c.in_default-line_of.ensures lines.second (subst (λ text. IsLine text lines.second) (sym (same_second _ _ _ _ _ _ a.two)) a.second)
