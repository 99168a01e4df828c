use Rattle.std.proofs.Common.{ℕ, subst, sym}
use Rattle.lrc_text.specs.Digits.{IsNumber}
use Rattle.lrc_labels.proofs.Names.{none_below}
use Rattle.lrc_labels.proofs.name.number_below.Goals as goal

pub returns-in-None : goal.returns-in-None
returns-in-None c =
    none_below c.args.digits.now c.args.limit c.requires
    (λ (number : ℕ) (h : IsNumber c.args.digits.now c.args.limit number).
    c.in-None.ensures number (subst (λ (m : ℕ). IsNumber c.args.digits.now m number) (sym c.from.ensures) h))
