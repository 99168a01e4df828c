use Rattle.std.proofs.Common.{◌≡◌, ◌∙◌, ◌==◌, ◌∷◌, [], List, arith, codes, eqb-true, false, length, map, refl, subst, sym, true}
use Rattle.clap.specs.Words.{Text}
use Rattle.lrc_cli_args.specs.CommandLine.{Chooses, words_meant}
use Rattle.lrc_cli_args.proofs.command_line.choose.Goals as goal

-- no words stand for others, and words for themselves
meant_by_none : {X : Type 0} (f : X → Text) (words : List X) → (length words == 0) ≡ true → words_meant (map f words) ≡ codes "sim" ∷ codes "-" ∷ []
meant_by_none f [] is = refl
meant_by_none f (word ∷ words) is = absurd (let bad : length (word ∷ words) ≡ 0 = eqb-true (length (word ∷ words)) 0 is in omega arith)

meant_by_some : {X : Type 0} (f : X → Text) (words : List X) → (length words == 0) ≡ false → words_meant (map f words) ≡ map f words
meant_by_some f [] is = absurd (let bad : true ≡ false = is in cc)
meant_by_some f (word ∷ words) is = refl

pub returns-then-is_empty : goal.returns-then-is_empty
returns-then-is_empty g c =
    subst (λ (t : List Text). Chooses t c.request_in.result)
    (sym (meant_by_none g.S.AsStr.text c.args.words.now (sym c.is_empty.ensures ∙ c.if-is_empty.true))) (rw c.as_slice.ensures at c.request_in.ensures)

pub returns-else-is_empty : goal.returns-else-is_empty
returns-else-is_empty g c =
    subst (λ (t : List Text). Chooses t c.request_in-else-is_empty.result)
    (sym (meant_by_some g.S.AsStr.text c.args.words.now (sym c.is_empty.ensures ∙ c.if-is_empty.false))) c.request_in-else-is_empty.ensures
