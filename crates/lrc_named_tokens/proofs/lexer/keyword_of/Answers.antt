use Rattle.std.proofs.Common.{◌≡◌, MatchOption, rules, tests, sym, subst, ◌∙◌}
use Rattle.std.proofs.lemmas.Iterator.{YieldsList-from_slice}
use Rattle.std.proofs.lemmas.Iterator.Search.{find_from_yields_List}
use Rattle.lrc_named_tokens.specs.declared.lexer.TheConstants.{KEYWORDS}
use Rattle.lrc_named_tokens.specs.Lexemes.{keyword_text, IsKeyword}
use Rattle.lrc_named_tokens.proofs.Keywords.{spells, find_keyword}
use Rattle.lrc_named_tokens.proofs.lexer.keyword_of.Goals as goal

pub returns : goal.returns
returns c =
    let word = c.args.word.now in
    let found = find_from_yields_List (spells word) _ _ c.find.result c.find.ensures.ran (YieldsList-from_slice KEYWORDS cc)
    (λ x b q k. search (rules, tests)) in
    subst (λ r. MatchOption r (¬ IsKeyword word) (λ keyword. word ≡ keyword_text keyword)) (sym (c.copied.ensures ∙ found)) (find_keyword word)
