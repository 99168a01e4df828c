-- In the tree of a named text numbers fit, and names are names of the language.
use Rattle.std.proofs.Common.{ℕ, List, [], ◌∷◌}
use Rattle.lrc_named_tree.specs.Tree.{Named, Expression, Expressions, Place, Statement, Block, Arms, Declaration, NamedTree}
use Rattle.lrc_named_tree.specs.Tree as tree
use Rattle.lrc_named_tree.specs.Grammar.{Numbered, IsFactor, AreIndices, AreArguments, AreSeparate, IsTerm, AreFactors, IsSum, AreTerms, IsTest, IsBoth, AreTests}
use Rattle.lrc_named_tree.specs.Grammar.{IsExpression, AreBoths, IsPlace, IsStatement, AreElses, IsBlock, AreStatements, AreItems, AreNames, AreParameters}
use Rattle.lrc_named_tree.specs.Grammar.{IsDeclaration, AreDeclarations, AreTokensOf}
use Rattle.lrc_named_tree.specs.Grammar as grammar
use Rattle.lrc_named_text_laws.specs.Spelled.{Fits, IsName}
use Rattle.lrc_named_laws.proofs.Lexed.{AreGood}

-- ---- what can be written

abbrev mutual
  pub IsLegible : Expression → Type 0
  IsLegible (tree.number at n) = Fits n
  IsLegible (tree.me at) = Unit {0}
  IsLegible (tree.nodes at) = Unit {0}
  IsLegible (tree.element name indices last) = IsName name.bytes × AreLegible indices
  IsLegible (tree.call name arguments close) = AreLegible arguments
  IsLegible (tree.group opens e close) = IsLegible e
  IsLegible (tree.negation at e) = IsLegible e
  IsLegible (tree.binary left o right) = IsLegible left × IsLegible right
  IsLegible (tree.both left right) = IsLegible left × IsLegible right
  IsLegible (tree.either left right) = IsLegible left × IsLegible right

  pub AreLegible : Expressions → Type 0
  AreLegible tree.none = Unit {0}
  AreLegible (tree.more e others) = IsLegible e × AreLegible others

abbrev pub IsLegiblePlace : Place → Type 0
IsLegiblePlace p = IsName p.name.bytes × AreLegible p.indices

abbrev mutual
  pub IsLegibleStatement : Statement → Type 0
  IsLegibleStatement (tree.assign p update value) = IsLegiblePlace p × IsLegible value
  IsLegibleStatement (tree.acquire at p) = IsLegiblePlace p
  IsLegibleStatement (tree.release at p) = IsLegiblePlace p
  IsLegibleStatement (tree.with_do at p inside close) = IsLegiblePlace p × IsLegibleBlock inside
  IsLegibleStatement (tree.barrier at) = Unit {0}
  IsLegibleStatement (tree.print at values) = AreLegible values
  IsLegibleStatement (tree.assert at condition) = IsLegible condition
  IsLegibleStatement (tree.if_else at condition then others otherwise) =
      IsLegible condition × IsLegibleBlock then × AreLegibleArms others × IsLegibleBlock otherwise
  IsLegibleStatement (tree.while_do at condition inside) = IsLegible condition × IsLegibleBlock inside
  IsLegibleStatement (tree.for_do at name first end inside) = IsName name.bytes × IsLegible first × IsLegible end × IsLegibleBlock inside

  pub IsLegibleBlock : Block → Type 0
  IsLegibleBlock tree.empty = Unit {0}
  IsLegibleBlock (tree.next first others) = IsLegibleStatement first × IsLegibleBlock others

  pub AreLegibleArms : Arms → Type 0
  AreLegibleArms tree.no_arm = Unit {0}
  AreLegibleArms (tree.arm at condition block others) = IsLegible condition × IsLegibleBlock block × AreLegibleArms others

abbrev pub AreLegiblePlaces : List Place → Type 0
AreLegiblePlaces [] = Unit {0}
AreLegiblePlaces (p ∷ others) = IsLegiblePlace p × AreLegiblePlaces others

abbrev pub IsLegibleDeclaration : Declaration → Type 0
IsLegibleDeclaration (tree.node_count at n) = Unit {0}
IsLegibleDeclaration (tree.constant at name value) = IsName name.bytes × IsLegible value
IsLegibleDeclaration (tree.shared at items) = AreLegiblePlaces items
IsLegibleDeclaration (tree.lock at items) = AreLegiblePlaces items
IsLegibleDeclaration (tree.function at name parameters body) = IsName name.bytes × IsLegible body

abbrev pub AreLegibleDeclarations : List Declaration → Type 0
AreLegibleDeclarations [] = Unit {0}
AreLegibleDeclarations (first ∷ others) = IsLegibleDeclaration first × AreLegibleDeclarations others

-- ---- expressions

mutual
  factor : {e : Expression} {tokens rest : List Numbered} → IsFactor e tokens rest → AreGood tokens → IsLegible e × AreGood rest
  factor grammar.a_number good = (good.0, good.1)
  factor grammar.me good = (tt, good.1)
  factor grammar.nodes good = (tt, good.1)
  factor (grammar.an_element is) good = let h = indices is good.1 in ((good.0, h.0), h.1)
  factor (grammar.a_call are) good = arguments are good.1.1
  factor (grammar.parentheses is) good = let h = expression is good.1 in (h.0, h.1.1)

  indices : {es : Expressions} {at last : ℕ} {tokens rest : List Numbered} → AreIndices es at last tokens rest → AreGood tokens → AreLegible es × AreGood rest
  indices grammar.no_index good = (tt, good)
  indices (grammar.one_index is others) good =
      let h = expression is good.1 in
      let k = indices others h.1.1 in
      ((h.0, k.0), k.1)

  arguments : {es : Expressions} {closes : ℕ} {tokens rest : List Numbered} → AreArguments es closes tokens rest → AreGood tokens → AreLegible es × AreGood rest
  arguments grammar.no_argument good = (tt, good.1)
  arguments (grammar.some_arguments are) good = let h = separate are good in (h.0, h.1.1)

  separate : {es : Expressions} {tokens rest : List Numbered} → AreSeparate es tokens rest → AreGood tokens → AreLegible es × AreGood rest
  separate (grammar.the_last is) good = let h = expression is good in ((h.0, tt), h.1)
  separate (grammar.one_of is others) good =
      let h = expression is good in
      let k = separate others h.1.1 in
      ((h.0, k.0), k.1)

  term : {e : Expression} {tokens rest : List Numbered} → IsTerm e tokens rest → AreGood tokens → IsLegible e × AreGood rest
  term (grammar.term is others) good = let h = factor is good in factors others h.0 h.1

  factors : {left e : Expression} {tokens rest : List Numbered} → AreFactors left e tokens rest → IsLegible left → AreGood tokens → IsLegible e × AreGood rest
  factors grammar.no_factor before good = (before, good)
  factors (grammar.one_factor joins is others) before good = let h = factor is good.1 in factors others (before, h.0) h.1

  sum : {e : Expression} {tokens rest : List Numbered} → IsSum e tokens rest → AreGood tokens → IsLegible e × AreGood rest
  sum (grammar.sum is others) good = let h = term is good in terms others h.0 h.1

  terms : {left e : Expression} {tokens rest : List Numbered} → AreTerms left e tokens rest → IsLegible left → AreGood tokens → IsLegible e × AreGood rest
  terms grammar.no_term before good = (before, good)
  terms (grammar.one_term joins is others) before good = let h = term is good.1 in terms others (before, h.0) h.1

  test : {e : Expression} {tokens rest : List Numbered} → IsTest e tokens rest → AreGood tokens → IsLegible e × AreGood rest
  test (grammar.negation is) good = test is good.1
  test (grammar.one_sum is) good = sum is good
  test (grammar.comparison is compares other) good =
      let h = sum is good in
      let k = sum other h.1.1 in
      ((h.0, k.0), k.1)

  both : {e : Expression} {tokens rest : List Numbered} → IsBoth e tokens rest → AreGood tokens → IsLegible e × AreGood rest
  both (grammar.both is others) good = let h = test is good in tests others h.0 h.1

  tests : {left e : Expression} {tokens rest : List Numbered} → AreTests left e tokens rest → IsLegible left → AreGood tokens → IsLegible e × AreGood rest
  tests grammar.no_test before good = (before, good)
  tests (grammar.one_test is others) before good = let h = test is good.1 in tests others (before, h.0) h.1

  expression : {e : Expression} {tokens rest : List Numbered} → IsExpression e tokens rest → AreGood tokens → IsLegible e × AreGood rest
  expression (grammar.expression is others) good = let h = both is good in boths others h.0 h.1

  boths : {left e : Expression} {tokens rest : List Numbered} → AreBoths left e tokens rest → IsLegible left → AreGood tokens → IsLegible e × AreGood rest
  boths grammar.no_both before good = (before, good)
  boths (grammar.one_both is others) before good = let h = both is good.1 in boths others (before, h.0) h.1

-- ---- statements

place : {p : Place} {tokens rest : List Numbered} → IsPlace p tokens rest → AreGood tokens → IsLegiblePlace p × AreGood rest
place (grammar.place are) good = let h = indices are good.1 in ((good.0, h.0), h.1)

mutual
  statement : {s : Statement} {tokens rest : List Numbered} → IsStatement s tokens rest → AreGood tokens → IsLegibleStatement s × AreGood rest
  statement (grammar.assign is updates value) good =
      let h = place is good in
      let k = expression value h.1.1 in
      ((h.0, k.0), k.1.1)
  statement (grammar.acquire is) good = let h = place is good.1 in (h.0, h.1.1)
  statement (grammar.release is) good = let h = place is good.1 in (h.0, h.1.1)
  statement (grammar.with_do is inside) good =
      let h = place is good.1 in
      let k = block inside h.1 in
      ((h.0, k.0), k.1)
  statement grammar.barrier good = (tt, good.1.1)
  statement (grammar.print are) good = let h = separate are good.1 in (h.0, h.1.1)
  statement (grammar.assert is) good = let h = expression is good.1 in (h.0, h.1.1)
  statement (grammar.if_else is then others) good =
      let h = expression is good.1 in
      let k = block then h.1 in
      let l = elses others k.1 in
      ((h.0, k.0, l.0.0, l.0.1), l.1)
  statement (grammar.while_do is inside) good =
      let h = expression is good.1 in
      let k = block inside h.1 in
      ((h.0, k.0), k.1)
  statement (grammar.for_do first end inside) good =
      let h = expression first good.1.1.1 in
      let k = expression end h.1.1 in
      let l = block inside k.1 in
      ((good.1.0, h.0, k.0, l.0), l.1)

  elses : {others : Arms} {otherwise : Block} {tokens rest : List Numbered} → AreElses others otherwise tokens rest → AreGood tokens
      → (AreLegibleArms others × IsLegibleBlock otherwise) × AreGood rest
  elses grammar.no_else good = ((tt, tt), good)
  elses (grammar.last_else is) good = let h = block is good.1 in ((tt, h.0), h.1)
  elses (grammar.else_if is then others) good =
      let h = expression is good.1.1 in
      let k = block then h.1 in
      let l = elses others k.1 in
      (((h.0, k.0, l.0.0), l.0.1), l.1)

  block : {inside : Block} {closes : ℕ} {tokens rest : List Numbered} → IsBlock inside closes tokens rest → AreGood tokens
      → IsLegibleBlock inside × AreGood rest
  block (grammar.braces are) good = let h = statements are good.1 in (h.0, h.1.1)

  statements : {inside : Block} {tokens rest : List Numbered} → AreStatements inside tokens rest → AreGood tokens → IsLegibleBlock inside × AreGood rest
  statements grammar.no_statement good = (tt, good)
  statements (grammar.one_statement is others) good =
      let h = statement is good in
      let k = statements others h.1 in
      ((h.0, k.0), k.1)

-- ---- declarations

items : {ps : List Place} {tokens rest : List Numbered} → AreItems ps tokens rest → AreGood tokens → AreLegiblePlaces ps × AreGood rest
items (grammar.last_item is) good = let h = place is good in ((h.0, tt), h.1)
items (grammar.one_item is others) good =
    let h = place is good in
    let k = items others h.1.1 in
    ((h.0, k.0), k.1)

names : {ns : List Named} {tokens rest : List Numbered} → AreNames ns tokens rest → AreGood tokens → AreGood rest
names grammar.last_name good = good.1
names (grammar.one_name others) good = names others good.1.1

parameters : {ns : List Named} {tokens rest : List Numbered} → AreParameters ns tokens rest → AreGood tokens → AreGood rest
parameters grammar.no_parameter good = good.1
parameters (grammar.some_parameters are) good = (names are good).1

declaration : {d : Declaration} {tokens rest : List Numbered} → IsDeclaration d tokens rest → AreGood tokens → IsLegibleDeclaration d × AreGood rest
declaration grammar.node_count good = (tt, good.1.1.1)
declaration (grammar.constant is) good = let h = expression is good.1.1.1 in ((good.1.0, h.0), h.1.1)
declaration (grammar.shared are) good = let h = items are good.1 in (h.0, h.1.1)
declaration (grammar.lock are) good = let h = items are good.1 in (h.0, h.1.1)
declaration (grammar.function are is) good =
    let h = parameters are good.1.1.1 in
    let k = expression is h.1 in
    ((good.1.0, k.0), k.1.1)

declarations : {ds : List Declaration} {tokens rest : List Numbered} → AreDeclarations ds tokens rest → AreGood tokens → AreLegibleDeclarations ds × AreGood rest
declarations (grammar.last_declaration is) good = let h = declaration is good in ((h.0, tt), h.1)
declarations (grammar.one_declaration is others) good =
    let h = declaration is good in
    let k = declarations others h.1 in
    ((h.0, k.0), k.1)

pub program : {p : NamedTree} {tokens : List Numbered} → AreTokensOf p tokens → AreGood tokens
    → AreLegibleDeclarations p.declarations × IsLegibleBlock p.statements
program (grammar.program are others) good =
    let h = declarations are good in
    (h.0, (statements others h.1).0)
