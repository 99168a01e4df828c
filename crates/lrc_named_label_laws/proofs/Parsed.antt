-- The names in the tree of a named text are names of the core.
use Rattle.std.proofs.Common.{◌≡◌, ℕ, true, List}
use Rattle.std.specs.List.{AllByRecursion}
use Rattle.lrc_labels.specs.Name.{is_name}
use Rattle.lrc_named_tree.specs.Tree.{Named, Expression, Expressions, Place, Statement, Block, Arms, Declaration, NamedTree}
use Rattle.lrc_named_tree.specs.Grammar.{AreArguments, AreBoths, AreDeclarations, AreElses, AreFactors, AreIndices, AreItems, AreNames, AreParameters, AreSeparate, AreStatements}
use Rattle.lrc_named_tree.specs.Grammar.{AreTerms, AreTests, AreTokensOf, IsBlock, IsBoth, IsDeclaration, IsExpression, IsFactor, IsPlace, IsStatement, IsSum, IsTerm, IsTest, Numbered}
use Rattle.lrc_named_tree.specs.Grammar as grammar
use Rattle.lrc_named_label_laws.proofs.Shape.{HaveNames}
use Rattle.lrc_named_label_laws.proofs.Lexed.{AreGood}

-- ---- trees whose names are names of the core; those of functions aside

abbrev mutual
  pub IsNamed : Expression → Type 0
  IsNamed (Expression.number at n) = Unit {0}
  IsNamed (Expression.me at) = Unit {0}
  IsNamed (Expression.nodes at) = Unit {0}
  IsNamed (Expression.element name indices last) = (is_name name.bytes ≡ true) × AllNamed indices
  IsNamed (Expression.call name arguments close) = AllNamed arguments
  IsNamed (Expression.group opens e close) = IsNamed e
  IsNamed (Expression.negation at e) = IsNamed e
  IsNamed (Expression.binary left o right) = IsNamed left × IsNamed right
  IsNamed (Expression.both left right) = IsNamed left × IsNamed right
  IsNamed (Expression.either left right) = IsNamed left × IsNamed right

  pub AllNamed : Expressions → Type 0
  AllNamed Expressions.none = Unit {0}
  AllNamed (Expressions.more e others) = IsNamed e × AllNamed others

abbrev pub IsNamedPlace : Place → Type 0
IsNamedPlace p = (is_name p.name.bytes ≡ true) × AllNamed p.indices

abbrev mutual
  pub IsNamedStatement : Statement → Type 0
  IsNamedStatement (Statement.assign p update value) = IsNamedPlace p × IsNamed value
  IsNamedStatement (Statement.acquire at p) = IsNamedPlace p
  IsNamedStatement (Statement.release at p) = IsNamedPlace p
  IsNamedStatement (Statement.with_do at p inside close) = IsNamedPlace p × IsNamedBlock inside
  IsNamedStatement (Statement.barrier at) = Unit {0}
  IsNamedStatement (Statement.print at values) = AllNamed values
  IsNamedStatement (Statement.assert at condition) = IsNamed condition
  IsNamedStatement (Statement.if_else at condition then others otherwise) = IsNamed condition × IsNamedBlock then × AreNamedArms others × IsNamedBlock otherwise
  IsNamedStatement (Statement.while_do at condition inside) = IsNamed condition × IsNamedBlock inside
  IsNamedStatement (Statement.for_do at name first end inside) = (is_name name.bytes ≡ true) × IsNamed first × IsNamed end × IsNamedBlock inside

  pub IsNamedBlock : Block → Type 0
  IsNamedBlock Block.empty = Unit {0}
  IsNamedBlock (Block.next first others) = IsNamedStatement first × IsNamedBlock others

  pub AreNamedArms : Arms → Type 0
  AreNamedArms Arms.no_arm = Unit {0}
  AreNamedArms (Arms.arm at condition then others) = IsNamed condition × IsNamedBlock then × AreNamedArms others

-- the body of a function
abbrev pub IsNamedBody : Declaration → Type 0
IsNamedBody (Declaration.node_count at n) = Unit {0}
IsNamedBody (Declaration.constant at name value) = Unit {0}
IsNamedBody (Declaration.shared at items) = Unit {0}
IsNamedBody (Declaration.lock at items) = Unit {0}
IsNamedBody (Declaration.function at name parameters body) = IsNamed body

-- ---- expressions

mutual
  factor : {e : Expression} {all rest : List Numbered} → IsFactor e all rest → AreGood all → IsNamed e × AreGood rest
  factor grammar.a_number g = (tt, g.1)
  factor grammar.me g = (tt, g.1)
  factor grammar.nodes g = (tt, g.1)
  factor (grammar.an_element is) g = let h = indices is g.1 in ((g.0, h.0), h.1)
  factor (grammar.a_call is) g = arguments is g.1.1
  factor (grammar.parentheses is) g = let h = expression is g.1 in (h.0, h.1.1)

  indices : {es : Expressions} {at last : ℕ} {all rest : List Numbered} → AreIndices es at last all rest → AreGood all → AllNamed es × AreGood rest
  indices grammar.no_index g = (tt, g)
  indices (grammar.one_index is more) g =
      let h = expression is g.1 in
      let k = indices more h.1.1 in
      ((h.0, k.0), k.1)

  arguments : {es : Expressions} {closes : ℕ} {all rest : List Numbered} → AreArguments es closes all rest → AreGood all → AllNamed es × AreGood rest
  arguments grammar.no_argument g = (tt, g.1)
  arguments (grammar.some_arguments is) g = let h = separate is g in (h.0, h.1.1)

  separate : {es : Expressions} {all rest : List Numbered} → AreSeparate es all rest → AreGood all → AllNamed es × AreGood rest
  separate (grammar.the_last is) g = let h = expression is g in ((h.0, tt), h.1)
  separate (grammar.one_of is more) g =
      let h = expression is g in
      let k = separate more h.1.1 in
      ((h.0, k.0), k.1)

  term : {e : Expression} {all rest : List Numbered} → IsTerm e all rest → AreGood all → IsNamed e × AreGood rest
  term (grammar.term is more) g = let h = factor is g in factors more h.0 h.1

  factors : {left e : Expression} {all rest : List Numbered} → AreFactors left e all rest → IsNamed left → AreGood all → IsNamed e × AreGood rest
  factors grammar.no_factor l g = (l, g)
  factors (grammar.one_factor joins is more) l g = let h = factor is g.1 in factors more (l, h.0) h.1

  sum : {e : Expression} {all rest : List Numbered} → IsSum e all rest → AreGood all → IsNamed e × AreGood rest
  sum (grammar.sum is more) g = let h = term is g in terms more h.0 h.1

  terms : {left e : Expression} {all rest : List Numbered} → AreTerms left e all rest → IsNamed left → AreGood all → IsNamed e × AreGood rest
  terms grammar.no_term l g = (l, g)
  terms (grammar.one_term joins is more) l g = let h = term is g.1 in terms more (l, h.0) h.1

  test : {e : Expression} {all rest : List Numbered} → IsTest e all rest → AreGood all → IsNamed e × AreGood rest
  test (grammar.negation is) g = test is g.1
  test (grammar.one_sum is) g = sum is g
  test (grammar.comparison one compares two) g =
      let h = sum one g in
      let k = sum two h.1.1 in
      ((h.0, k.0), k.1)

  both : {e : Expression} {all rest : List Numbered} → IsBoth e all rest → AreGood all → IsNamed e × AreGood rest
  both (grammar.both is more) g = let h = test is g in tests more h.0 h.1

  tests : {left e : Expression} {all rest : List Numbered} → AreTests left e all rest → IsNamed left → AreGood all → IsNamed e × AreGood rest
  tests grammar.no_test l g = (l, g)
  tests (grammar.one_test is more) l g = let h = test is g.1 in tests more (l, h.0) h.1

  expression : {e : Expression} {all rest : List Numbered} → IsExpression e all rest → AreGood all → IsNamed e × AreGood rest
  expression (grammar.expression is more) g = let h = both is g in boths more h.0 h.1

  boths : {left e : Expression} {all rest : List Numbered} → AreBoths left e all rest → IsNamed left → AreGood all → IsNamed e × AreGood rest
  boths grammar.no_both l g = (l, g)
  boths (grammar.one_both is more) l g = let h = both is g.1 in boths more (l, h.0) h.1

-- ---- statements

place : {p : Place} {all rest : List Numbered} → IsPlace p all rest → AreGood all → IsNamedPlace p × AreGood rest
place (grammar.place is) g = let h = indices is g.1 in ((g.0, h.0), h.1)

mutual
  statement : {s : Statement} {all rest : List Numbered} → IsStatement s all rest → AreGood all → IsNamedStatement s × AreGood rest
  statement (grammar.assign is updates value) g =
      let h = place is g in
      let k = expression value h.1.1 in
      ((h.0, k.0), k.1.1)
  statement (grammar.acquire is) g = let h = place is g.1 in (h.0, h.1.1)
  statement (grammar.release is) g = let h = place is g.1 in (h.0, h.1.1)
  statement (grammar.with_do is inside) g =
      let h = place is g.1 in
      let k = block inside h.1 in
      ((h.0, k.0), k.1)
  statement grammar.barrier g = (tt, g.1.1)
  statement (grammar.print is) g = let h = separate is g.1 in (h.0, h.1.1)
  statement (grammar.assert is) g = let h = expression is g.1 in (h.0, h.1.1)
  statement (grammar.if_else is first others) g =
      let h = expression is g.1 in
      let k = block first h.1 in
      let l = elses others k.1 in
      ((h.0, k.0, l.0.0, l.0.1), l.1)
  statement (grammar.while_do is inside) g =
      let h = expression is g.1 in
      let k = block inside h.1 in
      ((h.0, k.0), k.1)
  statement (grammar.for_do first end inside) g =
      let h = expression first g.1.1.1 in
      let k = expression end h.1.1 in
      let l = block inside k.1 in
      ((g.1.0, h.0, k.0, l.0), l.1)

  elses : {arms : Arms} {otherwise : Block} {all rest : List Numbered} → AreElses arms otherwise all rest → AreGood all
      → (AreNamedArms arms × IsNamedBlock otherwise) × AreGood rest
  elses grammar.no_else g = ((tt, tt), g)
  elses (grammar.last_else is) g = let h = block is g.1 in ((tt, h.0), h.1)
  elses (grammar.else_if is first others) g =
      let h = expression is g.1.1 in
      let k = block first h.1 in
      let l = elses others k.1 in
      (((h.0, k.0, l.0.0), l.0.1), l.1)

  block : {b : Block} {closes : ℕ} {all rest : List Numbered} → IsBlock b closes all rest → AreGood all → IsNamedBlock b × AreGood rest
  block (grammar.braces is) g = let h = statements is g.1 in (h.0, h.1.1)

  statements : {b : Block} {all rest : List Numbered} → AreStatements b all rest → AreGood all → IsNamedBlock b × AreGood rest
  statements grammar.no_statement g = (tt, g)
  statements (grammar.one_statement is more) g =
      let h = statement is g in
      let k = statements more h.1 in
      ((h.0, k.0), k.1)

-- ---- declarations

items : {ps : List Place} {all rest : List Numbered} → AreItems ps all rest → AreGood all
    → AllByRecursion (λ (p : Place). is_name p.name.bytes ≡ true) ps × AreGood rest
items (grammar.last_item is) g = let h = place is g in ((h.0.0, tt), h.1)
items (grammar.one_item is more) g =
    let h = place is g in
    let k = items more h.1.1 in
    ((h.0.0, k.0), k.1)

past_names : {names : List Named} {all rest : List Numbered} → AreNames names all rest → AreGood all → AreGood rest
past_names grammar.last_name g = g.1
past_names (grammar.one_name more) g = past_names more g.1.1

past_parameters : {names : List Named} {all rest : List Numbered} → AreParameters names all rest → AreGood all → AreGood rest
past_parameters grammar.no_parameter g = g.1
past_parameters (grammar.some_parameters is) g = (past_names is g).1

declaration : {d : Declaration} {all rest : List Numbered} → IsDeclaration d all rest → AreGood all → (HaveNames d × IsNamedBody d) × AreGood rest
declaration grammar.node_count g = ((tt, tt), g.1.1.1)
declaration (grammar.constant is) g = let h = expression is g.1.1.1 in ((g.1.0, tt), h.1.1)
declaration (grammar.shared is) g = let h = items is g.1 in ((h.0, tt), h.1.1)
declaration (grammar.lock is) g = let h = items is g.1 in ((h.0, tt), h.1.1)
declaration (grammar.function own is) g =
    let behind = past_parameters own g.1.1.1 in
    let h = expression is behind.1 in
    ((g.1.0, h.0), h.1.1)

declarations : {ds : List Declaration} {all rest : List Numbered} → AreDeclarations ds all rest → AreGood all
    → (AllByRecursion HaveNames ds × AllByRecursion IsNamedBody ds) × AreGood rest
declarations (grammar.last_declaration is) g = let h = declaration is g in (((h.0.0, tt), (h.0.1, tt)), h.1)
declarations (grammar.one_declaration is more) g =
    let h = declaration is g in
    let k = declarations more h.1 in
    (((h.0.0, k.0.0), (h.0.1, k.0.1)), k.1)

pub record IsNamedTree (p : NamedTree) : Type 0 where
  pub names : AllByRecursion HaveNames p.declarations
  pub bodies : AllByRecursion IsNamedBody p.declarations
  pub statements : IsNamedBlock p.statements

pub program_named : {p : NamedTree} {tokens : List Numbered} → AreTokensOf p tokens → AreGood tokens → IsNamedTree p
program_named (grammar.program is more) g =
    let h = declarations is g in
    let k = statements more h.1 in
    record { names = h.0.0; bodies = h.0.1; statements = k.0 }
