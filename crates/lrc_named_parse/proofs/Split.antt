-- Lists of declarations, items, sizes and parameters, from their first and what comes behind it, and back.
use Rattle.std.proofs.Common.{◌≡◌, ℕ, List, [], ◌∷◌, ◌++◌, refl, sym, ap, subst, ◌∙◌, append_assoc}
use Rattle.lrc_named_tokens.specs.declared.token.Sign.TheVariants as signs
use Rattle.lrc_named_tokens.specs.Token.{name, sign, finish}
use Rattle.lrc_named_tree.specs.Tree.{Named, Expressions, Place, Block, Declaration, NamedTree}
use Rattle.lrc_named_tree.specs.Tree as tree
use Rattle.lrc_named_tree.specs.Grammar.{Numbered, on, named, IsPlace, place, AreIndices, no_index, one_index, AreItems, last_item, one_item}
use Rattle.lrc_named_tree.specs.Grammar.{AreNames, last_name, one_name, AreParameters, no_parameter, some_parameters, AreStatements, IsDeclaration}
use Rattle.lrc_named_tree.specs.Grammar as grammar
use Rattle.lrc_named_tree.specs.Grammar.{AreDeclarations, last_declaration, one_declaration, AreTokensOf, program}
use Rattle.lrc_named_expression.specs.Partial as partial
use Rattle.lrc_named_expression.specs.Partial.{push}
use Rattle.lrc_named_expression.proofs.From as expressions
use Rattle.lrc_named_statement.specs.Body as body
use Rattle.lrc_named_statement.proofs.From as statements
use Rattle.lrc_named_parse.specs.State.{Shared, Items, declaration_of}
use Rattle.lrc_named_parse.proofs.From.{whole, FromBody, FromDeclarations, goes_on, states, FromFirst, FromItem, size_comes, next_comes, items_end}
use Rattle.lrc_named_parse.proofs.From.{FromItems, item_goes_on, FromParameters, FromParameter, another_comes, parameters_end, FromNext}
use Rattle.lrc_named_parse.proofs.From.{parameter_goes_on, FromOpening, none_come, some_come}

-- ---- sizes

pub split_sizes : {items : Items} {n : Named} {before : List Declaration} {p : NamedTree} (sizes : Expressions) {indices : Expressions} {at last : ℕ}
    {all more : List Numbered} → AreIndices indices at last all more →
    FromItem items n (partial.append sizes indices) before p more → FromItem items n sizes before p all
split_sizes {items} {n} {before} {p} sizes {more = more} no_index k =
    subst (λ some. FromItem items n some before p more) (expressions.append_none sizes) k
split_sizes {items} {n} {before} {p} sizes {more = more} (one_index {e = e} {others = indices} d ds) k =
    size_comes d (split_sizes (push sizes e) ds
    (subst (λ some. FromItem items n some before p more) (sym (expressions.append_push sizes e indices)) k))

-- ---- items

abbrev items_from : ℕ → Shared → List Place → Items
items_from first are some = record { first = first; are = are; before = some }

abbrev AllDeclared : ℕ → Shared → List Place → List Declaration → NamedTree → List Numbered → Type 0
AllDeclared first are all before p rest = FromDeclarations (before ++ declaration_of are first all ∷ []) p rest

next_item : {first comma : ℕ} {are : Shared} {before : List Declaration} {p : NamedTree} (some : List Place) {one : Place} {all behind : List Numbered} →
    IsPlace one all (on comma (sign signs.Comma) ∷ behind) → FromItems (items_from first are (some ++ one ∷ [])) before p behind →
    FromItems (items_from first are some) before p all
next_item some (place indices) k = item_goes_on (split_sizes tree.none indices (next_comes k))

pub split_items : {first ends : ℕ} {are : Shared} {before : List Declaration} {p : NamedTree} (some : List Place) {items : List Place} {all rest : List Numbered} →
    AreItems items all (on ends (sign signs.Semicolon) ∷ rest) → AllDeclared first are (some ++ items) before p rest →
    FromItems (items_from first are some) before p all
split_items some (last_item (place indices)) k = item_goes_on (split_sizes tree.none indices (items_end k))
split_items {first = first} {are = are} {before = before} {p = p} some {rest = rest} (one_item {p = one} {others = others} d ds) k =
    next_item some d (split_items (some ++ one ∷ []) ds
    (subst (λ all. AllDeclared first are all before p rest) (sym (append_assoc some (one ∷ []) others)) k))

pub record JoinsItems (first : ℕ) (are : Shared) (some : List Place) (before : List Declaration) (p : NamedTree) (all : List Numbered) : Type 0 where
  pub items : List Place
  pub ends : ℕ
  pub rest : List Numbered
  pub spelled : AreItems items all (on ends (sign signs.Semicolon) ∷ rest)
  pub behind : AllDeclared first are (some ++ items) before p rest

-- behind an item and its sizes: other items, or the end
data JoinsTail (items : Items) (one : Place) (before : List Declaration) (p : NamedTree) : List Numbered → Type 0 where
  tail_goes_on : {comma ends : ℕ} {others : List Place} {behind rest : List Numbered} → AreItems others behind (on ends (sign signs.Semicolon) ∷ rest) →
      AllDeclared items.first items.are (items.before ++ one ∷ others) before p rest → JoinsTail items one before p (on comma (sign signs.Comma) ∷ behind)
  tail_ends : {ends : ℕ} {rest : List Numbered} → AllDeclared items.first items.are (items.before ++ one ∷ []) before p rest →
      JoinsTail items one before p (on ends (sign signs.Semicolon) ∷ rest)

abbrev place_with : Named → Expressions → Place
place_with n sizes = record { name = n; indices = sizes }

record JoinsItem (items : Items) (n : Named) (sizes : Expressions) (at : ℕ) (before : List Declaration) (p : NamedTree) (all : List Numbered) : Type 0 where
  indices : Expressions
  last : ℕ
  more : List Numbered
  spelled : AreIndices indices at last all more
  tail : JoinsTail items (place_with n (partial.append sizes indices)) before p more

join_tail : {items : Items} {own last : ℕ} {bytes : List ℕ} {indices : Expressions} {before : List Declaration} {p : NamedTree} {all more : List Numbered} →
    AreIndices indices own last all more → JoinsTail items (place_with (named own bytes) indices) before p more →
    JoinsItems items.first items.are items.before before p (on own (name bytes) ∷ all)
join_tail ds (tail_goes_on others k) = record { items = _; ends = _; rest = _; spelled = one_item (place ds) others; behind = k }
join_tail ds (tail_ends k) = record { items = _; ends = _; rest = _; spelled = last_item (place ds); behind = k }

no_sizes : {items : Items} {n : Named} {sizes : Expressions} (at : ℕ) {before : List Declaration} {p : NamedTree} {all : List Numbered} →
    JoinsTail items (place_with n sizes) before p all → JoinsItem items n sizes at before p all
no_sizes {items} {n} {sizes} at {before} {p} {all} k = record {
  indices = tree.none;
  last = at;
  more = all;
  spelled = no_index;
  tail = subst (λ some. JoinsTail items (place_with n some) before p all) (sym (expressions.append_none sizes)) k;
}

mutual
  join_item : {items : Items} {n : Named} {sizes : Expressions} (at : ℕ) {before : List Declaration} {p : NamedTree} {all : List Numbered} →
      FromItem items n sizes before p all → JoinsItem items n sizes at before p all
  join_item at (size_comes {items = items} {n = n} {sizes = sizes} {e = e} {closes = closes} {before = before} {p = p} d k) =
      let j = join_item closes k in
      record {
        indices = tree.more e j.indices;
        last = j.last;
        more = j.more;
        spelled = one_index d j.spelled;
        tail = subst (λ some. JoinsTail items (place_with n some) before p j.more) (expressions.append_push sizes e j.indices) j.tail;
      }
  join_item at (next_comes {items = items} {n = n} {sizes = sizes} {before = before} {p = p} k) =
      let j = join_items k in
      no_sizes at (tail_goes_on j.spelled
      (subst (λ all. AllDeclared items.first items.are all before p j.rest) (append_assoc items.before (place_with n sizes ∷ []) j.items) j.behind))
  join_item at (items_end k) = no_sizes at (tail_ends k)

  pub join_items : {items : Items} {before : List Declaration} {p : NamedTree} {all : List Numbered} → FromItems items before p all →
      JoinsItems items.first items.are items.before before p all
  join_items (item_goes_on {own = own} k) =
      let j = join_item own k in
      join_tail j.spelled j.tail

-- ---- parameters

split_names : {first closes : ℕ} {n : Named} {before : List Declaration} {p : NamedTree} (some : List Named) {names : List Named} {all rest : List Numbered} →
    AreNames names all (on closes (sign signs.CloseParenthesis) ∷ rest) → FromParameters first n (some ++ names) before p rest →
    FromNext first n some before p all
split_names some last_name k = parameter_goes_on (parameters_end k)
split_names {first = first} {n = n} {before = before} {p = p} some {rest = rest} (one_name {at = at} {bytes = bytes} {others = others} ds) k =
    parameter_goes_on (another_comes (split_names (some ++ named at bytes ∷ []) ds
    (subst (λ all. FromParameters first n all before p rest) (sym (append_assoc some (named at bytes ∷ []) others)) k)))

opening_of : {first : ℕ} {n : Named} {before : List Declaration} {p : NamedTree} {all : List Numbered} → FromNext first n [] before p all →
    FromOpening first n before p all
opening_of (parameter_goes_on k) = some_come k

pub split_parameters : {first : ℕ} {n : Named} {before : List Declaration} {p : NamedTree} {names : List Named} {all rest : List Numbered} →
    AreParameters names all rest → FromParameters first n names before p rest → FromOpening first n before p all
split_parameters no_parameter k = none_come k
split_parameters (some_parameters ds) k = opening_of (split_names [] ds k)

-- behind a parameter: others, or the end
data JoinsRest (first : ℕ) (n : Named) (some : List Named) (before : List Declaration) (p : NamedTree) : List Numbered → Type 0 where
  rest_goes_on : {comma closes : ℕ} {others : List Named} {behind rest : List Numbered} →
      AreNames others behind (on closes (sign signs.CloseParenthesis) ∷ rest) → FromParameters first n (some ++ others) before p rest →
      JoinsRest first n some before p (on comma (sign signs.Comma) ∷ behind)
  rest_ends : {closes : ℕ} {rest : List Numbered} → FromParameters first n some before p rest →
      JoinsRest first n some before p (on closes (sign signs.CloseParenthesis) ∷ rest)

record JoinsNames (first : ℕ) (n : Named) (some : List Named) (before : List Declaration) (p : NamedTree) (all : List Numbered) : Type 0 where
  names : List Named
  closes : ℕ
  rest : List Numbered
  spelled : AreNames names all (on closes (sign signs.CloseParenthesis) ∷ rest)
  behind : FromParameters first n (some ++ names) before p rest

with_name : {first own : ℕ} {bytes : List ℕ} {n : Named} {some : List Named} {before : List Declaration} {p : NamedTree} {all : List Numbered} →
    JoinsRest first n (some ++ named own bytes ∷ []) before p all → JoinsNames first n some before p (on own (name bytes) ∷ all)
with_name {first} {own} {bytes} {n} {some} {before} {p} (rest_goes_on {others = others} {rest = rest} ds k) = record {
  names = named own bytes ∷ others;
  closes = _;
  rest = rest;
  spelled = one_name ds;
  behind = subst (λ all. FromParameters first n all before p rest) (append_assoc some (named own bytes ∷ []) others) k;
}
with_name (rest_ends k) = record { names = _; closes = _; rest = _; spelled = last_name; behind = k }

mutual
  join_parameter : {first : ℕ} {n : Named} {some : List Named} {before : List Declaration} {p : NamedTree} {all : List Numbered} →
      FromParameter first n some before p all → JoinsRest first n some before p all
  join_parameter (another_comes k) =
      let j = join_next k in
      rest_goes_on j.spelled j.behind
  join_parameter (parameters_end k) = rest_ends k

  join_next : {first : ℕ} {n : Named} {some : List Named} {before : List Declaration} {p : NamedTree} {all : List Numbered} →
      FromNext first n some before p all → JoinsNames first n some before p all
  join_next (parameter_goes_on k) = with_name (join_parameter k)

pub record JoinsParameters (first : ℕ) (n : Named) (before : List Declaration) (p : NamedTree) (all : List Numbered) : Type 0 where
  pub parameters : List Named
  pub more : List Numbered
  pub spelled : AreParameters parameters all more
  pub behind : FromParameters first n parameters before p more

pub join_parameters : {first : ℕ} {n : Named} {before : List Declaration} {p : NamedTree} {all : List Numbered} → FromOpening first n before p all →
    JoinsParameters first n before p all
join_parameters (none_come k) = record { parameters = _; more = _; spelled = no_parameter; behind = k }
join_parameters (some_come {own = own} {bytes = bytes} k) =
    let j = with_name {own = own} {bytes = bytes} {some = []} (join_parameter k) in
    record { parameters = j.names; more = j.rest; spelled = some_parameters j.spelled; behind = j.behind }

-- ---- declarations and statements

first_of_all : {before : List Declaration} {p : NamedTree} {all : List Numbered} → FromFirst before p all → FromDeclarations before p all
first_of_all k = goes_on k.spelled k.behind

split_declarations : {p : NamedTree} (before : List Declaration) {declarations : List Declaration} {all more : List Numbered} →
    AreDeclarations declarations all more → FromBody (before ++ declarations) body.start p more → FromFirst before p all
split_declarations before (last_declaration d) k = record { declaration = _; more = _; spelled = d; behind = states k }
split_declarations {p} before {more = more} (one_declaration {first = first} {others = others} d ds) k = record {
  declaration = first;
  more = _;
  spelled = d;
  behind = first_of_all (split_declarations (before ++ first ∷ []) ds
      (subst (λ all. FromBody all body.start p more) (sym (append_assoc before (first ∷ []) others)) k));
}

whole_body : {block : Block} {last : ℕ} {all : List Numbered} → AreStatements block all (on last finish ∷ []) →
    statements.Completes body.start block all
whole_body ds = statements.split_statements tree.empty ds (statements.all_ends refl)

pub from_start : {p : NamedTree} {all : List Numbered} → AreTokensOf p all → FromFirst [] p all
from_start (program ds ss) = split_declarations [] ds (record { block = _; same = refl; inside = whole_body ss })

-- and back: what the statements that complete nothing are
record JoinsBody (r : Block) (before : Block) (all : List Numbered) : Type 0 where
  others : Block
  last : ℕ
  spelled : AreStatements others all (on last finish ∷ [])
  same : body.append before others ≡ r

join_body : {before r : Block} {all : List Numbered} → statements.FromStatements [] before r all → JoinsBody r before all
join_body (statements.goes_on {before = before} {s = s} d k) =
    let j = join_body k in
    record {
      others = tree.next s j.others;
      last = j.last;
      spelled = grammar.one_statement d j.spelled;
      same = sym (statements.append_with before s j.others) ∙ j.same;
    }
join_body (statements.all_ends {before = before} {last = last} q) = record {
  others = tree.empty;
  last = last;
  spelled = grammar.no_statement;
  same = statements.append_empty before ∙ q;
}

record JoinsDeclarations (before : List Declaration) (p : NamedTree) (all : List Numbered) : Type 0 where
  declarations : List Declaration
  more : List Numbered
  spelled : AreDeclarations declarations all more
  behind : FromBody (before ++ declarations) body.start p more

-- declarations behind one, if there are any
data JoinsOthers (before : List Declaration) (p : NamedTree) : List Numbered → Type 0 where
  no_others : {all : List Numbered} → FromBody before body.start p all → JoinsOthers before p all
  some_others : {others : List Declaration} {all more : List Numbered} → AreDeclarations others all more → FromBody (before ++ others) body.start p more →
      JoinsOthers before p all

with_first : {before : List Declaration} {d : Declaration} {p : NamedTree} {all more : List Numbered} → IsDeclaration d all more →
    JoinsOthers (before ++ d ∷ []) p more → JoinsDeclarations before p all
with_first d (no_others k) = record { declarations = _; more = _; spelled = last_declaration d; behind = k }
with_first {before} {d = first} {p = p} d (some_others {others = others} {more = more} ds k) = record {
  declarations = first ∷ others;
  more = more;
  spelled = one_declaration d ds;
  behind = subst (λ all. FromBody all body.start p more) (append_assoc before (first ∷ []) others) k;
}

join_declarations : {before : List Declaration} {p : NamedTree} {all : List Numbered} → FromDeclarations before p all → JoinsOthers before p all
join_declarations (goes_on d k) =
    let j = with_first d (join_declarations k) in
    some_others j.spelled j.behind
join_declarations (states k) = no_others k

to_program : {declarations : List Declaration} {p : NamedTree} {all more : List Numbered} → AreDeclarations declarations all more →
    FromBody declarations body.start p more → AreTokensOf p all
to_program {declarations} {p} {all} ds k =
    let j = join_body k.inside in
    subst (λ q. AreTokensOf q all) (ap (whole declarations) j.same ∙ k.same) (program ds j.spelled)

pub to_start : {p : NamedTree} {all : List Numbered} → FromFirst [] p all → AreTokensOf p all
to_start k =
    let j = with_first {before = []} k.spelled (join_declarations k.behind) in
    to_program j.spelled j.behind
