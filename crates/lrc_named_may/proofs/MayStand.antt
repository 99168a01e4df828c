-- The kinds of tokens that the parser takes are those with which some named program goes on.
use Rattle.std.proofs.Common.{◌≡◌, ℕ, ◌+◌, true, false, List, [], ◌∷◌, Option, Some, None, is_some, length, refl, sym, ap, ap₂, subst, ◌∙◌}
use Rattle.std.specs.Prelude.{◌&&◌, ◌||◌}
use Rattle.lrc_named_tokens.specs.Token as tokens
use Rattle.lrc_named_tokens.specs.Token.{Token, number, name}
use Rattle.lrc_named_tree.specs.Tree.{Block, Expression, Declaration}
use Rattle.lrc_named_tree.specs.Tree as tree
use Rattle.lrc_named_expression.specs.Partial.{Level, Partial, partial_with, value_of, whole_of}
use Rattle.lrc_named_expression.specs.Partial as partial
use Rattle.lrc_named_statement.specs.Body.{Body, body_with}
use Rattle.lrc_named_statement.specs.Body as body
use Rattle.lrc_named_statement.proofs.Takes as statements
use Rattle.lrc_named_parse.specs.State.{Stage, State, state_with}
use Rattle.lrc_named_parse.specs.State as state
use Rattle.lrc_named_parse.proofs.Back.{back}
use Rattle.lrc_named_parse.proofs.Completed.{completion, completed}
use Rattle.lrc_named_parse.proofs.Reaching.{Reaches, refused-IsUnexpected}
use Rattle.lrc_named_parse.proofs.Takes as parser
use Rattle.lrc_named_may.specs.declared.kind.Kind.{Kind}
use Rattle.lrc_named_may.specs.declared.kind.Kind.TheVariants as kinds
use Rattle.lrc_named_may.specs.Kind.{kind_of, token_of_kind, MayStand, AreThoseThatMayStand}
use Rattle.lrc_named_may.specs.Stops.{takes_kind, kinds_taken}

-- ---- options

taken_some : {A : Type 0} (x : Option A) → (x ≡ None → ⊥) → is_some x ≡ true
taken_some None h = absurd (h refl)
taken_some (Some a) h = refl

some_value : {A : Type 0} (x : Option A) → is_some x ≡ true → (a : A) × (x ≡ Some a)
some_value None h = absurd (cc)
some_value (Some a) h = (a, refl)

pub refused_none : {A : Type 0} (x : Option A) → is_some x ≡ false → x ≡ None
refused_none None h = refl
refused_none (Some a) h = absurd (cc)

-- ---- whether a name or a number may stand does not depend on which

close_number : (outer : List partial.Around) (inside : Expression) (i n : ℕ) → partial.close outer inside i (number n) ≡ None
close_number [] inside i n = refl
close_number (around ∷ outer) inside i n = refl

close_name : (outer : List partial.Around) (inside : Expression) (i : ℕ) (bytes : List ℕ) → partial.close outer inside i (name bytes) ≡ None
close_name [] inside i bytes = refl
close_name (around ∷ outer) inside i bytes = refl

behind_number : (outer : List partial.Around) (inside : Expression) (i m n : ℕ)
    → is_some (partial.close outer inside i (number m)) ≡ is_some (partial.close outer inside i (number n))
behind_number outer inside i m n = ap is_some (close_number outer inside i m ∙ sym (close_number outer inside i n))

behind_name : (outer : List partial.Around) (inside : Expression) (i : ℕ) (bytes other : List ℕ)
    → is_some (partial.close outer inside i (name bytes)) ≡ is_some (partial.close outer inside i (name other))
behind_name outer inside i bytes other = ap is_some (close_name outer inside i bytes ∙ sym (close_name outer inside i other))

partial_numbers : (outer : List partial.Around) (level : Level) (place : partial.Place) (i m n : ℕ)
    → is_some (partial.moved outer level place i (number m)) ≡ is_some (partial.moved outer level place i (number n))
partial_numbers outer level partial.at_test i m n = refl
partial_numbers outer level partial.at_factor i m n = refl
partial_numbers outer level (partial.after_name own) i m n = behind_number outer (whole_of level (tree.element own tree.none own.at)) i m n
partial_numbers outer level (partial.after_index own others last) i m n = behind_number outer (whole_of level (tree.element own others last)) i m n
partial_numbers outer level (partial.after_call own) i m n = refl
partial_numbers outer level (partial.after_operand operand) i m n = behind_number outer (whole_of level operand) i m n

partial_names : (outer : List partial.Around) (level : Level) (place : partial.Place) (i : ℕ) (bytes other : List ℕ)
    → is_some (partial.moved outer level place i (name bytes)) ≡ is_some (partial.moved outer level place i (name other))
partial_names outer level partial.at_test i bytes other = refl
partial_names outer level partial.at_factor i bytes other = refl
partial_names outer level (partial.after_name own) i bytes other = behind_name outer (whole_of level (tree.element own tree.none own.at)) i bytes other
partial_names outer level (partial.after_index own others last) i bytes other =
    behind_name outer (whole_of level (tree.element own others last)) i bytes other
partial_names outer level (partial.after_call own) i bytes other = refl
partial_names outer level (partial.after_operand operand) i bytes other = behind_name outer (whole_of level operand) i bytes other

-- ---- in statements

no_end_number : (purpose : body.Purpose) (n : ℕ) → body.is_ending purpose (number n) ≡ false
no_end_number (body.index_of target own others) n = refl
no_end_number (body.given place update) n = refl
no_end_number (body.printed first others) n = refl
no_end_number (body.asserted first) n = refl
no_end_number (body.if_condition first) n = refl
no_end_number (body.arm_condition branch first) n = refl
no_end_number (body.while_condition first) n = refl
no_end_number (body.for_first first own) n = refl
no_end_number (body.for_end first own from) n = refl

no_end_name : (purpose : body.Purpose) (bytes : List ℕ) → body.is_ending purpose (name bytes) ≡ false
no_end_name (body.index_of target own others) bytes = refl
no_end_name (body.given place update) bytes = refl
no_end_name (body.printed first others) bytes = refl
no_end_name (body.asserted first) bytes = refl
no_end_name (body.if_condition first) bytes = refl
no_end_name (body.arm_condition branch first) bytes = refl
no_end_name (body.while_condition first) bytes = refl
no_end_name (body.for_first first own) bytes = refl
no_end_name (body.for_end first own from) bytes = refl

-- whether a token may stand in an expression is whether it ends it or goes on with it
go_on_alike : (outer : List body.Around) (before : Block) (purpose : body.Purpose) (x : Partial) (i : ℕ) (t u : Token)
    → body.is_ending purpose t ≡ body.is_ending purpose u → is_some (partial_with x i t) ≡ is_some (partial_with x i u)
    → is_some (body.go_on outer before purpose x i t) ≡ is_some (body.go_on outer before purpose x i u)
go_on_alike outer before purpose x i t u ends goes =
    sym (statements.ends_or_goes_on outer before purpose (value_of x) (body.is_ending purpose t) (partial_with x i t) t)
    ∙ ap₂ (λ is more. (is_some (value_of x) && is) || more) ends goes
    ∙ statements.ends_or_goes_on outer before purpose (value_of x) (body.is_ending purpose u) (partial_with x i u) u

spot_numbers : (outer : List body.Around) (before : Block) (spot : body.Spot) (i m n : ℕ)
    → is_some (body.moved outer before spot i (number m)) ≡ is_some (body.moved outer before spot i (number n))
spot_numbers outer before body.at_statement i m n = refl
spot_numbers outer before (body.before_place target) i m n = refl
spot_numbers outer before (body.after_place target own indices) i m n = refl
spot_numbers outer before (body.in_expression purpose x) i m n =
    go_on_alike outer before purpose x i (number m) (number n) (no_end_number purpose m ∙ sym (no_end_number purpose n))
    (partial_numbers x.outer x.level x.place i m n)
spot_numbers outer before (body.before_end s) i m n = refl
spot_numbers outer before (body.before_name first) i m n = refl
spot_numbers outer before (body.before_in first own) i m n = refl
spot_numbers outer before (body.after_branch branch) i m n = refl
spot_numbers outer before (body.after_else branch) i m n = refl

spot_names : (outer : List body.Around) (before : Block) (spot : body.Spot) (i : ℕ) (bytes other : List ℕ)
    → is_some (body.moved outer before spot i (name bytes)) ≡ is_some (body.moved outer before spot i (name other))
spot_names outer before body.at_statement i bytes other = refl
spot_names outer before (body.before_place target) i bytes other = refl
spot_names outer before (body.after_place target own indices) i bytes other = refl
spot_names outer before (body.in_expression purpose x) i bytes other =
    go_on_alike outer before purpose x i (name bytes) (name other) (no_end_name purpose bytes ∙ sym (no_end_name purpose other))
    (partial_names x.outer x.level x.place i bytes other)
spot_names outer before (body.before_end s) i bytes other = refl
spot_names outer before (body.before_name first) i bytes other = refl
spot_names outer before (body.before_in first own) i bytes other = refl
spot_names outer before (body.after_branch branch) i bytes other = refl
spot_names outer before (body.after_else branch) i bytes other = refl

stated_alike : (before : List Declaration) (a b : Option Body) → is_some a ≡ is_some b → is_some (state.stated before a) ≡ is_some (state.stated before b)
stated_alike before a b e = parser.stated_some before a ∙ e ∙ sym (parser.stated_some before b)

-- ---- in declarations

no_ending_number : (purpose : state.Purpose) (n : ℕ) → state.is_ending purpose (number n) ≡ false
no_ending_number (state.value_of_constant first own) n = refl
no_ending_number (state.size_of items own sizes) n = refl
no_ending_number (state.body_of first own parameters) n = refl

no_ending_name : (purpose : state.Purpose) (bytes : List ℕ) → state.is_ending purpose (name bytes) ≡ false
no_ending_name (state.value_of_constant first own) bytes = refl
no_ending_name (state.size_of items own sizes) bytes = refl
no_ending_name (state.body_of first own parameters) bytes = refl

within_alike : (before : List Declaration) (purpose : state.Purpose) (x : Partial) (i : ℕ) (t u : Token)
    → state.is_ending purpose t ≡ state.is_ending purpose u → is_some (partial_with x i t) ≡ is_some (partial_with x i u)
    → is_some (state.moved before (state.in_expression purpose x) i t) ≡ is_some (state.moved before (state.in_expression purpose x) i u)
within_alike before purpose x i t u ends goes =
    sym (parser.ends_or_goes_on before purpose (value_of x) (state.is_ending purpose t) (partial_with x i t))
    ∙ ap₂ (λ is more. (is_some (value_of x) && is) || more) ends goes
    ∙ parser.ends_or_goes_on before purpose (value_of x) (state.is_ending purpose u) (partial_with x i u)

stage_numbers : (before : List Declaration) (stage : Stage) (i m n : ℕ)
    → is_some (state.moved before stage i (number m)) ≡ is_some (state.moved before stage i (number n))
stage_numbers before state.at_first i m n = refl
stage_numbers before state.at_declaration i m n = refl
stage_numbers before (state.before_count first) i m n = refl
stage_numbers before (state.after_count first count) i m n = refl
stage_numbers before (state.before_constant first) i m n = refl
stage_numbers before (state.after_constant first own) i m n = refl
stage_numbers before (state.before_item items) i m n = refl
stage_numbers before (state.after_item items own sizes) i m n = refl
stage_numbers before (state.before_function first) i m n = refl
stage_numbers before (state.after_function first own) i m n = refl
stage_numbers before (state.before_first first own) i m n = refl
stage_numbers before (state.before_parameter first own parameters) i m n = refl
stage_numbers before (state.after_parameter first own parameters) i m n = refl
stage_numbers before (state.after_parameters first own parameters) i m n = refl
stage_numbers before (state.in_expression purpose x) i m n =
    within_alike before purpose x i (number m) (number n) (no_ending_number purpose m ∙ sym (no_ending_number purpose n))
    (partial_numbers x.outer x.level x.place i m n)
stage_numbers before (state.in_statements b) i m n =
    stated_alike before (body_with b i (number m)) (body_with b i (number n)) (spot_numbers b.outer b.before b.spot i m n)
stage_numbers before (state.ended statements) i m n = refl

stage_names : (before : List Declaration) (stage : Stage) (i : ℕ) (bytes other : List ℕ)
    → is_some (state.moved before stage i (name bytes)) ≡ is_some (state.moved before stage i (name other))
stage_names before state.at_first i bytes other = refl
stage_names before state.at_declaration i bytes other = refl
stage_names before (state.before_count first) i bytes other = refl
stage_names before (state.after_count first count) i bytes other = refl
stage_names before (state.before_constant first) i bytes other = refl
stage_names before (state.after_constant first own) i bytes other = refl
stage_names before (state.before_item items) i bytes other = refl
stage_names before (state.after_item items own sizes) i bytes other = refl
stage_names before (state.before_function first) i bytes other = refl
stage_names before (state.after_function first own) i bytes other = refl
stage_names before (state.before_first first own) i bytes other = refl
stage_names before (state.before_parameter first own parameters) i bytes other = refl
stage_names before (state.after_parameter first own parameters) i bytes other = refl
stage_names before (state.after_parameters first own parameters) i bytes other = refl
stage_names before (state.in_expression purpose x) i bytes other =
    within_alike before purpose x i (name bytes) (name other) (no_ending_name purpose bytes ∙ sym (no_ending_name purpose other))
    (partial_names x.outer x.level x.place i bytes other)
stage_names before (state.in_statements b) i bytes other =
    stated_alike before (body_with b i (name bytes)) (body_with b i (name other)) (spot_names b.outer b.before b.spot i bytes other)
stage_names before (state.ended statements) i bytes other = refl

-- a token is taken where its kind is
kind_taken : (s : State) (i : ℕ) (t : Token) → is_some (state_with s i t) ≡ takes_kind i s (kind_of t)
kind_taken s i (tokens.number n) = stage_numbers s.declarations s.stage i n 1
kind_taken s i (tokens.name bytes) = stage_names s.declarations s.stage i bytes []
kind_taken s i (tokens.keyword which) = refl
kind_taken s i (tokens.sign mark) = refl
kind_taken s i tokens.finish = refl

kind_of-token : (kind : Kind) → kind_of (token_of_kind kind) ≡ kind
kind_of-token kinds.Name = refl
kind_of-token kinds.Number = refl
kind_of-token (kinds.Keyword which) = refl
kind_of-token (kinds.Sign mark) = refl
kind_of-token kinds.End = refl

-- ---- exactly

-- a token that the parser takes goes on to some program
goes_on_with : (before : List Token) (s : State) (t : Token) → Reaches before s → is_some (state_with s (length before) t) ≡ true
    → MayStand before (kind_of t)
goes_on_with before s t r taken =
    let q = some_value (state_with s (length before) t) taken in
    let c = completed (length before + 1) q.0 in
    record {
      next = t;
      is = refl;
      rest = completion q.0;
      program = c.0;
      whole = r.backwards c.0 (t ∷ completion q.0) (back s (length before) t c.0 _ q.1 c.1);
    }

taken_may_stand : (before : List Token) (s : State) (kind : Kind) → Reaches before s → takes_kind (length before) s kind ≡ true → MayStand before kind
taken_may_stand before s kind r taken = subst (MayStand before) (kind_of-token kind) (goes_on_with before s (token_of_kind kind) r taken)

-- and the parser takes a token with which some program goes on
may_stand_taken : (before : List Token) (s : State) (kind : Kind) → Reaches before s → MayStand before kind → takes_kind (length before) s kind ≡ true
may_stand_taken before s kind r m =
    let taken = taken_some (state_with s (length before) m.next)
    (λ none. refused-IsUnexpected before s m.next r none m.rest m.program m.whole) in
    ap (takes_kind (length before) s) (sym m.is) ∙ sym (kind_taken s (length before) m.next) ∙ taken

pub exactly : (before : List Token) (i : ℕ) (s : State) (some : List Kind) → length before ≡ i → Reaches before s → some ≡ kinds_taken i s
    → AreThoseThatMayStand before some
exactly before i s some many r are = record {
  test = takes_kind (length before) s;
  exact = λ kind. (
    λ h. taken_may_stand before s kind r h,
    λ m. may_stand_taken before s kind r m,
  );
  all = are ∙ ap (λ n. kinds_taken n s) (sym many);
}
