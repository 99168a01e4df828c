-- The kinds of tokens that the parser takes are those with which some program goes on.
use Rattle.std.proofs.Common.{◌≡◌, ◌↔◌, ℕ, Bool, true, false, IsTrue, List, [], ◌∷◌, ◌++◌, Option, Some, None, is_some, filter, refl, sym, ap, subst, ◌∙◌}
use Rattle.lrc_lang.specs.declared.kind.Kind.{Kind}
use Rattle.lrc_lang.specs.declared.kind.Kind.TheVariants as kinds
use Rattle.lrc_lang.specs.declared.token.Sign.TheVariants as signs
use Rattle.lrc_lang.specs.Token as tokens
use Rattle.lrc_lang.specs.Token.{Token}
use Rattle.lrc_lang.specs.Symbol.{Symbol, Names, number, name, names_with, symbol_of, symbol_of_sign}
use Rattle.lrc_program.specs.Tree.{Block, Expression, ProgramTree}
use Rattle.lrc_lang.specs.Grammar.{IsProgram}
use Rattle.lrc_lang.specs.Counts.{names_of}
use Rattle.lrc_lang.specs.Kind.{kind_of, all_kinds, MayStand, AreThoseThatMayStand}
use Rattle.lrc_lang.specs.Parser.Partial.{Level, Partial}
use Rattle.lrc_lang.specs.Parser.Partial as partial
use Rattle.lrc_lang.specs.Parser.Body.{Around, Body, Place, Purpose, Ending, if_some, is_ending, ending_of, body_with}
use Rattle.lrc_lang.specs.Parser.Body as body
use Rattle.lrc_lang.specs.Parser.State.{Stage, ParserState, state_with}
use Rattle.lrc_lang.specs.Parser.State as state
use Rattle.lrc_lang.specs.Parser.Stops.{symbol_of_kind, takes_kind, kinds_taken}
use Rattle.lrc_lang.proofs.Options.{none_some}
use Rattle.lrc_lang.proofs.Reaching.{Reaches, refused-IsUnexpected}
use Rattle.lrc_lang.proofs.States.{completion, completed, back_state}

-- ---- options

pub some_kept : {A B : Type 0} (x : Option A) (f : A → B) → is_some (if_some x (λ a. Some (f a))) ≡ is_some x
some_kept None f = refl
some_kept (Some a) f = refl

pub taken_some : {A : Type 0} (x : Option A) → (x ≡ None → ⊥) → is_some x ≡ true
taken_some None h = absurd (h refl)
taken_some (Some a) h = refl

pub some_value : {A : Type 0} (x : Option A) → is_some x ≡ true → (a : A) × (x ≡ Some a)
some_value None h = absurd (cc)
some_value (Some a) h = (a, refl)

pub refused_none : {A : Type 0} (x : Option A) → is_some x ≡ false → x ≡ None
refused_none None h = refl
refused_none (Some a) h = absurd (cc)

-- ---- whether a name or a number may stand does not depend on which

partial_names : (outer : List Level) (level : Level) (operand : Option Expression) (j k : ℕ)
    → is_some (partial.moved outer level operand (name j)) ≡ is_some (partial.moved outer level operand (name k))
partial_names outer level None j k = refl
partial_names outer level (Some operand) j k = refl

partial_numbers : (outer : List Level) (level : Level) (operand : Option Expression) (m n : ℕ)
    → is_some (partial.moved outer level operand (number m)) ≡ is_some (partial.moved outer level operand (number n))
partial_numbers outer level None m n = refl
partial_numbers outer level (Some operand) m n = refl

no_ending_name : (ending : Ending) (k : ℕ) → is_ending ending (name k) ≡ false
no_ending_name body.semicolon k = refl
no_ending_name body.bracket k = refl
no_ending_name body.brace k = refl

no_ending_number : (ending : Ending) (n : ℕ) → is_ending ending (number n) ≡ false
no_ending_number body.semicolon n = refl
no_ending_number body.bracket n = refl
no_ending_number body.brace n = refl

go_on_names : (outer : List Around) (before : Block) (purpose : Purpose) (x : Partial) (j k : ℕ)
    → is_some (body.go_on outer before purpose x (name j)) ≡ is_some (body.go_on outer before purpose x (name k))
go_on_names outer before purpose x j k =
    rw (no_ending_name (ending_of purpose) j, no_ending_name (ending_of purpose) k)
    (some_kept (partial.partial_with x (name j)) _ ∙ partial_names x.outer x.level x.operand j k ∙ sym (some_kept (partial.partial_with x (name k)) _))

go_on_numbers : (outer : List Around) (before : Block) (purpose : Purpose) (x : Partial) (m n : ℕ)
    → is_some (body.go_on outer before purpose x (number m)) ≡ is_some (body.go_on outer before purpose x (number n))
go_on_numbers outer before purpose x m n =
    rw (no_ending_number (ending_of purpose) m, no_ending_number (ending_of purpose) n)
    (some_kept (partial.partial_with x (number m)) _ ∙ partial_numbers x.outer x.level x.operand m n
    ∙ sym (some_kept (partial.partial_with x (number n)) _))

body_names : (outer : List Around) (before : Block) (place : Place) (j k : ℕ)
    → is_some (body.moved outer before place (name j)) ≡ is_some (body.moved outer before place (name k))
body_names outer before body.at_statement j k = refl
body_names outer before (body.after_name i) j k = refl
body_names outer before (body.after_equals i) j k = refl
body_names outer before (body.in_expression purpose x) j k = go_on_names outer before purpose x j k
body_names outer before (body.after_word w) j k = refl
body_names outer before (body.before_end s) j k = refl
body_names outer before (body.after_then condition first) j k = refl
body_names outer before (body.after_else condition first) j k = refl

body_numbers : (outer : List Around) (before : Block) (place : Place) (m n : ℕ)
    → is_some (body.moved outer before place (number m)) ≡ is_some (body.moved outer before place (number n))
body_numbers outer before body.at_statement m n = refl
body_numbers outer before (body.after_name i) m n = refl
body_numbers outer before (body.after_equals i) m n = refl
body_numbers outer before (body.in_expression purpose x) m n = go_on_numbers outer before purpose x m n
body_numbers outer before (body.after_word w) m n = refl
body_numbers outer before (body.before_end s) m n = refl
body_numbers outer before (body.after_then condition first) m n = refl
body_numbers outer before (body.after_else condition first) m n = refl

names_at : (s : ParserState) (stage : Stage) (j k : ℕ) → is_some (state.moved stage s (name j)) ≡ is_some (state.moved stage s (name k))
names_at s state.words j k = refl
names_at s state.words_number j k = refl
names_at s state.words_end j k = refl
names_at s state.locks j k = refl
names_at s state.locks_number j k = refl
names_at s state.locks_end j k = refl
names_at s state.statements j k =
    some_kept (body_with s.body (name j)) _ ∙ body_names s.body.outer s.body.before s.body.place j k ∙ sym (some_kept (body_with s.body (name k)) _)
names_at s state.nothing j k = refl

numbers_at : (s : ParserState) (stage : Stage) (m n : ℕ) → is_some (state.moved stage s (number m)) ≡ is_some (state.moved stage s (number n))
numbers_at s state.words m n = refl
numbers_at s state.words_number m n = refl
numbers_at s state.words_end m n = refl
numbers_at s state.locks m n = refl
numbers_at s state.locks_number m n = refl
numbers_at s state.locks_end m n = refl
numbers_at s state.statements m n =
    some_kept (body_with s.body (number m)) _ ∙ body_numbers s.body.outer s.body.before s.body.place m n ∙ sym (some_kept (body_with s.body (number n)) _)
numbers_at s state.nothing m n = refl

-- a token is taken where its kind is
kind_taken : (s : ParserState) (names : Names) (t : Token) → is_some (state_with s (symbol_of names t)) ≡ takes_kind s (kind_of t)
kind_taken s names (tokens.number n) = numbers_at s s.stage n 1
kind_taken s names (tokens.name bytes) = names_at s s.stage _ 0
kind_taken s names (tokens.keyword which) = refl
kind_taken s names (tokens.sign mark) = refl
kind_taken s names tokens.finish = refl

-- ---- a token of each kind

token_of_kind : Kind → Token
token_of_kind kinds.Name = tokens.name []
token_of_kind kinds.Number = tokens.number 1
token_of_kind (kinds.Keyword which) = tokens.keyword which
token_of_kind (kinds.Sign mark) = tokens.sign mark
token_of_kind kinds.End = tokens.finish

kind_of-token : (kind : Kind) → kind_of (token_of_kind kind) ≡ kind
unfolding token_of_kind
kind_of-token kinds.Name = refl
kind_of-token kinds.Number = refl
kind_of-token (kinds.Keyword which) = refl
kind_of-token (kinds.Sign mark) = refl
kind_of-token kinds.End = refl

-- ---- exactly

-- a token that the parser takes goes on to some program
goes_on_with : (before : List Token) (s : ParserState) (t : Token) → Reaches before s → is_some (state_with s (symbol_of (names_of before) t)) ≡ true
    → MayStand before (kind_of t)
goes_on_with before s t r taken =
    let q = some_value (state_with s (symbol_of (names_of before) t)) taken in
    let c = completed (names_with (names_of before) t) q.0 in
    record {
      next = t;
      is = refl;
      rest = completion q.0;
      program = c.0;
      whole = r.backwards c.0 (t ∷ completion q.0) (back_state s (symbol_of (names_of before) t) c.0 _ q.1 c.1);
    }

taken_may_stand : (before : List Token) (s : ParserState) (kind : Kind) → Reaches before s → takes_kind s kind ≡ true → MayStand before kind
taken_may_stand before s kind r taken =
    let t = token_of_kind kind in
    let here : takes_kind s (kind_of t) ≡ true = ap (takes_kind s) (kind_of-token kind) ∙ taken in
    subst (MayStand before) (kind_of-token kind) (goes_on_with before s t r (kind_taken s (names_of before) t ∙ here))

-- and the parser takes a token with which some program goes on
may_stand_taken : (before : List Token) (s : ParserState) (kind : Kind) → Reaches before s → MayStand before kind → takes_kind s kind ≡ true
may_stand_taken before s kind r m =
    let taken = taken_some (state_with s (symbol_of (names_of before) m.next))
    (λ none. refused-IsUnexpected before s m.next r none m.rest m.program m.whole) in
    ap (takes_kind s) (sym m.is) ∙ sym (kind_taken s (names_of before) m.next) ∙ taken

pub exactly : (before : List Token) (s : ParserState) (some : List Kind) → Reaches before s → some ≡ kinds_taken s → AreThoseThatMayStand before some
exactly before s some r are = record {
  test = takes_kind s;
  exact = λ kind. (
    λ h. taken_may_stand before s kind r h,
    λ m. may_stand_taken before s kind r m,
  );
  all = are;
}
