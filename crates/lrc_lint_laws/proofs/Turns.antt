-- Of each kind of warning none is found twice, and no kind has a warning of another.
use Rattle.std.proofs.Common.{◌≡◌, ◌⊎◌, inl, inr, ◌∙◌, ◌<◌, ◌≤◌, ◌+◌, ℕ, Bool, true, false, Option, Some, None, List, [], ◌++◌}
use Rattle.std.proofs.Common.{drop, length, refl, sym, ap, arith}
use Rattle.std.specs.Prelude.{if◌then◌else◌, nat_lt, slice_get}
use Rattle.std.specs.List.{flat_map, range_with_len, zip}
use Rattle.std.proofs.lemmas.Bool.{cases_eq, ltb-false, ltb-true}
use Rattle.std.proofs.lemmas.Option.{same_Some}
use Rattle.lrc_text.specs.Each.{each}
use Rattle.lrc_program.specs.declared.Operator.TheVariants as operators
use Rattle.lrc_program.specs.Statements.{Expression, binary, Statement, assign, read, write, acquire, release, barrier}
use Rattle.lrc_program.specs.Statements.{print, if_else, while_do}
use Rattle.lrc_lang.specs.Token.{Token}
use Rattle.lrc_lang.specs.Grammar.{IsProgram}
use Rattle.lrc_program.specs.Tree.{ProgramTree}
use Rattle.lrc_lint_warned.specs.declared.found.Found.{Found}
use Rattle.lrc_lint_warned.specs.declared.found.Kind.{Kind}
use Rattle.lrc_lint_warned.specs.declared.found.Kind.TheVariants as kinds
use Rattle.lrc_lint_warned.specs.declared.places.Scan.TheVariants.{Nodes, Statements}
use Rattle.lrc_lint_warned.specs.Access.{lock_beyond, no_such_word, no_such_word_at, word_beyond}
use Rattle.lrc_lint_warned.specs.Blocks.{learns_kind, rounds_kind}
use Rattle.lrc_lint_warned.specs.Blocks.{unchanged_kind, uneven_kind}
use Rattle.lrc_lint_warned.specs.Found.{NodeAt, StatementAt, found_at}
use Rattle.lrc_lint_warned.specs.Inside.{nodes_of, statements_in}
use Rattle.lrc_lint_warned.specs.Names.{never_read, never_read_of, never_set, never_set_of, some_read, some_set}
use Rattle.lrc_lint_warned.specs.Operations.{below_zero, below_zero_kind, division_by_zero, division_kind, kind_if}
use Rattle.lrc_lint_warned.specs.Places.{node_at, nodes_at, places_in, statement_at, statements_at}
use Rattle.lrc_lint_laws.proofs.Listed.{mapped, place_once, zipped}
use Rattle.lrc_lint_laws.proofs.Traps.{split_at}
use Rattle.lrc_lint_laws.specs.Once.{IsOnce}
use Rattle.lrc_lint_laws.proofs.Once.{In, in_each_at, in_flat_at_some, in_found_at_some, in_found_where_some, in_none_at}
use Rattle.lrc_lint_laws.proofs.Once.{in_unless}
use Rattle.lrc_lint_laws.proofs.Once.{once_each, once_flat, once_found_at, once_found_where, once_if, once_joined, once_none}
use Rattle.lrc_lint_laws.proofs.Once.{range_once}
use Rattle.lrc_lint_laws.proofs.Spaced.{places_apart, width}

-- the kinds in the order in which they are looked for
abbrev pub turn_of : Kind → ℕ
turn_of (kinds.NeverSet name) = 0
turn_of (kinds.NeverRead name) = 1
turn_of kinds.DivisionByZero = 2
turn_of (kinds.BelowZero always) = 3
turn_of (kinds.NoSuchWord word) = 4
turn_of (kinds.NoSuchLock lock) = 5
turn_of (kinds.NeverWritten word) = 6
turn_of (kinds.NeverReleased lock) = 7
turn_of (kinds.HeldAlready lock) = 8
turn_of (kinds.NotHeld lock) = 9
turn_of (kinds.HeldAtBarrier lock) = 10
turn_of kinds.UnevenBarriers = 11
turn_of kinds.UncertainRounds = 12
turn_of kinds.UnchangedCondition = 13
turn_of kinds.LearnsNothing = 14

-- a list in which nothing stands twice, of these kinds alone
pub record Part (from upto : ℕ) (found : List Found) : Type 0 where
  pub once : IsOnce found
  pub within : (x : Found) → In found x → (from ≤ turn_of x.kind) × (turn_of x.kind < upto)

pub together : (from between upto : ℕ) (a b : List Found) → from ≤ between → between ≤ upto → Part from between a → Part between upto b → Part from upto (a ++ b)
together from between upto a b le more one other = record {
  once = once_joined a b one.once other.once (λ x h g. let u = one.within x h in let v = other.within x g in omega (arith, u.1, v.0));
  within = λ x has. by x (split_at a b has.0 x has.1);
}
  where
    by : (x : Found) → {i : ℕ} → (slice_get a i ≡ Some x) ⊎ ((k : ℕ) × (slice_get b k ≡ Some x) × (length a + k ≡ i))
        → (from ≤ turn_of x.kind) × (turn_of x.kind < upto)
    by x {i} (inl h) = let u = one.within x (i, h) in (u.0, omega (arith, u.1, more))
    by x {i} (inr (k, h, same)) = let u = other.within x (k, h) in (omega (arith, u.0, le), u.1)

one_turn : (r : ℕ) (kind : Kind) → turn_of kind ≡ r → (r ≤ turn_of kind) × (turn_of kind < r + 1)
one_turn r kind is = (omega (arith, is), omega (arith, is))

-- a list for each of so many numbers, and one for each item with a place
module _ (r : ℕ) where
  pub range_part : (make : ℕ → Kind) → ((a b : ℕ) → make a ≡ make b → a ≡ b) → ((a : ℕ) → turn_of (make a) ≡ r) → (f : ℕ → List Found) (many : ℕ)
      → ((x : ℕ) → IsOnce (f x)) → ((x : ℕ) (z : Found) → In (f x) z → make x ≡ z.kind) → Part r (r + 1) (flat_map f (range_with_len 0 many))
  range_part make same turn f many once kind = record {
    once = once_flat f (range_with_len 0 many) (λ k x is. once x)
        (λ k l x y z is also one other. range_once many k l x y is also (same x y (kind x z one ∙ sym (kind y z other))));
    within = λ z has.
        let (k, x, is, h) = in_flat_at_some f (range_with_len 0 many) z has in
        one_turn r z.kind (ap turn_of (sym (kind x z h)) ∙ turn x);
  }

  module _ {X : Type 0} (items : List X) (place : X → ℕ)
      (places_once : (k l : ℕ) (x y : X) → slice_get items k ≡ Some x → slice_get items l ≡ Some y → place x ≡ place y → k ≡ l) where
    pub at_part : (f : X → List Found) → ((x : X) → IsOnce (f x)) → ((x : X) (z : Found) → In (f x) z → (place x ≡ z.at) × (turn_of z.kind ≡ r))
        → Part r (r + 1) (flat_map f items)
    at_part f once is = record {
      once = once_flat f items (λ k x h. once x)
          (λ k l x y z h g one other. places_once k l x y h g ((is x z one).0 ∙ sym (is y z other).0));
      within = λ z has. let (k, x, h, g) = in_flat_at_some f items z has in one_turn r z.kind (is x z g).1;
    }

    pub each_part : (f : ℕ → X → List Found) → ((k : ℕ) (x : X) → IsOnce (f k x)) → ((k : ℕ) (x : X) (z : Found) → In (f k x) z → (place x ≡ z.at) × (turn_of z.kind ≡ r))
        → Part r (r + 1) (each f items)
    each_part f once is = record {
      once = once_each f items once (λ k l x y z h g one other. places_once k l x y h g ((is k x z one).0 ∙ sym (is l y z other).0));
      within = λ z has. let (k, x, h, g) = in_each_at f items z has in one_turn r z.kind (is k x z g).1;
    }

kind_of : (b : Bool) (kind other : Kind) → kind_if b kind ≡ Some other → kind ≡ other
kind_of true kind other is = same_Some kind other is
kind_of false kind other is = cc

turn_is : (kind other : Kind) (r : ℕ) → kind ≡ other → turn_of kind ≡ r → turn_of other ≡ r
turn_is kind other r same is = ap turn_of (sym same) ∙ is

pub division_turn : (e : Expression) (kind : Kind) → division_kind e ≡ Some kind → turn_of kind ≡ 2
division_turn (binary l operators.Divide x) kind is = turn_is kinds.DivisionByZero kind 2 (kind_of _ _ _ is) refl
division_turn (binary l operators.Remainder x) kind is = turn_is kinds.DivisionByZero kind 2 (kind_of _ _ _ is) refl
division_turn _ kind is = cc

pub below_turn : (e : Expression) (kind : Kind) → below_zero_kind e ≡ Some kind → turn_of kind ≡ 3
below_turn (binary l operators.Less x) kind is = turn_is (kinds.BelowZero false) kind 3 (kind_of _ _ _ is) refl
below_turn (binary l operators.Greater x) kind is = turn_is (kinds.BelowZero false) kind 3 (kind_of _ _ _ is) refl
below_turn (binary l operators.GreaterOrEqual x) kind is = turn_is (kinds.BelowZero true) kind 3 (kind_of _ _ _ is) refl
below_turn (binary l operators.LessOrEqual x) kind is = turn_is (kinds.BelowZero true) kind 3 (kind_of _ _ _ is) refl
below_turn _ kind is = cc

pub uneven_turn : (s : Statement) (kind : Kind) → uneven_kind s ≡ Some kind → turn_of kind ≡ 11
uneven_turn (if_else c a b) kind is = turn_is kinds.UnevenBarriers kind 11 (kind_of _ _ _ is) refl
uneven_turn _ kind is = cc

pub rounds_turn : (s : Statement) (kind : Kind) → rounds_kind s ≡ Some kind → turn_of kind ≡ 12
rounds_turn (while_do c a) kind is = turn_is kinds.UncertainRounds kind 12 (kind_of _ _ _ is) refl
rounds_turn _ kind is = cc

pub unchanged_turn : (s : Statement) (kind : Kind) → unchanged_kind s ≡ Some kind → turn_of kind ≡ 13
unchanged_turn (while_do c a) kind is = turn_is kinds.UnchangedCondition kind 13 (kind_of _ _ _ is) refl
unchanged_turn _ kind is = cc

pub learns_turn : (s : Statement) (kind : Kind) → learns_kind s ≡ Some kind → turn_of kind ≡ 14
learns_turn (while_do c a) kind is = turn_is kinds.LearnsNothing kind 14 (kind_of _ _ _ is) refl
learns_turn _ kind is = cc

pub word_turn : (words : ℕ) (o : Option ℕ) (kind : Kind) → word_beyond words o ≡ Some kind → turn_of kind ≡ 4
word_turn words None kind is = cc
word_turn words (Some w) kind is = by (nat_lt w words) is
  where
    by : (b : Bool) → (if b then None else Some (kinds.NoSuchWord w)) ≡ Some kind → turn_of kind ≡ 4
    by true h = cc
    by false h = turn_is (kinds.NoSuchWord w) kind 4 (same_Some _ _ h) refl

pub lock_turn : (locks : ℕ) (o : Option ℕ) (kind : Kind) → lock_beyond locks o ≡ Some kind → turn_of kind ≡ 5
lock_turn locks None kind is = cc
lock_turn locks (Some l) kind is = by (nat_lt l locks) is
  where
    by : (b : Bool) → (if b then None else Some (kinds.NoSuchLock l)) ≡ Some kind → turn_of kind ≡ 5
    by true h = cc
    by false h = turn_is (kinds.NoSuchLock l) kind 5 (same_Some _ _ h) refl

-- ---- of a text

module _ (p : ProgramTree) (tokens : List Token) (is_text : IsProgram p tokens) where
  abbrev pub S : List StatementAt
  S = statements_at tokens p.statements

  abbrev pub N : List NodeAt
  N = nodes_at tokens p.statements

  numbered : (k : ℕ) (s : StatementAt) → slice_get S k ≡ Some s
      → (slice_get (places_in Statements tokens) k ≡ Some s.at) × (slice_get (statements_in p.statements) k ≡ Some s.statement)
  numbered k s is =
      let (q, at, made) = mapped statement_at (zip (places_in Statements tokens) (statements_in p.statements)) k s is in
      let h = zipped (places_in Statements tokens) (statements_in p.statements) k q at in
      (h.0 ∙ ap (λ (x : StatementAt). Some x.at) made, h.1 ∙ ap (λ (x : StatementAt). Some x.statement) made)

  pub statement_once : (k l : ℕ) (s t : StatementAt) → slice_get S k ≡ Some s → slice_get S l ≡ Some t → s.at ≡ t.at → k ≡ l
  statement_once k l s t is also same =
      place_once Statements 6 true (drop 6 tokens) k l t.at ((numbered k s is).0 ∙ ap Some same) (numbered l t also).0

  pub node_once : (k l : ℕ) (n m : NodeAt) → slice_get N k ≡ Some n → slice_get N l ≡ Some m → n.at ≡ m.at → k ≡ l
  node_once k l n m is also same =
      place_once Nodes 6 true (drop 6 tokens) k l m.at (place k n is ∙ ap Some same) (place l m also)
    where
      place : (j : ℕ) (x : NodeAt) → slice_get N j ≡ Some x → slice_get (places_in Nodes tokens) j ≡ Some x.at
      place j x here =
          let (q, at, made) = mapped node_at (zip (places_in Nodes tokens) (flat_map nodes_of (statements_in p.statements))) j x here in
          let h = zipped (places_in Nodes tokens) (flat_map nodes_of (statements_in p.statements)) j q at in
          h.0 ∙ ap (λ (y : NodeAt). Some y.at) made

  names_set : (many : ℕ) → Part 0 1 (flat_map (never_set_of N S) (range_with_len 0 many))
  names_set many =
      range_part 0 (λ a. kinds.NeverSet a) (λ a b is. cc) (λ a. refl) (never_set_of N S) many
      (λ x. once_if (some_set S x) [] _ once_none (once_found_where _ (kinds.NeverSet x)))
      (λ x z has. in_found_where_some _ (kinds.NeverSet x) z (in_unless (some_set S x) _ z has))

  pub never_set_part : Part 0 1 (never_set N S)
  never_set_part = names_set 32

  names_read : (many : ℕ) → Part 1 2 (flat_map (never_read_of N S) (range_with_len 0 many))
  names_read many =
      range_part 1 (λ a. kinds.NeverRead a) (λ a b is. cc) (λ a. refl) (never_read_of N S) many
      (λ x. once_if (some_read N x) [] _ once_none (once_found_where _ (kinds.NeverRead x)))
      (λ x z has. in_found_where_some _ (kinds.NeverRead x) z (in_unless (some_read N x) _ z has))

  pub never_read_part : Part 1 2 (never_read N S)
  never_read_part = names_read 32

  pub division_part : Part 2 3 (division_by_zero N)
  division_part =
      at_part 2 N (λ n. n.at) node_once (λ n. found_at n.at (division_kind n.node)) (λ n. once_found_at n.at (division_kind n.node))
      (λ n z has. let h = in_found_at_some n.at (division_kind n.node) z has in (h.0, division_turn n.node z.kind h.1))

  pub below_part : Part 3 4 (below_zero N)
  below_part =
      at_part 3 N (λ n. n.at) node_once (λ n. found_at n.at (below_zero_kind n.node)) (λ n. once_found_at n.at (below_zero_kind n.node))
      (λ n z has. let h = in_found_at_some n.at (below_zero_kind n.node) z has in (h.0, below_turn n.node z.kind h.1))

  -- ---- words: what is told stands one token behind the beginning of a write, or three behind that of a read

  word_in : (words : ℕ) (s : Statement) (at : ℕ) (z : Found) → In (no_such_word_at words at s) z
      → (((s ≡ s) × (width s ≡ 3) × (z.at ≡ at + 3)) ⊎ (z.at ≡ at + 1)) × (turn_of z.kind ≡ 4)
  word_in words (read k e) at z has = let h = in_found_at_some (at + 3) _ z has in (inl (refl, refl, sym h.0), word_turn words _ z.kind h.1)
  word_in words (write e v) at z has = let h = in_found_at_some (at + 1) _ z has in (inr (sym h.0), word_turn words _ z.kind h.1)
  word_in words (assign k e) at z has = absurd (in_none_at z has)
  word_in words (acquire e) at z has = absurd (in_none_at z has)
  word_in words (release e) at z has = absurd (in_none_at z has)
  word_in words barrier at z has = absurd (in_none_at z has)
  word_in words (print e) at z has = absurd (in_none_at z has)
  word_in words (if_else e a b) at z has = absurd (in_none_at z has)
  word_in words (while_do e a) at z has = absurd (in_none_at z has)

  once_word : (words : ℕ) (s : Statement) (at : ℕ) → IsOnce (no_such_word_at words at s)
  once_word words (read k e) at = once_found_at (at + 3) _
  once_word words (write e v) at = once_found_at (at + 1) _
  once_word words (assign k e) at = once_none
  once_word words (acquire e) at = once_none
  once_word words (release e) at = once_none
  once_word words barrier at = once_none
  once_word words (print e) at = once_none
  once_word words (if_else e a b) at = once_none
  once_word words (while_do e a) at = once_none

  -- a write does not begin two tokens behind a read
  no_write_there : (k l : ℕ) (s t : StatementAt) → slice_get S k ≡ Some s → slice_get S l ≡ Some t → width s.statement ≡ 3 → t.at ≡ s.at + 2 → ⊥
  no_write_there k l s t is also wide near = by (nat_lt k l) refl
    where
      one_side : k < l → ⊥
      one_side lt =
          let h = places_apart p tokens is_text k l s.statement s.at t.at lt (numbered k s is).1 (numbered k s is).0 (numbered l t also).0 in
          omega (arith, h, wide, near)

      other_side : l ≤ k → (k ≡ l) ⊎ (k ≡ l → ⊥) → ⊥
      other_side le (inl same) =
          let h = same_Some s t (sym is ∙ ap (slice_get S) same ∙ also) in
          omega (arith, near, ap (λ (x : StatementAt). x.at) h)
      other_side le (inr apart) =
          let h = places_apart p tokens is_text l k t.statement t.at s.at (omega (arith, le, apart)) (numbered l t also).1 (numbered l t also).0 (numbered k s is).0 in
          omega (arith, h, near)

      by : (b : Bool) → nat_lt k l ≡ b → ⊥
      by true lt = one_side (ltb-true k l lt)
      by false le = other_side (ltb-false k l le) (cases_eq k l)

  pub word_part : (words : ℕ) → Part 4 5 (no_such_word words S)
  word_part words = record {
    once = once_flat (λ s. no_such_word_at words s.at s.statement) S (λ k s is. once_word words s.statement s.at)
        (λ k l s t z is also one other.
        by k l s t z.at is also (word_in words s.statement s.at z one).0 (word_in words t.statement t.at z other).0);
    within = λ z has.
        let (k, s, is, h) = in_flat_at_some (λ s. no_such_word_at words s.at s.statement) S z has in
        one_turn 4 z.kind (word_in words s.statement s.at z h).1;
  }
    where
      by : (k l : ℕ) (s t : StatementAt) (at : ℕ) → slice_get S k ≡ Some s → slice_get S l ≡ Some t
          → ((s.statement ≡ s.statement) × (width s.statement ≡ 3) × (at ≡ s.at + 3)) ⊎ (at ≡ s.at + 1)
          → ((t.statement ≡ t.statement) × (width t.statement ≡ 3) × (at ≡ t.at + 3)) ⊎ (at ≡ t.at + 1) → k ≡ l
      by k l s t at is also (inl h) (inl g) = statement_once k l s t is also (omega (arith, h.2, g.2))
      by k l s t at is also (inl h) (inr g) = absurd (no_write_there k l s t is also h.1 (omega (arith, h.2, g)))
      by k l s t at is also (inr h) (inl g) = absurd (no_write_there l k t s also is g.1 (omega (arith, h, g.2)))
      by k l s t at is also (inr h) (inr g) = statement_once k l s t is also (omega (arith, h, g))
