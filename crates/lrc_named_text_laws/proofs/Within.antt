-- The tokens of a core that keeps the limits pass none.
use Rattle.std.proofs.Common.{◌≡◌, ◌⊎◌, inl, inr, ℕ, ◌+◌, ◌-◌, ◌<◌, ◌≤◌, Bool, true, false, Some, None, Option, List, [], ◌∷◌, refl, arith}
use Rattle.std.specs.Prelude.{max}
use Rattle.std.proofs.lemmas.Bool.{cases_lt}
use Rattle.lrc_lang.specs.Counts.{IsNameTooMany, IsOperatorTooMany, IsTooDeep, open_with, operators_with}
use Rattle.lrc_lang.specs.Faults.{IsNumberOutOfRange}
use Rattle.lrc_lang.specs.Grammar.{joins}
use Rattle.lrc_lang.specs.Symbol.{symbol_of}
use Rattle.lrc_lang.specs.Token.{Token, finish, keyword, name, number, sign}
use Rattle.lrc_program.specs.declared.Operator.{Operator}
use Rattle.lrc_program.specs.declared.Operator.TheVariants as operator
use Rattle.lrc_lang.specs.declared.token.Keyword.TheVariants as keywords
use Rattle.lrc_lang.specs.declared.token.Sign.TheVariants as signs
use Rattle.lrc_named_core.specs.Tree.{Block, Expression, Origin, Private, Statement, empty, next}
use Rattle.lrc_named_core.specs.Tree as core
use Rattle.lrc_named_limits.specs.Limits.{IsBlockOver, IsOf, IsOver, IsOverIn, IsOverInBlock, open_in, operators, surrounded}
use Rattle.lrc_named_limits.specs.declared.excess.Excess.{Excess}
use Rattle.lrc_named_limits.specs.declared.excess.Limit.{Limit}
use Rattle.lrc_named_limits.specs.declared.excess.Limit.TheVariants.{Open, Operators}
use Rattle.lrc_named_text.specs.Expressions.{is_grouped, left_room, private_text, right_room}
use Rattle.lrc_named_text.specs.declared.expression.Room.{Room}
use Rattle.lrc_named_text.specs.declared.expression.Room.TheVariants.{Whole}
use Rattle.lrc_named_text_laws.proofs.Tokens.{block_tokens, else_tokens, expression_tokens, grouped_tokens, program_tokens, sign_of, statement_tokens}

-- behind so many open `{` and `(`, so many operators of an expression and this token, none of these tokens passes a limit
abbrev pub Fine : (depth count : ℕ) → Option Token → List Token → Type 0
Fine depth count last [] = Unit {0}
Fine depth count last (t ∷ ts) =
    (IsTooDeep depth t → ⊥) × (IsOperatorTooMany count t → ⊥) × (IsNumberOutOfRange last t → ⊥)
    × Fine (open_with depth t) (operators_with count (symbol_of [] t)) (Some t) ts

-- behind this token a number is in range
abbrev IsSafe : Option Token → Type 0
IsSafe last = (t : Token) → IsNumberOutOfRange last t → ⊥

-- behind at most so many open ones and operators, and then behind any number of operators
abbrev Goes : (depth count : ℕ) → List Token → Type 0
Goes depth count ts = (now so_far : ℕ) (last : Option Token) → now ≤ depth → so_far ≤ count → IsSafe last → Fine now so_far last ts

abbrev Begins : (depth : ℕ) → List Token → Type 0
Begins depth ts = (now so_far : ℕ) (last : Option Token) → now ≤ depth → IsSafe last → Fine now so_far last ts

goes_on : (depth : ℕ) (ts : List Token) → Begins depth ts → Goes depth 0 ts
goes_on depth ts begins now so_far last shallow few safe = begins now so_far last shallow safe

-- ---- one token

operator_goes : (o : Operator) (depth count : ℕ) (ts : List Token) → count < 256 → Goes depth (count + 1) ts → Goes depth count (sign (sign_of o) ∷ ts)
operator_goes operator.Add depth count ts less go now so_far last shallow few safe =
    (λ h. h.0, λ h. omega (arith, h.1, few, less), safe (sign signs.Plus), go now (so_far + 1) (Some (sign signs.Plus)) shallow (omega (arith, few)) (λ t h. h))
operator_goes operator.Subtract depth count ts less go now so_far last shallow few safe =
    (λ h. h.0, λ h. omega (arith, h.1, few, less), safe (sign signs.Minus), go now (so_far + 1) (Some (sign signs.Minus)) shallow (omega (arith, few)) (λ t h. h))
operator_goes operator.Multiply depth count ts less go now so_far last shallow few safe =
    (λ h. h.0, λ h. omega (arith, h.1, few, less), safe (sign signs.Star), go now (so_far + 1) (Some (sign signs.Star)) shallow (omega (arith, few)) (λ t h. h))
operator_goes operator.Divide depth count ts less go now so_far last shallow few safe =
    (λ h. h.0, λ h. omega (arith, h.1, few, less), safe (sign signs.Slash), go now (so_far + 1) (Some (sign signs.Slash)) shallow (omega (arith, few)) (λ t h. h))
operator_goes operator.Remainder depth count ts less go now so_far last shallow few safe =
    (λ h. h.0, λ h. omega (arith, h.1, few, less), safe (sign signs.Percent), go now (so_far + 1) (Some (sign signs.Percent)) shallow (omega (arith, few)) (λ t h. h))
operator_goes operator.Equal depth count ts less go now so_far last shallow few safe =
    (λ h. h.0, λ h. omega (arith, h.1, few, less), safe (sign signs.Equal), go now (so_far + 1) (Some (sign signs.Equal)) shallow (omega (arith, few)) (λ t h. h))
operator_goes operator.NotEqual depth count ts less go now so_far last shallow few safe =
    (λ h. h.0, λ h. omega (arith, h.1, few, less), safe (sign signs.NotEqual), go now (so_far + 1) (Some (sign signs.NotEqual)) shallow (omega (arith, few)) (λ t h. h))
operator_goes operator.Less depth count ts less go now so_far last shallow few safe =
    (λ h. h.0, λ h. omega (arith, h.1, few, less), safe (sign signs.Less), go now (so_far + 1) (Some (sign signs.Less)) shallow (omega (arith, few)) (λ t h. h))
operator_goes operator.LessOrEqual depth count ts less go now so_far last shallow few safe =
    (λ h. h.0, λ h. omega (arith, h.1, few, less), safe (sign signs.LessOrEqual), go now (so_far + 1) (Some (sign signs.LessOrEqual)) shallow (omega (arith, few)) (λ t h. h))
operator_goes operator.Greater depth count ts less go now so_far last shallow few safe =
    (λ h. h.0, λ h. omega (arith, h.1, few, less), safe (sign signs.Greater), go now (so_far + 1) (Some (sign signs.Greater)) shallow (omega (arith, few)) (λ t h. h))
operator_goes operator.GreaterOrEqual depth count ts less go now so_far last shallow few safe =
    (λ h. h.0, λ h. omega (arith, h.1, few, less), safe (sign signs.GreaterOrEqual), go now (so_far + 1) (Some (sign signs.GreaterOrEqual)) shallow (omega (arith, few)) (λ t h. h))

finished : Begins 0 (finish ∷ [])
finished now so_far last shallow safe = (λ h. h.0, λ h. h.0, safe finish, tt)

name_begins : (depth : ℕ) (bytes : List ℕ) (ts : List Token) → Begins depth ts → Begins depth (name bytes ∷ ts)
name_begins depth bytes ts begins now so_far last shallow safe =
    (λ h. h.0, λ h. h.0, safe (name bytes), begins now so_far (Some (name bytes)) shallow (λ t h. h))

semicolon : (depth : ℕ) (ts : List Token) → Goes depth 0 ts → Begins depth (sign signs.Semicolon ∷ ts)
semicolon depth ts go now so_far last shallow safe =
    (λ h. h.0, λ h. h.0, safe (sign signs.Semicolon), go now 0 (Some (sign signs.Semicolon)) shallow (omega arith) (λ t h. h))

assigned : (depth : ℕ) (ts : List Token) → Goes depth 0 ts → Begins depth (sign signs.Assign ∷ ts)
assigned depth ts go now so_far last shallow safe =
    (λ h. h.0, λ h. h.0, safe (sign signs.Assign), go now 0 (Some (sign signs.Assign)) shallow (omega arith) (λ t h. h))

bracket : (depth : ℕ) (ts : List Token) → Goes depth 0 ts → Begins depth (sign signs.OpenBracket ∷ ts)
bracket depth ts go now so_far last shallow safe =
    (λ h. h.0, λ h. h.0, safe (sign signs.OpenBracket), go now 0 (Some (sign signs.OpenBracket)) shallow (omega arith) (λ t h. h))

closed : (depth : ℕ) (ts : List Token) → Goes depth 0 ts → Begins depth (sign signs.CloseBracket ∷ ts)
closed depth ts go now so_far last shallow safe =
    (λ h. h.0, λ h. h.0, safe (sign signs.CloseBracket), go now 0 (Some (sign signs.CloseBracket)) shallow (omega arith) (λ t h. h))

keyword_acquire : (depth : ℕ) (ts : List Token) → Goes depth 0 ts → Begins depth (keyword keywords.Acquire ∷ ts)
keyword_acquire depth ts go now so_far last shallow safe =
    (λ h. h.0, λ h. h.0, safe (keyword keywords.Acquire), go now 0 (Some (keyword keywords.Acquire)) shallow (omega arith) (λ t h. h))

keyword_release : (depth : ℕ) (ts : List Token) → Goes depth 0 ts → Begins depth (keyword keywords.Release ∷ ts)
keyword_release depth ts go now so_far last shallow safe =
    (λ h. h.0, λ h. h.0, safe (keyword keywords.Release), go now 0 (Some (keyword keywords.Release)) shallow (omega arith) (λ t h. h))

keyword_barrier : (depth : ℕ) (ts : List Token) → Goes depth 0 ts → Begins depth (keyword keywords.Barrier ∷ ts)
keyword_barrier depth ts go now so_far last shallow safe =
    (λ h. h.0, λ h. h.0, safe (keyword keywords.Barrier), go now 0 (Some (keyword keywords.Barrier)) shallow (omega arith) (λ t h. h))

keyword_print : (depth : ℕ) (ts : List Token) → Goes depth 0 ts → Begins depth (keyword keywords.Print ∷ ts)
keyword_print depth ts go now so_far last shallow safe =
    (λ h. h.0, λ h. h.0, safe (keyword keywords.Print), go now 0 (Some (keyword keywords.Print)) shallow (omega arith) (λ t h. h))

keyword_if : (depth : ℕ) (ts : List Token) → Goes depth 0 ts → Begins depth (keyword keywords.If ∷ ts)
keyword_if depth ts go now so_far last shallow safe =
    (λ h. h.0, λ h. h.0, safe (keyword keywords.If), go now 0 (Some (keyword keywords.If)) shallow (omega arith) (λ t h. h))

keyword_else : (depth : ℕ) (ts : List Token) → Goes depth 0 ts → Begins depth (keyword keywords.Else ∷ ts)
keyword_else depth ts go now so_far last shallow safe =
    (λ h. h.0, λ h. h.0, safe (keyword keywords.Else), go now 0 (Some (keyword keywords.Else)) shallow (omega arith) (λ t h. h))

keyword_while : (depth : ℕ) (ts : List Token) → Goes depth 0 ts → Begins depth (keyword keywords.While ∷ ts)
keyword_while depth ts go now so_far last shallow safe =
    (λ h. h.0, λ h. h.0, safe (keyword keywords.While), go now 0 (Some (keyword keywords.While)) shallow (omega arith) (λ t h. h))

brace : (depth : ℕ) (ts : List Token) → depth + 1 ≤ 32 → Goes (depth + 1) 0 ts → Begins depth (sign signs.OpenBrace ∷ ts)
brace depth ts deep go now so_far last shallow safe = (
  λ h. omega (arith, h.1, shallow, deep),
  λ h. h.0,
  safe (sign signs.OpenBrace),
  go (now + 1) 0 (Some (sign signs.OpenBrace)) (omega (arith, shallow)) (omega arith) (λ t h. h),
)

brace_closed : (depth : ℕ) (ts : List Token) → Goes depth 0 ts → Begins (depth + 1) (sign signs.CloseBrace ∷ ts)
brace_closed depth ts go now so_far last shallow safe =
    (λ h. h.0, λ h. h.0, safe (sign signs.CloseBrace), go (now - 1) 0 (Some (sign signs.CloseBrace)) (omega (arith, shallow)) (omega arith) (λ t h. h))

-- ---- expressions

grouped_goes : (b : Bool) (depth most count after : ℕ) (inside : List Token → List Token) (ts : List Token) → depth + surrounded b most ≤ 32
    → ((under : ℕ) (us : List Token) → under + most ≤ 32 → Goes under after us → Goes under count (inside us))
    → Goes depth after ts → Goes depth count (grouped_tokens b inside ts)
grouped_goes true depth most count after inside ts deep goes go = λ now so_far last shallow few safe. (
  λ h. omega (arith, h.1, shallow, deep),
  λ h. h.0,
  safe (sign signs.OpenParenthesis),
  goes (depth + 1) (sign signs.CloseParenthesis ∷ ts) (omega (arith, deep))
      (λ here counted before above fewer sound.
      (λ h. h.0, λ h. h.0, sound (sign signs.CloseParenthesis), go (here - 1) counted (Some (sign signs.CloseParenthesis)) (omega (arith, above)) fewer (λ t h. h)))
      (now + 1) so_far (Some (sign signs.OpenParenthesis)) (omega (arith, shallow)) few (λ t h. h),
)
grouped_goes false depth most count after inside ts deep goes go = goes depth ts deep go

expression_goes : (e : Expression) (room : Room) (depth count : ℕ) (ts : List Token) → depth + open_in room e ≤ 32 → count + operators e ≤ 256
    → Goes depth (count + operators e) ts → Goes depth count (expression_tokens room e ts)
expression_goes (core.number n) room depth count ts deep many go = λ now so_far last shallow few safe.
    (λ h. h.0, λ h. h.0, safe (number n), go now so_far (Some (number n)) shallow (omega (arith, few)) (λ t h. h))
expression_goes (core.private x) room depth count ts deep many go = λ now so_far last shallow few safe.
    (λ h. h.0, λ h. h.0, safe (name (private_text x)), go now so_far (Some (name (private_text x))) shallow (omega (arith, few)) (λ t h. h))
expression_goes core.me room depth count ts deep many go = λ now so_far last shallow few safe.
    (λ h. h.0, λ h. h.0, safe (keyword keywords.Me), go now so_far (Some (keyword keywords.Me)) shallow (omega (arith, few)) (λ t h. h))
expression_goes core.nodes room depth count ts deep many go = λ now so_far last shallow few safe.
    (λ h. h.0, λ h. h.0, safe (keyword keywords.Nodes), go now so_far (Some (keyword keywords.Nodes)) shallow (omega (arith, few)) (λ t h. h))
expression_goes (core.binary left o right) room depth count ts deep many go =
    let one = left_room (joins o) in
    let other = right_room (joins o) in
    grouped_goes (is_grouped room (joins o)) depth (max (open_in one left) (open_in other right)) count (count + (1 + (operators left + operators right)))
    (λ us. expression_tokens one left (sign (sign_of o) ∷ expression_tokens other right us)) ts deep
    (λ under us fits goes. expression_goes left one under count (sign (sign_of o) ∷ expression_tokens other right us)
    (omega (arith, fits)) (omega (arith, many))
    (operator_goes o under (count + operators left) (expression_tokens other right us) (omega (arith, many))
    (expression_goes right other under (count + operators left + 1) us (omega (arith, fits)) (omega (arith, many))
    (λ now so_far last shallow few safe. goes now so_far last shallow (omega (arith, few)) safe))))
    go

-- ---- statements

-- nothing is over a limit
abbrev IsNone : (Excess → Type 0) → Type 0
IsNone IsSuch = (x : Excess) → IsSuch x → ⊥

abbrev at : Origin → Limit → Excess
at o limit = record { at = o.statement; limit = limit }

at_most : (a b : ℕ) → (a < b → ⊥) → b ≤ a
at_most a b refused = elim (cases_lt a b) [ inl less ↦ absurd (refused less) | inr is ↦ is ]

value_goes : (privates depth : ℕ) (o : Origin) (e : Expression) (ts : List Token) → IsNone (λ x. IsOf o x × IsOver privates depth e x.limit)
    → Begins depth ts → Goes depth 0 (expression_tokens Whole e ts)
value_goes privates depth o e ts none begins =
    let few = at_most 256 (operators e) (λ h. none (at o Operators) (refl, h)) in
    expression_goes e Whole depth 0 ts (at_most 32 (depth + open_in Whole e) (λ h. none (at o Open) (refl, h))) (omega (arith, few))
    (λ now so_far last shallow less safe. begins now so_far last shallow safe)

-- behind a condition
body_goes : (privates depth : ℕ) (o : Origin) (e : Expression) (ts : List Token)
    → IsNone (λ x. IsOf o x × (IsOver privates depth e x.limit ⊎ IsBlockOver depth x.limit)) → Goes (depth + 1) 0 ts
    → Goes depth 0 (expression_tokens Whole e (sign signs.OpenBrace ∷ ts))
body_goes privates depth o e ts none go =
    value_goes privates depth o e (sign signs.OpenBrace ∷ ts) (λ x h. none x (h.0, inl h.1))
    (brace depth ts (at_most 32 (depth + 1) (λ h. none (at o Open) (refl, inr h))) go)

mutual
  statement_begins : (privates depth : ℕ) (s : Statement) (ts : List Token) → IsNone (IsOverIn privates depth s) → Goes depth 0 ts
      → Begins depth (statement_tokens s ts)
  statement_begins privates depth (core.assign o x value) ts none go =
      name_begins depth (private_text x) (sign signs.Assign ∷ expression_tokens Whole value (sign signs.Semicolon ∷ ts))
      (assigned depth (expression_tokens Whole value (sign signs.Semicolon ∷ ts))
      (value_goes privates depth o value (sign signs.Semicolon ∷ ts) (λ x h. none x (h.0, inr h.1)) (semicolon depth ts go)))
  statement_begins privates depth (core.read o x word) ts none go =
      let behind = expression_tokens Whole word (sign signs.CloseBracket ∷ sign signs.Semicolon ∷ ts) in
      name_begins depth (private_text x) (sign signs.Assign ∷ sign signs.OpenBracket ∷ behind)
      (assigned depth (sign signs.OpenBracket ∷ behind) (goes_on depth (sign signs.OpenBracket ∷ behind)
      (bracket depth behind (value_goes privates depth o word (sign signs.CloseBracket ∷ sign signs.Semicolon ∷ ts) (λ x h. none x (h.0, inr h.1))
      (closed depth (sign signs.Semicolon ∷ ts) (goes_on depth (sign signs.Semicolon ∷ ts) (semicolon depth ts go)))))))
  statement_begins privates depth (core.write o word value) ts none go =
      let behind = expression_tokens Whole value (sign signs.Semicolon ∷ ts) in
      bracket depth (expression_tokens Whole word (sign signs.CloseBracket ∷ sign signs.Assign ∷ behind))
      (value_goes privates depth o word (sign signs.CloseBracket ∷ sign signs.Assign ∷ behind) (λ x h. none x (h.0, inl h.1))
      (closed depth (sign signs.Assign ∷ behind) (goes_on depth (sign signs.Assign ∷ behind)
      (assigned depth behind (value_goes privates depth o value (sign signs.Semicolon ∷ ts) (λ x h. none x (h.0, inr h.1)) (semicolon depth ts go))))))
  statement_begins privates depth (core.acquire o word) ts none go =
      keyword_acquire depth (expression_tokens Whole word (sign signs.Semicolon ∷ ts))
      (value_goes privates depth o word (sign signs.Semicolon ∷ ts) none (semicolon depth ts go))
  statement_begins privates depth (core.release o word) ts none go =
      keyword_release depth (expression_tokens Whole word (sign signs.Semicolon ∷ ts))
      (value_goes privates depth o word (sign signs.Semicolon ∷ ts) none (semicolon depth ts go))
  statement_begins privates depth (core.barrier o) ts none go =
      keyword_barrier depth (sign signs.Semicolon ∷ ts) (goes_on depth (sign signs.Semicolon ∷ ts) (semicolon depth ts go))
  statement_begins privates depth (core.print o value) ts none go =
      keyword_print depth (expression_tokens Whole value (sign signs.Semicolon ∷ ts))
      (value_goes privates depth o value (sign signs.Semicolon ∷ ts) none (semicolon depth ts go))
  statement_begins privates depth (core.if_else o condition first second) ts none go =
      let rest = else_tokens second ts in
      let inside = block_tokens first (sign signs.CloseBrace ∷ rest) in
      keyword_if depth (expression_tokens Whole condition (sign signs.OpenBrace ∷ inside))
      (body_goes privates depth o condition inside (λ x h. none x (inl h))
      (block_goes privates (depth + 1) first (sign signs.CloseBrace ∷ rest) (λ x h. none x (inr (inl h)))
      (goes_on (depth + 1) (sign signs.CloseBrace ∷ rest) (brace_closed depth rest
      (else_goes privates depth second ts (at_most 32 (depth + 1) (λ h. none (at o Open) (inl (refl, inr h)))) (λ x h. none x (inr (inr h))) go)))))
  statement_begins privates depth (core.while_do o condition within) ts none go =
      let inside = block_tokens within (sign signs.CloseBrace ∷ ts) in
      keyword_while depth (expression_tokens Whole condition (sign signs.OpenBrace ∷ inside))
      (body_goes privates depth o condition inside (λ x h. none x (inl h))
      (block_goes privates (depth + 1) within (sign signs.CloseBrace ∷ ts) (λ x h. none x (inr h))
      (goes_on (depth + 1) (sign signs.CloseBrace ∷ ts) (brace_closed depth ts go))))

  else_goes : (privates depth : ℕ) (second : Block) (ts : List Token) → depth + 1 ≤ 32 → IsNone (IsOverInBlock privates (depth + 1) second) → Goes depth 0 ts
      → Goes depth 0 (else_tokens second ts)
  else_goes privates depth empty ts deep none go = go
  else_goes privates depth (next first others) ts deep none go =
      let rest = block_tokens others (sign signs.CloseBrace ∷ ts) in
      let inside = statement_tokens first rest in
      goes_on depth (keyword keywords.Else ∷ sign signs.OpenBrace ∷ inside)
      (keyword_else depth (sign signs.OpenBrace ∷ inside) (goes_on depth (sign signs.OpenBrace ∷ inside) (brace depth inside deep
      (goes_on (depth + 1) inside (statement_begins privates (depth + 1) first rest (λ x h. none x (inl h))
      (block_goes privates (depth + 1) others (sign signs.CloseBrace ∷ ts) (λ x h. none x (inr h))
      (goes_on (depth + 1) (sign signs.CloseBrace ∷ ts) (brace_closed depth ts go))))))))

  block_goes : (privates depth : ℕ) (b : Block) (ts : List Token) → IsNone (IsOverInBlock privates depth b) → Goes depth 0 ts → Goes depth 0 (block_tokens b ts)
  block_goes privates depth empty ts none go = go
  block_goes privates depth (next first others) ts none go =
      goes_on depth (statement_tokens first (block_tokens others ts))
      (statement_begins privates depth first (block_tokens others ts) (λ x h. none x (inl h))
      (block_goes privates depth others ts (λ x h. none x (inr h)) go))

-- ---- programs

-- what stands in front of the statements
heading : (words locks : ℕ) (ts : List Token) → 1 ≤ words → words ≤ 65536 → locks ≤ 64 → Goes 0 0 ts
    → Fine 0 0 None (keyword keywords.Words ∷ number words ∷ sign signs.Semicolon ∷ keyword keywords.Locks ∷ number locks ∷ sign signs.Semicolon ∷ ts)
heading words locks ts some few_words few_locks go =
    let behind = keyword keywords.Locks ∷ number locks ∷ sign signs.Semicolon ∷ ts in
    let second : Begins 0 behind = λ now so_far last shallow safe. (
      λ h. h.0,
      λ h. h.0,
      safe (keyword keywords.Locks),
      (λ h. h.0, λ h. h.0, λ h. omega (arith, h, few_locks), semicolon 0 ts go now 0 (Some (number locks)) shallow (λ t h. h)),
    ) in (
      λ h. h.0,
      λ h. h.0,
      λ h. h,
      (
        λ h. h.0,
        λ h. h.0,
        λ h. elim h [ inl low ↦ omega (arith, low, some) | inr high ↦ omega (arith, high, few_words) ],
        semicolon 0 behind (goes_on 0 behind second) 0 0 (Some (number words)) (omega arith) (λ t h. h),
      ),
    )

pub program_fine : (words locks privates : ℕ) (b : Block) → 1 ≤ words → words ≤ 65536 → locks ≤ 64 → IsNone (IsOverInBlock privates 0 b)
    → Fine 0 0 None (program_tokens words locks b)
program_fine words locks privates b some few_words few_locks none =
    heading words locks (block_tokens b (finish ∷ [])) some few_words few_locks (block_goes privates 0 b (finish ∷ []) none (goes_on 0 (finish ∷ []) finished))
