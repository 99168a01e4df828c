-- Names by their first place: the number of a name is the same at its first place and at all later ones.
use Rattle.std.proofs.Common.{◌≡◌, ℕ, ◌+◌, ◌<◌, suc, Bool, true, false, not, cond, eqb, List, [], ◌∷◌, ◌++◌, length, map, refl, sym, ap, ap₂, subst, arith, ◌∙◌}
use Rattle.std.specs.Prelude.{◌||◌, if◌then◌else◌}
use Rattle.std.specs.Bool.{Decides}
use Rattle.std.specs.List.{list_any}
use Rattle.std.specs.Str.{bytes_eq}
use Rattle.std.proofs.lemmas.Bool.{eq-eqb, ne_eqb}
use Rattle.std.proofs.lemmas.List.Folds.{position_or_len_push}
use Rattle.std.proofs.lemmas.Slice.Eq.{bytes_eq-Decides}
use Rattle.lrc_lang.specs.Token.{Token, name, number, keyword, sign, finish}
use Rattle.lrc_lang.specs.Symbol.{Names, Symbol, is_among, names_with, number_of, symbol_of, symbols_after}
use Rattle.lrc_named_core.specs.Tree.{Expression, Statement, Block, empty, next}
use Rattle.lrc_named_core.specs.Tree as core
use Rattle.lrc_named_text.specs.Expressions.{is_grouped, left_room, right_room}
use Rattle.lrc_lang.specs.Grammar.{joins}
use Rattle.lrc_lang.specs.declared.token.Keyword.TheVariants as keywords
use Rattle.lrc_lang.specs.declared.token.Sign.TheVariants as signs
use Rattle.lrc_named_text.specs.declared.expression.Room.{Room}
use Rattle.lrc_named_text.specs.declared.expression.Room.TheVariants.{Whole}
use Rattle.lrc_named_text_laws.specs.Named.{with_expression, with_statement, with_statements}
use Rattle.lrc_named_text_laws.proofs.Tokens.{block_tokens, else_tokens, expression_tokens, grouped_tokens, sign_of, statement_tokens}

-- the names once all of these tokens have come
abbrev pub all_names : Names → List Token → Names
all_names names [] = names
all_names names (t ∷ ts) = all_names (names_with names t) ts

-- ---- one name more

abbrev same : List ℕ → List ℕ → Bool
same bytes other = bytes_eq other bytes

-- one that is among them has its place there
step_below : (b : Bool) (n len : ℕ) → (b ≡ false → n < len) → cond (not b) (1 + n) 0 < suc len
step_below true n len rest = omega arith
step_below false n len rest = let h = rest refl in omega (arith, h)

among_below : (names : Names) (bytes : List ℕ) → is_among names bytes ≡ true → number_of names bytes < length names
among_below [] bytes is = absurd (cc)
among_below (x ∷ names) bytes is =
    step_below (bytes_eq x bytes) (number_of names bytes) (length names)
    (λ off. among_below names bytes (ap (λ c. c || list_any (λ other. bytes_eq other bytes) names) (sym off) ∙ is))

neither : (a b : Bool) → (a || b) ≡ false → (a ≡ false) × (b ≡ false)
neither true b is = absurd (cc)
neither false b is = (refl, is)

step_not : (b : Bool) (n len : ℕ) → b ≡ false → n ≡ len → cond (not b) (1 + n) 0 ≡ suc len
step_not true n len off e = absurd (cc)
step_not false n len off e = omega (arith, e)

among_not : (names : Names) (bytes : List ℕ) → is_among names bytes ≡ false → number_of names bytes ≡ length names
among_not [] bytes is = refl
among_not (x ∷ names) bytes is =
    let off = neither (bytes_eq x bytes) (list_any (λ other. bytes_eq other bytes) names) is in
    step_not (bytes_eq x bytes) (number_of names bytes) (length names) off.0 (among_not names bytes off.1)

step_any : (b l m : Bool) → (b || l) ≡ true → (l ≡ true → m ≡ true) → (b || m) ≡ true
step_any true l m is rest = refl
step_any false l m is rest = rest is

any_push : (names : Names) (bytes new : List ℕ) → is_among names bytes ≡ true → is_among (names ++ new ∷ []) bytes ≡ true
any_push [] bytes new is = absurd (cc)
any_push (x ∷ names) bytes new is =
    step_any (bytes_eq x bytes) (is_among names bytes) (is_among (names ++ new ∷ []) bytes) is (λ h. any_push names bytes new h)

same_itself : (bytes : List ℕ) → bytes_eq bytes bytes ≡ true
same_itself bytes = by (bytes_eq bytes bytes) (bytes_eq-Decides bytes bytes)
  where
    by : (b : Bool) → Decides b (bytes ≡ bytes) → b ≡ true
    by true d = refl
    by false d = d.1 refl

or_right : (b m : Bool) → m ≡ true → (b || m) ≡ true
or_right true m is = refl
or_right false m is = is

among_itself : (names : Names) (bytes : List ℕ) → is_among (names ++ bytes ∷ []) bytes ≡ true
among_itself [] bytes = ap (λ b. b || false) (same_itself bytes)
among_itself (x ∷ names) bytes = or_right (bytes_eq x bytes) (is_among (names ++ bytes ∷ []) bytes) (among_itself names bytes)

-- a name that is among them keeps its number
stays_pushed : (names : Names) (bytes new : List ℕ) → is_among names bytes ≡ true → number_of (names ++ new ∷ []) bytes ≡ number_of names bytes
stays_pushed names bytes new is =
    let below = among_below names bytes is in
    let off : eqb (number_of names bytes) (length names) ≡ false = ne_eqb (number_of names bytes) (length names) (λ e. omega (arith, e, below)) in
    position_or_len_push (same bytes) names new
    ∙ ap (λ b. cond b (length names + cond (same bytes new) 0 1) (number_of names bytes)) off

-- ---- one token more

abbrev IsKnown : Names → List ℕ → Type 0
IsKnown names bytes = is_among names bytes ≡ true

pushed : (names : Names) (bytes new : List ℕ) (b : Bool) → IsKnown names bytes
    → IsKnown (if b then names else names ++ new ∷ []) bytes × (number_of (if b then names else names ++ new ∷ []) bytes ≡ number_of names bytes)
pushed names bytes new true known = (known, refl)
pushed names bytes new false known = (any_push names bytes new known, stays_pushed names bytes new known)

one_more : (names : Names) (bytes : List ℕ) (t : Token) → IsKnown names bytes
    → IsKnown (names_with names t) bytes × (number_of (names_with names t) bytes ≡ number_of names bytes)
one_more names bytes (number n) known = (known, refl)
one_more names bytes (name new) known = pushed names bytes new (is_among names new) known
one_more names bytes (keyword which) known = (known, refl)
one_more names bytes (sign mark) known = (known, refl)
one_more names bytes finish known = (known, refl)

more : (ts : List Token) (names : Names) (bytes : List ℕ) → IsKnown names bytes → number_of (all_names names ts) bytes ≡ number_of names bytes
more [] names bytes known = refl
more (t ∷ ts) names bytes known = let one = one_more names bytes t known in more ts (names_with names t) bytes one.0 ∙ one.1

-- a name that has just come
just_come : (names : Names) (bytes : List ℕ) (b : Bool) → is_among names bytes ≡ b
    → IsKnown (if b then names else names ++ bytes ∷ []) bytes × (number_of (if b then names else names ++ bytes ∷ []) bytes ≡ number_of names bytes)
just_come names bytes true is = (is, refl)
just_come names bytes false is =
    let last = among_not names bytes is in
    let at_end : eqb (number_of names bytes) (length names) ≡ true = ap (λ n. eqb n (length names)) last ∙ eq-eqb (length names) (length names) refl in (
      among_itself names bytes,
      position_or_len_push (same bytes) names bytes
          ∙ ap₂ (λ b c. cond b (length names + cond c 0 1) (number_of names bytes)) at_end (same_itself bytes)
          ∙ (let e = last in omega (arith, e)),
    )

symbol_stays : (t : Token) (ts : List Token) (names : Names) → symbol_of names t ≡ symbol_of (all_names (names_with names t) ts) t
symbol_stays (number n) ts names = refl
symbol_stays (name bytes) ts names =
    let one = just_come names bytes (is_among names bytes) refl in
    ap Symbol.name (sym (more ts (names_with names (name bytes)) bytes one.0 ∙ one.1))
symbol_stays (keyword which) ts names = refl
symbol_stays (sign mark) ts names = refl
symbol_stays finish ts names = refl

-- the symbols of tokens, by the names of all of them
pub by_all : (ts : List Token) (names : Names) → symbols_after names ts ≡ map (symbol_of (all_names names ts)) ts
by_all [] names = refl
by_all (t ∷ ts) names = ap₂ ◌∷◌ (symbol_stays t ts names) (by_all ts (names_with names t))

-- ---- the names of a core

grouped_names : (b : Bool) (inside : List Token → List Token) (names other : Names) (ts : List Token)
    → ((us : List Token) → all_names names (inside us) ≡ all_names other us) → all_names names (grouped_tokens b inside ts) ≡ all_names other ts
grouped_names true inside names other ts h = h (sign signs.CloseParenthesis ∷ ts)
grouped_names false inside names other ts h = h ts

pub expression_names : (e : Expression) (room : Room) (names : Names) (ts : List Token)
    → all_names names (expression_tokens room e ts) ≡ all_names (with_expression names e) ts
expression_names (core.number n) room names ts = refl
expression_names (core.private x) room names ts = refl
expression_names core.me room names ts = refl
expression_names core.nodes room names ts = refl
expression_names (core.binary left o right) room names ts =
    grouped_names (is_grouped room (joins o))
    (λ us. expression_tokens (left_room (joins o)) left (sign (sign_of o) ∷ expression_tokens (right_room (joins o)) right us)) names
    (with_expression (with_expression names left) right) ts
    (λ us. expression_names left (left_room (joins o)) names (sign (sign_of o) ∷ expression_tokens (right_room (joins o)) right us)
    ∙ expression_names right (right_room (joins o)) (with_expression names left) us)

mutual
  statement_names : (s : Statement) (names : Names) (ts : List Token) → all_names names (statement_tokens s ts) ≡ all_names (with_statement names s) ts
  statement_names (core.assign origin x value) names ts = expression_names value Whole _ (sign signs.Semicolon ∷ ts)
  statement_names (core.read origin x word) names ts = expression_names word Whole _ (sign signs.CloseBracket ∷ sign signs.Semicolon ∷ ts)
  statement_names (core.write origin word value) names ts =
      expression_names word Whole names (sign signs.CloseBracket ∷ sign signs.Assign ∷ expression_tokens Whole value (sign signs.Semicolon ∷ ts))
      ∙ expression_names value Whole (with_expression names word) (sign signs.Semicolon ∷ ts)
  statement_names (core.acquire origin word) names ts = expression_names word Whole names (sign signs.Semicolon ∷ ts)
  statement_names (core.release origin word) names ts = expression_names word Whole names (sign signs.Semicolon ∷ ts)
  statement_names (core.barrier origin) names ts = refl
  statement_names (core.print origin value) names ts = expression_names value Whole names (sign signs.Semicolon ∷ ts)
  statement_names (core.if_else origin condition first second) names ts =
      expression_names condition Whole names (sign signs.OpenBrace ∷ block_tokens first (sign signs.CloseBrace ∷ else_tokens second ts))
      ∙ block_names first (with_expression names condition) (sign signs.CloseBrace ∷ else_tokens second ts)
      ∙ else_names second (with_statements (with_expression names condition) first) ts
  statement_names (core.while_do origin condition inside) names ts =
      expression_names condition Whole names (sign signs.OpenBrace ∷ block_tokens inside (sign signs.CloseBrace ∷ ts))
      ∙ block_names inside (with_expression names condition) (sign signs.CloseBrace ∷ ts)

  else_names : (second : Block) (names : Names) (ts : List Token) → all_names names (else_tokens second ts) ≡ all_names (with_statements names second) ts
  else_names empty names ts = refl
  else_names (next first others) names ts =
      statement_names first names (block_tokens others (sign signs.CloseBrace ∷ ts)) ∙ block_names others (with_statement names first) (sign signs.CloseBrace ∷ ts)

  pub block_names : (b : Block) (names : Names) (ts : List Token) → all_names names (block_tokens b ts) ≡ all_names (with_statements names b) ts
  block_names empty names ts = refl
  block_names (next first others) names ts =
      statement_names first names (block_tokens others ts) ∙ block_names others (with_statement names first) ts
