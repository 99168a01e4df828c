-- What stands in the text of a core: its tokens.
use Rattle.std.proofs.Common.{◌≡◌, ◌⊎◌, inl, inr, ltb, zero, suc, ℕ, ◌+◌, ◌-◌, ◌<◌, ◌≤◌, Bool, true, false, List, [], ◌∷◌, ◌++◌, length, refl, sym, ap, subst, arith, ◌∙◌}
use Rattle.std.specs.Prelude.{codes, decimal, slice_index}
use Rattle.std.specs.List.{All, AllByRecursion, flat_map, list_all}
use Rattle.std.proofs.lemmas.Bool.{and_parts, ltb-true}
use Rattle.std.proofs.lemmas.List.{append-nil, append_assoc}
use Rattle.std.proofs.lemmas.List.Elements.{All-append, All-cons, All-head, All-nil, All-tail}
use Rattle.lrc_lang.specs.Lexemes.{BeginsWith, IsDigit, IsLetter, IsLetterOrDigit, IsWithinLine, keyword_text, sign_text}
use Rattle.lrc_lang.specs.Token.{Token, number, name, keyword, sign, finish}
use Rattle.lrc_lang.specs.Grammar.{Joins, joins}
use Rattle.lrc_program.specs.declared.Operator.{Operator}
use Rattle.lrc_program.specs.declared.Operator.TheVariants.{Add, Subtract, Multiply, Divide, Remainder, Equal, NotEqual, Less, LessOrEqual, Greater, GreaterOrEqual}
use Rattle.lrc_lang.specs.declared.token.Keyword.{Keyword}
use Rattle.lrc_lang.specs.declared.token.Keyword.TheVariants as keywords
use Rattle.lrc_lang.specs.declared.token.Sign.{Sign}
use Rattle.lrc_lang.specs.declared.token.Sign.TheVariants as signs
use Rattle.lrc_named_core.specs.Tree.{Private, named, own, Expression, Origin, Statement, Block, empty, next}
use Rattle.lrc_named_core.specs.Tree as core
use Rattle.lrc_named_names.specs.Names.{Declared, Meaning, constant, function, lock, shared}
use Rattle.lrc_named_names.specs.Elements.{elements}
use Rattle.lrc_named_text.specs.Expressions.{expression_text, grouped, is_grouped, left_room, operator_text, private_text, right_room}
use Rattle.lrc_named_text.specs.Labels.{item_text, label_text, labels_text, sizes_text}
use Rattle.lrc_named_text.specs.Statements.{block_text, core_text, deeper, else_text, line_text, statement_text}
use Rattle.lrc_named_text.specs.declared.expression.Room.{Room}
use Rattle.lrc_named_text.specs.declared.expression.Room.TheVariants.{Whole}
use Rattle.lrc_named_text_laws.specs.Spelled.{AreLabelled, AreSpelled, Fits, IsLabelled, IsLabelledAs, IsName, IsSpelled, IsSpelledName, IsSpelledStatement}
use Rattle.lrc_named_text_laws.proofs.Lexing.{IsCalm, Stands, begins_behind, begins_digit, begins_weaker, blank, calm, comment, digits, ended, feed, long, numbered, own_is_name, short, word}
use Rattle.lrc_named_text_laws.proofs.Lexing as lexing
use Rattle.lrc_named_text_laws.proofs.Tokens.{block_tokens, else_tokens, expression_tokens, grouped_tokens, program_tokens, sign_of, statement_tokens}

calm_blank : (rest : List ℕ) → IsCalm (32 ∷ rest)
calm_blank rest = calm 32 rest (inl (omega arith))

calm_end : (rest : List ℕ) → IsCalm (59 ∷ rest)
calm_end rest = calm 59 rest (inr (inl (omega arith, omega arith)))

calm_bracket : (rest : List ℕ) → IsCalm (93 ∷ rest)
calm_bracket rest = calm 93 rest (inr (inr (inl (omega arith, omega arith))))

calm_close : (rest : List ℕ) → IsCalm (41 ∷ rest)
calm_close rest = calm 41 rest (inl (omega arith))

calm_feed : (rest : List ℕ) → IsCalm (10 ∷ rest)
calm_feed rest = calm 10 rest (inl (omega arith))

-- ---- names

name_begins : (x : Private) → IsSpelledName x → BeginsWith IsLetter (private_text x)
name_begins (named bytes) is = is.begins
name_begins (own k first last) is = (own_is_name k is).begins

private_stands : (x : Private) (rest : List ℕ) {ts : List Token} → IsSpelledName x → IsCalm rest → Stands rest ts → Stands (private_text x ++ rest) (name (private_text x) ∷ ts)
private_stands (named bytes) rest is free h = lexing.named bytes rest is free h
private_stands (own k first last) rest is free h = lexing.named (codes "_" ++ decimal k) rest (own_is_name k is) free h

-- ---- operators

operator_stands : (o : Operator) (rest : List ℕ) {ts : List Token} → Stands rest ts → Stands (32 ∷ (operator_text o ++ 32 ∷ rest)) (sign (sign_of o) ∷ ts)
operator_stands Add rest h = blank (short signs.Plus 43 (32 ∷ rest) refl (calm_blank rest).no_sign_goes_on (blank h))
operator_stands Subtract rest h = blank (short signs.Minus 45 (32 ∷ rest) refl (calm_blank rest).no_sign_goes_on (blank h))
operator_stands Multiply rest h = blank (short signs.Star 42 (32 ∷ rest) refl (calm_blank rest).no_sign_goes_on (blank h))
operator_stands Divide rest h = blank (short signs.Slash 47 (32 ∷ rest) refl (calm_blank rest).no_sign_goes_on (blank h))
operator_stands Remainder rest h = blank (short signs.Percent 37 (32 ∷ rest) refl (calm_blank rest).no_sign_goes_on (blank h))
operator_stands Equal rest h = blank (long signs.Equal 61 (32 ∷ rest) refl (blank h))
operator_stands NotEqual rest h = blank (long signs.NotEqual 33 (32 ∷ rest) refl (blank h))
operator_stands Less rest h = blank (short signs.Less 60 (32 ∷ rest) refl (calm_blank rest).no_sign_goes_on (blank h))
operator_stands LessOrEqual rest h = blank (long signs.LessOrEqual 60 (32 ∷ rest) refl (blank h))
operator_stands Greater rest h = blank (short signs.Greater 62 (32 ∷ rest) refl (calm_blank rest).no_sign_goes_on (blank h))
operator_stands GreaterOrEqual rest h = blank (long signs.GreaterOrEqual 62 (32 ∷ rest) refl (blank h))

-- ---- expressions

-- what an expression begins with: a byte of a word, or `(`
abbrev Opens : ℕ → Type 0
Opens b = IsLetterOrDigit b ⊎ (b ≡ 40)

abbrev inner_text : Expression → Operator → Expression → List ℕ
inner_text left o right =
    expression_text (left_room (joins o)) left ++ codes " " ++ operator_text o ++ codes " " ++ expression_text (right_room (joins o)) right

inner_is : (l o r rest : List ℕ) → l ++ codes " " ++ o ++ codes " " ++ r ++ rest ≡ l ++ (32 ∷ (o ++ 32 ∷ (r ++ rest)))
inner_is l o r rest =
    append_assoc (l ++ codes " " ++ o ++ codes " ") r rest ∙ append_assoc (l ++ codes " " ++ o) (codes " ") (r ++ rest)
    ∙ append_assoc (l ++ codes " ") o (32 ∷ (r ++ rest)) ∙ append_assoc l (codes " ") (o ++ 32 ∷ (r ++ rest))

grouped_is : (text rest : List ℕ) → codes "(" ++ text ++ codes ")" ++ rest ≡ 40 ∷ (text ++ 41 ∷ rest)
grouped_is text rest = append_assoc (codes "(" ++ text) (codes ")") rest

opens_grouped : (b : Bool) (text rest : List ℕ) → BeginsWith Opens (text ++ rest) → BeginsWith Opens (grouped b text ++ rest)
opens_grouped true text rest h = inr refl
opens_grouped false text rest h = h

opens : (e : Expression) (room : Room) (rest : List ℕ) → IsSpelled e → BeginsWith Opens (expression_text room e ++ rest)
opens (core.number n) room rest is = begins_weaker IsDigit Opens (λ b d. inl (inr d)) (decimal n ++ rest) (begins_digit n rest is)
opens (core.private x) room rest is =
    begins_weaker IsLetter Opens (λ b l. inl (inl l)) (private_text x ++ rest) (begins_behind IsLetter (private_text x) rest (name_begins x is))
opens core.me room rest is = inl (inl (inr (inl (omega arith, omega arith))))
opens core.nodes room rest is = inl (inl (inr (inl (omega arith, omega arith))))
opens (core.binary left o right) room rest is =
    let inside =
    opens left (left_room (joins o)) (32 ∷ (operator_text o ++ 32 ∷ (expression_text (right_room (joins o)) right ++ rest))) is.0 in
    opens_grouped (is_grouped room (joins o)) (inner_text left o right) rest
    (subst (BeginsWith Opens)
    (sym (inner_is (expression_text (left_room (joins o)) left) (operator_text o) (expression_text (right_room (joins o)) right) rest)) inside)

opens_no_equal : (text : List ℕ) → BeginsWith Opens text → ¬ BeginsWith (λ b. b ≡ 61) text
opens_no_equal [] h e = h
opens_no_equal (b ∷ text) (inl (inl (inl h))) e = omega (arith, h.0, e)
opens_no_equal (b ∷ text) (inl (inl (inr (inl h)))) e = omega (arith, h.0, e)
opens_no_equal (b ∷ text) (inl (inl (inr (inr h)))) e = omega (arith, h, e)
opens_no_equal (b ∷ text) (inl (inr h)) e = omega (arith, h.1, e)
opens_no_equal (b ∷ text) (inr h) e = omega (arith, h, e)

group_stands : (b : Bool) (text rest : List ℕ) (inside : List Token → List Token) {ts : List Token} → IsCalm rest
    → ((behind : List ℕ) → BeginsWith Opens (text ++ behind))
    → ((behind : List ℕ) (us : List Token) → IsCalm behind → Stands behind us → Stands (text ++ behind) (inside us))
    → Stands rest ts → Stands (grouped b text ++ rest) (grouped_tokens b inside ts)
group_stands true text rest inside {ts} free begins stands h =
    subst (λ l. Stands l (grouped_tokens true inside ts)) (sym (grouped_is text rest))
    (short signs.OpenParenthesis 40 (text ++ 41 ∷ rest) refl (opens_no_equal (text ++ 41 ∷ rest) (begins (41 ∷ rest)))
    (stands (41 ∷ rest) (sign signs.CloseParenthesis ∷ ts) (calm_close rest) (short signs.CloseParenthesis 41 rest refl free.no_sign_goes_on h)))
group_stands false text rest inside {ts} free begins stands h = stands rest ts free h

pub expression_stands : (e : Expression) (room : Room) (rest : List ℕ) {ts : List Token} → IsSpelled e → IsCalm rest → Stands rest ts
    → Stands (expression_text room e ++ rest) (expression_tokens room e ts)
expression_stands (core.number n) room rest is free h = numbered n rest is free h
expression_stands (core.private x) room rest is free h = private_stands x rest is free h
expression_stands core.me room rest is free h = word keywords.Me rest free h
expression_stands core.nodes room rest is free h = word keywords.Nodes rest free h
expression_stands (core.binary left o right) room rest is free h =
    group_stands (is_grouped room (joins o)) (inner_text left o right) rest
    (λ us. expression_tokens (left_room (joins o)) left (sign (sign_of o) ∷ expression_tokens (right_room (joins o)) right us)) free
    (λ behind. subst (BeginsWith Opens)
    (sym (inner_is (expression_text (left_room (joins o)) left) (operator_text o) (expression_text (right_room (joins o)) right) behind))
    (opens left (left_room (joins o)) (32 ∷ (operator_text o ++ 32 ∷ (expression_text (right_room (joins o)) right ++ behind))) is.0))
    (λ behind us calm_behind k. subst
    (λ l. Stands l (expression_tokens (left_room (joins o)) left (sign (sign_of o) ∷ expression_tokens (right_room (joins o)) right us)))
    (sym (inner_is (expression_text (left_room (joins o)) left) (operator_text o) (expression_text (right_room (joins o)) right) behind))
    (expression_stands left (left_room (joins o)) (32 ∷ (operator_text o ++ 32 ∷ (expression_text (right_room (joins o)) right ++ behind))) is.0
    (calm_blank (operator_text o ++ 32 ∷ (expression_text (right_room (joins o)) right ++ behind)))
    (operator_stands o (expression_text (right_room (joins o)) right ++ behind) (expression_stands right (right_room (joins o)) behind is.1 calm_behind k))))
    h

-- a sign behind which a whole expression comes
before_expression : (mark : Sign) (byte : ℕ) (e : Expression) (rest : List ℕ) {ts : List Token} → IsSpelled e → sign_text mark ≡ byte ∷ [] → Stands (expression_text Whole e ++ rest) ts
    → Stands (byte ∷ (expression_text Whole e ++ rest)) (sign mark ∷ ts)
before_expression mark byte e rest is kind h = short mark byte (expression_text Whole e ++ rest) kind (opens_no_equal (expression_text Whole e ++ rest) (opens e Whole rest is)) h

-- `;` and what stands behind it
semicolon : (rest : List ℕ) {ts : List Token} → ¬ BeginsWith (λ b. b ≡ 61) rest → Stands rest ts → Stands (59 ∷ rest) (sign signs.Semicolon ∷ ts)
semicolon rest free h = short signs.Semicolon 59 rest refl free h

-- ---- ends of lines

no_feed_digit : (b : ℕ) → IsDigit b → IsWithinLine b
no_feed_digit b d feed = omega (arith, d.0, feed)

no_feed_name : (b : ℕ) → IsLetterOrDigit b → IsWithinLine b
no_feed_name b (inl (inl h)) is = omega (arith, h.0, is)
no_feed_name b (inl (inr (inl h))) is = omega (arith, h.0, is)
no_feed_name b (inl (inr (inr h))) is = omega (arith, h, is)
no_feed_name b (inr h) is = omega (arith, h.0, is)

all_such : {P Q : ℕ → Type 0} → ((b : ℕ) → P b → Q b) → (text : List ℕ) → All P text → All Q text
all_such {P} {Q} f [] all = All-nil Q
all_such {P} {Q} f (b ∷ text) all = All-cons Q b text (f b (All-head P b text all)) (all_such f text (All-tail P b text all))

within_number : (n : ℕ) → Fits n → All IsWithinLine (decimal n)
within_number n small = all_such {P = IsDigit} {Q = IsWithinLine} no_feed_digit (decimal n) (digits n small)

-- literal bytes above the line feed
above : List ℕ → Bool
above text = list_all (λ b. ltb 10 b) text

within_literal : (text : List ℕ) → above text ≡ true → All IsWithinLine text
unfolding above
within_literal [] is = All-nil IsWithinLine
within_literal (b ∷ text) is =
    let parts = and_parts (ltb 10 b) (list_all (λ c. ltb 10 c) text) is in
    let high = ltb-true 10 b parts.0 in
    All-cons IsWithinLine b text (λ feed. omega (arith, high, feed)) (within_literal text parts.1)

line_at : (lines : List ℕ) (k : ℕ) → AllByRecursion Fits lines → Fits (slice_index lines k)
line_at [] k all = omega arith
line_at (l ∷ lines) zero all = all.0
line_at (l ∷ lines) (suc k) all = line_at lines k all.1

line_stands : (lines : List ℕ) (origin : Origin) (rest : List ℕ) {ts : List Token} → AllByRecursion Fits lines → Stands rest ts
    → Stands (line_text lines origin ++ rest) ts
unfolding above
line_stands lines origin rest {ts} fit h =
    let n = slice_index lines origin.line in
    subst (λ l. Stands l ts) (sym (append_assoc (codes "  # line " ++ decimal n) (codes "\n") rest))
    (blank (blank (subst (λ l. Stands (35 ∷ l) ts) (append_assoc (codes " line ") (decimal n) (10 ∷ rest) ∙ refl)
    (comment (codes " line " ++ decimal n) rest
    (All-append IsWithinLine (codes " line ") (decimal n) (within_literal (codes " line ") refl) (within_number n (line_at lines origin.line fit))) (feed h)))))

-- ---- statements

-- blanks in front of a line are passed over
pub record Passes (indent : List ℕ) : Type 0 where
  pub over : (rest : List ℕ) (ts : List Token) → Stands rest ts → Stands (indent ++ rest) ts
  pub apart : (rest : List ℕ) → ¬ BeginsWith (λ b. b ≡ 61) rest → ¬ BeginsWith (λ b. b ≡ 61) (indent ++ rest)

pub passes_none : Passes []
passes_none = record { over = λ rest ts h. h; apart = λ rest free. free }

pub passes_deeper : (indent : List ℕ) → Passes indent → Passes (deeper indent)
passes_deeper indent p = record {
  over = λ rest ts h. subst (λ l. Stands l ts) (sym (append_assoc indent (codes "    ") rest)) (p.over (codes "    " ++ rest) ts (blank (blank (blank (blank h)))));
  apart = λ rest free. subst (λ l. ¬ BeginsWith (λ b. b ≡ 61) l) (sym (append_assoc indent (codes "    ") rest))
      (p.apart (codes "    " ++ rest) (calm_blank (codes "   " ++ rest)).no_sign_goes_on);
}

line_calm : (lines : List ℕ) (origin : Origin) (rest : List ℕ) → ¬ BeginsWith (λ b. b ≡ 61) (line_text lines origin ++ rest)
line_calm lines origin rest =
    let n = slice_index lines origin.line in
    subst (λ l. ¬ BeginsWith (λ b. b ≡ 61) l) (sym (append_assoc (codes "  # line " ++ decimal n) (codes "\n") rest))
    (calm_blank (codes " # line " ++ decimal n ++ codes "\n" ++ rest)).no_sign_goes_on

-- a whole expression, `;` and the end of the line
ending : (lines : List ℕ) (origin : Origin) (e : Expression) (rest : List ℕ) {ts : List Token} → AllByRecursion Fits lines → IsSpelled e → Stands rest ts
    → Stands (expression_text Whole e ++ 59 ∷ (line_text lines origin ++ rest)) (expression_tokens Whole e (sign signs.Semicolon ∷ ts))
ending lines origin e rest fit is h =
    expression_stands e Whole (59 ∷ (line_text lines origin ++ rest)) is (calm_end (line_text lines origin ++ rest))
    (semicolon (line_text lines origin ++ rest) (line_calm lines origin rest) (line_stands lines origin rest fit h))

-- the same behind a keyword and a blank
keyword_line : (which : Keyword) (lines : List ℕ) (origin : Origin) (e : Expression) (rest : List ℕ) {ts : List Token} → AllByRecursion Fits lines → IsSpelled e
    → Stands rest ts → Stands (keyword_text which ++ 32 ∷ (expression_text Whole e ++ 59 ∷ (line_text lines origin ++ rest)))
    (keyword which ∷ expression_tokens Whole e (sign signs.Semicolon ∷ ts))
keyword_line which lines origin e rest fit is h =
    word which (32 ∷ (expression_text Whole e ++ 59 ∷ (line_text lines origin ++ rest))) (calm_blank (expression_text Whole e ++ 59 ∷ (line_text lines origin ++ rest)))
    (blank (ending lines origin e rest fit is h))

-- a condition and `{`
head_line : (which : Keyword) (lines : List ℕ) (origin : Origin) (e : Expression) (rest : List ℕ) {ts : List Token} → AllByRecursion Fits lines → IsSpelled e
    → Stands rest ts → Stands (keyword_text which ++ 32 ∷ (expression_text Whole e ++ 32 ∷ 123 ∷ (line_text lines origin ++ rest)))
    (keyword which ∷ expression_tokens Whole e (sign signs.OpenBrace ∷ ts))
head_line which lines origin e rest fit is h =
    word which (32 ∷ (expression_text Whole e ++ 32 ∷ 123 ∷ (line_text lines origin ++ rest)))
    (calm_blank (expression_text Whole e ++ 32 ∷ 123 ∷ (line_text lines origin ++ rest)))
    (blank (expression_stands e Whole (32 ∷ 123 ∷ (line_text lines origin ++ rest)) is (calm_blank (123 ∷ (line_text lines origin ++ rest)))
    (blank (short signs.OpenBrace 123 (line_text lines origin ++ rest) refl (line_calm lines origin rest) (line_stands lines origin rest fit h)))))

-- ` = ` behind what is set
assign_sign : (rest : List ℕ) {ts : List Token} → Stands rest ts → Stands (32 ∷ 61 ∷ 32 ∷ rest) (sign signs.Assign ∷ ts)
assign_sign rest h = blank (short signs.Assign 61 (32 ∷ rest) refl (calm_blank rest).no_sign_goes_on (blank h))

closing : (rest : List ℕ) {ts : List Token} → ¬ BeginsWith (λ b. b ≡ 61) rest → Stands rest ts → Stands (125 ∷ rest) (sign signs.CloseBrace ∷ ts)
closing rest free h = short signs.CloseBrace 125 rest refl free h

-- ---- texts one behind the other

three : (a e b x : List ℕ) → a ++ e ++ b ++ x ≡ a ++ (e ++ (b ++ x))
three a e b x = append_assoc (a ++ e) b x ∙ append_assoc a e (b ++ x)

four : (p a e b x : List ℕ) → p ++ a ++ e ++ b ++ x ≡ p ++ (a ++ (e ++ (b ++ x)))
four p a e b x = append_assoc (p ++ a ++ e) b x ∙ three p a e (b ++ x)

five : (q p a e b x : List ℕ) → q ++ p ++ a ++ e ++ b ++ x ≡ q ++ (p ++ (a ++ (e ++ (b ++ x))))
five q p a e b x = append_assoc (q ++ p ++ a ++ e) b x ∙ four q p a e (b ++ x)

-- a line: blanks, words and its end
line_is : (i s l rest words : List ℕ) → s ++ (l ++ rest) ≡ words → i ++ s ++ l ++ rest ≡ i ++ words
line_is i s l rest words is = append_assoc (i ++ s) l rest ∙ append_assoc i s (l ++ rest) ∙ ap (λ x. i ++ x) is

-- a choice, and a loop
choice_is : (i h l a e b j c rest : List ℕ) → i ++ h ++ l ++ a ++ e ++ b ++ j ++ c ++ rest ≡ i ++ (h ++ (l ++ (a ++ (e ++ (b ++ (j ++ (c ++ rest)))))))
choice_is i h l a e b j c rest =
    append_assoc (i ++ h ++ l ++ a ++ e ++ b ++ j) c rest ∙ append_assoc (i ++ h ++ l ++ a ++ e ++ b) j (c ++ rest)
    ∙ append_assoc (i ++ h ++ l ++ a ++ e) b (j ++ (c ++ rest)) ∙ append_assoc (i ++ h ++ l ++ a) e (b ++ (j ++ (c ++ rest)))
    ∙ append_assoc (i ++ h ++ l) a (e ++ (b ++ (j ++ (c ++ rest)))) ∙ append_assoc (i ++ h) l (a ++ (e ++ (b ++ (j ++ (c ++ rest)))))
    ∙ append_assoc i h (l ++ (a ++ (e ++ (b ++ (j ++ (c ++ rest))))))

loop_is : (i h l a j c rest : List ℕ) → i ++ h ++ l ++ a ++ j ++ c ++ rest ≡ i ++ (h ++ (l ++ (a ++ (j ++ (c ++ rest)))))
loop_is i h l a j c rest =
    append_assoc (i ++ h ++ l ++ a ++ j) c rest ∙ append_assoc (i ++ h ++ l ++ a) j (c ++ rest) ∙ append_assoc (i ++ h ++ l) a (j ++ (c ++ rest))
    ∙ append_assoc (i ++ h) l (a ++ (j ++ (c ++ rest))) ∙ append_assoc i h (l ++ (a ++ (j ++ (c ++ rest))))

module _ (lines : List ℕ) (fit : AllByRecursion Fits lines) where
  -- what begins with a name and ` = `
  name_line : (x : Private) (rest : List ℕ) {ts : List Token} → IsSpelledName x → Stands rest ts
      → Stands (private_text x ++ 32 ∷ 61 ∷ 32 ∷ rest) (name (private_text x) ∷ sign signs.Assign ∷ ts)
  name_line x rest is h = private_stands x (32 ∷ 61 ∷ 32 ∷ rest) is (calm_blank (61 ∷ 32 ∷ rest)) (assign_sign rest h)

  -- a word in brackets
  bracketed : (e : Expression) (rest : List ℕ) {ts : List Token} → IsSpelled e → ¬ BeginsWith (λ b. b ≡ 61) rest → Stands rest ts
      → Stands (91 ∷ (expression_text Whole e ++ 93 ∷ rest)) (sign signs.OpenBracket ∷ expression_tokens Whole e (sign signs.CloseBracket ∷ ts))
  bracketed e rest is free h =
      short signs.OpenBracket 91 (expression_text Whole e ++ 93 ∷ rest) refl (opens_no_equal (expression_text Whole e ++ 93 ∷ rest) (opens e Whole (93 ∷ rest) is))
      (expression_stands e Whole (93 ∷ rest) is (calm_bracket rest) (short signs.CloseBracket 93 rest refl free h))

  -- the end of a block
  block_end : (indent rest : List ℕ) {ts : List Token} → Passes indent → Stands rest ts → Stands (indent ++ 125 ∷ 10 ∷ rest) (sign signs.CloseBrace ∷ ts)
  block_end indent rest {ts} p h =
      p.over (125 ∷ 10 ∷ rest) (sign signs.CloseBrace ∷ ts) (closing (10 ∷ rest) (calm_feed rest).no_sign_goes_on (feed h))

  -- and the beginning of the second one of a choice
  else_begins : (indent rest : List ℕ) {ts : List Token} → Passes indent → Stands rest ts
      → Stands (indent ++ codes "} else {\n" ++ rest) (sign signs.CloseBrace ∷ keyword keywords.Else ∷ sign signs.OpenBrace ∷ ts)
  else_begins indent rest {ts} p h =
      subst (λ l. Stands l (sign signs.CloseBrace ∷ keyword keywords.Else ∷ sign signs.OpenBrace ∷ ts)) (sym (append_assoc indent (codes "} else {\n") rest))
      (p.over (codes "} else {\n" ++ rest) (sign signs.CloseBrace ∷ keyword keywords.Else ∷ sign signs.OpenBrace ∷ ts)
      (closing (32 ∷ (keyword_text keywords.Else ++ 32 ∷ 123 ∷ 10 ∷ rest)) (calm_blank (keyword_text keywords.Else ++ 32 ∷ 123 ∷ 10 ∷ rest)).no_sign_goes_on
      (blank (word keywords.Else (32 ∷ 123 ∷ 10 ∷ rest) (calm_blank (123 ∷ 10 ∷ rest))
      (blank (short signs.OpenBrace 123 (10 ∷ rest) refl (calm_feed rest).no_sign_goes_on (feed h)))))))

  mutual
    statement_stands : (s : Statement) (indent rest : List ℕ) {ts : List Token} → Passes indent → IsSpelledStatement s → Stands rest ts
        → Stands (statement_text lines indent s ++ rest) (statement_tokens s ts)
    statement_stands (core.assign origin x value) indent rest {ts} p is h =
        subst (λ l. Stands l (statement_tokens (core.assign origin x value) ts))
        (sym (line_is indent (private_text x ++ codes " = " ++ expression_text Whole value ++ codes ";") (line_text lines origin) rest
        (private_text x ++ 32 ∷ 61 ∷ 32 ∷ (expression_text Whole value ++ 59 ∷ (line_text lines origin ++ rest)))
        (four (private_text x) (codes " = ") (expression_text Whole value) (codes ";") (line_text lines origin ++ rest))))
        (p.over _ _ (name_line x (expression_text Whole value ++ 59 ∷ (line_text lines origin ++ rest)) is.0 (ending lines origin value rest fit is.1 h)))
    statement_stands (core.read origin x value) indent rest {ts} p is h =
        subst (λ l. Stands l (statement_tokens (core.read origin x value) ts))
        (sym (line_is indent (private_text x ++ codes " = [" ++ expression_text Whole value ++ codes "];") (line_text lines origin) rest
        (private_text x ++ 32 ∷ 61 ∷ 32 ∷ (91 ∷ (expression_text Whole value ++ 93 ∷ 59 ∷ (line_text lines origin ++ rest))))
        (four (private_text x) (codes " = [") (expression_text Whole value) (codes "];") (line_text lines origin ++ rest))))
        (p.over _ _ (name_line x (91 ∷ (expression_text Whole value ++ 93 ∷ 59 ∷ (line_text lines origin ++ rest))) is.0
        (bracketed value (59 ∷ (line_text lines origin ++ rest)) is.1 (calm_end (line_text lines origin ++ rest)).no_sign_goes_on
        (semicolon (line_text lines origin ++ rest) (line_calm lines origin rest) (line_stands lines origin rest fit h)))))
    statement_stands (core.write origin place value) indent rest {ts} p is h =
        subst (λ l. Stands l (statement_tokens (core.write origin place value) ts))
        (sym (line_is indent (codes "[" ++ expression_text Whole place ++ codes "] = " ++ expression_text Whole value ++ codes ";") (line_text lines origin) rest
        (91 ∷ (expression_text Whole place ++ 93 ∷ 32 ∷ 61 ∷ 32 ∷ (expression_text Whole value ++ 59 ∷ (line_text lines origin ++ rest))))
        (five (codes "[") (expression_text Whole place) (codes "] = ") (expression_text Whole value) (codes ";") (line_text lines origin ++ rest))))
        (p.over _ _ (bracketed place (32 ∷ 61 ∷ 32 ∷ (expression_text Whole value ++ 59 ∷ (line_text lines origin ++ rest))) is.0
        (calm_blank (61 ∷ 32 ∷ (expression_text Whole value ++ 59 ∷ (line_text lines origin ++ rest)))).no_sign_goes_on
        (assign_sign (expression_text Whole value ++ 59 ∷ (line_text lines origin ++ rest)) (ending lines origin value rest fit is.1 h))))
    statement_stands (core.acquire origin place) indent rest {ts} p is h =
        subst (λ l. Stands l (statement_tokens (core.acquire origin place) ts))
        (sym (line_is indent (codes "acquire " ++ expression_text Whole place ++ codes ";") (line_text lines origin) rest
        (codes "acquire " ++ (expression_text Whole place ++ 59 ∷ (line_text lines origin ++ rest)))
        (three (codes "acquire ") (expression_text Whole place) (codes ";") (line_text lines origin ++ rest))))
        (p.over _ _ (keyword_line keywords.Acquire lines origin place rest fit is h))
    statement_stands (core.release origin place) indent rest {ts} p is h =
        subst (λ l. Stands l (statement_tokens (core.release origin place) ts))
        (sym (line_is indent (codes "release " ++ expression_text Whole place ++ codes ";") (line_text lines origin) rest
        (codes "release " ++ (expression_text Whole place ++ 59 ∷ (line_text lines origin ++ rest)))
        (three (codes "release ") (expression_text Whole place) (codes ";") (line_text lines origin ++ rest))))
        (p.over _ _ (keyword_line keywords.Release lines origin place rest fit is h))
    statement_stands (core.barrier origin) indent rest {ts} p is h =
        subst (λ l. Stands l (statement_tokens (core.barrier origin) ts))
        (sym (line_is indent (codes "barrier;") (line_text lines origin) rest (codes "barrier;" ++ (line_text lines origin ++ rest)) refl))
        (p.over _ _ (word keywords.Barrier (59 ∷ (line_text lines origin ++ rest)) (calm_end (line_text lines origin ++ rest))
        (semicolon (line_text lines origin ++ rest) (line_calm lines origin rest) (line_stands lines origin rest fit h))))
    statement_stands (core.print origin value) indent rest {ts} p is h =
        subst (λ l. Stands l (statement_tokens (core.print origin value) ts))
        (sym (line_is indent (codes "print " ++ expression_text Whole value ++ codes ";") (line_text lines origin) rest
        (codes "print " ++ (expression_text Whole value ++ 59 ∷ (line_text lines origin ++ rest)))
        (three (codes "print ") (expression_text Whole value) (codes ";") (line_text lines origin ++ rest))))
        (p.over _ _ (keyword_line keywords.Print lines origin value rest fit is h))
    statement_stands (core.if_else origin condition first second) indent rest {ts} p is h =
        let behind = else_text indent second ++ (block_text lines (deeper indent) second ++ (indent ++ 125 ∷ 10 ∷ rest)) in
        let body = block_text lines (deeper indent) first ++ behind in
        subst (λ l. Stands l (statement_tokens (core.if_else origin condition first second) ts))
        (sym (choice_is indent (codes "if " ++ expression_text Whole condition ++ codes " {") (line_text lines origin) (block_text lines (deeper indent) first)
        (else_text indent second) (block_text lines (deeper indent) second) indent (codes "}\n") rest
        ∙ ap (λ x. indent ++ x) (three (codes "if ") (expression_text Whole condition) (codes " {") (line_text lines origin ++ body))))
        (p.over _ _ (head_line keywords.If lines origin condition body fit is.0
        (block_stands first (deeper indent) behind (passes_deeper indent p) is.1 (second_stands second indent rest p is.2 h))))
    statement_stands (core.while_do origin condition inside) indent rest {ts} p is h =
        let behind = indent ++ 125 ∷ 10 ∷ rest in
        let body = block_text lines (deeper indent) inside ++ behind in
        subst (λ l. Stands l (statement_tokens (core.while_do origin condition inside) ts))
        (sym (loop_is indent (codes "while " ++ expression_text Whole condition ++ codes " {") (line_text lines origin) (block_text lines (deeper indent) inside)
        indent (codes "}\n") rest
        ∙ ap (λ x. indent ++ x) (three (codes "while ") (expression_text Whole condition) (codes " {") (line_text lines origin ++ body))))
        (p.over _ _ (head_line keywords.While lines origin condition body fit is.0
        (block_stands inside (deeper indent) behind (passes_deeper indent p) is.1 (block_end indent rest p h))))

    -- the end of the first block of a choice, and its second one
    second_stands : (second : Block) (indent rest : List ℕ) {ts : List Token} → Passes indent → AreSpelled second → Stands rest ts
        → Stands (else_text indent second ++ (block_text lines (deeper indent) second ++ (indent ++ 125 ∷ 10 ∷ rest))) (sign signs.CloseBrace ∷ else_tokens second ts)
    second_stands empty indent rest p is h = block_end indent rest p h
    second_stands (next first others) indent rest {ts} p is h =
        let behind = block_text lines (deeper indent) (next first others) ++ (indent ++ 125 ∷ 10 ∷ rest) in
        else_begins indent behind p
        (subst (λ l. Stands l (statement_tokens first (block_tokens others (sign signs.CloseBrace ∷ ts))))
        (sym (append_assoc (statement_text lines (deeper indent) first) (block_text lines (deeper indent) others) (indent ++ 125 ∷ 10 ∷ rest)))
        (statement_stands first (deeper indent) (block_text lines (deeper indent) others ++ (indent ++ 125 ∷ 10 ∷ rest)) (passes_deeper indent p) is.0
        (block_stands others (deeper indent) (indent ++ 125 ∷ 10 ∷ rest) (passes_deeper indent p) is.1 (block_end indent rest p h))))

    pub block_stands : (b : Block) (indent rest : List ℕ) {ts : List Token} → Passes indent → AreSpelled b → Stands rest ts
        → Stands (block_text lines indent b ++ rest) (block_tokens b ts)
    block_stands empty indent rest p is h = h
    block_stands (next first others) indent rest {ts} p is h =
        subst (λ l. Stands l (block_tokens (next first others) ts))
        (sym (append_assoc (statement_text lines indent first) (block_text lines indent others) rest))
        (statement_stands first indent (block_text lines indent others ++ rest) p is.0 (block_stands others indent rest p is.1 h))

-- ---- labels

label_line : (k w rest : List ℕ) {ts : List Token} → All IsWithinLine k → All IsWithinLine w → Stands rest ts
    → Stands (35 ∷ (k ++ (w ++ codes "\n") ++ rest)) ts
label_line k w rest {ts} all_k all_w h =
    subst (λ l. Stands (35 ∷ l) ts)
    (append_assoc k w (10 ∷ rest) ∙ ap (λ x. k ++ x) (sym (append_assoc w (codes "\n") rest)) ∙ sym (append_assoc k (w ++ codes "\n") rest))
    (comment (k ++ w) rest (All-append IsWithinLine k w all_k all_w) (feed h))

sizes_within : (sizes : List ℕ) → AllByRecursion Fits sizes → All IsWithinLine (sizes_text sizes)
unfolding above
sizes_within [] fit = All-nil IsWithinLine
sizes_within (size ∷ sizes) fit =
    All-append IsWithinLine (codes " " ++ decimal size) (sizes_text sizes)
    (All-append IsWithinLine (codes " ") (decimal size) (within_literal (codes " ") refl) (within_number size fit.0)) (sizes_within sizes fit.1)

item_stands : (k label : List ℕ) (first : ℕ) (sizes : List ℕ) (rest : List ℕ) {ts : List Token} → All IsWithinLine k → IsLabelled label first sizes → Stands rest ts
    → Stands (item_text (35 ∷ k) label first sizes ++ rest) ts
unfolding above
item_stands k label first [] rest all is h =
    label_line k (codes " " ++ decimal first ++ codes " " ++ label) rest all
    (All-append IsWithinLine (codes " " ++ decimal first ++ codes " ") label
    (All-append IsWithinLine (codes " " ++ decimal first) (codes " ")
    (All-append IsWithinLine (codes " ") (decimal first) (within_literal (codes " ") refl) (within_number first is.1)) (within_literal (codes " ") refl))
    (all_such {P = IsLetterOrDigit} {Q = IsWithinLine} no_feed_name label is.0)) h
item_stands k label first (size ∷ sizes) rest all is h =
    let last = first + (elements (size ∷ sizes) - 1) in
    label_line k (codes "s " ++ decimal first ++ codes " " ++ decimal last ++ (codes " " ++ label) ++ sizes_text sizes) rest all
    (All-append IsWithinLine (codes "s " ++ decimal first ++ codes " " ++ decimal last ++ (codes " " ++ label)) (sizes_text sizes)
    (All-append IsWithinLine (codes "s " ++ decimal first ++ codes " " ++ decimal last) (codes " " ++ label)
    (All-append IsWithinLine (codes "s " ++ decimal first ++ codes " ") (decimal last)
    (All-append IsWithinLine (codes "s " ++ decimal first) (codes " ")
    (All-append IsWithinLine (codes "s ") (decimal first) (within_literal (codes "s ") refl) (within_number first is.1)) (within_literal (codes " ") refl))
    (within_number last is.2))
    (All-append IsWithinLine (codes " ") label (within_literal (codes " ") refl) (all_such {P = IsLetterOrDigit} {Q = IsWithinLine} no_feed_name label is.0)))
    (sizes_within sizes is.3)) h

label_stands : (label : List ℕ) (meaning : Meaning) (rest : List ℕ) {ts : List Token} → IsLabelledAs label meaning → Stands rest ts
    → Stands (label_text label meaning ++ rest) ts
unfolding above
label_stands label (constant n) rest is h = h
label_stands label (shared item) rest is h = item_stands (codes ": word") label item.first item.sizes rest (within_literal (codes ": word") refl) is h
label_stands label (lock item) rest is h = item_stands (codes ": lock") label item.first item.sizes rest (within_literal (codes ": lock") refl) is h
label_stands label (function parameters body) rest is h = h

labels_stand : (declared : List Declared) (rest : List ℕ) {ts : List Token} → AreLabelled declared → Stands rest ts → Stands (labels_text declared ++ rest) ts
labels_stand [] rest is h = h
labels_stand (d ∷ declared) rest {ts} is h =
    subst (λ l. Stands l ts) (sym (append_assoc (label_text d.name d.meaning) (labels_text declared) rest))
    (label_stands d.name d.meaning (labels_text declared ++ rest) is.0 (labels_stand declared rest is.1 h))

-- ---- the whole text

head_is : (a w b k c l s : List ℕ) → a ++ w ++ b ++ k ++ c ++ l ++ s ≡ a ++ (w ++ (b ++ (k ++ (c ++ (l ++ s)))))
head_is a w b k c l s = append_assoc (a ++ w ++ b ++ k ++ c) l s ∙ five a w b k c (l ++ s)

pub core_stands : (words locks : ℕ) (declared : List Declared) (lines : List ℕ) (statements : Block) → Fits words → Fits locks → AreLabelled declared
    → AllByRecursion Fits lines → AreSpelled statements → Stands (core_text words locks declared lines statements) (program_tokens words locks statements)
core_stands words locks declared lines statements small_words small_locks labelled fit spelled =
    let body : Stands (block_text lines [] statements) (block_tokens statements (finish ∷ [])) =
    subst (λ l. Stands l (block_tokens statements (finish ∷ []))) (append-nil (block_text lines [] statements))
    (block_stands lines fit statements [] [] passes_none spelled ended) in
    let behind = labels_text declared ++ block_text lines [] statements in
    subst (λ l. Stands l (program_tokens words locks statements))
    (sym (head_is (codes "words ") (decimal words) (codes "; locks ") (decimal locks) (codes ";\n") (labels_text declared) (block_text lines [] statements)))
    (word keywords.Words (32 ∷ (decimal words ++ (codes "; locks " ++ (decimal locks ++ (codes ";\n" ++ behind)))))
    (calm_blank (decimal words ++ (codes "; locks " ++ (decimal locks ++ (codes ";\n" ++ behind)))))
    (blank (numbered words (codes "; locks " ++ (decimal locks ++ (codes ";\n" ++ behind))) small_words
    (calm_end (codes " locks " ++ (decimal locks ++ (codes ";\n" ++ behind))))
    (semicolon (codes " locks " ++ (decimal locks ++ (codes ";\n" ++ behind))) (calm_blank (codes "locks " ++ (decimal locks ++ (codes ";\n" ++ behind)))).no_sign_goes_on
    (blank (word keywords.Locks (32 ∷ (decimal locks ++ (codes ";\n" ++ behind))) (calm_blank (decimal locks ++ (codes ";\n" ++ behind)))
    (blank (numbered locks (codes ";\n" ++ behind) small_locks (calm_end (10 ∷ behind))
    (semicolon (10 ∷ behind) (calm_feed behind).no_sign_goes_on
    (feed (labels_stand declared (block_text lines [] statements) labelled body)))))))))))
