-- Texts without a line feed and without a `#`.
use Rattle.std.proofs.Common.{◌≡◌, ◌∙◌, inl, inr, ℕ, zero, suc, ◌+◌, ◌/◌, ◌%◌, ◌≤◌, Bool, true, false, cond, not, ◌&&◌, ◌==◌, List, [], ◌∷◌, ◌++◌, refl, arith}
use Rattle.std.proofs.Common.{ne_eqb, le-leb, leb-true}
use Rattle.std.specs.Prelude.{codes, decimal, nat_le, nat_lt}
use Rattle.std.specs.Fmt.{digit_glyph, digits, digits_onto}
use Rattle.std.specs.Cmp.Derive.{both_true}
use Rattle.std.specs.List.{All, list_all}
use Rattle.std.proofs.lemmas.Bool.{and_parts, not_from_false}
use Rattle.std.proofs.lemmas.List.Elements.{All-head, All-tail}
use Rattle.std.proofs.lemmas.List.Folds.{list_all-append}
use Rattle.lrc_lang.specs.Lexemes.{IsLetterOrDigit}
use Rattle.lrc_lang.specs.Grammar.{joins}
use Rattle.lrc_program.specs.declared.Operator.{Operator}
use Rattle.lrc_program.specs.declared.Operator.TheVariants.{Add, Subtract, Multiply, Divide, Remainder, Equal, NotEqual, Less, LessOrEqual, Greater, GreaterOrEqual}
use Rattle.lrc_named_core.specs.Tree.{Private, named, own, Expression, number, private, me, nodes, binary}
use Rattle.lrc_named_text.specs.Expressions.{expression_text, grouped, is_grouped, left_room, operator_text, private_text, right_room}
use Rattle.lrc_named_text.specs.declared.expression.Room.{Room}
use Rattle.lrc_named_label_laws.proofs.Shape.{HasPlain, IsPlain}

abbrev pub is_quiet : ℕ → Bool
is_quiet byte = not (byte == 10) && not (byte == 35)

abbrev pub Quiet : List ℕ → Type 0
Quiet text = list_all is_quiet text ≡ true

pub quiet_both : (a b : List ℕ) → Quiet a → Quiet b → Quiet (a ++ b)
quiet_both a b h k = list_all-append is_quiet a b ∙ both_true h k

-- ---- bytes from `0` on, of which numbers and words are made

abbrev pub is_high : ℕ → Bool
is_high byte = nat_le 48 byte

abbrev pub High : List ℕ → Type 0
High text = list_all is_high text ≡ true

-- a test of bytes that these pass
pub high_such : (test : ℕ → Bool) → ((byte : ℕ) → 48 ≤ byte → test byte ≡ true) → (text : List ℕ) → High text → list_all test text ≡ true
high_such test passes [] h = refl
high_such test passes (b ∷ text) h =
    let parts = and_parts (is_high b) (list_all is_high text) h in
    both_true (passes b (leb-true 48 b parts.0)) (high_such test passes text parts.1)

pub differs : (byte other : ℕ) → other ≤ 47 → 48 ≤ byte → not (byte == other) ≡ true
differs byte other small high = not_from_false (byte == other) (ne_eqb byte other (λ e. omega (arith, e, small, high)))

quiet_byte : (byte : ℕ) → 48 ≤ byte → is_quiet byte ≡ true
quiet_byte byte high = both_true (differs byte 10 (omega arith) high) (differs byte 35 (omega arith) high)

pub quiet_high : (text : List ℕ) → High text → Quiet text
quiet_high text h = high_such is_quiet quiet_byte text h

-- ---- numbers

glyph_high : (d : ℕ) → is_high (digit_glyph false d) ≡ true
glyph_high d = by (nat_lt d 10)
  where
    by : (b : Bool) → is_high (cond b (48 + d) (87 + d)) ≡ true
    by true = le-leb 48 (48 + d) (omega arith)
    by false = le-leb 48 (87 + d) (omega arith)

onto_high : (k n : ℕ) (acc : List ℕ) → High acc → High (digits_onto k 10 false n acc)
onto_high zero n acc h = h
onto_high (suc k) n acc h =
    let more : High (digit_glyph false (n % 10) ∷ acc) = both_true (glyph_high (n % 10)) h in
    by (n / 10 == 0) (digit_glyph false (n % 10) ∷ acc) (digits_onto k 10 false (n / 10) (digit_glyph false (n % 10) ∷ acc)) more
    (onto_high k (n / 10) (digit_glyph false (n % 10) ∷ acc) more)
  where
    by : (b : Bool) (one other : List ℕ) → High one → High other → High (cond b one other)
    by true one other p q = p
    by false one other p q = q

pub decimal_high : (n : ℕ) → High (decimal n)
unfolding digits
decimal_high n = onto_high 64 n [] refl

pub decimal_quiet : (n : ℕ) → Quiet (decimal n)
decimal_quiet n = quiet_high (decimal n) (decimal_high n)

-- ---- words

letter_high : (b : ℕ) → IsLetterOrDigit b → is_high b ≡ true
letter_high b (inl (inl h)) = le-leb 48 b (omega (arith, h.0))
letter_high b (inl (inr (inl h))) = le-leb 48 b (omega (arith, h.0))
letter_high b (inl (inr (inr h))) = le-leb 48 b (omega (arith, h))
letter_high b (inr h) = le-leb 48 b h.0

pub word_high : (text : List ℕ) → All IsLetterOrDigit text → High text
word_high [] all = refl
word_high (b ∷ text) all = both_true (letter_high b (All-head IsLetterOrDigit b text all)) (word_high text (All-tail IsLetterOrDigit b text all))

pub private_quiet : (x : Private) → IsPlain x → Quiet (private_text x)
private_quiet (named bytes) h = quiet_high bytes (word_high bytes h)
private_quiet (own n first last) h = quiet_both (codes "_") (decimal n) refl (decimal_quiet n)

-- ---- expressions

operator_quiet : (o : Operator) → Quiet (operator_text o)
operator_quiet Add = refl
operator_quiet Subtract = refl
operator_quiet Multiply = refl
operator_quiet Divide = refl
operator_quiet Remainder = refl
operator_quiet Equal = refl
operator_quiet NotEqual = refl
operator_quiet Less = refl
operator_quiet LessOrEqual = refl
operator_quiet Greater = refl
operator_quiet GreaterOrEqual = refl

grouped_quiet : (b : Bool) (text : List ℕ) → Quiet text → Quiet (grouped b text)
grouped_quiet true text h = quiet_both (codes "(" ++ text) (codes ")") (quiet_both (codes "(") text refl h) refl
grouped_quiet false text h = h

pub expression_quiet : (e : Expression) (room : Room) → HasPlain e → Quiet (expression_text room e)
expression_quiet (number n) room h = decimal_quiet n
expression_quiet (private x) room h = private_quiet x h
expression_quiet me room h = refl
expression_quiet nodes room h = refl
expression_quiet (binary left o right) room h =
    let l = expression_text (left_room (joins o)) left in
    let r = expression_text (right_room (joins o)) right in
    let t = operator_text o in
    grouped_quiet (is_grouped room (joins o)) (l ++ codes " " ++ t ++ codes " " ++ r)
    (quiet_both (l ++ codes " " ++ t ++ codes " ") r
    (quiet_both (l ++ codes " " ++ t) (codes " ")
    (quiet_both (l ++ codes " ") t (quiet_both l (codes " ") (expression_quiet left (left_room (joins o)) h.0) refl) (operator_quiet o)) refl)
    (expression_quiet right (right_room (joins o)) h.1))
