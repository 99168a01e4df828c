-- The statements of a core have no label lines.
use Rattle.std.proofs.Common.{◌≡◌, ◌∙◌, ℕ, not, ◌==◌, List, [], ◌∷◌, ◌++◌, refl, sym, ap, subst, append_assoc}
use Rattle.std.specs.Prelude.{codes, decimal, slice_index, None}
use Rattle.std.specs.List.{AllByRecursion, list_all}
use Rattle.std.specs.Cmp.Derive.{both_true}
use Rattle.std.proofs.lemmas.Bool.{and_parts}
use Rattle.lrc_labels.specs.declared.cut.Divider.TheVariants.{Hash, LineFeed}
use Rattle.lrc_labels.specs.Cut.{cut, divides}
use Rattle.lrc_labels.specs.Line.{label_line_in}
use Rattle.lrc_named_core.specs.Tree.{Private, Expression, Origin, Statement, assign, read, write, acquire, release, barrier, print, if_else, while_do}
use Rattle.lrc_named_core.specs.Tree.{Block, empty, next}
use Rattle.lrc_named_text.specs.declared.expression.Room.TheVariants.{Whole as all_room}
use Rattle.lrc_named_text.specs.Expressions.{expression_text, private_text}
use Rattle.lrc_named_text.specs.Statements.{block_text, deeper, else_text, head_text, keyword_text, line_text, read_text, set_text, statement_text, write_text}
use Rattle.lrc_named_label_laws.proofs.Shape.{ArePlain, HasPlain, IsPlain, IsPlainStatement}
use Rattle.lrc_named_label_laws.proofs.Cutting.{Whole, commented, cut_piece, uncommented}
use Rattle.lrc_named_label_laws.proofs.Quiet.{Quiet, decimal_quiet, expression_quiet, is_quiet, private_quiet, quiet_both}

-- ---- quiet texts have no divider of either kind

no_feed : (text : List ℕ) → Quiet text → Whole (divides LineFeed) text
no_feed [] h = refl
no_feed (b ∷ text) h =
    let parts = and_parts (is_quiet b) (list_all is_quiet text) h in
    let two = and_parts (not (b == 10)) (not (b == 35)) parts.0 in
    both_true two.0 (no_feed text parts.1)

no_hash : (text : List ℕ) → Quiet text → Whole (divides Hash) text
no_hash [] h = refl
no_hash (b ∷ text) h =
    let parts = and_parts (is_quiet b) (list_all is_quiet text) h in
    let two = and_parts (not (b == 10)) (not (b == 35)) parts.0 in
    both_true two.1 (no_hash text parts.1)

-- ---- whole lines

-- a line that is no label line
abbrev pub IsSilent : List ℕ → Type 0
IsSilent line = label_line_in line ≡ None

-- a text of whole lines, none of which is a label line
pub record Unlabelled (text : List ℕ) : Type 0 where
  pub lines : List (List ℕ)
  pub silent : AllByRecursion IsSilent lines
  pub cut_is : (rest : List ℕ) → cut (divides LineFeed) (text ++ rest) ≡ lines ++ cut (divides LineFeed) rest

pub no_line : Unlabelled []
no_line = record { lines = []; silent = tt; cut_is = λ rest. refl }

silent_both : (one other : List (List ℕ)) → AllByRecursion IsSilent one → AllByRecursion IsSilent other → AllByRecursion IsSilent (one ++ other)
silent_both [] other h k = k
silent_both (line ∷ one) other h k = (h.0, silent_both one other h.1 k)

pub lines_both : (a b : List ℕ) → Unlabelled a → Unlabelled b → Unlabelled (a ++ b)
lines_both a b h k = record {
  lines = h.lines ++ k.lines;
  silent = silent_both h.lines k.lines h.silent k.silent;
  cut_is = λ rest. ap (cut (divides LineFeed)) (append_assoc a b rest) ∙ h.cut_is (b ++ rest) ∙ ap (λ l. h.lines ++ l) (k.cut_is rest)
      ∙ sym (append_assoc h.lines k.lines (cut (divides LineFeed) rest));
}

one_line : (line : List ℕ) → Whole (divides LineFeed) line → IsSilent line → Unlabelled (line ++ codes "\n")
one_line line whole silent = record {
  lines = line ∷ [];
  silent = (silent, tt);
  cut_is = λ rest. ap (cut (divides LineFeed)) (append_assoc line (codes "\n") rest) ∙ cut_piece (divides LineFeed) line 10 rest whole refl;
}

-- a quiet line, of which the end is known
pub quiet_line : (front end : List ℕ) → Quiet front → Quiet end → Unlabelled (front ++ (end ++ codes "\n"))
quiet_line front end h k =
    let both = quiet_both front end h k in
    subst Unlabelled (append_assoc front end (codes "\n")) (one_line (front ++ end) (no_feed (front ++ end) both) (uncommented (front ++ end) (no_hash (front ++ end) both)))

feed_both : (a b : List ℕ) → Whole (divides LineFeed) a → Whole (divides LineFeed) b → Whole (divides LineFeed) (a ++ b)
feed_both [] b h k = k
feed_both (x ∷ a) b h k =
    let parts = and_parts (not (divides LineFeed x)) (list_all (λ byte. not (divides LineFeed byte)) a) h in
    both_true parts.0 (feed_both a b parts.1 k)

-- the line of a statement: its comment is no label
statement_line : (front : List ℕ) (lines : List ℕ) (origin : Origin) → Quiet front → Unlabelled (front ++ line_text lines origin)
statement_line front lines origin h =
    let n = slice_index lines origin.line in
    let comment = codes "  # line " ++ decimal n in
    let ended : front ++ comment ++ codes "\n" ≡ front ++ line_text lines origin = append_assoc front comment (codes "\n") in
    let hashed : front ++ codes "  " ++ (35 ∷ (codes " line " ++ decimal n)) ≡ front ++ comment = append_assoc front (codes "  ") (35 ∷ (codes " line " ++ decimal n)) in
    let quiet = quiet_both front (codes "  ") h refl in
    let silent : IsSilent (front ++ comment) =
    subst IsSilent hashed (commented (front ++ codes "  ") (codes " line " ++ decimal n) (no_hash (front ++ codes "  ") quiet)) in
    subst Unlabelled ended
    (one_line (front ++ comment) (feed_both front comment (no_feed front h) (no_feed (codes " line " ++ decimal n) (quiet_both (codes " line ") (decimal n) refl (decimal_quiet n)))) silent)

-- ---- statements

set_quiet : (x : Private) (value : Expression) → IsPlain x → HasPlain value → Quiet (set_text x value)
set_quiet x value h k =
    let e = expression_text all_room value in
    quiet_both (private_text x ++ codes " = " ++ e) (codes ";")
    (quiet_both (private_text x ++ codes " = ") e (quiet_both (private_text x) (codes " = ") (private_quiet x h) refl) (expression_quiet value all_room k)) refl

read_quiet : (x : Private) (word : Expression) → IsPlain x → HasPlain word → Quiet (read_text x word)
read_quiet x word h k =
    let e = expression_text all_room word in
    quiet_both (private_text x ++ codes " = [" ++ e) (codes "];")
    (quiet_both (private_text x ++ codes " = [") e (quiet_both (private_text x) (codes " = [") (private_quiet x h) refl) (expression_quiet word all_room k)) refl

write_quiet : (word value : Expression) → HasPlain word → HasPlain value → Quiet (write_text word value)
write_quiet word value h k =
    let w = expression_text all_room word in
    let v = expression_text all_room value in
    quiet_both (codes "[" ++ w ++ codes "] = " ++ v) (codes ";")
    (quiet_both (codes "[" ++ w ++ codes "] = ") v
    (quiet_both (codes "[" ++ w) (codes "] = ") (quiet_both (codes "[") w refl (expression_quiet word all_room h)) refl) (expression_quiet value all_room k)) refl

keyword_quiet : (keyword : List ℕ) (e : Expression) → Quiet keyword → HasPlain e → Quiet (keyword_text keyword e)
keyword_quiet keyword e h k =
    let t = expression_text all_room e in
    quiet_both (keyword ++ t) (codes ";") (quiet_both keyword t h (expression_quiet e all_room k)) refl

head_quiet : (keyword : List ℕ) (e : Expression) → Quiet keyword → HasPlain e → Quiet (head_text keyword e)
head_quiet keyword e h k =
    let t = expression_text all_room e in
    quiet_both (keyword ++ t) (codes " {") (quiet_both keyword t h (expression_quiet e all_room k)) refl

deeper_quiet : (indent : List ℕ) → Quiet indent → Quiet (deeper indent)
deeper_quiet indent h = quiet_both indent (codes "    ") h refl

else_lines : (indent : List ℕ) (others : Block) → Quiet indent → Unlabelled (else_text indent others)
else_lines indent empty h = no_line
else_lines indent (next first rest) h = quiet_line indent (codes "} else {") h refl

-- a statement without a block
simple : (lines indent text : List ℕ) (origin : Origin) → Quiet indent → Quiet text → Unlabelled (indent ++ text ++ line_text lines origin)
simple lines indent text origin h k = statement_line (indent ++ text) lines origin (quiet_both indent text h k)

-- the end of a block
closed : (indent text : List ℕ) → Quiet indent → Unlabelled text → Unlabelled (text ++ indent ++ codes "}\n")
closed indent text h k = subst Unlabelled (sym (append_assoc text indent (codes "}\n"))) (lines_both text (indent ++ codes "}\n") k (quiet_line indent (codes "}") h refl))

mutual
  statement_lines : (lines indent : List ℕ) (s : Statement) → Quiet indent → IsPlainStatement s → Unlabelled (statement_text lines indent s)
  statement_lines lines indent (assign origin x value) h p = simple lines indent (set_text x value) origin h (set_quiet x value p.0 p.1)
  statement_lines lines indent (read origin x word) h p = simple lines indent (read_text x word) origin h (read_quiet x word p.0 p.1)
  statement_lines lines indent (write origin word value) h p = simple lines indent (write_text word value) origin h (write_quiet word value p.0 p.1)
  statement_lines lines indent (acquire origin word) h p = simple lines indent (keyword_text (codes "acquire ") word) origin h (keyword_quiet (codes "acquire ") word refl p)
  statement_lines lines indent (release origin word) h p = simple lines indent (keyword_text (codes "release ") word) origin h (keyword_quiet (codes "release ") word refl p)
  statement_lines lines indent (barrier origin) h p = simple lines indent (codes "barrier;") origin h refl
  statement_lines lines indent (print origin value) h p = simple lines indent (keyword_text (codes "print ") value) origin h (keyword_quiet (codes "print ") value refl p)
  statement_lines lines indent (if_else origin condition first second) h p =
      let head = simple lines indent (head_text (codes "if ") condition) origin h (head_quiet (codes "if ") condition refl p.0) in
      let deep = deeper_quiet indent h in
      let head_is = indent ++ head_text (codes "if ") condition ++ line_text lines origin in
      let first_is = block_text lines (deeper indent) first in
      let second_is = block_text lines (deeper indent) second in
      let one = lines_both head_is first_is head (block_lines lines (deeper indent) first deep p.1) in
      let two = lines_both (head_is ++ first_is) (else_text indent second) one (else_lines indent second h) in
      let three = lines_both (head_is ++ first_is ++ else_text indent second) second_is two (block_lines lines (deeper indent) second deep p.2) in
      closed indent (head_is ++ first_is ++ else_text indent second ++ second_is) h three
  statement_lines lines indent (while_do origin condition inside) h p =
      let head = simple lines indent (head_text (codes "while ") condition) origin h (head_quiet (codes "while ") condition refl p.0) in
      let head_is = indent ++ head_text (codes "while ") condition ++ line_text lines origin in
      let inside_is = block_text lines (deeper indent) inside in
      closed indent (head_is ++ inside_is) h (lines_both head_is inside_is head (block_lines lines (deeper indent) inside (deeper_quiet indent h) p.1))

  pub block_lines : (lines indent : List ℕ) (statements : Block) → Quiet indent → ArePlain statements → Unlabelled (block_text lines indent statements)
  block_lines lines indent empty h p = no_line
  block_lines lines indent (next first rest) h p =
      lines_both (statement_text lines indent first) (block_text lines indent rest) (statement_lines lines indent first h p.0) (block_lines lines indent rest h p.1)
