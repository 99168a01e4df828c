-- The lines of the acts of a program that a text is of are few: none is greater than the text is long, and one. So they fit 64 bits.
use Rattle.std.proofs.Common.{◌≤◌, ◌+◌, ℕ, zero, suc, Bool, true, false, List, [], ◌∷◌, ◌++◌, sym, subst, ap, arith, length}
use Rattle.std.proofs.Common.{map, drop, fold}
use Rattle.std.proofs.Common.{length-append}
use Rattle.std.specs.Prelude.{if◌then◌else◌, nat_lt, slice_index, slice_index_or}
use Rattle.std.specs.List.{All}
use Rattle.lrc_program.specs.declared.Program.{Program}
use Rattle.lrc_lang.specs.Token.{Placed}
use Rattle.lrc_lang.specs.Lexemes.{IsSpan, Lexes, passes_blank, passes_line_feed, passes_comment, takes_number}
use Rattle.lrc_lang.specs.Lexemes.{takes_keyword, takes_name, takes_sign}
use Rattle.lrc_lang.specs.Lexemes.{sign_text, stops_at_number, stops_at_byte, stops_at_end}
use Rattle.lrc_lang.specs.Lines.{HasLines, line_of}
use Rattle.lrc_lang.specs.Symbol.{Symbol}
use Rattle.lrc_program.specs.Tree.{ProgramTree}
use Rattle.lrc_trace.specs.declared.act.Act.{Act}
use Rattle.lrc_lines.specs.Places.{StandsAmong, in_order}
use Rattle.lrc_lines.specs.Tasks.{Task, next_line}
use Rattle.lrc_lines.specs.Walks.{act_lines, end_line, line_at, line_behind, lines_behind, walk_behind}
use Rattle.lrc_lines.proofs.Placing.{stand_behind}
use Rattle.lrc_acts_text_laws.proofs.Values.{AreValues}

-- ---- what stands in a text

-- each of these lines is at most so great
abbrev pub AreUpTo : ℕ → List ℕ → Type 0
AreUpTo most lines = (k : ℕ) → slice_index lines k ≤ most

up_to_more : (most x : ℕ) (xs : List ℕ) → x ≤ most → AreUpTo most xs → AreUpTo most (x ∷ xs)
up_to_more most x xs here rest zero = here
up_to_more most x xs here rest (suc k) = rest k

up_to_greater : (most greater : ℕ) (xs : List ℕ) → most ≤ greater → AreUpTo most xs → AreUpTo greater xs
up_to_greater most greater xs le are k = let here : slice_index xs k ≤ most = are k in omega (arith, here, le)

shorter : {P : ℕ → Type 0} {text front rest : List ℕ} → IsSpan P text front rest → length rest ≤ length text
shorter {text = text} {front = front} {rest = rest} span = omega (arith, ap length span.whole, length-append front rest)

lines_up_to : {line : ℕ} {text : List ℕ} {all : List Placed} → Lexes line text all
    → AreUpTo (line + length text) (map (λ found. found.line) all)
lines_up_to {line} (passes_blank {byte = byte} {rest = rest} {all = all} h inside) =
    up_to_greater (line + length rest) (line + length (byte ∷ rest)) _ (omega arith) (lines_up_to inside)
lines_up_to {line} (passes_line_feed {byte = byte} {rest = rest} {all = all} h inside) =
    up_to_greater (line + 1 + length rest) (line + length (byte ∷ rest)) _ (omega arith) (lines_up_to inside)
lines_up_to {line} (passes_comment {byte = byte} {text = text} {rest = rest} h span inside) =
    up_to_greater (line + length rest) (line + length (byte ∷ text)) _ (omega (arith, shorter span)) (lines_up_to inside)
lines_up_to {line} {text} (takes_number {rest = rest} h is inside) =
    up_to_more (line + length text) line _ (omega arith)
    (up_to_greater (line + length rest) (line + length text) _ (omega (arith, shorter h.span)) (lines_up_to inside))
lines_up_to {line} {text} (takes_keyword {rest = rest} h inside) =
    up_to_more (line + length text) line _ (omega arith)
    (up_to_greater (line + length rest) (line + length text) _ (omega (arith, shorter h.span)) (lines_up_to inside))
lines_up_to {line} {text} (takes_name {rest = rest} h is inside) =
    up_to_more (line + length text) line _ (omega arith)
    (up_to_greater (line + length rest) (line + length text) _ (omega (arith, shorter h.span)) (lines_up_to inside))
lines_up_to {line} {text} (takes_sign {rest = rest} {mark = mark} is inside) =
    up_to_more (line + length text) line _ (omega arith)
    (up_to_greater (line + length rest) (line + length text) _ (omega (arith, ap length is.whole, length-append (sign_text mark) rest))
    (lines_up_to inside))
lines_up_to {line} {text} (stops_at_number h bad) = up_to_more (line + length text) line [] (omega arith) (λ k. omega arith)
lines_up_to {line} {text} (stops_at_byte h) = up_to_more (line + length text) line [] (omega arith) (λ k. omega arith)
lines_up_to {line} {text} stops_at_end = up_to_more (line + length text) line [] (omega arith) (λ k. omega arith)

-- ---- the lines of statements

mapped : (most : ℕ) (f : List Symbol → ℕ) (places : List (List Symbol)) → ((place : List Symbol) → f place ≤ most) → AreUpTo most (map f places)
mapped most f [] each k = omega arith
mapped most f (place ∷ places) each zero = each place
mapped most f (place ∷ places) each (suc k) = mapped most f places each k

-- the lines of the statements of a text that is not too long
pub places_few : (text : List ℕ) (p : ProgramTree) (places : List ℕ) → length text ≤ 65536 → HasLines text p places → AreUpTo 65537 places
places_few text p places fits has =
    subst (AreUpTo 65537) (sym has.each) (mapped 65537 (line_of has.lexemes) _ (λ place.
    let here : line_of has.lexemes place ≤ 1 + length text = lines_up_to has.lexed _ in
    omega (arith, here, fits)))

pub places_fit : (text : List ℕ) (p : ProgramTree) (places : List ℕ) → length text ≤ 65536 → HasLines text p places → AreValues places
places_fit text p places fits has = up_to_greater 65537 18446744073709551615 places (omega arith) (places_few text p places fits has)

-- ---- the lines of acts

module _ (most : ℕ) (lines : List ℕ) (are : AreUpTo most lines) where
  last_fits : (from : ℕ) (left : List ℕ) → from ≤ most → AreUpTo most left → fold (λ _ line. line) from left ≤ most
  last_fits from [] here each = here
  last_fits from (x ∷ left) here each = last_fits x left (each 0) (λ k. each (suc k))

  end_fits : end_line lines ≤ most
  end_fits = last_fits 0 lines (omega arith) are

front_fits : (most n end : ℕ) (left : List ℕ) → end ≤ most → AreUpTo most left → slice_index_or (drop n left) 0 end ≤ most
front_fits most zero end [] here each = here
front_fits most zero end (x ∷ left) here each = each 0
front_fits most (suc n) end [] here each = here
front_fits most (suc n) end (x ∷ left) here each = front_fits most n end left here (λ k. each (suc k))

module _ (program : Program) (nodes most : ℕ) (lines : List ℕ) (are : AreUpTo most lines) where
  next_fits : (todo : List Task) → All (StandsAmong (in_order program.statements.items) lines) todo
      → next_line (end_line lines) todo ≤ most
  next_fits [] stand = end_fits most lines are
  next_fits (first ∷ rest) stand =
      let here : StandsAmong (in_order program.statements.items) lines first = stand 0 first (omega arith) in
      subst (λ left. slice_index_or left 0 (end_line lines) ≤ most) (sym here.lines_from)
      (front_fits most (length here.before) (end_line lines) lines (end_fits most lines are) are)

  one_of : (test : Bool) (x y : ℕ) → x ≤ most → y ≤ most → (if test then x else y) ≤ most
  one_of true x y h k = h
  one_of false x y h k = k

  line_fits : (before : List Act) (node : ℕ) → line_behind program nodes lines before node ≤ most
  line_fits before node =
      one_of (nat_lt node nodes) (line_at (end_line lines) (walk_behind program nodes lines before node)) (end_line lines)
      (next_fits (walk_behind program nodes lines before node).todo (stand_behind program nodes lines before node)) (end_fits most lines are)

  behind_fit : (before acts : List Act) → AreUpTo most (lines_behind program nodes lines before acts)
  behind_fit before [] k = omega arith
  behind_fit before (act ∷ acts) zero = line_fits before act.node
  behind_fit before (act ∷ acts) (suc k) = behind_fit (before ++ act ∷ []) acts k

  pub act_lines_few : (acts : List Act) → AreUpTo most (act_lines program nodes lines acts)
  act_lines_few acts = behind_fit [] acts

pub act_lines_fit : (program : Program) (nodes : ℕ) (lines : List ℕ) → AreValues lines → (acts : List Act)
    → AreValues (act_lines program nodes lines acts)
act_lines_fit program nodes lines are acts = act_lines_few program nodes 18446744073709551615 lines are acts
