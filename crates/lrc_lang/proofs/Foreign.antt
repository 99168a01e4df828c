-- Symbols that stand in no statement.
use Rattle.std.proofs.Common.{◌≡◌, ℕ, false, List, Option, Some, None, refl}
use Rattle.lrc_lang.specs.declared.token.Keyword.TheVariants.{Words, Locks}
use Rattle.lrc_lang.specs.Symbol.{Symbol, keyword, finish}
use Rattle.lrc_program.specs.Tree.{Expression, Block}
use Rattle.lrc_lang.specs.Parser.Partial as partial
use Rattle.lrc_lang.specs.Parser.Partial.{Level, no_pending, Partial, nothing, partial_with, value_of}
use Rattle.lrc_lang.specs.Parser.Body as body
use Rattle.lrc_lang.specs.Parser.Body.{Purpose, assigned, word_read, word_written, written, acquired, released, printed, if_condition, while_condition}
use Rattle.lrc_lang.specs.Parser.Body.{Place, at_statement, after_name, after_equals, in_expression, after_word, before_end, after_then, after_else}
use Rattle.lrc_lang.specs.Parser.Body.{Owner, then_of, else_of, inside_of, Around, Body, push, body_with, whole_of, if_some, Ending, semicolon, bracket}
use Rattle.lrc_lang.specs.Parser.Body.{brace, is_ending, ending_of}

pub data IsForeign : Symbol → Type 0 where
  the_end : IsForeign finish
  words : IsForeign (keyword Words)
  locks : IsForeign (keyword Locks)

foreign_no_ending : (ending : Ending) {symbol : Symbol} → IsForeign symbol → is_ending ending symbol ≡ false
foreign_no_ending semicolon the_end = refl
foreign_no_ending semicolon words = refl
foreign_no_ending semicolon locks = refl
foreign_no_ending bracket the_end = refl
foreign_no_ending bracket words = refl
foreign_no_ending bracket locks = refl
foreign_no_ending brace the_end = refl
foreign_no_ending brace words = refl
foreign_no_ending brace locks = refl

foreign_no_operand : (outer : List Level) (level : Level) (operand : Option Expression) {symbol : Symbol} → IsForeign symbol
    → partial.moved outer level operand symbol ≡ None
foreign_no_operand outer level None the_end = refl
foreign_no_operand outer level None words = refl
foreign_no_operand outer level None locks = refl
foreign_no_operand outer level (Some e) the_end = refl
foreign_no_operand outer level (Some e) words = refl
foreign_no_operand outer level (Some e) locks = refl

foreign_in_none : (outer : List Around) (before : Block) (purpose : Purpose) (x : Partial) {symbol : Symbol} → IsForeign symbol
    → body.go_on outer before purpose x symbol ≡ None
foreign_in_none outer before purpose x f = simp (foreign_no_ending (ending_of purpose) f, foreign_no_operand x.outer x.level x.operand f)

foreign_no_beginning : (outer : List Around) (before : Block) {symbol : Symbol} → IsForeign symbol → body.begin outer before symbol ≡ None
foreign_no_beginning outer before the_end = refl
foreign_no_beginning outer before words = refl
foreign_no_beginning outer before locks = refl

foreign_behind_equals : (outer : List Around) (before : Block) (n : ℕ) {symbol : Symbol} → IsForeign symbol → body.behind_equals outer before n symbol ≡ None
foreign_behind_equals outer before n the_end = foreign_in_none outer before (assigned n) nothing the_end
foreign_behind_equals outer before n words = foreign_in_none outer before (assigned n) nothing words
foreign_behind_equals outer before n locks = foreign_in_none outer before (assigned n) nothing locks

foreign_behind_then : (outer : List Around) (before : Block) (condition : Expression) (first : Block) {symbol : Symbol} → IsForeign symbol
    → body.behind_then outer before condition first symbol ≡ None
foreign_behind_then outer before condition first the_end = refl
foreign_behind_then outer before condition first words = refl
foreign_behind_then outer before condition first locks = refl

foreign_refused_at : (outer : List Around) (before : Block) (place : Place) {symbol : Symbol} → IsForeign symbol → body.moved outer before place symbol ≡ None
foreign_refused_at outer before at_statement f = foreign_no_beginning outer before f
foreign_refused_at outer before (after_name n) the_end = refl
foreign_refused_at outer before (after_name n) words = refl
foreign_refused_at outer before (after_name n) locks = refl
foreign_refused_at outer before (after_equals n) f = foreign_behind_equals outer before n f
foreign_refused_at outer before (in_expression purpose x) f = foreign_in_none outer before purpose x f
foreign_refused_at outer before (after_word w) the_end = refl
foreign_refused_at outer before (after_word w) words = refl
foreign_refused_at outer before (after_word w) locks = refl
foreign_refused_at outer before (before_end s) the_end = refl
foreign_refused_at outer before (before_end s) words = refl
foreign_refused_at outer before (before_end s) locks = refl
foreign_refused_at outer before (after_then condition first) f = foreign_behind_then outer before condition first f
foreign_refused_at outer before (after_else condition first) the_end = refl
foreign_refused_at outer before (after_else condition first) words = refl
foreign_refused_at outer before (after_else condition first) locks = refl

pub foreign_refused : (b : Body) {symbol : Symbol} → IsForeign symbol → body_with b symbol ≡ None
foreign_refused b f = foreign_refused_at b.outer b.before b.place f
