-- Why a line is no event: the first thing that is wrong with it, from its beginning on.
use Rattle.std.specs.Prelude.{◌≡◌, ◌≢◌, ℕ, ◌<◌, ◌≤◌, ◌⊎◌, nat_eq, nat_lt, if◌then◌else◌, IsTrue, List, [], ◌∷◌, ◌++◌, codes, length, take}
use Rattle.std.specs.List.{starts_with}
use Rattle.lrc_races_lines.specs.declared.line.Kind.{Kind}
use Rattle.lrc_races_lines.specs.declared.line.Kind.TheVariants.{Idle}
use Rattle.lrc_races_lines.specs.declared.cause.Cause.{Cause}
use Rattle.lrc_races_lines.specs.declared.cause.Cause.TheVariants as cause
use Rattle.lrc_races_lines.specs.Lacking.{Lacks}
use Rattle.lrc_races_lines.specs.Line.{bar, open_parenthesis, close_parenthesis, longest_line, longest_name, word as word_of, IsBody, IsIdleWord, IsName, SpellsOperation}

-- what may be wrong with a line
pub data Why : Type 0 where
  line_too_long : Why
  byte_order_mark : Why
  no_act : Why
  no_bar : Why
  no_thread : Why
  thread_too_long : Why
  bad_thread_byte : Why
  no_operation : Why
  unknown_operation : List ℕ → Why
  no_target : Why
  target_too_long : Why
  bad_target_byte : Why
  text_behind_target : Why
  location_too_long : Why
  fourth_field : Why

abbrev pub why_of : Cause → Why
why_of cause.LineTooLong = line_too_long
why_of cause.ByteOrderMark = byte_order_mark
why_of cause.NoAct = no_act
why_of cause.NoBar = no_bar
why_of cause.NoThread = no_thread
why_of cause.ThreadTooLong = thread_too_long
why_of cause.BadThreadByte = bad_thread_byte
why_of cause.NoOperation = no_operation
why_of (cause.UnknownOperation word) = unknown_operation word.now
why_of cause.NoTarget = no_target
why_of cause.TargetTooLong = target_too_long
why_of cause.BadTargetByte = bad_target_byte
why_of cause.TextBehindTarget = text_behind_target
why_of cause.LocationTooLong = location_too_long
why_of cause.FourthField = fourth_field

-- a word is shown whole, or where it is long its first 32 bytes
abbrev pub longest_word : ℕ
longest_word = 32

abbrev pub shown_word : List ℕ → List ℕ
shown_word word = if nat_lt longest_word (length word) then take longest_word word ++ codes ".." else word

-- how it is said, up to the word that is no operation
abbrev pub why_words : Why → List ℕ
why_words line_too_long = codes "line too long"
why_words byte_order_mark = codes "a byte order mark"
why_words no_act = codes "no act"
why_words no_bar = codes "no | in it"
why_words no_thread = codes "no thread"
why_words thread_too_long = codes "thread too long"
why_words bad_thread_byte = codes "bad byte in the thread"
why_words no_operation = codes "no operation"
why_words (unknown_operation word) = codes "no operation "
why_words no_target = codes "no target"
why_words target_too_long = codes "target too long"
why_words bad_target_byte = codes "bad byte in the target"
why_words text_behind_target = codes "text behind the target"
why_words location_too_long = codes "location too long"
why_words fourth_field = codes "a fourth field"

-- and whole
abbrev pub why_text : Why → List ℕ
why_text (unknown_operation word) = codes "no operation " ++ shown_word word
why_text why = why_words why

-- the line begins with a byte order mark
abbrev pub IsMarked : List ℕ → Type 0
IsMarked line = IsTrue (starts_with nat_eq line (239 ∷ 187 ∷ 191 ∷ []))

-- The text begins with this front, which lacks the byte; behind it stands nothing, or the byte.
pub data IsUpTo (byte : ℕ) (front : List ℕ) : List ℕ → Type 0 where
  up_to_end : Lacks byte front → IsUpTo byte front front
  up_to_byte : (rest : List ℕ) → Lacks byte front → IsUpTo byte front (front ++ byte ∷ rest)

-- of the name of a thread
pub data IsThreadCause (thread : List ℕ) : Why → Type 0 where
  thread_lacking : thread ≡ [] → IsThreadCause thread no_thread
  thread_long : longest_name < length thread → IsThreadCause thread thread_too_long
  thread_bad : 0 < length thread → length thread ≤ longest_name → ¬ (Lacks open_parenthesis thread × Lacks close_parenthesis thread)
      → IsThreadCause thread bad_thread_byte

-- of what stands behind the opening parenthesis of an operation that has a target, which ends before the first closing one
pub data IsTargetCause : List ℕ → Why → Type 0 where
  target_unclosed : {inner : List ℕ} → Lacks close_parenthesis inner → IsTargetCause inner no_target
  target_lacking : (rest : List ℕ) → IsTargetCause (close_parenthesis ∷ rest) no_target
  target_long : (target rest : List ℕ) → Lacks close_parenthesis target → longest_name < length target
      → IsTargetCause (target ++ close_parenthesis ∷ rest) target_too_long
  target_bad : (target rest : List ℕ) → Lacks close_parenthesis target → 0 < length target → length target ≤ longest_name
      → ¬ Lacks open_parenthesis target → IsTargetCause (target ++ close_parenthesis ∷ rest) bad_target_byte
  target_followed : (target rest : List ℕ) → Lacks close_parenthesis target → 0 < length target → length target ≤ longest_name
      → Lacks open_parenthesis target → rest ≢ [] → IsTargetCause (target ++ close_parenthesis ∷ rest) text_behind_target

-- of what stands behind that of one that does nothing, whose text ends before the last closing one
pub data IsSignatureCause : List ℕ → Why → Type 0 where
  signature_unclosed : {inner : List ℕ} → Lacks close_parenthesis inner → IsSignatureCause inner no_target
  signature_long : (text rest : List ℕ) → Lacks close_parenthesis rest → longest_name < length text
      → IsSignatureCause (text ++ close_parenthesis ∷ rest) target_too_long
  signature_followed : (text rest : List ℕ) → Lacks close_parenthesis rest → length text ≤ longest_name → rest ≢ []
      → IsSignatureCause (text ++ close_parenthesis ∷ rest) text_behind_target

-- the word of an operation that has a target
abbrev pub IsTargetWord : List ℕ → Type 0
IsTargetWord word = (kind : Kind) × (kind ≢ Idle) × (word ≡ word_of kind)

-- of the second field, whose word ends before its first opening parenthesis, if it has one
pub data IsOperationCause : List ℕ → Why → Type 0 where
  word_lacking : {field : List ℕ} → IsUpTo open_parenthesis [] field → IsOperationCause field no_operation
  word_unknown : {word field : List ℕ} → IsUpTo open_parenthesis word field → word ≢ [] → ¬ IsTargetWord word → ¬ IsIdleWord word
      → IsOperationCause field (unknown_operation word)
  word_bare : {word : List ℕ} → Lacks open_parenthesis word → IsTargetWord word → IsOperationCause word no_target
  word_targeted : (word : List ℕ) {inner : List ℕ} {why : Why} → Lacks open_parenthesis word → IsTargetWord word → IsTargetCause inner why
      → IsOperationCause (word ++ open_parenthesis ∷ inner) why
  word_idle : {word inner : List ℕ} {why : Why} → Lacks open_parenthesis word → IsIdleWord word → IsSignatureCause inner why
      → IsOperationCause (word ++ open_parenthesis ∷ inner) why

-- of what stands behind the second bar
pub data IsPlaceCause : List ℕ → Why → Type 0 where
  place_long : {location third : List ℕ} → IsUpTo bar location third → longest_name < length location → IsPlaceCause third location_too_long
  place_followed : (location more : List ℕ) → Lacks bar location → length location ≤ longest_name → IsPlaceCause (location ++ bar ∷ more) fourth_field

-- of what stands behind the first bar: of the second field, or that is well, and of what is behind it
pub data IsRestCause : List ℕ → Why → Type 0 where
  in_operation : {operation rest : List ℕ} {why : Why} → IsUpTo bar operation rest → IsOperationCause operation why → IsRestCause rest why
  in_place : {kind : Kind} {target operation place : List ℕ} {why : Why} → Lacks bar operation → SpellsOperation kind target operation
      → IsPlaceCause place why → IsRestCause (operation ++ bar ∷ place) why

-- of a line without a carriage return at its end
pub data IsBodyCause : List ℕ → Why → Type 0 where
  without_bar : {body : List ℕ} → Lacks bar body → IsBodyCause body no_bar
  in_thread : {thread : List ℕ} {why : Why} (rest : List ℕ) → Lacks bar thread → IsThreadCause thread why → IsBodyCause (thread ++ bar ∷ rest) why
  in_rest : {rest : List ℕ} {why : Why} (thread : List ℕ) → IsName thread → IsRestCause rest why → IsBodyCause (thread ++ bar ∷ rest) why

-- of a line with this number, whatever its form: it is too long, or it is the first and begins with a byte order mark
pub data IsCauseOfAny (number : ℕ) (line : List ℕ) : Why → Type 0 where
  line_long : longest_line < length line → IsCauseOfAny number line line_too_long
  line_marked : length line ≤ longest_line → number ≡ 1 → IsMarked line → IsCauseOfAny number line byte_order_mark

-- and if it is neither, one of these
pub data IsCauseOf (number : ℕ) (line : List ℕ) (These : Why → Type 0) (why : Why) : Type 0 where
  line_any : IsCauseOfAny number line why → IsCauseOf number line These why
  line_other : length line ≤ longest_line → ¬ ((number ≡ 1) × IsMarked line) → These why → IsCauseOf number line These why

-- of a line in this form
pub record IsOfBody (line : List ℕ) (why : Why) : Type 0 where
  pub body : List ℕ
  pub of : IsBody line body
  pub cause : IsBodyCause body why

abbrev pub IsCause : ℕ → List ℕ → Why → Type 0
IsCause number line why = IsCauseOf number line (IsOfBody line) why
