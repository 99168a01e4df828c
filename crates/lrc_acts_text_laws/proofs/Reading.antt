-- What is printed of acts is read as these acts, also where the number of nodes is given, and whatever the reader answers but want of
-- memory says so.
use Rattle.std.proofs.Common.{◌≡◌, ◌<◌, ◌≤◌, ◌+◌, ◌⊎◌, ℕ, List, [], ◌∷◌, ◌++◌, Option, None, Result, Ok, Err, All, subst}
use Rattle.std.proofs.Common.{arith, length}
use Rattle.std.proofs.Common.{refl}
use Rattle.std.specs.Prelude.{slice_index, MatchResult}
use Rattle.std.specs.List.{enumerate_from, flat_map}
use Rattle.std.proofs.lemmas.List.Elements.{All-head, All-tail}
use Rattle.lrc_trace.specs.declared.act.Act.{Act}
use Rattle.lrc_text.specs.ActText.{act_line}
use Rattle.lrc_text.specs.Lines.{lines_of}
use Rattle.lrc_acts.specs.ActsText.{IsAmong, IsBad, ReadsActs, SayActs, SaysAct, empty, more, most_bytes, none}
use Rattle.lrc_acts.specs.Printed.{IsPrinted, IsRanged, line_more, nothing}
use Rattle.lrc_acts.specs.declared.reading.ActsFault.{ActsFault}
use Rattle.lrc_acts.specs.declared.reading.ActsFault.TheVariants.{BadAct, NoMemory, TooLong}
use Rattle.lrc_acts.specs.declared.reading.LinedActs.{LinedActs}
use Rattle.lrc_acts.proofs.OneLemmas.{one, too_long}
use Rattle.lrc_acts_text.specs.ActsText.{acts_text}
use Rattle.lrc_acts_text_laws.proofs.Values.{AreValues}

printed_from : (acts : List Act) (lines : List ℕ) (start : ℕ) → All IsRanged acts → AreValues lines
    → IsPrinted acts (flat_map (λ at. act_line at.1 (slice_index lines at.0)) (enumerate_from start acts))
printed_from [] lines start ranged are = nothing
printed_from (act ∷ acts) lines start ranged are =
    line_more act (slice_index lines start) (are start) (All-head IsRanged act acts ranged)
    (printed_from acts lines (start + 1) (All-tail IsRanged act acts ranged) are)

-- acts whose numbers are of their kinds are printed with their lines
pub acts_printed : (acts : List Act) (lines : List ℕ) → All IsRanged acts → AreValues lines → IsPrinted acts (acts_text acts lines)
acts_printed acts lines ranged are = printed_from acts lines 0 ranged are

-- what says acts says them also where a number of nodes is given that they are all below
said_among : {given : Option ℕ} {words : List (List ℕ)} {act : Act} → SaysAct None words act → IsAmong given act.node
    → SaysAct given words act
said_among said among = record {
  digits = said.digits;
  rest = said.rest;
  whole = said.whole;
  node = said.node;
  among = among;
  deed = said.deed;
}

pub among : {given : Option ℕ} {number : ℕ} {lines : List (List ℕ)} {acts : List Act} {numbers : List ℕ}
    → SayActs None number lines acts numbers → All (λ act. IsAmong given act.node) acts → SayActs given number lines acts numbers
among none all = none
among (empty e said) all = empty e (among said all)
among {given} (more {act = act} {acts = acts} s said) all =
    more (said_among s (All-head (λ (a : Act). IsAmong given a.node) act acts all))
    (among said (All-tail (λ (a : Act). IsAmong given a.node) act acts all))

-- no line of those that say acts is bad
none_bad : {given : Option ℕ} (before : List (List ℕ)) (line : List ℕ) (after : List (List ℕ))
    {number : ℕ} {acts : List Act} {numbers : List ℕ} → SayActs given number (before ++ line ∷ after) acts numbers → IsBad given line → ⊥
none_bad [] line after (empty e said) bad = bad.some e
none_bad [] line after (more {act = act} s said) bad = bad.nameless act s
none_bad (x ∷ before) line after (empty e said) bad = none_bad before line after said bad
none_bad (x ∷ before) line after (more s said) bad = none_bad before line after said bad

module _ (given : Option ℕ) (text : List ℕ) (acts : List Act) (numbers : List ℕ) (said : SayActs given 1 (lines_of text) acts numbers) where
  -- what the reader makes of a text that is not too long
  pub read_whole : (result : Result LinedActs ActsFault) → length text ≤ most_bytes → ReadsActs given text result
      → MatchResult result (λ lined. (lined.acts.items ≡ acts) × (lined.lines.items ≡ numbers)) (λ fault. fault ≡ NoMemory)
  read_whole (Ok lined) short reads = one reads.1 said
  read_whole (Err TooLong) short long = absurd (omega (arith, long, short))
  read_whole (Err (BadAct line)) short first =
      absurd (none_bad first.1.before first.1.line first.1.after
      (subst (λ lines. SayActs given 1 lines acts numbers) first.1.whole said) first.1.bad)
  read_whole (Err NoMemory) short reads = refl

-- what it makes of one that is too long
pub read_long : (given : Option ℕ) (text : List ℕ) (result : Result LinedActs ActsFault) → most_bytes < length text
    → ReadsActs given text result
    → MatchResult result (λ lined. ⊥) (λ fault. (fault ≡ TooLong) ⊎ (fault ≡ NoMemory))
read_long given text = too_long given text
