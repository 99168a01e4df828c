-- A text has one answer: one list of acts, or one first bad line, and never both.
use Rattle.std.proofs.Common.{◌≡◌, ◌∙◌, ◌+◌, ◌*◌, ◌==◌, ℕ, suc, List, [], ◌∷◌, ◌++◌, ◌⊎◌, Option, Result, Ok, Err, length, get_or, cond}
use Rattle.std.proofs.Common.{refl, sym, subst, ap, ap₂, inl, inr, arith}
use Rattle.std.specs.Prelude.{MatchResult}
use Rattle.std.specs.Str.Parse.{digits_value}
use Rattle.lrc_trace.specs.declared.act.Act.{Act}
use Rattle.lrc_trace.specs.declared.act.Cause.{Cause}
use Rattle.lrc_trace.specs.declared.act.Cause.TheVariants.{DivisionByZero, WordOutOfRange, LockOutOfRange, LockHeld, LockNotHeld}
use Rattle.lrc_trace.specs.declared.act.Deed.{Deed}
use Rattle.lrc_trace.specs.declared.act.Deed.TheVariants.{Quiet, Print, Read, Write, Acquire, Release, Arrive, Depart, Trap, End}
use Rattle.lrc_trace.specs.Run.{act_of}
use Rattle.lrc_text.specs.ActText.{cause_number}
use Rattle.lrc_text.specs.Lines.{lines_of}
use Rattle.lrc_acts.specs.declared.reading.ActsFault.{ActsFault}
use Rattle.lrc_acts.specs.declared.reading.ActsFault.TheVariants.{BadAct, NoMemory, TooLong}
use Rattle.lrc_acts.specs.declared.reading.LinedActs.{LinedActs}
use Rattle.lrc_acts.specs.ActsText.{SayActs, SaysAct, SaysDeed, IsBad, IsFirstBad, ReadsActs, empty, more, none}

-- a number that tells the names of deeds apart: by the first byte and the length
abbrev mark_of : List ℕ → ℕ
mark_of [] = 0
mark_of (byte ∷ bytes) = byte * 8 + length bytes

abbrev cause_of : ℕ → Cause
cause_of number = cond (number == 1) DivisionByZero (cond (number == 2) WordOutOfRange (cond (number == 3) LockOutOfRange
    (cond (number == 4) LockHeld LockNotHeld)))

cause_again : (cause : Cause) → cause_of (cause_number cause) ≡ cause
cause_again DivisionByZero = refl
cause_again WordOutOfRange = refl
cause_again LockOutOfRange = refl
cause_again LockHeld = refl
cause_again LockNotHeld = refl

abbrev number_at : List (List ℕ) → ℕ → ℕ
number_at operands place = digits_value 10 (get_or operands place [])

-- the deed that a name with this mark and these operands can say
abbrev meant : ℕ → List (List ℕ) → Deed
meant mark operands =
    cond (mark == 908) Quiet
    (cond (mark == 900) (Print (number_at operands 0))
    (cond (mark == 915) (Read (number_at operands 0) (number_at operands 1))
    (cond (mark == 956) (Write (number_at operands 0) (number_at operands 1))
    (cond (mark == 782) (Acquire (number_at operands 0))
    (cond (mark == 918) (Release (number_at operands 0))
    (cond (mark == 781) Arrive
    (cond (mark == 805) Depart
    (cond (mark == 931) (Trap (cause_of (number_at operands 0)))
    End))))))))

abbrev meaning : List (List ℕ) → Deed
meaning [] = End
meaning (name ∷ operands) = meant (mark_of name) operands

deed_meant : (words : List (List ℕ)) (deed : Deed) → SaysDeed words deed → meaning words ≡ deed
deed_meant words Quiet h = ap meaning h
deed_meant words (Print value) h = ap meaning h.whole ∙ ap (λ (v : ℕ). Print v) (sym h.says.value)
deed_meant words (Read word value) h = ap meaning h.whole ∙ ap₂ (λ (w v : ℕ). Read w v) (sym h.says_word.value) (sym h.says_value.value)
deed_meant words (Write word value) h = ap meaning h.whole ∙ ap₂ (λ (w v : ℕ). Write w v) (sym h.says_word.value) (sym h.says_value.value)
deed_meant words (Acquire l) h = ap meaning h.whole ∙ ap (λ (v : ℕ). Acquire v) (sym h.says.value)
deed_meant words (Release l) h = ap meaning h.whole ∙ ap (λ (v : ℕ). Release v) (sym h.says.value)
deed_meant words Arrive h = ap meaning h
deed_meant words Depart h = ap meaning h
deed_meant words (Trap cause) h =
    ap meaning h.whole ∙ ap (λ (number : ℕ). Trap (cause_of number)) (sym h.says.value) ∙ ap (λ (c : Cause). Trap c) (cause_again cause)
deed_meant words End h = ap meaning h

abbrev act_meant : List (List ℕ) → Act
act_meant [] = act_of 0 End
act_meant (digits ∷ words) = act_of (digits_value 10 digits) (meaning words)

act_is : {nodes : Option ℕ} (words : List (List ℕ)) (act : Act) → SaysAct nodes words act → act_meant words ≡ act
act_is words act h = ap act_meant h.whole ∙ ap₂ (λ (n : ℕ) (d : Deed). act_of n d) (sym h.node.value) (deed_meant h.rest act.deed h.deed)

same_front : {number : ℕ} {numbers others : List ℕ} → numbers ≡ others → (number ∷ numbers) ≡ (number ∷ others)
same_front {number} e = ap (λ (ns : List ℕ). number ∷ ns) e

pub one : {nodes : Option ℕ} {number : ℕ} {lines : List (List ℕ)} {acts others : List Act} {numbers other_numbers : List ℕ}
    → SayActs nodes number lines acts numbers → SayActs nodes number lines others other_numbers → (acts ≡ others) × (numbers ≡ other_numbers)
one none none = (refl, refl)
one (empty e n) (empty f m) = one n m
one (empty e n) (more s m) = absurd (let wrong : [] ≡ s.digits ∷ s.rest = sym e ∙ s.whole in cc)
one (more s n) (empty e m) = absurd (let wrong : [] ≡ s.digits ∷ s.rest = sym e ∙ s.whole in cc)
one (more s n) (more t m) =
    let rest = one n m in
    (ap₂ (λ (x : Act) (xs : List Act). x ∷ xs) (sym (act_is _ _ s) ∙ act_is _ _ t) rest.0, same_front rest.1)

-- ---- one first bad line

-- lines that say acts have no bad line
no_bad : {nodes : Option ℕ} (number : ℕ) (before : List (List ℕ)) (line : List ℕ) (after : List (List ℕ)) {acts : List Act} {numbers : List ℕ}
    → IsBad nodes line → SayActs nodes number (before ++ line ∷ after) acts numbers → ⊥
no_bad number [] line after bad (empty e n) = bad.some e
no_bad number [] line after bad (more s n) = bad.nameless _ s
no_bad number (first ∷ before) line after bad (empty e n) = no_bad (number + 1) before line after bad n
no_bad number (first ∷ before) line after bad (more s n) = no_bad (number + 1) before line after bad n

others_say : {nodes : Option ℕ} {number : ℕ} {line : List ℕ} {lines : List (List ℕ)} {acts : List Act} {numbers : List ℕ}
    → SayActs nodes number (line ∷ lines) acts numbers → (rest : List Act) × (places : List ℕ) × SayActs nodes (number + 1) lines rest places
others_say (empty e n) = (_, _, n)
others_say (more s n) = (_, _, n)

-- two bad lines with none before them stand at one place
one_place : (nodes : Option ℕ) (number : ℕ) (before befores : List (List ℕ)) (line other : List ℕ) (after afters : List (List ℕ))
    {acts others : List Act} {numbers places : List ℕ} → before ++ line ∷ after ≡ befores ++ other ∷ afters
    → SayActs nodes number before acts numbers → SayActs nodes number befores others places → IsBad nodes line → IsBad nodes other
    → length before ≡ length befores
one_place nodes number [] [] line other after afters e n m bad worse = refl
one_place nodes number [] (first ∷ befores) line other after afters {others = others} {places = places} e n m bad worse =
    let same : first ≡ line = cc in
    absurd (no_bad number [] line befores bad (subst (λ (l : List ℕ). SayActs nodes number (l ∷ befores) others places) same m))
one_place nodes number (first ∷ before) [] line other after afters {acts = acts} {numbers = numbers} e n m bad worse =
    let same : first ≡ other = cc in
    absurd (no_bad number [] other before worse (subst (λ (l : List ℕ). SayActs nodes number (l ∷ before) acts numbers) same n))
one_place nodes number (first ∷ before) (second ∷ befores) line other after afters e n m bad worse =
    let rest : before ++ line ∷ after ≡ befores ++ other ∷ afters = cc in
    let (some, at, n') = others_say n in
    let (more_acts, places, m') = others_say m in
    ap suc (one_place nodes (number + 1) before befores line other after afters rest n' m' bad worse)

one_first_bad : (nodes : Option ℕ) (lines : List (List ℕ)) (number other : ℕ) → IsFirstBad nodes lines number → IsFirstBad nodes lines other → number ≡ other
one_first_bad nodes lines number other a b =
    let (acts, numbers, good) = a.good in
    let (others, places, fine) = b.good in
    let same = one_place nodes 1 a.before b.before a.line b.line a.after b.after (sym a.whole ∙ b.whole) good fine a.bad b.bad in
    a.counted ∙ ap (λ n. n + 1) same ∙ sym b.counted

-- ---- one answer of a text

pub one_list : (nodes : Option ℕ) (text : List ℕ) (lined others : LinedActs) → ReadsActs nodes text (Ok lined) → ReadsActs nodes text (Ok others)
    → (lined.acts.items ≡ others.acts.items) × (lined.lines.items ≡ others.lines.items)
one_list nodes text lined others a b = one a.1 b.1

pub not_both : (nodes : Option ℕ) (text : List ℕ) (lined : LinedActs) (line : ℕ) → ReadsActs nodes text (Ok lined)
    → ReadsActs nodes text (Err (BadAct line)) → ⊥
not_both nodes text lined line a first =
    no_bad 1 first.1.before first.1.line first.1.after first.1.bad (subst (λ (lines : List (List ℕ)). SayActs nodes 1 lines lined.acts.items lined.lines.items) first.1.whole a.1)

pub one_bad_line : (nodes : Option ℕ) (text : List ℕ) (line other : ℕ) → ReadsActs nodes text (Err (BadAct line))
    → ReadsActs nodes text (Err (BadAct other)) → line ≡ other
one_bad_line nodes text line other a b = one_first_bad nodes (lines_of text) line other a.1 b.1

pub too_long : (nodes : Option ℕ) (text : List ℕ) (result : Result LinedActs ActsFault) → ReadsActs nodes text (Err TooLong)
    → ReadsActs nodes text result → MatchResult result (λ lined. ⊥) (λ fault. (fault ≡ TooLong) ⊎ (fault ≡ NoMemory))
too_long nodes text (Ok lined) long a = omega (arith, long, a.0)
too_long nodes text (Err TooLong) long a = inl refl
too_long nodes text (Err (BadAct line)) long a = absurd (omega (arith, long, a.0))
too_long nodes text (Err NoMemory) long a = inr refl
