-- The text of a run's acts says just its acts.
use Rattle.std.proofs.Common.{◌≡◌, ℕ, ◌+◌, ◌^◌, ◌<◌, ◌≤◌, ◌==◌, List, [], ◌∷◌, ◌++◌, length, drop, inl, sym, subst, refl, ◌∙◌, ap, arith}
use Rattle.std.proofs.Common.{append_assoc, append-nil, length-append, All, None}
use Rattle.std.specs.Prelude.{true, codes, decimal, flat_map, slice_index}
use Rattle.std.specs.List.{before_first, slice_split, enumerate_from}
use Rattle.std.specs.Str.Parse.{AllDigits}
use Rattle.std.proofs.lemmas.Fmt.{length-decimal-le}
use Rattle.std.proofs.lemmas.List.Elements.{All-cons, All-head, All-tail}
use Rattle.std.proofs.lemmas.Str.Parse.{tells_digits}
use Rattle.lrc_trace.specs.declared.act.Act.{Act}
use Rattle.lrc_trace.specs.declared.act.Cause.{Cause}
use Rattle.lrc_trace.specs.declared.act.Cause.TheVariants.{DivisionByZero, WordOutOfRange, LockOutOfRange, LockHeld, LockNotHeld}
use Rattle.lrc_trace.specs.declared.act.Deed.{Deed}
use Rattle.lrc_trace.specs.declared.act.Deed.TheVariants.{Quiet, Print, Read, Write, Acquire, Release, Arrive, Depart, Trap, End}
use Rattle.lrc_text.specs.ActText.{act_line, act_text, cause_number, deed_text}
use Rattle.lrc_text.specs.Lines.{lines_of}
use Rattle.lrc_acts.specs.ActsText.{SayActs, SaysAct, SaysDeed, empty, more, words_on}
use Rattle.lrc_acts.specs.Printed.{IsRanged, IsRangedDeed, line_more, nothing}
use Rattle.lrc_acts.proofs.PrintLemmas.{printed_from}
use Rattle.lrc_acts.proofs.WordLemmas.{take_one}
use Rattle.lrc_races_lines.specs.Lacking.{Lacks}
use Rattle.lrc_races_lines.proofs.Spelled.{lacks-append}
use Rattle.lrc_races_text.specs.declared.form.Form.TheVariants.{Acts}
use Rattle.lrc_races_text.specs.Acts.{IsDigit, SaysOperation, SaysAct as SaysEvent, comment_on, IsLocation, quiet, ends, prints, traps}
use Rattle.lrc_races_text.specs.Says.{Say, no_line, event_line}
use Rattle.lrc_races_text.specs.Told.{AreLines, ended}
use Rattle.lrc_races_laws.specs.Said.{kind_of_deed, target_of_deed, saying_of_act, acts_said}
use Rattle.lrc_races_laws.proofs.Bytes.{number_lacks, number_short, numeral, tests_words, words_lack, plain_lacks, not_equal}
use Rattle.lrc_races_laws.proofs.Fronts.{IsGood}

-- each act is of a line of a text of at most 65,536 bytes
abbrev pub AreLow : List ℕ → Type 0
AreLow lines = (k : ℕ) → slice_index lines k ≤ 65537

-- the line of an act without its line feed
abbrev pub act_body : ℕ → Act → List ℕ
act_body line act = act_text act ++ codes " # line " ++ decimal line

-- ---- no byte of an act is a line feed, or the sign of a comment

cause_few : (cause : Cause) → cause_number cause < 10 ^ 64
cause_few DivisionByZero = omega arith
cause_few WordOutOfRange = omega arith
cause_few LockOutOfRange = omega arith
cause_few LockHeld = omega arith
cause_few LockNotHeld = omega arith

module _ (x : ℕ) (low : x < 48) (unblank : x ≡ 32 → ⊥) where
  one_lacks : (front : List ℕ) (n : ℕ) → tests_words front ≡ true → n < 10 ^ 64 → Lacks x (front ++ decimal n)
  one_lacks front n words few = lacks-append x front (decimal n) (words_lack x front low unblank words) (number_lacks x n low few)

  two_lacks : (front : List ℕ) (n m : ℕ) → tests_words front ≡ true → n < 10 ^ 64 → m < 10 ^ 64 → Lacks x (front ++ decimal n ++ codes " " ++ decimal m)
  two_lacks front n m words few less =
      lacks-append x (front ++ decimal n ++ codes " ") (decimal m)
      (lacks-append x (front ++ decimal n) (codes " ") (one_lacks front n words few) (words_lack x (codes " ") low unblank refl))
      (number_lacks x m low less)

  deed_lacks : (deed : Deed) → IsRangedDeed deed → Lacks x (deed_text deed)
  deed_lacks Quiet h = words_lack x (codes "quiet") low unblank refl
  deed_lacks (Print v) h = one_lacks (codes "print ") v refl (omega (arith, h))
  deed_lacks (Read w v) h = two_lacks (codes "read ") w v refl (omega (arith, h.0)) (omega (arith, h.1))
  deed_lacks (Write w v) h = two_lacks (codes "write ") w v refl (omega (arith, h.0)) (omega (arith, h.1))
  deed_lacks (Acquire l) h = one_lacks (codes "acquire ") l refl (omega (arith, h))
  deed_lacks (Release l) h = one_lacks (codes "release ") l refl (omega (arith, h))
  deed_lacks Arrive h = words_lack x (codes "arrive") low unblank refl
  deed_lacks Depart h = words_lack x (codes "depart") low unblank refl
  deed_lacks (Trap cause) h = one_lacks (codes "trap ") (cause_number cause) refl (cause_few cause)
  deed_lacks End h = words_lack x (codes "end") low unblank refl

  act_lacks : (act : Act) → IsRanged act → Lacks x (act_text act)
  act_lacks act h =
      lacks-append x (decimal act.node ++ codes " ") (deed_text act.deed)
      (lacks-append x (decimal act.node) (codes " ") (number_lacks x act.node low (omega (arith, h.node))) (words_lack x (codes " ") low unblank refl))
      (deed_lacks act.deed h.deed)

body_lacks : (line : ℕ) (act : Act) → IsRanged act → line ≤ 65537 → Lacks 10 (act_body line act)
body_lacks line act h few =
    lacks-append 10 (act_text act ++ codes " # line ") (decimal line)
    (lacks-append 10 (act_text act) (codes " # line ") (act_lacks 10 (omega arith) (λ e. omega arith) act h) (plain_lacks 10 (codes " # line ") (omega arith) refl))
    (number_lacks 10 line (omega arith) (omega arith))

-- ---- the words of a line

split_first : (w ys : List ℕ) → Lacks 10 w → slice_split (λ byte. byte == 10) (w ++ 10 ∷ ys) ≡ w ∷ slice_split (λ byte. byte == 10) ys
split_first [] ys l = refl
split_first (x ∷ w) ys (ne, l) = rw (not_equal x 10 ne) (rw (split_first w ys l) refl)

nothing_said : {number : ℕ} {act : Act} {acts : List Act} {numbers : List ℕ} → SayActs None number [] (act ∷ acts) numbers → ⊥
nothing_said h = elim h [ ]

last_said : {number : ℕ} {act : Act} {acts : List Act} {numbers : List ℕ} → SayActs None number ([] ∷ []) (act ∷ acts) numbers → ⊥
last_said (empty e rest) = nothing_said rest
last_said (more s rest) = let never : [] ≡ s.digits ∷ s.rest = s.whole in cc

first_said : {number : ℕ} {line : List ℕ} {act : Act} {numbers : List ℕ} → SayActs None number (line ∷ [] ∷ []) (act ∷ []) numbers
    → SaysAct None (words_on line) act
first_said (empty e rest) = absurd (last_said rest)
first_said (more s rest) = s

module _ (line : ℕ) (act : Act) (h : IsRanged act) (few : line ≤ 65537) where
  text_lines : lines_of (act_line act line ++ []) ≡ act_body line act ∷ [] ∷ []
  text_lines =
      ap lines_of (append_assoc (act_body line act) (10 ∷ []) [])
      ∙ split_first (act_body line act) [] (body_lacks line act h few)

  pub act_said : SaysAct None (words_on (act_body line act)) act
  act_said =
      first_said (subst (λ (ls : List (List ℕ)). SayActs None 1 ls (act ∷ []) (1 ∷ [])) text_lines
      (printed_from 1 (line_more act line (omega arith) h nothing)))

-- ---- what they say

cause_some : (cause : Cause) → 1 ≤ cause_number cause
cause_some DivisionByZero = omega arith
cause_some WordOutOfRange = omega arith
cause_some LockOutOfRange = omega arith
cause_some LockHeld = omega arith
cause_some LockNotHeld = omega arith

deed_said : (words : List (List ℕ)) (deed : Deed) → SaysDeed words deed → SaysOperation words (kind_of_deed deed) (target_of_deed deed)
deed_said words (Read w v) h = record {
  digits = h.word_digits;
  value_digits = h.value_digits;
  whole = h.whole;
  accessed = record { says = record { number = w; says = h.says_word; is = refl }; value = v; says_value = h.says_value };
}
deed_said words (Write w v) h = record {
  digits = h.word_digits;
  value_digits = h.value_digits;
  whole = h.whole;
  accessed = record { says = record { number = w; says = h.says_word; is = refl }; value = v; says_value = h.says_value };
}
deed_said words (Acquire l) h =
    let says = h.says in
    record {
      digits = h.digits;
      whole = h.whole;
      says = record { number = l; says = record { numeral = says.numeral; value = says.value; small = omega (arith, says.small) }; is = refl };
    }
deed_said words (Release l) h =
    let says = h.says in
    record {
      digits = h.digits;
      whole = h.whole;
      says = record { number = l; says = record { numeral = says.numeral; value = says.value; small = omega (arith, says.small) }; is = refl };
    }
deed_said words Arrive h = (h, refl)
deed_said words Depart h = (h, refl)
deed_said words Quiet h = (quiet h, refl)
deed_said words End h = (ends h, refl)
deed_said words (Print v) h = (prints {value = v} h, refl)
deed_said words (Trap cause) h = (traps {cause = cause_number cause} (cause_some cause) h, refl)

-- ---- the comment

before_sign : (front rest : List ℕ) → Lacks 35 front → before_first (λ byte. byte == 35) (front ++ 35 ∷ rest) ≡ front
before_sign [] rest l = refl
before_sign (x ∷ front) rest (ne, l) =
    rw (not_equal x 35 ne) (take_one _ x (front ++ 35 ∷ rest) ∙ ap (λ (r : List ℕ). x ∷ r) (before_sign front rest l))

drop_front : (front rest : List ℕ) → drop (length front) (front ++ rest) ≡ rest
drop_front [] rest = refl
drop_front (x ∷ front) rest = drop_front front rest

digits_all : (ds : List ℕ) → AllDigits 10 ds → All IsDigit ds
digits_all [] all = λ i d lt. absurd (omega arith)
digits_all (d ∷ ds) all = let h = tells_digits.parts d ds all in All-cons IsDigit d ds (h.0.0, h.0.1) (digits_all ds h.1)

module _ (line : ℕ) (act : Act) (h : IsRanged act) (few : line ≤ 65537) where
  abbrev front : List ℕ
  front = act_text act ++ 32 ∷ []

  abbrev behind : List ℕ
  behind = codes " line " ++ decimal line

  body_parted : act_body line act ≡ front ++ 35 ∷ behind
  body_parted = append_assoc (act_text act) (codes " # line ") (decimal line) ∙ sym (append_assoc (act_text act) (32 ∷ []) (35 ∷ behind))

  comment_is : comment_on (act_body line act) ≡ codes "# line " ++ decimal line ++ []
  comment_is =
      let lacks = lacks-append 35 (act_text act) (32 ∷ []) (act_lacks 35 (omega arith) (λ e. omega arith) act h) ((λ e. omega arith), tt) in
      ap comment_on body_parted
      ∙ ap (λ (f : List ℕ). drop (length f) (front ++ 35 ∷ behind)) (before_sign front behind lacks)
      ∙ drop_front front (35 ∷ behind)
      ∙ sym (append-nil (codes "# line " ++ decimal line))

  located : IsLocation (comment_on (act_body line act)) (decimal line)
  located =
      let digits = numeral line (omega arith) in
      inl (record {
        rest = [];
        whole = comment_is;
        some = digits.0;
        few = length-decimal-le 10 line (omega arith) (omega arith) (omega arith);
        all = digits_all (decimal line) digits.1;
        ends = tt;
      })

  deed_short : (deed : Deed) → IsRangedDeed deed → length (deed_text deed) ≤ 200
  deed_short Quiet r = omega arith
  deed_short (Print v) r = let a = number_short v (omega (arith, r)) in omega arith
  deed_short (Read w v) r =
      let a = number_short w (omega (arith, r.0)) in
      let b = number_short v (omega (arith, r.1)) in
      let c = length-append (codes "read " ++ decimal w ++ codes " ") (decimal v) in
      let d = length-append (codes "read " ++ decimal w) (codes " ") in
      omega arith
  deed_short (Write w v) r =
      let a = number_short w (omega (arith, r.0)) in
      let b = number_short v (omega (arith, r.1)) in
      let c = length-append (codes "write " ++ decimal w ++ codes " ") (decimal v) in
      let d = length-append (codes "write " ++ decimal w) (codes " ") in
      omega arith
  deed_short (Acquire l) r = let a = number_short l (omega (arith, r)) in omega arith
  deed_short (Release l) r = let a = number_short l (omega (arith, r)) in omega arith
  deed_short Arrive r = omega arith
  deed_short Depart r = omega arith
  deed_short (Trap cause) r = let a = number_short (cause_number cause) (cause_few cause) in omega arith
  deed_short End r = omega arith

  body_short : length (act_body line act) ≤ 4096
  body_short =
      let a = number_short act.node (omega (arith, h.node)) in
      let b = deed_short act.deed h.deed in
      let c = number_short line (omega arith) in
      let d = length-append (act_text act ++ codes " # line ") (decimal line) in
      let e = length-append (act_text act) (codes " # line ") in
      let f = length-append (decimal act.node ++ codes " ") (deed_text act.deed) in
      let g = length-append (decimal act.node) (codes " ") in
      omega arith

  pub says_act : SaysEvent (act_body line act) (saying_of_act line act)
  says_act =
      let s = act_said line act h few in
      let node = s.node in
      record {
        short = body_short;
        digits = s.digits;
        rest = s.rest;
        whole = s.whole;
        thread = record {
          number = act.node;
          says = record { numeral = node.numeral; value = node.value; small = omega (arith, node.small) };
          is = refl;
        };
        operation = deed_said s.rest act.deed s.deed;
        location = located;
      }

-- ---- all lines

abbrev pub act_bodies : ℕ → List ℕ → List Act → List (List ℕ)
act_bodies before lines [] = []
act_bodies before lines (act ∷ acts) = act_body (slice_index lines before) act ∷ act_bodies (before + 1) lines acts

module _ (lines : List ℕ) (few : AreLow lines) where
  bodies_whole : (before : ℕ) (acts : List Act)
      → flat_map (λ at. act_line at.1 (slice_index lines at.0)) (enumerate_from before acts) ≡ flat_map ended (act_bodies before lines acts)
  bodies_whole before [] = refl
  bodies_whole before (act ∷ acts) = ap (λ t. act_line act (slice_index lines before) ++ t) (bodies_whole (before + 1) acts)

  bodies_lines : (before : ℕ) (acts : List Act) → All IsRanged acts → AreLines (act_bodies before lines acts)
  bodies_lines before [] all = tt
  bodies_lines before (act ∷ acts) all =
      (body_lacks (slice_index lines before) act (All-head IsRanged act acts all) (few before), bodies_lines (before + 1) acts (All-tail IsRanged act acts all))

  bodies_say : (before : ℕ) (acts : List Act) → All IsRanged acts → Say Acts (before + 1) (act_bodies before lines acts) (acts_said before lines acts)
  bodies_say before [] all = no_line
  bodies_say before (act ∷ acts) all =
      event_line (says_act (slice_index lines before) act (All-head IsRanged act acts all) (few before))
      (bodies_say (before + 1) acts (All-tail IsRanged act acts all))

  pub acts_good : (acts : List Act) → All IsRanged acts
      → IsGood Acts (flat_map (λ at. act_line at.1 (slice_index lines at.0)) (enumerate_from 0 acts)) (act_bodies 0 lines acts) (acts_said 0 lines acts)
  acts_good acts all = record { whole = bodies_whole 0 acts; each = bodies_lines 0 acts all; says = bodies_say 0 acts all }
