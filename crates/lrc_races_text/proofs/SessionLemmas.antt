-- Lines, blocks, and what is told of them.
use Rattle.std.proofs.Common.{◌≡◌, ℕ, suc, ◌+◌, ◌<◌, ◌==◌, Bool, true, false, List, [], ◌∷◌, ◌++◌, length, inl, inr, sym, subst, refl, ◌∙◌, ap, arith, append_assoc, append-nil, length-append}
use Rattle.std.specs.Prelude.{Result, Ok, Err, IfErr, OnOk, flat_map}
use Rattle.std.proofs.lemmas.Result.{on_ok_weaker}
use Rattle.std.proofs.lemmas.Bool.{false≢true, eqb-true, eq-eqb}
use Rattle.lrc_races_lines.specs.Cause.{Why, line_any, line_long, line_too_long, why_text}
use Rattle.lrc_races_lines.specs.Line.{Saying}
use Rattle.lrc_races_text.specs.declared.asked.Asked.{Asked}
use Rattle.lrc_races_text.specs.declared.form.Form.{Form}
use Rattle.lrc_races_text.specs.declared.form.Form.TheVariants.{Std, Acts}
use Rattle.lrc_races_text.specs.declared.fault.Fault.{Fault}
use Rattle.lrc_races_text.specs.declared.fault.Fault.TheVariants as faults
use Rattle.lrc_races_text.specs.declared.halt.Halt.{Halt}
use Rattle.lrc_races_text.specs.declared.halt.Halt.TheVariants.{BadEvent, IllFormed, NoMemory}
use Rattle.lrc_races_text.specs.declared.ill.Ill.{Ill}
use Rattle.lrc_races_text.specs.declared.judged.Judged.{Judged}
use Rattle.lrc_races_text.specs.declared.session.Session.{Session}
use Rattle.lrc_races_text.specs.Ill.{IsFirstIll}
use Rattle.lrc_races_text.specs.Says.{Said, Say, no_line, blank_line, event_line, Says, SaysNothing, IsBad, IsCauseIn, IsWhyText}
use Rattle.lrc_races_text.specs.Halt.{halt_of}
use Rattle.lrc_races_text.specs.Judged.{HasHaltedOne, HasJudged, HasJudgedOne, HasToldAll, IsIllOne, NeverBad}
use Rattle.lrc_races_text.specs.Told.{IsCut, IsIllEvent, IsOneLine, AreLines, ended, Stops, IsWholeOf, IsToldOf}
use Rattle.lrc_races_text.specs.Session.{Text, FailsLine, HaltsLine, IsIllLine, IsIllNext, IsIllRest, NeverIll, LineSays, says_none, says_one, HasTakenLine, IsAt, HasCompleted, IsBadLine, HasKept, IsTooLong, HasLines, HasRead}
use Rattle.lrc_races_text.specs.Session.{HasDone, HasGoneOn, IsStoppedAt, HasEnded, HasFailed}
use Rattle.lrc_races_text.proofs.NamingLemmas.{flat_map-push}
use Rattle.lrc_races_text.proofs.JudgedLemmas.{told_of}

-- ---- one line

alone : {form : Form} {number n : ℕ} {line : List ℕ} {more : List Said} → number ≡ n → LineSays form number line more → Say form n (line ∷ []) more
alone e (says_none h) = blank_line h no_line
alone {form} {number} {n} {line} e (says_one {saying = saying} h) =
    subst (λ k. Say form n (line ∷ []) (record { line = k; saying = saying } ∷ [])) (sym e) (event_line h no_line)

pub say_push : {form : Form} (n : ℕ) {lines : List (List ℕ)} {said more : List Said} (line : List ℕ) → Say form n lines said
    → LineSays form (n + length lines) line more → Say form n (lines ++ line ∷ []) (said ++ more)
say_push n line no_line s = alone (omega arith) s
say_push {form} n {more = more} line (blank_line {lines = lines} h rest) s =
    let e : n + suc (length lines) ≡ n + 1 + length lines = omega arith in
    blank_line h (say_push (n + 1) line rest (subst (λ k. LineSays form k line more) e s))
say_push {form} n {more = more} line (event_line {lines = lines} h rest) s =
    let e : n + suc (length lines) ≡ n + 1 + length lines = omega arith in
    event_line h (say_push (n + 1) line rest (subst (λ k. LineSays form k line more) e s))

same_judged : {form : Form} {asked : Asked} {all : List Said} {told : List ℕ} {judged : Judged} → HasJudged form asked all told judged
    → HasJudged form asked (all ++ []) (told ++ []) judged
same_judged {form} {asked} {all} {told} {judged} h =
    subst (λ a. HasJudged form asked a (told ++ []) judged) (sym (append-nil all))
    (subst (λ t. HasJudged form asked all t judged) (sym (append-nil told)) h)

pub taken_none : (form : Form) (asked : Asked) (line : List ℕ) (number : ℕ) (judged : Judged) (old : List ℕ) → SaysNothing form line
    → HasTakenLine form asked line number judged old judged old
taken_none form asked line number judged old says = λ all told h. ([], [], says_none says, sym (append-nil old), same_judged h)

pub taken_one : {E : Type 0} (form : Form) (asked : Asked) (line : List ℕ) (number : ℕ) (saying : Saying) (before after : Judged) (old new : List ℕ)
    (result : Result Unit E) → Says form line saying
    → OnOk result (HasJudgedOne form asked (record { line = number; saying = saying }) before old after new)
    → OnOk result (HasTakenLine form asked line number before old after new)
taken_one form asked line number saying before after old new result says ok =
    on_ok_weaker result (λ (j : HasJudgedOne form asked (record { line = number; saying = saying }) before old after new).
    λ (all : List Said) (told : List ℕ) (h : HasJudged form asked all told before).
    let d = j all told h in (record { line = number; saying = saying } ∷ [], d.0, says_one says, d.1, d.2)) ok

pub completed : (before after : Session) (line part old new : List ℕ) (number : ℕ) → number ≡ before.lines + 1
    → HasTakenLine before.form before.asked line number before.judged old after.judged new → before.rest.items ++ part ≡ line
    → after.form ≡ before.form → after.asked ≡ before.asked → after.rest.items ≡ [] → after.lines ≡ number → HasCompleted before part old new after
completed before after line part old new number next taken is f g r n form asked lines rest told a =
    let taken_here = subst (λ x. HasTakenLine x asked line number before.judged old after.judged new) a.same_form
    (subst (λ x. HasTakenLine before.form x line number before.judged old after.judged new) a.same_asked taken) in
    let t = taken_here a.said told a.judged in
    let counted = a.counted in
    let number_is : number ≡ 1 + length lines = omega arith in
    let line_is : line ≡ rest ++ part = sym is ∙ ap (λ x. x ++ part) a.same_rest in
    let says = subst (λ k. LineSays form k (rest ++ part) t.0) number_is (subst (λ x. LineSays form number x t.0) line_is t.2) in
    let long = length-append lines ((rest ++ part) ∷ []) in (
      t.1,
      t.3,
      record {
        same_form = f ∙ a.same_form;
        same_asked = g ∙ a.same_asked;
        same_rest = r;
        short = omega arith;
        counted = omega arith;
        said = a.said ++ t.0;
        says = say_push 1 (rest ++ part) a.says says;
        judged = t.4;
      },
    )

pub kept_completed : {E : Type 0} (before mid after : Session) (part old new : List ℕ) (result : Result Unit E) → HasKept before part mid
    → OnOk result (HasCompleted mid [] old new after) → OnOk result (HasCompleted before part old new after)
kept_completed before mid after part old new result kept ok =
    on_ok_weaker result (λ (done : HasCompleted mid [] old new after).
    λ (form : Form) (asked : Asked) (lines : List (List ℕ)) (rest told : List ℕ) (a : IsAt form asked lines rest told before).
    let d = done form asked lines (rest ++ part) told (kept form asked lines rest told a) in
    (d.0, d.1, subst (λ l. IsAt form asked (lines ++ l ∷ []) [] (told ++ d.0) after) (append-nil (rest ++ part)) d.2)) ok

pub if_err : {V E : Type 0} {P Q : E → Type 0} (result : Result V E) → ((e : E) → P e → Q e) → IfErr result P → IfErr result Q
if_err (Ok v) f h = tt
if_err (Err e) f h = f e h

pub kept_bad : (before mid : Session) (part : List ℕ) (result : Result Unit Halt) → HasKept before part mid
    → IfErr result (IsBadLine mid []) → IfErr result (IsBadLine before part)
kept_bad before mid part result kept bad =
    if_err result (λ (halt : Halt) (b : IsBadLine mid [] halt).
    λ (form : Form) (asked : Asked) (lines : List (List ℕ)) (rest told : List ℕ) (a : IsAt form asked lines rest told before) (line : ℕ)
    (why : Text) (e : halt ≡ BadEvent line why).
    let d = b form asked lines (rest ++ part) told (kept form asked lines rest told a) line why e in (
      d.0,
      subst (λ l. IsBad form l) (append-nil (rest ++ part)) d.1,
      λ one. subst (λ l. IsWhyText form (length lines + 1) l why.items) (append-nil (rest ++ part))
          (d.2 (subst (λ l. IsOneLine l) (sym (append-nil (rest ++ part))) one)),
    )) bad

pub kept_ill : (before mid : Session) (part : List ℕ) (result : Result Unit Halt) → HasKept before part mid
    → IfErr result (IsIllRest mid []) → IfErr result (IsIllRest before part)
kept_ill before mid part result kept ill =
    if_err result (λ (halt : Halt) (b : IsIllRest mid [] halt).
    λ (form : Form) (asked : Asked) (lines : List (List ℕ)) (rest told : List ℕ) (a : IsAt form asked lines rest told before) (i : Ill)
    (e : halt ≡ IllFormed i).
    subst (λ l. IsIllNext form asked lines l told i.line i.why.items) (append-nil (rest ++ part))
    (b form asked lines (rest ++ part) told (kept form asked lines rest told a) i e)) ill

-- why a line is bad, by its form
pub cause_std : (form : Form) (line : List ℕ) (number : ℕ) (cause : Why) → form ≡ Std
    → (IsOneLine line → IsBad Std line → IsCauseIn Std number line cause) → IsOneLine line → IsBad form line → IsCauseIn form number line cause
cause_std form line number cause e h =
    subst (λ (f : Form). IsOneLine line → IsBad f line → IsCauseIn f number line cause) (sym e) h

pub cause_acts : (form : Form) (line : List ℕ) (number : ℕ) (cause : Why) → form ≡ Acts
    → IsCauseIn Acts number line cause → IsOneLine line → IsBad form line → IsCauseIn form number line cause
cause_acts form line number cause e is =
    subst (λ (f : Form). IsOneLine line → IsBad f line → IsCauseIn f number line cause) (sym e) (λ one bad. is)

-- the fault of a bad line
pub bad_fault : (form : Form) (line : List ℕ) (number : ℕ) (cause : Why) (fault : Fault) → IsBad form line
    → (IsOneLine line → IsBad form line → IsCauseIn form number line cause)
    → ((other : ℕ) (why : Text) → fault ≡ faults.BadEvent other why → (other ≡ number) × (why.items ≡ why_text cause)) → FailsLine form line number fault
bad_fault form line number cause fault bad causes says other why e =
    let d = says other why e in
    (d.0, bad, λ one. (cause, causes one bad, d.1))

-- the halt at a fault
bad_of : (fault : Fault) (line : ℕ) (why : Text) → halt_of fault ≡ BadEvent line why → fault ≡ faults.BadEvent line why
bad_of (faults.BadEvent other text) line why e =
    let same : other ≡ line = cc in
    let words : text ≡ why = cc in
    cc
bad_of faults.NoMemory line why e = let never : ⊥ = cc in absurd never

never_ill : (fault : Fault) → NeverIll (halt_of fault)
never_ill (faults.BadEvent line why) ill e = let never : ⊥ = cc in absurd never
never_ill faults.NoMemory ill e = let never : ⊥ = cc in absurd never

pub fault_never_ill : (fault : Fault) (halt : Halt) → halt ≡ halt_of fault → NeverIll halt
fault_never_ill fault halt is = subst (λ (h : Halt). NeverIll h) (sym is) (never_ill fault)

pub bad_halt : (form : Form) (line : List ℕ) (number : ℕ) (fault : Fault) (halt : Halt) → halt ≡ halt_of fault → FailsLine form line number fault
    → HaltsLine form line number halt
bad_halt form line number fault halt is fails other why e = fails other why (bad_of fault other why (sym is ∙ e))

pub bad_never_ill : (form : Form) (asked : Asked) (line : List ℕ) (number : ℕ) (before : Judged) (halt : Halt) → NeverIll halt
    → IsIllLine form asked line number before halt
bad_never_ill form asked line number before halt never all told h ill e = absurd (never ill e)

-- a line that says an event is not bad
pub event_never_bad : (form : Form) (line : List ℕ) (number : ℕ) (result : Result Unit Halt) → IfErr result NeverBad
    → IfErr result (HaltsLine form line number)
event_never_bad form line number result never =
    if_err result (λ (halt : Halt) (n : NeverBad halt). λ (other : ℕ) (why : Text) (e : halt ≡ BadEvent other why). absurd (n other why e)) never

pub event_ill : (form : Form) (asked : Asked) (line : List ℕ) (number : ℕ) (saying : Saying) (before : Judged) (result : Result Unit Halt) → Says form line saying
    → IfErr result (HasHaltedOne form asked (record { line = number; saying = saying }) before) → IfErr result (IsIllLine form asked line number before)
event_ill form asked line number saying before result says ill =
    if_err result (λ (halt : Halt) (o : HasHaltedOne form asked (record { line = number; saying = saying }) before halt).
    λ (all : List Said) (told : List ℕ) (h : HasJudged form asked all told before) (i : Ill) (e : halt ≡ IllFormed i).
    (saying, says, o all told h i e)) ill

-- a line that is bad, behind what was kept of it
pub bad_line : (before : Session) (line part : List ℕ) (number : ℕ) (halt : Halt) → number ≡ before.lines + 1
    → HaltsLine before.form line number halt → before.rest.items ++ part ≡ line → IsBadLine before part halt
bad_line before line part number halt next fails is form asked lines rest told a found why e =
    let d = fails found why e in
    let counted = a.counted in
    let line_is : line ≡ rest ++ part = sym is ∙ ap (λ x. x ++ part) a.same_rest in
    let number_is : number ≡ length lines + 1 = omega arith in (
      d.0 ∙ number_is,
      subst (λ l. IsBad form l) line_is (subst (λ f. IsBad f line) a.same_form d.1),
      λ one. subst (λ l. IsWhyText form (length lines + 1) l why.items) line_is
          (subst (λ n. IsWhyText form n line why.items) number_is
          (subst (λ f. IsWhyText f number line why.items) a.same_form (d.2 (subst (λ l. IsOneLine l) (sym line_is) one)))),
    )

-- a line that says an event that no program would give, likewise
pub ill_line : (before : Session) (line part : List ℕ) (number : ℕ) (halt : Halt) → number ≡ before.lines + 1
    → IsIllLine before.form before.asked line number before.judged halt → before.rest.items ++ part ≡ line → IsIllRest before part halt
ill_line before line part number halt next finds is form asked lines rest told a ill e =
    let finds_here = subst (λ x. IsIllLine x asked line number before.judged halt) a.same_form
    (subst (λ x. IsIllLine before.form x line number before.judged halt) a.same_asked finds) in
    let d = finds_here a.said told a.judged ill e in
    let counted = a.counted in
    let line_is : line ≡ rest ++ part = sym is ∙ ap (λ x. x ++ part) a.same_rest in
    let number_is : number ≡ length lines + 1 = omega arith in
    record {
      said = a.said;
      good = a.says;
      tells = told_of a.judged;
      saying = d.0;
      says = subst (λ l. Says form l d.0) line_is d.1;
      one = subst (λ n. IsIllOne asked a.said (record { line = n; saying = d.0 }) ill.line ill.why.items) number_is d.2;
    }

-- what is too long is so whatever was kept of it
pub too_long : (before : Session) (part : List ℕ) (number : ℕ) (fault : Fault) (halt : Halt) → halt ≡ halt_of fault → number ≡ before.lines + 1
    → 4096 < length before.rest.items + length part
    → ((line : ℕ) (why : Text) → fault ≡ faults.BadEvent line why → (line ≡ number) × (why.items ≡ why_text line_too_long))
    → IsTooLong before part halt
too_long before part number fault halt of next long says form asked lines rest told a found why e =
    let d = says found why (bad_of fault found why (sym of ∙ e)) in
    let counted = a.counted in
    let number_is : number ≡ length lines + 1 = omega arith in
    let same : length before.rest.items ≡ length rest = ap length a.same_rest in
    let both = length-append rest part in
    (d.0 ∙ number_is, omega arith, d.1)

pub long_bad : (form : Form) (line : List ℕ) → 4096 < length line → IsBad form line
long_bad Std line long = (λ n. let short = n.short in omega arith, λ saying says. let short = says.short in omega arith)
long_bad Acts line long = (λ n. let short = n.short in omega arith, λ saying says. let short = says.short in omega arith)

pub long_cause : (form : Form) (number : ℕ) (line : List ℕ) → 4096 < length line → IsCauseIn form number line line_too_long
long_cause Std number line long = line_any (line_long long)
long_cause Acts number line long = line_any (line_long long)

pub too_long_bad : (before : Session) (part : List ℕ) (halt : Halt) → IsTooLong before part halt → IsBadLine before part halt
too_long_bad before part halt t form asked lines rest told a line why e =
    let d = t form asked lines rest told a line why e in
    (d.0, long_bad form (rest ++ part) d.1, λ one. (line_too_long, long_cause form (length lines + 1) (rest ++ part) d.1, d.2))

pub too_long_never : (before : Session) (part : List ℕ) (halt : Halt) → NeverIll halt → IsIllRest before part halt
too_long_never before part halt never form asked lines rest told a ill e = absurd (never ill e)

-- what is told of the lines before an event that no program would give
pub ill_event : {form : Form} {asked : Asked} {lines : List (List ℕ)} {line told : List ℕ} {number : ℕ} {text : List ℕ} (behind : List (List ℕ))
    → IsIllNext form asked lines line told number text → IsIllEvent form asked (lines ++ line ∷ behind) number text told
ill_event {form} {asked} {lines} {line} {told} {number} {text} behind i =
    let one = i.one in
    record {
      strict = one.strict;
      before = lines;
      line = line;
      after = behind;
      whole = refl;
      counted = one.on_line;
      said = i.said;
      good = i.good;
      tells = i.tells;
      saying = i.saying;
      says = i.says;
      first = subst (λ n. IsFirstIll (i.said ++ record { line = n; saying = i.saying } ∷ []) number text) (sym one.on_line) one.first;
    }

-- ---- bytes and lines

pub lacks_both : (xs ys : List ℕ) → IsOneLine xs → IsOneLine ys → IsOneLine (xs ++ ys)
lacks_both [] ys a b = b
lacks_both (x ∷ xs) ys (ne, a) b = (ne, lacks_both xs ys a b)

lines_both : (xs ys : List (List ℕ)) → AreLines xs → AreLines ys → AreLines (xs ++ ys)
lines_both [] ys a b = b
lines_both (x ∷ xs) ys (one, a) b = (one, lines_both xs ys a b)

ended_both : (xs ys : List (List ℕ)) → flat_map ended (xs ++ ys) ≡ flat_map ended xs ++ flat_map ended ys
ended_both [] ys = refl
ended_both (x ∷ xs) ys = ap (λ t. ended x ++ t) (ended_both xs ys) ∙ sym (append_assoc (ended x) (flat_map ended xs) (flat_map ended ys))

pub cut_line : {bytes : List ℕ} {lines : List (List ℕ)} {rest : List ℕ} (part : List ℕ) → IsCut bytes lines rest → IsOneLine part
    → IsCut (bytes ++ (part ++ 10 ∷ [])) (lines ++ (rest ++ part) ∷ []) []
cut_line {bytes} {lines} {rest} part c one =
    let front = flat_map ended lines in
    let line = rest ++ part in
    record {
      whole = ap (λ b. b ++ (part ++ 10 ∷ [])) c.whole ∙ append_assoc front rest (part ++ 10 ∷ [])
          ∙ ap (λ t. front ++ t) (sym (append_assoc rest part (10 ∷ []))) ∙ sym (flat_map-push ended lines line)
          ∙ sym (append-nil (flat_map ended (lines ++ line ∷ [])));
      each = lines_both lines (line ∷ []) c.each (lacks_both rest part c.last one, tt);
      last = tt;
    }

pub cut_rest : {bytes : List ℕ} {lines : List (List ℕ)} {rest : List ℕ} (part : List ℕ) → IsCut bytes lines rest → IsOneLine part
    → IsCut (bytes ++ part) lines (rest ++ part)
cut_rest {bytes} {lines} {rest} part c one = record {
  whole = ap (λ b. b ++ part) c.whole ∙ append_assoc (flat_map ended lines) rest part;
  each = c.each;
  last = lacks_both rest part c.last one;
}

pub cut_both : {bytes others rest : List ℕ} {lines more : List (List ℕ)} → IsCut bytes lines [] → IsCut others more rest → IsCut (bytes ++ others) (lines ++ more) rest
cut_both {bytes} {others} {rest} {lines} {more} c d = record {
  whole = ap (λ b. b ++ others) (c.whole ∙ append-nil (flat_map ended lines)) ∙ ap (λ b. flat_map ended lines ++ b) d.whole
      ∙ sym (append_assoc (flat_map ended lines) (flat_map ended more) rest) ∙ ap (λ b. b ++ rest) (sym (ended_both lines more));
  each = lines_both lines more c.each d.each;
  last = d.last;
}

-- all bytes can be cut
pub record AreCut (bytes : List ℕ) : Type 0 where
  pub lines : List (List ℕ)
  pub rest : List ℕ
  pub cut : IsCut bytes lines rest

byte_more : (byte : ℕ) (bytes : List ℕ) → (byte ≡ 10 → ⊥) → (lines : List (List ℕ)) (rest : List ℕ) → IsCut bytes lines rest → AreCut (byte ∷ bytes)
byte_more byte bytes other [] rest c = record {
  lines = [];
  rest = byte ∷ rest;
  cut = record { whole = ap (λ b. byte ∷ b) c.whole; each = tt; last = (other, c.last) };
}
byte_more byte bytes other (line ∷ lines) rest c =
    let (one, more) = c.each in
    record {
      lines = (byte ∷ line) ∷ lines;
      rest = rest;
      cut = record { whole = ap (λ b. byte ∷ b) c.whole; each = ((other, one), more); last = c.last };
    }

pub cut_of : (bytes : List ℕ) → AreCut bytes
cut_of [] = record { lines = []; rest = []; cut = record { whole = refl; each = tt; last = tt } }
cut_of (byte ∷ bytes) = go (byte == 10) refl (cut_of bytes)
  where
    go : (b : Bool) → (byte == 10) ≡ b → AreCut bytes → AreCut (byte ∷ bytes)
    go true e c =
        let is = eqb-true byte 10 e in
        let d = c.cut in
        record {
          lines = [] ∷ c.lines;
          rest = c.rest;
          cut = record { whole = ap (λ x. x ∷ bytes) is ∙ ap (λ b. 10 ∷ b) d.whole; each = (tt, d.each); last = d.last };
        }
    go false e c = byte_more byte bytes (λ is. false≢true (sym e ∙ eq-eqb byte 10 is)) c.lines c.rest c.cut

-- ---- blocks

pub read_of : {form : Form} {asked : Asked} {bytes told : List ℕ} {session : Session} → HasLines form asked bytes told session → HasRead form asked bytes told session
read_of h =
    let a = h.at in
    record {
      has_lines = h;
      tells = record { lines = h.lines; rest = h.rest; cut = h.cut; short = a.short; said = a.said; says = a.says; tells = told_of a.judged };
    }

module _ {form : Form} {asked : Asked} {bytes told block left old mid : List ℕ} {session : Session}
    (d : HasDone form asked bytes told block left old mid session) where
  more_done : (part behind new : List ℕ) (after : Session) → left ≡ part ++ 10 ∷ behind → IsOneLine part → HasCompleted session part mid new after
      → HasDone form asked bytes told block behind old new after
  more_done part behind new after split one completes =
      let l = d.has_lines in
      let t = completes form asked l.lines l.rest (told ++ d.more) l.at in
      record {
        done = d.done ++ (part ++ 10 ∷ []);
        whole = d.whole ∙ ap (λ x. d.done ++ x) (split ∙ sym (append_assoc part (10 ∷ []) behind)) ∙ sym (append_assoc d.done (part ++ 10 ∷ []) behind);
        more = d.more ++ t.0;
        text = t.1 ∙ ap (λ x. x ++ t.0) d.text ∙ append_assoc old d.more t.0;
        has_lines = record {
          lines = l.lines ++ (l.rest ++ part) ∷ [];
          rest = [];
          cut = subst (λ b. IsCut b (l.lines ++ (l.rest ++ part) ∷ []) []) (append_assoc bytes d.done (part ++ 10 ∷ [])) (cut_line part l.cut one);
          at = subst (λ x. IsAt form asked (l.lines ++ (l.rest ++ part) ∷ []) [] x after) (append_assoc told d.more t.0) t.2;
        };
      }

  gone_on : (after : Session) → IsOneLine left → HasKept session left after
      → (more : List ℕ) × (mid ≡ old ++ more) × HasRead form asked (bytes ++ block) (told ++ more) after
  gone_on after one kept =
      let l = d.has_lines in (
        d.more,
        d.text,
        read_of (record {
          lines = l.lines;
          rest = l.rest ++ left;
          cut = subst (λ b. IsCut b l.lines (l.rest ++ left)) (append_assoc bytes d.done left ∙ ap (λ x. bytes ++ x) (sym d.whole)) (cut_rest left l.cut one);
          at = kept form asked l.lines l.rest (told ++ d.more) l.at;
        }),
      )

  stopped_long : (halt : Halt) → IsOneLine left → NeverIll halt → IsTooLong session left halt
      → (more : List ℕ) × (mid ≡ old ++ more) × Stops form asked (bytes ++ block) halt (told ++ more)
  stopped_long NoMemory one never long = (d.more, d.text, tt)
  stopped_long (IllFormed ill) one never long = absurd (never ill refl)
  stopped_long (BadEvent line why) one never long =
      let l = d.has_lines in
      let a = l.at in
      let t = long form asked l.lines l.rest (told ++ d.more) a line why refl in
      let cut : IsCut (bytes ++ block) l.lines (l.rest ++ left)
      = subst (λ b. IsCut b l.lines (l.rest ++ left)) (append_assoc bytes d.done left ∙ ap (λ x. bytes ++ x) (sym d.whole)) (cut_rest left l.cut one) in (
        d.more,
        d.text,
        (
          record {
            lines = l.lines;
            rest = l.rest ++ left;
            cut = cut;
            said = a.said;
            first = inr (a.says, t.0, t.1);
            tells = told_of a.judged;
          },
          record {
            lines = l.lines;
            rest = l.rest ++ left;
            cut = cut;
            before = l.lines;
            line = l.rest ++ left;
            after = [];
            whole = refl;
            counted = t.0;
            why = (line_too_long, long_cause form line (l.rest ++ left) t.1, t.2);
          },
        ),
      )

  -- the bytes, cut at a line of the block
  cut_here : (part behind : List ℕ) → left ≡ part ++ 10 ∷ behind → IsOneLine part → (c : AreCut behind)
      → IsCut (bytes ++ block) ((d.has_lines.lines ++ (d.has_lines.rest ++ part) ∷ []) ++ c.lines) c.rest
  cut_here part behind split one c =
      let l = d.has_lines in
      let whole : (bytes ++ d.done ++ (part ++ 10 ∷ [])) ++ behind ≡ bytes ++ block
      = append_assoc (bytes ++ d.done) (part ++ 10 ∷ []) behind ∙ ap (λ x. bytes ++ d.done ++ x) (append_assoc part (10 ∷ []) behind)
      ∙ append_assoc bytes d.done (part ++ 10 ∷ behind) ∙ ap (λ x. bytes ++ (d.done ++ x)) (sym split) ∙ ap (λ x. bytes ++ x) (sym d.whole) in
      subst (λ b. IsCut b ((l.lines ++ (l.rest ++ part) ∷ []) ++ c.lines) c.rest) whole (cut_both (cut_line part l.cut one) c.cut)

  stopped_bad : (part behind new : List ℕ) (halt : Halt) → left ≡ part ++ 10 ∷ behind → IsOneLine part → new ≡ mid → IsBadLine session part halt
      → IsIllRest session part halt → (more : List ℕ) × (new ≡ old ++ more) × Stops form asked (bytes ++ block) halt (told ++ more)
  stopped_bad part behind new NoMemory split one same bad finds = (d.more, same ∙ d.text, tt)
  stopped_bad part behind new (IllFormed ill) split one same bad finds =
      let l = d.has_lines in
      let c = cut_of behind in
      let lines = (l.lines ++ (l.rest ++ part) ∷ []) ++ c.lines in
      let next = finds form asked l.lines l.rest (told ++ d.more) l.at ill refl in (
        d.more,
        same ∙ d.text,
        record {
          lines = lines;
          rest = c.rest;
          cut = cut_here part behind split one c;
          ill = subst (λ ls. IsIllEvent form asked ls ill.line ill.why.items (told ++ d.more)) (sym (append_assoc l.lines ((l.rest ++ part) ∷ []) c.lines))
              (ill_event c.lines next);
        },
      )
  stopped_bad part behind new (BadEvent line why) split one same bad finds =
      let l = d.has_lines in
      let a = l.at in
      let t = bad form asked l.lines l.rest (told ++ d.more) a line why refl in
      let c = cut_of behind in
      let cut = cut_here part behind split one c in (
        d.more,
        same ∙ d.text,
        (
          record {
            lines = (l.lines ++ (l.rest ++ part) ∷ []) ++ c.lines;
            rest = c.rest;
            cut = cut;
            said = a.said;
            first = inl (record {
              before = l.lines;
              line = l.rest ++ part;
              after = c.lines;
              whole = append_assoc l.lines ((l.rest ++ part) ∷ []) c.lines;
              counted = t.0;
              good = a.says;
              bad = t.1;
            });
            tells = told_of a.judged;
          },
          record {
            lines = (l.lines ++ (l.rest ++ part) ∷ []) ++ c.lines;
            rest = c.rest;
            cut = cut;
            before = l.lines;
            line = l.rest ++ part;
            after = c.lines ++ c.rest ∷ [];
            whole = append_assoc (l.lines ++ (l.rest ++ part) ∷ []) c.lines (c.rest ∷ []) ∙ append_assoc l.lines ((l.rest ++ part) ∷ []) (c.lines ++ c.rest ∷ []);
            counted = t.0;
            why = subst (λ n. IsWhyText form n (l.rest ++ part) why.items) (sym t.0) (t.2 (lacks_both l.rest part l.cut.last one));
          },
        ),
      )

abbrev pub Invariant : Session → List ℕ → List ℕ → List ℕ → List ℕ → Session → Type 0
Invariant before block left old new session = (form : Form) (asked : Asked) (bytes told : List ℕ) → HasLines form asked bytes told before
    → HasDone form asked bytes told block left old new session

module _ (before session : Session) (block left old mid : List ℕ) (i : Invariant before block left old mid session) where
  pub invariant_more : (part behind new : List ℕ) (after : Session) → left ≡ part ++ 10 ∷ behind → IsOneLine part → HasCompleted session part mid new after
      → Invariant before block behind old new after
  invariant_more part behind new after split one completes form asked bytes told h = more_done (i form asked bytes told h) part behind new after split one completes

  pub ends_ok : {E : Type 0} (after : Session) (result : Result Unit E) → IsOneLine left → OnOk result (HasKept session left after)
      → OnOk result (HasGoneOn before block old mid after)
  ends_ok after result one ok = on_ok_weaker result (λ (kept : HasKept session left after).
      λ (form : Form) (asked : Asked) (bytes told : List ℕ) (h : HasRead form asked bytes told before).
      gone_on (i form asked bytes told h.has_lines) after one kept) ok

  pub ends_bad : (result : Result Unit Halt) → IsOneLine left → IfErr result NeverIll → IfErr result (IsTooLong session left)
      → IfErr result (IsStoppedAt before block old mid)
  ends_bad (Ok done) one never bad = tt
  ends_bad (Err halt) one never bad = λ (form : Form) (asked : Asked) (bytes told : List ℕ) (h : HasRead form asked bytes told before).
      stopped_long (i form asked bytes told h.has_lines) halt one never bad

  pub line_bad : (part behind new : List ℕ) (halt : Halt) → left ≡ part ++ 10 ∷ behind → IsOneLine part → new ≡ mid → IsBadLine session part halt
      → IsIllRest session part halt → IsStoppedAt before block old new halt
  line_bad part behind new halt split one same bad finds form asked bytes told h =
      stopped_bad (i form asked bytes told h.has_lines) part behind new halt split one same bad finds

-- ---- the end

pub ended_well : (before mid : Session) (old between new : List ℕ) (status : ℕ) → HasCompleted before [] old between mid
    → HasToldAll mid.form mid.asked mid.judged between new status → HasEnded before old new status
ended_well before mid old between new status completes all form asked bytes told h =
    let l = h.has_lines in
    let t = completes form asked l.lines l.rest told l.at in
    let a = t.2 in
    let all_here = subst (λ x. HasToldAll form x mid.judged between new status) a.same_asked
    (subst (λ x. HasToldAll x mid.asked mid.judged between new status) a.same_form all) in
    let e = all_here a.said (told ++ t.0) a.judged in (
      t.0 ++ e.0,
      e.1 ∙ ap (λ x. x ++ e.0) t.1 ∙ append_assoc old t.0 e.0,
      record {
        lines = l.lines;
        rest = l.rest;
        cut = l.cut;
        said = a.said;
        says = subst (λ x. Say form 1 (l.lines ++ x ∷ []) a.said) (append-nil l.rest) a.says;
        tells = subst (λ x. IsWholeOf form asked a.said status x) (append_assoc told t.0 e.0) e.2;
      },
    )

pub failed_line : (before : Session) (old new : List ℕ) (halt : Halt) → new ≡ old → IsBadLine before [] halt → IsIllRest before [] halt
    → HasFailed before old new halt
failed_line before old new NoMemory same bad finds form asked bytes told h = ([], same ∙ sym (append-nil old), tt)
failed_line before old new (IllFormed ill) same bad finds form asked bytes told h =
    let l = h.has_lines in
    let next = finds form asked l.lines l.rest told l.at ill refl in
    let here = subst (λ x. IsIllEvent form asked (l.lines ++ x ∷ []) ill.line ill.why.items told) (append-nil l.rest) (ill_event [] next) in (
      [],
      same ∙ sym (append-nil old),
      record {
        lines = l.lines;
        rest = l.rest;
        cut = l.cut;
        ill = subst (λ x. IsIllEvent form asked (l.lines ++ l.rest ∷ []) ill.line ill.why.items x) (sym (append-nil told)) here;
      },
    )
failed_line before old new (BadEvent line why) same bad finds form asked bytes told h =
    let l = h.has_lines in
    let a = l.at in
    let t = bad form asked l.lines l.rest told a line why refl in (
      [],
      same ∙ sym (append-nil old),
      (
        record {
          lines = l.lines;
          rest = l.rest;
          cut = l.cut;
          said = a.said;
          first = record {
            before = l.lines;
            line = l.rest;
            after = [];
            whole = refl;
            counted = t.0;
            good = a.says;
            bad = subst (λ x. IsBad form x) (append-nil l.rest) t.1;
          };
          tells = subst (λ x. IsToldOf form asked a.said x) (sym (append-nil told)) (told_of a.judged);
        },
        record {
          lines = l.lines;
          rest = l.rest;
          cut = l.cut;
          before = l.lines;
          line = l.rest;
          after = [];
          whole = refl;
          counted = t.0;
          why = subst (λ n. IsWhyText form n l.rest why.items) (sym t.0)
              (subst (λ x. IsWhyText form (length l.lines + 1) x why.items) (append-nil l.rest)
              (t.2 (subst (λ x. IsOneLine x) (sym (append-nil l.rest)) l.cut.last)));
        },
      ),
    )

pub failed_memory : (before mid : Session) (old between new : List ℕ) → HasCompleted before [] old between mid → new ≡ between
    → HasFailed before old new NoMemory
failed_memory before mid old between new completes same form asked bytes told h =
    let l = h.has_lines in
    let t = completes form asked l.lines l.rest told l.at in (t.0, same ∙ t.1, tt)

-- before any byte
pub read_none : (form : Form) (asked : Asked) (session : Session) → session.form ≡ form → session.asked ≡ asked → session.lines ≡ 0
    → session.rest.items ≡ [] → HasJudged form asked [] [] session.judged → HasRead form asked [] [] session
read_none form asked session f g n r h = read_of (record {
  lines = [];
  rest = [];
  cut = record { whole = refl; each = tt; last = tt };
  at = record { same_form = f; same_asked = g; same_rest = r; short = omega arith; counted = n; said = []; says = no_line; judged = h };
})
