-- Lines and blocks, whatever is kept of the lines.
use Rattle.std.proofs.Common.{◌≡◌, ℕ, ◌+◌, ◌<◌, ◌≤◌, Bool, true, false, List, [], ◌∷◌, ◌++◌, length, inl, inr, sym, subst, refl, ◌∙◌, ap, arith, append_assoc, length-append}
use Rattle.std.specs.Prelude.{Result, Ok, Err, IfErr, IfOk, OnOk}
use Rattle.std.proofs.lemmas.Bool.{cases_lt}
use Rattle.std.proofs.lemmas.Result.{on_ok_weaker}
use Rattle.lrc_races_lines.specs.Cause.{line_too_long, why_text}
use Rattle.lrc_races_text.specs.declared.asked.Sought.{Sought}
use Rattle.lrc_races_text.specs.declared.form.Form.{Form}
use Rattle.lrc_races_text.specs.declared.fault.Fault.{Fault}
use Rattle.lrc_races_text.specs.declared.fault.Fault.TheVariants.{BadEvent, NoMemory}
use Rattle.lrc_races_text.specs.Says.{IsBad, IsWhyText}
use Rattle.lrc_races_text.specs.Session.{Text}
use Rattle.lrc_races_text.specs.Told.{IsCut, IsOneLine}
use Rattle.lrc_races_text.proofs.SessionLemmas.{cut_both, cut_line, cut_of, cut_rest, if_err, lacks_both, long_bad, long_cause}
use Rattle.lrc_races_front.specs.declared.front.Front.{Front}
use Rattle.lrc_races_front.specs.Front.{HasCome, HasRead, HasTaken, IsAt, IsBadAt, IsBadLine, Keeping, all_lines, bad_line, bad_rest}
use Rattle.lrc_races_front.specs.Steps.{Goes, HasCompleted, HasDone, HasEnded, HasGoneOn, HasGrown, HasTakenPart, IsBadEnd, IsBadPart, IsBadRest, IsEnd, IsStopped, IsTooLong, Stops}

pub too_long : {K : Type 0} (Has : Sought → Keeping K) (before : Front K) (kept : K) (part : List ℕ) (number : ℕ) (fault : Fault) → number ≡ before.lines + 1
    → 4096 < length before.rest.items + length part
    → ((line : ℕ) (why : Text) → fault ≡ BadEvent line why → (line ≡ number) × (why.items ≡ why_text line_too_long))
    → kept ≡ before.kept → IsTooLong Has before part kept fault
too_long Has before kept part number fault next long says same_kept sought form last lines rest a line why e =
    let d = says line why e in
    let counted = a.counted in
    let number_is : number ≡ length lines + 1 = omega arith in
    let same : length before.rest.items ≡ length rest = ap length a.same_rest in
    let both = length-append rest part in
    let longer : 4096 < length (rest ++ part) = omega arith in (
      d.0 ∙ number_is,
      longer,
      record {
        before = lines;
        line = rest ++ part;
        after = [];
        whole = refl;
        counted = d.0 ∙ number_is;
        good = subst (Has sought form lines) (sym same_kept) a.kept;
        bad = long_bad form (rest ++ part) longer;
        why = (line_too_long, long_cause form line (rest ++ part) longer, d.1);
      },
    )

pub completed : {K : Type 0} (Has : Sought → Keeping K) (before after : Front K) (line : List ℕ) (number : ℕ) → number ≡ before.lines + 1
    → HasTaken Has before.form line number before.kept after.kept → line ≡ before.rest.items → after.form ≡ before.form → after.last ≡ before.last
    → after.rest.items ≡ [] → after.lines ≡ number → HasCompleted Has before after
completed Has before after line number next taken is f g r n sought form last lines rest a =
    let counted = a.counted in
    let number_is : number ≡ length lines + 1 = omega arith in
    let taken_here = subst (λ l. HasTaken Has form l number before.kept after.kept) (is ∙ a.same_rest)
    (subst (λ x. HasTaken Has x line number before.kept after.kept) a.same_form taken) in
    let long = length-append lines (rest ∷ []) in
    record {
      same_form = f ∙ a.same_form;
      same_last = g ∙ a.same_last;
      same_rest = r;
      short = omega arith;
      counted = omega arith;
      kept = taken_here sought lines number_is a.kept;
    }

pub rest_bad : {K : Type 0} (Has : Sought → Keeping K) (before : Front K) (kept : K) (line : List ℕ) (number : ℕ) (fault : Fault) → number ≡ before.lines + 1
    → IsBadLine before.form line number before.kept kept fault → line ≡ before.rest.items → IsBadRest Has before kept fault
rest_bad Has before kept line number fault next bad is sought form last lines rest a one found why e =
    let d = bad.fails found why e in
    let counted = a.counted in
    let number_is : number ≡ length lines + 1 = omega arith in
    let line_is : line ≡ rest = is ∙ a.same_rest in (
      d.0 ∙ number_is,
      record {
        before = lines;
        line = rest;
        after = [];
        whole = refl;
        counted = d.0 ∙ number_is;
        good = subst (Has sought form lines) (sym (bad.same found why e)) a.kept;
        bad = subst (λ l. IsBad form l) line_is (subst (λ f. IsBad f line) a.same_form d.1);
        why = subst (λ n. IsWhyText form n rest why.items) (sym d.0) (subst (λ l. IsWhyText form number l why.items) line_is
            (subst (λ f. IsWhyText f number line why.items) a.same_form (d.2 (subst (λ l. IsOneLine l) (sym line_is) one))));
      },
    )

-- a line of which a part came before
pub part_taken : {K E : Type 0} (Has : Sought → Keeping K) (before mid after : Front K) (part : List ℕ) (result : Result Unit E) → HasGrown Has before part mid
    → OnOk result (HasCompleted Has mid after) → OnOk result (HasTakenPart Has before part after)
part_taken Has before mid after part result grows ok =
    on_ok_weaker result (λ (done : HasCompleted Has mid after).
    λ (sought : Sought) (form : Form) (last : ℕ) (lines : List (List ℕ)) (rest : List ℕ) (a : IsAt (Has sought) form last lines rest before).
    done sought form last lines (rest ++ part) (grows sought form last lines rest a)) ok

pub part_bad : {K : Type 0} (Has : Sought → Keeping K) (before mid : Front K) (kept : K) (part : List ℕ) (result : Result Unit Fault)
    → HasGrown Has before part mid → IfErr result (IsBadRest Has mid kept)
    → IfErr result (IsBadPart Has before part kept)
part_bad Has before mid kept part result grows bad =
    if_err result (λ (fault : Fault) (b : IsBadRest Has mid kept fault).
    λ (sought : Sought) (form : Form) (last : ℕ) (lines : List (List ℕ)) (rest : List ℕ) (a : IsAt (Has sought) form last lines rest before) (one : IsOneLine (rest ++ part)).
    b sought form last lines (rest ++ part) (grows sought form last lines rest a) one) bad

pub part_long : {K : Type 0} (Has : Sought → Keeping K) (before : Front K) (kept : K) (part : List ℕ) (fault : Fault) → IsTooLong Has before part kept fault
    → IsBadPart Has before part kept fault
part_long Has before kept part fault long sought form last lines rest a one line why e =
    let t = long sought form last lines rest a line why e in (t.0, t.2)

-- ---- blocks

if_ok : {V E : Type 0} {P Q : V → Type 0} (result : Result V E) → ((v : V) → P v → Q v) → IfOk result P → IfOk result Q
if_ok (Ok v) f h = f v h
if_ok (Err e) f h = tt

-- what is bad stays the first that is
bad_more : {K : Type 0} {Has : Keeping K} {form : Form} {lines : List (List ℕ)} {number : ℕ} {text : List ℕ} {kept : K} (more : List (List ℕ))
    → IsBadAt Has form lines number text kept → IsBadAt Has form (lines ++ more) number text kept
bad_more more b = record {
  before = b.before;
  line = b.line;
  after = b.after ++ more;
  whole = ap (λ x. x ++ more) b.whole ∙ append_assoc b.before (b.line ∷ b.after) more;
  counted = b.counted;
  good = b.good;
  bad = b.bad;
  why = b.why;
}

module _ {K : Type 0} (Has : Sought → Keeping K) (sought : Sought) {form : Form} {last : ℕ} {bytes block left : List ℕ} {front : Front K}
    (d : HasDone (Has sought) form last bytes block left front) (part behind : List ℕ)
    (split : left ≡ part ++ 10 ∷ behind) (one : IsOneLine part) where
  -- the bytes, with the line that the part ends, and the lines behind it
  cut_here : (c : List (List ℕ)) (rest : List ℕ) → IsCut behind c rest
      → IsCut (bytes ++ block) ((d.read.lines ++ (d.read.rest ++ part) ∷ []) ++ c) rest
  cut_here c rest cut =
      let line = d.read.rest ++ part in
      let whole : (bytes ++ d.done ++ (part ++ 10 ∷ [])) ++ behind ≡ bytes ++ block
      = append_assoc (bytes ++ d.done) (part ++ 10 ∷ []) behind ∙ ap (λ x. bytes ++ d.done ++ x) (append_assoc part (10 ∷ []) behind)
      ∙ append_assoc bytes d.done (part ++ 10 ∷ behind) ∙ ap (λ x. bytes ++ (d.done ++ x)) (sym split) ∙ ap (λ x. bytes ++ x) (sym d.whole) in
      subst (λ b. IsCut b ((d.read.lines ++ line ∷ []) ++ c) rest) whole (cut_both (cut_line part d.read.cut one) cut)

  more_done : (after : Front K) → HasTakenPart Has front part after → (after.lines ≡ after.last → ⊥) → HasDone (Has sought) form last bytes block behind after
  more_done after takes other =
      let r = d.read in
      let at = takes sought form last r.lines r.rest r.at in
      let long = length-append r.lines ((r.rest ++ part) ∷ []) in
      let few = r.few in
      let fewer : length (r.lines ++ (r.rest ++ part) ∷ []) < last
      = elim (cases_lt (length (r.lines ++ (r.rest ++ part) ∷ [])) last) [
        | inl less ↦ less
        | inr not_less ↦
            let same : length (r.lines ++ (r.rest ++ part) ∷ []) ≡ last = omega arith in
            absurd (other (at.counted ∙ same ∙ sym at.same_last))
      ] in
      record {
        done = d.done ++ (part ++ 10 ∷ []);
        whole = d.whole ∙ ap (λ x. d.done ++ x) (split ∙ sym (append_assoc part (10 ∷ []) behind)) ∙ sym (append_assoc d.done (part ++ 10 ∷ []) behind);
        read = record {
          lines = r.lines ++ (r.rest ++ part) ∷ [];
          rest = [];
          cut = subst (λ b. IsCut b (r.lines ++ (r.rest ++ part) ∷ []) []) (append_assoc bytes d.done (part ++ 10 ∷ [])) (cut_line part r.cut one);
          few = fewer;
          at = at;
        };
      }

  come : (after : Front K) → HasTakenPart Has front part after → after.lines ≡ after.last → HasCome (Has sought) form last (bytes ++ block) after
  come after takes same =
      let r = d.read in
      let at = takes sought form last r.lines r.rest r.at in
      let c = cut_of behind in
      record {
        lines = r.lines ++ (r.rest ++ part) ∷ [];
        more = c.lines;
        rest = c.rest;
        cut = cut_here c.lines c.rest c.cut;
        counted = sym at.counted ∙ same ∙ at.same_last;
        kept = at.kept;
      }

  stopped_part : (kept : K) (fault : Fault) → IsBadPart Has front part kept fault → Stops (Has sought) form last (bytes ++ block) kept fault
  stopped_part kept NoMemory bad = tt
  stopped_part kept (BadEvent line why) bad =
      let r = d.read in
      let t = bad sought form last r.lines r.rest r.at (lacks_both r.rest part r.cut.last one) line why refl in
      let few = r.few in
      let c = cut_of behind in
      bad_line ((r.lines ++ (r.rest ++ part) ∷ []) ++ c.lines) c.rest (cut_here c.lines c.rest c.cut) (omega (arith, t.0)) (bad_more c.lines t.1)

module _ {K : Type 0} (Has : Sought → Keeping K) (sought : Sought) {form : Form} {last : ℕ} {bytes block left : List ℕ} {front : Front K}
    (d : HasDone (Has sought) form last bytes block left front) (one : IsOneLine left) where
  cut_all : IsCut (bytes ++ block) d.read.lines (d.read.rest ++ left)
  cut_all = subst (λ b. IsCut b d.read.lines (d.read.rest ++ left)) (append_assoc bytes d.done left ∙ ap (λ x. bytes ++ x) (sym d.whole)) (cut_rest left d.read.cut one)

  all_read : (after : Front K) → HasGrown Has front left after → HasRead (Has sought) form last (bytes ++ block) after
  all_read after grows =
      let r = d.read in
      record { lines = r.lines; rest = r.rest ++ left; cut = cut_all; few = r.few; at = grows sought form last r.lines r.rest r.at }

  stopped_rest : (kept : K) (fault : Fault) → IsTooLong Has front left kept fault → Stops (Has sought) form last (bytes ++ block) kept fault
  stopped_rest kept NoMemory long = tt
  stopped_rest kept (BadEvent line why) long =
      let r = d.read in
      let t = long sought form last r.lines r.rest r.at line why refl in
      let few = r.few in
      bad_rest r.lines (r.rest ++ left) cut_all (omega (arith, t.0)) t.1 t.2

abbrev pub Invariant : {K : Type 0} → (Sought → Keeping K) → Front K → List ℕ → List ℕ → Front K → Type 0
Invariant Has before block left front = (sought : Sought) (form : Form) (last : ℕ) (bytes : List ℕ) → HasRead (Has sought) form last bytes before
    → HasDone (Has sought) form last bytes block left front

module _ {K : Type 0} (Has : Sought → Keeping K) (before front : Front K) (block left : List ℕ) (i : Invariant Has before block left front) where
  pub invariant_more : (part behind : List ℕ) (after : Front K) → left ≡ part ++ 10 ∷ behind → IsOneLine part → HasTakenPart Has front part after
      → (after.lines ≡ after.last → ⊥) → Invariant Has before block behind after
  invariant_more part behind after split one takes other sought form last bytes h = more_done Has sought (i sought form last bytes h) part behind split one after takes other

  pub last_come : (part behind : List ℕ) (after : Front K) → left ≡ part ++ 10 ∷ behind → IsOneLine part → HasTakenPart Has front part after
      → after.lines ≡ after.last → HasGoneOn Has before block after true
  last_come part behind after split one takes same sought form last bytes h = come Has sought (i sought form last bytes h) part behind split one after takes same

  pub line_bad : (part behind : List ℕ) (kept : K) (fault : Fault) → left ≡ part ++ 10 ∷ behind → IsOneLine part
      → IsBadPart Has front part kept fault → IsStopped Has before block kept fault
  line_bad part behind kept fault split one bad sought form last bytes h = stopped_part Has sought (i sought form last bytes h) part behind split one kept fault bad

  block_read : (after : Front K) (come : Bool) → IsOneLine left → come ≡ false → HasGrown Has front left after → HasGoneOn Has before block after come
  block_read after come one is_false grows sought form last bytes h =
      subst (λ b. Goes (Has sought) form last (bytes ++ block) after b) (sym is_false) (all_read Has sought (i sought form last bytes h) one after grows)

  pub ends_ok : (after : Front K) (result : Result Bool Fault) → IsOneLine left → IfOk result (λ come. (come ≡ false) × HasGrown Has front left after)
      → IfOk result (HasGoneOn Has before block after)
  ends_ok after result one ok = if_ok result (λ (come : Bool) (h : (come ≡ false) × HasGrown Has front left after). block_read after come one h.0 h.1) ok

  pub ends_bad : (kept : K) (result : Result Bool Fault) → IsOneLine left → IfErr result (IsTooLong Has front left kept)
      → IfErr result (IsStopped Has before block kept)
  ends_bad kept result one bad = if_err result (λ (fault : Fault) (long : IsTooLong Has front left kept fault).
      λ (sought : Sought) (form : Form) (last : ℕ) (bytes : List ℕ) (h : HasRead (Has sought) form last bytes before).
      stopped_rest Has sought (i sought form last bytes h) one kept fault long) bad

-- ---- the end

all_some : (lines : List (List ℕ)) (rest : List ℕ) → (rest ≡ [] → ⊥) → all_lines lines rest ≡ lines ++ rest ∷ []
all_some lines [] some = absurd (some refl)
all_some lines (byte ∷ rest) some = refl

pub ended_before : {K : Type 0} (Has : Sought → Keeping K) (front : Front K) → front.rest.items ≡ [] → HasEnded Has front front false
ended_before Has front none sought form last bytes h =
    let a = h.at in
    let few = h.few in
    let empty : h.rest ≡ [] = sym a.same_rest ∙ none in
    let counted = a.counted in (
      record {
        lines = h.lines;
        rest = [];
        cut = subst (λ x. IsCut bytes h.lines x) empty h.cut;
        few = omega arith;
        counted = a.counted;
        kept = a.kept;
      },
      omega arith,
    )

end_of : {K : Type 0} (last : ℕ) (front : Front K) (end : Bool) → (end ≡ true → front.lines ≡ front.last) → (end ≡ false → front.lines ≡ front.last → ⊥)
    → front.last ≡ last → front.lines ≤ last → IsEnd last front end
end_of last front true is other same few = is refl ∙ same
end_of last front false is other same few =
    elim (cases_lt front.lines last) [
      | inl less ↦ less
      | inr not_less ↦ let at_last : front.lines ≡ front.last = omega arith in absurd (other refl at_last)
    ]

pub ended_with : {K : Type 0} (Has : Sought → Keeping K) (before after : Front K) (end : Bool) → (before.rest.items ≡ [] → ⊥) → HasCompleted Has before after
    → (end ≡ true → after.lines ≡ after.last) → (end ≡ false → after.lines ≡ after.last → ⊥) → HasEnded Has before after end
ended_with Has before after end some completes is other sought form last bytes h =
    let a = h.at in
    let few = h.few in
    let at = completes sought form last h.lines h.rest a in
    let all : all_lines h.lines h.rest ≡ h.lines ++ h.rest ∷ [] = all_some h.lines h.rest (λ e. some (a.same_rest ∙ e)) in
    let long = length-append h.lines (h.rest ∷ []) in
    let counted : after.lines ≡ length (all_lines h.lines h.rest) = at.counted ∙ ap length (sym all) in
    let all_few : length (all_lines h.lines h.rest) ≤ last = omega (arith, at.counted) in (
      record {
        lines = h.lines;
        rest = h.rest;
        cut = h.cut;
        few = all_few;
        counted = counted;
        kept = subst (λ ls. Has sought form ls after.kept) (sym all) at.kept;
      },
      end_of last after end is other at.same_last (omega arith),
    )

pub end_bad : {K : Type 0} (Has : Sought → Keeping K) (before : Front K) (kept : K) (fault : Fault) → (before.rest.items ≡ [] → ⊥)
    → IsBadRest Has before kept fault → IsBadEnd Has before kept fault
end_bad Has before kept NoMemory some bad sought form last bytes h = tt
end_bad Has before kept (BadEvent line why) some bad sought form last bytes h =
    let a = h.at in
    let few = h.few in
    let t = bad sought form last h.lines h.rest a h.cut.last line why refl in
    let all : all_lines h.lines h.rest ≡ h.lines ++ h.rest ∷ [] = all_some h.lines h.rest (λ e. some (a.same_rest ∙ e)) in
    record {
      lines = h.lines;
      rest = h.rest;
      cut = h.cut;
      few = omega (arith, t.0);
      bad = subst (λ ls. IsBadAt (Has sought) form ls line why.items kept) (sym all) t.1;
    }

-- before any byte
pub read_none : {K : Type 0} (Has : Keeping K) (form : Form) (last : ℕ) (front : Front K) → 0 < last → front.form ≡ form → front.last ≡ last → front.lines ≡ 0
    → front.rest.items ≡ [] → Has form [] front.kept → HasRead Has form last [] front
read_none Has form last front some f g n r k = record {
  lines = [];
  rest = [];
  cut = record { whole = refl; each = tt; last = tt };
  few = some;
  at = record { same_form = f; same_last = g; same_rest = r; short = omega arith; counted = n; kept = k };
}
