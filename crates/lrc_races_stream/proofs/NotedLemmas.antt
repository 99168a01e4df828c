-- What is known of what is to be noted, where a trace is read no further.
use Rattle.std.proofs.Common.{◌≡◌, ◌∙◌, ℕ, ◌≤◌, Bool, false, List, [], length, take, inl, refl, subst, sym, ap, arith, append-nil}
use Rattle.std.specs.Prelude.{Option, None, Some}
use Rattle.std.specs.Io.KnownBytes.{Appends, Keeps}
use Rattle.lrc_races_text.specs.declared.asked.Sought.{Sought}
use Rattle.lrc_races_text.specs.declared.fault.Fault.{Fault}
use Rattle.lrc_races_text.specs.declared.fault.Fault.TheVariants as faults
use Rattle.lrc_races_text.specs.declared.form.Form.{Form}
use Rattle.lrc_races_front.specs.Front.{IsBadAt, IsBadIn, Keeping, bad_line, bad_rest}
use Rattle.lrc_races_front.specs.Steps.{Fails, Stops}
use Rattle.lrc_races_notes.proofs.NoterLemmas.{notes_are}
use Rattle.lrc_races_notes.specs.Noter.{HasNoted, NotesUpTo, notes_of}
use Rattle.lrc_races_notes.specs.Notes.{AreNotes}
use Rattle.lrc_races_notes.specs.Noting.{HasBoth}
use Rattle.lrc_races_notes.specs.declared.noter.Noter.{Noter}
use Rattle.lrc_races_notes.specs.declared.noting.Noting.{Noting}
use Rattle.lrc_shell_sources.specs.Known.{Held}
use Rattle.lrc_races_stream.specs.Noted.{IsKnown, IsKnownAt, IsNoted, IsNotedBefore, IsOf, IsPartAt, IsPartOf, Notes, lacking, noted}
use Rattle.lrc_races_stream.specs.Reach.{AreFirst, HasCome, IsBehind, IsStop, all, bad, cut, exhausted, past, unread}
use Rattle.lrc_races_stream.specs.Strict.{IsIllFound, LacksMemory}
use Rattle.lrc_races_stream.specs.declared.answer.Answer.{Answer}
use Rattle.lrc_races_stream.specs.declared.answer.Answer.TheVariants.{Answered, NoEvent, Stopped}
use Rattle.lrc_races_stream.specs.declared.answer.Stop.{Stop}
use Rattle.lrc_races_stream.specs.declared.answer.Stop.TheVariants.{Faulted, IllFormed, Past, Unread}
use Rattle.lrc_races_stream.proofs.Reached.{of_unread, reached}
use Rattle.lrc_races_stream.proofs.StrictLemmas.{ill_within}

-- ---- what is kept beside it

module _ {K : Type 0} (Has : Sought → Keeping K) (sought : Sought) (form : Form) (last : ℕ) (noting : Noting K) where
  kept_bad_at : {lines : List (List ℕ)} {number : ℕ} {text : List ℕ} → IsBadAt (HasBoth Has sought) form lines number text noting
      → IsBadAt (Has sought) form lines number text noting.kept
  kept_bad_at b = record {
    before = b.before;
    line = b.line;
    after = b.after;
    whole = b.whole;
    counted = b.counted;
    good = b.good.0;
    bad = b.bad;
    why = b.why;
  }

  kept_bad_in : {bytes : List ℕ} {number : ℕ} {text : List ℕ} → IsBadIn (HasBoth Has sought) form last bytes number text noting
      → IsBadIn (Has sought) form last bytes number text noting.kept
  kept_bad_in (bad_line lines rest is_cut few b) = bad_line lines rest is_cut few (kept_bad_at b)
  kept_bad_in (bad_rest lines rest is_cut few long b) = bad_rest lines rest is_cut few long (kept_bad_at b)

  kept_stops : (bytes : List ℕ) (fault : Fault) → Stops (HasBoth Has sought) form last bytes noting fault
      → Stops (Has sought) form last bytes noting.kept fault
  kept_stops bytes (faults.BadEvent line why) b = kept_bad_in b
  kept_stops bytes faults.NoMemory b = tt

  kept_fails : (bytes : List ℕ) (fault : Fault) → Fails (HasBoth Has sought) form last bytes noting fault
      → Fails (Has sought) form last bytes noting.kept fault
  kept_fails bytes (faults.BadEvent line why) b = record { lines = b.lines; rest = b.rest; cut = b.cut; few = b.few; bad = kept_bad_at b.bad }
  kept_fails bytes faults.NoMemory b = tt

  pub kept_stop : {held : Held} {stop : Stop} → IsStop (HasBoth Has sought) form last held noting stop
      → IsStop (Has sought) form last held noting.kept stop
  kept_stop (past lines are has counted few) = past lines are has.0 counted few
  kept_stop (bad bytes left {fault = fault} read stops) = bad bytes left read (kept_stops bytes fault stops)
  kept_stop (cut bytes left {fault = fault} read end fails) = cut bytes left read end (kept_fails bytes fault fails)
  kept_stop exhausted = exhausted
  kept_stop (unread bytes left lines rest read is_cut few has cause) = unread bytes left lines rest read is_cut few has.0 cause

  pub kept_come : {held : Held} → HasCome (HasBoth Has sought) form last held noting → HasCome (Has sought) form last held noting.kept
  kept_come h = record { lines = h.lines; first = h.first; counted = h.counted; has_kept = h.has_kept.0 }

  -- ---- where no more is read

  known_fault : {held : Held} (fault : Fault) → IsStop (HasBoth Has sought) form last held noting (Faulted fault)
      → IsKnownAt form held noting.noter (Faulted fault)
  known_fault {held} (faults.BadEvent number why) is =
      let r = reached (HasBoth Has sought) form last held noting (Faulted (faults.BadEvent number why)) is (λ lacks. lacks) in
      record { lines = r.lines; first = r.first; meant = r.up_to; so = r.has_kept.1 }
  known_fault faults.NoMemory is = tt

  pub known_stop : {held : Held} (stop : Stop) → IsStop (HasBoth Has sought) form last held noting stop → IsKnownAt form held noting.noter stop
  known_stop _ (past lines are has counted few) = record { lines = lines; first = all are; meant = (are, counted); so = has.1 }
  known_stop _ (bad bytes left {fault = fault} read stops) = known_fault fault (bad bytes left read stops)
  known_stop _ (cut bytes left {fault = fault} read end fails) = known_fault fault (cut bytes left read end fails)
  known_stop _ exhausted = tt
  known_stop {held} _ (unread bytes left lines rest read is_cut few has cause) =
      record {
        lines = lines;
        first = of_unread (HasBoth Has sought) form held left last noting bytes read lines rest is_cut;
        meant = record { bytes = bytes; left = left; rest = rest; read = read; cut = is_cut; cause = cause };
        so = has.1;
      }

  pub known_found : {held : Held} (strict : Bool) (lines : List (List ℕ)) (other : Stop) → AreFirst held lines
      → HasBoth Has sought form lines noting → IsIllFound strict Has noting.kept other → IsKnownAt form held noting.noter other
  known_found strict lines (Past line) first has found = absurd found
  known_found strict lines (Faulted (faults.BadEvent line why)) first has found = absurd found
  known_found strict lines (Faulted faults.NoMemory) first has found = tt
  known_found strict lines (IllFormed ill) first has found =
      record { lines = lines; first = first; meant = ill_within (found.1 sought form lines has.0); so = has.1 }
  known_found strict lines (Unread kind) first has found = absurd found

  pub known_halt : {held : Held} (strict : Bool) (stop other : Stop) → IsStop (HasBoth Has sought) form last held noting stop → (LacksMemory stop → ⊥)
      → IsIllFound strict Has noting.kept other → IsKnownAt form held noting.noter other
  known_halt {held} strict stop other is some found =
      let r = reached (HasBoth Has sought) form last held noting stop is some in
      known_found strict r.lines other r.first r.has_kept found

pub known_lacking : (form : Form) (held : Held) (noter : Noter) (stop : Stop) → LacksMemory stop → IsKnownAt form held noter stop
known_lacking form held noter (Past line) lacks = absurd lacks
known_lacking form held noter (Faulted (faults.BadEvent line why)) lacks = absurd lacks
known_lacking form held noter (Faulted faults.NoMemory) lacks = tt
known_lacking form held noter (IllFormed ill) lacks = absurd lacks
known_lacking form held noter (Unread kind) lacks = absurd lacks

-- a line behind which no more are read is among the lines
pub known_behind : (form : Form) (held : Held) (noter : Noter) (line : ℕ) (stop : Stop) → IsBehind line stop → IsKnownAt form held noter stop
    → IsOf held (λ lines. line ≤ length lines) (λ lines. HasNoted form lines noter)
known_behind form held noter line (Past end) behind k =
    let e = k.meant.1 in
    record { lines = k.lines; first = k.first; meant = omega arith; so = k.so }
known_behind form held noter line (Faulted (faults.BadEvent number why)) behind k =
    let e = k.meant in
    record { lines = k.lines; first = k.first; meant = omega arith; so = k.so }
known_behind form held noter line (Faulted faults.NoMemory) behind k = absurd behind
known_behind form held noter line (IllFormed ill) behind k =
    let e = k.meant in
    record { lines = k.lines; first = k.first; meant = omega arith; so = k.so }
known_behind form held noter line (Unread kind) behind k = absurd behind

-- ---- what is noted is told before the answer

noted_all : {form : Form} {held : Held} {noter part : Noter} {Meant : List (List ℕ) → Type 0} → part ≡ noter
    → IsOf held Meant (λ lines. HasNoted form lines noter) → IsOf held Meant (λ lines. AreNotes form lines (notes_of part))
noted_all {form} {noter = noter} same k = record {
  lines = k.lines;
  first = k.first;
  meant = k.meant;
  so = subst (λ (n : Noter). AreNotes form k.lines (notes_of n)) (sym same) (notes_are form k.lines noter k.so);
}

noted_first : {form : Form} {held : Held} {noter part : Noter} {Meant : List (List ℕ) → Type 0} (count : ℕ) → NotesUpTo count noter part
    → IsOf held Meant (λ lines. HasNoted form lines noter) → IsOf held Meant (λ lines. AreNotes form (take count lines) (notes_of part))
noted_first {form} {part = part} count upto k = record {
  lines = k.lines;
  first = k.first;
  meant = k.meant;
  so = notes_are form (take count k.lines) part (upto form k.lines k.so);
}

part_at : (form : Form) (held : Held) (last : ℕ) (noter part : Noter) (stop : Stop) → IsPartAt noter stop part → IsKnownAt form held noter stop
    → IsNoted form held last (notes_of part) (Stopped stop)
part_at form held last noter part (Past line) is k = noted_all is k
part_at form held last noter part (Faulted (faults.BadEvent line why)) is k = noted_all is k
part_at form held last noter part (Faulted faults.NoMemory) is k = is
part_at form held last noter part (IllFormed ill) is k = noted_first ill.line is k
part_at form held last noter part (Unread kind) is k = noted_all is k

pub part_of : (form : Form) (held : Held) (last : ℕ) (noter part : Noter) (answer : Answer) → IsPartOf noter answer part
    → IsKnown form held last noter answer → IsNoted form held last (notes_of part) answer
part_of form held last noter part (Answered printed status) is k = noted_all is k
part_of form held last noter part (NoEvent line) is k = noted_first line is k
part_of form held last noter part (Stopped stop) is k = part_at form held last noter part stop is k

pub new_notes : (noter : Noter) → noter ≡ record { marked = false; blank = None } → notes_of noter ≡ []
new_notes noter is = ap notes_of is

kept_appends : (err err' : Option (List ℕ)) → Keeps err err' → Appends err err' []
kept_appends None err' keeps = tt
kept_appends (Some bytes) None keeps = keeps
kept_appends (Some bytes) (Some more) keeps = keeps ∙ sym (append-nil bytes)

pub noted_so : {noter : Noter} {answer result : Answer} {err err' : Option (List ℕ)} (P : Answer → Type 0) (form : Form) (held : Held) (last : ℕ)
    → P (Stopped (Faulted faults.NoMemory)) → IsNotedBefore noter answer err err' result → P answer → IsKnown form held last noter answer
    → P result × Notes form held last result err err'
noted_so P form held last lack (noted text so told) p known = (p, (text, so form held last known, told))
noted_so {err = err} {err' = err'} P form held last lack (lacking keeps) p known = (lack, ([], refl, inl (kept_appends err err' keeps)))
