-- What is to be noted, block by block.
use Rattle.std.proofs.Common.{◌≡◌, ◌∙◌, ℕ, ◌+◌, ◌<◌, ◌≤◌, ◌++◌, Bool, true, false, List, [], ◌∷◌, length, take, refl, subst, sym, arith, append_assoc, append-nil}
use Rattle.std.proofs.lemmas.Bool.{OnTrue_from, leb-true, ltb-true}
use Rattle.std.proofs.lemmas.List.{take_all}
use Rattle.std.specs.declared.io.ErrorKind.{ErrorKind}
use Rattle.std.specs.Bool.{OnFalse, OnTrue}
use Rattle.std.specs.Prelude.{Option, flat_map, nat_le, nat_lt}
use Rattle.lrc_races_text.specs.Told.{IsCut, ended}
use Rattle.lrc_races_text.specs.Session.{Text}
use Rattle.lrc_races_text.specs.declared.asked.Sought.{Sought}
use Rattle.lrc_races_text.specs.declared.asked.Sought.TheVariants.{AllRaces}
use Rattle.lrc_races_text.specs.declared.fault.Fault.{Fault}
use Rattle.lrc_races_text.specs.declared.fault.Fault.TheVariants as faults
use Rattle.lrc_races_text.specs.declared.form.Form.{Form}
use Rattle.lrc_races_front.specs.Front.{HasRead}
use Rattle.lrc_races_front.specs.Steps.{HasEnded, HasGoneOn, IsBadEnd, IsStopped}
use Rattle.lrc_races_front.specs.declared.front.Front.{Front}
use Rattle.lrc_races_notes.proofs.NoterLemmas.{notes_are}
use Rattle.lrc_races_notes.specs.Noter.{HasNoted, NotesUpTo, notes_of}
use Rattle.lrc_races_notes.specs.Notes.{AreNotes}
use Rattle.lrc_races_notes.specs.declared.noter.Noter.{Noter}
use Rattle.lrc_shell_sources.specs.Known.{Held, IsAtEnd, IsCause, IsReadOff}
use Rattle.lrc_races_stream.specs.Heard.{HasTold, Hears, HearsAll, HearsTo, IsHearing, IsSomeHeard, IsWritten, KnowsAll, KnowsTo}
use Rattle.lrc_races_stream.specs.Heard.{more, nothing}
use Rattle.lrc_races_stream.specs.Reach.{AreFirst, IsSeeking, IsStop, all, most_lines, past, some}
use Rattle.lrc_races_stream.specs.declared.answer.Stop.TheVariants.{Faulted, Past}
use Rattle.lrc_races_stream.specs.declared.hearing.Hearing.{Hearing}
use Rattle.lrc_races_stream.specs.declared.outcome.Outcome.TheVariants.{NoMemory, Unread, Unwritten}
use Rattle.lrc_races_stream.proofs.Reached.{reached}
use Rattle.lrc_races_stream.proofs.SeekerLemmas.{end_bad, ended_past, stopped_at, taken}
use Rattle.lrc_races_stream.proofs.TellerLemmas.{nothing_read}

abbrev pub any_sought : Sought → Form → List (List ℕ) → Noter → Type 0
any_sought sought = HasNoted

-- ---- the lines that have come

seeking_lines : {form : Form} {held left : Held} {front : Front Noter} (u : IsSeeking HasNoted form most_lines held left front)
    → AreFirst held u.has_read.lines
seeking_lines u =
    let h = u.has_read in
    some u.bytes _ [] h.rest u.read (subst (λ ls. IsCut u.bytes ls h.rest) (sym (append-nil h.lines)) h.cut)

seeking_knows : {form : Form} {held left : Held} {front : Front Noter} (count : ℕ) → IsSeeking HasNoted form most_lines held left front
    → count ≤ front.lines → KnowsTo form held count front.kept
seeking_knows count u few =
    let at = u.has_read.at in
    let counted = at.counted in
    record { lines = u.has_read.lines; first = seeking_lines u; meant = omega arith; so = at.kept }

stop_knows : {form : Form} {held : Held} {kept : Noter} (count line : ℕ) (why : Text)
    → IsStop HasNoted form most_lines held kept (Faulted (faults.BadEvent line why)) → count < line → KnowsTo form held count kept
stop_knows {form} {held} {kept} count line why is few =
    let r = reached HasNoted form most_lines held kept (Faulted (faults.BadEvent line why)) is (λ lacks. lacks) in
    let up_to : line ≡ length r.lines + 1 = r.up_to in
    record { lines = r.lines; first = r.first; meant = omega arith; so = r.has_kept }

module _ (form : Form) (held left : Held) (before : Front Noter) (u : IsSeeking HasNoted form most_lines held left before) where
  pub goes_on : (after : Held) (front : Front Noter) (block : List ℕ) → IsReadOff left block after → HasGoneOn any_sought before block front false
      → IsSeeking HasNoted form most_lines held after front
  goes_on after front block off gone = taken any_sought AllRaces form most_lines held left before u after front block false off gone

  pub takes_good : (after : Held) (front : Front Noter) (block : List ℕ) (count : ℕ) → IsReadOff left block after
      → HasGoneOn any_sought before block front false → count ≤ front.lines → KnowsTo form held count front.kept
  takes_good after front block count off gone few = seeking_knows count (goes_on after front block off gone) few

  pub takes_bad : (after : Held) (kept : Noter) (fault : Fault) (line count : ℕ) (why : Text) (block : List ℕ) → IsReadOff left block after
      → fault ≡ faults.BadEvent line why → IsStopped any_sought before block kept fault → count < line → KnowsTo form held count kept
  takes_bad after kept fault line count why block off is stops few =
      stop_knows count line why (stopped_at any_sought AllRaces form most_lines held left before u after kept (faults.BadEvent line why) block off
      (subst (λ (f : Fault). IsStopped any_sought before block kept f) is stops)) few

  pub ends_all : (front : Front Noter) → IsAtEnd left → HasEnded any_sought before front false → KnowsAll form held front.kept
  ends_all front end ended = all_known (ended_past any_sought AllRaces form most_lines held left before u front end ended)
    where
      all_known : {count : ℕ} → IsStop HasNoted form most_lines held front.kept (Past count) → KnowsAll form held front.kept
      all_known (past lines are has counted few) = record { lines = lines; first = all are; meant = are; so = has }

  pub ends_good : (front : Front Noter) (count : ℕ) → IsAtEnd left → HasEnded any_sought before front false → count ≤ front.lines
      → KnowsTo form held count front.kept
  ends_good front count end ended few = all_counted (ended_past any_sought AllRaces form most_lines held left before u front end ended)
    where
      all_counted : IsStop HasNoted form most_lines held front.kept (Past front.lines) → KnowsTo form held count front.kept
      all_counted (past lines are has counted less) = record { lines = lines; first = all are; meant = omega arith; so = has }

  pub ends_bad : (kept : Noter) (fault : Fault) (line count : ℕ) (why : Text) → IsAtEnd left → fault ≡ faults.BadEvent line why
      → IsBadEnd any_sought before kept fault → count < line → KnowsTo form held count kept
  ends_bad kept fault line count why end is fails few =
      stop_knows count line why (end_bad any_sought AllRaces form most_lines held left before u kept (faults.BadEvent line why) end
      (subst (λ (f : Fault). IsBadEnd any_sought before kept f) is fails)) few

-- so many lines are known where a block is taken, or the trace ends
abbrev pub KnowsTaken : Front Noter → List ℕ → ℕ → Noter → Type 0
KnowsTaken before block count kept = (form : Form) (held left after : Held) → IsSeeking HasNoted form most_lines held left before
    → IsReadOff left block after → KnowsTo form held count kept

abbrev pub KnowsEnded : Front Noter → ℕ → Noter → Type 0
KnowsEnded before count kept = (form : Form) (held left : Held) → IsSeeking HasNoted form most_lines held left before → IsAtEnd left
    → KnowsTo form held count kept

pub good_taken : (before front : Front Noter) (block : List ℕ) (count : ℕ) → HasGoneOn any_sought before block front false
    → OnTrue (nat_le count front.lines) (KnowsTaken before block count front.kept)
good_taken before front block count gone = OnTrue_from (nat_le count front.lines) (KnowsTaken before block count front.kept)
    (λ many form held left after u off. takes_good form held left before u after front block count off gone (leb-true count front.lines many))

pub bad_taken : (before : Front Noter) (kept : Noter) (fault : Fault) (line count : ℕ) (why : Text) (block : List ℕ) → fault ≡ faults.BadEvent line why
    → IsStopped any_sought before block kept fault → OnTrue (nat_lt count line) (KnowsTaken before block count kept)
bad_taken before kept fault line count why block is stops = OnTrue_from (nat_lt count line) (KnowsTaken before block count kept)
    (λ few form held left after u off. takes_bad form held left before u after kept fault line count why block off is stops (ltb-true count line few))

pub good_ended : (before front : Front Noter) (count : ℕ) → HasEnded any_sought before front false
    → OnTrue (nat_le count front.lines) (KnowsEnded before count front.kept)
good_ended before front count whole = OnTrue_from (nat_le count front.lines) (KnowsEnded before count front.kept)
    (λ many form held left u end. ends_good form held left before u front count end whole (leb-true count front.lines many))

pub bad_ended : (before : Front Noter) (kept : Noter) (fault : Fault) (line count : ℕ) (why : Text) → fault ≡ faults.BadEvent line why
    → IsBadEnd any_sought before kept fault → OnTrue (nat_lt count line) (KnowsEnded before count kept)
bad_ended before kept fault line count why is fails = OnTrue_from (nat_lt count line) (KnowsEnded before count kept)
    (λ few form held left u end. ends_bad form held left before u kept fault line count why end is fails (ltb-true count line few))

-- ---- what is told more

told_on : (noter : Noter) (before after : Hearing) (start err err' : Option (List ℕ)) → HasTold noter before after err err' true
    → IsWritten start err (notes_of before.told) → IsWritten start err' (notes_of noter)
told_on noter before after start err err' told w = subst (IsWritten start err') (sym told.1) (more told.0 w told.2)

pub untold : (noter : Noter) (before after : Hearing) (err err' : Option (List ℕ)) (all : Bool) → HasTold noter before after err err' all
    → OnFalse all (err' ≡ err)
untold noter before after err err' true told = tt
untold noter before after err err' false told = told

pub told_to : (part : Noter) (before after : Hearing) (err err' : Option (List ℕ)) (all : Bool) (count : ℕ) (kept : Noter) → NotesUpTo count kept part
    → HasTold part before after err err' all
    → OnTrue all ((form : Form) (held : Held) (start : Option (List ℕ)) → KnowsTo form held count kept
    → IsWritten start err (notes_of before.told) → HearsTo form held start err' count)
told_to part before after err err' true count kept upto told = λ form held start k w. (
  notes_of part,
  record { lines = k.lines; first = k.first; meant = k.meant; so = notes_are form (take count k.lines) part (upto form k.lines k.so) },
  told_on part before after start err err' told w,
)
told_to part before after err err' false count kept upto told = tt

-- a block is taken, and all is told
pub take_told : (hearing next : Hearing) (now err' : Option (List ℕ)) (all : Bool) (front : Front Noter) (block : List ℕ)
    → HasGoneOn any_sought hearing.front block front false → HasTold front.kept (record hearing { front = front }) next now err' all
    → OnTrue all ((form : Form) (held left after : Held) (start : Option (List ℕ)) → IsHearing form held left start now hearing
    → IsReadOff left block after → IsHearing form held after start err' next)
take_told hearing next now err' true front block gone told = λ form held left after start h off.
    let u = goes_on form held left hearing.front h.seeking after front block off gone in
    let whole : IsHearing form held after start err' (record { front = front; told = front.kept }) =
    record { seeking = u; written = told_on front.kept (record hearing { front = front }) next start now err' told h.written; noted = notes_are form u.has_read.lines front.kept u.has_read.at.kept } in
    subst (λ (n : Hearing). IsHearing form held after start err' n) (sym told.3) whole
take_told hearing next now err' false front block gone told = tt

-- or the last line
pub end_told : (hearing next : Hearing) (now err' : Option (List ℕ)) (all : Bool) (front : Front Noter)
    → HasEnded any_sought hearing.front front false → HasTold front.kept (record hearing { front = front }) next now err' all
    → OnTrue all ((form : Form) (held left : Held) (start : Option (List ℕ)) → IsHearing form held left start now hearing
    → IsAtEnd left → HearsAll form held start err')
end_told hearing next now err' true front whole told = λ form held left start h end.
    let k = ends_all form held left hearing.front h.seeking front end whole in (
      notes_of front.kept,
      record { lines = k.lines; first = k.first; meant = k.meant; so = notes_are form k.lines front.kept k.so },
      told_on front.kept (record hearing { front = front }) next start now err' told h.written,
    )
end_told hearing next now err' false front whole told = tt

-- so many lines are known, and all is told of them
pub taken_to : (hearing mid : Hearing) (now err' : Option (List ℕ)) (all : Bool) (block : List ℕ) (count : ℕ) → mid.told ≡ hearing.told
    → ((form : Form) (held left after : Held) → IsSeeking HasNoted form most_lines held left hearing.front → IsReadOff left block after
    → KnowsTo form held count mid.front.kept)
    → OnTrue all ((form : Form) (held : Held) (start : Option (List ℕ)) → KnowsTo form held count mid.front.kept
    → IsWritten start now (notes_of mid.told) → HearsTo form held start err' count)
    → OnTrue all ((form : Form) (held left after : Held) (start : Option (List ℕ)) → IsHearing form held left start now hearing
    → IsReadOff left block after → HearsTo form held start err' count)
taken_to hearing mid now err' true block count same knows tells = λ form held left after start h off.
    tells form held start (knows form held left after h.seeking off)
    (subst (λ (told : Noter). IsWritten start now (notes_of told)) (sym same) h.written)
taken_to hearing mid now err' false block count same knows tells = tt

pub ended_to : (hearing mid : Hearing) (now err' : Option (List ℕ)) (all : Bool) (count : ℕ) → mid.told ≡ hearing.told
    → ((form : Form) (held left : Held) → IsSeeking HasNoted form most_lines held left hearing.front → IsAtEnd left
    → KnowsTo form held count mid.front.kept)
    → OnTrue all ((form : Form) (held : Held) (start : Option (List ℕ)) → KnowsTo form held count mid.front.kept
    → IsWritten start now (notes_of mid.told) → HearsTo form held start err' count)
    → OnTrue all ((form : Form) (held left : Held) (start : Option (List ℕ)) → IsHearing form held left start now hearing
    → IsAtEnd left → HearsTo form held start err' count)
ended_to hearing mid now err' true count same knows tells = λ form held left start h end.
    tells form held start (knows form held left h.seeking end)
    (subst (λ (told : Noter). IsWritten start now (notes_of told)) (sym same) h.written)
ended_to hearing mid now err' false count same knows tells = tt

-- ---- before any byte

no_line : (x rest : List ℕ) → [] ≡ (x ++ 10 ∷ []) ++ rest → ⊥
no_line [] rest e = cc
no_line (y ∷ ys) rest e = cc

cut_none : {lines : List (List ℕ)} {rest : List ℕ} → IsCut [] lines rest → lines ≡ []
cut_none {lines = []} c = refl
cut_none {lines = x ∷ xs} {rest = rest} c = absurd (no_line x (flat_map ended xs ++ rest) (c.whole ∙ append_assoc (ended x) (flat_map ended xs) rest))

pub hears_first : (form : Form) (held : Held) (start : Option (List ℕ)) (hearing : Hearing)
    → HasRead HasNoted form most_lines [] hearing.front → HasNoted form [] hearing.told → notes_of hearing.told ≡ []
    → IsHearing form held held start start hearing
hears_first form held start hearing read none empty = record {
  seeking = record { bytes = []; read = nothing_read held; has_read = read };
  written = subst (IsWritten start start) (sym empty) nothing;
  noted = subst (λ ls. AreNotes form ls (notes_of hearing.told)) (sym (cut_none read.cut)) (notes_are form [] hearing.told none);
}

-- ---- what is heard

whole_lines : {form : Form} {lines : List (List ℕ)} {text : List ℕ} → AreNotes form lines text → AreNotes form (take (length lines) lines) text
whole_lines {form} {lines} {text} h = subst (λ ls. AreNotes form ls text) (sym (take_all (length lines) lines (omega arith))) h

some_heard : {form : Form} {held left : Held} {start now : Option (List ℕ)} {hearing : Hearing} → IsHearing form held left start now hearing
    → IsSomeHeard form held (notes_of hearing.told)
some_heard h =
    let lines = h.seeking.has_read.lines in
    (length lines, record { lines = lines; first = seeking_lines h.seeking; meant = omega arith; so = whole_lines h.noted })

module _ {form : Form} {held left : Held} {start now : Option (List ℕ)} {hearing : Hearing} (h : IsHearing form held left start now hearing) where
  pub heard_none : Hears form held start now NoMemory
  heard_none = (notes_of hearing.told, some_heard h, h.written)

  pub heard_unwritten : Hears form held start now Unwritten
  heard_unwritten = (notes_of hearing.told, some_heard h, h.written)

  pub heard_unread : (kind : ErrorKind) → IsCause left kind → Hears form held start now (Unread kind)
  heard_unread kind cause =
      let u = h.seeking in
      let r = u.has_read in (
        notes_of hearing.told,
        record {
          lines = r.lines;
          first = seeking_lines u;
          meant = record { bytes = u.bytes; left = left; rest = r.rest; read = u.read; cut = r.cut; cause = cause };
          so = h.noted;
        },
        h.written,
      )

  pub heard_still : {err' : Option (List ℕ)} → err' ≡ now → Hears form held start err' NoMemory
  heard_still {err'} same = subst (λ (e : Option (List ℕ)). Hears form held start e NoMemory) (sym same) heard_none

pub to_unwritten : {form : Form} {held : Held} {start now : Option (List ℕ)} {count : ℕ} → HearsTo form held start now count
    → Hears form held start now Unwritten
to_unwritten {count = count} h = (h.0, (count, h.1), h.2)

pub all_unwritten : {form : Form} {held : Held} {start now : Option (List ℕ)} → HearsAll form held start now → Hears form held start now Unwritten
all_unwritten h =
    let k = h.1 in
    (h.0, (length k.lines, record { lines = k.lines; first = k.first; meant = omega arith; so = whole_lines k.so }), h.2)
