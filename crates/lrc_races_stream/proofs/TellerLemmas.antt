-- What is read and written block by block is read and written as a whole.
use Rattle.std.proofs.Common.{◌≡◌, ◌∙◌, ◌++◌, ◌+◌, ◌≤◌, ℕ, List, [], ◌∷◌, Option, None, Some, ap, arith, length, length-append, refl, suc, subst, sym, take, zero}
use Rattle.std.proofs.Math.Seq.{take-append-add}
use Rattle.std.proofs.lemmas.List.{append_assoc, append-nil, take-append-le}
use Rattle.std.specs.Io.KnownBytes.{Appends, Keeps}
use Rattle.std.specs.declared.io.ErrorKind.{ErrorKind}
use Rattle.lrc_races_text.specs.Session.{HasEnded, HasFailed, HasGoneOn, HasRead, IsStoppedAt, Text}
use Rattle.lrc_races_text.specs.declared.halt.Halt.{Halt}
use Rattle.lrc_races_text.specs.declared.halt.Halt.TheVariants as halts
use Rattle.lrc_races_text.specs.declared.ill.Ill.{Ill}
use Rattle.lrc_races_text.specs.declared.asked.Asked.{Asked}
use Rattle.lrc_races_text.specs.declared.form.Form.{Form}
use Rattle.lrc_races_text.specs.declared.session.Session.{Session}
use Rattle.lrc_report.specs.Output.{AppendsFront}
use Rattle.lrc_shell_sources.specs.Known.{Held, IsAtEnd, IsCause, IsReadOff, holds, unknown, unreadable}
use Rattle.lrc_races_stream.specs.Comes.{Comes, IsUnderWay, broken, cut, ended, exhausted, failed, ill_broken, ill_cut, ill_failed, ill_stopped, so_far, stopped, unread, unwritten, whole}
use Rattle.lrc_races_stream.specs.declared.outcome.Outcome.TheVariants.{Ended, BadEvent, IllFormed, NoMemory, Unread, Unwritten}

-- before any byte is read, all is left
pub nothing_read : (held : Held) → IsReadOff held [] held
nothing_read unknown = refl
nothing_read unreadable = (refl, refl)
nothing_read (holds text) = (text, refl, refl)

-- what is read off, and then off what is left
pub read_on : (held mid left : Held) (bytes block : List ℕ) → IsReadOff held bytes mid → IsReadOff mid block left → IsReadOff held (bytes ++ block) left
read_on unknown mid left bytes block one two = subst (λ (m : Held). IsReadOff m block left → left ≡ unknown) (sym one) (λ t. t) two
read_on unreadable mid left bytes block one two =
    let two' = subst (λ (m : Held). IsReadOff m block left) one.1 two in
    (rw (one.0, two'.0) refl, two'.1)
read_on (holds text) mid left bytes block one two =
    let two' : IsReadOff (holds one.0) block left = subst (λ (m : Held). IsReadOff m block left) one.2 two in
    (two'.0, one.1 ∙ ap (λ rest. bytes ++ rest) two'.1 ∙ sym (append_assoc bytes block two'.0), two'.2)

-- what is written, and then more
pub nothing_written : (held : Option (List ℕ)) → Appends held held []
nothing_written None = tt
nothing_written (Some bytes) = sym (append-nil bytes)

pub write_on : (out mid now : Option (List ℕ)) (told more : List ℕ) → Appends out mid told → Appends mid now more → Appends out now (told ++ more)
write_on None mid now told more one two = tt
write_on (Some xs) None now told more one two = absurd one
write_on (Some xs) (Some ys) None told more one two = absurd two
write_on (Some xs) (Some ys) (Some zs) told more one two = two ∙ ap (λ front. front ++ more) one ∙ append_assoc xs told more

pub front_on : (out mid now : Option (List ℕ)) (told more : List ℕ) → Appends out mid told → AppendsFront mid now more → AppendsFront out now (told ++ more)
front_on out mid now told more one two = (
  length told + two.0,
  omega (arith, length-append told more, two.1),
  subst (Appends out now) (sym (take-append-add told more two.0)) (write_on out mid now told (take two.0 more) one two.2),
)

-- what a session adds to an empty text
added : (old new more : List ℕ) → old ≡ [] → new ≡ old ++ more → new ≡ more
added old new more empty is = is ∙ ap (λ front. front ++ more) empty

module _ (form : Form) (asked : Asked) (held left : Held) (start out : Option (List ℕ)) (session : Session)
    (u : IsUnderWay form asked held left start out session) where
  -- a block is read, and what is told of it is written, or a front of that
  pub gone_on : (after : Held) (now : Option (List ℕ)) (next : Session) (block old new text : List ℕ) → IsReadOff left block after → old ≡ []
      → HasGoneOn session block old new next → text ≡ new → Appends out now text → IsUnderWay form asked held after start now next
  gone_on after now next block old new text off empty gone text_is wrote =
      let g = gone form asked u.bytes u.told u.said in
      let new_is = text_is ∙ added old new g.0 empty g.1 in
      record {
        bytes = u.bytes ++ block;
        told = u.told ++ g.0;
        read = read_on held left after u.bytes block u.read off;
        said = g.2;
        written = write_on start out now u.told g.0 u.written (subst (Appends out now) new_is wrote);
      }

  pub gone_unwritten : (after : Held) (now : Option (List ℕ)) (next : Session) (block old new text : List ℕ) → IsReadOff left block after → old ≡ []
      → HasGoneOn session block old new next → text ≡ new → AppendsFront out now text → Comes form asked held start now Unwritten
  gone_unwritten after now next block old new text off empty gone text_is wrote =
      let g = gone form asked u.bytes u.told u.said in
      let new_is = text_is ∙ added old new g.0 empty g.1 in
      unwritten (u.bytes ++ block) (u.told ++ g.0) after (read_on held left after u.bytes block u.read off) (so_far g.2.tells)
      (front_on start out now u.told g.0 u.written (subst (AppendsFront out now) new_is wrote))

  -- a line of the block is bad
  pub broken_at : (after : Held) (now : Option (List ℕ)) (line : ℕ) (why : Text) (halt : Halt) (block old new text : List ℕ) → IsReadOff left block after → old ≡ []
      → halt ≡ halts.BadEvent line why → IsStoppedAt session block old new halt → text ≡ new → Appends out now text
      → Comes form asked held start now (BadEvent line why)
  broken_at after now line why halt block old new text off empty halt_is gone text_is wrote =
      let g = subst (IsStoppedAt session block old new) halt_is gone form asked u.bytes u.told u.said in
      let new_is = text_is ∙ added old new g.0 empty g.1 in
      stopped (u.bytes ++ block) (u.told ++ g.0) after (read_on held left after u.bytes block u.read off) g.2
      (write_on start out now u.told g.0 u.written (subst (Appends out now) new_is wrote))

  pub broken_unwritten : (after : Held) (now : Option (List ℕ)) (line : ℕ) (why : Text) (halt : Halt) (block old new text : List ℕ) → IsReadOff left block after → old ≡ []
      → halt ≡ halts.BadEvent line why → IsStoppedAt session block old new halt → text ≡ new → AppendsFront out now text → Comes form asked held start now Unwritten
  broken_unwritten after now line why halt block old new text off empty halt_is gone text_is wrote =
      let g = subst (IsStoppedAt session block old new) halt_is gone form asked u.bytes u.told u.said in
      let new_is = text_is ∙ added old new g.0 empty g.1 in
      unwritten (u.bytes ++ block) (u.told ++ g.0) after (read_on held left after u.bytes block u.read off) (broken why g.2)
      (front_on start out now u.told g.0 u.written (subst (AppendsFront out now) new_is wrote))

  -- or says an event that no program would give
  pub ill_at : (after : Held) (now : Option (List ℕ)) (ill : Ill) (halt : Halt) (block old new text : List ℕ) → IsReadOff left block after → old ≡ []
      → halt ≡ halts.IllFormed ill → IsStoppedAt session block old new halt → text ≡ new → Appends out now text
      → Comes form asked held start now (IllFormed ill)
  ill_at after now ill halt block old new text off empty halt_is gone text_is wrote =
      let g = subst (IsStoppedAt session block old new) halt_is gone form asked u.bytes u.told u.said in
      let new_is = text_is ∙ added old new g.0 empty g.1 in
      ill_stopped (u.bytes ++ block) (u.told ++ g.0) after (read_on held left after u.bytes block u.read off) g.2
      (write_on start out now u.told g.0 u.written (subst (Appends out now) new_is wrote))

  pub ill_unwritten : (after : Held) (now : Option (List ℕ)) (ill : Ill) (halt : Halt) (block old new text : List ℕ) → IsReadOff left block after → old ≡ []
      → halt ≡ halts.IllFormed ill → IsStoppedAt session block old new halt → text ≡ new → AppendsFront out now text → Comes form asked held start now Unwritten
  ill_unwritten after now ill halt block old new text off empty halt_is gone text_is wrote =
      let g = subst (IsStoppedAt session block old new) halt_is gone form asked u.bytes u.told u.said in
      let new_is = text_is ∙ added old new g.0 empty g.1 in
      unwritten (u.bytes ++ block) (u.told ++ g.0) after (read_on held left after u.bytes block u.read off) (ill_broken ill g.2)
      (front_on start out now u.told g.0 u.written (subst (AppendsFront out now) new_is wrote))

  -- the trace has ended
  pub ended_so : (now : Option (List ℕ)) (status : ℕ) (old new text : List ℕ) → IsAtEnd left → old ≡ [] → HasEnded session old new status
      → text ≡ new → Appends out now text → Comes form asked held start now (Ended status)
  ended_so now status old new text end empty gone text_is wrote =
      let g = gone form asked u.bytes u.told u.said in
      let new_is = text_is ∙ added old new g.0 empty g.1 in
      ended u.bytes (u.told ++ g.0) left u.read end g.2 (write_on start out now u.told g.0 u.written (subst (Appends out now) new_is wrote))

  pub ended_unwritten : (now : Option (List ℕ)) (status : ℕ) (old new text : List ℕ) → IsAtEnd left → old ≡ [] → HasEnded session old new status
      → text ≡ new → AppendsFront out now text → Comes form asked held start now Unwritten
  ended_unwritten now status old new text end empty gone text_is wrote =
      let g = gone form asked u.bytes u.told u.said in
      let new_is = text_is ∙ added old new g.0 empty g.1 in
      unwritten u.bytes (u.told ++ g.0) left u.read (whole g.2) (front_on start out now u.told g.0 u.written (subst (AppendsFront out now) new_is wrote))

  -- its last line is bad
  pub cut_at : (now : Option (List ℕ)) (line : ℕ) (why : Text) (halt : Halt) (old new text : List ℕ) → IsAtEnd left → old ≡ []
      → halt ≡ halts.BadEvent line why → HasFailed session old new halt → text ≡ new → Appends out now text → Comes form asked held start now (BadEvent line why)
  cut_at now line why halt old new text end empty halt_is gone text_is wrote =
      let g = subst (HasFailed session old new) halt_is gone form asked u.bytes u.told u.said in
      let new_is = text_is ∙ added old new g.0 empty g.1 in
      cut u.bytes (u.told ++ g.0) left u.read end g.2 (write_on start out now u.told g.0 u.written (subst (Appends out now) new_is wrote))

  pub cut_unwritten : (now : Option (List ℕ)) (line : ℕ) (why : Text) (halt : Halt) (old new text : List ℕ) → IsAtEnd left → old ≡ []
      → halt ≡ halts.BadEvent line why → HasFailed session old new halt → text ≡ new → AppendsFront out now text → Comes form asked held start now Unwritten
  cut_unwritten now line why halt old new text end empty halt_is gone text_is wrote =
      let g = subst (HasFailed session old new) halt_is gone form asked u.bytes u.told u.said in
      let new_is = text_is ∙ added old new g.0 empty g.1 in
      unwritten u.bytes (u.told ++ g.0) left u.read (failed why g.2) (front_on start out now u.told g.0 u.written (subst (AppendsFront out now) new_is wrote))

  -- or says an event that no program would give
  pub ill_end : (now : Option (List ℕ)) (ill : Ill) (halt : Halt) (old new text : List ℕ) → IsAtEnd left → old ≡ []
      → halt ≡ halts.IllFormed ill → HasFailed session old new halt → text ≡ new → Appends out now text → Comes form asked held start now (IllFormed ill)
  ill_end now ill halt old new text end empty halt_is gone text_is wrote =
      let g = subst (HasFailed session old new) halt_is gone form asked u.bytes u.told u.said in
      let new_is = text_is ∙ added old new g.0 empty g.1 in
      ill_cut u.bytes (u.told ++ g.0) left u.read end g.2 (write_on start out now u.told g.0 u.written (subst (Appends out now) new_is wrote))

  pub ill_end_unwritten : (now : Option (List ℕ)) (ill : Ill) (halt : Halt) (old new text : List ℕ) → IsAtEnd left → old ≡ []
      → halt ≡ halts.IllFormed ill → HasFailed session old new halt → text ≡ new → AppendsFront out now text → Comes form asked held start now Unwritten
  ill_end_unwritten now ill halt old new text end empty halt_is gone text_is wrote =
      let g = subst (HasFailed session old new) halt_is gone form asked u.bytes u.told u.said in
      let new_is = text_is ∙ added old new g.0 empty g.1 in
      unwritten u.bytes (u.told ++ g.0) left u.read (ill_failed ill g.2) (front_on start out now u.told g.0 u.written (subst (AppendsFront out now) new_is wrote))

  -- memory ran out, and nothing more is written
  pub out_of_memory : Comes form asked held start out NoMemory
  out_of_memory = exhausted u.bytes u.told left u.read u.said.tells u.written

  -- no more can be read
  pub read_no_more : (kind : ErrorKind) → IsCause left kind → Comes form asked held start out (Unread kind)
  read_no_more kind cause = unread u.bytes u.told left u.read cause u.said.tells u.written

-- before any byte is read
pub begun : (form : Form) (asked : Asked) (held : Held) (out : Option (List ℕ)) (session : Session) → HasRead form asked [] [] session
    → IsUnderWay form asked held held out out session
begun form asked held out session said =
    record { bytes = []; told = []; read = nothing_read held; said = said; written = nothing_written out }

take_front : (n m : ℕ) (xs : List ℕ) → n ≤ m → take n (take m xs) ≡ take n xs
take_front zero m xs fits = refl
take_front (suc n) zero xs fits = absurd (omega arith)
take_front (suc n) (suc m) [] fits = refl
take_front (suc n) (suc m) (x ∷ xs) fits = ap (λ rest. x ∷ rest) (take_front n m xs (omega arith))

-- the front of a block that was written back
pub block_front : (count len : ℕ) (new rest : List ℕ) → count ≤ length new → count ≤ len → take count (take len (new ++ rest)) ≡ take count new
block_front count len new rest fits room = take_front count len (new ++ rest) room ∙ take-append-le count new rest fits

-- a writer to which nothing is written keeps its bytes
pub nothing_said : (held : Option (List ℕ)) → Keeps held held
nothing_said None = tt
nothing_said (Some bytes) = refl
