-- The first lines of a trace are read block by block, up to the last one that is wanted, or why they are not.
use Rattle.std.proofs.Common.{ℕ, List, [], ◌++◌, Bool, true, false, refl, sym, ◌∙◌}
use Rattle.std.specs.Prelude.{Err, IfErr, IfOk, Ok, Result}
use Rattle.std.specs.declared.io.ErrorKind.{ErrorKind}
use Rattle.lrc_races_text.specs.declared.fault.Fault.{Fault}
use Rattle.lrc_races_text.specs.declared.asked.Sought.{Sought}
use Rattle.lrc_races_text.specs.declared.form.Form.{Form}
use Rattle.lrc_races_front.specs.Front.{HasAll, HasRead, Keeping, all_lines}
use Rattle.lrc_races_front.specs.Steps.{HasEnded, HasGoneOn, IsBadEnd, IsStopped}
use Rattle.lrc_races_front.specs.declared.front.Front.{Front}
use Rattle.lrc_shell_sources.specs.Known.{Held, IsAtEnd, IsCause, IsReadOff}
use Rattle.lrc_races_stream.specs.Reach.{AreAll, GoesOn, IsSeeking, IsStop, all, bad, cut, past, some, unread}
use Rattle.lrc_races_stream.specs.declared.answer.Stop.{Stop}
use Rattle.lrc_races_stream.specs.declared.answer.Stop.TheVariants.{Faulted, Past, Unread}
use Rattle.lrc_races_stream.proofs.TellerLemmas.{nothing_read, read_on}

-- before any byte is read
pub seeking_first : {K : Type 0} (Has : Keeping K) (form : Form) (last : ℕ) (held : Held) (front : Front K) → HasRead Has form last [] front
    → IsSeeking Has form last held held front
seeking_first Has form last held front read = record { bytes = []; read = nothing_read held; has_read = read }

module _ {K : Type 0} (Has : Sought → Keeping K) (sought : Sought) (form : Form) (last : ℕ) (held left : Held) (before : Front K)
    (u : IsSeeking (Has sought) form last held left before) where
  -- a block is read, and the last line that is wanted has come, or not
  pub taken : (after : Held) (front : Front K) (block : List ℕ) (there : Bool) → IsReadOff left block after → HasGoneOn Has before block front there
      → GoesOn (Has sought) form last held after front there
  taken after front block true off gone =
      let g = gone sought form last u.bytes u.has_read in
      record {
        lines = g.lines;
        first = some (u.bytes ++ block) after g.more g.rest (read_on held left after u.bytes block u.read off) g.cut;
        counted = g.counted;
        has_kept = g.kept;
      }
  taken after front block false off gone =
      record { bytes = u.bytes ++ block; read = read_on held left after u.bytes block u.read off; has_read = gone sought form last u.bytes u.has_read }

  -- or a line is bad
  pub stopped_at : (after : Held) (kept : K) (fault : Fault) (block : List ℕ) → IsReadOff left block after → IsStopped Has before block kept fault
      → IsStop (Has sought) form last held kept (Faulted fault)
  stopped_at after kept fault block off stops =
      bad (u.bytes ++ block) after (read_on held left after u.bytes block u.read off) (stops sought form last u.bytes u.has_read)

  -- the trace has ended
  all_of : (front : Front K) → IsAtEnd left → (h : HasAll (Has sought) form last u.bytes front) → AreAll held (all_lines h.lines h.rest)
  all_of front end h = record { bytes = u.bytes; left = left; read = u.read; end = end; whole = h.lines; rest = h.rest; cut = h.cut; are = refl }

  -- with the last line that is wanted,
  pub ended_there : (after : Held) (front : Front K) → IsAtEnd left → HasEnded Has before front true → GoesOn (Has sought) form last held after front true
  ended_there after front end ends =
      let e = ends sought form last u.bytes u.has_read in
      record {
        lines = all_lines e.0.lines e.0.rest;
        first = all (all_of front end e.0);
        counted = sym e.0.counted ∙ e.1;
        has_kept = e.0.kept;
      }

  -- or before it,
  pub ended_past : (front : Front K) → IsAtEnd left → HasEnded Has before front false → IsStop (Has sought) form last held front.kept (Past front.lines)
  ended_past front end ends =
      let e = ends sought form last u.bytes u.has_read in
      past (all_lines e.0.lines e.0.rest) (all_of front end e.0) e.0.kept e.0.counted e.1

  -- or its last line is bad
  pub end_bad : (kept : K) (fault : Fault) → IsAtEnd left → IsBadEnd Has before kept fault → IsStop (Has sought) form last held kept (Faulted fault)
  end_bad kept fault end fails = cut u.bytes left u.read end (fails sought form last u.bytes u.has_read)

  -- no more can be read
  pub no_more : (kind : ErrorKind) → IsCause left kind → IsStop (Has sought) form last held before.kept (Unread kind)
  no_more kind cause =
      let h = u.has_read in
      let at = h.at in
      unread u.bytes left h.lines h.rest u.read h.cut h.few at.kept cause

-- what is read of a block, or of the end, is read of the trace
module _ {K : Type 0} (Has : Sought → Keeping K) (left after : Held) (before front : Front K) (result : Result Bool Stop) where
  pub end_goes : IsAtEnd left → IfOk result (λ come. (sought : Sought) (form : Form) (last : ℕ) (held l a : Held)
      → IsSeeking (Has sought) form last held l before → IsAtEnd l → GoesOn (Has sought) form last held a front come)
      → IfOk result (λ come. (sought : Sought) (form : Form) (last : ℕ) (held : Held) → IsSeeking (Has sought) form last held left before
      → GoesOn (Has sought) form last held after front come)
  end_goes end goes = goes_of result end goes
    where
      goes_of : (r : Result Bool Stop) → IsAtEnd left → IfOk r (λ come. (sought : Sought) (form : Form) (last : ℕ) (held l a : Held)
          → IsSeeking (Has sought) form last held l before → IsAtEnd l → GoesOn (Has sought) form last held a front come)
          → IfOk r (λ come. (sought : Sought) (form : Form) (last : ℕ) (held : Held) → IsSeeking (Has sought) form last held left before
          → GoesOn (Has sought) form last held after front come)
      goes_of (Ok come) at_end h = λ sought form last held u. h sought form last held left after u at_end
      goes_of (Err stop) at_end h = tt

  pub end_stops : IsAtEnd left → IfErr result (λ stop. (sought : Sought) (form : Form) (last : ℕ) (held l : Held)
      → IsSeeking (Has sought) form last held l before → IsAtEnd l → IsStop (Has sought) form last held front.kept stop)
      → IfErr result (λ stop. (sought : Sought) (form : Form) (last : ℕ) (held : Held) → IsSeeking (Has sought) form last held left before
      → IsStop (Has sought) form last held front.kept stop)
  end_stops end stops = stops_of result end stops
    where
      stops_of : (r : Result Bool Stop) → IsAtEnd left → IfErr r (λ stop. (sought : Sought) (form : Form) (last : ℕ) (held l : Held)
          → IsSeeking (Has sought) form last held l before → IsAtEnd l → IsStop (Has sought) form last held front.kept stop)
          → IfErr r (λ stop. (sought : Sought) (form : Form) (last : ℕ) (held : Held) → IsSeeking (Has sought) form last held left before
          → IsStop (Has sought) form last held front.kept stop)
      stops_of (Ok come) at_end h = tt
      stops_of (Err stop) at_end h = λ sought form last held u. h sought form last held left u at_end

  pub take_goes : (block : List ℕ) → IsReadOff left block after → IfOk result (λ come. (sought : Sought) (form : Form) (last : ℕ) (held l a : Held)
      → IsSeeking (Has sought) form last held l before → IsReadOff l block a → GoesOn (Has sought) form last held a front come)
      → IfOk result (λ come. (sought : Sought) (form : Form) (last : ℕ) (held : Held) → IsSeeking (Has sought) form last held left before
      → GoesOn (Has sought) form last held after front come)
  take_goes block off goes = goes_of result off goes
    where
      goes_of : (r : Result Bool Stop) → IsReadOff left block after → IfOk r (λ come. (sought : Sought) (form : Form) (last : ℕ) (held l a : Held)
          → IsSeeking (Has sought) form last held l before → IsReadOff l block a → GoesOn (Has sought) form last held a front come)
          → IfOk r (λ come. (sought : Sought) (form : Form) (last : ℕ) (held : Held) → IsSeeking (Has sought) form last held left before
          → GoesOn (Has sought) form last held after front come)
      goes_of (Ok come) read h = λ sought form last held u. h sought form last held left after u read
      goes_of (Err stop) read h = tt

  pub take_stops : (block : List ℕ) → IsReadOff left block after → IfErr result (λ stop. (sought : Sought) (form : Form) (last : ℕ) (held l a : Held)
      → IsSeeking (Has sought) form last held l before → IsReadOff l block a → IsStop (Has sought) form last held front.kept stop)
      → IfErr result (λ stop. (sought : Sought) (form : Form) (last : ℕ) (held : Held) → IsSeeking (Has sought) form last held left before
      → IsStop (Has sought) form last held front.kept stop)
  take_stops block off stops = stops_of result off stops
    where
      stops_of : (r : Result Bool Stop) → IsReadOff left block after → IfErr r (λ stop. (sought : Sought) (form : Form) (last : ℕ) (held l a : Held)
          → IsSeeking (Has sought) form last held l before → IsReadOff l block a → IsStop (Has sought) form last held front.kept stop)
          → IfErr r (λ stop. (sought : Sought) (form : Form) (last : ℕ) (held : Held) → IsSeeking (Has sought) form last held left before
          → IsStop (Has sought) form last held front.kept stop)
      stops_of (Ok come) read h = tt
      stops_of (Err stop) read h = λ sought form last held u. h sought form last held left after u read
