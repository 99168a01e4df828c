-- What a step makes of the first lines of a trace.
use Rattle.std.specs.Prelude.{◌≡◌, ℕ, ◌+◌, ◌<◌, Bool, true, false, List, [], ◌∷◌, ◌++◌, length}
use Rattle.lrc_races_lines.specs.Line.{longest_line}
use Rattle.lrc_races_text.specs.declared.asked.Sought.{Sought}
use Rattle.lrc_races_text.specs.declared.form.Form.{Form}
use Rattle.lrc_races_text.specs.declared.fault.Fault.{Fault}
use Rattle.lrc_races_text.specs.declared.fault.Fault.TheVariants.{BadEvent, NoMemory}
use Rattle.lrc_races_text.specs.Session.{Text}
use Rattle.lrc_races_text.specs.Told.{IsOneLine}
use Rattle.lrc_races_front.specs.declared.front.Front.{Front}
use Rattle.lrc_races_front.specs.Front.{HasAll, HasCome, HasRead, IsAt, IsBadAt, IsBadIn, IsBadLast, Keeping}

-- the number of the line that comes next
abbrev pub HasNext : {K : Type 0} → Front K → ℕ → Type 0
HasNext front number = number ≡ front.lines + 1

-- this part more has come of the next line
abbrev pub HasGrown : {K : Type 0} → (Sought → Keeping K) → Front K → List ℕ → Front K → Type 0
HasGrown Has before part after = (sought : Sought) (form : Form) (last : ℕ) (lines : List (List ℕ)) (rest : List ℕ) → IsAt (Has sought) form last lines rest before
    → IsAt (Has sought) form last lines (rest ++ part) after

-- or it is too long
abbrev pub IsTooLong : {K : Type 0} → (Sought → Keeping K) → Front K → List ℕ → K → Fault → Type 0
IsTooLong Has before part kept fault = (sought : Sought) (form : Form) (last : ℕ) (lines : List (List ℕ)) (rest : List ℕ) → IsAt (Has sought) form last lines rest before
    → (line : ℕ) (why : Text) → fault ≡ BadEvent line why
    → (line ≡ length lines + 1) × (longest_line < length (rest ++ part)) × IsBadAt (Has sought) form (lines ++ (rest ++ part) ∷ []) line why.items kept

-- the next line is whole
abbrev pub HasCompleted : {K : Type 0} → (Sought → Keeping K) → Front K → Front K → Type 0
HasCompleted Has before after = (sought : Sought) (form : Form) (last : ℕ) (lines : List (List ℕ)) (rest : List ℕ) → IsAt (Has sought) form last lines rest before
    → IsAt (Has sought) form last (lines ++ rest ∷ []) [] after

-- or it is bad
abbrev pub IsBadRest : {K : Type 0} → (Sought → Keeping K) → Front K → K → Fault → Type 0
IsBadRest Has before kept fault = (sought : Sought) (form : Form) (last : ℕ) (lines : List (List ℕ)) (rest : List ℕ) → IsAt (Has sought) form last lines rest before → IsOneLine rest
    → (line : ℕ) (why : Text) → fault ≡ BadEvent line why → (line ≡ length lines + 1) × IsBadAt (Has sought) form (lines ++ rest ∷ []) line why.items kept

-- the next line is whole, with this part more
abbrev pub HasTakenPart : {K : Type 0} → (Sought → Keeping K) → Front K → List ℕ → Front K → Type 0
HasTakenPart Has before part after = (sought : Sought) (form : Form) (last : ℕ) (lines : List (List ℕ)) (rest : List ℕ) → IsAt (Has sought) form last lines rest before
    → IsAt (Has sought) form last (lines ++ (rest ++ part) ∷ []) [] after

-- or it is bad
abbrev pub IsBadPart : {K : Type 0} → (Sought → Keeping K) → Front K → List ℕ → K → Fault → Type 0
IsBadPart Has before part kept fault = (sought : Sought) (form : Form) (last : ℕ) (lines : List (List ℕ)) (rest : List ℕ) → IsAt (Has sought) form last lines rest before
    → IsOneLine (rest ++ part) → (line : ℕ) (why : Text) → fault ≡ BadEvent line why
    → (line ≡ length lines + 1) × IsBadAt (Has sought) form (lines ++ (rest ++ part) ∷ []) line why.items kept

-- A block more has come, and with it the last line that is wanted, or not.
abbrev pub Goes : {K : Type 0} → Keeping K → Form → ℕ → List ℕ → Front K → Bool → Type 0
Goes Has form last bytes front true = HasCome Has form last bytes front
Goes Has form last bytes front false = HasRead Has form last bytes front

abbrev pub HasGoneOn : {K : Type 0} → (Sought → Keeping K) → Front K → List ℕ → Front K → Bool → Type 0
HasGoneOn Has before block after come = (sought : Sought) (form : Form) (last : ℕ) (bytes : List ℕ) → HasRead (Has sought) form last bytes before
    → Goes (Has sought) form last (bytes ++ block) after come

-- or a line is bad, and this is kept of those before it
abbrev pub Stops : {K : Type 0} → Keeping K → Form → ℕ → List ℕ → K → Fault → Type 0
Stops Has form last bytes kept (BadEvent line why) = IsBadIn Has form last bytes line why.items kept
Stops Has form last bytes kept NoMemory = Unit {0}

abbrev pub IsStopped : {K : Type 0} → (Sought → Keeping K) → Front K → List ℕ → K → Fault → Type 0
IsStopped Has before block kept fault = (sought : Sought) (form : Form) (last : ℕ) (bytes : List ℕ) → HasRead (Has sought) form last bytes before
    → Stops (Has sought) form last (bytes ++ block) kept fault

-- Of the block this is left, and what stands before it is done.
pub record HasDone {K : Type 0} (Has : Keeping K) (form : Form) (last : ℕ) (bytes block left : List ℕ) (after : Front K) : Type 0 where
  pub done : List ℕ
  pub whole : block ≡ done ++ left
  pub read : HasRead Has form last (bytes ++ done) after

-- The trace has ended, with the last line that is wanted, or before it.
abbrev pub IsEnd : {K : Type 0} → ℕ → Front K → Bool → Type 0
IsEnd last front true = front.lines ≡ last
IsEnd last front false = front.lines < last

abbrev pub HasEnded : {K : Type 0} → (Sought → Keeping K) → Front K → Front K → Bool → Type 0
HasEnded Has before after come = (sought : Sought) (form : Form) (last : ℕ) (bytes : List ℕ) → HasRead (Has sought) form last bytes before
    → HasAll (Has sought) form last bytes after × IsEnd last after come

-- or its last line is bad
abbrev pub Fails : {K : Type 0} → Keeping K → Form → ℕ → List ℕ → K → Fault → Type 0
Fails Has form last bytes kept (BadEvent line why) = IsBadLast Has form last bytes line why.items kept
Fails Has form last bytes kept NoMemory = Unit {0}

abbrev pub IsBadEnd : {K : Type 0} → (Sought → Keeping K) → Front K → K → Fault → Type 0
IsBadEnd Has before kept fault = (sought : Sought) (form : Form) (last : ℕ) (bytes : List ℕ) → HasRead (Has sought) form last bytes before → Fails (Has sought) form last bytes kept fault
