-- The lines that are printed of a trace.
use Rattle.std.specs.Prelude.{ℕ, List, [], ◌∷◌, Option, Some, None, codes, decimal, flat_map, length, slice_get, unwrap_or}
use Rattle.lrc_races_trace.specs.declared.event.Event.{Event}
use Rattle.lrc_races_trace.specs.declared.event.Pair.{Pair}
use Rattle.lrc_races_trace.specs.declared.event.Operation.{Operation}
use Rattle.lrc_races_trace.specs.declared.event.Operation.TheVariants.{Read, Write}
use Rattle.lrc_races_trace.specs.declared.fault.Fault.{Fault}
use Rattle.lrc_races_trace.specs.declared.fault.Reason.{Reason}
use Rattle.lrc_races_trace.specs.declared.fault.Reason.TheVariants.{Joined, Waits, NotArrived, Held, NotHeld, Known}
use Rattle.lrc_races_trace.specs.declared.group.Group.{Group}
use Rattle.lrc_races_text.specs.declared.form.Form.{Form}
use Rattle.lrc_races_text.specs.declared.form.Form.TheVariants.{Std, Acts}
use Rattle.lrc_races_text.specs.Naming.{Naming}

-- the name with this number
abbrev pub name_at : List (List ℕ) → ℕ → List ℕ
name_at names number = unwrap_or (slice_get names number) []

-- threads and variables of acts are nodes and words
abbrev pub thread_word : Form → List ℕ
thread_word Std = []
thread_word Acts = codes "node "

abbrev pub variable_word : Form → List ℕ
variable_word Std = []
variable_word Acts = codes "word "

-- the kind of an access, and its variable
abbrev pub kind_word : Operation → List ℕ
kind_word (Write variable) = codes "write"
kind_word _ = codes "read"

abbrev pub variable_of : Operation → ℕ
variable_of (Read variable) = variable
variable_of (Write variable) = variable
variable_of _ = 0

-- where an access is, if that is known
abbrev pub place_word : Option ℕ → List ℕ
place_word (Some location) = codes " at "
place_word None = []

abbrev pub place_name : Naming → Option ℕ → List ℕ
place_name naming (Some location) = name_at naming.locations location
place_name naming None = []

-- parts of a line, one behind another
abbrev pub together : List (List ℕ) → List ℕ
together parts = flat_map (λ part. part) parts

-- `line I THREAD KIND at LOCATION`, in parts
abbrev pub access_parts : Form → Naming → Event → List (List ℕ)
access_parts form naming event = codes "line " ∷ decimal event.line ∷ codes " " ∷ thread_word form ∷ name_at naming.threads event.thread
    ∷ codes " " ∷ kind_word event.operation ∷ place_word event.location ∷ place_name naming event.location ∷ []

-- the line of a pair that is told: `race V: line I THREAD KIND at LOCATION, line J THREAD KIND at LOCATION`
abbrev pub race_line : Form → Naming → Pair → List ℕ
race_line form naming pair = together (codes "race " ∷ variable_word form ∷ name_at naming.variables (variable_of pair.earlier.event.operation)
    ∷ codes ": " ∷ together (access_parts form naming pair.earlier.event) ∷ codes ", " ∷ together (access_parts form naming pair.later.event)
    ∷ codes "\n" ∷ [])

abbrev pub race_lines : Form → Naming → List Pair → List ℕ
race_lines form naming pairs = flat_map (race_line form naming) pairs

-- the line of a group: the locations and kinds of its pairs, how many they are, and the first of them
abbrev pub side_place : Naming → Option ℕ → List ℕ
side_place naming (Some location) = name_at naming.locations location
side_place naming None = codes "-"

abbrev pub side_parts : Naming → Event → List (List ℕ)
side_parts naming event = side_place naming event.location ∷ codes " " ∷ kind_word event.operation ∷ []

abbrev pub sides_parts : Naming → Pair → List (List ℕ)
sides_parts naming pair = codes "races " ∷ together (side_parts naming pair.earlier.event) ∷ codes ", " ∷ together (side_parts naming pair.later.event) ∷ []

abbrev pub first_parts : Form → Naming → Pair → List (List ℕ)
first_parts form naming pair = codes ", first " ∷ variable_word form ∷ name_at naming.variables (variable_of pair.earlier.event.operation)
    ∷ codes " lines " ∷ decimal pair.earlier.event.line ∷ codes ", " ∷ decimal pair.later.event.line ∷ []

abbrev pub group_line : Form → Naming → Group → List ℕ
group_line form naming group = together (together (sides_parts naming group.first) ∷ codes ": " ∷ decimal group.count
    ∷ together (first_parts form naming group.first) ∷ codes "\n" ∷ [])

abbrev pub group_lines : Form → Naming → List Group → List ℕ
group_lines form naming groups = flat_map (group_line form naming) groups

-- why no program would give an event of the thread
abbrev pub reason_parts : Naming → ℕ → Reason → List (List ℕ)
reason_parts naming thread (Joined line) = codes "thread " ∷ name_at naming.threads thread ∷ codes " was joined at line " ∷ decimal line ∷ []
reason_parts naming thread (Waits barrier line) = codes "thread " ∷ name_at naming.threads thread ∷ codes " waits at barrier "
    ∷ name_at naming.barriers barrier ∷ codes " since line " ∷ decimal line ∷ []
reason_parts naming thread (NotArrived barrier) = codes "thread " ∷ name_at naming.threads thread ∷ codes " has not arrived at barrier "
    ∷ name_at naming.barriers barrier ∷ []
reason_parts naming thread (Held lock holder line) = codes "lock " ∷ name_at naming.locks lock ∷ codes " is held by thread "
    ∷ name_at naming.threads holder ∷ codes " since line " ∷ decimal line ∷ []
reason_parts naming thread (NotHeld lock) = codes "lock " ∷ name_at naming.locks lock ∷ codes " is not held by thread "
    ∷ name_at naming.threads thread ∷ []
reason_parts naming thread (Known other line) = codes "thread " ∷ name_at naming.threads other ∷ codes " is known since line "
    ∷ decimal line ∷ []

-- the line of the first event that no program would give, if there is one
abbrev pub fault_line : Naming → Option Fault → List ℕ
fault_line naming (Some fault) = together (codes "not well formed at line " ∷ decimal fault.event.line ∷ codes ": "
    ∷ together (reason_parts naming fault.event.thread fault.reason) ∷ codes "\n" ∷ [])
fault_line naming None = []

-- the last line: how many pairs are told, how many events there are, and names of each kind
abbrev pub counts_line : Naming → ℕ → ℕ → List ℕ
counts_line naming races events = together (codes "races " ∷ decimal races ∷ codes ", events " ∷ decimal events
    ∷ codes ", threads " ∷ decimal (length naming.threads) ∷ codes ", variables " ∷ decimal (length naming.variables)
    ∷ codes ", locks " ∷ decimal (length naming.locks) ∷ codes ", barriers " ∷ decimal (length naming.barriers) ∷ codes "\n" ∷ [])
