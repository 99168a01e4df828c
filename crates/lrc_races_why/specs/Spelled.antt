-- What is printed of two events.
use Rattle.std.specs.Prelude.{ℕ, List, [], ◌∷◌, ◌++◌, codes, decimal, flat_map}
use Rattle.lrc_races_trace.specs.declared.event.Event.{Event}
use Rattle.lrc_races_text.specs.declared.form.Form.{Form}
use Rattle.lrc_races_text.specs.Naming.{Naming}
use Rattle.lrc_races_text.specs.Spelled.{name_at, thread_word, variable_word, variable_of, place_word, place_name, together}
use Rattle.lrc_races_why.specs.declared.link.Link.{Link}
use Rattle.lrc_races_why.specs.declared.link.Link.TheVariants.{Thread, Lock, Fork, Join, Barrier}
use Rattle.lrc_races_why.specs.Deeds.{deed_text}

-- what the event does, as its line has it, and where
abbrev pub deed_parts : Form → Naming → List ℕ → Event → List (List ℕ)
deed_parts form naming line event = deed_text form line ∷ place_word event.location ∷ place_name naming event.location ∷ []

-- who does it
abbrev pub actor_parts : Form → Naming → Event → List (List ℕ)
actor_parts form naming event = thread_word form ∷ name_at naming.threads event.thread ∷ codes " " ∷ []

-- `line I THREAD DEED at LOCATION`
abbrev pub event_line : Form → Naming → List ℕ → Event → List ℕ
event_line form naming line event = together (codes "line " ∷ decimal event.line ∷ codes " " ∷ together (actor_parts form naming event)
    ∷ together (deed_parts form naming line event) ∷ codes "\n" ∷ [])

-- by what a step of a chain comes
abbrev pub link_word : Link → List ℕ
link_word (Thread thread) = codes "    in thread "
link_word (Lock lock) = codes "    by lock "
link_word (Fork thread) = codes "    by fork of "
link_word (Join thread) = codes "    by join of "
link_word (Barrier barrier) = codes "    by barrier "

abbrev pub link_name : Naming → Link → List ℕ
link_name naming (Thread thread) = name_at naming.threads thread
link_name naming (Lock lock) = name_at naming.locks lock
link_name naming (Fork thread) = name_at naming.threads thread
link_name naming (Join thread) = name_at naming.threads thread
link_name naming (Barrier barrier) = name_at naming.barriers barrier

-- who does what the step leads to; in one thread that is said already
abbrev pub led_to : Form → Naming → Link → Event → List ℕ
led_to form naming (Thread thread) event = []
led_to form naming _ event = together (actor_parts form naming event)

-- `in thread T: line K DEED at LOCATION`, or `by .. X: line K THREAD DEED at LOCATION`
abbrev pub step_line : Form → Naming → Link → List ℕ → Event → List ℕ
step_line form naming link line event = together (link_word link ∷ link_name naming link ∷ codes ": line " ∷ decimal event.line ∷ codes " "
    ∷ led_to form naming link event ∷ together (deed_parts form naming line event) ∷ codes "\n" ∷ [])

abbrev pub one_thread_line : Naming → ℕ → List ℕ
one_thread_line naming thread = together (codes "  both are of thread " ∷ name_at naming.threads thread ∷ codes "\n" ∷ [])

abbrev pub order_line : ℕ → ℕ → List ℕ
order_line first second = together (codes "  line " ∷ decimal first ∷ codes " happens before line " ∷ decimal second ∷ codes ":\n" ∷ [])

-- the locks that are held
abbrev pub another_lock : Naming → ℕ → List ℕ
another_lock naming lock = codes ", " ++ name_at naming.locks lock

abbrev pub held_text : Naming → List ℕ → List ℕ
held_text naming [] = codes "no lock"
held_text naming (lock ∷ []) = codes "lock " ++ name_at naming.locks lock
held_text naming (lock ∷ other ∷ more) = codes "locks " ++ name_at naming.locks lock ++ flat_map (another_lock naming) (other ∷ more)

abbrev pub race_line : Form → Naming → Event → List ℕ
race_line form naming event = together (codes "  they race: both access " ∷ variable_word form
    ∷ name_at naming.variables (variable_of event.operation) ∷ codes ", and neither happens before the other\n" ∷ [])

abbrev pub held_line : Naming → ℕ → List ℕ → ℕ → List ℕ → List ℕ
held_line naming first held second others = together (codes "  held at line " ∷ decimal first ∷ codes ": " ∷ held_text naming held
    ∷ codes ", at line " ∷ decimal second ∷ codes ": " ∷ held_text naming others ∷ codes "\n" ∷ [])

abbrev pub neither_line : List ℕ
neither_line = codes "  neither happens before the other\n"
