-- What is told of an act from the text: the private names that its statement reads, and what a quiet does.
use Rattle.std.specs.Prelude.{ℕ, Bool, true, false, Option, Some, None, List, [], ◌∷◌, ◌++◌, codes, decimal, if◌then◌else◌, slice_index}
use Rattle.lrc_program.specs.declared.Statement.{Statement}
use Rattle.lrc_program.specs.declared.Statement.TheVariants.{Assign, If', While'}
use Rattle.lrc_lang.specs.Symbol.{Names}
use Rattle.lrc_trace.specs.declared.act.Deed.{Deed}
use Rattle.lrc_trace.specs.declared.act.Deed.TheVariants.{Quiet}
use Rattle.lrc_text.specs.Each.{each}
use Rattle.lrc_exec.specs.Condition.{condition_holds}
use Rattle.lrc_exec.specs.Meaning.{Thread, value_in}
use Rattle.lrc_why_lines.specs.declared.shown.Shown.{Shown}
use Rattle.lrc_why_lines.specs.Places.{there_text}
use Rattle.lrc_private_names.specs.Spelling.{spelling}
use Rattle.lrc_private_names.specs.Statement.{reads_name}

-- a name with its value
unfoldable pub is_text : (name : List ℕ) → ℕ → List ℕ
is_text name value = codes "  " ++ name ++ (codes " is " ++ decimal value)

-- by which act it was set last
unfoldable pub set_text : Shown → Option ℕ → List ℕ
set_text shown None = codes ", never set\n"
set_text shown (Some position) = codes ", set by " ++ there_text shown position ++ codes "\n"

unfoldable pub name_line : Shown → (name : List ℕ) → ℕ → Option ℕ → List ℕ
name_line shown name value last = is_text name value ++ set_text shown last

-- the same of a name that the statement reads
unfoldable pub name_text : Shown → Names → List ℕ → Statement → ℕ → Option ℕ → List ℕ
name_text shown names privates statement name last =
    if reads_name name statement then name_line shown (spelling names name) (slice_index privates name) last else []

-- the lines of the names that a statement reads, by their numbers; the act by which each was set last is given
abbrev pub names_text : Shown → Names → List ℕ → Statement → List (Option ℕ) → List ℕ
names_text shown names privates statement lasts = each (name_text shown names privates statement) lasts

-- what an assignment sets its name to
unfoldable pub sets_line : (name : List ℕ) → Option ℕ → List ℕ
sets_line name None = []
sets_line name (Some value) = codes "  sets " ++ name ++ (codes " to " ++ decimal value) ++ codes "\n"

unfoldable pub condition_line : Bool → List ℕ
condition_line true = codes "  the condition holds\n"
condition_line false = codes "  the condition does not hold\n"

-- what a thread does by this statement that only it sees
unfoldable pub unseen_text : Names → Thread → Statement → List ℕ
unseen_text names thread (Assign name value) = sets_line (spelling names name) (value_in thread value)
unseen_text names thread (If' condition p first q second) = condition_line (condition_holds thread)
unseen_text names thread (While' condition p body) = condition_line (condition_holds thread)
unseen_text names thread _ = []

abbrev pub is_quiet : Deed → Bool
is_quiet Quiet = true
is_quiet _ = false

unfoldable pub quiet_text : Names → Thread → Deed → Statement → List ℕ
quiet_text names thread deed statement = if is_quiet deed then unseen_text names thread statement else []

unfoldable pub statement_text : Shown → Names → Thread → List (Option ℕ) → Deed → Statement → List ℕ
statement_text shown names thread lasts deed statement =
    names_text shown names thread.privates statement lasts ++ quiet_text names thread deed statement

-- the same of the first of the statements that are still to do; at the end of the text there is none
abbrev pub first_text : Shown → Names → Thread → List (Option ℕ) → Deed → List Statement → List ℕ
first_text shown names thread lasts deed [] = []
first_text shown names thread lasts deed (statement ∷ rest) = statement_text shown names thread lasts deed statement

-- what is told of a deed of this thread
abbrev pub private_text : Shown → Names → Thread → List (Option ℕ) → Deed → List ℕ
private_text shown names thread lasts deed = first_text shown names thread lasts deed thread.rest
