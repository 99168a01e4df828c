-- The form of a line: `THREAD|OP(TARGET)`, or `THREAD|OP(TARGET)|LOCATION`. A line is the bytes before its line feed.
use Rattle.std.specs.Prelude.{◌≢◌, ℕ, ◌<◌, ◌≤◌, List, [], ◌∷◌, ◌++◌, All, codes, length}
use Rattle.lrc_races_lines.specs.declared.line.Kind.{Kind}
use Rattle.lrc_races_lines.specs.declared.line.Kind.TheVariants.{Read, Write, Acquire, Release, Post, Wait, Fork, Join, Arrive, Depart, Idle}
use Rattle.lrc_races_lines.specs.declared.line.Named.{Named}
use Rattle.lrc_races_lines.specs.declared.line.Line.{Line}
use Rattle.lrc_races_lines.specs.declared.line.Line.TheVariants.{Nothing, Event, Bad}

-- The bytes that mean something: a bar, parentheses, a line feed, a carriage return, and the sign that begins a comment.
abbrev pub bar : ℕ
bar = 124

abbrev pub open_parenthesis : ℕ
open_parenthesis = 40

abbrev pub close_parenthesis : ℕ
close_parenthesis = 41

abbrev pub line_feed : ℕ
line_feed = 10

abbrev pub carriage_return : ℕ
carriage_return = 13

abbrev pub number_sign : ℕ
number_sign = 35

-- how long a line is at most, and a name
abbrev pub longest_line : ℕ
longest_line = 4096

abbrev pub longest_name : ℕ
longest_name = 255

-- a name of a thread or a target: not empty, and any bytes but those
abbrev pub IsName : List ℕ → Type 0
IsName name = (0 < length name) × (length name ≤ longest_name)
    × All (λ (b : ℕ). (b ≢ bar) × (b ≢ open_parenthesis) × (b ≢ close_parenthesis) × (b ≢ line_feed)) name

-- a location, and what stands behind an idle word: any bytes but bars and line feeds, and perhaps none
abbrev pub IsText : List ℕ → Type 0
IsText text = (length text ≤ longest_name) × All (λ (b : ℕ). (b ≢ bar) × (b ≢ line_feed)) text

-- the words of the operations that have a target
abbrev pub word : Kind → List ℕ
word Read = codes "r"
word Write = codes "w"
word Acquire = codes "acq"
word Release = codes "rel"
word Post = codes "post"
word Wait = codes "wait"
word Fork = codes "fork"
word Join = codes "join"
word Arrive = codes "arrive"
word Depart = codes "depart"
word Idle = []

-- the words of those that do nothing
pub data IsIdleWord : List ℕ → Type 0 where
  begins : IsIdleWord (codes "begin")
  ends : IsIdleWord (codes "end")
  enters : IsIdleWord (codes "enter")
  exits : IsIdleWord (codes "exit")
  requests : IsIdleWord (codes "req")
  branches : IsIdleWord (codes "branch")

-- in parentheses
abbrev pub enclosed : List ℕ → List ℕ
enclosed inner = open_parenthesis ∷ (inner ++ close_parenthesis ∷ [])

-- The bytes spell the operation on the target.
pub data SpellsOperation : Kind → List ℕ → List ℕ → Type 0 where
  -- a word, and the target in parentheses
  with_target : {kind : Kind} {target : List ℕ} → kind ≢ Idle → IsName target → SpellsOperation kind target (word kind ++ enclosed target)
  -- a word that does nothing, alone
  alone : {idle : List ℕ} → IsIdleWord idle → SpellsOperation Idle [] idle
  -- or with anything in parentheses, as the signature of a method
  with_text : {idle : List ℕ} (inner : List ℕ) → IsIdleWord idle → IsText inner → SpellsOperation Idle [] (idle ++ enclosed inner)

-- The bytes spell the thread, the operation and the location.
pub data SpellsEvent : List ℕ → Kind → List ℕ → List ℕ → List ℕ → Type 0 where
  unplaced : {thread target operation : List ℕ} {kind : Kind} → IsName thread → SpellsOperation kind target operation
      → SpellsEvent thread kind target [] (thread ++ bar ∷ operation)
  placed : {thread target operation location : List ℕ} {kind : Kind} → IsName thread → SpellsOperation kind target operation → IsText location
      → SpellsEvent thread kind target location (thread ++ bar ∷ operation ++ bar ∷ location)

-- The body of a line is what stands before a carriage return at its end, if there is one: one, and no more.
pub data IsBody : List ℕ → List ℕ → Type 0 where
  returned : {body : List ℕ} → IsBody (body ++ carriage_return ∷ []) body
  unreturned : {line : List ℕ} → ((body : List ℕ) → line ≢ body ++ carriage_return ∷ []) → IsBody line line

-- a body that is no event: nothing, or a comment
pub data IsBlank : List ℕ → Type 0 where
  empty : IsBlank []
  comment : {rest : List ℕ} → IsBlank (number_sign ∷ rest)

-- The line says nothing.
pub record SaysNothing (line : List ℕ) : Type 0 where
  pub body : List ℕ
  pub of : IsBody line body
  pub short : length line ≤ longest_line
  pub blank : IsBlank body

-- What a line says of an event: the thread, what it does and to what, and where; the location is empty where there is none.
pub record Saying : Type 0 where
  pub thread : List ℕ
  pub kind : Kind
  pub target : List ℕ
  pub location : List ℕ

abbrev pub saying_of : Named → Saying
saying_of named = record { thread = named.thread.now; kind = named.kind; target = named.target.now; location = named.location.now }

-- The line says the event. (A name may begin with the sign of a comment nowhere but in the first place of a line.)
pub record Says (line : List ℕ) (saying : Saying) : Type 0 where
  pub body : List ℕ
  pub of : IsBody line body
  pub short : length line ≤ longest_line
  pub no_comment : ¬ IsBlank body
  pub spells : SpellsEvent saying.thread saying.kind saying.target saying.location body

-- The line has not the form.
abbrev pub IsBad : List ℕ → Type 0
IsBad line = ¬ SaysNothing line × ((saying : Saying) → ¬ Says line saying)

-- what a line is read as
abbrev pub Reads : List ℕ → Line → Type 0
Reads line Nothing = SaysNothing line
Reads line (Event named) = Says line (saying_of named)
Reads line Bad = IsBad line
