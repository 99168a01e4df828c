-- The table of hints on faults of names.
use Rattle.std.specs.Prelude.{◌≡◌, ◌&&◌, ◌||◌, ℕ, Bool, true, false, nat_lt, Option, Some, None, List, [], ◌∷◌, codes, get_or, if◌then◌else◌, length}
use Rattle.std.specs.List.{find, flat_map, list_all, list_any}
use Rattle.std.specs.Option.{option_map, option_or}
use Rattle.std.specs.Str.{bytes_eq}
use Rattle.lrc_nearest.specs.Edits.{AreFar, IsNearest}
use Rattle.lrc_named_tokens.specs.declared.token.Keyword.TheVariants as keywords
use Rattle.lrc_named_tokens.specs.declared.token.Sign.TheVariants as signs
use Rattle.lrc_named_tokens.specs.Token.{keyword, sign, Lexeme, token, Located}
use Rattle.lrc_named_tree.specs.Tree.{Named}
use Rattle.lrc_named_expression_faults.specs.declared.fault.FaultKind.{FaultKind}
use Rattle.lrc_named_expression_faults.specs.declared.fault.FaultKind.TheVariants as kinds
use Rattle.lrc_named_entries.specs.declared.entry.Sort.{Sort}
use Rattle.lrc_named_entries.specs.declared.entry.Sort.TheVariants as sorts
use Rattle.lrc_named_entries.specs.Entry.{Entry}
use Rattle.lrc_named_name_hints.specs.declared.hint.Hint.TheVariants as hints
use Rattle.lrc_named_name_hints.specs.declared.hint.Sense.{Sense}
use Rattle.lrc_named_name_hints.specs.declared.hint.Sense.TheVariants as senses
use Rattle.lrc_named_name_hints.specs.Hint.{arguments_words, declared_words, hint_words, indices_words, is_words, near_words}
use Rattle.lrc_named_name_hints.specs.Owner.{owner_before}
use Rattle.lrc_named_name_hints.specs.Seen.{Seen, line_of, name_at, name_in}

-- ---- what a name is

abbrev pub is_entry : List ℕ → Entry → Bool
is_entry name e = bytes_eq e.name.bytes name

abbrev pub is_name : List ℕ → Named → Bool
is_name name n = bytes_eq n.bytes name

abbrev pub sense_of_sort : Sort → Sense
sense_of_sort sorts.Constant = senses.Constant
sense_of_sort sorts.Shared = senses.Shared
sense_of_sort sorts.Lock = senses.Lock
sense_of_sort sorts.Function = senses.Function

abbrev pub sense_of_entry : Option Entry → Sense
sense_of_entry None = senses.Private
sense_of_entry (Some e) = sense_of_sort e.sort

-- a parameter of the function around, or what is declared, or else private
abbrev pub sense_of : Seen → List ℕ → Sense
sense_of s name = if list_any (is_name name) s.parameters then senses.Parameter else sense_of_entry (find (is_entry name) s.entries)

-- ---- names that are declared twice

-- an earlier place of the name
abbrev pub stood : ℕ → List ℕ → Named → Bool
stood at name n = nat_lt n.at at && bytes_eq n.bytes name

abbrev pub earlier_entry : Seen → List ℕ → Option ℕ
earlier_entry s name = option_map (λ (e : Entry). e.name.at) (find (λ e. stood s.at name e.name) s.entries)

abbrev pub earlier_parameter : Seen → List ℕ → Option ℕ
earlier_parameter s name = option_map (λ (n : Named). n.at) (find (stood s.at name) s.parameters)

abbrev pub twice_place : Seen → Option (List ℕ) → Option ℕ
twice_place s None = s.counted
twice_place s (Some name) = option_or (earlier_entry s name) (earlier_parameter s name)

abbrev pub declared_row : Seen → Option ℕ → Option (List ℕ)
declared_row s place = option_map (λ at. declared_words (line_of s at)) place

abbrev pub twice_row : Seen → Option (List ℕ)
twice_row s = declared_row s (twice_place s (name_at s))

-- ---- names that are unknown

abbrev pub declared_place : Seen → List ℕ → Option ℕ
declared_place s name = option_map (λ (e : Entry). e.name.at) (find (is_entry name) s.entries)

abbrev pub is_truth : List ℕ → Bool
is_truth name = bytes_eq name (codes "true") || bytes_eq name (codes "false")

-- a name is set: `=`, `+=` or `-=` stands behind it, or `for` before it
abbrev pub sets : Lexeme → Bool
sets (token (sign signs.Assign)) = true
sets (token (sign signs.AddAssign)) = true
sets (token (sign signs.SubtractAssign)) = true
sets other = false

abbrev pub counts : Lexeme → Bool
counts (token (keyword keywords.For)) = true
counts other = false

abbrev pub is_spelled : List ℕ → Option (List ℕ) → Bool
is_spelled name None = false
is_spelled name (Some bytes) = bytes_eq bytes name

abbrev pub is_set_by : List ℕ → (one next : Lexeme) → Bool
is_set_by name one next = (is_spelled name (name_in one) && sets next) || (counts one && is_spelled name (name_in next))

abbrev pub is_set_in : List ℕ → List Located → Bool
is_set_in name [] = false
is_set_in name (one ∷ []) = false
is_set_in name (one ∷ next ∷ others) =
    is_set_by name one.lexeme next.lexeme || is_set_in name (next ∷ others)

-- the token at fault stands in a statement: behind all that is declared
abbrev pub ends_before : ℕ → Entry → Bool
ends_before at e = nat_lt e.last at

abbrev pub is_in_statement : Seen → Bool
is_in_statement s = list_all (ends_before s.at) s.entries

-- this declares a name, and ends before a token
abbrev pub is_declared_behind : ℕ → List ℕ → Entry → Bool
is_declared_behind at name e = ends_before at e && bytes_eq e.name.bytes name

-- a name is declared at the token at fault: before it, as a parameter of the function around, or, in a statement, as a private name
abbrev pub is_declared_there : Seen → List ℕ → Bool
is_declared_there s name =
    list_any (is_declared_behind s.at name) s.entries
    || (list_any (is_name name) s.parameters || (is_in_statement s && is_set_in name s.tokens))

abbrev pub candidate : Seen → Option (List ℕ) → List (List ℕ)
candidate s None = []
candidate s (Some name) = if is_declared_there s name then name ∷ [] else []

-- the names that are declared there, where they stand in the text
abbrev pub candidates : Seen → List (List ℕ)
candidates s = flat_map (λ (found : Located). candidate s (name_in found.lexeme)) s.tokens

-- the name nearest to this one, if one is near
abbrev pub IsNearHint : List (List ℕ) → List ℕ → Option (List ℕ) → Type 0
IsNearHint words name None = AreFar words name (length words)
IsNearHint words name (Some hint) =
    (place : ℕ) × IsNearest words name (length words) place × (hint ≡ near_words (get_or words place []))

abbrev pub IsUnknownHintBy : (declared : Option ℕ) → (truth : Bool) → Seen → List ℕ → Option (List ℕ) → Type 0
IsUnknownHintBy (Some at) truth s name hint = hint ≡ Some (declared_words (line_of s at))
IsUnknownHintBy None true s name hint = hint ≡ Some (hint_words hints.Truth)
IsUnknownHintBy None false s name hint = IsNearHint (candidates s) name hint

abbrev pub IsUnknownHint : Seen → Option (List ℕ) → Option (List ℕ) → Type 0
IsUnknownHint s None hint = hint ≡ None
IsUnknownHint s (Some name) hint = IsUnknownHintBy (declared_place s name) (is_truth name) s name hint

-- ---- wrong numbers of indices and arguments

-- the name that indices (arguments) belong to of which the token at fault is one too many, or behind which it stands
abbrev pub owner_in : Seen → (opened : ℕ) → Option (List ℕ)
owner_in s opened = owner_before s.tokens s.at opened

-- how many indices or arguments there are of what is declared so
abbrev pub count_of_entry : Option Entry → ℕ
count_of_entry None = 0
count_of_entry (Some e) = e.count

abbrev pub count_of : Seen → List ℕ → ℕ
count_of s name = count_of_entry (find (is_entry name) s.entries)

abbrev pub indices_row : Seen → Option (List ℕ) → Option (List ℕ)
indices_row s None = None
indices_row s (Some name) = Some (indices_words name (count_of s name))

abbrev pub arguments_row : Seen → Option (List ℕ) → Option (List ℕ)
arguments_row s None = None
arguments_row s (Some name) = Some (arguments_words name (count_of s name))

-- ---- all of it

abbrev pub use_row : Seen → Option (List ℕ) → Option (List ℕ)
use_row s None = None
use_row s (Some name) = Some (is_words name (sense_of s name))

-- the words of the hint on a fault of this kind, if it has one
abbrev pub IsHintOf : FaultKind → Seen → Option (List ℕ) → Type 0
IsHintOf kinds.DeclaredTwice s hint = hint ≡ twice_row s
IsHintOf kinds.ReservedName s hint = hint ≡ Some (hint_words hints.Reserved)
IsHintOf kinds.UnknownName s hint = IsUnknownHint s (name_at s) hint
IsHintOf kinds.WrongUse s hint = hint ≡ use_row s (name_at s)
IsHintOf kinds.WrongIndices s hint = hint ≡ indices_row s (owner_in s 0)
IsHintOf kinds.WrongArguments s hint = hint ≡ arguments_row s (owner_in s 1)
IsHintOf kinds.NotConstant s hint = hint ≡ Some (hint_words hints.NotConstant)
IsHintOf (kinds.OverLimit limit) s hint = hint ≡ Some (hint_words (hints.Over limit))
IsHintOf kinds.TooManyNames s hint = hint ≡ Some (hint_words hints.TooManyNames)
IsHintOf kinds.IndexOutOfRange s hint = hint ≡ None
