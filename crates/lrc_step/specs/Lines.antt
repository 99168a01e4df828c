-- The lines of a run's data that are not its states, and the document.
use Rattle.std.specs.Prelude.{Bool, ◌==◌, ◌≢◌, ◌<◌, ◌-◌, ◌^◌, All, ℕ, List, [], ◌++◌, IfSome, Option, None, Some, codes, decimal, if◌then◌else◌, length, take}
use Rattle.lrc_judge.specs.declared.lanes.Pair.{Pair}
use Rattle.lrc_labels.specs.declared.cut.Divider.TheVariants.{LineFeed}
use Rattle.lrc_labels.specs.Cut.{cut, divides}
use Rattle.lrc_explain.specs.declared.site.Site.{Site}
use Rattle.lrc_text.specs.Each.{each}
use Rattle.lrc_step.specs.declared.given.Given.{Given}
use Rattle.lrc_step.specs.declared.rivals.Rival.{Rival}
use Rattle.lrc_step.specs.Spelling.{spelled}
use Rattle.lrc_step.specs.declared.frame.TheConstants.{OPENING}
use Rattle.lrc_step.specs.declared.script.TheConstants.{CLOSING}

-- a number, or null where there is none
abbrev pub optional_text : Option ℕ → List ℕ
optional_text None = codes "null"
optional_text (Some number) = decimal number

-- a text between its quotation marks
unfoldable pub quoted : List ℕ → List ℕ
quoted text = codes "\"" ++ spelled text ++ codes "\""

-- something in a list: a comma stands before each but the first
abbrev pub comma_text : ℕ → List ℕ
comma_text place = if place == 0 then [] else codes ","

-- a number in a list
abbrev pub number_at : ℕ → ℕ → List ℕ
number_at place number = comma_text place ++ decimal number

-- numbers in a list
unfoldable pub numbers_text : List ℕ → List ℕ
numbers_text numbers = codes "[" ++ each number_at numbers ++ codes "]"

abbrev pub quoted_at : ℕ → List ℕ → List ℕ
quoted_at place text = comma_text place ++ quoted text

abbrev pub quoted_each : List (List ℕ) → List ℕ
quoted_each texts = each quoted_at texts

-- what ends the line of the program
unfoldable pub text_part : List ℕ → List ℕ
text_part text = codes ",\"text\":" ++ quoted text ++ codes "}\n"

-- the program: the name of its file, and its text
abbrev pub program_line : (name text : List ℕ) → List ℕ
program_line name text = codes "{\"program\":" ++ quoted name ++ text_part text

-- the lines of what a command prints: what stands before each line feed and behind the one before
abbrev pub lines_in : List ℕ → List (List ℕ)
lines_in printed = let pieces = cut (divides LineFeed) printed in take (length pieces - 1) pieces

-- what of an access tells its kind
abbrev pub kind_text : (writes : Bool) → List ℕ
kind_text writes = if writes then codes ",\"kind\":\"write\"}" else codes ",\"kind\":\"read\"}"

-- an access: the line of the program's text that it is of, and whether it writes
abbrev pub access_text : (line : ℕ) → (writes : Bool) → List ℕ
access_text line writes = codes "{\"line\":" ++ decimal line ++ kind_text writes

-- two accesses that race, the earlier first
unfoldable pub site_text : Site → List ℕ
site_text site = codes ",\"of\":[" ++ access_text site.line site.writes ++ codes "," ++ access_text site.later_line site.later_writes ++ codes "]"

-- A node's least act that races with another act: its position, and the two accesses; null where none of the node's acts races with it.
unfoldable pub rival_text : Option Rival → List ℕ
rival_text None = codes "null"
rival_text (Some rival) = codes "{\"act\":" ++ decimal rival.act ++ site_text rival.site ++ codes "}"

abbrev pub rival_at : ℕ → Option Rival → List ℕ
rival_at node rival = comma_text node ++ rival_text rival

-- those of each node
abbrev pub rivals_text : List (Option Rival) → List ℕ
rivals_text rivals = each rival_at rivals

-- by which writes a read gives what it gives: the last that it knows, and one that it does not
unfoldable pub writes_text : Given → List ℕ
writes_text given = codes "{\"last\":" ++ numbers_text given.last.items ++ codes ",\"unknown\":" ++ optional_text given.unknown ++ codes "}"

-- the same, or null of an act that is no read
abbrev pub given_text : Option Given → List ℕ
given_text None = codes "null"
given_text (Some given) = writes_text given

-- why the act at a position is as it is, by lines; by nodes the acts that race with it; and the writes that a read gives what it gives by
abbrev pub why_line : ℕ → List (List ℕ) → List (Option Rival) → Option Given → List ℕ
why_line position lines rivals given =
    codes "{\"why\":" ++ decimal position ++ codes ",\"lines\":[" ++ quoted_each lines ++ codes "],\"races\":[" ++ rivals_text rivals
    ++ codes "],\"gives\":" ++ given_text given ++ codes "}\n"

-- two acts that race
abbrev pub pair_text : ℕ → Pair → List ℕ
pair_text place pair = comma_text place ++ codes "[" ++ decimal pair.earlier ++ codes "," ++ decimal pair.later ++ codes "]"

abbrev pub pairs_text : List Pair → List ℕ
pairs_text pairs = each pair_text pairs

-- the accesses of a group
abbrev pub group_site_text : Option Site → List ℕ
group_site_text None = []
group_site_text (Some site) = site_text site

-- the pairs of a group, and the two accesses that its races are of
abbrev pub race_line : Option ℕ → Option Site → List Pair → List ℕ
race_line group site pairs =
    codes "{\"race\":" ++ optional_text group ++ codes ",\"pairs\":[" ++ pairs_text pairs ++ codes "]" ++ group_site_text site ++ codes "}\n"

-- the frame: what stands before the lines, and behind them
unfoldable pub opening : List ℕ
opening = OPENING.now

unfoldable pub closing : List ℕ
closing = CLOSING.now

-- the document: its frame, with the lines in the one place for them
abbrev pub document : List ℕ → List ℕ
document lines = opening ++ lines ++ closing

-- the lines of a run: the program, the states, the run with reasons, its races, and the reasons of its acts
abbrev pub run_lines : (name text states explained races reasons : List ℕ) → List ℕ
run_lines name text states explained races reasons = program_line name text ++ states ++ explained ++ races ++ reasons

-- bytes with none of the signs that markup begins with, ends with, or names signs by
abbrev pub HasNoMarkup : List ℕ → Type 0
HasNoMarkup bytes = All (λ byte. (byte ≢ 60) × (byte ≢ 62) × (byte ≢ 38)) bytes

-- the two positions are numbers of 64 bits
abbrev pub IsPairOfWords : Pair → Type 0
IsPairOfWords pair = (pair.earlier < 2 ^ 64) × (pair.later < 2 ^ 64)

-- the two lines are numbers of 64 bits
abbrev pub IsSiteOfWords : Site → Type 0
IsSiteOfWords site = (site.line < 2 ^ 64) × (site.later_line < 2 ^ 64)

-- and so are all of these
abbrev pub AreWords : List ℕ → Type 0
AreWords numbers = All (λ number. number < 2 ^ 64) numbers

-- and so are the positions of these writes
abbrev pub IsGivenOfWords : Given → Type 0
IsGivenOfWords given = AreWords given.last.items × IfSome given.unknown (λ number. number < 2 ^ 64)

-- and so is the position
abbrev pub IsRivalOfWords : Rival → Type 0
IsRivalOfWords rival = (rival.act < 2 ^ 64) × IsSiteOfWords rival.site
