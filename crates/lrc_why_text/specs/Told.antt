-- What an act is about, in words.
use Rattle.std.specs.Prelude.{ℕ, Bool, true, false, Option, Some, None, List, [], ◌++◌, codes, decimal}
use Rattle.std.specs.List.{flat_map}
use Rattle.lrc_trace.specs.declared.act.Cause.{Cause}
use Rattle.lrc_named_core.specs.View.{trap_of}
use Rattle.lrc_trap_words.specs.Words.{cause_words}
use Rattle.lrc_trace.specs.declared.act.Deed.{Deed}
use Rattle.lrc_trace.specs.declared.act.Deed.TheVariants.{Read, Write, Acquire}
use Rattle.lrc_judge.specs.Races.{word_of}
use Rattle.lrc_why.specs.declared.reasons.About.{About}
use Rattle.lrc_why.specs.declared.reasons.About.TheVariants.{Nothing, Trapped, Gives, Follows, Comes, GoesOn}
use Rattle.lrc_why.specs.declared.reasons.Gift.{Gift}
use Rattle.lrc_why.specs.declared.reasons.Several.{Several}
use Rattle.lrc_why.specs.declared.reasons.Since.{Since}
use Rattle.lrc_why.specs.declared.reasons.Source.{Source}
use Rattle.lrc_why.specs.declared.reasons.Source.TheVariants as sources
use Rattle.lrc_why_lines.specs.declared.shown.Shown.{Shown}
use Rattle.lrc_why_lines.specs.Deeds.{lock_text, word_text}
use Rattle.lrc_why_lines.specs.Lists.{some_text}
use Rattle.lrc_why_lines.specs.Places.{act_shown, act_text, labels_shown, since_text}

-- the cause of a trap
unfoldable pub cause_line : Shown → Cause → List ℕ
cause_line shown cause = codes "  " ++ cause_words (trap_of shown.trap) cause ++ codes "\n"

-- the value that a deed reads or writes, and the lock that it acquires
abbrev pub value_of : Deed → ℕ
value_of (Read word value) = value
value_of (Write word value) = value
value_of _ = 0

abbrev pub lock_of : Deed → ℕ
lock_of (Acquire l) = l
lock_of _ = 0

-- that a read gives a value that it may give, or not
unfoldable pub gives_text : ℕ → Bool → List ℕ
gives_text value true = codes "  gives "
gives_text value false = codes "  gives " ++ decimal value ++ codes ", which it may not\n  may give "

-- no write is known
unfoldable pub unwritten_text : Shown → ℕ → List ℕ
unwritten_text shown word = word_text (labels_shown shown) (codes "0: no write of word ") word ++ codes " happens before it"

-- the last write that is known, and since when
unfoldable pub known_since_text : Shown → Option Since → List ℕ
known_since_text shown None = []
known_since_text shown (Some since) = codes ", known " ++ since_text shown since

unfoldable pub last_text : Shown → ℕ → Option Since → List ℕ
last_text shown write since =
    decimal (value_of (act_shown shown write).deed) ++ codes ", of " ++ act_text shown write ++ known_since_text shown since

-- several values, behind the one that is given where it is one of them
unfoldable pub given_text : ℕ → Bool → List ℕ
given_text value true = decimal value ++ codes ", "
given_text value false = []

unfoldable pub crossing_text : Several → List ℕ
crossing_text several = codes ": acts " ++ decimal several.earlier ++ (codes " and " ++ decimal several.later) ++ codes " happen before it and race"

unfoldable pub several_text : ℕ → Bool → Several → List ℕ
several_text value allowed several = given_text value allowed ++ codes "one of " ++ some_text several.values.items ++ crossing_text several

-- by which writes
unfoldable pub source_text : Shown → Deed → Bool → Source → List ℕ
source_text shown deed allowed sources.Nothing = unwritten_text shown (word_of deed)
source_text shown deed allowed (sources.Last write since) = last_text shown write since
source_text shown deed allowed (sources.Racing several) = several_text (value_of deed) allowed several

-- the last write, where it is not known
unfoldable pub unknown_text : Shown → Option ℕ → List ℕ
unknown_text shown None = []
unknown_text shown (Some write) =
    codes " (last written: " ++ decimal (value_of (act_shown shown write).deed) ++ (codes ", by act " ++ decimal write) ++ codes ")"

-- the writes that no other one follows, where known ones race
unfoldable pub last_line : Shown → ℕ → List ℕ
last_line shown write = codes "    last: " ++ act_text shown write ++ codes "\n"

abbrev pub last_lines : Shown → List ℕ → List ℕ
last_lines shown writes = flat_map (last_line shown) writes

unfoldable pub source_lines : Shown → Source → List ℕ
source_lines shown (sources.Racing several) = last_lines shown several.last.items
source_lines shown _ = []

-- what a read gives
unfoldable pub gift_line : Shown → Deed → Gift → List ℕ
gift_line shown deed gift = gives_text (value_of deed) gift.allowed ++ source_text shown deed gift.allowed gift.source
    ++ unknown_text shown gift.unknown ++ codes "\n"

unfoldable pub gift_text : Shown → Deed → Gift → List ℕ
gift_text shown deed gift = gift_line shown deed gift ++ source_lines shown gift.source

-- which release an acquire follows
unfoldable pub follows_text : Shown → Deed → Option ℕ → List ℕ
follows_text shown deed None = lock_text (labels_shown shown) (codes "  follows no release of lock ") (lock_of deed) ++ codes "\n"
follows_text shown deed (Some release) = codes "  follows " ++ act_text shown release ++ codes "\n"

unfoldable pub barrier_line : (words : List ℕ) → ℕ → List ℕ
barrier_line words number = words ++ decimal number ++ codes "\n"

-- what an act with this deed is about
unfoldable pub about_text : Shown → Deed → About → List ℕ
about_text shown deed Nothing = []
about_text shown deed (Trapped cause) = cause_line shown cause
about_text shown deed (Gives gift) = gift_text shown deed gift
about_text shown deed (Follows release) = follows_text shown deed release
about_text shown deed (Comes number) = barrier_line (codes "  comes to barrier ") number
about_text shown deed (GoesOn number) = barrier_line (codes "  goes on from barrier ") number
