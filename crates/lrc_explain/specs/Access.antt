-- An access in words.
use Rattle.std.specs.Prelude.{ℕ, ◌==◌, List, [], ◌++◌, codes, decimal, fold, if◌then◌else◌, take}
use Rattle.lrc_trace.specs.declared.act.Act.{Act}
use Rattle.lrc_trace.specs.declared.act.Deed.{Deed}
use Rattle.lrc_trace.specs.declared.act.Deed.TheVariants.{Read, Write}
use Rattle.lrc_trace.specs.Interval.{interval_at}
use Rattle.lrc_acts_text.specs.Acts.{act_at}

-- what a word has once a deed is done that finds this value in it
abbrev pub stored : (word value : ℕ) → Deed → ℕ
stored word value (Write w v) = if w == word then v else value
stored word value _ = value

-- what acts leave in a word, which is 0 before them: what the last of them that writes it wrote
abbrev pub left_in : (word : ℕ) → List Act → ℕ
left_in word acts = fold (λ value act. stored word value act.deed) 0 acts

-- numbers with what they are of
unfoldable pub node_words : ℕ → List ℕ
node_words number = codes "node " ++ decimal number

unfoldable pub interval_words : ℕ → List ℕ
interval_words number = codes " interval " ++ decimal number

unfoldable pub act_words : ℕ → List ℕ
act_words number = codes " act " ++ decimal number

unfoldable pub reads_words : ℕ → List ℕ
reads_words number = codes " reads " ++ decimal number

-- what the last write before was, where a read does not give it
abbrev pub unless_last : (value last : ℕ) → List ℕ
unless_last value last = if value == last then [] else codes " (last written " ++ decimal last ++ codes ")"

-- what a deed did with its word, behind these acts
abbrev pub effect_words : (before : List Act) → Deed → List ℕ
effect_words before (Read word value) = reads_words value ++ unless_last value (left_in word before)
effect_words before (Write word value) = codes " writes " ++ decimal value
effect_words before _ = []

-- an access at a position
abbrev pub act_access_text : List Act → (position : ℕ) → Act → List ℕ
act_access_text acts position act = node_words act.node ++ interval_words (interval_at acts act.node position) ++ act_words position
    ++ effect_words (take position acts) act.deed

-- the access at a position
unfoldable pub access_text : List Act → (position : ℕ) → List ℕ
access_text acts position = act_access_text acts position (act_at acts position)
