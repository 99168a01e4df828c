-- What an act knows, in words.
use Rattle.std.specs.Prelude.{ℕ, ◌==◌, ◌&&◌, not, Bool, true, false, Option, Some, None, List, [], ◌∷◌, ◌++◌, codes, decimal, if◌then◌else◌, is_some, length, nat_lt, slice_index}
use Rattle.std.specs.List.{list_any}
use Rattle.lrc_trace.specs.declared.act.Deed.{Deed}
use Rattle.lrc_trace.specs.declared.act.Deed.TheVariants.{Acquire, Depart}
use Rattle.lrc_trace.specs.Interval.{closes}
use Rattle.lrc_text.specs.Each.{each}
use Rattle.lrc_why.specs.declared.reasons.Brought.{Brought}
use Rattle.lrc_why.specs.declared.reasons.News.{News}
use Rattle.lrc_why_lines.specs.declared.shown.Shown.{Shown}
use Rattle.lrc_why_lines.specs.Lists.{nodes_line, time_text}
use Rattle.lrc_why_lines.specs.Pages.{pages_text}
use Rattle.lrc_why_lines.specs.Places.{act_shown, chain_text, interval_shown, labels_shown, since_text}

unfoldable pub closed_text : Bool → List ℕ
closed_text true = codes ", closed by this act, time "
closed_text false = codes ", time "

-- the interval of an act, and its time
unfoldable pub interval_line : Shown → ℕ → List ℕ → List ℕ
interval_line shown position time = codes "  interval " ++ decimal (interval_shown shown position)
    ++ (codes " of node " ++ decimal (act_shown shown position).node) ++ closed_text (closes (act_shown shown position).deed)
    ++ time_text time ++ codes "\n"

-- the same with the pages that it writes
unfoldable pub interval_text : Shown → (size position : ℕ) → (time words : List ℕ) → List ℕ
interval_text shown size position time words = interval_line shown position time ++ pages_text (labels_shown shown) size words

-- what was known of a node before
unfoldable pub already_line : Shown → ℕ → News → List ℕ
already_line shown node news = codes "  knows node " ++ decimal node ++ (codes " up to interval " ++ decimal (interval_shown shown news.last))
    ++ codes ", " ++ since_text shown news.since ++ codes "\n"

-- which intervals of a node are learned
unfoldable pub span_text : (first last : ℕ) → List ℕ
span_text first last = if first == last then codes "  learns interval " ++ decimal first
    else codes "  learns intervals " ++ decimal first ++ (codes " to " ++ decimal last)

abbrev pub first_interval : Shown → List ℕ → ℕ
first_interval shown [] = 0
first_interval shown (first ∷ acts) = interval_shown shown first

unfoldable pub learned_line : Shown → ℕ → News → Brought → List ℕ
learned_line shown node news brought = span_text (first_interval shown brought.acts.items) (interval_shown shown news.last)
    ++ (codes " of node " ++ decimal node) ++ chain_text news.since.chain.items ++ codes "\n"

unfoldable pub learned_text : Shown → (size node : ℕ) → News → Brought → List ℕ
learned_text shown size node news brought = learned_line shown node news brought ++ pages_text (labels_shown shown) size brought.words.items

-- what is known of a node
unfoldable pub told_text : Shown → (size node : ℕ) → News → Option Brought → List ℕ
told_text shown size node news None = already_line shown node news
told_text shown size node news (Some brought) = learned_text shown size node news brought

unfoldable pub news_text : Shown → (size node : ℕ) → Option News → List ℕ
news_text shown size node None = []
news_text shown size node (Some news) = told_text shown size node news news.brought

-- whether something is learned of a node
abbrev pub brings : Option News → Bool
brings None = false
brings (Some news) = is_some news.brought

-- whether a deed may bring something
abbrev pub may_bring : Deed → Bool
may_bring (Acquire l) = true
may_bring Depart = true
may_bring _ = false

-- an acquire or a depart that brings nothing, where there are other nodes
unfoldable pub nothing_line : Deed → List (Option News) → List ℕ
nothing_line deed news = if nat_lt 1 (length news) && (may_bring deed && not (list_any brings news)) then codes "  learns nothing\n" else []

abbrev pub news_lines : Shown → (size : ℕ) → List (Option News) → List ℕ
news_lines shown size news = each (news_text shown size) news

-- what an act with this deed knows of other nodes
unfoldable pub all_news_text : Shown → (size : ℕ) → Deed → List (Option News) → (unknown : List ℕ) → List ℕ
all_news_text shown size deed news unknown =
    news_lines shown size news ++ nodes_line (codes "  knows nothing of ") unknown ++ nothing_line deed news
