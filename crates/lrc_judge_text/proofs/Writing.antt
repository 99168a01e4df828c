-- What is still to be written of lines.
use Rattle.std.proofs.Common.{◌≡◌, ◌∙◌, ◌<◌, ◌≤◌, ◌+◌, ◌-◌, ◌++◌, ℕ, suc, zero, List, [], Option, Some, Result, Ok, Err, OnErr, append-nil, append_assoc, length, length-append, get_or, drop, sym, ap, subst, arith}
use Rattle.std.specs.Io.KnownBytes.{Appends}
use Rattle.std.proofs.lemmas.List.{drop_more}
use Rattle.lrc_trace.specs.declared.act.Act.{Act}
use Rattle.lrc_judge.specs.Order.{IsOrderOf}
use Rattle.lrc_judge.specs.Pairs.{ArePairsWithLater}
use Rattle.lrc_judge.specs.declared.lanes.Pair.{Pair}
use Rattle.lrc_judge.specs.declared.order.Order.{Order}
use Rattle.lrc_acts.specs.JudgeLines.{pair_line}
use Rattle.lrc_acts.specs.declared.judge_lines.RacingAccesses.{RacingAccesses}
use Rattle.lrc_report.specs.Output.{AppendsFront}
use Rattle.lrc_report.proofs.WriteLemmas.{IsUnderWay, way_stops}
use Rattle.lrc_text.specs.RaceText.{first_race_text}
use Rattle.lrc_judge_text.specs.Judgement.{accesses_at, pair_lines}
use Rattle.lrc_judge_text.specs.RacingPairs.{lines_from, pairs_at}
use Rattle.lrc_judge_text.proofs.PairLists.{one-list, pairs-at}

-- ---- the lines of pairs

-- the lines of the pairs from one on
lines-at : (acts : List Act) (pairs : List Pair) (i : ℕ) (d : Pair) → i < length pairs
    → pair_lines acts (drop i pairs) ≡ pair_line (accesses_at acts (get_or pairs i d).earlier (get_or pairs i d).later) ++ pair_lines acts (drop (i + 1) pairs)
lines-at acts pairs i d within = ap (pair_lines acts) (drop_more pairs i d within)

-- one line more is gathered
pub gathered : (acts : List Act) (pairs : List Pair) (i : ℕ) (d : Pair) → i < length pairs → (accesses : RacingAccesses) (text more : List ℕ)
    → accesses ≡ accesses_at acts (get_or pairs i d).earlier (get_or pairs i d).later → more ≡ text ++ pair_line accesses
    → text ++ pair_lines acts (drop i pairs) ≡ more ++ pair_lines acts (drop (i + 1) pairs)
gathered acts pairs i d within accesses text more are is =
    let line = pair_line (accesses_at acts (get_or pairs i d).earlier (get_or pairs i d).later) in
    let rest = pair_lines acts (drop (i + 1) pairs) in
    ap (λ (l : List ℕ). text ++ l) (lines-at acts pairs i d within) ∙ sym (append_assoc text line rest)
    ∙ ap (λ (l : List ℕ). l ++ rest) (sym (is ∙ ap (λ (a : RacingAccesses). text ++ pair_line a) are))

some-line : (pair : RacingAccesses) → 0 < length (pair_line pair)
some-line pair = omega arith

-- a line is still to come
pub line-comes : (acts : List Act) (pairs : List Pair) (i : ℕ) (d : Pair) → i < length pairs → (text : List ℕ)
    → 0 < length (text ++ pair_lines acts (drop i pairs))
line-comes acts pairs i d within text =
    let line = pair_line (accesses_at acts (get_or pairs i d).earlier (get_or pairs i d).later) in
    let rest = pair_lines acts (drop (i + 1) pairs) in
    let long = ap (λ (l : List ℕ). length l) (lines-at acts pairs i d within) ∙ length-append line rest in
    let some = some-line (accesses_at acts (get_or pairs i d).earlier (get_or pairs i d).later) in
    omega (arith, long, some, length-append text (pair_lines acts (drop i pairs)))

-- ---- the lines of positions

-- the lines that were found of a later position come next
pub next-lines : (run acts : List Act) (order : Order) → IsOrderOf run order → (later : ℕ) (found pairs : List Pair) (last : List ℕ)
    → acts ≡ run → pairs ≡ found → later < length acts → ArePairsWithLater acts later found
    → lines_from order run later (length run - later) ++ last
    ≡ pair_lines acts pairs ++ (lines_from order run (later + 1) (length run - (later + 1)) ++ last)
next-lines run acts order is later found pairs last same are within with =
    let inside : later < length run = subst (λ (xs : List Act). later < length xs) same within in
    let whole : ArePairsWithLater run later pairs =
    subst (λ (xs : List Act). ArePairsWithLater xs later pairs) same (subst (ArePairsWithLater acts later) (sym are) with) in
    let rest = lines_from order run (later + 1) (length run - (later + 1)) in
    let told : pair_lines run (pairs_at order run later) ≡ pair_lines acts pairs =
    ap (pair_lines run) (one-list run later (pairs_at order run later) pairs (pairs-at run order is later inside) whole)
    ∙ ap (λ (xs : List Act). pair_lines xs pairs) (sym same) in
    let more : length run - later ≡ suc (length run - (later + 1)) = omega arith in
    ap (λ (many : ℕ). lines_from order run later many ++ last) more
    ∙ append_assoc (pair_lines run (pairs_at order run later)) rest last
    ∙ ap (λ (text : List ℕ). text ++ (rest ++ last)) told

-- behind the last position only the last line comes
pub last-lines : (run : List Act) (order : Order) (later : ℕ) (last text : List ℕ) → length run ≤ later → text ≡ last
    → lines_from order run later (length run - later) ++ last ≡ text ++ []
last-lines run order later last text over is =
    let none : length run - later ≡ zero = omega arith in
    ap (λ (many : ℕ). lines_from order run later many ++ last) none ∙ sym is ∙ sym (append-nil text)

-- the last line is still to come
pub last-comes : (position : ℕ) (text : List ℕ) → 0 < length (text ++ first_race_text (Some position))
last-comes position text = omega (arith, length-append text (first_race_text (Some position)))

-- ---- what is written

-- all is written
pub way-over : (old new : Option (List ℕ)) (text : List ℕ) → IsUnderWay old new text [] → Appends old new text
way-over old new text way = subst (Appends old new) (sym (way.whole ∙ append-nil way.front)) way.written

-- behind the front of a text the rest broke off
pub broken-behind : (old mid new : Option (List ℕ)) (front rest : List ℕ) → Appends old mid front → AppendsFront mid new rest
    → AppendsFront old new (front ++ rest)
broken-behind old mid new front rest before broken =
    way_stops old mid new (front ++ rest) rest []
    (record { front = front; whole = ap (λ (l : List ℕ). front ++ l) (sym (append-nil rest)); written = before })
    broken

pub err-more : {T E : Type 0} (r : Result T E) (P Q : Type 0) → (P → Q) → OnErr r P → OnErr r Q
err-more (Ok x) P Q f h = tt
err-more (Err e) P Q f h = f h
