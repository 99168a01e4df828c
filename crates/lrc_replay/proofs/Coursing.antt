-- What the code keeps of the acts so far, with one act more.
use Rattle.std.proofs.Common.{◌≡◌, ◌∙◌, ℕ, zero, suc, ◌+◌, ◌<◌, arith, List, [], ◌∷◌, ◌++◌, Bool, true, false, cond, Option, Some, None}
use Rattle.std.proofs.Common.{refl, sym, ap, ap₂, subst, map, length, get_or, set, append-nil, append_assoc, zero-add, replicate, ◌≤◌}
use Rattle.std.proofs.lemmas.List.Elements.{All-append}
use Rattle.std.specs.Prelude.{All, ◌==◌, ◌&&◌, if◌then◌else◌, slice_index, slice_index_or, slice_set, Result, Ok, Err, OnOk}
use Rattle.std.specs.List.{flat_map, range_with_len}
use Rattle.std.specs.Option.{option_to_list}
use Rattle.std.proofs.lemmas.Bool.{eq-eqb, ne_eqb}
use Rattle.std.proofs.lemmas.List.{get_or-map, length_push, length-map, map-append, map-set, take_all}
use Rattle.std.proofs.lemmas.List.FromFn.{get_or-map-range_with_len, length-map-range_with_len, map-range_with_len_more}
use Rattle.std.proofs.lemmas.List.Sums.{fold-append, sum_by-append}
use Rattle.lrc_trace.specs.declared.act.Act.{Act}
use Rattle.lrc_trace.specs.declared.act.Deed.TheVariants as deeds
use Rattle.lrc_trace.specs.Interval.{closes, interval_at}
use Rattle.lrc_trace.specs.Run.{count_of}
use Rattle.lrc_exec.specs.Meaning.{Thread}
use Rattle.lrc_exec.specs.Plain.{start_of}
use Rattle.lrc_lines.specs.Seen.{walks_of}
use Rattle.lrc_lines.specs.Walks.{line_at, line_behind, Walk, walk_behind, walks_behind}
use Rattle.lrc_lines.proofs.Several.{line_found, more_other, more_own}
use Rattle.lrc_private_names.specs.declared.way.Way.{Way}
use Rattle.lrc_private_names.specs.Ways.{thread_led, thread_of}
use Rattle.lrc_private_names.proofs.Led.{led-thread}
use Rattle.lrc_replay.specs.declared.notes.Note.{Note}
use Rattle.lrc_replay.specs.declared.course.Course.{Course}
use Rattle.lrc_replay.specs.declared.notes.Notes.{Notes}
use Rattle.lrc_replay.specs.declared.notes.Spot.{Spot}
use Rattle.lrc_replay.specs.Acts.{last_note, last_notes, note_of, notes_behind, Plan, spot_behind}
use Rattle.lrc_replay.specs.Courses.{AreClosed, AreNotes, AreWays, IsCourse}

-- ---- numbers in a row

same_in_range : {X : Type 0} (f g : ℕ → X) (from n : ℕ) → ((i : ℕ) → from ≤ i → i < from + n → f i ≡ g i)
    → map f (range_with_len from n) ≡ map g (range_with_len from n)
same_in_range f g from zero same = refl
same_in_range f g from (suc n) same =
    ap₂ ◌∷◌ (same from (omega arith) (omega arith)) (same_in_range f g (from + 1) n (λ i low high. same i (omega (arith, low)) (omega (arith, high))))

-- where a value is set, it is the one that the other function gives there
set_in_range : {X : Type 0} (f g : ℕ → X) (from n k : ℕ) → ((i : ℕ) → (i ≡ from + k → ⊥) → f i ≡ g i)
    → set (map f (range_with_len from n)) k (g (from + k)) ≡ map g (range_with_len from n)
set_in_range f g from zero k same = refl
set_in_range f g from (suc n) zero same =
    ap₂ ◌∷◌ (ap g (omega arith)) (same_in_range f g (from + 1) n (λ i low high. same i (λ e. omega (arith, e, low))))
set_in_range f g from (suc n) (suc k) same =
    let place : from + suc k ≡ from + 1 + k = omega arith in
    ap₂ ◌∷◌ (same from (λ e. omega (arith, e)))
    (ap (λ j. set (map f (range_with_len (from + 1) n)) k (g j)) place
    ∙ set_in_range f g (from + 1) n k (λ i other. same i (λ e. other (omega (arith, e)))))

-- the same from 0 on
set_at : {X : Type 0} (f g : ℕ → X) (n k : ℕ) (x : X) → x ≡ g k → ((i : ℕ) → (i ≡ k → ⊥) → f i ≡ g i)
    → set (map f (range_with_len 0 n)) k x ≡ map g (range_with_len 0 n)
set_at f g n k x is same =
    ap (set (map f (range_with_len 0 n)) k) (is ∙ ap g (sym (zero-add k)))
    ∙ set_in_range f g 0 n k (λ i other. same i (λ e. other (e ∙ sym (zero-add k))))

-- past the end nothing changes
unset_at : {X : Type 0} (f g : ℕ → X) (n k : ℕ) → n ≤ k → ((i : ℕ) → (i ≡ k → ⊥) → f i ≡ g i)
    → map f (range_with_len 0 n) ≡ map g (range_with_len 0 n)
unset_at f g n k past same = same_in_range f g 0 n (λ i low high. same i (λ e. omega (arith, e, past, high)))

all_same : {X : Type 0} (f : ℕ → X) (from n : ℕ) (x : X) → ((i : ℕ) → f i ≡ x) → replicate n x ≡ map f (range_with_len from n)
all_same f from zero x same = refl
all_same f from (suc n) x same = ap₂ ◌∷◌ (sym (same from)) (all_same f (from + 1) n x same)

flat_map_map : {X Y : Type 0} (f : X → Option Y) (xs : List X) → flat_map option_to_list (map f xs) ≡ flat_map (λ x. option_to_list (f x)) xs
flat_map_map f [] = refl
flat_map_map f (x ∷ xs) = ap (λ l. option_to_list (f x) ++ l) (flat_map_map f xs)

abbrev spot_at : (position line interval : ℕ) → Spot
spot_at position line interval = record { position = position; line = line; interval = interval }

same_spot : (p q l m i j : ℕ) → p ≡ q → l ≡ m → i ≡ j → spot_at p l i ≡ spot_at q m j
same_spot p q l m i j pq lm ij = ap (λ x. spot_at x l i) pq ∙ ap (λ x. spot_at q x i) lm ∙ ap (λ x. spot_at q m x) ij

-- ---- the last Writes

last_more : (notes : List Note) (note : Note) (word : ℕ)
    → last_note (notes ++ note ∷ []) word ≡ (if note.word == word then Some note else last_note notes word)
last_more notes note word = fold-append (λ (last : Option Note) (n : Note). if n.word == word then Some n else last) None notes (note ∷ [])

last_own : (notes : List Note) (note : Note) → Some note ≡ last_note (notes ++ note ∷ []) note.word
last_own notes note = sym (last_more notes note note.word ∙ ap (λ b. if b then Some note else last_note notes note.word) (eq-eqb note.word note.word refl))

last_other : (notes : List Note) (note : Note) (word : ℕ) → (word ≡ note.word → ⊥)
    → last_note notes word ≡ last_note (notes ++ note ∷ []) word
last_other notes note word other =
    sym (last_more notes note word ∙ ap (λ b. if b then Some note else last_note notes word) (ne_eqb note.word word (λ e. other (sym e))))

pub note_kept : (words : ℕ) (all : List Note) (note : Note) (old : Notes) → AreNotes words all old
    → slice_set old.last.items note.word (Some note) ≡ map (last_note (all ++ note ∷ [])) (range_with_len 0 words)
note_kept words all note old are =
    ap (λ l. slice_set l note.word (Some note)) are
    ∙ set_at (last_note all) (last_note (all ++ note ∷ [])) words note.word (Some note) (last_own all note) (last_other all note)

pub note_past : (words : ℕ) (all : List Note) (note : Note) (old : Notes) → AreNotes words all old
    → length old.last.items ≤ note.word → old.last.items ≡ map (last_note (all ++ note ∷ [])) (range_with_len 0 words)
note_past words all note old are past =
    let long : length old.last.items ≡ words = ap length are ∙ length-map-range_with_len (last_note all) 0 words in
    are ∙ unset_at (last_note all) (last_note (all ++ note ∷ [])) words note.word (omega (arith, long, past)) (last_other all note)

-- before any
pub none_more : (last new : List (Option Note)) (word : ℕ) → last ≡ map (last_note []) (range_with_len 0 word) → new ≡ last ++ None ∷ []
    → new ≡ map (last_note []) (range_with_len 0 (word + 1))
none_more last new word so_far is =
    is ∙ ap (λ l. l ++ None ∷ []) so_far ∙ sym (map-range_with_len_more (last_note []) 0 word word (zero-add word))

-- the Writes behind one act more
pub notes_more : (plan : Plan) (acts before : List Act) (act : Act) → notes_behind plan before (acts ++ act ∷ [])
    ≡ notes_behind plan before acts ++ note_of (spot_behind plan (before ++ acts) act.node) act.node act.deed
notes_more plan [] before act =
    append-nil (note_of (spot_behind plan before act.node) act.node act.deed)
    ∙ ap (λ b. note_of (spot_behind plan b act.node) act.node act.deed) (sym (append-nil before))
notes_more plan (a ∷ acts) before act =
    let here = note_of (spot_behind plan before a.node) a.node a.deed in
    ap (λ l. here ++ l) (notes_more plan acts (before ++ a ∷ []) act
    ∙ ap (λ b. notes_behind plan (before ++ a ∷ []) acts ++ note_of (spot_behind plan b act.node) act.node act.deed) (append_assoc before (a ∷ []) acts))
    ∙ sym (append_assoc here (notes_behind plan (before ++ a ∷ []) acts) (note_of (spot_behind plan (before ++ a ∷ acts) act.node) act.node act.deed))

-- ---- intervals

abbrev once : Bool → ℕ
once b = cond b 1 0

count_more : (acts : List Act) (act : Act) (node : ℕ)
    → count_of closes node (acts ++ act ∷ []) ≡ count_of closes node acts + once (act.node == node && closes act.deed)
count_more acts act node =
    let both = sum_by-append (λ (a : Act). cond (a.node == node && closes a.deed) 1 0) acts (act ∷ []) in
    omega (arith, both)

count_other : (acts : List Act) (act : Act) (node : ℕ) → (node ≡ act.node → ⊥)
    → count_of closes node acts ≡ count_of closes node (acts ++ act ∷ [])
count_other acts act node other =
    let more = count_more acts act node in
    let none : once (act.node == node && closes act.deed) ≡ 0 = ap (λ b. once (b && closes act.deed)) (ne_eqb act.node node (λ e. other (sym e))) in
    omega (arith, more, none)

count_own : (acts : List Act) (act : Act) → closes act.deed ≡ true
    → count_of closes act.node acts + 1 ≡ count_of closes act.node (acts ++ act ∷ [])
count_own acts act does =
    let more = count_more acts act act.node in
    let one : once (act.node == act.node && closes act.deed) ≡ 1 =
    ap (λ b. once (b && closes act.deed)) (eq-eqb act.node act.node refl) ∙ ap once does in
    omega (arith, more, one)

open_same : (b : Bool) → (b && false) ≡ false
open_same true = refl
open_same false = refl

count_open : (acts : List Act) (act : Act) (node : ℕ) → closes act.deed ≡ false
    → count_of closes node acts ≡ count_of closes node (acts ++ act ∷ [])
count_open acts act node does_not =
    let more = count_more acts act node in
    let none : once (act.node == node && closes act.deed) ≡ 0 =
    ap (λ b. once (act.node == node && b)) does_not ∙ ap once (open_same (act.node == node)) in
    omega (arith, more, none)

abbrev next_of_node : List Act → ℕ → ℕ
next_of_node acts node = 1 + count_of closes node acts

pub closed_more : (acts : List Act) (act : Act) (old new : List ℕ) → AreClosed acts old → closes act.deed ≡ true → act.node < 256
    → new ≡ slice_set old act.node (slice_index old act.node + 1) → AreClosed (acts ++ act ∷ []) new
closed_more acts act old new are does few is =
    let here : slice_index old act.node ≡ next_of_node acts act.node =
    ap (λ l. slice_index l act.node) are ∙ get_or-map-range_with_len (next_of_node acts) 0 256 act.node act.node 0 few (zero-add act.node) in
    let own = count_own acts act does in
    is ∙ ap (λ l. slice_set l act.node (slice_index old act.node + 1)) are
    ∙ set_at (next_of_node acts) (next_of_node (acts ++ act ∷ [])) 256 act.node (slice_index old act.node + 1)
    (omega (arith, here, own)) (λ i other. ap (λ n. 1 + n) (count_other acts act i other))

pub closed_same : (acts : List Act) (act : Act) (old new : List ℕ) → AreClosed acts old → closes act.deed ≡ false → new ≡ old
    → AreClosed (acts ++ act ∷ []) new
closed_same acts act old new are does_not is =
    is ∙ are ∙ same_in_range (next_of_node acts) (next_of_node (acts ++ act ∷ [])) 0 256
    (λ i low high. ap (λ n. 1 + n) (count_open acts act i does_not))

-- each node has its place
pub none_past : (acts : List Act) (closed : List ℕ) (node : ℕ) → AreClosed acts closed → node < 256 → length closed ≤ node → ⊥
none_past acts closed node are few past =
    let long : length closed ≡ 256 = ap length are ∙ length-map-range_with_len (next_of_node acts) 0 256 in
    omega (arith, long, few, past)

-- the interval that comes next
pub interval_is : (acts : List Act) (closed : List ℕ) (node : ℕ) → AreClosed acts closed → node < 256
    → slice_index closed node ≡ interval_at acts node (length acts)
interval_is acts closed node are few =
    let here : slice_index closed node ≡ next_of_node acts node =
    ap (λ l. slice_index l node) are ∙ get_or-map-range_with_len (next_of_node acts) 0 256 node node 0 few (zero-add node) in
    here ∙ ap (λ l. 1 + count_of closes node l) (sym (take_all (length acts) acts (omega arith)))

-- ---- private names

map_both : (f : ℕ → Walk) (ns : List ℕ) → map (λ (w : Walk). w.thread) (map f ns) ≡ map (λ n. (f n).thread) ns
map_both f [] = refl
map_both f (n ∷ ns) = ap (λ l. (f n).thread ∷ l) (map_both f ns)

module _ (plan : Plan) (acts : List Act) (act : Act) where
  abbrev pub threads : List Act → List Thread
  threads l = map (λ (w : Walk). w.thread) (walks_behind plan.program plan.nodes plan.lines l)

  abbrev thread_at_node : List Act → ℕ → Thread
  thread_at_node l node = (walk_behind plan.program plan.nodes plan.lines l node).thread

  threads_are : (l : List Act) → threads l ≡ map (thread_at_node l) (range_with_len 0 plan.nodes)
  threads_are l = map_both (walk_behind plan.program plan.nodes plan.lines l) (range_with_len 0 plan.nodes)

  own : thread_at_node (acts ++ act ∷ []) act.node ≡ thread_led (thread_at_node acts act.node) act.deed
  own =
      ap (λ (w : Walk). w.thread) (more_own plan.program plan.nodes plan.lines acts act)
      ∙ led-thread (walk_behind plan.program plan.nodes plan.lines acts act.node) act.deed

  other : (node : ℕ) → (node ≡ act.node → ⊥) → thread_at_node acts node ≡ thread_at_node (acts ++ act ∷ []) node
  other node apart = ap (λ (w : Walk). w.thread) (sym (more_other plan.program plan.nodes plan.lines acts act node (λ e. apart (sym e))))

  long : (ways : List Way) → AreWays plan acts ways → length ways ≡ plan.nodes
  long ways are =
      sym (length-map ways thread_of) ∙ ap length are ∙ ap length (threads_are acts)
      ∙ length-map-range_with_len (thread_at_node acts) 0 plan.nodes

  pub ways_led : (ways : List Way) (old new : Way) → AreWays plan acts ways → act.node < length ways → old ≡ get_or ways act.node old
      → thread_of new ≡ thread_led (thread_of old) act.deed → AreWays plan (acts ++ act ∷ []) (slice_set ways act.node new)
  ways_led ways old new are inside is led_is =
      let within : act.node < plan.nodes = omega (arith, inside, long ways are) in
      let there : thread_of old ≡ thread_at_node acts act.node =
      ap thread_of is ∙ sym (get_or-map thread_of ways act.node old (thread_of old) inside) ∙ ap (λ l. get_or l act.node (thread_of old)) (are ∙ threads_are acts)
      ∙ get_or-map-range_with_len (thread_at_node acts) 0 plan.nodes act.node act.node (thread_of old) within (zero-add act.node) in
      map-set thread_of ways act.node new ∙ ap (λ l. set l act.node (thread_of new)) (are ∙ threads_are acts)
      ∙ set_at (thread_at_node acts) (thread_at_node (acts ++ act ∷ [])) plan.nodes act.node (thread_of new)
      (led_is ∙ ap (λ t. thread_led t act.deed) there ∙ sym own) other
      ∙ sym (threads_are (acts ++ act ∷ []))

  pub ways_past : (ways : List Way) → AreWays plan acts ways → length ways ≤ act.node → AreWays plan (acts ++ act ∷ []) ways
  ways_past ways are past =
      are ∙ threads_are acts
      ∙ unset_at (thread_at_node acts) (thread_at_node (acts ++ act ∷ [])) plan.nodes act.node (omega (arith, past, long ways are)) other
      ∙ sym (threads_are (acts ++ act ∷ []))

-- ---- the whole

pub on_ok : {E A : Type 0} {P Q : Type 0} (r : Result A E) → OnOk r P → (P → Q) → OnOk r Q
on_ok (Ok x) holds leads = leads holds
on_ok (Err e) holds leads = tt

pub closed_long : (acts : List Act) (closed : List ℕ) → AreClosed acts closed → length closed ≡ 256
closed_long acts closed are = ap length are ∙ length-map-range_with_len (next_of_node acts) 0 256

pub nothing_noted : (words : ℕ) (all : List Note) (notes : Notes) → AreNotes words all notes → AreNotes words (all ++ []) notes
nothing_noted words all notes are = subst (λ (l : List Note). AreNotes words l notes) (sym (append-nil all)) are

pub closed_at_start : (closed : List ℕ) → closed ≡ replicate 256 1 → AreClosed [] closed
closed_at_start closed is = is ∙ all_same (next_of_node []) 0 256 1 (λ i. refl)

pub spot_is : (plan : Plan) (acts : List Act) (course : Course) (node line interval : ℕ) → IsCourse plan acts course
    → line ≡ slice_index_or (map (line_at course.walks.end) (walks_of course.walks)) node course.walks.end
    → interval ≡ interval_at acts node (length acts) → spot_at course.acts line interval ≡ spot_behind plan acts node
spot_is plan acts course node line interval is line_is interval_is =
    same_spot course.acts (length acts) line (line_behind plan.program plan.nodes plan.lines acts node) interval (interval_at acts node (length acts)) is.counted
    (line_is ∙ line_found plan.program plan.nodes plan.lines acts course.walks.nodes.items course.walks.end node is.walks is.end) interval_is

pub no_act : (plan : Plan) (acts : List Act) (course : Course) → IsCourse plan acts course → IsCourse plan (acts ++ []) course
no_act plan acts course is = subst (λ (l : List Act). IsCourse plan l course) (sym (append-nil acts)) is

pub notes_passed : (plan : Plan) (acts : List Act) (act : Act) (notes : Notes)
    → AreNotes plan.program.words (notes_behind plan [] acts ++ note_of (spot_behind plan acts act.node) act.node act.deed) notes
    → AreNotes plan.program.words (notes_behind plan [] (acts ++ act ∷ [])) notes
notes_passed plan acts act notes are =
    subst (λ (l : List Note). AreNotes plan.program.words l notes) (sym (notes_more plan acts [] act)) are

pub act_passed : (plan : Plan) (acts : List Act) (act : Act) (old new : Course) → IsCourse plan acts old → new.acts ≡ old.acts + 1
    → AreClosed (acts ++ act ∷ []) new.closed.items → walks_of new.walks ≡ walks_behind plan.program plan.nodes plan.lines (acts ++ act ∷ [])
    → new.walks.end ≡ old.walks.end → AreWays plan (acts ++ act ∷ []) new.ways.items
    → AreNotes plan.program.words (notes_behind plan [] (acts ++ act ∷ [])) new.notes → IsCourse plan (acts ++ act ∷ []) new
act_passed plan acts act old new is counted closed walks end ways notes = record {
  counted = counted ∙ ap (λ n. n + 1) is.counted ∙ sym (length_push acts act);
  closed = closed;
  walks = walks;
  end = end ∙ is.end;
  ways = ways;
  notes = notes;
}

-- the last Writes, one after another
pub notes_are : (plan : Plan) (acts : List Act) (course : Course) → IsCourse plan acts course
    → flat_map option_to_list course.notes.last.items ≡ last_notes plan.program.words (notes_behind plan [] acts)
notes_are plan acts course is =
    ap (flat_map option_to_list) is.notes ∙ flat_map_map (last_note (notes_behind plan [] acts)) (range_with_len 0 plan.program.words)

-- there is a way for each node
pub ways_counted : (plan : Plan) (acts : List Act) (course : Course) → IsCourse plan acts course → length course.ways.items ≡ plan.nodes
ways_counted plan acts course is = long plan acts (record { node = 0; deed = deeds.Quiet }) course.ways.items is.ways

-- the private names of a node that is there
pub privates_are : (plan : Plan) (acts : List Act) (course : Course) (k node : ℕ) (way : Way) → IsCourse plan acts course → k ≡ node
    → k < length course.ways.items → way ≡ get_or course.ways.items k way
    → way.spot.privates ≡ (walk_behind plan.program plan.nodes plan.lines acts node).thread.privates
privates_are plan acts course k node way is place within at =
    let any : Act = record { node = 0; deed = deeds.Quiet } in
    let inside : k < plan.nodes = omega (arith, within, long plan acts any course.ways.items is.ways) in
    let here : thread_of way ≡ thread_at_node plan acts any acts node =
    ap thread_of at ∙ sym (get_or-map thread_of course.ways.items k way (thread_of way) within)
    ∙ ap (λ l. get_or l k (thread_of way)) (is.ways ∙ threads_are plan acts any acts)
    ∙ get_or-map-range_with_len (thread_at_node plan acts any acts) 0 plan.nodes k node (thread_of way) inside (zero-add k ∙ place) in
    ap (λ (t : Thread). t.privates) here

pub ways_at_start : (plan : Plan) (ways : List Way) → map thread_of ways ≡ map (λ me. start_of plan.program plan.nodes me) (range_with_len 0 plan.nodes)
    → AreWays plan [] ways
ways_at_start plan ways is = is ∙ sym (threads_are plan [] (record { node = 0; deed = deeds.Quiet }) [])

one_all : {X : Type 0} (P : X → Type 0) (x : X) → P x → All P (x ∷ [])
one_all P x holds zero d within = holds
one_all P x holds (suc k) d within = absurd (omega (arith, within))

pub all_more : {X : Type 0} (P : X → Type 0) (xs : List X) (x : X) → All P xs → P x → All P (xs ++ x ∷ [])
all_more P xs x on holds = All-append P xs (x ∷ []) on (one_all P x holds)

-- one way more
pub ways_more : (f : ℕ → Thread) (ways new : List Way) (way : Way) (me : ℕ) → map thread_of ways ≡ map f (range_with_len 0 me)
    → new ≡ ways ++ way ∷ [] → thread_of way ≡ f me → map thread_of new ≡ map f (range_with_len 0 (me + 1))
ways_more f ways new way me so_far is one =
    ap (map thread_of) is ∙ map-append thread_of ways (way ∷ []) ∙ ap₂ (λ l t. l ++ t ∷ []) so_far one
    ∙ sym (map-range_with_len_more f 0 me me (zero-add me))
