-- The pages that are found at a turn are those whose copies become invalid at it.
use Rattle.std.proofs.Common.{◌≡◌, ◌∙◌, ℕ, ◌+◌, ◌<◌, ◌≤◌, List, [], ◌∷◌, ◌++◌, Bool, true, false, cond, Option, Some, None, inl, inr, refl, sym, ap, subst, arith, length, map, take, get_or}
use Rattle.std.specs.Prelude.{◌&&◌, filter, option_map, slice_get, slice_index_or, Vec}
use Rattle.std.specs.declared.alloc.Global.{Global}
use Rattle.std.specs.List.{range_with_len}
use Rattle.std.proofs.lemmas.Bool.{cases_lt}
use Rattle.std.proofs.lemmas.List.{get_or_past, length-map, map-append, take_all}
use Rattle.std.proofs.lemmas.List.FromFn.{filter_of_map_range_with_len_more, get_or-map-range_with_len, length-map-range_with_len}
use Rattle.std.proofs.lemmas.Option.{same_Some, slice_get-map}
use Rattle.lrc_protocol.specs.declared.event.Event.{Event}
use Rattle.lrc_protocol.specs.Node.{Node}
use Rattle.lrc_protocol.specs.Pages.{absent, Copy, copy_at, is_readable, Memory}
use Rattle.lrc_protocol.specs.Run.{event_on, Logged, played, World}
use Rattle.lrc_protocol.specs.Turn.{TurnRecord}
use Rattle.lrc_replay.specs.declared.replay.Replay.{Replay}
use Rattle.lrc_replay.specs.Replays.{IsMade, IsReplay, LeavesOut, MakesTurn, nodes_played}
use Rattle.lrc_replay.specs.Turns.{Turn, turn_by, turns_from}
use Rattle.lrc_replay.proofs.Turning.{goes_on, turns_on}
use Rattle.lrc_chart_invalid.specs.Invalidated.{becomes_invalid, invalid_since, invalidated, invalidated_at, invalidated_from, is_invalid, readable_from, readable_in}

-- ---- lists

filter_same : (p q : ℕ → Bool) (xs : List ℕ) → ((x : ℕ) → p x ≡ q x) → filter p xs ≡ filter q xs
filter_same p q [] h = refl
filter_same p q (x ∷ xs) h = ap (λ c. cond c (x ∷ filter p xs) (filter p xs)) (h x) ∙ ap (λ rest. cond (q x) (x ∷ rest) rest) (filter_same p q xs h)

filter_none : (xs : List ℕ) → filter (λ x. false) xs ≡ []
filter_none [] = refl
filter_none (x ∷ xs) = filter_none xs

map_same : (xs : List ℕ) → map (λ x. x) xs ≡ xs
map_same [] = refl
map_same (x ∷ xs) = ap (λ rest. x ∷ rest) (map_same xs)

-- those of one number more that a test holds of
pub filter_more : (p : ℕ → Bool) (n : ℕ) → filter p (range_with_len 0 (n + 1)) ≡ filter p (range_with_len 0 n) ++ cond (p n) (n ∷ []) []
filter_more p n =
    ap (filter p) (sym (map_same (range_with_len 0 (n + 1))))
    ∙ filter_of_map_range_with_len_more p (λ x. x) 0 n n (omega arith)
    ∙ ap (λ l. filter p l ++ cond (p n) (n ∷ []) []) (map_same (range_with_len 0 n))

-- ---- copies

-- of each page it is known whether its copy was readable; past them there are no copies
readable_here : (memory : Memory) (page : ℕ) → slice_index_or (readable_in memory) page false ≡ is_readable (copy_at memory page)
readable_here memory page =
    let f : ℕ → Bool = λ page. is_readable (copy_at memory page) in
    let count : ℕ = length memory.copies in
    elim (cases_lt page count) [
      | inl lt ↦ get_or-map-range_with_len f 0 count page page false lt (omega arith)
      | inr past ↦
          let long = length-map-range_with_len f 0 count in
          get_or_past (readable_in memory) page false (omega (arith, past, long))
          ∙ sym (ap is_readable (get_or_past memory.copies page absent past))
    ]

since_so : (before after : Memory) → invalid_since (readable_in before) after ≡ invalidated before after
since_so before after =
    filter_same (λ page. slice_index_or (readable_in before) page false && is_invalid (copy_at after page))
    (λ page. becomes_invalid (copy_at before page) (copy_at after page)) (range_with_len 0 (length after.copies))
    (λ page. ap (λ (b : Bool). b && is_invalid (copy_at after page)) (readable_here before page))

pub found_so : (o : Option Logged) (after : Memory) → invalid_since (readable_from o) after ≡ invalidated_from o after
found_so None after =
    filter_same (λ page. slice_index_or [] page false && is_invalid (copy_at after page)) (λ page. false) (range_with_len 0 (length after.copies))
    (λ page. refl)
    ∙ filter_none (range_with_len 0 (length after.copies))
found_so (Some l) after = since_so l.node.memory after

-- ---- a turn

-- the node that made it stands after it in the next world
some_node : (o : Option Logged) (after : Node) → option_map (λ (l : Logged). Some l.node) o ≡ Some (Some after) → (l : Logged) × (o ≡ Some l) × (l.node ≡ after)
some_node (Some l) after is = (l, refl, same_Some l.node after (same_Some (Some l.node) (Some after) is))
some_node None after is = cc

pub stands_after : (world next : World) (event : Event) (turn : Turn) → MakesTurn world event next turn
    → (l : Logged) × (slice_get next.nodes turn.node ≡ Some l) × (l.node ≡ turn.after)
stands_after world next event turn makes =
    some_node (slice_get next.nodes turn.node) turn.after (sym (slice_get-map (λ (l : Logged). Some l.node) next.nodes turn.node) ∙ makes.stands)

-- once what it sends is in flight, all stands as in the next world
pub posted : (world : World) (made : TurnRecord) (old new : Replay) → LeavesOut old made.out world → new.nodes ≡ old.nodes
    → new.flight.items ≡ old.flight.items ++ made.out → IsReplay new world
posted world made old new leaves nodes flight = record {
  nodes = ap (λ v. nodes_played v.items) nodes ∙ leaves.nodes;
  flight = flight ∙ leaves.flight;
}

-- what is found at its node is what its turn has
pub told_so : (world next : World) (event : Event) (turn : Turn) (node : ℕ) (before : List Bool) (found : List ℕ) (l : Logged)
    → MakesTurn world event next turn → node ≡ turn.node → l.node ≡ turn.after → before ≡ readable_from (slice_get world.nodes node)
    → found ≡ invalid_since before l.node.memory → found ≡ invalidated_at turn
told_so world next event turn node before found l makes node_is after_is before_is found_is =
    found_is
    ∙ ap (λ (b : List Bool). invalid_since b l.node.memory) before_is
    ∙ found_so (slice_get world.nodes node) l.node.memory
    ∙ ap (λ (n : ℕ). invalidated_from (slice_get world.nodes n) l.node.memory) node_is
    ∙ ap (λ (a : Node). invalidated_from (slice_get world.nodes turn.node) a.memory) after_is
    ∙ ap (λ (w : World). invalidated_from (slice_get w.nodes turn.node) turn.after.memory) (sym makes.before_is)

abbrev pub pages_in : List (Vec ℕ Global) → List (List ℕ)
pages_in found = map (λ pages. pages.items) found

-- the pages of its turn are added
pub added_turn : (world : World) (event : Event) (turn : Turn) (old new : List (Vec ℕ Global)) (pages : Vec ℕ Global) → turn_by world event ≡ turn ∷ []
    → pages.items ≡ invalidated_at turn → new ≡ old ++ pages ∷ [] → pages_in new ≡ pages_in old ++ map invalidated_at (turn_by world event)
added_turn world event turn old new pages one is added =
    ap pages_in added
    ∙ map-append (λ (v : Vec ℕ Global). v.items) old (pages ∷ [])
    ∙ ap (λ (l : List ℕ). pages_in old ++ l ∷ []) is
    ∙ ap (λ (l : List Turn). pages_in old ++ map invalidated_at l) (sym one)

-- ---- events one after another

-- so many events are played
abbrev pub IsPlayed : World → List Event → (k : ℕ) → Replay → List (Vec ℕ Global) → Type 0
IsPlayed world events k replay found = (now : World) × (played world (take k events) ≡ Some now) × IsReplay replay now
    × (pages_in found ≡ map invalidated_at (turns_from (Some world) (take k events)))

pub plays_on : (world end : World) (events : List Event) (k : ℕ) (d : Event) (old new : Replay) (some more : List (Vec ℕ Global)) → k < length events
    → played world events ≡ Some end → IsPlayed world events k old some
    → ((now next : World) → IsReplay old now → event_on now (get_or events k d) ≡ Some next → IsReplay new next)
    → ((now next : World) → IsReplay old now → event_on now (get_or events k d) ≡ Some next
    → pages_in more ≡ pages_in some ++ map invalidated_at (turn_by now (get_or events k d)))
    → IsPlayed world events (k + 1) new more
plays_on world end events k d old new some more within goes at plays tells =
    let next = goes_on world end events k d within goes at.0 at.1 in
    let before : List Turn = turns_from (Some world) (take k events) in
    let here : List Turn = turn_by at.0 (get_or events k d) in (
      next.0,
      next.2,
      plays at.0 next.0 at.2 next.1,
      tells at.0 next.0 at.2 next.1
          ∙ ap (λ l. l ++ map invalidated_at here) at.3
          ∙ sym (map-append invalidated_at before here)
          ∙ ap (map invalidated_at) (sym (turns_on world end events k d within goes at.0 at.1)),
    )

pub played_all : (world : World) (events : List Event) (k : ℕ) (replay : Replay) (found : List (Vec ℕ Global)) → length events ≤ k
    → IsPlayed world events k replay found → pages_in found ≡ map invalidated_at (turns_from (Some world) events)
played_all world events k replay found past at = at.3 ∙ ap (λ l. map invalidated_at (turns_from (Some world) l)) (take_all k events past)
