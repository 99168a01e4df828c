use Rattle.std.proofs.Common.{◌≡◌, ◌<◌, ◌≤◌, ◌∙◌, ◌++◌, ◌∷◌, ◌&&◌, ℕ, Bool, true, false, not, eqb, Option, Some, [], length, get_or, map, sym, ap}
use Rattle.std.proofs.Common.{List, subst, arith, append-nil, append_assoc, Vec, Global}
use Rattle.std.proofs.lemmas.List.{get_or-map, length-map}
use Rattle.lrc_time.specs.Time.{knows}
use Rattle.lrc_store.specs.Interval.{IntervalRecord, index_of}
use Rattle.lrc_store.specs.Chains.{last_at}
use Rattle.lrc_store.specs.Store.{StoredRecord, interval_of, is_newer}
use Rattle.lrc_store.proofs.Chained.{reach, reach-taken}
use Rattle.lrc_store.proofs.NodeWalks.{IsWalked, no_interval, walk_starts, walk_within, walk_goes_on, walk_stops}
use Rattle.lrc_store.proofs.links.Links.put_newer_of_node.Goals as goal
use Rattle.lrc_store.proofs.links.Links.put_newer_of_node.Goals.{In-Some, After-is_known, then-is_known-2+in_ok-duplicate+in_ok-push, else-is_known-2}

pub loop-next-init : goal.loop-next-init
loop-next-init c =
    let intervals = map interval_of c.args.arena.now.entries in (
      [],
      sym (append-nil c.args.found.now.items),
      walk_starts c.args.node c.args.since.now c.args.upto.now intervals no_interval c.args.self.now.by_node.keys c.first-next.result c.requires.linked
          (c.first-next.ensures ∙ ap (λ n. last_at (λ other. eqb other n) c.args.self.now.by_node.keys) c.from.ensures),
    )

-- what the walk has found so far
abbrev so_far : In-Some → List IntervalRecord
so_far c = c.loop-next.invariant.0

-- the walk as it stands in the loop
here : (c : In-Some)
    → IsWalked c.args.node c.args.since.now c.args.upto.now (map interval_of c.args.arena.now.entries) no_interval (Some c.in-Some.at) (so_far c)
here c =
    subst (λ (next : Option ℕ). IsWalked c.args.node c.args.since.now c.args.upto.now
    (map interval_of c.args.arena.now.entries) no_interval next (so_far c))
    c.in-Some.is c.loop-next.invariant.2

within : (c : In-Some) → c.in-Some.at < length (map interval_of c.args.arena.now.entries)
within c =
    walk_within c.args.node c.args.since.now c.args.upto.now (map interval_of c.args.arena.now.entries) no_interval c.in-Some.at
    (so_far c) (here c)

abbrev no_stored : StoredRecord
no_stored = record { node = 0; stamp = []; notices = [] }

-- the interval where the walk stands
read : (c : After-is_known) → (inside : c.in-Some.at < length c.args.arena.now.entries)
    → get_or (map interval_of c.args.arena.now.entries) c.in-Some.at c.interval-interval.result.now ≡ c.interval-interval.result.now
read c inside =
    get_or-map interval_of c.args.arena.now.entries c.in-Some.at no_stored c.interval-interval.result.now inside
    ∙ sym (c.interval-interval.ensures no_stored)

pub interval-interval-requires : goal.interval-interval-requires
interval-interval-requires c =
    omega (arith, within (goal.at.interval-interval-requires c).In-Some, length-map c.args.arena.now.entries interval_of)

pub loop-next-preserved-then-is_known : goal.loop-next-preserved-then-is_known
loop-next-preserved-then-is_known c =
    let a = (goal.at.loop-next-preserved-then-is_known c).After-is_known in
    let s = (goal.at.loop-next-preserved-then-is_known c).In-Some in
    let since = c.args.since.now in
    let d = c.interval-interval.result.now in
    let inside : c.in-Some.at < length c.args.arena.now.entries = omega (arith, within s, length-map c.args.arena.now.entries interval_of) in (
      so_far s,
      c.loop-next.invariant.1,
      walk_stops c.args.node since c.args.upto.now (map interval_of c.args.arena.now.entries) no_interval c.in-Some.at (so_far s) d
          (here s) c.requires.ascending
          (ap (λ (i : IntervalRecord). knows since i.node (index_of i)) (read a inside) ∙ sym c.is_known.ensures ∙ c.if-is_known.true),
    )

pub loop-next-preserved : goal.loop-next-preserved
loop-next-preserved c =
    let a = (goal.at.loop-next-preserved c).After-is_known in
    let s = (goal.at.loop-next-preserved c).In-Some in
    let since = c.args.since.now in
    let upto = c.args.upto.now in
    let intervals = map interval_of c.args.arena.now.entries in
    let d = c.interval-interval.result.now in
    let more = so_far s in
    let inside : c.in-Some.at < length c.args.arena.now.entries = omega (arith, within s, length-map c.args.arena.now.entries interval_of) in
    let same = read a inside in
    let newer : (b : Bool) → knows upto d.node (index_of d) ≡ b → is_newer since upto (get_or intervals c.in-Some.at d) ≡ b =
    λ b is. ap (is_newer since upto) same ∙ ap (λ v. not v && knows upto d.node (index_of d)) (sym c.is_known.ensures ∙ c.if-is_known.false) ∙ is in
    elim c.if-is_known-2.branch [
      | then-is_known-2+in_ok-duplicate+in_ok-push w ↦ (
        more ++ d ∷ [],
        ap (λ (v : Vec IntervalRecord Global). v.items) w.found-is ∙ w.in_ok-push.ensures.items
            ∙ ap (λ (i : IntervalRecord). c.loop-next.found.items ++ i ∷ []) w.in_ok-duplicate.ensures
            ∙ ap (λ (l : List IntervalRecord). l ++ d ∷ []) c.loop-next.invariant.1
            ∙ append_assoc c.args.found.now.items more (d ∷ []),
        walk_goes_on c.args.node since upto intervals no_interval c.in-Some.at more (more ++ d ∷ []) true
            c.args.self.now.by_node.keys c.next-next.result d (here s) c.requires.linked c.next-next.ensures
            (newer true (sym c.is_known-else-is_known.ensures ∙ w.if-is_known-2.true))
            (ap (λ (i : IntervalRecord). more ++ i ∷ []) (sym same)),
      )
      | else-is_known-2 w ↦ (
        more,
        ap (λ (v : Vec IntervalRecord Global). v.items) w.found-is ∙ c.loop-next.invariant.1,
        walk_goes_on c.args.node since upto intervals no_interval c.in-Some.at more more false
            c.args.self.now.by_node.keys c.next-next.result d (here s) c.requires.linked c.next-next.ensures
            (newer false (sym c.is_known-else-is_known.ensures ∙ w.if-is_known-2.false))
            (sym (append-nil more)),
      )
    ]

pub loop-next-smaller : goal.loop-next-smaller
loop-next-smaller c =
    let at = c.in-Some.at in
    let keys = c.args.self.now.by_node.keys in
    let inside = within (goal.at.loop-next-smaller c).In-Some in
    let falls = reach-taken (λ other. eqb other (get_or keys at 0)) keys 0 at
    (omega (arith, inside, ap length c.requires.linked, length-map (map interval_of c.args.arena.now.entries) (λ (i : IntervalRecord). i.node))) in
    let next : reach c.next-next.result ≤ at =
    subst (λ (n : Option ℕ). reach n ≤ at) (sym c.next-next.ensures) falls in
    subst (λ (n : Option ℕ). reach c.next-next.result < reach n) (sym c.in-Some.is) (omega (arith, next))
