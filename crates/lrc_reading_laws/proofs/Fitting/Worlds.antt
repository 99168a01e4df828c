-- In every history copies, base copies, those that came and those on their way fit their times, and what was closed is sound.
use Rattle.std.proofs.Common.{◌≡◌, ℕ, ◌+◌, ◌<◌, ◌≤◌, List, [], ◌∷◌, ◌++◌, Bool, true, false, IsTrue, length, map, refl, sym, ap, subst, ◌∙◌, ⊎_elim, append-nil}
use Rattle.std.specs.Prelude.{Some, None, Contains, ◌==◌, slice_get, if◌then◌else◌}
use Rattle.std.proofs.lemmas.Bool.{eq-eqb}
use Rattle.std.proofs.lemmas.List.Elements.{Contains-append_left, Contains-append_right}
use Rattle.lrc_program.specs.declared.Program.{Program}
use Rattle.lrc_trace.specs.declared.act.Act.{Act}
use Rattle.lrc_time.specs.Time.{entry}
use Rattle.lrc_page.specs.Page.{words_of}
use Rattle.lrc_store.specs.Interval.{IntervalRecord}
use Rattle.lrc_store.specs.Store.{StoredRecord, interval_of, notice_of}
use Rattle.lrc_store.proofs.Orders.{Contains-first, cases_Contains, none_Contains}
use Rattle.lrc_envelope.specs.Envelope.{EnvelopeRecord}
use Rattle.lrc_envelope.specs.Records.{PageReplyRecord}
use Rattle.lrc_envelope.specs.declared.message.Message.{Message}
use Rattle.lrc_envelope.specs.declared.message.Message.TheVariants.{LockRequest, LockForward, LockGrant, Arrive, Depart, Clean, Discard}
use Rattle.lrc_envelope.specs.declared.message.Message.TheVariants.{ChangesRequest, ChangesReply, PageRequest, PageReply}
use Rattle.lrc_copies.specs.Page.{IsPageSound, AgreeOnPage}
use Rattle.lrc_copies.specs.Stamps.{stamp_index, stamps_covered, IsClosedAt}
use Rattle.lrc_copies.proofs.Stamping.{le-covered}
use Rattle.lrc_protocol.specs.Pages.{copy_at}
use Rattle.lrc_protocol.specs.Barriers.{base_at}
use Rattle.lrc_protocol.specs.Node.{Node, OptionsRecord}
use Rattle.lrc_protocol.specs.Turn.{is_repeat, taking}
use Rattle.lrc_protocol.specs.Run.{Input, run, taken, EntryRecord, Logged, World, Flying, with_turn}
use Rattle.lrc_protocol.specs.Follows.{pending}
use Rattle.lrc_protocol.proofs.Worlds.{IsEntry, get_set_same}
use Rattle.lrc_protocol.proofs.Induction.{Comes, named, delivered, repeated}
use Rattle.lrc_order_laws.proofs.Pending.{Lost, Goes, new_of, pending-goes, all_pending}
use Rattle.lrc_order_laws.proofs.Reached.{IsReached}
use Rattle.lrc_order_laws.proofs.Sends.{Came, by_itself, comes}
use Rattle.lrc_order_laws.proofs.Shape.{shape_at}
use Rattle.lrc_node_laws.specs.Reached.{IsReached as IsReachedNode}
use Rattle.lrc_node_laws.specs.Ranges.{IsWholeBase}
use Rattle.lrc_node_laws.proofs.Always.{is_store_at, known_at, ranged_at, whole_at}
use Rattle.lrc_node_laws.proofs.Change.{view_of, Walk, goes, receives}
use Rattle.lrc_node_laws.proofs.Reach.{first_view}
use Rattle.lrc_node_laws.proofs.Tokened.{come_to}
use Rattle.lrc_reading_laws.specs.Made.{AllMade, AllTold, intervals_in}
use Rattle.lrc_reading_laws.specs.Written.{made_stamps, last_write, word_on}
use Rattle.lrc_node_laws.proofs.Turning.{news_in, Brings, Played, Turning, alone, again, anew, TurningIf, turning}
use Rattle.lrc_reading_laws.proofs.Fitting.Carry.{bound-good, carry, agree-fits, agree-sound, Misses, longer-fits, longer-cuts, closes-sound}
use Rattle.lrc_reading_laws.proofs.Fitting.Copies.{Wrote, history_on, FitsTime, Fit, Facts, Stored, base-within}
use Rattle.lrc_reading_laws.proofs.Fitting.First.{Shuts}
use Rattle.lrc_reading_laws.proofs.Fitting.Later.{AtView, at_view}
use Rattle.lrc_reading_laws.proofs.Fitting.Played.{played-fit}
use Rattle.lrc_reading_laws.proofs.Closed.History.{History, one_more, closed_record, closed_by}
use Rattle.lrc_reading_laws.proofs.Laws.{AreKnown, TurnWrites, StampsLaw, WritesLaw, TurnsLaw}
use Rattle.lrc_reading_laws.proofs.Stamped.Cuts.{IsFull, Counted, unknown_by}
use Rattle.lrc_reading_laws.proofs.Stamped.Lists.{own_between}
use Rattle.lrc_reading_laws.proofs.Stamped.Made.{all_made, closed-index}
use Rattle.lrc_reading_laws.proofs.Stamped.Times.{AreCuts, all_cuts, since-of}
use Rattle.lrc_reading_laws.proofs.Stamped.Worlds.{Placed, placed}
use Rattle.lrc_reading_laws.proofs.Closed.Told.{told-there}

-- what the acts wrote in each interval, page by page
abbrev pub wrote_in : OptionsRecord → List Act → Wrote
wrote_in options acts page x offset = last_write acts x.node (stamp_index made_stamps x) (word_on options.size page offset)

-- what was closed is sound, and what each node has fits; and so does what is on its way
pub record AreFit (options : OptionsRecord) (made : List StoredRecord) (world : World) : Type 0 where
  pub sound : (page : ℕ) → IsPageSound (history_on (wrote_in options world.acts) page) (words_of options.size) made
  pub nodes : (n : ℕ) (l : Logged) → slice_get world.nodes n ≡ Some l
      → Fit (wrote_in options world.acts) made l.node.locks.time l.node.mail.wait l.node.memory
  pub sent : (e : EnvelopeRecord) (m : PageReplyRecord) (l : Logged) → Contains (pending world) e → e.message ≡ PageReply m
      → slice_get world.nodes e.to ≡ Some l → FitsTime (wrote_in options world.acts) made l.node.memory.collected m.page m.values

-- what a turn of a node keeps, of copies and of what is on its way
pub record TurnFits (options : OptionsRecord) (made new : List StoredRecord) (world now : World) (l after : Logged) (input : Input) : Type 0 where
  pub then_fits : (time : List ℕ) (page : ℕ) (values : List ℕ) → FitsTime (wrote_in options world.acts) made time page values
      → FitsTime (wrote_in options now.acts) made time page values
  pub then_node : (q : ℕ) (lq : Logged) → slice_get world.nodes q ≡ Some lq
      → Fit (wrote_in options now.acts) made lq.node.locks.time lq.node.mail.wait lq.node.memory
  pub untouched : (page : ℕ) (x : StoredRecord) → Contains made x → notice_of page x ≡ None
      → (offset : ℕ) → offset < words_of options.size → wrote_in options now.acts page x offset ≡ None
  pub still_fits : (q : ℕ) (lq : Logged) (page : ℕ) (values : List ℕ) → slice_get world.nodes q ≡ Some lq
      → FitsTime (wrote_in options now.acts) made lq.node.memory.collected page values
      → FitsTime (wrote_in options now.acts) (made ++ new) lq.node.memory.collected page values
  pub sound : (page : ℕ) → IsPageSound (history_on (wrote_in options now.acts) page) (words_of options.size) (made ++ new)
  pub still_node : (q : ℕ) (lq : Logged) → slice_get world.nodes q ≡ Some lq
      → Fit (wrote_in options now.acts) (made ++ new) lq.node.locks.time lq.node.mail.wait lq.node.memory
  pub own_node : Fit (wrote_in options now.acts) (made ++ new) after.node.locks.time after.node.mail.wait after.node.memory
  pub turning : Turning l.node input after.node
  pub base_long : (page : ℕ) (values : List ℕ) → base_at l.node.memory page ≡ Some values → length values ≡ words_of options.size

-- ---- members of what a turn closes

pub closed-is : (node after : Node) (x : StoredRecord) → Contains (closed_by node after) x → closed_record node ≡ x
closed-is node after x c = by_test (entry after.locks.time node.setting.me == entry node.locks.time node.setting.me) c
  where
    by_test : (b : Bool) → Contains (if b then [] else closed_record node ∷ []) x → closed_record node ≡ x
    by_test true c = absurd (none_Contains x c)
    by_test false c = ⊎_elim (λ (e : closed_record node ≡ x). e) (λ later. absurd (none_Contains x later)) (cases_Contains (closed_record node) [] x c)

none_by : (node : Node) (made : List StoredRecord) → made ≡ made ++ closed_by node node
none_by node made =
    sym (append-nil made)
    ∙ ap (λ b. made ++ (if b then [] else closed_record node ∷ []))
    (sym (eq-eqb (entry node.locks.time node.setting.me) (entry node.locks.time node.setting.me) refl))

nothing_came : (from : ℕ) (message : Message) → by_itself ≡ comes from message → ⊥
nothing_came from message e = cc

came_message : (from from' : ℕ) (a b : Message) → comes from a ≡ comes from' b → a ≡ b
came_message from from' a b e = cc

-- what is learned with a message is what it tells
news-made : (made : List IntervalRecord) (message : Message) → AllMade made (intervals_in message) → AllMade made (news_in message)
news-made made (LockGrant m) h = h
news-made made (Depart m) h = h
news-made made (LockRequest m) h = tt
news-made made (LockForward m) h = tt
news-made made (Arrive m) h = tt
news-made made (Clean episode) h = tt
news-made made (Discard episode) h = tt
news-made made (ChangesRequest m) h = tt
news-made made (ChangesReply m) h = tt
news-made made (PageRequest page) h = tt
news-made made (PageReply m) h = tt

-- a message comes to its receiver
abbrev pub ToIs : ℕ → Input → Type 0
ToIs n run = Unit {0}
ToIs n (taken e) = n ≡ e.to

pub to-is : (world : World) (n : ℕ) (input : Input) (flight : List Flying) → Comes world n input flight → ToIs n input
to-is world n _ _ named = tt
to-is world _ _ _ (delivered place is) = refl
to-is world _ _ _ (repeated place is) = refl

-- a message taken anew was pending
lost-of : (node : Node) (input : Input) (was out now : List EnvelopeRecord) → Goes (new_of node input) was out now → (e : EnvelopeRecord)
    → input ≡ taken e → is_repeat node e ≡ false → Lost e was out now
lost-of node input was out now g e is fresh =
    by_test (is_repeat node e) fresh (subst (λ input. Goes (new_of node input) was out now) is g)
  where
    by_test : (b : Bool) → b ≡ false → Goes (if b then None else Some e) was out now → Lost e was out now
    by_test true f g = cc
    by_test false f g = g

pub lost-in : (e : EnvelopeRecord) (was out now : List EnvelopeRecord) → Lost e was out now → Contains was e
lost-in e was out now lost =
    subst (λ es. Contains es e) (sym lost.before) (Contains-append_right lost.front (e ∷ lost.back) e (Contains-first e lost.back))

module _ (node : Node) (Q : Node → Type 0) where
  pub by_turning : (input : Input) (after : Node) → Turning node input after → Q node → (Played by_itself (view_of node) (view_of after) → Q after)
      → ((e : EnvelopeRecord) → input ≡ taken e → is_repeat node e ≡ false
      → Played (comes e.from e.message) (view_of (taking node e)) (view_of after) → Q after)
      → Q after
  by_turning _ _ (alone p) idle by_run by_message = by_run p
  by_turning _ _ (again e is) idle by_run by_message = idle
  by_turning _ _ (anew e fresh x p) idle by_run by_message = by_message e refl fresh p

module _ (program : Program) (nodes : ℕ) (options : OptionsRecord) (stamps : StampsLaw program nodes options) (writes : WritesLaw program nodes options)
    (turns : TurnsLaw program nodes options) where
  module _ (world : World) (made : List StoredRecord) (flight : List Flying) (n : ℕ) (l after : Logged) (input : Input) (entry_made : EntryRecord)
      (at : slice_get world.nodes n ≡ Some l) (come : Comes world n input flight) (i : IsEntry l input entry_made after)
      (r : IsReached program nodes options world) (r' : IsReached program nodes options (with_turn world flight n entry_made after))
      (hist : History program nodes options world made) (h : AreFit options made world) where
    abbrev now : World
    now = with_turn world flight n entry_made after

    abbrev new : List StoredRecord
    new = closed_by l.node after.node

    abbrev wrote : Wrote
    wrote = wrote_in options now.acts

    hist' : History program nodes options now (made ++ new)
    hist' = one_more world made flight n l after input entry_made at come i r r' hist

    known : AreKnown nodes made world
    known = stamps world made hist

    known' : AreKnown nodes (made ++ new) now
    known' = stamps now (made ++ new) hist'

    turn : TurnWrites options made world now l.node new
    turn = turns world made flight n l after input entry_made at come i r r' hist

    at' : slice_get now.nodes n ≡ Some after
    at' = get_set_same world.nodes n l after at

    is_here : Placed nodes n l.node
    is_here = placed program nodes options world r n l at

    is_here' : Placed nodes n after.node
    is_here' = placed program nodes options now r' n after at'

    untouched : (page : ℕ) (x : StoredRecord) → Contains (made ++ new) x → notice_of page x ≡ None
        → (offset : ℕ) → offset < words_of options.size → wrote page x offset ≡ None
    untouched page x c none = (writes now (made ++ new) hist').named x page c none

    -- ---- with the acts of the turn, before it closes anything

    agree : (page : ℕ) → AgreeOnPage made (history_on (wrote_in options world.acts) page) (history_on wrote page)
    agree page = turn.stay page

    then-fits : (time : List ℕ) (page : ℕ) (values : List ℕ) → FitsTime (wrote_in options world.acts) made time page values
        → FitsTime wrote made time page values
    then-fits time page values f = agree-fits (wrote_in options world.acts) wrote made agree time page values f

    then-node : (q : ℕ) (lq : Logged) → slice_get world.nodes q ≡ Some lq → Fit wrote made lq.node.locks.time lq.node.mail.wait lq.node.memory
    then-node q lq at_q =
        carry (wrote_in options world.acts) wrote made made (λ time. Unit {0}) (λ time page values g f. then-fits time page values f) (λ time g c. c)
        lq.node.locks.time lq.node.mail.wait lq.node.memory
        (record { now = tt; collected = tt; since = λ page values since e. tt; bound = λ page. tt }) (h.nodes q lq at_q)

    facts : Facts nodes (words_of options.size) wrote made
    facts = record {
      stamped = known.stamped;
      found = known.found;
      sound = λ page. agree-sound (wrote_in options world.acts) wrote made (words_of options.size) agree page (h.sound page);
      untouched = λ page x c none. untouched page x (Contains-append_left made new x c) none;
    }

    -- ---- the interval that the turn closes

    counted : Counted made l.node.setting.me (entry l.node.locks.time l.node.setting.me)
    counted =
        subst (λ k. Counted made k (entry l.node.locks.time k)) (sym is_here.me)
        ((all_made program nodes options world made hist).exact n l at)

    cuts : AreCuts nodes made world
    cuts = all_cuts program nodes options world made hist

    index_is : stamp_index made_stamps (closed_record l.node) ≡ entry l.node.locks.time l.node.setting.me + 1
    index_is = closed-index nodes n l.node is_here

    -- no time that covers only what was made covers it
    full-misses : (time : List ℕ) → IsFull made time → Misses new time
    full-misses time full x c covered =
        unknown_by made time (entry l.node.locks.time l.node.setting.me) (closed_record l.node) full counted index_is
        (subst (λ y. IsTrue (stamps_covered made_stamps time y)) (sym (closed-is l.node after.node x c)) covered)

    pub closed-at : IsClosedAt made_stamps nodes made l.node.locks.time (closed_record l.node)
    closed-at =
        let me : ℕ = l.node.setting.me in
        record {
          long = is_here.long;
          counted = subst (λ k. k < nodes) (sym is_here.me) is_here.within;
          cut = (cuts.times n l at).cut;
          stamped = refl;
          own = λ a c e.
              le-covered made_stamps l.node.locks.time a
              (subst (λ q. stamp_index made_stamps a ≤ entry l.node.locks.time q) (sym e) (own_between made me (entry l.node.locks.time me) a counted c e).1);
          unknown = λ a c.
              unknown_by made a.stamp (entry l.node.locks.time me) (closed_record l.node) (cuts.stamps a c) counted index_is;
        }

    same_options : (q : ℕ) (lq : Logged) → slice_get world.nodes q ≡ Some lq → lq.node.options ≡ options
    same_options q lq at_q = (shape_at program nodes options r.events world q lq r.runs at_q).options

    same_options' : after.node.options ≡ options
    same_options' = (shape_at program nodes options r'.events now n after r'.runs at').options

    shut : Contains new (closed_record l.node) → Shuts nodes (words_of l.node.options.size) wrote made (view_of l.node) (closed_record l.node)
    shut c =
        subst (λ (o : OptionsRecord). Shuts nodes (words_of o.size) wrote made (view_of l.node) (closed_record l.node)) (sym (same_options n l at))
        (record {
          at = closed-at;
          changes = λ page values twin e. turn.closes (closed_record l.node) page values twin c e;
          leaves = λ page none. turn.leaves (closed_record l.node) page c none;
        })

    -- ---- what was made is sound then

    here : AtView (view_of l.node)
    here =
        let reached : IsReachedNode l.node = is_here.reached in
        at_view reached.program reached.nodes reached.options reached.me reached.leads.among (view_of l.node) (come_to l.node reached).walked

    one_sound : (page : ℕ) → (b : Bool) → (Contains (if b then [] else closed_record l.node ∷ []) (closed_record l.node) → Contains new (closed_record l.node))
        → IsPageSound (history_on wrote page) (words_of options.size) (made ++ (if b then [] else closed_record l.node ∷ []))
    one_sound page true c = subst (IsPageSound (history_on wrote page) (words_of options.size)) (sym (append-nil made)) (facts.sound page)
    one_sound page false c =
        subst (λ (o : OptionsRecord). IsPageSound (history_on wrote page) (words_of o.size) (made ++ closed_record l.node ∷ [])) (same_options n l at)
        (closes-sound nodes wrote made (view_of l.node) here (closed_record l.node) (shut (c (Contains-first (closed_record l.node) []))) (then-node n l at)
        page
        (subst (λ (o : OptionsRecord). IsPageSound (history_on wrote page) (words_of o.size) made) (sym (same_options n l at)) (facts.sound page)))

    then-sound : (page : ℕ) → IsPageSound (history_on wrote page) (words_of options.size) (made ++ new)
    then-sound page = one_sound page (entry after.node.locks.time l.node.setting.me == entry l.node.locks.time l.node.setting.me) (λ c. c)

    facts' : Facts nodes (words_of options.size) wrote (made ++ new)
    facts' = record { stamped = known'.stamped; found = known'.found; sound = then-sound; untouched = untouched }

    -- ---- other nodes, and what is on its way

    still-fits : (time : List ℕ) (page : ℕ) (values : List ℕ) → IsFull made time → FitsTime wrote made time page values
        → FitsTime wrote (made ++ new) time page values
    still-fits time page values full f = longer-fits wrote new made time page values (full-misses time full) f

    still-node : (q : ℕ) (lq : Logged) → slice_get world.nodes q ≡ Some lq
        → Fit wrote (made ++ new) lq.node.locks.time lq.node.mail.wait lq.node.memory
    still-node q lq at_q =
        let p : Placed nodes q lq.node = placed program nodes options world r q lq at_q in
        carry wrote wrote made (made ++ new) (IsFull made) still-fits
        (λ time full c. longer-cuts new made time (full-misses time full) c)
        lq.node.locks.time lq.node.mail.wait lq.node.memory
        (record {
          now = cuts.times q lq at_q;
          collected = (cuts.kept q lq at_q).collected;
          since = λ page values since e. since-of (IsFull made) (copy_at lq.node.memory page) values since e ((cuts.kept q lq at_q).since page);
          bound = λ page.
              bound-good (IsFull made) lq.node.mail.wait lq.node.memory.collected lq.node.locks.time page (ranged_at lq.node p.reached).present
              (cuts.times q lq at_q) (cuts.kept q lq at_q).collected;
        })
        (then-node q lq at_q)

    -- ---- the node itself

    stored : Stored made l.node.locks.time l.node.memory.collected l.node.memory.store
    stored = record {
      just = known.stored n l at;
      is_store = is_store_at l.node is_here.reached;
      known = λ key changes e. known.known n l key changes at e;
      time_cut = known.time n l at;
      collected_cut = known.collected n l at;
    }

    stored' : Stored (made ++ new) after.node.locks.time after.node.memory.collected after.node.memory.store
    stored' = record {
      just = known'.stored n after at';
      is_store = is_store_at after.node is_here'.reached;
      known = λ key changes e. known'.known n after key changes at' e;
      time_cut = known'.time n after at';
      collected_cut = known'.collected n after at';
    }

    -- played from here, or from here with a number noted
    played : (came : Came) (numbers : List (List ℕ)) → Played came (record (view_of l.node) { taken = numbers }) (view_of after.node)
        → (let reached : IsReachedNode l.node = is_here.reached in Walk
        (first_view reached.program reached.nodes reached.options reached.me reached.leads.among) (record (view_of l.node) { taken = numbers }))
        → ((intervals : List IntervalRecord) → Brings came intervals → AllMade (map interval_of made) intervals)
        → ((from : ℕ) (m : PageReplyRecord) → came ≡ comes from (PageReply m) → FitsTime wrote made l.node.memory.collected m.page m.values)
        → Fit wrote (made ++ new) after.node.locks.time after.node.mail.wait after.node.memory
    played came numbers p walked told sent =
        let reached : IsReachedNode l.node = is_here.reached in
        played-fit reached.program reached.nodes reached.options reached.me reached.leads.among (record (view_of l.node) { taken = numbers }) walked came nodes
        wrote made (closed_record l.node)
        (subst (λ (o : OptionsRecord). Facts nodes (words_of o.size) wrote made) (sym (same_options n l at)) facts) is_here.count stored told sent refl
        (then-node n l at) (view_of after.node) p (made ++ new) refl
        (subst (λ (o : OptionsRecord). Facts nodes (words_of o.size) wrote (made ++ new)) (sym same_options') facts') stored'
        (λ c. let it : Shuts nodes (words_of l.node.options.size) wrote made (view_of l.node) (closed_record l.node) = shut c in
        record { at = it.at; changes = it.changes; leaves = it.leaves })

    walked : let reached : IsReachedNode l.node = is_here.reached in
        Walk (first_view reached.program reached.nodes reached.options reached.me reached.leads.among) (view_of l.node)
    walked = let reached : IsReachedNode l.node = is_here.reached in (come_to l.node reached).walked

    goes-there : Goes (new_of l.node input) (pending world) entry_made.turn.out (pending now)
    goes-there =
        pending-goes program nodes options world flight n l after input entry_made at come i
        (all_pending program nodes options r.events world r.runs)

    -- with a message that is taken anew
    with_message : (e : EnvelopeRecord) → input ≡ taken e → is_repeat l.node e ≡ false
        → Played (comes e.from e.message) (view_of (taking l.node e)) (view_of after.node)
        → Fit wrote (made ++ new) after.node.locks.time after.node.mail.wait after.node.memory
    with_message e is fresh p =
        let lost : Lost e (pending world) entry_made.turn.out (pending now) =
        lost-of l.node input (pending world) entry_made.turn.out (pending now) goes-there e is fresh in
        let to : n ≡ e.to = subst (ToIs n) is (to-is world n input flight come) in
        let told : AllMade (map interval_of made) (news_in e.message) =
        news-made (map interval_of made) e.message
        (told-there (map interval_of made) lost.front lost.back e (subst (AllTold (map interval_of made)) lost.before known.are.told)) in
        played (comes e.from e.message) (taking l.node e).mail.taken p (goes walked (receives e.from _))
        (λ intervals b.
        subst (AllMade (map interval_of made)) b.told
        (subst (λ message. AllMade (map interval_of made) (news_in message)) (came_message e.from b.from e.message b.message b.came_is) told))
        (λ from m c.
        then-fits l.node.memory.collected m.page m.values
        (h.sent e m l (lost-in e (pending world) entry_made.turn.out (pending now) lost) (came_message e.from from e.message (PageReply m) c)
        (subst (λ k. slice_get world.nodes k ≡ Some l) to at)))

    own-node : Fit wrote (made ++ new) after.node.locks.time after.node.mail.wait after.node.memory
    own-node =
        let turning_now : Turning l.node input after.node =
        subst (TurningIf l.node input) i.turn_is (turning l.node input (known_at l.node is_here.reached).text) in
        by_turning l.node (λ x. Fit wrote (made ++ closed_by l.node x) x.locks.time x.mail.wait x.memory) input after.node turning_now
        (subst (λ all. Fit wrote all l.node.locks.time l.node.mail.wait l.node.memory) (none_by l.node made) (then-node n l at))
        (λ p. played by_itself l.node.mail.taken p walked (λ intervals b. absurd (nothing_came b.from b.message b.came_is))
        (λ from m c. absurd (nothing_came from (PageReply m) c)))
        with_message

    base-long : (page : ℕ) (values : List ℕ) → base_at l.node.memory page ≡ Some values → length values ≡ words_of options.size
    base-long page values e =
        subst (λ (o : OptionsRecord). length values ≡ words_of o.size) (same_options n l at)
        (subst (IsWholeBase (words_of l.node.options.size)) e
        ((whole_at l.node is_here.reached).bases page None (base-within l.node.memory page values e)))

    pub turn-fits : TurnFits options made new world now l after input
    turn-fits = record {
      then_fits = then-fits;
      then_node = then-node;
      untouched = λ page x c none. untouched page x (Contains-append_left made new x c) none;
      still_fits = λ q lq page values at_q f. still-fits lq.node.memory.collected page values (cuts.kept q lq at_q).collected f;
      sound = then-sound;
      still_node = still-node;
      own_node = own-node;
      turning = subst (TurningIf l.node input) i.turn_is (turning l.node input (known_at l.node is_here.reached).text);
      base_long = base-long;
    }
