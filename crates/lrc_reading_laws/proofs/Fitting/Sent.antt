-- A base copy on its way fits what its receiver collected, from when its keeper sends it until it is taken.
use Rattle.std.proofs.Common.{◌≡◌, ◌⊎◌, ℕ, List, ◌∷◌, ◌++◌, refl, sym, ap, subst, ◌∙◌, inl, inr, ⊎_elim}
use Rattle.std.specs.Prelude.{Some, Contains, slice_get, slice_set}
use Rattle.std.proofs.lemmas.Bool.{cases_eq}
use Rattle.std.proofs.lemmas.Option.{same_Some}
use Rattle.std.proofs.lemmas.List.Elements.{Contains-append_left, Contains-append_right, Contains-append_cases}
use Rattle.lrc_page.specs.Page.{words_of}
use Rattle.lrc_store.specs.Store.{StoredRecord}
use Rattle.lrc_store.proofs.Orders.{Contains-later}
use Rattle.lrc_envelope.specs.Envelope.{EnvelopeRecord}
use Rattle.lrc_envelope.specs.Records.{PageReplyRecord}
use Rattle.lrc_envelope.specs.declared.message.Message.TheVariants.{PageReply}
use Rattle.lrc_protocol.specs.Pages.{Need}
use Rattle.lrc_protocol.specs.Barriers.{Collection, clean_memory}
use Rattle.lrc_protocol.specs.Node.{Wait, access, discard, Node, OptionsRecord}
use Rattle.lrc_protocol.specs.Turn.{TurnRecord, taking}
use Rattle.lrc_protocol.specs.Run.{Input, taken, EntryRecord, Logged, World, Flying, with_turn}
use Rattle.lrc_protocol.specs.Follows.{pending}
use Rattle.lrc_protocol.specs.Rules.{TurnRule}
use Rattle.lrc_protocol.proofs.Worlds.{get_set_same, get_set_other}
use Rattle.lrc_protocol.proofs.Induction.{Comes}
use Rattle.lrc_order_laws.proofs.Sends.{Came}
use Rattle.lrc_node_laws.proofs.Change.{View, view_of}
use Rattle.lrc_node_laws.proofs.Ranges.{SameRest, clean-same}
use Rattle.lrc_reading_laws.proofs.Collected.CopyReplies.{Answers, sends_page}
use Rattle.lrc_node_laws.proofs.Turning.{First, rests, manages, closes, learns, begins, discards, misses, gets_changes}
use Rattle.lrc_node_laws.proofs.Turning.{gets_page, Later, moves, puts, cleans, mends, Played, begun, goes_on}
use Rattle.lrc_reading_laws.proofs.Fitting.Copies.{FitsTime, later_fits}
use Rattle.lrc_reading_laws.proofs.Fitting.Worlds.{AreFit, TurnFits, wrote_in, ToIs, to-is, lost-in, by_turning}
use Rattle.lrc_reading_laws.proofs.Laws.{AwaitsBase, AreAwaited, AreServed, base_bound}
use Rattle.lrc_reading_laws.proofs.Stamped.Worlds.{TurnBy, alone, again, anew}

-- ---- what is collected stays while a base copy is awaited

first-collected : (came : Came) (v after : View) → First came v after → ((c : Collection) → v.wait ≡ discard c → ⊥)
    → after.memory.collected ≡ v.memory.collected
first-collected came v _ rests none = refl
first-collected came v _ (manages before manager e many) none = refl
first-collected came v _ (closes wait e s) none = refl
first-collected came v _ (learns time intervals o n b) none = refl
first-collected came v _ (begins time intervals e c n b) none = refl
first-collected came v _ (discards collection e) none = absurd (none collection e)
first-collected came v _ (misses page e lt b n) none = refl
first-collected came v _ (gets_changes from m r) none = refl
first-collected came v _ (gets_page from m is s) none = refl

later-collected : (v after : View) → Later v after → after.memory.collected ≡ v.memory.collected
later-collected v _ (moves course e) = refl
later-collected v _ (puts word value e) = refl
later-collected v _ (cleans collection needs e met) =
    let same : SameRest v.memory (clean_memory needs collection.kept v.memory) = clean-same needs collection.kept v.memory in same.collected
later-collected v _ (mends need e met) = refl

played-collected : (came : Came) (v after : View) → Played came v after → ((c : Collection) → v.wait ≡ discard c → ⊥)
    → after.memory.collected ≡ v.memory.collected
played-collected came v after (begun f) none = first-collected came v after f none
played-collected came v after (goes_on {w = u} p l) none = later-collected u after l ∙ played-collected came v u p none

no_discard : (w : Wait) (need : Need) (c : Collection) → w ≡ access need → w ≡ discard c → ⊥
no_discard w need c a d = cc

-- ---- what is on its way was, or answers a request

pub record Asked (node : Node) (was : List EnvelopeRecord) (input : Input) (to : ℕ) (m : PageReplyRecord) : Type 0 where
  pub request : EnvelopeRecord
  pub pending_was : Contains was request
  pub came : input ≡ taken request
  pub answers : Answers (taking node request) request.from request.message to m

front-back : (front back : List EnvelopeRecord) (e x : EnvelopeRecord) → Contains (front ++ back) x → Contains (front ++ e ∷ back) x
front-back front back e x c =
    ⊎_elim (λ (l : Contains front x). Contains-append_left front (e ∷ back) x l)
    (λ (r : Contains back x). Contains-append_right front (e ∷ back) x (Contains-later e back x r))
    (Contains-append_cases front back x c)

sent-cases : (node : Node) (was : List EnvelopeRecord) (input : Input) (turn : TurnRecord) (after : Node) (then : List EnvelopeRecord)
    → TurnRule node input turn after → TurnBy node was input turn after then → (e : EnvelopeRecord) (m : PageReplyRecord) → Contains then e
    → e.message ≡ PageReply m → Contains was e ⊎ Asked node was input e.to m
sent-cases node was _ turn after then rule (alone o k is) e m c p =
    ⊎_elim inl
    (λ (sent : Contains turn.out e). absurd (sends_page node _ turn after rule e m sent p))
    (Contains-append_cases was turn.out e (subst (λ l. Contains l e) is c))
sent-cases node was _ _ _ then rule (again request is) e m c p = inl (subst (λ l. Contains l e) is c)
sent-cases node was _ turn after then rule (anew request took k lost) e m c p =
    ⊎_elim
    (λ (old : Contains (lost.front ++ lost.back) e).
    inl (subst (λ l. Contains l e) (sym lost.before) (front-back lost.front lost.back request e old)))
    (λ (sent : Contains turn.out e).
    inr (record {
      request = request;
      pending_was = lost-in request was turn.out then lost;
      came = refl;
      answers = sends_page node _ turn after rule e m sent p;
    }))
    (Contains-append_cases (lost.front ++ lost.back) turn.out e (subst (λ l. Contains l e) lost.after c))

-- a node that is there was there
was-there : (world : World) (n q : ℕ) (l after lq : Logged) → slice_get world.nodes n ≡ Some l → slice_get (slice_set world.nodes n after) q ≡ Some lq
    → (before : Logged) × (slice_get world.nodes q ≡ Some before)
was-there world n q l after lq at is = elim (cases_eq n q) [
  | inl e ↦ (l, subst (λ k. slice_get world.nodes k ≡ Some l) e at)
  | inr ne ↦ (lq, sym (get_set_other world.nodes n q after ne) ∙ is)
]

module _ (options : OptionsRecord) (made new : List StoredRecord) (world : World) (flight : List Flying) (n : ℕ) (l after : Logged) (input : Input)
    (entry_made : EntryRecord) (at : slice_get world.nodes n ≡ Some l) (come : Comes world n input flight)
    (h : AreFit options made world) (t : TurnFits options made new world (with_turn world flight n entry_made after) l after input)
    (awaited : AreAwaited world) (served : AreServed made world) where
  abbrev now : World
  now = with_turn world flight n entry_made after

  own-collected : (page keeper : ℕ) → AwaitsBase l.node page keeper → after.node.memory.collected ≡ l.node.memory.collected
  own-collected page keeper w =
      by_turning l.node (λ x. x.memory.collected ≡ l.node.memory.collected) input after.node t.turning refl
      (λ p. played-collected _ (view_of l.node) _ p (λ c e. no_discard l.node.mail.wait w.need c w.waits e))
      (λ e is fresh p. played-collected _ (view_of (taking l.node e)) _ p (λ c d. no_discard l.node.mail.wait w.need c w.waits d))

  -- to a node that awaits it
  carried : (q : ℕ) (before lq : Logged) (page keeper : ℕ) (values : List ℕ) → slice_get world.nodes q ≡ Some before → slice_get now.nodes q ≡ Some lq
      → AwaitsBase before.node page keeper → FitsTime (wrote_in options now.acts) made before.node.memory.collected page values
      → FitsTime (wrote_in options now.acts) (made ++ new) lq.node.memory.collected page values
  carried q before lq page keeper values at_q is w f =
      subst (λ collected. FitsTime (wrote_in options now.acts) (made ++ new) collected page values) (sym same) (t.still_fits q before page values at_q f)
    where
      same : lq.node.memory.collected ≡ before.node.memory.collected
      same = elim (cases_eq n q) [
        | inl e ↦
            let own : l ≡ before = same_Some l before (sym at ∙ ap (slice_get world.nodes) e ∙ at_q) in
            let its : after ≡ lq = same_Some after lq (sym (get_set_same world.nodes n l after at) ∙ ap (slice_get (slice_set world.nodes n after)) e ∙ is) in
            ap (λ (x : Logged). x.node.memory.collected) (sym its)
            ∙ own-collected page keeper (subst (λ (x : Logged). AwaitsBase x.node page keeper) (sym own) w)
            ∙ ap (λ (x : Logged). x.node.memory.collected) own
        | inr ne ↦
            let its : lq ≡ before = same_Some lq before (sym is ∙ get_set_other world.nodes n q after ne ∙ at_q) in
            ap (λ (x : Logged). x.node.memory.collected) its
      ]

  -- it was on its way
  old-fits : (e : EnvelopeRecord) (m : PageReplyRecord) (lq : Logged) → Contains (pending world) e → e.message ≡ PageReply m
      → slice_get now.nodes e.to ≡ Some lq → FitsTime (wrote_in options now.acts) (made ++ new) lq.node.memory.collected m.page m.values
  old-fits e m lq c p is =
      let was : _ = was-there world n e.to l after lq at is in
      carried e.to was.0 lq m.page e.from m.values was.1 is (awaited.reply e m was.0 c p was.1)
      (t.then_fits was.0.node.memory.collected m.page m.values (h.sent e m was.0 c p was.1))

  -- the node sends it
  new-fits : (e : EnvelopeRecord) (m : PageReplyRecord) (lq : Logged) → Asked l.node (pending world) input e.to m
      → slice_get now.nodes e.to ≡ Some lq → FitsTime (wrote_in options now.acts) (made ++ new) lq.node.memory.collected m.page m.values
  new-fits e m lq a is =
      let was : _ = was-there world n e.to l after lq at is in
      let before : Logged = was.0 in
      let from : slice_get world.nodes a.request.from ≡ Some before = subst (λ k. slice_get world.nodes k ≡ Some before) a.answers.back was.1 in
      let to : n ≡ a.request.to = subst (ToIs n) a.came (to-is world n input flight come) in
      let w : AwaitsBase before.node m.page n =
      subst (AwaitsBase before.node m.page) (sym to) (awaited.request a.request m.page before a.pending_was a.answers.asked from) in
      carried e.to before lq m.page n m.values was.1 is w
      (later_fits (wrote_in options now.acts) made (words_of options.size) m.page (base_bound l.node m.page) before.node.memory.collected m.values
      (t.base_long m.page m.values a.answers.kept)
      (served.below a.request.from n m.page before l from at w)
      (λ x b. t.untouched m.page x b.member (served.unnamed a.request.from n m.page before l x from at w b))
      ((t.then_node n l at).bases m.page m.values a.answers.kept))

  pub all-sent : TurnRule l.node input entry_made.turn after.node → TurnBy l.node (pending world) input entry_made.turn after.node (pending now)
      → (e : EnvelopeRecord) (m : PageReplyRecord) (lq : Logged) → Contains (pending now) e → e.message ≡ PageReply m
      → slice_get now.nodes e.to ≡ Some lq → FitsTime (wrote_in options now.acts) (made ++ new) lq.node.memory.collected m.page m.values
  all-sent rule turn e m lq c p is =
      ⊎_elim
      (λ (old : Contains (pending world) e). old-fits e m lq old p is)
      (λ (a : Asked l.node (pending world) input e.to m). new-fits e m lq a is)
      (sent-cases l.node (pending world) input entry_made.turn after.node (pending now) rule turn e m c p)
