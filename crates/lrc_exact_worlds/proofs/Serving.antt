-- A base copy that a keeper sends has what the last collection left of its receiver: no interval between names the page.
use Rattle.std.proofs.Common.{◌≡◌, ◌⊎◌, ℕ, suc, ◌<◌, ◌≤◌, List, ◌∷◌, ◌++◌, Bool, true, false, refl, sym, ap, subst, ◌∙◌, inl, inr, ⊎_elim, arith}
use Rattle.std.specs.Prelude.{Option, None, is_some, Contains, if◌then◌else◌}
use Rattle.std.proofs.lemmas.Bool.{cases_lt, true≢false}
use Rattle.std.proofs.lemmas.List.Elements.{Contains-append_left, Contains-append_right, Contains-append_cases}
use Rattle.lrc_time.specs.Time.{entry}
use Rattle.lrc_page.specs.declared.size.Size.{Size}
use Rattle.lrc_page.specs.Page.{words_of}
use Rattle.lrc_store.specs.Store.{StoredRecord, notice_of}
use Rattle.lrc_store.proofs.Orders.{Contains-later}
use Rattle.lrc_copies.specs.Stamps.{stamp_index, StandsBetween}
use Rattle.lrc_copies.proofs.Stamping.{covered-le, le-covered}
use Rattle.lrc_envelope.specs.Envelope.{EnvelopeRecord}
use Rattle.lrc_envelope.specs.Records.{PageReplyRecord}
use Rattle.lrc_envelope.specs.declared.message.Message.TheVariants.{PageReply}
use Rattle.lrc_protocol.specs.Node.{Node}
use Rattle.lrc_protocol.specs.Turn.{TurnRecord}
use Rattle.lrc_protocol.specs.Rules.{TurnRule}
use Rattle.lrc_protocol.specs.Run.{Input}
use Rattle.lrc_reading_laws.specs.Written.{made_stamps, word_on}
use Rattle.lrc_reading_laws.proofs.Collected.CopyReplies.{sends_page}
use Rattle.lrc_reading_laws.proofs.Fitting.Sent.{Asked}
use Rattle.lrc_reading_laws.proofs.Fitting.Worlds.{lost-in}
use Rattle.lrc_reading_laws.proofs.Stamped.Worlds.{TurnBy, alone, again, anew}
use Rattle.lrc_exact.specs.Rule.{Shape, Knowledge, State, known_by_all, collects, is_writer, keeper_of}
use Rattle.lrc_exact_reading.proofs.Staleness.{IsNamedBy, named-from}
use Rattle.lrc_exact_made.specs.Copies.{shape_of, IsExactly}
use Rattle.lrc_exact_made.specs.Steps.{IsAmong}
use Rattle.lrc_exact_collected.proofs.Keepers.{IsFirst, keeper-first}
use Rattle.lrc_exact_collecting.specs.Left.{dropped_by, left_by, left_after}
use Rattle.lrc_exact_collecting.proofs.Leaving.{left_still}
use Rattle.lrc_exact_turns.proofs.Stands.{KnowsMade}

-- ---- what an episode leaves of a page that no interval named

module _ (size : Size) (nodes collect : ℕ) (made : List StoredRecord) (arrived : ℕ → ℕ → Option State) (number page : ℕ)
    (holds : KnowsMade size made (known_by_all nodes nodes (arrived number)))
    (unnamed : (x : StoredRecord)
    → StandsBetween made_stamps made (dropped_by (shape_of nodes size collect) arrived number) (dropped_by (shape_of nodes size collect) arrived (suc number)) x
    → notice_of page x ≡ None) where
  abbrev shape : Shape
  shape = shape_of nodes size collect

  abbrev all : Knowledge
  all = known_by_all nodes nodes (arrived number)

  abbrev gone : List ℕ
  gone = dropped_by shape arrived number

  no_writer : dropped_by shape arrived (suc number) ≡ all.time → (q : ℕ) → is_writer gone all page q ≡ true → ⊥
  no_writer ends q is =
      let by : IsNamedBy (all.interval q) page (entry gone q) (entry all.time q) = named-from (all.interval q) page (entry gone q) (entry all.time q) is in
      let new = by.new in
      let known = by.known in
      let y : IsAmong made q by.index = holds.reach q by.index (omega arith) known in
      let x : StoredRecord = y.interval in
      let y_known : stamp_index made_stamps x ≤ entry all.time x.node =
      subst (λ q. stamp_index made_stamps x ≤ entry all.time q) (sym y.node_is) (subst (λ k. k ≤ entry all.time q) (sym y.index_is) known) in
      let y_new : entry gone x.node < stamp_index made_stamps x =
      subst (λ q. entry gone q < stamp_index made_stamps x) (sym y.node_is) (subst (λ k. entry gone q < k) (sym y.index_is) new) in
      let exact : IsExactly size x (all.interval x.node (stamp_index made_stamps x)) = holds.exactly.each x y.member y_known in
      let named : is_some (notice_of page x) ≡ true =
      sym (exact.names page)
      ∙ ap (λ k. (all.interval x.node k).names page) y.index_is
      ∙ ap (λ q. (all.interval q by.index).names page) y.node_is
      ∙ by.names in
      let between : StandsBetween made_stamps made gone (dropped_by shape arrived (suc number)) x = record {
        member = y.member;
        later = λ c. let less = covered-le made_stamps gone x c in omega arith;
        known = le-covered made_stamps (dropped_by shape arrived (suc number)) x (subst (λ t. stamp_index made_stamps x ≤ entry t x.node) (sym ends) y_known);
      } in
      true≢false (sym named ∙ ap is_some (unnamed x between))

  nobody : dropped_by shape arrived (suc number) ≡ all.time → keeper_of nodes gone all page ≡ nodes
  nobody ends =
      let first : IsFirst gone all page nodes (keeper_of nodes gone all page) = keeper-first gone all page nodes in
      elim (cases_lt (keeper_of nodes gone all page) nodes) [
        | inl less ↦ absurd (no_writer ends (keeper_of nodes gone all page) (first.at less))
        | inr most ↦ let le = first.most in omega arith
      ]

  pub left_unnamed : (offset : ℕ) → offset < words_of size
      → left_by shape arrived number (word_on size page offset) ≡ left_by shape arrived (suc number) (word_on size page offset)
  left_unnamed offset lt = by_collects (collects shape (arrived number)) refl
    where
      before : ℕ → ℕ
      before = left_by shape arrived number

      then_left : Bool → ℕ
      then_left b = if b then left_after shape gone all (arrived number) before (word_on size page offset) else before (word_on size page offset)

      by_collects : (b : Bool) → collects shape (arrived number) ≡ b → before (word_on size page offset) ≡ then_left (collects shape (arrived number))
      by_collects false e = ap then_left (sym e)
      by_collects true e =
          sym (left_still size nodes collect before all (arrived number) gone page offset lt
          (nobody (ap (λ b. if b then all.time else gone) e)))
          ∙ ap then_left (sym e)

-- ---- what is on its way was, or answers a request

front-back : (front back : List EnvelopeRecord) (e x : EnvelopeRecord) → Contains (front ++ back) x → Contains (front ++ e ∷ back) x
front-back front back e x c =
    ⊎_elim (λ (l : Contains front x). Contains-append_left front (e ∷ back) x l)
    (λ (r : Contains back x). Contains-append_right front (e ∷ back) x (Contains-later e back x r))
    (Contains-append_cases front back x c)

pub sent-cases : (node : Node) (was : List EnvelopeRecord) (input : Input) (turn : TurnRecord) (after : Node) (later : List EnvelopeRecord)
    → TurnRule node input turn after → TurnBy node was input turn after later → (e : EnvelopeRecord) (m : PageReplyRecord) → Contains later e
    → e.message ≡ PageReply m → Contains was e ⊎ Asked node was input e.to m
sent-cases node was _ turn after later rule (alone o k is) e m c p =
    ⊎_elim inl
    (λ (sent : Contains turn.out e). absurd (sends_page node _ turn after rule e m sent p))
    (Contains-append_cases was turn.out e (subst (λ l. Contains l e) is c))
sent-cases node was _ _ _ later rule (again request is) e m c p = inl (subst (λ l. Contains l e) is c)
sent-cases node was _ turn after later rule (anew request took k lost) e m c p =
    ⊎_elim
    (λ (old : Contains (lost.front ++ lost.back) e).
    inl (subst (λ l. Contains l e) (sym lost.before) (front-back lost.front lost.back request e old)))
    (λ (sent : Contains turn.out e).
    inr (record {
      request = request;
      pending_was = lost-in request was turn.out later lost;
      came = refl;
      answers = sends_page node _ turn after rule e m sent p;
    }))
    (Contains-append_cases (lost.front ++ lost.back) turn.out e (subst (λ l. Contains l e) lost.after c))
