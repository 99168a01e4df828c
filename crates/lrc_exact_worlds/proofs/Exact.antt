-- What holds in every history: the nodes stand beside the states of the acts. And what one more act makes of the states.
use Rattle.std.proofs.Common.{◌≡◌, ℕ, ◌+◌, ◌≤◌, ◌⊎◌, List, [], ◌∷◌, ◌++◌, false, length, inl, inr, refl, sym, ap, subst, ◌∙◌, arith}
use Rattle.std.specs.Prelude.{Some, Contains, slice_get, slice_set}
use Rattle.std.proofs.lemmas.Bool.{cases_eq}
use Rattle.std.proofs.lemmas.List.{length_push}
use Rattle.std.proofs.lemmas.Option.{same_Some}
use Rattle.lrc_trace.specs.declared.act.Act.{Act}
use Rattle.lrc_trace.specs.declared.act.Deed.{Deed}
use Rattle.lrc_trace.specs.declared.act.Deed.TheVariants.{Read, Depart}
use Rattle.lrc_trace.specs.Run.{Does, is_depart}
use Rattle.lrc_trace.proofs.Positions.{Does-last, slice_get-seam}
use Rattle.lrc_store.specs.Interval.{IntervalRecord}
use Rattle.lrc_store.specs.Store.{StoredRecord}
use Rattle.lrc_envelope.specs.Envelope.{EnvelopeRecord}
use Rattle.lrc_envelope.specs.Records.{PageReplyRecord}
use Rattle.lrc_envelope.specs.declared.message.Message.{Message}
use Rattle.lrc_envelope.specs.declared.message.Message.TheVariants.{LockRequest, LockForward, LockGrant, Arrive as Arrive_message, Depart as Depart_message}
use Rattle.lrc_envelope.specs.declared.message.Message.TheVariants.{Clean, Discard, ChangesRequest, ChangesReply, PageRequest, PageReply}
use Rattle.lrc_protocol.specs.Node.{OptionsRecord}
use Rattle.lrc_protocol.specs.Run.{Logged}
use Rattle.lrc_protocol.proofs.Worlds.{get_set_same, get_set_other}
use Rattle.lrc_node_laws.proofs.Turning.{news_in}
use Rattle.lrc_reading_laws.specs.Made.{AllMade, intervals_in}
use Rattle.lrc_exact.specs.LocalRule.{state_before, state_after}
use Rattle.lrc_exact.specs.Rule.{Shape, State, exact_rule, exact_value, KeepsExact}
use Rattle.lrc_exact.proofs.LocalRules.{before-same, prefix-alike}
use Rattle.lrc_exact_reading.proofs.Departing.{next-own, next-other}
use Rattle.lrc_exact_made.specs.Copies.{shape_of}
use Rattle.lrc_exact_collecting.specs.Left.{dropped_by}
use Rattle.lrc_exact_turns.proofs.Stands.{IsLeft, StandsAt, KnowsMade, arrived_in, number_of, left_at}

-- The nodes stand beside the states of the acts, and the reads give what these have.
pub record AreExactOf (nodes : ℕ) (options : OptionsRecord) (made : List StoredRecord) (logged : List Logged) (flying : List EnvelopeRecord) (acts : List Act)
    : Type 0 where
  pub states : List State
  pub keeps : KeepsExact (shape_of nodes options.size options.collect) acts states
  pub reads : (j node word value : ℕ) → Does acts j node (Read word value)
      → value ≡ exact_value (shape_of nodes options.size options.collect) acts states node j word
  pub holds : (j : ℕ) (s : State) → slice_get states j ≡ Some s → KnowsMade options.size made s.knows
  pub dropped : (n : ℕ) (l : Logged) → slice_get logged n ≡ Some l
      → (state_before (exact_rule (shape_of nodes options.size options.collect)) acts states n (length acts)).dropped
      ≡ dropped_by (shape_of nodes options.size options.collect) (arrived_in acts states) (number_of acts n)
  pub stands : (n : ℕ) (l : Logged) → slice_get logged n ≡ Some l
      → StandsAt options.size nodes options.collect acts states made (number_of acts n) n l.node.locks.time l.node.mail.wait l.node.memory
      (state_before (exact_rule (shape_of nodes options.size options.collect)) acts states n (length acts))
  -- a base copy on its way has what the last collection left of its receiver
  pub sent : (e : EnvelopeRecord) (m : PageReplyRecord) (l : Logged) → Contains flying e → e.message ≡ PageReply m → slice_get logged e.to ≡ Some l
      → IsLeft options.size (left_at (shape_of nodes options.size options.collect) acts states (number_of acts e.to)) m.page m.values

-- what holds of the node that made a turn, and of all other nodes before, holds of all after
pub each_other : (P : ℕ → Logged → Type 0) (logged : List Logged) (n : ℕ) (l after : Logged) → slice_get logged n ≡ Some l → P n after
    → ((q : ℕ) (lq : Logged) → (n ≡ q → ⊥) → slice_get logged q ≡ Some lq → P q lq)
    → (q : ℕ) (lq : Logged) → slice_get (slice_set logged n after) q ≡ Some lq → P q lq
each_other P logged n l after at here others q lq is = elim (cases_eq n q) [
  | inl e ↦
      let same : after ≡ lq = same_Some after lq (sym (get_set_same logged n l after at) ∙ ap (slice_get (slice_set logged n after)) e ∙ is) in
      subst (λ k. P k lq) e (subst (P n) same here)
  | inr ne ↦ others q lq ne (sym (get_set_other logged n q after ne) ∙ is)
]

-- what is learned with a message is what it tells
pub news-made : (made : List IntervalRecord) (message : Message) → AllMade made (intervals_in message) → AllMade made (news_in message)
news-made made (LockGrant m) h = h
news-made made (Depart_message m) h = h
news-made made (LockRequest m) h = tt
news-made made (LockForward m) h = tt
news-made made (Arrive_message m) h = tt
news-made made (Clean episode) h = tt
news-made made (Discard episode) h = tt
news-made made (ChangesRequest m) h = tt
news-made made (ChangesReply m) h = tt
news-made made (PageRequest page) h = tt
news-made made (PageReply m) h = tt

pub deed_cases : (d : Deed) → (d ≡ Depart) ⊎ (is_depart d ≡ false)
deed_cases Depart = inl refl
deed_cases d = inr refl

-- ---- one act more

module _ (shape : Shape) (acts : List Act) (states : List State) (act : Act) (state : State) (stated : length states ≡ length acts) where
  abbrev acts' : List Act
  acts' = acts ++ act ∷ []

  abbrev states' : List State
  states' = states ++ state ∷ []

  pub still_before : (node j : ℕ) → j ≤ length acts → state_before (exact_rule shape) acts' states' node j ≡ state_before (exact_rule shape) acts states node j
  still_before node j le =
      before-same (exact_rule shape) acts' acts states' states j (prefix-alike acts (act ∷ []) states (state ∷ []) stated j le) node

  module _ (kept : KeepsExact shape acts' states') where
    last_is : length acts' ≡ length acts + 1
    last_is = length_push acts act

    pub own_then : (s : State) → slice_get states' (length acts) ≡ Some s
        → state_before (exact_rule shape) acts' states' act.node (length acts') ≡ s
    own_then s is =
        ap (λ k. state_before (exact_rule shape) acts' states' act.node k) last_is
        ∙ next-own shape acts' states' kept (length acts) act.node act.deed (Does-last acts act)
        ∙ same_Some (state_after (exact_rule shape) acts' states' (length acts) act.node act.deed) s
        (sym (kept.follows (length acts) act.node act.deed (Does-last acts act)) ∙ is)

    pub other_then : (node : ℕ) → (act.node ≡ node → ⊥)
        → state_before (exact_rule shape) acts' states' node (length acts') ≡ state_before (exact_rule shape) acts states node (length acts)
    other_then node ne =
        ap (λ k. state_before (exact_rule shape) acts' states' node k) last_is
        ∙ next-other shape acts' states' kept (length acts) node act.node act.deed (Does-last acts act) ne
        ∙ still_before node (length acts) (omega arith)

  pub seam_is : slice_get states' (length acts) ≡ Some state
  seam_is = ap (λ k. slice_get states' k) (sym stated) ∙ slice_get-seam states state []
