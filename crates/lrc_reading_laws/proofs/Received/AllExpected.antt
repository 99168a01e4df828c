-- In every run no message is unexpected: each pending one would be accepted by its receiver, and each that was taken is a repeat.
use Rattle.std.proofs.Common.{◌≡◌, ℕ, ◌<◌, ◌≤◌, List, [], Bool, true, false, length, refl, sym, ap, subst, ◌∙◌, ⊎_elim}
use Rattle.std.specs.Prelude.{Option, Some, is_some, ◌==◌, Contains, not, nat_lt, slice_get, slice_index_or, if◌then◌else◌}
use Rattle.std.specs.List.{list_any}
use Rattle.std.proofs.lemmas.Bool.{and_from, cases_lt, eq-eqb, false≢true, lt-ltb}
use Rattle.std.proofs.lemmas.List.{get_or_past}
use Rattle.lrc_program.specs.declared.Program.{Program}
use Rattle.lrc_envelope.specs.Envelope.{EnvelopeRecord}
use Rattle.lrc_envelope.specs.declared.message.Message.{Message}
use Rattle.lrc_envelope.specs.declared.message.Message.TheVariants.{LockRequest, LockForward, LockGrant, Arrive, Depart, Clean, Discard}
use Rattle.lrc_envelope.specs.declared.message.Message.TheVariants.{ChangesRequest, ChangesReply, PageRequest, PageReply}
use Rattle.lrc_copies.proofs.Members.{Contains-filter}
use Rattle.lrc_protocol.specs.declared.event.Event.{Event}
use Rattle.lrc_protocol.specs.Node.{Node, Effect, OptionsRecord}
use Rattle.lrc_protocol.specs.Turn.{done, unexpected, empty_turn, is_addressed, is_repeat, take_turn, turn_or, takes, taking}
use Rattle.lrc_protocol.specs.Follows.{is_expected}
use Rattle.lrc_protocol.specs.Run.{Logged, World, Flying, run_of}
use Rattle.lrc_protocol.specs.Follows.{pending}
use Rattle.lrc_protocol.proofs.Expecting.{never-unexpected, still_expected}
use Rattle.lrc_order_laws.proofs.Addressed.{all_addressed}
use Rattle.lrc_order_laws.proofs.BarrierExpected.{clean_expected, discard_expected}
use Rattle.lrc_order_laws.proofs.LockExpected.{request_expected, forward_expected}
use Rattle.lrc_order_laws.proofs.Numbers.{envelopes_in}
use Rattle.lrc_order_laws.proofs.Pending.{all_pending}
use Rattle.lrc_order_laws.proofs.TakenMessages.{is_taken_by, own-taken, pending-is}
use Rattle.lrc_order_laws.proofs.Reached.{IsReached}
use Rattle.lrc_reading_laws.proofs.Arriving.ArriveLaw.{arrival_expected}
use Rattle.lrc_reading_laws.proofs.Collected.Law.{asked_have_bases}
use Rattle.lrc_reading_laws.proofs.Arriving.DepartNews.{depart_expected}
use Rattle.lrc_reading_laws.proofs.Received.ReceiverWorlds.{in_flight}
use Rattle.lrc_reading_laws.proofs.Asked.Accepted.{changes_reply-accepted, page_reply-accepted}
use Rattle.lrc_reading_laws.proofs.Asked.Bases.{page_request-accepted}
use Rattle.lrc_reading_laws.proofs.Asked.Expected.{asker, changes_request-accepted}
use Rattle.lrc_reading_laws.proofs.Asked.Sound.{all_sound}
use Rattle.lrc_reading_laws.proofs.Stamped.Grants.{get_there, grant_expected}
use Rattle.lrc_reading_laws.proofs.Stamped.Worlds.{Placed, placed}

-- ---- a turn with a message

by_tests : (node : Node) (o : Option Effect) (a b : Bool) → a ≡ true → (b ≡ false → is_some o ≡ true)
    → (if a then (if b then done empty_turn node else turn_or unexpected o) else unexpected) ≡ unexpected → ⊥
by_tests node o true true is h e = cc
by_tests node o true false is h e = never-unexpected o (h refl) e
by_tests node o false b is h e = absurd (false≢true is)

-- a message for a node from one of the nodes that it expects, where it hasn't taken it, is not refused
pub not_refused : (node : Node) (e : EnvelopeRecord) → is_addressed node e ≡ true
    → (is_repeat node e ≡ false → is_expected node e.from e.message ≡ true) → take_turn node e ≡ unexpected → ⊥
not_refused node e to expected =
    by_tests node (takes (taking node e) e.from e.message) (is_addressed node e) (is_repeat node e) to
    (λ new. still_expected node e e.from e.message ∙ expected new)

-- who sent what was taken has a place
taken-within : (taken : List (List ℕ)) (from number : ℕ) → list_any (λ k. k == number) (slice_index_or taken from []) ≡ true → from < length taken
taken-within taken from number e =
    ⊎_elim
    (λ (lt : from < length taken). lt)
    (λ (le : length taken ≤ from).
    absurd (false≢true (ap (λ (ks : List ℕ). list_any (λ k. k == number) ks) (sym (get_or_past taken from [] le)) ∙ e)))
    (cases_lt from (length taken))

-- ---- every run

module _ (program : Program) (nodes : ℕ) (options : OptionsRecord) (events : List Event) (world : World)
    (runs : run_of program nodes options events ≡ Some world) where
  r : IsReached program nodes options world
  r = record { events = events; runs = runs }

  module _ (e : EnvelopeRecord) (l : Logged) (there : Contains (pending world) e) (at : slice_get world.nodes e.to ≡ Some l) where
    place : (k : ℕ) × (slice_get (pending world) k ≡ Some e)
    place = get_there program nodes options (pending world) e there

    by_kind : (message : Message) → e.message ≡ message → is_expected l.node e.from e.message ≡ true
    unfolding r
    by_kind (LockRequest m) is = request_expected program nodes options events world runs place.0 e place.1 l at m is
    by_kind (LockForward m) is = forward_expected program nodes options events world runs place.0 e place.1 l at m is
    by_kind (LockGrant m) is = grant_expected program nodes options events world e m l runs there is at
    by_kind (Arrive m) is = arrival_expected program nodes options events world runs e m l there is at
    by_kind (Depart m) is = depart_expected program nodes options events world e m l runs there is at
    by_kind (Clean episode) is =
        let first : slice_get world.nodes 0 ≡ Some l =
        ap (slice_get world.nodes) (sym ((all_addressed program nodes options events world runs).clean e episode there is).0) ∙ at in
        let sender : (x : Logged) × (slice_get world.nodes e.from ≡ Some x) = asker program nodes options world r e there in
        ap (is_expected l.node e.from) is ∙ clean_expected program nodes options events world runs l sender.0 e episode first there is sender.1
    by_kind (Discard episode) is = ap (is_expected l.node e.from) is ∙ discard_expected program nodes options events world runs l e episode there is at
    by_kind (ChangesRequest m) is = ap (is_expected l.node e.from) is ∙ changes_request-accepted program nodes options world r e m l there is at
    by_kind (ChangesReply m) is = ap (is_expected l.node e.from) is ∙ changes_reply-accepted program nodes options world r e m l there is at
    by_kind (PageRequest page) is =
        ap (is_expected l.node e.from) is
        ∙ page_request-accepted program nodes options world r (asked_have_bases program nodes options world r) e page l there is at
    by_kind (PageReply m) is = ap (is_expected l.node e.from) is ∙ page_reply-accepted program nodes options world r e m l there is at

    -- a pending message is expected
    pub expected : is_expected l.node e.from e.message ≡ true
    expected = by_kind e.message refl

  -- and no message in flight is refused
  pub accepted : (k : ℕ) (f : Flying) (l : Logged) → slice_get world.flight k ≡ Some f → slice_get world.nodes f.envelope.to ≡ Some l
      → take_turn l.node f.envelope ≡ unexpected → ⊥
  unfolding r
  accepted k f l is at = by_test (is_repeat l.node f.envelope) refl
    where
      p : Placed nodes f.envelope.to l.node
      p = placed program nodes options world r f.envelope.to l at

      addressed : f.envelope.from < nodes → is_addressed l.node f.envelope ≡ true
      addressed lt =
          and_from (f.envelope.to == l.node.setting.me) (nat_lt f.envelope.from l.node.setting.nodes)
          (eq-eqb f.envelope.to l.node.setting.me (sym p.me))
          (lt-ltb f.envelope.from l.node.setting.nodes (subst (λ n. f.envelope.from < n) (sym p.count) lt))

      by_test : (b : Bool) → is_repeat l.node f.envelope ≡ b → take_turn l.node f.envelope ≡ unexpected → ⊥
      by_test true again =
          not_refused l.node f.envelope
          (addressed (subst (λ n. f.envelope.from < n) ((all_pending program nodes options events world runs).places f.envelope.to l at)
          (taken-within l.node.mail.taken f.envelope.from f.envelope.number again)))
          (λ new. absurd (false≢true (sym new ∙ again)))
      by_test false new =
          let there : Contains (pending world) f.envelope =
          subst (λ es. Contains es f.envelope) (sym (pending-is world))
          (Contains-filter (λ x. not (is_taken_by world.nodes x)) (envelopes_in world.flight) f.envelope (in_flight world.flight k f is)
          (ap not (own-taken world.nodes f.envelope.to l f.envelope at refl ∙ new))) in
          not_refused l.node f.envelope (addressed ((all_sound program nodes options events world runs).from f.envelope there))
          (λ new. expected f.envelope l there at)
