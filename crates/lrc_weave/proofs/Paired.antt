-- Of logs and mailboxes that tell of the same messages, each message that a log takes is one that a log sends.
use Rattle.std.proofs.Common.{◌≡◌, ℕ, zero, suc, ◌<◌, List, [], ◌∷◌, ◌++◌, length, map, filter, take, refl, sym, ap, ◌∙◌, arith, append-nil, append_assoc}
use Rattle.std.specs.Prelude.{Option, Some, None, ◌==◌, slice_get, filter_map}
use Rattle.std.proofs.lemmas.Bool.{eq-eqb, eqb-true}
use Rattle.std.proofs.lemmas.Option.{slice_get-get_or}
use Rattle.lrc_envelope.specs.Envelope.{EnvelopeRecord}
use Rattle.lrc_post.specs.declared.parcel.Wire.{Wire}
use Rattle.lrc_post.specs.declared.parcel.Wire.TheVariants.{Put, Took}
use Rattle.lrc_post.specs.Mailbox.{MailboxRecord}
use Rattle.lrc_protocol.specs.Run.{Input, run, taken, EntryRecord, next_stamp, Flying, sent_by}
use Rattle.lrc_weave.specs.Logs.{all_sent, sent_to}
use Rattle.lrc_weave.specs.Matched.{message_of, is_put_by, puts_by, place_taken, message_if, message_at, Takes}
use Rattle.lrc_weave.specs.Matched.{takes_none, takes_not, takes_one, IsAlike, AreAlike}
use Rattle.lrc_weave.specs.Sent.{IsSent, AreTakesSent}
use Rattle.lrc_protocol.specs.Follows.{log_of}
use Rattle.lrc_weave.proofs.Places.{within_outer}
use Rattle.lrc_weave.proofs.Members.{IsIn, in_filter, of_filter, in_map, of_map, of_flat}

not_taken : (input : Input) (envelope : EnvelopeRecord) → input ≡ run → input ≡ taken envelope → ⊥
not_taken input envelope a b = cc

-- the message that an entry takes
takes_at : {before log : List EntryRecord} {messages : List (Option Flying)} → Takes before log messages
    → (k : ℕ) (entry : EntryRecord) (envelope : EnvelopeRecord) → slice_get log k ≡ Some entry → entry.input ≡ taken envelope
    → (flying : Flying) × IsIn (Some flying) messages × (flying.envelope ≡ envelope) × (entry.stamp ≡ next_stamp (before ++ take k log) flying.stamp)
takes_at takes_none k entry envelope at is = cc
takes_at (takes_not {entry = e} i rest) zero entry envelope at is =
    let same : e ≡ entry = cc in absurd (not_taken e.input envelope i (ap (λ (x : EntryRecord). x.input) same ∙ is))
takes_at {before} (takes_not {log = log} {entry = e} i rest) (suc k) entry envelope at is =
    let found = takes_at rest k entry envelope at is in
    (found.0, found.1, found.2, found.3 ∙ ap (λ b. next_stamp b found.0.stamp) (append_assoc before (e ∷ []) (take k log)))
takes_at {before} (takes_one {entry = e} {flying = flying} i s rest) zero entry envelope at is =
    let same : e ≡ entry = cc in
    let both : taken flying.envelope ≡ taken envelope = sym i ∙ ap (λ (x : EntryRecord). x.input) same ∙ is in
    (flying, (0, refl), cc, ap (λ (x : EntryRecord). x.stamp) (sym same) ∙ s ∙ ap (λ b. next_stamp b flying.stamp) (sym (append-nil before)))
takes_at {before} (takes_one {log = log} {entry = e} i s rest) (suc k) entry envelope at is =
    let found = takes_at rest k entry envelope at is in
    (found.0, (suc found.1.0, found.1.1), found.2, found.3 ∙ ap (λ b. next_stamp b found.0.stamp) (append_assoc before (e ∷ []) (take k log)))

-- a message in a history was put by some node
put_by_some : (history : List Wire) (flying : Flying) (place : ℕ) (wire : Wire) → slice_get history place ≡ Some wire → message_of wire ≡ Some flying
    → (from to stamp : ℕ) × (bytes : List ℕ) × (slice_get history place ≡ Some (Put from to stamp bytes)) × IsIn (Some flying) (puts_by from history)
put_by_some history flying place (Put from to stamp bytes) at is =
    let put = in_filter (is_put_by from) history (Put from to stamp bytes) place at (eq-eqb from from refl) in
    (from, to, stamp, bytes, at, (put.0, in_map message_of (filter (is_put_by from) history) (Put from to stamp bytes) put.0 put.1 ∙ ap Some is))
put_by_some history flying place (Took me p) at is = cc

put_at : (history : List Wire) (flying : Flying) (place : ℕ) (o : Option Wire) → slice_get history place ≡ o → message_if o ≡ Some flying
    → (from to stamp : ℕ) × (bytes : List ℕ) × (slice_get history place ≡ Some (Put from to stamp bytes)) × IsIn (Some flying) (puts_by from history)
put_at history flying place None at is = cc
put_at history flying place (Some wire) at is = put_by_some history flying place wire at is

of_some : (xs : List Flying) (x : Flying) (place : ℕ) → slice_get (map Some xs) place ≡ Some (Some x) → IsIn x xs
of_some xs x place at =
    let from = of_map Some xs (Some x) place at in
    let same : from.0 ≡ x = (let e : Some from.0 ≡ Some x = from.2 in cc) in
    (place, from.1 ∙ ap Some same)

-- what an entry takes was sent by a turn of some log
paired : (logs : List (List EntryRecord)) (wires : List MailboxRecord) → AreAlike logs wires → length wires ≡ length logs
    → (n k : ℕ) (entry : EntryRecord) (envelope : EnvelopeRecord) → slice_get (log_of logs n) k ≡ Some entry → entry.input ≡ taken envelope
    → (flying : Flying) × (flying.envelope ≡ envelope) × IsSent logs n (take k (log_of logs n)) entry flying
paired logs wires are same_count n k entry envelope at is =
    let within : n < length logs = within_outer logs n k entry at in
    let mailbox : (m : MailboxRecord) × (slice_get wires n ≡ Some m) = there_is wires n (omega (arith, within, same_count)) in
    let alike : IsAlike logs n mailbox.0.history = are.each n mailbox.0 mailbox.1 in
    let found = takes_at (alike.takes (log_of logs n) (slice_get-get_or logs n [] within)) k entry envelope at is in
    let flying = found.0 in
    let from_place = of_map (message_at mailbox.0.history) (filter_map place_taken mailbox.0.history) (Some flying) found.1.0 found.1.1 in
    let put = put_at mailbox.0.history flying from_place.0 (slice_get mailbox.0.history from_place.0) refl from_place.2 in
    let sender = put.0 in
    let sender_in : sender < length logs = alike.by_nodes from_place.0 sender put.1 put.2 put.3 put.4 in
    let in_log : IsIn flying (sent_to n (log_of logs sender)) =
    of_some (sent_to n (log_of logs sender)) flying put.5.0
    (ap (λ xs. slice_get xs put.5.0) (sym (alike.puts sender (log_of logs sender) (slice_get-get_or logs sender [] sender_in))) ∙ put.5.1) in
    let for_n = of_filter (λ (f : Flying). f.envelope.to == n) (all_sent (log_of logs sender)) flying in_log.0 in_log.1 in
    let turn = of_flat sent_by (log_of logs sender) flying for_n.0.0 for_n.0.1 in (
      flying,
      found.2,
      record {
        receiver = eqb-true flying.envelope.to n for_n.1;
        stamp = found.3;
        sender = sender;
        place = turn.1;
        turn = turn.0;
        there = turn.2;
        sent = turn.3;
      },
    )
  where
    there_is : {X : Type 0} (xs : List X) (i : ℕ) → i < length xs → (x : X) × (slice_get xs i ≡ Some x)
    there_is [] i lt = absurd (omega (arith, lt))
    there_is (x ∷ xs) zero lt = (x, refl)
    there_is (x ∷ xs) (suc i) lt = there_is xs i (omega (arith, lt))

-- so what all take was sent
pub sent_where_alike : (logs : List (List EntryRecord)) (wires : List MailboxRecord) → AreAlike logs wires → length wires ≡ length logs → AreTakesSent logs
sent_where_alike logs wires alike count = record { each = paired logs wires alike count }
