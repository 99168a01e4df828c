-- One message, one list of bytes that nodes write.
use Rattle.std.proofs.Common.{◌≡◌, ℕ, ◌+◌, ◌<◌, ◌↔◌, Bool, true, false, IsTrue, List, [], ◌∷◌, ◌++◌, length, refl, sym, ap, ap₂, subst, ◌∙◌, arith}
use Rattle.std.specs.Prelude.{◌==◌, ◌&&◌, if◌then◌else◌, Option, Some, None, option_map, Result, Ok, Err, IfOk, filter, map, max, slice_get}
use Rattle.std.specs.Bool.{Decides}
use Rattle.std.proofs.lemmas.Bool.{eq-eqb, eqb-true, and_parts}
use Rattle.lrc_wire.specs.declared.fault.WireFault.{WireFault}
use Rattle.lrc_wire.specs.declared.limits.TheConstants.{MOST_BODY_BYTES}
use Rattle.lrc_wire.specs.declared.version.Version.{Version}
use Rattle.lrc_wire.specs.declared.version.Version.TheVariants.{One, Two}
use Rattle.lrc_envelope.specs.Envelope.{EnvelopeRecord}
use Rattle.lrc_wire.specs.Runs.{runs_of}
use Rattle.lrc_wire.specs.Reading.{envelope_of}
use Rattle.lrc_wire.specs.Spelling.{Spells, ◌·◌, body, byte, bytes_of, header}
use Rattle.lrc_wire.proofs.Bytes.{IsBytes}
use Rattle.lrc_wire.proofs.Envelopes.{envelope_again, envelope_takes, plain}
use Rattle.lrc_post.specs.Mailbox.{MailboxRecord}
use Rattle.lrc_protocol.specs.Run.{EntryRecord, Flying}
use Rattle.lrc_post.specs.declared.parcel.Wire.{Wire}
use Rattle.lrc_post.specs.declared.parcel.Wire.TheVariants.{Put, Took}
use Rattle.lrc_weave.specs.Logs.{sent_to}
use Rattle.lrc_weave.specs.Matched.{AreAlike, bytes_in, bytes_put_by, if_written, is_put_by, message_of, same_bytes, sent_as, written_as}
use Rattle.lrc_weave.specs.Compared.{IsTakenAs}

-- ---- the same bytes

own_bytes : (xs : List ℕ) → same_bytes xs xs ≡ true
own_bytes [] = refl
own_bytes (x ∷ xs) = rw (eq-eqb x x refl, own_bytes xs) refl

bytes_same : (xs ys : List ℕ) → same_bytes xs ys ≡ true → xs ≡ ys
bytes_same [] [] e = refl
bytes_same [] (y ∷ ys) e = let never : ⊥ = cc in absurd never
bytes_same (x ∷ xs) [] e = let never : ⊥ = cc in absurd never
bytes_same (x ∷ xs) (y ∷ ys) e =
    let both = and_parts (x == y) (same_bytes xs ys) e in
    ap₂ (λ (z : ℕ) (zs : List ℕ). z ∷ zs) (eqb-true x y both.0) (bytes_same xs ys both.1)

-- ---- the bytes that nodes write of a message

-- what was read of bytes is what nodes write so, where the bytes are those of the message
were_written : (bytes : List ℕ) (r : Result EnvelopeRecord WireFault) (e : EnvelopeRecord) → if_written bytes r ≡ Some e
    → (r ≡ Ok e) × (bytes ≡ bytes_of e)
were_written bytes (Ok read) e is = let found = go (same_bytes bytes (bytes_of read)) refl is in (ap (λ x. Ok x) found.0, found.1)
  where
    go : (b : Bool) → same_bytes bytes (bytes_of read) ≡ b → (if b then Some read else None) ≡ Some e → (read ≡ e) × (bytes ≡ bytes_of e)
    go true same some =
        let one : read ≡ e = cc in
        (one, bytes_same bytes (bytes_of read) same ∙ ap bytes_of one)
    go false same some = cc
were_written bytes (Err fault) e is = cc

-- bytes are written so, where they are those of a message that is spelled so
pub written_so : (bytes written : List ℕ) (e : EnvelopeRecord) → bytes ≡ written → Spells Two e written → written_as bytes ≡ Some e
written_so bytes written e same said =
    ap written_as same ∙ ap (if_written written) (envelope_again Two written e said)
    ∙ ap (λ b. if b then Some e else None) (ap (λ x. same_bytes x (bytes_of e)) (plain Two e written said).spelled ∙ own_bytes (bytes_of e))

-- of one message nodes write one list of bytes
pub one_writing : (bytes written : List ℕ) (e : EnvelopeRecord) → written_as bytes ≡ Some e → Spells Two e written → bytes ≡ written
one_writing bytes written e is said = (were_written bytes (envelope_of bytes) e is).1 ∙ sym (plain Two e written said).spelled

first_same : (a b : ℕ) (xs ys : List ℕ) → a ∷ xs ≡ b ∷ ys → a ≡ b
first_same a b xs ys e = cc

in_two : (v : Version) (e : EnvelopeRecord) (bytes : List ℕ) → Spells v e bytes → bytes ≡ bytes_of e → Spells Two e bytes
unfolding header byte
in_two One e bytes s same = absurd (omega (arith, first_same 1 2 _ _ (sym (plain One e bytes s).spelled ∙ same)))
in_two Two e bytes s same = s

-- nodes write no message that is too long
pub none_long : (bytes : List ℕ) (e : EnvelopeRecord) → IsBytes bytes → MOST_BODY_BYTES < length (body Two runs_of e.message)
    → written_as bytes ≡ Some e → ⊥
none_long bytes e fits long is =
    let was = were_written bytes (envelope_of bytes) e is in
    let took = envelope_takes bytes e fits was.0 in
    omega (arith, long, (plain Two e bytes (in_two took.0 e bytes took.1 was.1)).short)

-- ---- messages of puts

same_flying : (a b : Flying) → Some a ≡ Some b → a ≡ b
same_flying a b e = cc

flew_as : (stamp : ℕ) (o : Option EnvelopeRecord) (flying : Flying) → option_map (sent_as stamp) o ≡ Some flying
    → (o ≡ Some flying.envelope) × (flying.stamp ≡ stamp)
flew_as stamp (Some e) flying is =
    let same = same_flying (sent_as stamp e) flying is in
    (ap (λ (f : Flying). Some f.envelope) same, sym (ap (λ (f : Flying). f.stamp) same))
flew_as stamp None flying is = cc

-- a put is of a message where its bytes are those of the message
pub put_of : (from to stamp : ℕ) (bytes : List ℕ) (e : EnvelopeRecord)
    → (message_of (Put from to stamp bytes) ≡ Some (sent_as stamp e)) ↔ (written_as bytes ≡ Some e)
put_of from to stamp bytes e = (
  λ is. (flew_as stamp (written_as bytes) (sent_as stamp e) is).0,
  λ is. ap (option_map (sent_as stamp)) is,
)

-- ---- what the post was given

put_bytes : (wire : Wire) (flying : Flying) → message_of wire ≡ Some flying → bytes_in wire ≡ bytes_of flying.envelope
put_bytes (Put from to stamp bytes) flying is =
    (were_written bytes (envelope_of bytes) flying.envelope (flew_as stamp (written_as bytes) flying is).0).1
put_bytes (Took me place) flying is = cc

-- puts that are these messages have their bytes
puts_bytes : (wires : List Wire) (messages : List Flying) → map message_of wires ≡ map Some messages
    → map bytes_in wires ≡ map (λ flying. bytes_of flying.envelope) messages
puts_bytes [] [] same = refl
puts_bytes [] (m ∷ ms) same = cc
puts_bytes (w ∷ ws) [] same = cc
puts_bytes (w ∷ ws) (m ∷ ms) same =
    let first : message_of w ≡ Some m = cc in
    let rest : map message_of ws ≡ map Some ms = cc in
    ap₂ (λ (b : List ℕ) (bs : List (List ℕ)). b ∷ bs) (put_bytes w m first) (puts_bytes ws ms rest)

-- what a node put into a mailbox are the bytes of what its log sends to the owner
pub given_bytes : (logs : List (List EntryRecord)) (wires : List MailboxRecord) → AreAlike logs wires → (owner node : ℕ) (mailbox : MailboxRecord)
    (log : List EntryRecord)
    → slice_get wires owner ≡ Some mailbox → slice_get logs node ≡ Some log
    → bytes_put_by node mailbox.history ≡ map (λ flying. bytes_of flying.envelope) (sent_to owner log)
given_bytes logs wires alike owner node mailbox log at there =
    puts_bytes (filter (is_put_by node) mailbox.history) (sent_to owner log) ((alike.each owner mailbox at).puts node log there)

-- a put is taken where its bytes are those of the message, if the stamp is the right one
pub taken_from : (before stamp sent : ℕ) (e : EnvelopeRecord) (bytes seen : List ℕ) (E : Type 0) (result : Result Bool E) → seen ≡ bytes
    → stamp ≡ max before sent + 1 → IfOk result (λ is. IsTrue is ↔ (written_as seen ≡ Some e))
    → IfOk result (λ is. IsTrue is ↔ IsTakenAs (option_map (sent_as sent) (written_as bytes)) e before stamp)
taken_from before stamp sent e bytes seen E (Ok is) same next so = (
  λ yes. (sent_as sent e, ap (option_map (sent_as sent)) (ap written_as (sym same) ∙ so.0 yes), refl, next),
  λ t. let was = flew_as sent (written_as bytes) t.0 t.1 in so.1 (ap written_as same ∙ was.0 ∙ ap (λ x. Some x) t.2),
)
taken_from before stamp sent e bytes seen E (Err fault) same next so = so
