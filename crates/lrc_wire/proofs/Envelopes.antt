-- Reading all of the bytes agrees with how envelopes are spelled.
use Rattle.std.proofs.Common.{◌≡◌, ◌∙◌, ℕ, ◌+◌, ◌-◌, ◌<◌, ◌≤◌, Bool, true, false, cond, eqb, ltb, leb, List, [], ◌∷◌, ◌++◌, length}
use Rattle.std.proofs.Common.{take, Option, Some, None, Ok, Err, refl, sym, ap, subst, append_assoc, arith, inl, inr}
use Rattle.std.specs.Prelude.{ok_or, All}
use Rattle.std.specs.Int.{w16, w32}
use Rattle.std.specs.List.{flat_map}
use Rattle.std.proofs.lemmas.Bool.{eqb-true, ltb-false, lt-ltb, le-ltb, cases_lt, leb-true, le-leb}
use Rattle.std.proofs.lemmas.Bool.Decides.{eqb_tells}
use Rattle.std.proofs.Math.Seq.{take-append-add}
use Rattle.std.proofs.lemmas.List.{append-nil, nil_from_length, length-append, length-take, length-take-le, take_at}
use Rattle.std.proofs.lemmas.List.Concat.{flat_map-cons}
use Rattle.std.proofs.lemmas.List.Elements.{All-head, All-tail}
use Rattle.lrc_envelope.specs.declared.limits.TheConstants.{MOST_NODES}
use Rattle.lrc_wire.specs.declared.limits.TheConstants.{MOST_BODY_BYTES, HEADER_BYTES}
use Rattle.lrc_wire.specs.declared.version.Version.{Version}
use Rattle.lrc_wire.specs.declared.version.Version.TheVariants.{One, Two}
use Rattle.lrc_wire.specs.declared.kind.MessageKind.{MessageKind}
use Rattle.lrc_wire.specs.declared.kind.MessageKind.TheVariants as kinds
use Rattle.lrc_wire.specs.declared.fault.WireFault.{WireFault}
use Rattle.lrc_wire.specs.declared.fault.WireFault.TheVariants.{Short, Long, BadVersion, BadKind, BadCount}
use Rattle.lrc_envelope.specs.declared.message.Message.{Message}
use Rattle.lrc_envelope.specs.declared.message.Message.TheVariants.{LockRequest, LockForward, LockGrant, Arrive, Depart, Clean, Discard}
use Rattle.lrc_envelope.specs.declared.message.Message.TheVariants.{ChangesRequest, ChangesReply, PageRequest, PageReply}
use Rattle.lrc_wire.specs.Versions.{version_number, version_of}
use Rattle.lrc_envelope.specs.Records.{IndexedChangesRecord}
use Rattle.lrc_envelope.specs.Envelope.{EnvelopeRecord}
use Rattle.lrc_wire.specs.Ranges.{HasBits, FitPart, IsMessage, IsFit}
use Rattle.lrc_wire.specs.Runs.{runs_of}
use Rattle.lrc_wire.specs.Spelling.{byte, number, kind, part, parts, body, header, Cut, IsMaximalCut, Spells}
use Rattle.lrc_wire.specs.Reading.{◌>>=◌, Field, HeaderRecord, byte_at, number_at, tested, version_at}
use Rattle.lrc_wire.specs.Kinds.{message_kind}
use Rattle.lrc_wire.specs.Reading.{kind_of, kind_at, header_at, body_at, whole_body_of, envelope_of}
use Rattle.lrc_wire.proofs.Bytes.{IsBytes, Takes}
use Rattle.lrc_wire.proofs.Steps.{bind_ok, guard_ok, unless_ok, ok_is}
use Rattle.lrc_wire.proofs.Agrees.{Agrees, Agrees-as, Agrees-tested, step, byte_agrees, number32_agrees}
use Rattle.lrc_wire.proofs.Sequences.{whole, then_fields, last_field}
use Rattle.lrc_wire.proofs.Fields.{node_agrees}
use Rattle.lrc_wire.proofs.Bodies.{kind_of-kind, body_agrees}
use Rattle.lrc_wire.proofs.Runs.{runs_of-are, runs_are}

-- ---- kinds

-- the number of a kind
numbered : MessageKind → ℕ
numbered kinds.LockRequest = 1
numbered kinds.LockForward = 2
numbered kinds.LockGrant = 3
numbered kinds.Arrive = 4
numbered kinds.Depart = 5
numbered kinds.Clean = 6
numbered kinds.Discard = 7
numbered kinds.ChangesRequest = 8
numbered kinds.ChangesReply = 9
numbered kinds.PageRequest = 10
numbered kinds.PageReply = 11

by_number : (n : ℕ) (x k : MessageKind) {y : Option MessageKind} → cond (eqb n (numbered x)) (Some x) y ≡ Some k → (y ≡ Some k → n ≡ numbered k) → n ≡ numbered k
by_number n x k {y} e other = by_test (eqb n (numbered x)) refl e
  where
    by_test : (b : Bool) → eqb n (numbered x) ≡ b → cond b (Some x) y ≡ Some k → n ≡ numbered k
    by_test true is e = let same : x ≡ k = cc in eqb-true n (numbered x) is ∙ ap numbered same
    by_test false is e = other e

kind_numbered : (n : ℕ) (k : MessageKind) → kind_of n ≡ Some k → n ≡ numbered k
unfolding numbered
kind_numbered n k e =
    by_number n kinds.LockRequest k e (λ e. by_number n kinds.LockForward k e (λ e. by_number n kinds.LockGrant k e (λ e.
    by_number n kinds.Arrive k e (λ e. by_number n kinds.Depart k e (λ e. by_number n kinds.Clean k e (λ e.
    by_number n kinds.Discard k e (λ e. by_number n kinds.ChangesRequest k e (λ e. by_number n kinds.ChangesReply k e (λ e.
    by_number n kinds.PageRequest k e (λ e. by_number n kinds.PageReply k e (λ e. absurd cc)))))))))))

kind_of-numbered : (k : MessageKind) → kind_of (numbered k) ≡ Some k
unfolding numbered
kind_of-numbered kinds.LockRequest = refl
kind_of-numbered kinds.LockForward = refl
kind_of-numbered kinds.LockGrant = refl
kind_of-numbered kinds.Arrive = refl
kind_of-numbered kinds.Depart = refl
kind_of-numbered kinds.Clean = refl
kind_of-numbered kinds.Discard = refl
kind_of-numbered kinds.ChangesRequest = refl
kind_of-numbered kinds.ChangesReply = refl
kind_of-numbered kinds.PageRequest = refl
kind_of-numbered kinds.PageReply = refl

kind_is : (message : Message) → kind message ≡ numbered (message_kind message)
kind_is message = kind_numbered (kind message) (message_kind message) (kind_of-kind message)

-- a byte that is the code of a value
code_named : {K : Type 0} (o : Option K) (fault : WireFault) (k : K) → ok_or o fault ≡ Ok k → o ≡ Some k
code_named (Some x) fault k e = cc
code_named None fault k e = absurd cc

abbrev coded_at : {K : Type 0} → (ℕ → Option K) → WireFault → List ℕ → Field K
coded_at of fault bytes = do
  n ← byte_at bytes
  k ← ok_or (of n.0) fault
  Ok (k, n.1)

coded_again : {K : Type 0} (of : ℕ → Option K) (code : K → ℕ) (fault : WireFault) → ((k : K) → of (code k) ≡ Some k) → (k : K) (rest : List ℕ)
    → coded_at of fault (byte (code k) ++ rest) ≡ Ok (k, rest)
unfolding byte byte_at
coded_again of code fault again k rest = let is = again k in rw is refl

coded_agrees : {K : Type 0} (of : ℕ → Option K) (code : K → ℕ) (fault : WireFault) → ((n : ℕ) (k : K) → of n ≡ Some k → n ≡ code k)
    → ((k : K) → of (code k) ≡ Some k)
    → Agrees (coded_at of fault) (λ k. byte (code k)) (λ k. Unit {0})
coded_agrees {K} of code fault is again = record {
  takes = λ bytes k rest fits e.
      let a = step byte_at byte (HasBits 8) byte_agrees bytes (λ n. ok_or (of n.0) fault >>= λ k. Ok (k, n.1)) (k, rest) fits e in
      let b = bind_ok (ok_or (of a.value) fault) (λ k. Ok (k, a.rest)) (k, rest) a.then in
      let same : a.value ≡ code b.0 = is a.value b.0 (code_named (of a.value) fault b.0 b.1) in
      subst (λ (y : K × List ℕ). Takes bytes (byte (code y.0)) y.1 × Unit {0}) (ok_is (b.0, a.rest) (k, rest) b.2)
      (subst (λ (n : ℕ). Takes bytes (byte n) a.rest) same a.took, tt);
  again = λ k rest h. coded_again of code fault again k rest;
}

kind_agrees : Agrees kind_at (λ k. byte (numbered k)) (λ k. Unit {0})
unfolding kind_at
kind_agrees = coded_agrees kind_of numbered BadKind kind_numbered kind_of-numbered

abbrev here : {A : Type 0} → A → Option A
here x = Some x

same_version : (v w : Version) → here v ≡ here w → v ≡ w
same_version v w e = cc

-- ---- headers

version_is : (n : ℕ) (v : Version) → version_of n ≡ Some v → n ≡ version_number v
version_is n v e =
    elim (eqb_tells n 1) [
      | inl p ↦ p.1 ∙ ap version_number (same_version One v (rw p.0 at e))
      | inr p ↦ elim (eqb_tells n 2) [
        | inl q ↦ q.1 ∙ ap version_number (same_version Two v (rw (p.0, q.0) at e))
        | inr q ↦ let none = rw (p.0, q.0) at e in
            absurd cc
      ]
    ]

version_of-number : (v : Version) → version_of (version_number v) ≡ Some v
version_of-number One = refl
version_of-number Two = refl

version_agrees : Agrees version_at (λ v. byte (version_number v)) (λ v. Unit {0})
unfolding version_at
version_agrees = coded_agrees version_of version_number BadVersion version_is version_of-number

body_len_agrees : Agrees (λ bytes. tested (λ n. leb n MOST_BODY_BYTES) BadCount (number_at w32 bytes)) (number w32) (λ n. n ≤ MOST_BODY_BYTES)
body_len_agrees =
    Agrees-as _ (number w32) (λ n. HasBits 32 n
    × (leb n MOST_BODY_BYTES ≡ true)) (λ n. n ≤ MOST_BODY_BYTES) (λ n h. leb-true n MOST_BODY_BYTES h.1)
    (λ n le. (omega arith, le-leb n MOST_BODY_BYTES le))
    (Agrees-tested (number_at w32) (number w32) (HasBits 32) (λ n. leb n MOST_BODY_BYTES) BadCount number32_agrees)

abbrev spelled_header : HeaderRecord → List ℕ
spelled_header h = byte (version_number h.version)
    ++ (byte (numbered h.kind) ++ (byte h.from ++ (byte h.to ++ (number w32 h.number ++ (number w32 h.body_len)))))

pub record IsHeader (h : HeaderRecord) : Type 0 where
  pub from : h.from < MOST_NODES
  pub to : h.to < MOST_NODES
  pub number : HasBits 32 h.number
  pub body_len : h.body_len ≤ MOST_BODY_BYTES

abbrev header_fields : HeaderRecord → Version × (MessageKind × (ℕ × (ℕ × (ℕ × ℕ))))
header_fields h = (h.version, (h.kind, (h.from, (h.to, (h.number, h.body_len)))))

abbrev FitFields : HeaderRecord → Type 0
FitFields h = Unit {0} × (Unit {0} × ((h.from < MOST_NODES) × ((h.to < MOST_NODES) × (HasBits 32 h.number × (h.body_len ≤ MOST_BODY_BYTES)))))

header_agrees : Agrees header_at spelled_header IsHeader
unfolding header_at
header_agrees =
    Agrees-as header_at spelled_header FitFields IsHeader
    (λ h f. record { from = f.1.1.0; to = f.1.1.1.0; number = f.1.1.1.1.0; body_len = f.1.1.1.1.1 })
    (λ h is. (tt, (tt, (is.from, (is.to, (is.number, is.body_len))))))
    (whole header_fields (λ r _. refl) (λ h. refl)
    (then_fields version_agrees (λ v _. then_fields kind_agrees (λ k _. then_fields node_agrees (λ f _. then_fields node_agrees (λ t _.
    then_fields number32_agrees (λ n _.
    last_field (λ len. record { version = v; kind = k; from = f; to = t; number = n; body_len = len }) body_len_agrees)))))))

header_long : (v : Version) (e : EnvelopeRecord) → length (header v runs_of e) ≡ HEADER_BYTES
unfolding header byte number
header_long v e = refl

-- what the header of an envelope says
abbrev header_of : Version → EnvelopeRecord → HeaderRecord
header_of v e = record { version = v; kind = message_kind e.message; from = e.from; to = e.to; number = e.number; body_len = length (body v runs_of e.message) }

header_is : (v : Version) (e : EnvelopeRecord) → header v runs_of e ≡ spelled_header (header_of v e)
unfolding header
header_is v e = ap (λ (n : ℕ). byte (version_number v)
    ++ (byte n ++ (byte e.from ++ (byte e.to ++ (number w32 e.number ++ number w32 (length (body v runs_of e.message))))))) (kind_is e.message)

is_header : (v : Version) (e : EnvelopeRecord) → IsFit v e → length (body v runs_of e.message) ≤ MOST_BODY_BYTES → IsHeader (header_of v e)
is_header v e fits short = record { from = fits.ends.from; to = fits.ends.to; number = fits.number; body_len = short }

-- ---- every cut is the one that the function makes

same_parts : (cut : Cut) → IsMaximalCut cut → (v : Version) (ps : List IndexedChangesRecord) → All (FitPart v) ps
    → flat_map (part Two cut) ps ≡ flat_map (part Two runs_of) ps
unfolding part
same_parts cut cuts v [] each = refl
same_parts cut cuts v (p ∷ ps) each =
    let first = All-head (FitPart v) p ps each in
    let same : cut p.changes ≡ runs_of p.changes = runs_are p.changes (cut p.changes) (cuts p.changes first.is.ascending) in
    let others = same_parts cut cuts v ps (All-tail (FitPart v) p ps each) in
    rw (flat_map-cons, flat_map-cons, same, others) refl

pub same_body : (cut : Cut) → IsMaximalCut cut → (v : Version) (m : Message) → IsMessage v m → body v cut m ≡ body v runs_of m
unfolding parts part
same_body cut cuts v (LockRequest m) h = refl
same_body cut cuts v (LockForward m) h = refl
same_body cut cuts v (LockGrant m) h = refl
same_body cut cuts v (Arrive m) h = refl
same_body cut cuts v (Depart m) h = refl
same_body cut cuts v (Clean episode) h = refl
same_body cut cuts v (Discard episode) h = refl
same_body cut cuts v (ChangesRequest m) h = refl
same_body cut cuts One (ChangesReply m) h = refl
same_body cut cuts Two (ChangesReply m) h =
    ap (λ (t : List ℕ). number w16 m.page ++ (number w32 (length m.parts) ++ t)) (same_parts cut cuts Two m.parts h.1.each)
same_body cut cuts v (PageRequest page) h = refl
same_body cut cuts v (PageReply m) h = refl

same_header_text : (cut : Cut) (v : Version) (e : EnvelopeRecord) → body v cut e.message ≡ body v runs_of e.message → header v cut e ≡ header v runs_of e
unfolding header
same_header_text cut v e same = rw same refl

-- a spelling, cut by the function
pub record Plain (v : Version) (e : EnvelopeRecord) (bytes : List ℕ) : Type 0 where
  pub fits : IsFit v e
  pub short : length (body v runs_of e.message) ≤ MOST_BODY_BYTES
  pub spelled : bytes ≡ header v runs_of e ++ body v runs_of e.message

pub plain : (v : Version) (e : EnvelopeRecord) (bytes : List ℕ) → Spells v e bytes → Plain v e bytes
plain v e bytes h =
    let same = same_body h.cut h.cuts v e.message h.fits.message in
    record {
      fits = h.fits;
      short = omega (arith, h.short, ap length same);
      spelled = h.spelled ∙ ap (λ (t : List ℕ). t ++ body v h.cut e.message) (same_header_text h.cut v e same)
          ∙ ap (λ (t : List ℕ). header v runs_of e ++ t) same;
    }

pub spells : (v : Version) (e : EnvelopeRecord) (bytes : List ℕ) → Plain v e bytes → Spells v e bytes
spells v e bytes h = record { fits = h.fits; cut = runs_of; cuts = runs_of-are; short = h.short; spelled = h.spelled }

-- ---- bodies of a stated length

whole_body_takes : (v : Version) (k : MessageKind) (len : ℕ) (bytes : List ℕ) (message : Message) → IsBytes bytes → whole_body_of v k len bytes ≡ Ok message
    → (bytes ≡ body v runs_of message) × (length bytes ≡ len) × IsMessage v message × (message_kind message ≡ k)
unfolding whole_body_of
whole_body_takes v k len bytes message fits e =
    let a = unless_ok (ltb (length bytes) len) Short
    (cond (ltb len (length bytes)) (Err Long) (body_at v k bytes >>= λ m. cond (eqb (length m.1) 0) (Ok m.0) (Err Long))) message e in
    let b = unless_ok (ltb len (length bytes)) Long (body_at v k bytes >>= λ m. cond (eqb (length m.1) 0) (Ok m.0) (Err Long)) message a.1 in
    let long : length bytes ≡ len = omega (arith, ltb-false (length bytes) len a.0, ltb-false len (length bytes) b.0) in
    let c = step (body_at v k) (body v runs_of) (λ message. IsMessage v message
    × (message_kind message ≡ k)) (body_agrees v k) bytes (λ m. cond (eqb (length m.1) 0) (Ok m.0) (Err Long)) message fits b.1 in
    let g = guard_ok (eqb (length c.rest) 0) Long c.value message c.then in
    let nothing : c.rest ≡ [] = nil_from_length c.rest (eqb-true (length c.rest) 0 g.0) in
    let all : bytes ≡ body v runs_of c.value = c.took.parts ∙ ap (λ (rest : List ℕ). body v runs_of c.value ++ rest) nothing
    ∙ append-nil (body v runs_of c.value) in
    subst (λ (m : Message). (bytes ≡ body v runs_of m) × (length bytes ≡ len) × IsMessage v m × (message_kind m ≡ k)) g.1 (all, long, c.fits.0, c.fits.1)

whole_body_again : (v : Version) (message : Message) → IsMessage v message
    → whole_body_of v (message_kind message) (length (body v runs_of message)) (body v runs_of message) ≡ Ok message
unfolding whole_body_of
whole_body_again v message fits =
    let b : List ℕ = body v runs_of message in
    let same : ltb (length b) (length b) ≡ false = le-ltb (length b) (length b) (omega arith) in
    let read : body_at v (message_kind message) b ≡ Ok (message, []) = ap (body_at v (message_kind message)) (sym (append-nil b))
    ∙ (body_agrees v (message_kind message)).again message [] (fits, refl) in
    rw (same, read) refl

-- ---- all of the bytes

abbrev header_with : HeaderRecord → MessageKind → ℕ → HeaderRecord
header_with h k len = record { version = h.version; kind = k; from = h.from; to = h.to; number = h.number; body_len = len }

same_header : (h : HeaderRecord) (k : MessageKind) (len : ℕ) → k ≡ h.kind → len ≡ h.body_len → header_with h k len ≡ h
same_header h k len ke le = ap (λ (x : MessageKind). header_with h x len) ke ∙ ap (λ (n : ℕ). header_with h h.kind n) le

pub envelope_takes : (bytes : List ℕ) (e : EnvelopeRecord) → IsBytes bytes → envelope_of bytes ≡ Ok e → (v : Version) × Spells v e bytes
unfolding envelope_of
envelope_takes bytes e fits h =
    let a = unless_ok (ltb (length bytes) HEADER_BYTES) Short
    (header_at bytes >>= λ header. whole_body_of header.0.version header.0.kind header.0.body_len header.1 >>= λ message. Ok (record {
      from =
          header.0.from;
      to = header.0.to;
      number = header.0.number;
      message = message;
    })) e h in
    let b = bind_ok (header_at bytes) (λ header. whole_body_of header.0.version header.0.kind header.0.body_len header.1 >>= λ message. Ok (record {
      from =
          header.0.from;
      to = header.0.to;
      number = header.0.number;
      message = message;
    })) e a.1 in
    let c = bind_ok (whole_body_of b.0.0.version b.0.0.kind b.0.0.body_len b.0.1) (λ message. Ok (record {
      from = b.0.0.from;
      to = b.0.0.to;
      number =
          b.0.0.number;
      message = message;
    })) e b.2 in
    let t = header_agrees.takes bytes b.0.0 b.0.1 fits b.1 in
    let v : Version = b.0.0.version in
    let w = whole_body_takes v b.0.0.kind b.0.0.body_len b.0.1 c.0 t.0.rest_fits c.1 in
    let made : EnvelopeRecord = record { from = b.0.0.from; to = b.0.0.to; number = b.0.0.number; message = c.0 } in
    let len : length (body v runs_of c.0) ≡ b.0.0.body_len = ap length (sym w.0) ∙ w.1 in
    let head : header_of v made ≡ b.0.0 = same_header b.0.0 (message_kind c.0) (length (body v runs_of c.0)) w.3 len in
    let spelled : bytes ≡ header v runs_of made ++ body v runs_of c.0 = t.0.parts ∙ ap (λ (x : HeaderRecord). spelled_header x ++ b.0.1) (sym head)
    ∙ ap (λ (x : List ℕ). x ++ b.0.1) (sym (header_is v made)) ∙ ap (λ (x : List ℕ). header v runs_of made ++ x) w.0 in (
      v,
      subst (λ (y : EnvelopeRecord). Spells v y bytes) (ok_is made e c.2) (spells v made bytes (record {
        fits = record { ends = record { from = t.1.from; to = t.1.to }; number = t.1.number; message = w.2 };
        short = omega (arith, len, t.1.body_len);
        spelled = spelled;
      })),
    )

plain_again : (v : Version) (bytes : List ℕ) (e : EnvelopeRecord) → Plain v e bytes → envelope_of bytes ≡ Ok e
unfolding envelope_of
plain_again v bytes e h =
    let all : bytes ≡ spelled_header (header_of v e) ++ body v runs_of e.message = h.spelled
    ∙ ap (λ (x : List ℕ). x ++ body v runs_of e.message) (header_is v e) in
    let long : ltb (length bytes) HEADER_BYTES ≡ false =
    le-ltb (length bytes) HEADER_BYTES
    (omega (arith, ap length h.spelled, length-append (header v runs_of e) (body v runs_of e.message), header_long v e)) in
    let first : header_at bytes ≡ Ok (header_of v e, body v runs_of e.message) = ap header_at all
    ∙ header_agrees.again (header_of v e) (body v runs_of e.message) (is_header v e h.fits h.short) in
    let second = whole_body_again v e.message h.fits.message in
    rw (long, first, second) refl

pub envelope_again : (v : Version) (bytes : List ℕ) (e : EnvelopeRecord) → Spells v e bytes → envelope_of bytes ≡ Ok e
envelope_again v bytes e h = plain_again v bytes e (plain v e bytes h)

-- ---- no spelling begins another

front_of : (v : Version) (a x : List ℕ) (m : EnvelopeRecord) → Plain v m a → header_at (a ++ x) ≡ Ok (header_of v m, body v runs_of m.message ++ x)
front_of v a x m h =
    let all : a ++ x ≡ spelled_header (header_of v m) ++ (body v runs_of m.message ++ x) =
    ap (λ (t : List ℕ). t ++ x) (h.spelled ∙ ap (λ (t : List ℕ). t ++ body v runs_of m.message) (header_is v m))
    ∙ append_assoc (spelled_header (header_of v m)) (body v runs_of m.message) x in
    ap header_at all ∙ header_agrees.again (header_of v m) (body v runs_of m.message ++ x) (is_header v m h.fits h.short)

pub one_spelling : (v w : Version) (m n : EnvelopeRecord) (a b x y : List ℕ) → Spells v m a → Spells w n b → a ++ x ≡ b ++ y → (v ≡ w) × (a ≡ b) × (m ≡ n)
one_spelling v w m n a b x y hm hn e =
    let pm = plain v m a hm in
    let pn = plain w n b hn in
    let bm : List ℕ = body v runs_of m.message in
    let bn : List ℕ = body w runs_of n.message in
    let same = ok_is (header_of v m, bm ++ x) (header_of w n, bn ++ y) (sym (front_of v a x m pm) ∙ ap header_at e ∙ front_of w b y n pn) in
    let heads : header_of v m ≡ header_of w n = ap (λ (p : HeaderRecord × List ℕ). p.0) same in
    let rests : bm ++ x ≡ bn ++ y = ap (λ (p : HeaderRecord × List ℕ). p.1) same in
    let versions : v ≡ w = ap (λ (h : HeaderRecord). h.version) heads in
    let len : length bm ≡ length bn = ap (λ (h : HeaderRecord). h.body_len) heads in
    let bodies : bm ≡ bn = sym (take_at bm x (length bn) len) ∙ ap (take (length bn)) rests ∙ take_at bn y (length bn) refl in
    let headers : header v runs_of m ≡ header w runs_of n = header_is v m ∙ ap spelled_header heads ∙ sym (header_is w n) in
    let bytes : a ≡ b = pm.spelled ∙ ap (λ (t : List ℕ). t ++ bm) headers ∙ ap (λ (t : List ℕ). header w runs_of n ++ t) bodies ∙ sym pn.spelled in
    (versions, bytes, ok_is m n (sym (envelope_again v a m hm) ∙ ap envelope_of bytes ∙ envelope_again w b n hn))

pub only_spelling : (v : Version) (m : EnvelopeRecord) (a b : List ℕ) → Spells v m a → Spells v m b → a ≡ b
only_spelling v m a b ha hb = (plain v m a ha).spelled ∙ sym ((plain v m b hb).spelled)

-- ---- parts of a spelling, and more than one

module _ (v : Version) (e : EnvelopeRecord) where
  abbrev text : List ℕ
  text = body v runs_of e.message

  -- a spelling up to some byte after the header
  cut_after_header : (bytes : List ℕ) (n : ℕ) → Plain v e bytes → HEADER_BYTES ≤ n → take n bytes ≡ spelled_header (header_of v e)
      ++ take (n - HEADER_BYTES) text
  cut_after_header bytes n h le =
      let place : n ≡ length (header v runs_of e) + (n - HEADER_BYTES) = omega (arith, header_long v e) in
      ap (take n) h.spelled ∙ ap (λ (k : ℕ). take k (header v runs_of e ++ text)) place ∙ take-append-add (header v runs_of e) text (n - HEADER_BYTES)
      ∙ ap (λ (t : List ℕ). t ++ take (n - HEADER_BYTES) text) (header_is v e)

  long_plain : (bytes : List ℕ) → Plain v e bytes → length bytes ≡ HEADER_BYTES + length text
  long_plain bytes h = omega (arith, ap length h.spelled, length-append (header v runs_of e) text, header_long v e)

  plain_short : (bytes : List ℕ) (n : ℕ) → Plain v e bytes → n < length bytes → envelope_of (take n bytes) ≡ Err Short
  unfolding envelope_of whole_body_of
  plain_short bytes n h lt =
      let all = long_plain bytes h in
      let len : length (take n bytes) ≡ n = length-take-le n bytes (omega arith) in
      elim (cases_lt n HEADER_BYTES) [
        | inl early ↦
            let early' : ltb (length (take n bytes)) HEADER_BYTES ≡ true = lt-ltb (length (take n bytes)) HEADER_BYTES (omega (arith, len)) in
            rw early' refl
        | inr late ↦
            let rest : List ℕ = take (n - HEADER_BYTES) text in
            let late' : ltb (length (take n bytes)) HEADER_BYTES ≡ false = le-ltb (length (take n bytes)) HEADER_BYTES (omega (arith, len)) in
            let read : header_at (take n bytes) ≡ Ok (header_of v e, rest) = ap header_at (cut_after_header bytes n h late)
            ∙ header_agrees.again (header_of v e) rest (is_header v e h.fits h.short) in
            let few : ltb (length rest) (length text) ≡ true = lt-ltb (length rest) (length text) (omega (arith, length-take (n - HEADER_BYTES) text)) in
            rw (late', read, few) refl
      ]

  plain_long : (bytes more : List ℕ) → Plain v e bytes → 1 ≤ length more → envelope_of (bytes ++ more) ≡ Err Long
  unfolding envelope_of whole_body_of
  plain_long bytes more h some =
      let all : length (bytes ++ more) ≡ HEADER_BYTES + length text + length more = omega (arith, length-append bytes more, long_plain bytes h) in
      let long : ltb (length (bytes ++ more)) HEADER_BYTES ≡ false = le-ltb (length (bytes ++ more)) HEADER_BYTES (omega (arith, all)) in
      let read = front_of v bytes more e h in
      let rest : length (text ++ more) ≡ length text + length more = length-append text more in
      let enough : ltb (length (text ++ more)) (length text) ≡ false = le-ltb (length (text ++ more)) (length text) (omega (arith, rest)) in
      let over : ltb (length text) (length (text ++ more)) ≡ true = lt-ltb (length text) (length (text ++ more)) (omega (arith, rest)) in
      rw (long, read, enough, over) refl

pub cut_short : (v : Version) (e : EnvelopeRecord) (bytes : List ℕ) (n : ℕ) → Spells v e bytes → n < length bytes → envelope_of (take n bytes) ≡ Err Short
cut_short v e bytes n h lt = plain_short v e bytes n (plain v e bytes h) lt

pub longer_long : (v : Version) (e : EnvelopeRecord) (bytes more : List ℕ) → Spells v e bytes → 1 ≤ length more → envelope_of (bytes ++ more) ≡ Err Long
longer_long v e bytes more h some = plain_long v e bytes more (plain v e bytes h) some

-- ---- every envelope has a spelling

pub has_spelling : (v : Version) (e : EnvelopeRecord) → IsFit v e → (cut : Cut) → IsMaximalCut cut → length (body v cut e.message) ≤ MOST_BODY_BYTES
    → Spells v e (header v cut e ++ body v cut e.message)
has_spelling v e fits cut cuts short = record { fits = fits; cut = cut; cuts = cuts; short = short; spelled = refl }
