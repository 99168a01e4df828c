-- The last access of a variable, where all others of it lead to that: what an access that was reached by way of it tells, and
-- when an access becomes it.
use Rattle.std.proofs.Common.{◌≡◌, ℕ, ◌+◌, ◌<◌, ◌≤◌, List, [], length, get_or, inl, inr, sym, subst, ◌∙◌, ap, arith, refl}
use Rattle.std.specs.Prelude.{Option, Some, None, IfSome, Bool, true}
use Rattle.std.proofs.lemmas.Bool.{cases_eq, cases_lt}
use Rattle.lrc_races_trace.specs.declared.event.Event.{Event}
use Rattle.lrc_races_trace.specs.declared.event.Pair.{Pair}
use Rattle.lrc_races_trace.specs.declared.event.Placed.{Placed}
use Rattle.lrc_races_trace.specs.Trace.{At, Accesses}
use Rattle.lrc_races_trace.specs.Order.{Precedes, program, base}
use Rattle.lrc_races_trace.proofs.Positions.{At-one}
use Rattle.lrc_races_sure.specs.Leading.{Leads, IsByWay}
use Rattle.lrc_races_sure.specs.Sure.{IsSureRace, AreSureToldAt}
use Rattle.lrc_races_sure.proofs.Leading.{to-ordered, leads-further, way-led, way-ordered}
use Rattle.lrc_races_detector.specs.declared.covers.Cover.{Cover}
use Rattle.lrc_races_detector.specs.declared.covers.Covers.{Covers}
use Rattle.lrc_races_detector.specs.declared.variables.Last.{Last}
use Rattle.lrc_races_detector.specs.Covers.{operation_of, cover_of, IsCoverSet, IsCoverKnown}
use Rattle.lrc_races_detector.specs.Variables.{thread_of}
use Rattle.lrc_races_detector.specs.Knowing.{IsRow}
use Rattle.lrc_races_detector.proofs.Noting.{one_variable}
use Rattle.lrc_races_sure_pass.specs.Covers.{IsBehindAll, IsCover, AreCovers}
use Rattle.lrc_races_sure_pass.specs.Knowing.{Gathers}
use Rattle.lrc_races_sure_pass.proofs.Telling.{known_before, race_rival, rival_access, last_told}

-- n was reached by way of all accesses of the variable before n
abbrev pub AreAllOnTheWay : List Event → ℕ → ℕ → Type 0
AreAllOnTheWay events n v = (k : ℕ) (a : Event) → k < n → At events k a → Accesses a v → IsByWay events k n

way_leads : {events : List Event} {i j : ℕ} → IsByWay events i j → Leads events i j
way_leads w = inr (leads-further w.leads (to-ordered w.before))

cover_kept : (events : List Event) (n : ℕ) (b : Event) → At events n b → (v : ℕ) → (Accesses b v → ⊥) → (o : Option Cover)
    → IsCover events n v o → IsCover events (n + 1) v o
cover_kept events n b here v none (Some cover) is = record {
  event = is.event;
  at = is.at;
  thread = is.thread;
  before = let lt = is.before in omega (arith, lt);
  leads = λ k a lt at accesses.
      elim (cases_eq k n) [
        | inl same ↦
            let one : a ≡ b = At-one at (subst (λ m. At events m b) (sym same) here) in
            absurd (none (subst (λ (e : Event). Accesses e v) one accesses))
        | inr other ↦ is.leads k a (omega arith) at accesses
      ];
}
cover_kept events n b here v none None is = is

module _ (events : List Event) (later : Placed) (here : At events later.position later.event) (w : Bool) (v : ℕ)
    (op : later.event.operation ≡ operation_of w v) (known : List ℕ) (g : Gathers events (λ k. Precedes events k later.position) known) where
  abbrev n : ℕ
  n = later.position

  abbrev b : Event
  b = later.event

  pub behind_all : (o : Option Cover) → IsCoverKnown o known → IsCover events n v o → AreAllOnTheWay events n v
  behind_all (Some cover) less is k a lt at accesses =
      let below : cover.position < get_or known is.event.thread 0 = subst (λ t. cover.position < get_or known t 0) (sym is.thread) less in
      let last : IsByWay events cover.position n = known_before events later here w v op known g cover.position is.event is.at is.before below in
      elim (is.leads k a lt at accesses) [
        | inl same ↦ subst (λ m. IsByWay events m n) (sym same) last
        | inr h ↦ way-led h last
      ]
  behind_all None less is k a lt at accesses = absurd less

  -- nothing is told of such an access
  pub none_told_behind : AreAllOnTheWay events n v → (pairs : List Pair) → pairs ≡ [] → AreSureToldAt events n pairs
  none_told_behind all pairs none = subst (λ ps. AreSureToldAt events n ps) (sym none) (record {
    in_order = λ i j d lt within. absurd (omega arith);
    exact = λ p. (
      λ (k, lt, h). absurd (omega arith),
      λ (told, at).
          let sure : IsSureRace events p.earlier.position n = subst (λ m. IsSureRace events p.earlier.position m) at told.sure in
          let rival = race_rival events later here w v op known g p.earlier.event.thread p.earlier.position p.earlier.event told.first refl sure in
          let (a, first, of, accesses) = rival_access events v p.earlier.event.thread p.earlier.position w rival in
          absurd (sure.free (all p.earlier.position a sure.earlier first accesses)),
    );
  })

  -- it is behind all itself
  pub cover_here : AreAllOnTheWay events n v → (cover : Cover) → cover.position ≡ n → cover.thread ≡ b.thread → IsBehindAll events (n + 1) v cover
  cover_here all cover position thread = record {
    event = b;
    at = subst (λ m. At events m b) (sym position) here;
    thread = sym thread;
    before = omega (arith, position);
    leads = λ k a lt at accesses.
        elim (cases_eq k n) [
          | inl same ↦ inl (same ∙ sym position)
          | inr other ↦ subst (λ m. Leads events k m) (sym position) (way_leads (all k a (omega arith) at accesses))
        ];
  }

  pub covers_set : (before after : Covers) (o : Option Cover) → IsCoverSet before after v o → IsCover events (n + 1) v o
      → AreCovers events n before → AreCovers events (n + 1) after
  covers_set before after o s is old x =
      elim (cases_eq x v) [
        | inl same ↦
            subst (λ y. IsCover events (n + 1) y (cover_of after y)) (sym same)
            (subst (λ (c : Option Cover). IsCover events (n + 1) v c) (sym s.here) is)
        | inr apart ↦
            subst (λ (c : Option Cover). IsCover events (n + 1) x c) (sym (s.others x apart)) (cover_kept events n b here x
            (λ accesses. apart (one_variable events n b here w v x op accesses)) (cover_of before x) (old x))
      ]

-- a write of which nothing is told is behind all
written_behind : (events : List Event) (later : Placed) (here : At events later.position later.event) (w : Bool) (v : ℕ)
    (op : later.event.operation ≡ operation_of w v) (known : List ℕ) (g : Gathers events (λ k. Precedes events k later.position) known)
    (lasts : List Last) → IsRow events later.position v lasts → (pairs : List Pair) → AreSureToldAt events later.position pairs → w ≡ true
    → length pairs ≡ 0 → AreAllOnTheWay events later.position v
written_behind events later here w v op known g lasts row pairs told is_write none k a lt at accesses =
    let b = later.event in
    let write : b.operation ≡ operation_of true v = subst (λ x. b.operation ≡ operation_of x v) is_write op in
    elim (cases_eq a.thread b.thread) [
      | inl same ↦ way-ordered (base (program lt at here same))
      | inr apart ↦
          elim (cases_lt k (get_or known a.thread 0)) [
            | inl below ↦ known_before events later here w v op known g k a at lt below
            | inr above ↦
                let (last, there, of) = row.complete a.thread k lt (a, at, refl, accesses) in
                let is = row.sound last there in
                let latest = is.access.last k lt (a, at, sym of, accesses) in
                let unknown : get_or known (thread_of last) 0 ≤ last.access.position =
                let same = ap (λ t. get_or known t 0) of in omega (arith, same, above, latest) in
                let one = last_told events later here true v write known g (thread_of last) (λ e. apart (sym of ∙ e)) last.access is.access unknown in
                let (m, within, found) = (told.exact (record { earlier = last.access; later = later })).1 (one, refl) in
                absurd (omega (arith, within, none))
          ]
    ]

-- where the event is no access, all stay
pub covers_kept : (events : List Event) (n : ℕ) (b : Event) → At events n b → (covers : Covers) → ((v : ℕ) → Accesses b v → ⊥)
    → AreCovers events n covers → AreCovers events (n + 1) covers
covers_kept events n b here covers none old v = cover_kept events n b here v (none v) (cover_of covers v) (old v)

pub cover_after : (events : List Event) (later : Placed) (here : At events later.position later.event) (w : Bool) (v : ℕ)
    (op : later.event.operation ≡ operation_of w v) (known : List ℕ) (g : Gathers events (λ k. Precedes events k later.position) known)
    (lasts : List Last) → IsRow events later.position v lasts → (pairs told : List Pair) → AreSureToldAt events later.position pairs
    → told ≡ pairs → (o : Option Cover)
    → IfSome o (λ (cover : Cover). (cover.position ≡ later.position) × (cover.thread ≡ later.event.thread) × (w ≡ true) × (length told ≡ 0))
    → IsCover events (later.position + 1) v o
cover_after events later here w v op known g lasts row pairs told are same (Some cover) (position, thread, is_write, none) =
    cover_here events later here w v op known g
    (written_behind events later here w v op known g lasts row pairs are is_write (sym (ap length same) ∙ none)) cover position thread
cover_after events later here w v op known g lasts row pairs told are same None h = h
