-- Acts of a run that stay, and those that go: where each stands, and what happens before it.
use Rattle.std.proofs.Common.{◌≡◌, ℕ, zero, suc, ◌+◌, ◌<◌, ◌≤◌, List, [], ◌∷◌, ◌++◌, Bool, inl, inr, get_or, length, take, sym, subst, ◌∙◌, ap, ap₂, refl, arith, append_assoc, length-append}
use Rattle.std.specs.Prelude.{Some, cond, slice_get, ◌==◌, ◌&&◌}
use Rattle.std.proofs.lemmas.Bool.{cases_eq, cases_lt}
use Rattle.std.proofs.lemmas.List.{length_push}
use Rattle.std.proofs.lemmas.List.Sums.{sum_by-append}
use Rattle.std.proofs.lemmas.Option.{same_Some, slice_get-get_or}
use Rattle.std.proofs.Math.Seq.{take-append_seam}
use Rattle.lrc_trace.specs.declared.act.Act.{Act}
use Rattle.lrc_trace.specs.declared.act.Deed.{Deed}
use Rattle.lrc_trace.specs.declared.act.Deed.TheVariants.{Quiet}
use Rattle.lrc_trace.specs.Run.{Does, act_of, is_arrive, is_depart, count_of}
use Rattle.lrc_trace.specs.Order.{Precedes, program, lock, barrier, HappensBefore, base, further}
use Rattle.lrc_trace.proofs.HappensBefore.{Precedes-forward}
use Rattle.lrc_trace.proofs.Intervals.{count_of-same}
use Rattle.lrc_trace.proofs.Positions.{Does-within, Does-node, slice_get-seam}
use Rattle.lrc_consistency_laws.proofs.Ahead.{take_ahead}
use Rattle.lrc_explore_causes.specs.Causes.{Keeps, beginning, kept, left}

-- the act stands behind this front
pub record Seat (run : List Act) (Stays : ℕ → Type 0) (k : ℕ) (act : Act) (told : List Act) : Type 0 where
  pub front : List Act
  pub keeps : Keeps run Stays k front
  pub more : List Act
  pub is : told ≡ front ++ act ∷ more

module _ (run : List Act) (Stays : ℕ → Type 0) where
  -- which acts stay before a position is one list alone
  pub unique : {k : ℕ} {a b : List Act} → Keeps run Stays k a → Keeps run Stays k b → a ≡ b
  unique beginning beginning = refl
  unique (kept {position} {told} {act} more get stays) (kept {told = told'} {act = act'} more' get' stays') =
      ap₂ (λ (l : List Act) (x : Act). l ++ x ∷ []) (unique more more') (same_Some act act' (sym get ∙ get'))
  unique (kept more get stays) (left more' goes) = absurd (goes stays)
  unique (left more goes) (kept more' get' stays') = absurd (goes stays')
  unique (left more goes) (left more' goes') = unique more more'

  -- an act that stays has its seat
  pub seat : {n : ℕ} {told : List Act} → Keeps run Stays n told → (k : ℕ) (act : Act) → k < n → slice_get run k ≡ Some act → Stays k
      → Seat run Stays k act told
  seat beginning k act lt get stays = absurd (omega (arith, lt))
  seat (kept {position} {told} {act = act'} keeps get' stays') k act lt get stays = elim (cases_eq k position) [
    | inl same ↦
        let here : slice_get run position ≡ Some act = subst (λ x. slice_get run x ≡ Some act) same get in
        record {
          front = told;
          keeps = subst (λ x. Keeps run Stays x told) (sym same) keeps;
          more = [];
          is = ap (λ (x : Act). told ++ x ∷ []) (same_Some act' act (sym get' ∙ here));
        }
    | inr other ↦
        let s = seat keeps k act (omega (arith, lt, other)) get stays in
        record {
          front = s.front;
          keeps = s.keeps;
          more = s.more ++ act' ∷ [];
          is = ap (λ (l : List Act). l ++ act' ∷ []) s.is ∙ append_assoc s.front (act ∷ s.more) (act' ∷ []);
        }
  ]
  seat (left {position} {told} keeps goes) k act lt get stays = elim (cases_eq k position) [
    | inl same ↦ absurd (goes (subst Stays same stays))
    | inr other ↦ seat keeps k act (omega (arith, lt, other)) get stays
  ]

  -- past the last that stays none does
  pub none_later : {k : ℕ} {told : List Act} → Keeps run Stays k told → (n : ℕ) → ((x : ℕ) → k ≤ x → Stays x → ⊥) → Keeps run Stays (k + n) told
  none_later {k} {told} keeps zero none = let is : k ≡ k + 0 = omega arith in subst (λ y. Keeps run Stays y told) is keeps
  none_later {k} {told} keeps (suc n) none =
      let is : suc (k + n) ≡ k + suc n = omega arith in
      subst (λ y. Keeps run Stays y told) is (left (none_later keeps n none) (none (k + n) (omega arith)))

  -- what is told before a position: which act of the run stands there
  pub record Origin (told : List Act) (n x : ℕ) : Type 0 where
    pub k : ℕ
    pub earlier : k < n
    pub stays : Stays k
    pub front : List Act
    pub keeps : Keeps run Stays k front
    pub long : length front ≡ x
    pub act : Act
    pub there : slice_get run k ≡ Some act

  pub origin : {n : ℕ} {told : List Act} → Keeps run Stays n told → (x : ℕ) → x < length told → Origin told n x
  origin beginning x lt = absurd (omega (arith, lt))
  origin (kept {position} {told} {act} keeps get stays) x lt =
      let long = length_push told act in
      elim (cases_eq x (length told)) [
        | inl same ↦ record {
          k = position;
          earlier = omega arith;
          stays = stays;
          front = told;
          keeps = keeps;
          long = sym same;
          act = act;
          there = get;
        }
        | inr other ↦
            let o = origin keeps x (omega (arith, lt, long, other)) in
            let earlier = o.earlier in
            record {
              k = o.k;
              earlier = omega (arith, earlier);
              stays = o.stays;
              front = o.front;
              keeps = o.keeps;
              long = o.long;
              act = o.act;
              there = o.there;
            }
      ]
  origin (left {position} {told} keeps goes) x lt =
      let o = origin keeps x lt in
      let earlier = o.earlier in
      record {
        k = o.k;
        earlier = omega (arith, earlier);
        stays = o.stays;
        front = o.front;
        keeps = o.keeps;
        long = o.long;
        act = o.act;
        there = o.there;
      }

  module _ (n : ℕ) (told : List Act) (keeps : Keeps run Stays n told) where
    -- an act that stays is done where it stands now
    pub does_now : (k node : ℕ) (d : Deed) (front : List Act) → k < n → Stays k → Does run k node d → Keeps run Stays k front
        → Does told (length front) node d
    does_now k node d front lt stays does before =
        let s = seat keeps k (act_of node d) lt does.stands stays in
        let is : told ≡ front ++ act_of node d ∷ s.more = s.is ∙ ap (λ (l : List Act). l ++ act_of node d ∷ s.more) (unique s.keeps before) in
        record { stands = ap (λ (l : List Act). slice_get l (length front)) is ∙ slice_get-seam front (act_of node d) s.more }

    -- and what is counted before it is what was
    counted : (kind : Deed → Bool) (node : ℕ) {k : ℕ} {front : List Act} → Keeps run Stays k front
        → ((x : ℕ) (d : Deed) → x < k → Does run x node d → Stays x) → k ≤ length run → count_of kind node front ≡ count_of kind node (take k run)
    counted kind node beginning clean within = refl
    counted kind node (kept {position} {told = f} {act} more get stays) clean within =
        let rest = counted kind node more (λ x d lt does. clean x d (omega (arith, lt)) does) (omega (arith, within)) in
        let add = sum_by-append (λ (a : Act). cond ((a.node == node) && kind a.deed) 1 0) in
        let one = act ∷ [] in
        add f one ∙ ap (λ m. m + count_of kind node one) rest ∙ sym (add (take position run) one)
        ∙ sym (ap (λ (l : List Act). count_of kind node l) (take_ahead run position act get))
    counted kind node (left {position} {told = f} more goes) clean within =
        let rest = counted kind node more (λ x d lt does. clean x d (omega (arith, lt)) does) (omega (arith, within)) in
        let there = slice_get-get_or run position (act_of 0 Quiet) (omega (arith, within)) in
        let act = get_or run position (act_of 0 Quiet) in
        let does : Does run position act.node act.deed = record { stands = there } in
        let is : suc position ≡ position + 1 = omega arith in
        rest
        ∙ sym (ap (λ m. count_of kind node (take m run)) is
        ∙ count_of-same kind run node position act.node act.deed does
        (λ e t. goes (clean position act.deed (omega arith) (Does-node e does))))

    -- what is counted before an act that stays
    pub counted_now : (kind : Deed → Bool) {k node : ℕ} {d : Deed} {front : List Act} → k < n → Stays k → Does run k node d → Keeps run Stays k front
        → ((x : ℕ) (e : Deed) → x < k → Does run x node e → Stays x) → count_of kind node (take (length front) told) ≡ count_of kind node (take k run)
    counted_now kind {k} {node} {d} {front} lt stays does before clean =
        let s = seat keeps k (act_of node d) lt does.stands stays in
        let is : told ≡ front ++ act_of node d ∷ s.more = s.is ∙ ap (λ (l : List Act). l ++ act_of node d ∷ s.more) (unique s.keeps before) in
        let within = Does-within does in
        ap (λ (l : List Act). count_of kind node (take (length front) l)) is
        ∙ ap (λ (l : List Act). count_of kind node l) (take-append_seam front (act_of node d ∷ s.more))
        ∙ counted kind node before clean (omega (arith, within))

  -- of two acts that stay the later stands later
  pub later_now : {x k node : ℕ} {d : Deed} {f g : List Act} → x < k → Stays x → Does run x node d → Keeps run Stays x f → Keeps run Stays k g
      → length f < length g
  later_now {x} {k} {node} {d} {f} {g} lt stays does at_f at_g =
      let s = seat at_g x (act_of node d) lt does.stands stays in
      let long : length g ≡ length s.front + length (act_of node d ∷ s.more) =
      ap (λ (l : List Act). length l) s.is ∙ length-append s.front (act_of node d ∷ s.more) in
      let same : length s.front ≡ length f = ap (λ (l : List Act). length l) (unique s.keeps at_f) in
      omega (arith, long, same)

  -- what is told before each position
  pub front_at : {n : ℕ} {told : List Act} → Keeps run Stays n told → (k : ℕ) → k ≤ n → (front : List Act) × Keeps run Stays k front
  front_at beginning k le = let is : zero ≡ k = omega (arith, le) in ([], subst (λ y. Keeps run Stays y []) is beginning)
  front_at (kept {position} {told} {act} keeps get stays) k le = elim (cases_lt k (suc position)) [
    | inl lt ↦ front_at keeps k (omega (arith, lt))
    | inr past ↦
        let is : suc position ≡ k = omega (arith, le, past) in
        (told ++ act ∷ [], subst (λ y. Keeps run Stays y (told ++ act ∷ [])) is (kept keeps get stays))
  ]
  front_at (left {position} {told} keeps goes) k le = elim (cases_lt k (suc position)) [
    | inl lt ↦ front_at keeps k (omega (arith, lt))
    | inr past ↦
        let is : suc position ≡ k = omega (arith, le, past) in
        (told, subst (λ y. Keeps run Stays y told) is (left keeps goes))
  ]

-- where what happens before an act that stays does, what happens before it is told before it
module _ (run : List Act) (Stays : ℕ → Type 0) (closed : (x k : ℕ) → Precedes run x k → Stays k → Stays x) (n : ℕ) (told : List Act)
    (keeps : Keeps run Stays n told) where
  own : {k node : ℕ} {d : Deed} → Stays k → Does run k node d → (x : ℕ) (e : Deed) → x < k → Does run x node e → Stays x
  own {k} stays here x e lt does = closed x k (program lt does here) stays

  precedes_now : {x k : ℕ} {f g : List Act} → k < n → Stays x → Stays k → Keeps run Stays x f → Keeps run Stays k g → Precedes run x k
      → Precedes told (length f) (length g)
  precedes_now {x} {k} {f} {g} lt first second at_f at_g (program {node = node} {a = a} {b = b} less one other) =
      program (later_now run Stays less first one at_f at_g) (does_now run Stays n told keeps x node a f (omega (arith, lt, less)) first one at_f)
      (does_now run Stays n told keeps k node b g lt second other at_g)
  precedes_now {x} {k} {f} {g} lt first second at_f at_g (lock {p = p} {q = q} less one other) =
      lock (later_now run Stays less first one at_f at_g) (does_now run Stays n told keeps x p _ f (omega (arith, lt, less)) first one at_f)
      (does_now run Stays n told keeps k q _ g lt second other at_g)
  precedes_now {x} {k} {f} {g} lt first second at_f at_g (barrier {p = p} {q = q} less one other same) =
      let early : x < n = omega (arith, lt, less) in
      barrier (later_now run Stays less first one at_f at_g) (does_now run Stays n told keeps x p _ f early first one at_f)
      (does_now run Stays n told keeps k q _ g lt second other at_g)
      (counted_now run Stays n told keeps is_arrive early first one at_f (own first one) ∙ same
      ∙ sym (counted_now run Stays n told keeps is_depart lt second other at_g (own second other)))

  pub before_now : {x k : ℕ} {f g : List Act} → k < n → Stays k → Keeps run Stays x f → Keeps run Stays k g → HappensBefore run x k
      → HappensBefore told (length f) (length g)
  before_now {x} {k} lt stays at_f at_g (base step) = base (precedes_now lt (closed x k step stays) stays at_f at_g step)
  before_now {x} {k} lt stays at_f at_g (further {j = m} h step) =
      let less = Precedes-forward step in
      let stays' : Stays m = closed m k step stays in
      let early : m < n = omega (arith, lt, less) in
      let mid = front_at run Stays keeps m (omega (arith, early)) in
      further (before_now early stays' at_f mid.1 h) (precedes_now lt stays' stays mid.1 at_g step)
