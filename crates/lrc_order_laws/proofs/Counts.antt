-- A node's own entry counts the intervals that it has closed; its episode counts its arrivals.
use Rattle.std.proofs.Common.{◌≡◌, ℕ, ◌+◌, ◌<◌, ◌≤◌, List, [], ◌∷◌, ◌++◌, Bool, true, false, length, refl, sym, ap, subst, ◌∙◌, arith, length-append}
use Rattle.std.specs.Prelude.{Option, Some, None, max, cond, option_map, filter, filter_map}
use Rattle.std.proofs.lemmas.List.Elements.{filter-append, filter_map-append}
use Rattle.std.proofs.lemmas.Option.{same_Some}
use Rattle.lrc_time.specs.Time.{entry, joined}
use Rattle.lrc_time.proofs.Times.{entry-set_same, entry-joined}
use Rattle.lrc_trace.specs.declared.act.Act.{Act}
use Rattle.lrc_trace.specs.declared.act.Deed.{Deed}
use Rattle.lrc_exec.specs.Meaning.{Thread, Next, reads, writes, acquires, releases, arrives, departs, next_of}
use Rattle.lrc_protocol.specs.Times.{next_time}
use Rattle.lrc_protocol.specs.Locks.{Locks}
use Rattle.lrc_protocol.specs.Node.{Course, going, trapped, ended, deed_of, Wait, nothing, grant, departure, access, upkeep, discard}
use Rattle.lrc_protocol.specs.Turn.{TurnRecord}
use Rattle.lrc_protocol.specs.Follows.{deeds_in}
use Rattle.lrc_order_laws.specs.Waiting.{is_departing, is_access, acquiring, FixesNext}
use Rattle.lrc_protocol.specs.Node.{next_in}
use Rattle.lrc_order_laws.specs.Counts.{closes, count, awaits_acquire}
use Rattle.lrc_order_laws.proofs.Shift.{Part, Acted, Rested, Moved, is_plain, deed_in, Learnable, Shift, plain, misses, takes, asks, releasing, arriving}
use Rattle.lrc_order_laws.proofs.Shift.{manages, forwarding, grants, departing, collecting, clean_at_once, discarding, accessing, still_misses}
use Rattle.lrc_order_laws.proofs.Shift.{still_collects, cleaning, rests}

-- ---- one deed more

abbrev pub number : (Deed → Bool) → Option Deed → ℕ
number test None = 0
number test (Some d) = cond (test d) 1 0

number_by : (d : Deed) (b : Bool) → length (cond b (d ∷ []) []) ≡ cond b 1 0
number_by d true = refl
number_by d false = refl

number_one : (test : Deed → Bool) (deed : Option Deed) → count test (filter_map (λ d. d) (deed ∷ [])) ≡ number test deed
number_one test None = refl
number_one test (Some d) = number_by d (test d)

count-append : (test : Deed → Bool) (xs ys : List Deed) → count test (xs ++ ys) ≡ count test xs + count test ys
count-append test xs ys = ap length (filter-append test xs ys) ∙ length-append (filter test xs) (filter test ys)

pub count_more : (test : Deed → Bool) (turns : List TurnRecord) (turn : TurnRecord)
    → count test (deeds_in (turns ++ turn ∷ [])) ≡ count test (deeds_in turns) + number test (option_map (λ (act : Act). act.deed) turn.act)
count_more test turns turn =
    ap (count test) (filter_map-append (λ (turn : TurnRecord). option_map (λ act. act.deed) turn.act) turns (turn ∷ []))
    ∙ count-append test (deeds_in turns) (deeds_in (turn ∷ []))
    ∙ ap (λ k. count test (deeds_in turns) + k) (number_one test (option_map (λ (act : Act). act.deed) turn.act))

-- ---- the deed that is made

pub deed_next : (value : ℕ) (c : Course) (next : Next) → next_in c ≡ Some next → deed_in value c ≡ Some (deed_of value next)
deed_next value (going t) next e = ap (λ n. Some (deed_of value n)) (same_Some (next_of t) next e)
deed_next value (trapped cause) next e = cc
deed_next value ended next e = cc

-- what a test counts of the deed, by what the text did next
pub made : (test : Deed → Bool) (c after : Course) (deed : Option Deed) (next : Next) (k : ℕ) → Acted c deed after → next_in c ≡ Some next
    → ((value : ℕ) → number test (Some (deed_of value next)) ≡ k) → number test deed ≡ k
made test c after deed next k a e h = ap (number test) (a.deed_is ∙ deed_next a.value c next e) ∙ h a.value

pub none_made : (test : Deed → Bool) (c after : Course) (deed : Option Deed) → Rested c deed after → number test deed ≡ 0
none_made test c after deed r = ap (number test) r.deed_is

pub lock_next : (o : Option Next) (lock : ℕ) → acquiring o ≡ Some lock → (after : Thread) × (o ≡ Some (acquires lock after))
lock_next (Some (acquires l t)) lock e = (t, ap (λ l. Some (acquires l t)) (same_Some l lock e))
lock_next _ lock e = cc

pub departure_next : (o : Option Next) → is_departing o ≡ true → (after : Thread) × (o ≡ Some (departs after))
departure_next (Some (departs t)) e = (t, refl)
departure_next _ e = cc

pub access_next : (o : Option Next) → is_access o ≡ true → (next : Next) × ((o ≡ Some next) × (is_plain next ≡ true))
access_next (Some (reads w t)) e = (reads w t, (refl, refl))
access_next (Some (writes w v t)) e = (writes w v t, (refl, refl))
access_next _ e = cc

closes-plain : (value : ℕ) (next : Next) → is_plain next ≡ true → number closes (Some (deed_of value next)) ≡ 0
closes-plain value (acquires l t) e = cc
closes-plain value (releases l t) e = cc
closes-plain value (arrives t) e = cc
closes-plain value (departs t) e = cc
closes-plain value _ e = refl

-- ---- the own entry

abbrev pub Own : Part → ℕ → Type 0
Own p k = entry p.locks.time p.me ≡ k + awaits_acquire p.wait

larger : (a b : ℕ) → b ≤ a → max a b ≡ a
larger a b le = omega (arith, le)

pub ticked_entry : (me : ℕ) (time : List ℕ) → me < length time → entry (next_time me time) me ≡ entry time me + 1
ticked_entry me time lt = entry-set_same time me (entry time me + 1) lt

pub learned_entry : (p : Part) (time : List ℕ) → Learnable p time → entry (joined p.locks.time time) p.me ≡ entry p.locks.time p.me
learned_entry p time k = entry-joined p.locks.time time p.me ∙ larger (entry p.locks.time p.me) (entry time p.me) k.own

module _ (p : Part) (lt : p.me < length p.locks.time) (fits : FixesNext p.wait (next_in p.course)) (k : ℕ) (own : Own p k) where
  was : (w : Wait) → p.wait ≡ w → awaits_acquire p.wait ≡ awaits_acquire w
  was w e = ap awaits_acquire e

  next_then : (w : Wait) → p.wait ≡ w → FixesNext w (next_in p.course)
  next_then w e = subst (λ w. FixesNext w (next_in p.course)) e fits

  tick : entry (next_time p.me p.locks.time) p.me ≡ entry p.locks.time p.me + 1
  tick = ticked_entry p.me p.locks.time lt

  -- the same entry, and so many acts and so much still to come
  stands : (time : List ℕ) (wait : Wait) (deed : Option Deed) → entry time p.me ≡ entry p.locks.time p.me
      → number closes deed + awaits_acquire wait ≡ awaits_acquire p.wait
      → entry time p.me ≡ (k + number closes deed) + awaits_acquire wait
  stands time wait deed t d = omega (arith, t, d, own)

  rises : (wait : Wait) (deed : Option Deed) → number closes deed + awaits_acquire wait ≡ 1 + awaits_acquire p.wait
      → entry (next_time p.me p.locks.time) p.me ≡ (k + number closes deed) + awaits_acquire wait
  rises wait deed d = omega (arith, tick, d, own)

  pub own-kept : (acts : Bool) (wait : Wait) (locks : Locks) (episode : ℕ) (deed : Option Deed) (after : Course)
      → Shift p acts wait locks episode → Moved acts p.course deed after
      → entry locks.time p.me ≡ (k + number closes deed) + awaits_acquire wait
  own-kept _ _ _ _ deed after (plain next w n is) m =
      stands p.locks.time nothing deed refl
      (ap (λ x. x + 0) (made closes p.course after deed next 0 m n (λ v. closes-plain v next is)) ∙ sym (was nothing w))
  own-kept _ _ _ _ deed after (misses {need = need} w n) m =
      stands p.locks.time (access need) deed refl (ap (λ x. x + 0) (none_made closes p.course after deed m) ∙ sym (was nothing w))
  own-kept _ _ _ _ deed after (takes lock w n free) m =
      let a : (after : Thread) × (next_in p.course ≡ Some (acquires lock after)) = lock_next (next_in p.course) lock n in
      rises nothing deed (ap (λ x. x + 0) (made closes p.course after deed (acquires lock a.0) 1 m a.1 (λ v. refl)) ∙ ap (λ x. 1 + x) (sym (was nothing w)))
  own-kept _ _ _ _ deed after (asks {lock = lock} w n away) m =
      rises (grant lock) deed (ap (λ x. x + 1) (none_made closes p.course after deed m) ∙ ap (λ x. 1 + x) (sym (was nothing w)))
  own-kept _ _ _ _ deed after (releasing lock next w n) m =
      rises nothing deed (ap (λ x. x + 0) (made closes p.course after deed (releases lock next) 1 m n (λ v. refl)) ∙ ap (λ x. 1 + x) (sym (was nothing w)))
  own-kept _ _ _ _ deed after (arriving next w n) m =
      rises departure deed (ap (λ x. x + 0) (made closes p.course after deed (arrives next) 1 m n (λ v. refl)) ∙ ap (λ x. 1 + x) (sym (was nothing w)))
  own-kept _ _ _ _ deed after (manages lock from) m =
      stands p.locks.time p.wait deed refl (ap (λ x. x + awaits_acquire p.wait) (none_made closes p.course after deed m) ∙ omega arith)
  own-kept _ _ _ _ deed after (forwarding lock asker time) m =
      stands p.locks.time p.wait deed refl (ap (λ x. x + awaits_acquire p.wait) (none_made closes p.course after deed m) ∙ omega arith)
  own-kept _ _ _ _ deed after (grants lock time w l) m =
      let a : (after : Thread) × (next_in p.course ≡ Some (acquires lock after)) = lock_next (next_in p.course) lock (next_then (grant lock) w) in
      stands (joined p.locks.time time) nothing deed (learned_entry p time l)
      (ap (λ x. x + 0) (made closes p.course after deed (acquires lock a.0) 1 m a.1 (λ v. refl)) ∙ sym (was (grant lock) w))
  own-kept _ _ _ _ deed after (departing time w l) m =
      let a : (after : Thread) × (next_in p.course ≡ Some (departs after)) = departure_next (next_in p.course) (next_then departure w) in
      stands (joined p.locks.time time) nothing deed (learned_entry p time l)
      (ap (λ x. x + 0) (made closes p.course after deed (departs a.0) 0 m a.1 (λ v. refl)) ∙ sym (was departure w))
  own-kept _ _ _ _ deed after (collecting time {collection = c} {needs = ns} w l same) m =
      stands (joined p.locks.time time) (upkeep c ns) deed (learned_entry p time l)
      (ap (λ x. x + 0) (none_made closes p.course after deed m) ∙ sym (was departure w))
  own-kept _ _ _ _ deed after (clean_at_once time {collection = c} w l same) m =
      stands (joined p.locks.time time) (discard c) deed (learned_entry p time l)
      (ap (λ x. x + 0) (none_made closes p.course after deed m) ∙ sym (was departure w))
  own-kept _ _ _ _ deed after (discarding collection w) m =
      let a : (after : Thread) × (next_in p.course ≡ Some (departs after)) = departure_next (next_in p.course) (next_then (discard collection) w) in
      stands p.locks.time nothing deed refl
      (ap (λ x. x + 0) (made closes p.course after deed (departs a.0) 0 m a.1 (λ v. refl)) ∙ sym (was (discard collection) w))
  own-kept _ _ _ _ deed after (accessing need w) m =
      let a : (next : Next) × ((next_in p.course ≡ Some next) × (is_plain next ≡ true)) = access_next (next_in p.course) (next_then (access need) w) in
      stands p.locks.time nothing deed refl
      (ap (λ x. x + 0) (made closes p.course after deed a.0 0 m a.1.0 (λ v. closes-plain v a.0 a.1.1)) ∙ sym (was (access need) w))
  own-kept _ _ _ _ deed after (still_misses before {need = need} w) m =
      stands p.locks.time (access need) deed refl (ap (λ x. x + 0) (none_made closes p.course after deed m) ∙ sym (was (access before) w))
  own-kept _ _ _ _ deed after (still_collects before had {collection = c} {needs = ns} w same) m =
      stands p.locks.time (upkeep c ns) deed refl (ap (λ x. x + 0) (none_made closes p.course after deed m) ∙ sym (was (upkeep before had) w))
  own-kept _ _ _ _ deed after (cleaning before had {collection = c} w same) m =
      stands p.locks.time (discard c) deed refl (ap (λ x. x + 0) (none_made closes p.course after deed m) ∙ sym (was (upkeep before had) w))
  own-kept _ _ _ _ deed after rests m =
      stands p.locks.time p.wait deed refl (ap (λ x. x + awaits_acquire p.wait) (none_made closes p.course after deed m) ∙ omega arith)
