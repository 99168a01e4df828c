-- The text holds the locks whose tokens are held.
use Rattle.std.proofs.Common.{◌≡◌, ℕ, ◌<◌, ◌≤◌, List, Bool, true, false, length, refl, sym, ap, subst, ◌∙◌, inl, inr, arith}
use Rattle.std.specs.Prelude.{Option, Some, None, slice_set, slice_index_or}
use Rattle.std.proofs.lemmas.Bool.{cases_eq}
use Rattle.std.proofs.lemmas.List.{get_or-set_same, get_or-set_other, length-set}
use Rattle.lrc_trace.specs.declared.act.Deed.{Deed}
use Rattle.lrc_exec.specs.Meaning.{Setting, Thread, Next, acquires, releases, arrives, departs, holds}
use Rattle.lrc_lock.specs.declared.state.LockState.{LockState}
use Rattle.lrc_lock.specs.declared.state.LockState.TheVariants.{Away, Awaited, Free, Held}
use Rattle.lrc_lock.specs.Held.{HeldRecord, lock_at, is_held, with_lock, held_after, asked, released, released_at, forwarded, granted, granted_at}
use Rattle.lrc_protocol.specs.Times.{next_time}
use Rattle.lrc_protocol.specs.Locks.{Locks}
use Rattle.lrc_protocol.specs.Node.{Course, going, Wait, grant, departure, access, discard}
use Rattle.lrc_order_laws.specs.Waiting.{acquiring, FixesNext}
use Rattle.lrc_protocol.specs.Node.{next_in}
use Rattle.lrc_order_laws.specs.Tokens.{HoldsTokens, AwaitsOne}
use Rattle.lrc_lock.specs.Held.{is_awaited}
use Rattle.lrc_order_laws.proofs.Shift.{Part, Moved, is_plain, Shift, plain, misses, takes, asks, releasing, arriving, manages, forwarding, grants}
use Rattle.lrc_order_laws.proofs.Shift.{departing, collecting, clean_at_once, discarding, accessing, still_misses, still_collects, cleaning, rests}
use Rattle.lrc_order_laws.proofs.Counts.{lock_next, departure_next, access_next}
use Rattle.lrc_order_laws.proofs.Holding.{Same, Takes, Drops, Goes, Went, went, Stands, stands, goes_now}
use Rattle.lrc_order_laws.proofs.Tokens.{set_kept, forward_held, taken_is, awaits_it, awaits_for}

-- ---- a text's setting

-- a text that goes on keeps its setting, and has a place for each of 64 locks
pub record IsText (s : Setting) (t : Thread) : Type 0 where
  pub setting : t.setting ≡ s
  pub places : length t.held ≡ 64

abbrev pub TextIs : Setting → Course → Type 0
TextIs s c = (t : Thread) → c ≡ going t → IsText s t

same_is : (s : Setting) (t after : Thread) → IsText s t → Same t after → IsText s after
same_is s t after i g = record { setting = g.setting ∙ i.setting; places = ap length g.held ∙ i.places }

takes_is : (s : Setting) (t after : Thread) (l : ℕ) → IsText s t → Takes t l after → IsText s after
takes_is s t after l i g = record { setting = g.setting ∙ i.setting; places = ap length g.held ∙ length-set t.held l true ∙ i.places }

drops_is : (s : Setting) (t after : Thread) (l : ℕ) → IsText s t → Drops t l after → IsText s after
drops_is s t after l i g = record { setting = g.setting ∙ i.setting; places = ap length g.held ∙ length-set t.held l false ∙ i.places }

goes_is : (s : Setting) (t after : Thread) (next : Next) → IsText s t → Goes t next after → IsText s after
goes_is s t after (acquires l a) i g = takes_is s t after l i g
goes_is s t after (releases l a) i g = drops_is s t after l i g
goes_is s t after _ i g = same_is s t after i g

pub text-kept : (s : Setting) (b : Bool) (c after : Course) (deed : Option Deed) → Moved b c deed after → TextIs s c → TextIs s after
text-kept s false c after deed m i t e = i t (sym m.course_is ∙ e)
text-kept s true c after deed m i t e =
    let w : (next : Next) × Went c next t = goes_now c after deed t m e in
    goes_is s w.1.thread t w.0 (i w.1.thread w.1.before_is) w.1.goes

-- ---- what the text holds

abbrev Agrees : Thread → HeldRecord → Type 0
Agrees t held = (lock : ℕ) → holds t lock ≡ is_held (lock_at held lock)

-- nothing changes on either side
agree_same : (t after : Thread) (held held' : HeldRecord) → after.held ≡ t.held
    → ((lock : ℕ) → is_held (lock_at held' lock) ≡ is_held (lock_at held lock)) → Agrees t held → Agrees after held'
agree_same t after held held' e same a lock = ap (λ h. slice_index_or h lock false) e ∙ a lock ∙ sym (same lock)

-- one lock changes on both
agree_one : (t after : Thread) (held : HeldRecord) (l : ℕ) (b : Bool) (s : LockState) → after.held ≡ slice_set t.held l b
    → l < length t.held → l < length held.locks → is_held s ≡ b → Agrees t held → Agrees after (with_lock held l s)
agree_one t after held l b s e in_text in_held is a lock = elim (cases_eq l lock) [
  | inl same ↦ subst (λ k. holds after k ≡ is_held (lock_at (with_lock held l s) k)) same
      (ap (λ h. slice_index_or h l false) e ∙ get_or-set_same t.held l b false in_text ∙ sym is
      ∙ ap is_held (sym (get_or-set_same held.locks l s Away in_held)))
  | inr ne ↦
      ap (λ h. slice_index_or h lock false) e ∙ get_or-set_other t.held l lock b false (λ e. ne (sym e)) ∙ a lock
      ∙ ap is_held (sym (get_or-set_other held.locks l lock s Away (λ e. ne (sym e))))
]

agree_released : (t after : Thread) (held : HeldRecord) (l : ℕ) (now : List ℕ) (s : LockState) → is_held s ≡ true → after.held ≡ slice_set t.held l false
    → l < length t.held → l < length held.locks → Agrees t held → Agrees after (held_after held l (released_at l now s))
agree_released t after held l now (Held None) h e in_text in_held a = agree_one t after held l false (Free now) e in_text in_held refl a
agree_released t after held l now (Held (Some waiter)) h e in_text in_held a = agree_one t after held l false Away e in_text in_held refl a
agree_released t after held l now Away h e in_text in_held a = cc
agree_released t after held l now (Awaited successor) h e in_text in_held a = cc
agree_released t after held l now (Free kept) h e in_text in_held a = cc

agree_granted : (t after : Thread) (held : HeldRecord) (l : ℕ) (s : LockState) → is_awaited s ≡ true → after.held ≡ slice_set t.held l true
    → l < length t.held → l < length held.locks → Agrees t held → Agrees after (held_after held l (granted_at s))
agree_granted t after held l (Awaited successor) h e in_text in_held a = agree_one t after held l true (Held successor) e in_text in_held refl a
agree_granted t after held l Away h e in_text in_held a = cc
agree_granted t after held l (Held successor) h e in_text in_held a = cc
agree_granted t after held l (Free kept) h e in_text in_held a = cc

plain_same : (t after : Thread) (next : Next) → is_plain next ≡ true → Goes t next after → Same t after
plain_same t after (acquires l a) e g = cc
plain_same t after (releases l a) e g = cc
plain_same t after _ e g = g

-- a lock that a text acquires is one of the program
pub acquired_below : (s : Setting) (c : Course) → TextIs s c → (lock : ℕ) → acquiring (next_in c) ≡ Some lock → lock < s.locks
acquired_below s c i lock n =
    let next : (x : Thread) × (next_in c ≡ Some (acquires lock x)) = lock_next (next_in c) lock n in
    let at : Stands c (acquires lock next.0) = stands c (acquires lock next.0) next.1 in
    subst (λ (x : Setting). lock < x.locks) (i at.thread at.course_is).setting at.leads_so.lock_below

module _ (p : Part) (s : Setting) (few : s.locks ≤ 64) (count : length p.locks.held.locks ≡ s.locks) (fits : FixesNext p.wait (next_in p.course))
    (text : TextIs s p.course) (waits : AwaitsOne p.wait p.locks.held) (a : HoldsTokens p.course p.locks.held) where
  next_then : (w : Wait) → p.wait ≡ w → FixesNext w (next_in p.course)
  next_then w e = subst (λ w. FixesNext w (next_in p.course)) e fits

  agreed : (t : Thread) → p.course ≡ going t → Agrees t p.locks.held
  agreed t e lock = a t e lock

  -- the same text, or one after an act that holds the same
  rested : (held : HeldRecord) (deed : Option Deed) (after : Course) → Moved false p.course deed after
      → ((lock : ℕ) → is_held (lock_at held lock) ≡ is_held (lock_at p.locks.held lock)) → HoldsTokens after held
  rested held deed after m same t e lock = a t (sym m.course_is ∙ e) lock ∙ sym (same lock)

  acted : (deed : Option Deed) (after : Course) (next : Next) → Moved true p.course deed after → next_in p.course ≡ Some next
      → ((t x : Thread) → Goes t next x → Same t x) → HoldsTokens after p.locks.held
  acted deed after next m n g t e =
      let w : Went p.course next t = went p.course after deed next t m n e in
      agree_same w.thread t p.locks.held p.locks.held (g w.thread t w.goes).held (λ lock. refl) (agreed w.thread w.before_is)

  in_text : (t : Thread) (l : ℕ) → p.course ≡ going t → l < t.setting.locks → l < length t.held
  in_text t l e lt =
      let below : l < s.locks = subst (λ (x : Setting). l < x.locks) (text t e).setting lt in
      let places : length t.held ≡ 64 = (text t e).places in
      omega (arith, below, few, places)

  in_held : (t : Thread) (l : ℕ) → p.course ≡ going t → l < t.setting.locks → l < length p.locks.held.locks
  in_held t l e lt = subst (λ k. l < k) (sym count) (subst (λ (s : Setting). l < s.locks) (text t e).setting lt)

  takes_holds : (lock : ℕ) (deed : Option Deed) (after : Course) → Moved true p.course deed after → acquiring (next_in p.course) ≡ Some lock
      → HoldsTokens after (with_lock p.locks.held lock (Held None))
  takes_holds lock deed after m n t e =
      let next : (x : Thread) × (next_in p.course ≡ Some (acquires lock x)) = lock_next (next_in p.course) lock n in
      let w : Went p.course (acquires lock next.0) t = went p.course after deed (acquires lock next.0) t m next.1 e in
      agree_one w.thread t p.locks.held lock true (Held None) w.goes.held (in_text w.thread lock w.before_is w.goes.lock_below)
      (in_held w.thread lock w.before_is w.goes.lock_below) refl (agreed w.thread w.before_is)

  grants_holds : (lock : ℕ) (deed : Option Deed) (after : Course) → Moved true p.course deed after → p.wait ≡ grant lock
      → HoldsTokens after (held_after p.locks.held lock (granted p.locks.held lock))
  grants_holds lock deed after m wait t e =
      let next : (x : Thread) × (next_in p.course ≡ Some (acquires lock x)) = lock_next (next_in p.course) lock (next_then (grant lock) wait) in
      let w : Went p.course (acquires lock next.0) t = went p.course after deed (acquires lock next.0) t m next.1 e in
      agree_granted w.thread t p.locks.held lock (lock_at p.locks.held lock) (awaits_it p.locks.held lock (awaits_for p (grant lock) wait waits))
      w.goes.held (in_text w.thread lock w.before_is w.goes.lock_below)
      (in_held w.thread lock w.before_is w.goes.lock_below) (agreed w.thread w.before_is)

  releases_holds : (lock : ℕ) (next : Thread) (now : List ℕ) (deed : Option Deed) (after : Course) → Moved true p.course deed after
      → next_in p.course ≡ Some (releases lock next) → HoldsTokens after (held_after p.locks.held lock (released p.locks.held lock now))
  releases_holds lock next now deed after m n t e =
      let w : Went p.course (releases lock next) t = went p.course after deed (releases lock next) t m n e in
      agree_released w.thread t p.locks.held lock now (lock_at p.locks.held lock) (sym (a w.thread w.before_is lock) ∙ w.goes.holding)
      w.goes.held (in_text w.thread lock w.before_is w.goes.lock_below)
      (in_held w.thread lock w.before_is w.goes.lock_below) (agreed w.thread w.before_is)

  not_held : (lock : ℕ) → acquiring (next_in p.course) ≡ Some lock → is_held (lock_at p.locks.held lock) ≡ false
  not_held lock n =
      let next : (x : Thread) × (next_in p.course ≡ Some (acquires lock x)) = lock_next (next_in p.course) lock n in
      let at : Stands p.course (acquires lock next.0) = stands p.course (acquires lock next.0) next.1 in
      sym (a at.thread at.course_is lock) ∙ at.leads_so.free

  pub holds-kept : (acts : Bool) (wait : Wait) (locks : Locks) (episode : ℕ) (deed : Option Deed) (after : Course)
      → Shift p acts wait locks episode → Moved acts p.course deed after → HoldsTokens after locks.held
  holds-kept _ _ _ _ deed after (plain next w n is) m = acted deed after next m n (λ t x g. plain_same t x next is g)
  holds-kept _ _ _ _ deed after (misses w n) m = rested p.locks.held deed after m (λ l. refl)
  holds-kept _ _ _ _ deed after (takes lock w n free) m =
      subst (HoldsTokens after) (sym (taken_is p.locks.held lock free)) (takes_holds lock deed after m n)
  holds-kept _ _ _ _ deed after (asks {lock = lock} w n away) m =
      rested (asked p.locks.held lock) deed after m (set_kept is_held p.locks.held lock (Awaited None) (sym (not_held lock n)))
  holds-kept _ _ _ _ deed after (releasing lock next w n) m = releases_holds lock next (next_time p.me p.locks.time) deed after m n
  holds-kept _ _ _ _ deed after (arriving next w n) m = acted deed after (arrives next) m n (λ t x g. g)
  holds-kept _ _ _ _ deed after (manages lock from) m = rested p.locks.held deed after m (λ l. refl)
  holds-kept _ _ _ _ deed after (forwarding lock asker time) m =
      rested (held_after p.locks.held lock (forwarded p.locks.held lock asker time)) deed after m (forward_held p.locks.held lock asker time)
  holds-kept _ _ _ _ deed after (grants lock time w k) m = grants_holds lock deed after m w
  holds-kept _ _ _ _ deed after (departing time w k) m =
      let next : (x : Thread) × (next_in p.course ≡ Some (departs x)) = departure_next (next_in p.course) (next_then departure w) in
      acted deed after (departs next.0) m next.1 (λ t x g. g)
  holds-kept _ _ _ _ deed after (collecting time w k same) m = rested p.locks.held deed after m (λ l. refl)
  holds-kept _ _ _ _ deed after (clean_at_once time w k same) m = rested p.locks.held deed after m (λ l. refl)
  holds-kept _ _ _ _ deed after (discarding collection w) m =
      let next : (x : Thread) × (next_in p.course ≡ Some (departs x)) = departure_next (next_in p.course) (next_then (discard collection) w) in
      acted deed after (departs next.0) m next.1 (λ t x g. g)
  holds-kept _ _ _ _ deed after (accessing need w) m =
      let next : (next : Next) × ((next_in p.course ≡ Some next) × (is_plain next ≡ true)) = access_next (next_in p.course) (next_then (access need) w) in
      acted deed after next.0 m next.1.0 (λ t x g. plain_same t x next.0 next.1.1 g)
  holds-kept _ _ _ _ deed after (still_misses before w) m = rested p.locks.held deed after m (λ l. refl)
  holds-kept _ _ _ _ deed after (still_collects before had w same) m = rested p.locks.held deed after m (λ l. refl)
  holds-kept _ _ _ _ deed after (cleaning before had w same) m = rested p.locks.held deed after m (λ l. refl)
  holds-kept _ _ _ _ deed after rests m = rested p.locks.held deed after m (λ l. refl)
