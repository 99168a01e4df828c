-- How many messages and successors point to a node and away from it, for one lock; and how a passing keeps the balance.
use Rattle.std.proofs.Common.{◌≡◌, ◌⊎◌, ℕ, ◌+◌, ◌<◌, inl, inr, List, cond, refl, ap, arith}
use Rattle.std.specs.Prelude.{Option, Some, None, ◌==◌}
use Rattle.std.proofs.lemmas.Bool.{eq-eqb, ne_eqb}
use Rattle.lrc_lock.specs.declared.state.Waiter.{Waiter}
use Rattle.lrc_lock.specs.declared.state.LockState.{LockState}
use Rattle.lrc_lock.specs.declared.state.LockState.TheVariants.{Away, Awaited, Free, Held}
use Rattle.lrc_order_laws.proofs.LockMessages.{Saying, request, asks, about, onto, granted_to}
use Rattle.lrc_order_laws.proofs.LockPasses.{Passing, same, takes, requests, keeps, passes, manages, notes_awaited, notes_held, gives, gets}

-- 1 for who awaits the token; who has it; who has a successor; and whose successor is node n
abbrev pub awaits : LockState → ℕ
awaits (Awaited next) = 1
awaits _ = 0

abbrev pub has : LockState → ℕ
has (Free kept) = 1
has (Held next) = 1
has _ = 0

abbrev pub some_of : Option Waiter → ℕ
some_of None = 0
some_of (Some w) = 1

abbrev pub is_waiter : ℕ → Option Waiter → ℕ
is_waiter n None = 0
is_waiter n (Some w) = cond (w.node == n) 1 0

abbrev pub leads : LockState → ℕ
leads (Awaited next) = some_of next
leads (Held next) = some_of next
leads _ = 0

abbrev pub leads_to : ℕ → LockState → ℕ
leads_to n (Awaited next) = is_waiter n next
leads_to n (Held next) = is_waiter n next
leads_to n _ = 0

abbrev pub is_node : ℕ → ℕ → ℕ
is_node a n = cond (a == n) 1 0

-- For a node: how many pending messages say that it asks, that a request of its is passed on, that one is passed on to it, and
-- that it is granted the lock; and at how many nodes it is the successor.
pub record Numbers : Type 0 where
  pub asked : ℕ
  pub passed : ℕ
  pub taking : ℕ
  pub granted : ℕ
  pub pointed : ℕ

-- Who awaits the token asks, or stands in the queue, pointed to once, or is granted it, one of these once. Who stands in the
-- queue, and nobody else, points on to another, by a request that is passed on to it or by its successor, but for the last,
-- who asked last.
pub record Balanced (n recent : ℕ) (k : Numbers) (s : LockState) : Type 0 where
  pub stands : k.asked + k.passed + k.pointed + k.granted ≡ awaits s
  pub points : k.taking + leads s + is_node recent n ≡ k.passed + k.pointed + k.granted + has s

-- what comes is taken away, and what is sent is added
pub record Changes (me n from : ℕ) (brings : Saying) (to : ℕ) (sends : Saying) (s s' : LockState) (k k' : Numbers) : Type 0 where
  pub asked : k'.asked + cond (asks n from me brings) 1 0 ≡ k.asked + cond (asks n me to sends) 1 0
  pub passed : k'.passed + cond (about n from me brings) 1 0 ≡ k.passed + cond (about n me to sends) 1 0
  pub taking : k'.taking + cond (onto n from me brings) 1 0 ≡ k.taking + cond (onto n me to sends) 1 0
  pub granted : k'.granted + cond (granted_to n from me brings) 1 0 ≡ k.granted + cond (granted_to n me to sends) 1 0
  pub pointed : k'.pointed + leads_to n s ≡ k.pointed + leads_to n s'

module _ (me recent : ℕ) (k k' : Numbers) where
  -- at the node itself
  module _ (one : is_node me me ≡ 1) where
    own : (from : ℕ) (brings : Saying) (to : ℕ) (sends : Saying) (recent' : ℕ) (s s' : LockState) → Passing me recent from brings to sends recent' s s'
        → Changes me me from brings to sends s s' k k' → Balanced me recent k s → Balanced me recent' k' s'
    own from _ to _ _ s _ same c b = record { stands = omega arith; points = omega arith }
    own from _ to _ _ _ _ (takes kept) c b = record { stands = omega arith; points = omega arith }
    own from _ to _ _ _ _ requests c b = record { stands = omega arith; points = omega arith }
    own from _ to _ _ _ _ (keeps kept) c b = record { stands = omega arith; points = omega arith }
    own from _ _ _ _ _ _ (passes w) c b = record { stands = omega arith; points = omega arith }
    own _ _ _ _ _ s _ (manages from) c b = record { stands = omega arith; points = omega arith }
    own from _ to _ _ _ _ (notes_awaited w) c b = record { stands = omega arith; points = omega arith }
    own from _ to _ _ _ _ (notes_held w) c b = record { stands = omega arith; points = omega arith }
    own from _ _ _ _ _ _ (gives w kept) c b = record { stands = omega arith; points = omega arith }
    own from _ to _ _ _ _ (gets next) c b = record { stands = omega arith; points = omega arith }

  -- at another
  module _ (n : ℕ) (none : is_node me n ≡ 0) (there : LockState) where
    other : (from : ℕ) (brings : Saying) (to : ℕ) (sends : Saying) (recent' : ℕ) (s s' : LockState) → Passing me recent from brings to sends recent' s s'
        → Changes me n from brings to sends s s' k k' → Balanced n recent k there → Balanced n recent' k' there
    other from _ to _ _ s _ same c b = record { stands = omega arith; points = omega arith }
    other from _ to _ _ _ _ (takes kept) c b = record { stands = omega arith; points = omega arith }
    other from _ to _ _ _ _ requests c b = record { stands = omega arith; points = omega arith }
    other from _ to _ _ _ _ (keeps kept) c b = record { stands = omega arith; points = omega arith }
    other from _ _ _ _ _ _ (passes w) c b = record { stands = omega arith; points = omega arith }
    other _ _ _ _ _ s _ (manages from) c b = record { stands = omega arith; points = omega arith }
    other from _ to _ _ _ _ (notes_awaited w) c b = record { stands = omega arith; points = omega arith }
    other from _ to _ _ _ _ (notes_held w) c b = record { stands = omega arith; points = omega arith }
    other from _ _ _ _ _ _ (gives w kept) c b = record { stands = omega arith; points = omega arith }
    other from _ to _ _ _ _ (gets next) c b = record { stands = omega arith; points = omega arith }

pub balanced-own : (me recent : ℕ) (k k' : Numbers) (from : ℕ) (brings : Saying) (to : ℕ) (sends : Saying) (recent' : ℕ) (s s' : LockState)
    → Passing me recent from brings to sends recent' s s' → Changes me me from brings to sends s s' k k' → Balanced me recent k s → Balanced me recent' k' s'
balanced-own me recent k k' from brings to sends recent' s s' p c b =
    own me recent k k' (ap (λ b. cond b 1 0) (eq-eqb me me refl)) from brings to sends recent' s s' p c b

pub balanced-other : (me n recent : ℕ) (k k' : Numbers) (there : LockState) (from : ℕ) (brings : Saying) (to : ℕ) (sends : Saying) (recent' : ℕ)
    (s s' : LockState)
    → (me ≡ n → ⊥) → Passing me recent from brings to sends recent' s s' → Changes me n from brings to sends s s' k k'
    → Balanced n recent k there → Balanced n recent' k' there
balanced-other me n recent k k' there from brings to sends recent' s s' ne p c b =
    other me recent k k' n (ap (λ b. cond b 1 0) (ne_eqb me n ne)) there from brings to sends recent' s s' p c b

-- who passes nothing on keeps no note of who asked last, whatever it is
pub retargeted : (me r r' recent from : ℕ) (brings : Saying) (to : ℕ) (sends : Saying) (s s' : LockState) → (brings ≡ request → ⊥)
    → Passing me r from brings to sends r' s s' → Passing me recent from brings to sends recent s s'
retargeted me r _ recent from _ to _ s _ ne same = same
retargeted me r _ recent from _ to _ _ _ ne (takes kept) = takes kept
retargeted me r _ recent from _ to _ _ _ ne requests = requests
retargeted me r _ recent from _ to _ _ _ ne (keeps kept) = keeps kept
retargeted me r _ recent from _ _ _ _ _ ne (passes w) = passes w
retargeted me r _ recent _ _ _ _ s _ ne (manages from) = absurd (ne refl)
retargeted me r _ recent from _ to _ _ _ ne (notes_awaited w) = notes_awaited w
retargeted me r _ recent from _ to _ _ _ ne (notes_held w) = notes_held w
retargeted me r _ recent from _ _ _ _ _ ne (gives b kept) = gives b kept
retargeted me r _ recent from _ to _ _ _ ne (gets next) = gets next

-- ---- what the balance says

-- to who a request is passed on has no successor, and has the token or awaits it
pub takes_on : (n recent : ℕ) (k : Numbers) (s : LockState) → Balanced n recent k s → 0 < k.taking
    → (s ≡ Awaited None) ⊎ (s ≡ Held None) ⊎ ((kept : List ℕ) × (s ≡ Free kept))
takes_on n recent k (Awaited None) b some = inl refl
takes_on n recent k (Held None) b some = inr (inl refl)
takes_on n recent k (Free kept) b some = inr (inr (kept, refl))
takes_on n recent k Away b some = let y = b.stands in let z = b.points in absurd (omega (arith, y, z, some))
takes_on n recent k (Awaited (Some w)) b some = let y = b.stands in let z = b.points in absurd (omega (arith, y, z, some))
takes_on n recent k (Held (Some w)) b some = let y = b.stands in let z = b.points in absurd (omega (arith, y, z, some))

-- who is granted the lock awaits it
pub granted_awaits : (n recent : ℕ) (k : Numbers) (s : LockState) → Balanced n recent k s → 0 < k.granted → awaits s ≡ 1
granted_awaits n recent k (Awaited next) b some = refl
granted_awaits n recent k (Held next) b some = let y = b.stands in absurd (omega (arith, y, some))
granted_awaits n recent k (Free kept) b some = let y = b.stands in absurd (omega (arith, y, some))
granted_awaits n recent k Away b some = let y = b.stands in absurd (omega (arith, y, some))

-- who asks is not the one who asked last
pub asker_is_another : (n recent : ℕ) (k : Numbers) (s : LockState) → Balanced n recent k s → 0 < k.asked → is_node recent n ≡ 0
asker_is_another n recent k (Awaited next) b some = let y = b.stands in let z = b.points in omega (arith, y, z, some)
asker_is_another n recent k (Held next) b some = let y = b.stands in absurd (omega (arith, y, some))
asker_is_another n recent k (Free kept) b some = let y = b.stands in absurd (omega (arith, y, some))
asker_is_another n recent k Away b some = let y = b.stands in absurd (omega (arith, y, some))
