-- The tokens of a node that is reached.
use Rattle.std.proofs.Common.{◌≡◌, ℕ, ◌<◌, true, false, length, refl, sym, subst}
use Rattle.std.specs.Prelude.{Some}
use Rattle.lrc_exec.specs.Meaning.{Setting, Thread, releases}
use Rattle.lrc_exec.specs.Plain.{setting_of}
use Rattle.lrc_lock.specs.declared.state.LockState.{LockState}
use Rattle.lrc_lock.specs.declared.state.LockState.TheVariants.{Away, Awaited, Free, Held}
use Rattle.lrc_lock.specs.Held.{lock_at, is_free, is_held}
use Rattle.lrc_protocol.specs.Node.{nothing, grant, Node}
use Rattle.lrc_order_laws.specs.Waiting.{acquiring, FixesNext}
use Rattle.lrc_protocol.specs.Node.{next_in}
use Rattle.lrc_order_laws.specs.Shape.{HasShape}
use Rattle.lrc_order_laws.specs.Tokens.{AwaitsOne}
use Rattle.lrc_lock.specs.Held.{is_awaited}
use Rattle.lrc_order_laws.proofs.Calls.{acquired, let_go, granted_is_awaited}
use Rattle.lrc_order_laws.proofs.Holding.{Stands, stands}
use Rattle.lrc_order_laws.proofs.TextHolds.{acquired_below}
use Rattle.lrc_node_laws.specs.Reached.{IsReached}
use Rattle.lrc_node_laws.proofs.Reach.{Come, come}

pub come_to : (node : Node) (r : IsReached node) → Come r.program r.nodes r.options r.me r.leads.among (record { node = node; turns = r.turns })
come_to node r = come r.program r.nodes r.options r.me r.leads.among (record { node = node; turns = r.turns }) r.leads

pub is_set : (node : Node) (r : IsReached node) → node.setting ≡ setting_of r.program r.nodes r.me
is_set node r = (come_to node r).tokened.shape.setting

pub is_shaped : (node : Node) → IsReached node → HasShape node.setting node.locks
is_shaped node r = subst (λ s. HasShape s node.locks) (sym (is_set node r)) (come_to node r).tokened.shape.shape

-- a lock of the program has a token here
in_place : (node : Node) (r : IsReached node) (lock : ℕ) → lock < (setting_of r.program r.nodes r.me).locks → lock < length node.locks.held.locks
in_place node r lock lt = subst (λ n. lock < n) (sym (come_to node r).tokened.shape.shape.tokens) lt

pub acquired-in_place : (node : Node) (r : IsReached node) (lock : ℕ) → acquiring (next_in node.course) ≡ Some lock → lock < length node.locks.held.locks
acquired-in_place node r lock n =
    in_place node r lock (acquired_below (setting_of r.program r.nodes r.me) node.course (come_to node r).tokened.text lock n)

pub released-in_place : (node : Node) (r : IsReached node) (lock : ℕ) (after : Thread) → next_in node.course ≡ Some (releases lock after)
    → lock < length node.locks.held.locks
released-in_place node r lock after n =
    let at : Stands node.course (releases lock after) = stands node.course (releases lock after) n in
    in_place node r lock
    (subst (λ (x : Setting). lock < x.locks) ((come_to node r).tokened.text at.thread at.course_is).setting at.leads_so.lock_below)

pub not_held : (node : Node) (r : IsReached node) (lock : ℕ) → acquiring (next_in node.course) ≡ Some lock → is_held (lock_at node.locks.held lock) ≡ false
not_held node r lock n = acquired node.course node.locks.held lock (come_to node r).tokened.holding n

pub held_here : (node : Node) (r : IsReached node) (lock : ℕ) (after : Thread) → next_in node.course ≡ Some (releases lock after)
    → is_held (lock_at node.locks.held lock) ≡ true
held_here node r lock after n = let_go node.course node.locks.held lock after (come_to node r).tokened.holding n

pub granted-in_place : (node : Node) (r : IsReached node) (lock : ℕ) → node.mail.wait ≡ grant lock → lock < length node.locks.held.locks
granted-in_place node r lock w =
    acquired-in_place node r lock (subst (λ w. FixesNext w (next_in node.course)) w (come_to node r).tokened.fits)

pub awaited_here : (node : Node) (r : IsReached node) (lock : ℕ) → node.mail.wait ≡ grant lock → is_awaited (lock_at node.locks.held lock) ≡ true
awaited_here node r lock w = granted_is_awaited node.mail.wait node.locks.held lock (come_to node r).tokened.waits w

away_by : (s : LockState) → is_held s ≡ false → is_free s ≡ false → is_awaited s ≡ false → s ≡ Away
away_by Away h f a = refl
away_by (Awaited successor) h f a = cc
away_by (Free kept) h f a = cc
away_by (Held successor) h f a = cc

pub away : (node : Node) (r : IsReached node) (lock : ℕ) → node.mail.wait ≡ nothing → acquiring (next_in node.course) ≡ Some lock
    → is_free (lock_at node.locks.held lock) ≡ false → lock_at node.locks.held lock ≡ Away
away node r lock w n f =
    away_by (lock_at node.locks.held lock) (not_held node r lock n) f
    (subst (λ w. AwaitsOne w node.locks.held) w (come_to node r).tokened.waits lock)
