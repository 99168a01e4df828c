-- The move that each turn of a node makes at a lock, with what came and what it sends.
use Rattle.std.proofs.Common.{◌≡◌, ℕ, ◌<◌, List, [], length, map, refl, sym, subst}
use Rattle.std.specs.Prelude.{Some, None, if◌then◌else◌}
use Rattle.lrc_time.proofs.Times.{covers-refl}
use Rattle.lrc_lock.specs.Held.{lock_at}
use Rattle.lrc_protocol.specs.Node.{Letter, Node}
use Rattle.lrc_protocol.specs.Turn.{TurnRecord, empty_turn}
use Rattle.lrc_protocol.specs.Run.{Input}
use Rattle.lrc_order_laws.specs.Waiting.{acquiring, FixesNext}
use Rattle.lrc_protocol.specs.Node.{next_in}
use Rattle.lrc_order_laws.specs.Tokens.{HoldsTokens, AwaitsOne}
use Rattle.lrc_order_laws.proofs.Shift.{deed_made}
use Rattle.lrc_order_laws.proofs.Calls.{acquired}
use Rattle.lrc_order_laws.proofs.Pending.{new_of}
use Rattle.lrc_order_laws.proofs.Sends.{Came, by_itself, comes, site_of, letter_in, Sending, alone, repeats, anew}
use Rattle.lrc_order_laws.proofs.LockMoves.{status_of, Move, still, moves, no_deed}
use Rattle.lrc_order_laws.proofs.PendingGrants.{Brings, none, one}

pub record Moving (l : ℕ) (node : Node) (input : Input) (turn : TurnRecord) (after : Node) : Type 0 where
  pub came : Came
  pub letters : List Letter
  pub brought : Brings (new_of node input) came
  pub move : Move l (site_of node) came (deed_made turn) after.locks.time letters
      (status_of (lock_at node.locks.held l)) (status_of (lock_at after.locks.held l))
  pub out : map letter_in turn.out ≡ letters

module _ (l : ℕ) (node : Node) (fits : FixesNext node.mail.wait (next_in node.course)) (waits : AwaitsOne node.mail.wait node.locks.held)
    (holding : HoldsTokens node.course node.locks.held) (counted : length node.locks.held.locks ≡ node.setting.locks)
    (below : (lock : ℕ) → acquiring (next_in node.course) ≡ Some lock → lock < node.setting.locks) where
  pub moving : (input : Input) (turn : TurnRecord) (after : Node) → Sending node input turn after → Moving l node input turn after
  moving _ turn after (alone k) = record {
    came = by_itself;
    letters = k.letters;
    brought = none;
    move =
        moves l (site_of node) fits waits holding counted below (λ lock n. acquired node.course node.locks.held lock holding n)
        by_itself k.acts after.mail.wait after.locks after.barrier k.letters (deed_made turn) after.course k.sent k.moved;
    out = k.out;
  }
  moving _ _ _ (repeats e again) = record {
    came = by_itself;
    letters = [];
    brought = subst (λ b. Brings (if b then None else Some e) by_itself) (sym again) none;
    move = still refl (no_deed l (deed_made empty_turn) refl) tt (covers-refl node.locks.time);
    out = refl;
  }
  moving _ turn after (anew e to from new k) = record {
    came = comes e.from e.message;
    letters = k.letters;
    brought = subst (λ b. Brings (if b then None else Some e) (comes e.from e.message)) (sym new) (one e);
    move =
        moves l (site_of node) fits waits holding counted below (λ lock n. acquired node.course node.locks.held lock holding n)
        (comes e.from e.message) k.acts after.mail.wait after.locks after.barrier k.letters (deed_made turn) after.course k.sent k.moved;
    out = k.out;
  }
