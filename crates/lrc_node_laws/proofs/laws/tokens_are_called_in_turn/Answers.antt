use Rattle.lrc_node_laws.proofs.Tokened.{come_to, is_shaped, acquired-in_place, released-in_place, granted-in_place, not_held, held_here, awaited_here, away}
use Rattle.lrc_node_laws.proofs.laws.tokens_are_called_in_turn.Goals as goal

pub returns-clause-shape : goal.returns-clause-shape
returns-clause-shape c = λ node r. is_shaped node r

pub returns-clause-acquire : goal.returns-clause-acquire
returns-clause-acquire c = λ node lock r n. (acquired-in_place node r lock n, not_held node r lock n)

pub returns-clause-ask : goal.returns-clause-ask
returns-clause-ask c = λ node lock r w n f. away node r lock w n f

pub returns-clause-release : goal.returns-clause-release
returns-clause-release c = λ node lock after r n. (released-in_place node r lock after n, held_here node r lock after n)

pub returns-clause-grant : goal.returns-clause-grant
returns-clause-grant c = λ node lock r w. (granted-in_place node r lock w, awaited_here node r lock w)

pub returns-clause-waits : goal.returns-clause-waits
returns-clause-waits c = λ node r. (come_to node r).tokened.fits
