use Rattle.lrc_order_laws.proofs.Shape.{shape_at}
use Rattle.lrc_order_laws.proofs.laws.nodes_keep_their_shape.Goals as goal

pub returns-clause-setting : goal.returns-clause-setting
returns-clause-setting c = λ program nodes options events world n l e at.
    ((shape_at program nodes options events world n l e at).setting, (shape_at program nodes options events world n l e at).options)

pub returns-clause-shape : goal.returns-clause-shape
returns-clause-shape c = λ program nodes options events world n l e at. (shape_at program nodes options events world n l e at).shape
