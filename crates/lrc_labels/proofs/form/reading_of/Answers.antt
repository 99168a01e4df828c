use Rattle.lrc_labels.proofs.Forms.{few_fields}
use Rattle.lrc_labels.proofs.form.reading_of.Goals as goal

pub returns-in-empty-clause-is : goal.returns-in-empty-clause-is
returns-in-empty-clause-is c = few_fields c.args.words c.args.locks (λ field. field.now) c.args.fields.now c.in-empty.len_below
