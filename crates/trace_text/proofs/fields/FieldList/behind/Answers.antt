use Rattle.trace_text.proofs.FieldLists.{some_room, grown}
use Rattle.trace_text.proofs.fields.FieldList.behind.Goals as goal

pub overflow_sub-first : goal.overflow_sub-first
overflow_sub-first c = some_room c.self.inside.fields c.self.inside.first c.args.self c.self.invariant c.self.view_is c.requires

pub returns : goal.returns
returns c = grown c.self.inside.fields c.self.inside.first c.args.field c.args.self c.self.invariant c.self.view_is c.requires
