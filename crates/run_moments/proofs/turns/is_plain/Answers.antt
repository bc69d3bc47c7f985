use Rattle.std.proofs.Common.{◌∙◌, rules, sym, tests}
use Rattle.std.proofs.lemmas.Iterator.{YieldsList-from_slice}
use Rattle.std.proofs.lemmas.Iterator.Search.{any_from_yields_List}
use Rattle.tm_script.specs.declared.syntax.Op.{Op}
use Rattle.run_plain.specs.run_story.Stories.{is_hotplug}
use Rattle.run_moments.proofs.Plain.{not_plain, some_ops}
use Rattle.run_moments.proofs.turns.is_plain.Goals as goal

pub returns-else-is_empty : goal.returns-else-is_empty
returns-else-is_empty c =
    let ops = c.args.ops.now in
    let none =
    any_from_yields_List (λ (o : Op). is_hotplug o.what) _ _ c.any.result c.any.ensures.ran
    (YieldsList-from_slice ops cc) (λ x b q k. search (rules, tests)) in
    c.if-is_empty.false
    ∙ sym (not_plain c.args.cpus c.args.due.now ops (sym none ∙ c.if-any.false)
    (some_ops ops c.is_empty.result c.is_empty.ensures c.if-is_empty.false))
