use Rattle.trace_check.proofs.asking.why.Goals as goal

pub first_for-requires-clause-covered : goal.first_for-requires-clause-covered
first_for-requires-clause-covered g c =
    c.law_covered.ensures c.args.core.now c.tree.ensures.lawful c.args.cpu.0 c.in-Some.item
    c.in-Some.ensures.asked.waiting
