use Rattle.std.proofs.Common.{sym, ◌∙◌, rules}
use Rattle.tree_plan.proofs.Children.{firsts_more, firsts_done}
use Rattle.tree_plan.proofs.cutting.first_children.Goals as goal

pub loop-group-preserved : goal.loop-group-preserved
loop-group-preserved c =
    let l = c.loop-group in
    record {
      few = (search rules);
      rest = firsts_more l.group-index l.next c.from-next.result c.args.groups.now _ l.firsts.items c.push.new.self.items c.loop-group-test.true c.from-next.ensures c.in_ok-push.ensures.items ∙ l.invariant.rest;
    }

pub returns : goal.returns
returns c =
    let l = c.loop-group in
    sym (firsts_done l.group-index l.next c.args.groups.now l.firsts.items c.loop-group-test.false) ∙ l.invariant.rest
