use Rattle.std.proofs.Common.{sym, subst, ◌∙◌}
use Rattle.group_word.specs.State.{IsStateOf}
use Rattle.core_world.specs.World.{group_of}
use Rattle.shared_rule.specs.Whole.{group_state}
use Rattle.shared_table.proofs.Spellings.{group_is, state_is}
use Rattle.shared_table.proofs.groups.read_group.Goals as goal

pub unreachable-requires : goal.unreachable-requires
unreachable-requires c =
    let w = c.requires.rest.0 in
    let t = state_is c.core_laws.ensures c.law_ways_back.ensures c.args.words.now w
    c.requires.rest.1 c.args.group.0 c.requires.low in
    c.in-None.ensures.none (group_state (group_of w c.args.group.0) t.0)
    (subst (λ n. IsStateOf n (group_state (group_of w c.args.group.0) t.0)) (sym c.get.ensures) t.1)

pub returns : goal.returns
returns c = λ w r.
    c.from_parts.ensures
    ∙ group_is c.core_laws.ensures c.law_ways_back.ensures c.args.words.now w r c.args.group.0
    c.requires.low c.in-Some.state c.read_events-events.result
    (subst (λ n. IsStateOf n c.in-Some.state) c.get.ensures c.in-Some.ensures.found)
    c.read_events-events.ensures.eight c.read_events-events.ensures.each
