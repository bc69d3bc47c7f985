use Rattle.std.proofs.Common.{◌≡◌, ap, ◌∙◌, subst, OnOk}
use Rattle.std.specs.Prelude.{Bool}
use Rattle.linux_seen.specs.declared.seen.GroupSeen.{GroupSeen}
use Rattle.linux_seen.specs.Seen.{group_at}
use Rattle.linux_rules.specs.Exchanges.{group_after, with_group, with_word}
use Rattle.linux_rules.proofs.exchanges.learn_word.Goals as goal

pub returns : goal.returns
unfolding with_word
returns c =
    subst (λ (g : GroupSeen). OnOk c.put_group.result
    (c.put_group.new.self ≡ with_group c.args.seen.now g))
    (c.group_after.ensures
    ∙ ap (λ (g : GroupSeen). group_after g c.args.exchange.now c.args.word c.some_late-late.result)
    c.group-group.ensures
    ∙ ap (λ (b : Bool). group_after
    (group_at c.args.seen.now c.args.exchange.now.place.group) c.args.exchange.now c.args.word b)
    c.some_late-late.ensures)
    (c.put_group.ensures).ok
