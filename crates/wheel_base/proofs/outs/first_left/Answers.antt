use Rattle.std.proofs.Common.{◌≡◌, ◌∙◌, Some, rules}
use Rattle.wheel_base.proofs.Marked.{first_stays}
use Rattle.wheel_base.proofs.outs.first_left.Goals as goal

pub returns-then-has_more : goal.returns-then-has_more
returns-then-has_more c =
    let same : c.args.before ≡ Some c.args.gone.now.wheel = search rules in
    same
    ∙ first_stays c.args.gone.now.level c.args.gone.now.wheel c.args.store.now.filed c.requires.level c.requires.granule
    (c.requires.near same) (c.has_more.ensures c.if-has_more.true)

pub first_from-requires-clause-near : goal.first_from-requires-clause-near
first_from-requires-clause-near c =
    let same : c.args.before ≡ Some c.args.gone.now.wheel = search rules in
    c.requires.near same
