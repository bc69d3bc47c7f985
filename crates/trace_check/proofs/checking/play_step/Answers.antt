use Rattle.std.proofs.Common.{refl}
use Rattle.std.proofs.lemmas.Bool.{false≢true}
use Rattle.trace_check.proofs.PlayLaws.{made_on, refused_on}
use Rattle.trace_check.proofs.checking.play_step.Goals as goal

pub returns-then-not-enabled-clause-plays : goal.returns-then-not-enabled-clause-plays
returns-then-not-enabled-clause-plays g c =
    refused_on c.args.core.now c.args.core.now c.args.made c.args.step c.args.out.now
    c.push.new.self c.in_ok-push.ensures.ok (λ can. false≢true (c.if-not-enabled.ensures.1 can))

pub returns-clause-plays : goal.returns-clause-plays
returns-clause-plays g c =
    made_on c.args.core.now c.apply.new.core c.args.made c.args.step c.args.out.now
    (c.if-not-enabled.ensures.0 refl) c.in_ok-apply.ensures.ok
