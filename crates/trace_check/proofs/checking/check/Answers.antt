use Rattle.std.proofs.Common.{length, subst, sym}
use Rattle.std.specs.Prelude.{All}
use Rattle.trace_check.specs.Playing.{AsksOf}
use Rattle.trace_check.proofs.PlayLaws.{asks_in, few_in, is_text, is_verdict, is_yes}
use Rattle.trace_check.proofs.checking.check.Goals as goal

pub play_lines-requires-clause-few : goal.play_lines-requires-clause-few
play_lines-requires-clause-few c =
    rw c.as_slice.ensures (few_in c.args.trace.now c.requires)

pub play_lines-requires-clause-in_range : goal.play_lines-requires-clause-in_range
play_lines-requires-clause-in_range c =
    subst (All (AsksOf (length c.in_ok-core.core.cpus))) (sym c.as_slice.ensures)
    (asks_in c.args.trace.now c.in_ok-core.core c.requires c.in_ok-core.ensures)

pub returns-clause-verdict : goal.returns-clause-verdict
returns-clause-verdict c =
    is_verdict c.args.trace.now c.in_ok-core.core c.in_ok-core.ensures
    c.as_slice.result.now c.as_slice.ensures c.in_ok-verdict.verdict
    c.new-told.result c.play_lines.new.out c.in_ok-verdict.ensures

pub returns-clause-yes : goal.returns-clause-yes
returns-clause-yes c =
    is_yes c.args.trace.now c.in_ok-core.core c.in_ok-core.ensures
    c.as_slice.result.now c.as_slice.ensures c.in_ok-verdict.verdict
    c.new-told.result c.play_lines.new.out c.in_ok-verdict.ensures

pub returns-clause-text : goal.returns-clause-text
returns-clause-text c =
    is_text c.args.trace.now c.in_ok-core.core c.in_ok-core.ensures
    c.as_slice.result.now c.as_slice.ensures c.in_ok-verdict.verdict
    c.new-told.result c.play_lines.new.out c.in_ok-verdict.ensures
    c.new-told.ensures c.args.out.now c.append.new.self c.in_ok-append.ensures.ok
