use Rattle.std.proofs.Common.{rules, refl, ◌∙◌}
use Rattle.trace_text.proofs.TraceLaws.{read_found, refused_lines, refused_machine}
use Rattle.trace_text.proofs.reading.read_behind.Goals as goal

pub returns-in-Err-read_as_script-clause-err : goal.returns-in-Err-read_as_script-clause-err
returns-in-Err-read_as_script-clause-err c =
    let h = c.in-Some.head in
    refused_machine c.args.bytes.now h.nodes.now h.cpus.now h.timers.now h.isolated.now h.behind.now c.in-Some.ensures.found
    c.deref.result.now c.in-Err-read_as_script.fault (c.deref.ensures.value ∙ c.in_ok-text.ensures) c.in-Err-read_as_script.ensures.err

pub returns-in-Ok-read_lines-clause-ok : goal.returns-in-Ok-read_lines-clause-ok
returns-in-Ok-read_lines-clause-ok c =
    let h = c.in-Some.head in
    read_found c.args.bytes.now h.nodes.now h.cpus.now h.timers.now h.isolated.now h.behind.now c.in-Some.ensures.found
    c.deref.result.now c.in-Ok-read_as_script.script (c.deref.ensures.value ∙ c.in_ok-text.ensures) c.in-Ok-read_as_script.ensures.ok
    c.in-Ok-read_lines.lines _ refl (search rules)

pub returns-clause-err : goal.returns-clause-err
returns-clause-err c =
    let h = c.in-Some.head in
    refused_lines c.args.bytes.now h.nodes.now h.cpus.now h.timers.now h.isolated.now h.behind.now c.in-Some.ensures.found
    c.deref.result.now c.in-Ok-read_as_script.script (c.deref.ensures.value ∙ c.in_ok-text.ensures) c.in-Ok-read_as_script.ensures.ok
    c.law_faults.ensures c.in-Err-read_lines.fault (search rules)
