use Rattle.std.proofs.Common.{◌∷◌, ◌++◌, true, false, sym, ap, ◌∙◌, arith}
use Rattle.std.specs.Prelude.{codes}
use Rattle.std.specs.Fmt.{decimal}
use Rattle.std.proofs.lemmas.List.{append-nil}
use Rattle.tm_script.proofs.PrintLaws.{printed_none, isolated_more, isolated_done}
use Rattle.tm_script.proofs.print.push_isolated.Goals as goal
use Rattle.tm_script.proofs.print.push_isolated.Goals.{then-has+in_ok-push_next, else-has}

pub loop-cpu-init : goal.loop-cpu-init
loop-cpu-init c = c.in_ok-push_bytes.ensures.ok ∙ ap (λ r. c.args.text.now.items ++ (codes "isolated" ++ r)) (sym (printed_none c.args.cpus.now))

pub loop-cpu-preserved : goal.loop-cpu-preserved
loop-cpu-preserved c =
    elim c.if-has.branch [
      | then-has+in_ok-push_next w ↦
          rw w.text-is
          (isolated_more c.args.text.now.items c.loop-cpu.text.items _ c.loop-cpu.cpu c.args.cpus.now true (sym c.has.ensures.found ∙ w.if-has.true) c.loop-cpu.invariant
          (w.in_ok-push_next.ensures ∙ ap (λ n. c.loop-cpu.text.items ++ 32 ∷ decimal n) w.from.ensures))
      | else-has w ↦
          rw w.text-is
          (isolated_more c.args.text.now.items c.loop-cpu.text.items _ c.loop-cpu.cpu c.args.cpus.now false (sym c.has.ensures.found ∙ w.if-has.false) c.loop-cpu.invariant (sym (append-nil c.loop-cpu.text.items)))
    ]

pub returns : goal.returns
returns c =
    isolated_done c.args.text.now.items c.loop-cpu.text.items _ c.loop-cpu.cpu c.args.count c.args.cpus.now (omega arith) c.loop-cpu.invariant c.in_ok-push_bytes-2.ensures.ok
