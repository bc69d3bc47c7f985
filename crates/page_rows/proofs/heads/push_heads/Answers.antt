use Rattle.std.proofs.Common.{refl}
use Rattle.page_rows.proofs.WordLaws.{heads_end, heads_next}
use Rattle.page_rows.proofs.heads.push_heads.Goals as goal

pub loop-cpu-preserved : goal.loop-cpu-preserved
loop-cpu-preserved c = record {
  text =
      heads_next c.args.width c.loop-cpu.gap c.in_ok-gap.gap c.loop-cpu.cpu-index c.args.cpus.now
      _ _ c.loop-cpu.text.items c.push_head.new.text.items _ c.loop-cpu-test.true refl
      c.loop-cpu.invariant.text c.in_ok-gap.ensures.text c.in_ok-gap.ensures.next;
}

pub returns : goal.returns
returns c =
    heads_end c.args.width c.loop-cpu.gap c.loop-cpu.cpu-index c.args.cpus.now
    c.loop-cpu.text.items _ c.loop-cpu-test.false c.loop-cpu.invariant.text
