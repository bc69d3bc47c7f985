use Rattle.std.proofs.Common.{arith, ◌<◌, ◌∙◌, length-set}
use Rattle.shared_rows.proofs.Looks.{is_of_run, others_too}
use Rattle.shared_rows.proofs.runs.see_all.Goals as goal

pub see_words-requires : goal.see_words-requires
see_words-requires g c =
    let passes = c.loop-i.passes in
    let low : c.loop-i.i < passes.len
    = let test = c.loop-i-test.true in
    let len = c.loop-i.invariant.len in
    let end = c.len-i-end.ensures in
    omega (arith, test, len, end) in
    is_of_run g.N.RunName.table c.args.first c.loop-i.i passes.len passes.items
    c.index_mut.result.now c.loop-i.invariant.each passes.ok.0 low c.index_mut.ensures.value

pub loop-i-preserved : goal.loop-i-preserved
loop-i-preserved g c =
    let passes = c.loop-i.passes in
    let low : c.loop-i.i < passes.len
    = let test = c.loop-i-test.true in
    let len = c.loop-i.invariant.len in
    let end = c.len-i-end.ensures in
    omega (arith, test, len, end) in
    record {
      count =
          length-set passes.items c.loop-i.i c.see_words.new.pass ∙ c.loop-i.invariant.count;
      len = c.loop-i.invariant.len;
      each =
          others_too g.N.RunName.table c.args.first c.loop-i.i passes.len passes.items
          c.index_mut.result.now c.loop-i.invariant.each passes.ok.0 low
          c.index_mut.ensures.value c.see_words.new.pass c.see_words.ensures;
    }
