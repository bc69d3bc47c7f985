use Rattle.std.proofs.Common.{◌≡◌, ◌++◌, drop}
use Rattle.page_rows.specs.Sheets.{heads_from}
use Rattle.page_rows.proofs.heads.push_heads.Given as goal

abbrev pub invariant-loop-cpu : goal.invariant-loop-cpu
invariant-loop-cpu l =
    record {
      text :
          l.text.items ++ heads_from l.width l.gap (drop l.cpu-index l.cpus)
          ≡ l.fn.text.items ++ heads_from l.width l.first l.cpus;
    }
