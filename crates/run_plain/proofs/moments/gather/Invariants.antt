use Rattle.std.proofs.Common.{◌≡◌, ◌+◌, ◌++◌}
use Rattle.std.specs.Prelude.{take}
use Rattle.std.specs.List.{flat_map, sum_by}
use Rattle.play_rules.specs.Parts.{Gains, Progress, counted}
use Rattle.run_plain.proofs.moments.gather.Given as goal

abbrev pub invariant-loop-part : goal.invariant-loop-part
invariant-loop-part l =
    record {
      text : l.telling.text
          ≡ l.fn.telling.text ++ flat_map (λ (t : Progress). t.text) (take l.part-index l.own);
      work : counted l.telling.work
          ≡ counted (l.fn.telling.work
          + sum_by (λ (t : Progress). t.work) (take l.part-index l.own));
      gains : Gains l.fn.telling.text l.telling.text;
    }
