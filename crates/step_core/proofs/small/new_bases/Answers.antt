use Rattle.std.proofs.Common.{◌≡◌, ◌+◌, ◌∷◌, [], length, length-append, ap, subst, sym, ◌∙◌}
use Rattle.std.specs.Prelude.{All}
use Rattle.std.proofs.lemmas.List.Elements.{All-push}
use Rattle.cpu_bases.specs.CpuBases.{RoomyBases, empty_bases}
use Rattle.step_core.proofs.small.new_bases.Goals as goal

pub loop-cpu-preserved : goal.loop-cpu-preserved
loop-cpu-preserved c = record {
  count =
      ap length c.in_ok-push.ensures.items
      ∙ (length-append c.loop-cpu.bases.items (c.no_timers.result ∷ [])
      ∙ ap (λ n. n + 1) c.loop-cpu.invariant.count);
  empty =
      subst (All (λ (b : RoomyBases). b.plain ≡ empty_bases)) (sym c.in_ok-push.ensures.items)
      (All-push (λ (b : RoomyBases). b.plain ≡ empty_bases) c.loop-cpu.bases.items
      c.no_timers.result c.loop-cpu.invariant.empty c.no_timers.ensures);
}
