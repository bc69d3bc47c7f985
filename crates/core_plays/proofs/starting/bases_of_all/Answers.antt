use Rattle.std.proofs.Common.{◌≡◌, ◌+◌, ◌∷◌, [], length, length-append, ap, subst, sym, ◌∙◌}
use Rattle.std.specs.Prelude.{All}
use Rattle.std.proofs.lemmas.List.Elements.{All-push}
use Rattle.cpu_bases.specs.CpuBases.{RoomyBases, empty_bases}
use Rattle.core_plays.proofs.starting.bases_of_all.Goals as goal

pub loop-cpu-preserved : goal.loop-cpu-preserved
loop-cpu-preserved c = record {
  count =
      ap length c.in_ok-push.ensures.items
      ∙ (length-append c.loop-cpu.bases.items (c.in_ok-of_cpu.of_cpu ∷ [])
      ∙ ap (λ n. n + 1) c.loop-cpu.invariant.count);
  empty =
      subst (All (λ (b : RoomyBases). b.plain ≡ empty_bases)) (sym c.in_ok-push.ensures.items)
      (All-push (λ (b : RoomyBases). b.plain ≡ empty_bases) c.loop-cpu.bases.items
      c.in_ok-of_cpu.of_cpu c.loop-cpu.invariant.empty c.in_ok-of_cpu.ensures);
}
