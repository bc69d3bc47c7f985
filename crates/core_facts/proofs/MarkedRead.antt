-- what marks say
use Rattle.std.proofs.Common.{◌≡◌, ℕ, true≢false, Some, sym, ◌∙◌}
use Rattle.core_world.specs.Lawful.{IsLawful}
use Rattle.core_world.specs.World.{World, cpu_of}
use Rattle.core_facts.specs.Marked.{EachMarkFits, MarkIs}
use Rattle.core_facts.proofs.Scenes.{online_there}

mark_is : (w : World) → IsLawful w → (c b : ℕ) → (cpu_of w c).mark ≡ Some b → MarkIs w c b
mark_is w l c b is =
    let marker = l.markers c b is in
    record {
      in_range = online_there w b marker.online;
      placed = marker.placed;
      online = marker.online;
      inside = marker.inside;
      goes_on = λ k walk kind. marker.goes_on (record { made = k; walk = walk; kind = kind });
      has_group = l.marked c b is;
    }

pub each_mark_fits : EachMarkFits
each_mark_fits w l = record {
  mark = mark_is w l;
  remote = l.remote;
  outside = λ b out d is. true≢false (sym (mark_is w l d b is).inside ∙ out);
  ending = λ b k walk kind d is. (mark_is w l d b is).goes_on k walk kind;
}
