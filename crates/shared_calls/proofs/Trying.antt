-- what one try to cancel a timer comes to, and all of them
use Rattle.std.proofs.Common.{◌≡◌, ℕ, ◌<◌, Bool, true, false, List, [], ◌∷◌, ◌++◌, Some, length}
use Rattle.std.proofs.Common.{refl, sym, ap, ◌∙◌, subst}
use Rattle.atomic_table.specs.Seated.{TableId}
use Rattle.core_world.specs.World.{World}
use Rattle.shared_words.specs.declared.spot.Spot.{Spot}
use Rattle.shared_words.specs.Words.{spot_of}
use Rattle.shared_table.specs.shared_rule.declared.parts.Look.{Look}
use Rattle.shared_table.specs.shared_rule.Plays.{seen_pass}
use Rattle.shared_table.specs.shared_rule.Rule.{Each}
use Rattle.shared_table.specs.shared_rule.Parts.{HeldPart}
use Rattle.shared_table.specs.shared_rule.Passes.{HeldPass, with_pass}
use Rattle.shared_timers.specs.Exchanging.{timer_word}
use Rattle.shared_looks.proofs.Looks.{each_more, more_loads}
use Rattle.shared_calls.specs.Cancels.{FellShort, HasTriedCancel, IsElsewhere, IsGone, IsPartOf}
use Rattle.shared_calls.specs.Cancels.{IsTakenOut, LooksOn, TookOut, WasGone, tried_of}
use Rattle.shared_calls.specs.Looks.{NamesHome}

-- a load that named a CPU, after which no more was done
pub elsewhere : (o : World) (timer found : ℕ) (spot : Spot) (held mid after : HeldPass)
    → mid ≡ with_pass (seen_pass (timer_word o timer) found) held → Some spot ≡ spot_of found
    → spot.cpu.0 < length o.cpus → after ≡ mid → IsElsewhere o timer held after
elsewhere o timer found spot held mid after loaded names low same = record {
  look = record { word = timer_word o timer; found = found };
  names = record { word = refl; spot = spot; names = sym names; of_run = low };
  pass_is = same ∙ loaded;
}

-- and one after which the part of that CPU was looked into
pub came_to : (table : TableId) (o : World) (timer line found : ℕ) (spot : Spot)
    (held mid after : HeldPass) (home : HeldPart)
    → mid ≡ with_pass (seen_pass (timer_word o timer) found) held → Some spot ≡ spot_of found
    → spot.cpu.0 < length o.cpus → IsPartOf o spot.cpu.0 home → (taken : Bool)
    → TookOut table timer line home mid after taken
    → HasTriedCancel table o timer line held after (tried_of taken spot.cpu)
came_to table o timer line found spot held mid after home loaded names low is true took = record {
  found = found;
  spot = spot;
  names = sym names;
  cpu_is = refl;
  of_run = low;
  home = home;
  home_is = is;
  taken = subst (λ h. IsTakenOut table timer line home h after) loaded took;
}
came_to table o timer line found spot held mid after home loaded names low is false took =
    record {
      look = record { word = timer_word o timer; found = found };
      gone = record {
        names = record { word = refl; spot = spot; names = sym names; of_run = low };
        home = home;
        home_is = is;
        gone = took.0;
      };
      pass_is = took.1 ∙ loaded;
    }

-- one load more, of a CPU where the timer wasn't
pub looks_on : (o : World) (timer : ℕ) (held mid after : HeldPass) → LooksOn o timer held mid
    → IsGone o timer mid after → LooksOn o timer held after
looks_on o timer held mid after was one = record {
  looks = was.looks ++ one.look ∷ [];
  each = each_more (WasGone o timer) was.looks one.look was.each one.gone;
  pass_is =
      one.pass_is
      ∙ (ap (with_pass (seen_pass one.look.word one.look.found)) was.pass_is
      ∙ more_loads was.looks one.look held);
}

-- such loads named CPUs
each_names : (o : World) (timer : ℕ) (xs : List Look) → Each (WasGone o timer) xs
    → Each (NamesHome o timer) xs
each_names o timer [] each = tt
each_names o timer (x ∷ xs) each = (each.0.names, each_names o timer xs each.1)

-- and one after which memory was wanting
pub short_more : (o : World) (timer : ℕ) (held mid after : HeldPass) → LooksOn o timer held mid
    → IsElsewhere o timer mid after → FellShort o timer held after
short_more o timer held mid after was one = record {
  looks = was.looks ++ one.look ∷ [];
  each =
      each_more (NamesHome o timer) was.looks one.look (each_names o timer was.looks was.each)
      one.names;
  pass_is =
      one.pass_is
      ∙ (ap (with_pass (seen_pass one.look.word one.look.found)) was.pass_is
      ∙ more_loads was.looks one.look held);
}
