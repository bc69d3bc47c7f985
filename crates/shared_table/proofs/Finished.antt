-- the world at the end of a run, by its words, its boxes and its passes
use Rattle.std.proofs.Common.{◌≡◌, ℕ, zero, suc, ◌<◌, List, [], ◌∷◌, length, Some, refl, sym, ap}
use Rattle.std.proofs.Common.{◌∙◌}
use Rattle.std.proofs.Common.{subst, arith}
use Rattle.std.specs.Prelude.{map, slice_get, slice_index_or}
use Rattle.std.proofs.lemmas.List.{ext_get_or, length-map}
use Rattle.tree_plan.specs.Shape.{Shape}
use Rattle.walk_rules.specs.Scene.{Group}
use Rattle.core_world.specs.World.{CpuRecord, World, no_cpu}
use Rattle.shared_rule.specs.core_state.Kept.{WorldFits, world_of}
use Rattle.shared_rule.specs.declared.parts.BoxView.{BoxView}
use Rattle.shared_rule.specs.declared.parts.View.{View}
use Rattle.shared_rule.specs.Starts.{EndsAs}
use Rattle.shared_rule.specs.Whole.{Spell, layout_of}
use Rattle.shared_table.specs.Endings.{HasAllParts, HeldWords, IsEnd, RebuildsAs, own_of}

-- the CPU of the box at a place
own_at : (bs : List BoxView) (i : ℕ) → i < length bs
    → (b : BoxView) × (slice_get bs i ≡ Some b) × (slice_index_or (map own_of bs) i no_cpu ≡ b.own)
own_at [] i low = absurd (omega (arith, low))
own_at (b ∷ bs) zero low = (b, refl, refl)
own_at (b ∷ bs) (suc i) low = own_at bs i (omega (arith, low))

module _ (o : World) (h : HeldWords) (tree : Shape) (clock : ℕ) (cpus : List CpuRecord) (v : View)
    (all : HasAllParts o v cpus) (e : EndsAs o h.words v.boxes v.passes)
    (layout : h.layout ≡ layout_of o) (tree_is : tree ≡ o.tree) (clock_is : clock ≡ o.clock) where
  counts : length (map own_of v.boxes) ≡ length e.whole.world.cpus
  counts = length-map v.boxes own_of ∙ (all.all.boxes.count ∙ sym e.shown.same.cpus)

  cpus_are : map own_of v.boxes ≡ e.whole.world.cpus
  cpus_are = ext_get_or no_cpu (map own_of v.boxes) e.whole.world.cpus counts
      (λ i low.
      let b = own_at v.boxes i (subst (λ n. i < n) (length-map v.boxes own_of) low) in
      b.2 ∙ sym (e.cpus i b.0 b.1))

  -- the world that the words spell has the CPUs of the boxes
  pub rebuilds : RebuildsAs h tree clock cpus e.whole.world
  rebuilds = record {
    spelled = record {
      opening = o;
      whole = e.whole;
      is = refl;
      layout = layout;
      shown = e.shown;
      spelled = subst (λ l. Spell l h.words e.whole) (sym layout) e.spelled;
      settled = e.settled;
    };
    tree_is = tree_is ∙ sym e.shown.same.tree;
    clock_is = clock_is ∙ sym e.shown.clock;
    cpus_are = all.cpus_are ∙ cpus_are;
  }

  -- and is the end of the run with these passes
  pub at_end : IsEnd o e.whole.world v.passes
  at_end = record {
    whole = e.whole;
    is = refl;
    shown = e.shown;
    settled = e.settled;
    count = all.all.passes.count;
    passes_are = e.passes;
  }

module _ (h : HeldWords) (tree : Shape) (clock : ℕ) (cpus : List CpuRecord) (w : World)
    (r : RebuildsAs h tree clock cpus w) where
  timers_are : h.layout.timers ≡ w.timers
  timers_are =
      ap (λ l. l.timers) r.spelled.layout
      ∙ (sym r.spelled.shown.same.timers ∙ ap (λ (x : World). x.timers) r.spelled.is)

  -- the parts that were read make the world
  pub same_world : (n : ℕ) (groups : List Group) → n ≡ h.layout.timers → groups ≡ w.groups
      → world_of tree n clock groups cpus ≡ w
  same_world n groups count is = λ i. record {
    tree = r.tree_is i;
    timers = (count ∙ timers_are) i;
    clock = r.clock_is i;
    groups = is i;
    cpus = r.cpus_are i;
  }

  pub fits : WorldFits w
  fits = subst WorldFits r.spelled.is r.spelled.shown.fits
