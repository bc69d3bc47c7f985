-- for crates above: what a box and a pass say, read from the rule
use Rattle.std.proofs.Common.{◌≡◌, ◌↔◌, ℕ, ◌*◌, ◌^◌, ◌<◌, ◌≤◌, List, [], ◌∷◌, ◌++◌, length}
use Rattle.std.proofs.Common.{Option, Some, None, refl, sym, ap, ◌∙◌, subst, arith, mul-le-mul}
use Rattle.std.specs.Prelude.{option_map, Contains}
use Rattle.std.specs.Option.{ForSome}
use Rattle.std.proofs.lemmas.Option.{none-some, same_Some}
use Rattle.group_word.specs.State.{IsStateOf}
use Rattle.event_queue.specs.declared.event.Event.{Event}
use Rattle.event_queue.specs.EventMap as events
use Rattle.cpu_bases.specs.CpuBases.{NotAhead, base_of}
use Rattle.tree_plan.specs.Shape.{IsPlanned}
use Rattle.tree_plan.specs.Paths.{group_at_of}
use Rattle.walk_rules.specs.declared.walk.Walk.{Walk}
use Rattle.walk_rules.specs.declared.walk.WalkKind.{WalkKind}
use Rattle.walk_rules.specs.declared.walk.WalkKind.TheVariants as kinds
use Rattle.walk_rules.specs.Hierarchy.{HasGroup, at_top, side}
use Rattle.walk_rules.specs.Stages.{forget}
use Rattle.walk_rules.specs.Standing.{FitsStage, FlagsAt, StandsAlone}
use Rattle.core_world.specs.World.{World, CpuRecord, cpu_of, group_of}
use Rattle.core_state.specs.core_facts.Told.{SaysOf}
use Rattle.core_state.specs.core_facts.Walkers.{WalkerIs}
use Rattle.shared_words.specs.Exchanges.{HasRoom}
use Rattle.shared_rule.specs.declared.parts.BoxView.{BoxView}
use Rattle.shared_rule.specs.declared.parts.PassView.{PassView}
use Rattle.core_state.specs.core_facts.Ranges.{ItemInRange}
use Rattle.shared_rule.specs.CoreLaws.{CoreLaws}
use Rattle.shared_rule.proofs.Queues.{queued_all}
use Rattle.shared_rule.specs.Whole.{Whole, box_of, quiet, group_word, group_state, leaf_in}
use Rattle.shared_rule.specs.Shows.{IsShown, reevaluates}
use Rattle.shared_rule.specs.Rule.{Each, seat_of}
use Rattle.shared_rule.specs.Plays.{PartFits, WalkFits, Agree, Sound}
use Rattle.shared_rule.proofs.Ahead.{not_ahead}
use Rattle.shared_rule.proofs.Sums.{sum_below}

walker_quiet : (kind : WalkKind) (y : CpuRecord) → WalkerIs kind y → WalkerIs kind (quiet y)
walker_quiet kinds.Activate y h = h
walker_quiet kinds.Deactivate y h = record { online = h.online; idle = h.idle }
walker_quiet kinds.Offline y h = h
walker_quiet kinds.Reeval y h = record { online = h.online; idle = h.idle }
walker_quiet (kinds.Remote by) y h = record { online = h.online; idle = h.idle }

-- the walk of the core that a view shows without `fresh`
pub shown_walk : (m : Option Walk) (k : Walk) → option_map forget m ≡ Some k
    → (j : Walk) × (m ≡ Some j) × (forget j ≡ k)
shown_walk None k e = absurd (none-some k e)
shown_walk (Some j) k e = (j, refl, same_Some _ _ e)

-- a walk that is shown as not fresh is a re-evaluation where it is one
pub reeval_quiet : (m : Option Walk) → reevaluates (option_map forget m) ≡ reevaluates m
reeval_quiet None = refl
reeval_quiet (Some j) = refl

alone_quiet : (j : Walk) → StandsAlone j → StandsAlone (forget j)
alone_quiet j h = record {
  finishing = h.finishing;
  tells = h.tells;
  own = h.own;
  no_best = h.no_best;
  offline = h.offline;
}

module _ (law : CoreLaws) (o : World) (s : Whole) (h : IsShown o s) where
  pub many : length o.cpus ≤ 512
  many =
      let p = h.fits.planned.limits in
      let a : s.world.tree.nodes * s.world.tree.cpus ≤ 8 * 64
      = mul-le-mul p.few_nodes p.few_cpus in
      omega (arith, a, h.same.cpus, h.fits.lawful.sized.cpus)

  -- sequences are far below what a word has room for
  pub seq_low : (g : ℕ) → s.seq g ≤ 2 ^ 41
  seq_low g =
      let a = sum_below (length o.cpus) 0 (λ c. (s.pass c).walks) h.few in
      omega (arith, a, h.bound g, many)

  pub good_state : (g : ℕ)
      → IsStateOf (group_word s g) (group_state (group_of s.world g) (s.seq g))
  good_state g =
      let low = seq_low g in
      record {
        lawful = record {
          eight_children = h.fits.lawful.groups.eight g;
          group = h.fits.lawful.groups.law g;
          sequence = omega (arith, low);
        };
        spelled = refl;
      }

  pub good_word : (g : ℕ) → HasRoom (group_word s g)
  good_word g =
      let low = seq_low g in
      (group_state (group_of s.world g) (s.seq g), good_state g, omega (arith, low))

  pub event_fits : (g k : ℕ) (e : Event) → events.event_at (group_of s.world g).events k ≡ Some e
      → events.FitsWord e
  event_fits g k e at =
      let r = ((law.bounds s.world h.fits.lawful).group g).event k e at in
      record {
        expiry = omega (arith, r.expiry);
        cpu = omega (arith, r.cpu, many, h.same.cpus);
      }

  leaf_fits : (c : ℕ) (m : Option ℕ) → ForSome (leaf_in s.world c m) events.FitsWord
  leaf_fits c None e at = absurd (none-some e at)
  leaf_fits c (Some g) e at = event_fits g (side s.world.tree c 0) e at

  fits_walk : (c : ℕ) (j : Walk) → (cpu_of s.world c).walk ≡ Some j
      → WalkFits o (box_of o s c) (forget j)
  fits_walk c j at =
      let t = h.same.tree in
      let r = ((law.bounds s.world h.fits.lawful).cpu c).walk j at in
      let places = law.places s.world h.fits.lawful in
      let has : HasGroup o.tree c → HasGroup s.world.tree c
      = λ z. subst (λ y. HasGroup y c) (sym t) z in
      let times = h.fits.lawful.walk_times c j at in
      record {
        low = law.low s.world h.fits.planned h.fits.lawful h.fits.levels c j at;
        ranges = record {
          pin = r.pin;
          next = r.next;
          first = r.first;
          best = r.best;
          best_cpu = λ e b l. subst (λ n. e.cpu.0 < n) h.same.cpus (r.best_cpu e b l);
        };
        in_tree = λ ne.
            let g = (places.in_tree c j at (places.stages_of c j at ne)).group in
            (g.0, subst (λ z. group_at_of z c j.level ≡ Some g.0) t g.1.path);
        fits = λ g. subst (λ z. FitsStage z c j.kind j.level j.stage) t
            (places.in_tree c j at (has g)).fits;
        flags = λ g. subst (λ z. FlagsAt (at_top z c j.level) j.on j.over j.stage) t
            (places.in_tree c j at (has g)).flags;
        alone = λ none. alone_quiet j
            (places.alone c j at (λ z. none (subst (λ y. HasGroup y c) t z)));
        staying = h.staying c j at;
        walker = walker_quiet j.kind (cpu_of s.world c)
            ((law.walkers s.world h.fits.lawful).walker c j at);
        times = record { pin = times.pin; next = times.next };
        good = λ e. (h.reads c).good j at e;
        told = λ e leaf there.
            let there' : group_at_of s.world.tree c 0 ≡ Some leaf
            = ap (λ z. group_at_of z c 0) t ∙ there in
            subst (λ m. SaysOf c j.next (leaf_in s.world c m)) (sym there')
            (law.told s.world h.fits.lawful c leaf j at e there').slot;
      }

  pub fits_of : (c : ℕ) → c < length o.cpus → PartFits (box_of o s c)
  fits_of c low =
      let range = (law.bounds s.world h.fits.lawful).cpu c in
      record {
        opening = h.opening;
        cpu = low;
        planned = subst IsPlanned h.same.tree h.fits.planned;
        many = many;
        online = h.online c;
        wakeup = range.wakeup;
        mark = λ b e. subst (λ n. b < n) h.same.cpus (range.mark b e);
        consistent = h.fits.lawful.timers.consistent c;
        timers = λ t class at.
            let q = queued_all (ItemInRange s.world) t class (cpu_of s.world c).bases at
            (range.timers class) in
            omega (arith, q.1, q.2.timer, h.same.timers);
        played = h.fits.played c;
        replayed = h.replayed c;
        ahead = λ class.
            subst (λ n. NotAhead n (base_of class (cpu_of s.world c).bases)) h.clock
            (not_ahead s.world.clock c (cpu_of s.world c).bases (h.fits.played c)
            (h.fits.lawful.timers.legal c) class);
        leaf = leaf_fits c (group_at_of s.world.tree c 0);
        walk = λ k e.
            let w = shown_walk (cpu_of s.world c).walk k e in
            subst (WalkFits o (box_of o s c)) w.2 (fits_walk c w.0 w.1);
      }

  pub agree_of : (c : ℕ) (p : PassView) → p ≡ s.pass p.cpu → Agree (box_of o s c) p
  agree_of c p is =
      let f = h.flags p.cpu in
      record {
        opening = ap (λ (z : PassView). z.opening) is ∙ h.opened p.cpu;
        idle = λ e. ap (λ (z : PassView). z.idle) is
            ∙ (f.idle ∙ ap (λ d. (cpu_of s.world d).idle) e);
        inside = λ e. ap (λ (z : PassView). z.inside) is
            ∙ (f.inside ∙ ap (λ d. (cpu_of s.world d).inside) e);
        wakeup = λ e. ap (λ (z : PassView). z.wakeup) is
            ∙ (f.wakeup ∙ ap (λ d. (cpu_of s.world d).wakeup) e);
        reeval = λ e. ap (λ (z : PassView). z.reeval) is
            ∙ (f.reeval
            ∙ (ap (λ d. reevaluates (cpu_of s.world d).walk) e
            ∙ sym (reeval_quiet (cpu_of s.world c).walk)));
        journal = λ e.
            let j = h.journals p.cpu in (
              j.0,
              ap (λ d. (cpu_of s.world d).bases.journal) (sym e)
                  ∙ (j.1 ∙ ap (λ (z : PassView). z.journal ++ j.0) (sym is)),
            );
        marks = subst (λ (z : PassView). ((cpu_of s.world c).mark ≡ Some p.cpu)
            ↔ Contains z.marks c) (sym is) (h.marked c p.cpu);
      }

  agrees : (c : ℕ) (ps : List PassView) → Each (λ x. x ≡ s.pass x.cpu) ps
      → Each (Agree (box_of o s c)) ps
  agrees c [] e = tt
  agrees c (p ∷ ps) e = (agree_of c p e.0, agrees c ps e.1)

  pub sound_of : (b : BoxView) (ps : List PassView) → b.cpu < length o.cpus
      → b ≡ box_of o s b.cpu → Each (λ x. x ≡ s.pass x.cpu) ps → Sound (seat_of (b ∷ []) ps)
  sound_of b ps low is e = (
    subst (λ (z : BoxView). PartFits z × Each (Agree z) ps) (sym is)
        (fits_of b.cpu low, agrees b.cpu ps e),
    tt,
  )
