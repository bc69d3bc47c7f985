-- for crates above: a world of which one CPU is written, and what Play sees of it
use Rattle.std.proofs.Common.{◌≡◌, ◌≢◌, ℕ, ◌<◌, false, length, length-set, set, Option, Some, None}
use Rattle.std.proofs.Common.{refl, sym, ap, ◌∙◌, subst, inl, inr, arith}
use Rattle.std.specs.Prelude.{◌&&◌}
use Rattle.std.proofs.lemmas.Bool.{both_ways, cases_eq}
use Rattle.std.proofs.lemmas.List.{get_or-set_other, get_or-set_same, set-get_or}
use Rattle.std.proofs.lemmas.List.FromFn.{fill_by_all}
use Rattle.tm_base.specs.declared.names.Class.{Class}
use Rattle.tm_base.specs.declared.names.TheConstants.{NEVER}
use Rattle.wheel_core.specs.PlainBase.{NoneBehind}
use Rattle.cpu_bases.specs.CpuBases.{CpuBases, base_of}
use Rattle.play_rules.specs.State as play
use Rattle.play_rules.specs.State.{Cpu, cpu_at, new_cpu}
use Rattle.walk_rules.specs.Scene.{no_group}
use Rattle.walk_rules.specs.declared.walk.Walk.{Walk}
use Rattle.tree_plan.specs.Shape.{IsPlanned}
use Rattle.core_world.specs.Enabled.{IsFree}
use Rattle.core_world.specs.Lawful.{IsLawful}
use Rattle.core_world.specs.Steps.{with_bases}
use Rattle.core_world.specs.World.{CpuRecord, World, cpu_of, no_cpu, own}
use Rattle.step_play.specs.Rules.Live.{Exact, told_by}
use Rattle.step_play.specs.Rules.Seen.{InPlay, InRun, Phase, WalkFits, cpu_seen, hands_in}
use Rattle.step_play.specs.Rules.Seen.{is_inside, marker_in, state_of}
use Rattle.step_play.specs.Queues.AtRest.{AtRest}
use Rattle.step_play.proofs.Queues.Sights.{count_seen, seen_at}

-- CPU c is written
abbrev pub put : World → (c : ℕ) → CpuRecord → World
put w c y = record w { cpus = set w.cpus c y }

-- a step that changes no group writes its CPU
pub own_is : (w : World) (c : ℕ) (y : CpuRecord) → own w c y ≡ put w c y
own_is w c y = λ i. record w {
  groups = set-get_or w.groups 0 no_group i;
  cpus = set w.cpus c y;
}

module _ (w : World) (c : ℕ) (y : CpuRecord) (low : c < length w.cpus) where
  pub put_same : cpu_of (put w c y) c ≡ y
  put_same = get_or-set_same w.cpus c y no_cpu low

  pub put_else : (d : ℕ) → d ≢ c → cpu_of (put w c y) d ≡ cpu_of w d
  put_else d ne = get_or-set_other w.cpus c d y no_cpu ne

  pub put_count : length (put w c y).cpus ≡ length w.cpus
  put_count = length-set w.cpus c y

  -- what is said of each CPU
  pub put_all : (P : ℕ → CpuRecord → Type 0) → P c y → ((d : ℕ) → d ≢ c → P d (cpu_of w d)) →
      (d : ℕ) → P d (cpu_of (put w c y) d)
  put_all P own old d = elim (cases_eq d c) [
    | inl same ↦ subst (λ n. P n (cpu_of (put w c y) n)) (sym same) (subst (P c) (sym put_same) own)
    | inr ne ↦ subst (P d) (sym (put_else d ne)) (old d ne)
  ]

  -- what stays of CPU c stays of all
  pub put_field : {X : Type 0} (f : CpuRecord → X) → f y ≡ f (cpu_of w c) → (d : ℕ) →
      f (cpu_of (put w c y) d) ≡ f (cpu_of w d)
  put_field f same = put_all (λ d z. f z ≡ f (cpu_of w d)) same (λ d ne. refl)

  -- PLAY'S STATE of it
  abbrev pub cpu_shown : Cpu
  cpu_shown = record {
    online = y.online;
    idle = y.idle;
    wakeup = y.wakeup;
    told = told_by w c;
    bases = y.bases;
  }

  shown_at : (d : ℕ) → d < length (put w c y).cpus →
      cpu_at (play.with_cpu (state_of w) c cpu_shown) d ≡ cpu_seen (put w c y) d
  shown_at d within = elim (cases_eq d c) [
    | inl same ↦
        subst (λ n. cpu_at (play.with_cpu (state_of w) c cpu_shown) n ≡ cpu_seen (put w c y) n)
        (sym same)
        (get_or-set_same (state_of w).cpus c cpu_shown new_cpu
        (let count = count_seen w in omega (arith, low, count))
        ∙ ap (λ (z : CpuRecord). record {
          online = z.online;
          idle = z.idle;
          wakeup = z.wakeup;
          told = told_by w c;
          bases = z.bases;
        }) (sym put_same))
    | inr ne ↦
        get_or-set_other (state_of w).cpus c d cpu_shown new_cpu ne
        ∙ (seen_at w d (let count = put_count in omega (arith, within, count))
        ∙ ap (λ (z : CpuRecord). record {
          online = z.online;
          idle = z.idle;
          wakeup = z.wakeup;
          told = told_by w d;
          bases = z.bases;
        }) (sym (put_else d ne)))
  ]

  pub put_shown : state_of (put w c y) ≡ play.with_cpu (state_of w) c cpu_shown
  put_shown = λ i. record {
    clock = w.clock;
    timers = w.timers;
    tree = w.tree;
    cpus = sym (fill_by_all (cpu_seen (put w c y)) (set (state_of w).cpus c cpu_shown)
        (length (put w c y).cpus) new_cpu
        (length-set (state_of w).cpus c cpu_shown ∙ (count_seen w ∙ sym put_count)) shown_at) i;
    migrators = (state_of w).migrators;
  }

  -- nothing that Play sees is changed
  pub put_hidden : cpu_shown ≡ cpu_seen w c → state_of (put w c y) ≡ state_of w
  put_hidden same =
      put_shown ∙ (λ i. record (state_of w) {
        cpus = (ap (set (state_of w).cpus c) (same ∙ sym (seen_at w c low))
            ∙ set-get_or (state_of w).cpus c new_cpu) i;
      })

-- the bases of a CPU are written
pub bases_shown : (w : World) (c : ℕ) (b : CpuBases) → c < length w.cpus →
    state_of (put w c (with_bases (cpu_of w c) b)) ≡ play.with_bases (state_of w) c b
bases_shown w c b low =
    put_shown w c (with_bases (cpu_of w c) b) low
    ∙ ap (λ (x : Cpu). play.with_cpu (state_of w) c (record x { bases = b }))
    (sym (seen_at w c low))

-- A CORE IN A RUN, with one CPU written
pub record Fits (ph new : Phase) (w : World) (c : ℕ) (y : CpuRecord) : Type 0 where
  pub whole : (class : Class) → NoneBehind (base_of class y.bases)
  pub inside : y.inside ≡ is_inside new c
  pub mark : y.mark ≡ marker_in new c
  pub walk : WalkFits new c y.walk
  pub others_inside : (d : ℕ) → d ≢ c → is_inside new d ≡ is_inside ph d
  pub others_marks : (d : ℕ) → d ≢ c → marker_in new d ≡ marker_in ph d
  pub others_hand : (d : ℕ) → d ≢ c → hands_in new d ≡ hands_in ph d

-- who hands on is all that its walk is measured by
pub walk_by : (ph new : Phase) (d : ℕ) (m : Option Walk) → hands_in new d ≡ hands_in ph d →
    WalkFits ph d m → WalkFits new d m
walk_by ph new d None same fits = same ∙ fits
walk_by ph new d (Some k) same fits = (same ∙ fits.0, fits.1)

-- all of it but that the world is lawful
pub record Bare (ph : Phase) (w : World) : Type 0 where
  pub planned : IsPlanned w.tree
  pub whole : (c : ℕ) (class : Class) → NoneBehind (base_of class (cpu_of w c).bases)
  pub inside : (c : ℕ) → (cpu_of w c).inside ≡ is_inside ph c
  pub marks : (c : ℕ) → (cpu_of w c).mark ≡ marker_in ph c
  pub walks : (c : ℕ) → WalkFits ph c (cpu_of w c).walk

pub bare : (ph : Phase) (w : World) → InRun ph w → Bare ph w
bare ph w i = record {
  planned = i.planned;
  whole = i.whole;
  inside = i.inside;
  marks = i.marks;
  walks = i.walks;
}

pub dressed : (ph : Phase) (w : World) → Bare ph w → IsLawful w → InRun ph w
dressed ph w b lawful = record {
  lawful = lawful;
  planned = b.planned;
  whole = b.whole;
  inside = b.inside;
  marks = b.marks;
  walks = b.walks;
}

pub put_bare : (ph new : Phase) (w : World) (c : ℕ) (y : CpuRecord) → c < length w.cpus →
    Bare ph w → Fits ph new w c y → Bare new (put w c y)
put_bare ph new w c y low i fits = record {
  planned = i.planned;
  whole = put_all w c y low (λ d z. (class : Class) → NoneBehind (base_of class z.bases)) fits.whole
      (λ d ne. i.whole d);
  inside = put_all w c y low (λ d z. z.inside ≡ is_inside new d) fits.inside
      (λ d ne. i.inside d ∙ sym (fits.others_inside d ne));
  marks = put_all w c y low (λ d z. z.mark ≡ marker_in new d) fits.mark
      (λ d ne. i.marks d ∙ sym (fits.others_marks d ne));
  walks = put_all w c y low (λ d z. WalkFits new d z.walk) fits.walk
      (λ d ne. walk_by ph new d (cpu_of w d).walk (fits.others_hand d ne) (i.walks d));
}

-- where the bases of the CPU alone are written
pub bases_fit : (ph : Phase) (w : World) (c : ℕ) (b : CpuBases) → Bare ph w →
    ((class : Class) → NoneBehind (base_of class b)) →
    Fits ph ph w c (with_bases (cpu_of w c) b)
bases_fit ph w c b i whole = record {
  whole = whole;
  inside = i.inside c;
  mark = i.marks c;
  walk = i.walks c;
  others_inside = λ d ne. refl;
  others_marks = λ d ne. refl;
  others_hand = λ d ne. refl;
}

-- A CORE IN PLAY: of what is told, that it is exact, and comes of idle CPUs alone
pub record TellsExactly (w : World) : Type 0 where
  pub exact : Exact w
  pub told : (c : ℕ) → ((cpu_of w c).online && (cpu_of w c).idle) ≡ false → told_by w c ≡ NEVER

pub tells : (ph : Phase) (w : World) → InPlay ph w → TellsExactly w
tells ph w i = record { exact = i.exact; told = i.told }

pub in_play : (ph : Phase) (w : World) → InRun ph w → TellsExactly w → InPlay ph w
in_play ph w run tells = record { in_run = run; exact = tells.exact; told = tells.told }

-- it stays so where one CPU is written that is as much awake as it was
pub put_tells : (w : World) (c : ℕ) (y : CpuRecord) → c < length w.cpus →
    y.online ≡ (cpu_of w c).online → y.idle ≡ (cpu_of w c).idle → TellsExactly w →
    TellsExactly (put w c y)
put_tells w c y low online idle t = record {
  exact = t.exact;
  told = λ d off. t.told d (sym (put_field w c y low (λ z. z.online && z.idle)
      (λ j. online j && idle j) d) ∙ off);
}

pub put_plays : (ph new : Phase) (w : World) (c : ℕ) (y : CpuRecord) (v : World) →
    c < length w.cpus → y.online ≡ (cpu_of w c).online → y.idle ≡ (cpu_of w c).idle →
    v ≡ put w c y → InPlay ph w → InRun new v → InPlay new v
put_plays ph new w c y v low online idle is i run =
    in_play new v run
    (subst TellsExactly (sym is) (put_tells w c y low online idle (tells ph w i)))

-- WHO IS FREE: whoever doesn't wait to hand on
pub no_walk : (ph : Phase) (w : World) (c : ℕ) → InRun ph w → hands_in ph c ≡ false →
    (cpu_of w c).walk ≡ None
no_walk ph w c i none = by_walk (cpu_of w c).walk refl (i.walks c)
  where
    by_walk : (m : Option Walk) → (cpu_of w c).walk ≡ m → WalkFits ph c m →
        (cpu_of w c).walk ≡ None
    by_walk None is fits = is
    by_walk (Some k) is fits = absurd (both_ways (hands_in ph c) none fits.0)

pub free_in : (ph : Phase) (w : World) (c : ℕ) → InRun ph w → hands_in ph c ≡ false →
    c < length w.cpus → IsFree w c
free_in ph w c i none low = record { in_range = low; free = no_walk ph w c i none }

-- a core in play is at rest
pub rests : (ph : Phase) (w : World) → InPlay ph w → AtRest w
rests ph w i = record {
  lawful = i.in_run.lawful;
  planned = i.in_run.planned;
  exact = i.exact;
  told = i.told;
  walks = λ c k is. (subst (WalkFits ph c) is (i.in_run.walks c)).1;
}
