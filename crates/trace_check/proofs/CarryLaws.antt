-- whose walk carries a wheel expiry, and in which case
use Rattle.std.proofs.Common.{◌≡◌, ◌⊎◌, ℕ, zero, suc, ◌+◌, ◌<◌, ◌≤◌, Bool, true, false, Option, Some}
use Rattle.std.proofs.Common.{None, refl, sym, ap, ◌∙◌, subst, arith, inl, inr, true≢false}
use Rattle.std.proofs.Common.{length}
use Rattle.std.specs.Prelude.{◌||◌, if◌then◌else◌, is_some, not, option_and_then, option_map}
use Rattle.std.proofs.lemmas.Bool.{cases_lt, false≢true}
use Rattle.std.proofs.lemmas.List.{get_or_past}
use Rattle.std.proofs.lemmas.Option.{none-some}
use Rattle.tm_base.specs.declared.names.Child.{Child}
use Rattle.tree_plan.specs.Paths.{group_at_of}
use Rattle.walk_rules.specs.declared.walk.Walk.{Walk}
use Rattle.walk_rules.specs.Edges.{StandsBelow, edge_level, edge_of}
use Rattle.walk_rules.specs.Queues.{IsCarried, group_under, is_past_swap, is_up_to_store}
use Rattle.walk_rules.specs.Queues.{tells_by, will_tell_by}
use Rattle.walk_rules.specs.Hierarchy.{IsHierarchy}
use Rattle.walk_rules.specs.Stages.{forget, is_remote}
use Rattle.core_world.specs.Covered.{Carried, LeadsTo, machine_of}
use Rattle.core_world.specs.Covered as covers
use Rattle.core_world.specs.Wakeups.{is_undisturbed}
use Rattle.core_world.specs.World.{CpuRecord, World, cpu_of, group_of, no_cpu, scene_of}
use Rattle.coverage.specs.Coverage.{Held, Woken}
use Rattle.trace_check.specs.declared.reach.End.{End}
use Rattle.trace_check.specs.Reasons.{IsCarriedIn, case_of}
use Rattle.trace_check.specs.Told.{EndsAt, IsLeft, IsToldBelow, MeetsBelow, SeesTo, SeesToBelow}
use Rattle.trace_check.specs.Told.{level_under, tells_level, will_tell_level}
use Rattle.trace_check.proofs.ToldLaws.{active_end, stands_below, told_below_end}
use Rattle.trace_check.proofs.ToldLaws.{told_here, top_end}
use Rattle.trace_check.proofs.ToldLaws.{IsActiveEnd, IsTopEnd}

-- migrators lead from an active group
leads_on : (w : World) (z : Child) (g : ℕ) → LeadsTo w z g → is_some (group_of w g).migrator ≡ true
leads_on w z g (covers.there x k is at) = ap is_some is
leads_on w z g (covers.further x k h is at rest) = ap is_some is

-- two paths meet at one level, in one group
pub meeting_is : (w : World) (d c level at : ℕ) → IsHierarchy w.tree →
    (m : MeetsBelow w d (Some at) c level) → m.meeting ≡ at
meeting_is w d c level at lawful m = lawful.one_level c d m.meeting at m.group m.path m.other

pub meet_once : (w : World) (d c level at one two : ℕ) → IsHierarchy w.tree
    → group_at_of w.tree c at ≡ Some one → group_at_of w.tree d at ≡ Some two
    → MeetsBelow w d (Some at) c level → one ≡ two
meet_once w d c level at one two lawful path other m =
    let same = meeting_is w d c level at lawful m in
    let there : group_at_of w.tree c at ≡ Some m.group =
    subst (λ l. group_at_of w.tree c l ≡ Some m.group) same m.path in
    let here : group_at_of w.tree d at ≡ Some m.group = m.other in
    cc (path, other, there, here)

-- ---- walks

will_tell : (f : ℕ → Option ℕ) (past over : Bool) (level : ℕ) →
    (if past then (if over then None else f level) else None)
    ≡ option_and_then f (if past then (if over then None else Some level) else None)
will_tell f true true level = refl
will_tell f true false level = refl
will_tell f false over level = refl

module _ (w : World) (d : ℕ) where
  tells : (up : Bool) (level : ℕ) →
      (if up then group_under w.tree d level else None)
      ≡ option_and_then (group_at_of w.tree d) (if up then level_under level else None)
  tells true zero = refl
  tells true (suc l) = refl
  tells false level = refl

  module _ (k : Walk) (walk : (cpu_of w d).walk ≡ Some k) (c level : ℕ) where
    seen : (scene_of w).walk d ≡ Some (forget k)
    seen = ap (option_map forget) walk

    pub sees_one : SeesToBelow w d c level →
        MeetsBelow w d (edge_level k.level k.stage) c level
        ⊎ (MeetsBelow w d (will_tell_level k) c level ⊎ MeetsBelow w d (tells_level k) c level)
    sees_one s = by s.sees
      where
        at : (o : Option ℕ) → option_and_then (group_at_of w.tree d) o ≡ Some s.group →
            MeetsBelow w d o c level
        at o is = record {
          meeting = s.meeting;
          group = s.group;
          low = s.low;
          path = s.path;
          other = is;
        }

        by : SeesTo w d s.group →
            MeetsBelow w d (edge_level k.level k.stage) c level
            ⊎ (MeetsBelow w d (will_tell_level k) c level ⊎ MeetsBelow w d (tells_level k) c level)
        by (inl heads) =
            inl (at (edge_level k.level k.stage)
            (sym (ap (λ m. option_and_then (group_at_of w.tree d) (edge_of m)) seen) ∙ heads))
        by (inr (inl will)) =
            inr (inl (at (will_tell_level k)
            (sym (ap (will_tell_by w.tree d) seen
            ∙ will_tell (group_at_of w.tree d) (is_past_swap k.stage) k.over k.level) ∙ will)))
        by (inr (inr tell)) =
            inr (inr (at (tells_level k)
            (sym (ap (tells_by w.tree d) seen ∙ tells (is_up_to_store k.stage) k.level) ∙ tell)))

    pub one_sees :
        MeetsBelow w d (edge_level k.level k.stage) c level
        ⊎ (MeetsBelow w d (will_tell_level k) c level ⊎ MeetsBelow w d (tells_level k) c level) →
        SeesToBelow w d c level
    one_sees (inl m) = record {
      meeting = m.meeting;
      group = m.group;
      low = m.low;
      path = m.path;
      sees =
          inl (ap (λ o. option_and_then (group_at_of w.tree d) (edge_of o)) seen ∙ m.other);
    }
    one_sees (inr (inl m)) = record {
      meeting = m.meeting;
      group = m.group;
      low = m.low;
      path = m.path;
      sees =
          inr (inl (ap (will_tell_by w.tree d) seen
          ∙ will_tell (group_at_of w.tree d) (is_past_swap k.stage) k.over k.level ∙ m.other));
    }
    one_sees (inr (inr m)) = record {
      meeting = m.meeting;
      group = m.group;
      low = m.low;
      path = m.path;
      sees =
          inr (inr (ap (tells_by w.tree d) seen ∙ tells (is_up_to_store k.stage) k.level
          ∙ m.other));
    }

  -- without a walk a CPU sees to nothing
  pub none_sees : (cpu_of w d).walk ≡ None → (x : ℕ) → SeesTo w d x → ⊥
  none_sees none x (inl heads) =
      none-some x
      (sym (ap (λ (m : Option Walk).
      option_and_then (group_at_of w.tree d) (edge_of (option_map forget m))) none) ∙ heads)
  none_sees none x (inr (inl will)) =
      none-some x
      (sym (ap (λ (m : Option Walk). will_tell_by w.tree d (option_map forget m)) none) ∙ will)
  none_sees none x (inr (inr tell)) =
      none-some x
      (sym (ap (λ (m : Option Walk). tells_by w.tree d (option_map forget m)) none) ∙ tell)

  pub past_sees : length w.cpus ≤ d → (x : ℕ) → SeesTo w d x → ⊥
  past_sees past = none_sees (ap (λ (y : CpuRecord). y.walk) (get_or_past w.cpus d no_cpu past))

-- a search of all CPUs
module _ (w : World) (c level : ℕ) where
  abbrev pub NoneSees : ℕ → Type 0
  NoneSees n = (d : ℕ) → d < n → SeesToBelow w d c level → ⊥

  pub sees_more : (n : ℕ) → NoneSees n → (SeesToBelow w n c level → ⊥) → NoneSees (n + 1)
  sees_more n so_far not_this d low sees = elim (cases_lt d n) [
    | inl less ↦ so_far d less sees
    | inr high ↦
        let same : d ≡ n = omega (arith, low, high) in
        not_this (subst (λ e. SeesToBelow w e c level) same sees)
  ]

  pub sees_none : (n : ℕ) → NoneSees n → length w.cpus ≤ n → (d : ℕ) → SeesToBelow w d c level → ⊥
  sees_none n so_far all d sees = elim (cases_lt d n) [
    | inl less ↦ so_far d less sees
    | inr high ↦ past_sees w d (omega (arith, high, all)) sees.group sees.sees
  ]

-- ---- cases

free : (m : Option Walk) (k : Walk) → m ≡ Some k → is_remote k.kind ≡ false →
    is_undisturbed m ≡ false
free m k is kind = ap is_undisturbed is ∙ kind

busy_by : (u i : Bool) → (not u || i) ≡ false → u ≡ false → ⊥
busy_by true i e is = true≢false is
busy_by false i e is = true≢false e

inside_by : (u i : Bool) → (not u || i) ≡ false → i ≡ true → ⊥
inside_by true true e is = true≢false e
inside_by true false e is = false≢true is
inside_by false i e is = true≢false e

module _ (w : World) (c wheel : ℕ) where
  abbrev pub is_busy : Bool
  is_busy = not (is_undisturbed (cpu_of w c).walk) || (cpu_of w c).inside

  busy : (m : Option Walk) (i : Bool) → (cpu_of w c).walk ≡ m → (cpu_of w c).inside ≡ i →
      (not (is_undisturbed m) || i) ≡ true → (x : Carried w c wheel) × (case_of w c wheel x ≡ 1)
  busy None true walk inside e = (covers.by_interrupt inside, refl)
  busy None false walk inside e = absurd (false≢true e)
  busy (Some k) true walk inside e = (covers.by_interrupt inside, refl)
  busy (Some k) false walk inside e =
      (covers.by_walk k walk (by (is_remote k.kind) refl e), refl)
    where
      by : (b : Bool) → is_remote k.kind ≡ b → (not (is_remote k.kind) || false) ≡ true →
          is_remote k.kind ≡ false
      by true is e = absurd (true≢false (sym e ∙ ap (λ b. not b || false) is))
      by false is e = is

  from_1 : (x : Carried w c wheel) → 1 ≤ case_of w c wheel x
  from_1 (covers.by_walk k walk kind) = omega arith
  from_1 (covers.by_interrupt inside) = omega arith
  from_1 (covers.on_the_way level x told at none below by) = omega arith
  from_1 (covers.by_role level g z told at leads none by) = omega arith
  from_1 (covers.at_idle_top level top e told at last none event by under_way) = omega arith

  from_2 : is_busy ≡ false → (x : Carried w c wheel) → 2 ≤ case_of w c wheel x
  from_2 calm (covers.by_walk k walk kind) =
      absurd (busy_by (is_undisturbed (cpu_of w c).walk) (cpu_of w c).inside calm
      (free (cpu_of w c).walk k walk kind))
  from_2 calm (covers.by_interrupt inside) =
      absurd (inside_by (is_undisturbed (cpu_of w c).walk) (cpu_of w c).inside calm inside)
  from_2 calm (covers.on_the_way level x told at none below by) = omega arith
  from_2 calm (covers.by_role level g z told at leads none by) = omega arith
  from_2 calm (covers.at_idle_top level top e told at last none event by under_way) = omega arith

  -- CASE 1
  pub case_1 : is_busy ≡ true → IsCarriedIn w c wheel 1
  case_1 is =
      let x = busy (cpu_of w c).walk (cpu_of w c).inside refl refl is in
      record { carried = x.0; number = x.1; least = from_1 }

  module _ (calm : is_busy ≡ false) (level : ℕ) (below : IsToldBelow w c wheel level) where
    -- CASE 2
    pub case_2 : (d : ℕ) → SeesToBelow w d c level → IsCarriedIn w c wheel 2
    case_2 d s = record {
      carried =
          covers.on_the_way s.meeting s.group
          (told_here w c wheel s.meeting
          (told_below_end w c wheel s.meeting level below
          (let less = s.low in omega (arith, less)))
          (below.events s.meeting s.low)) s.path
          (below.inactive s.meeting s.group s.low s.path) (below.goes_on s.meeting s.low)
          (by s.sees);
      number = refl;
      least = from_2 calm;
    }
      where
        by : SeesTo w d s.group →
            StandsBelow w.tree (scene_of w) s.group
            ⊎ IsCarried w.tree (scene_of w) s.group
        by (inl heads) = inl (d, heads)
        by (inr carries) = inr (d, carries)

    module _ (alone : (d : ℕ) → SeesToBelow w d c level → ⊥) (e : End)
        (at : EndsAt w c wheel level e) where
      unseen : (n x : ℕ) → n < level → group_at_of w.tree c n ≡ Some x →
          StandsBelow w.tree (scene_of w) x ⊎ IsCarried w.tree (scene_of w) x → ⊥
      unseen n x low path (inl (d, heads)) =
          alone d (record { meeting = n; group = x; low = low; path = path; sees = inl heads })
      unseen n x low path (inr (d, carries)) =
          alone d (record { meeting = n; group = x; low = low; path = path; sees = inr carries })

      from_3 : (x : Carried w c wheel) → 3 ≤ case_of w c wheel x
      from_3 (covers.by_walk k walk kind) =
          absurd (busy_by (is_undisturbed (cpu_of w c).walk) (cpu_of w c).inside calm
          (free (cpu_of w c).walk k walk kind))
      from_3 (covers.by_interrupt inside) =
          absurd (inside_by (is_undisturbed (cpu_of w c).walk) (cpu_of w c).inside calm inside)
      from_3 (covers.on_the_way n x told path none onwards by) =
          absurd (unseen n x (stands_below w c wheel level below e at n x told path none onwards)
          path by)
      from_3 (covers.by_role n g z told path leads none by) = omega arith
      from_3 (covers.at_idle_top n top event told path last none is by under_way) = omega arith

      up_to_4 : (x : Carried w c wheel) → case_of w c wheel x ≤ 4
      up_to_4 (covers.by_walk k walk kind) = omega arith
      up_to_4 (covers.by_interrupt inside) = omega arith
      up_to_4 (covers.on_the_way n x told path none onwards by) = omega arith
      up_to_4 (covers.by_role n g z told path leads none by) = omega arith
      up_to_4 (covers.at_idle_top n top event told path last none is by under_way) = omega arith

      carried_of : IsLeft w c wheel → Carried w c wheel
      carried_of left = by left.covered
        where
          by : Held (machine_of w) c wheel ⊎ (Woken (machine_of w) c wheel ⊎ Carried w c wheel) →
              Carried w c wheel
          by (inl held) = absurd (left.not_held held)
          by (inr (inl woken)) = absurd (left.not_woken woken)
          by (inr (inr carried)) = carried

      -- CASE 3, where an active group was told
      pub case_3 : ((o : Option ℕ) → IsTopEnd w c wheel level below e o → ⊥) → IsLeft w c wheel →
          IsCarriedIn w c wheel 3
      case_3 not_top left = record {
        carried = carried_of left;
        number =
            let low = from_3 (carried_of left) in
            let high = up_to_3 (carried_of left) in
            omega (arith, low, high);
        least = from_3;
      }
        where
          up_to_3 : (x : Carried w c wheel) → case_of w c wheel x ≤ 3
          up_to_3 (covers.by_walk k walk kind) = omega arith
          up_to_3 (covers.by_interrupt inside) = omega arith
          up_to_3 (covers.on_the_way n x told path none onwards by) = omega arith
          up_to_3 (covers.by_role n g z told path leads none by) = omega arith
          up_to_3 (covers.at_idle_top n top event told path last none is by under_way) =
              absurd (not_top _ (top_end w c wheel level below e at n top told path last none))

      -- CASE 4, where none was
      pub case_4 : ((g : ℕ) → IsActiveEnd w c wheel level below e g → ⊥) → IsLeft w c wheel →
          IsCarriedIn w c wheel 4
      case_4 not_active left = record {
        carried = carried_of left;
        number =
            let low = from_4 (carried_of left) in
            let high = up_to_4 (carried_of left) in
            omega (arith, low, high);
        least = from_4;
      }
        where
          from_4 : (x : Carried w c wheel) → 4 ≤ case_of w c wheel x
          from_4 (covers.by_walk k walk kind) =
              absurd (busy_by (is_undisturbed (cpu_of w c).walk) (cpu_of w c).inside calm
              (free (cpu_of w c).walk k walk kind))
          from_4 (covers.by_interrupt inside) =
              absurd (inside_by (is_undisturbed (cpu_of w c).walk) (cpu_of w c).inside calm
              inside)
          from_4 (covers.on_the_way n x told path none onwards by) =
              absurd (unseen n x
              (stands_below w c wheel level below e at n x told path none onwards) path by)
          from_4 (covers.by_role n g z told path leads none by) =
              absurd (not_active g (active_end w c wheel level below e at n g told path
              (leads_on w z g leads)))
          from_4 (covers.at_idle_top n top event told path last none is by under_way) = omega arith
