-- timers move to another CPU, and each still has one home at most
use Rattle.std.proofs.Common.{◌≡◌, ℕ, ◌+◌, ◌^◌, ◌<◌, Bool, true, Option, Some, None, refl, sym}
use Rattle.std.proofs.Common.{ap, ◌∙◌, subst, arith}
use Rattle.std.specs.Prelude.{option_map}
use Rattle.std.proofs.lemmas.Bool.{both_ways}
use Rattle.std.proofs.lemmas.Option.{none-some, same_Some}
use Rattle.tm_base.specs.Classes.{same_class}
use Rattle.tm_base.specs.declared.names.Class.{Class}
use Rattle.wheel_core.specs.declared.item.Item.{Item}
use Rattle.wheel_core.specs.PlainBase.{PlainBase, item_of, removed}
use Rattle.wheel_core.proofs.Ids.{gone_without, item_holds}
use Rattle.cpu_bases.specs.declared.entry.Act.TheVariants as acts
use Rattle.cpu_bases.specs.CpuBases.{CpuBases, after_move_out, base_of, oldest_in}
use Rattle.cpu_bases.proofs.Classes.{class_itself, each_with}
use Rattle.cpu_bases.proofs.Keeping.{oldest_found}
use Rattle.play_rules.specs.Rules.{Moved}
use Rattle.play_rules.specs.State.{Cpu, State, cpu_at, with_bases}
use Rattle.play_rules.specs.Timers.{bases_at, first_to_move, moved_first, moved_into, moved_one}
use Rattle.play_laws.proofs.Answered.Bases.{changed_kept}
use Rattle.play_laws.proofs.Answered.Invariant.{each_put}
use Rattle.play_laws.proofs.Answered.States.{written}
use Rattle.play_rules.proofs.FirstMoves.{first_is}
use Rattle.play_laws.proofs.Work.Homes.{AreHomes, Home, IsAt, IsHome, home_removed, homes_of, not_there}
use Rattle.play_laws.proofs.Work.Homes.{same_homes}
use Rattle.play_laws.proofs.Work.Comings.{IsNowhere, comes_home}

module _ (timers cpus levels : ℕ) (may : ℕ → Bool) (always : (id : ℕ) → may id ≡ true) (s : State)
    (is : AreHomes timers cpus levels may s) (from to : ℕ) (low : from < cpus) where
  -- OUT goes the first item of a class
  module _ (class : Class) (item : Item)
      (first : oldest_in (base_of class (bases_at s from)).items ≡ Some item) where
    abbrev base : PlainBase
    base = base_of class (bases_at s from)

    abbrev out : Option Item → CpuBases
    out o = after_move_out o s.clock class (record { 0 = to }) (bases_at s from)

    abbrev gone : State
    gone = with_bases s from (out (Some item))

    found : item_of item.id base.items ≡ Some item
    found = oldest_found base.items item first

    at : IsAt timers s.clock is.home may (from, class) item
    at =
        item_holds (IsAt timers s.clock is.home may (from, class)) item.id base.items item
        (is.each from class low).all found

    gone_homes : AreHomes timers cpus levels may gone
    gone_homes =
        same_homes timers cpus levels may s is from (out (Some item))
        (λ k home here.
        changed_kept (IsHome timers s.clock home may (from, k)) k class
        (removed item.id base) (bases_at s from)
        (home_removed timers s.clock home may (from, k) item.id base) here)

    -- then it is nowhere
    away : (d : ℕ) (k : Class) → d < cpus → (◌≡◌ {A = Home} (d, k) (from, class) → ⊥)
        → item_of item.id (base_of k (bases_at s d)).items ≡ None
    away d k below other =
        not_there item.id is.home (d, k) (base_of k (bases_at s d)).items
        (homes_of timers s.clock is.home may (d, k) (base_of k (bases_at s d)).items
        (is.each d k below).all)
        (λ same. other (sym same ∙ at.home_is))

    gone_here : (k : Class) → item_of item.id (base_of k (out (Some item))).items ≡ None
    gone_here k =
        each_with (λ j (x : PlainBase). item_of item.id x.items ≡ None) class (removed item.id base)
        (bases_at s from).bases
        (gone_without item.id base.items (is.each from class low).sound.distinct)
        (λ j apart. away from j low
        (λ same. both_ways (same_class class j) apart
        (ap (same_class class) (ap (λ (h : Home). h.1) same) ∙ class_itself class))) k

    nowhere : IsNowhere timers cpus levels may gone gone_homes item.id
    nowhere d k below =
        let count = is.count in
        let x : Cpu = record (cpu_at s from) { bases = out (Some item) } in
        subst (λ f. item_of item.id (base_of k (f d).bases).items ≡ None)
        (sym (written s from x (omega (arith, low, count))))
        (each_put (cpu_at s) from x
        (λ e (y : Cpu). e < cpus → item_of item.id (base_of k y.bases).items ≡ None)
        (λ _. gone_here k)
        (λ e other there. away e k there (λ same. other (ap (λ (h : Home). h.0) same))) d below)

    -- IN it comes
    in_homes : AreHomes timers cpus levels may (moved_into gone to (class, item)).state
    in_homes =
        comes_home timers cpus levels may gone gone_homes to acts.MovedIn 0 (s.clock + 1) class
        item.id item.expires item.job item.arg (record { 0 = to }) (omega arith)
        (item_holds (λ i. i.expires < 2 ^ 47) item.id base.items item
        (λ i d below. ((is.each from class low).sound.in_wheel i d below).expires) found) at.known
        nowhere (λ due. always item.id)

    by_out : (o : Option Item) → oldest_in base.items ≡ o → o ≡ Some item
        → AreHomes timers cpus levels may
        (moved_into (with_bases s from (out o)) to (class, item)).state
    by_out None none some = absurd (none-some item some)
    by_out (Some other) is_other some =
        let same : other ≡ item = same_Some other item some in
        subst
        (λ i. AreHomes timers cpus levels may
        (moved_into (with_bases s from (out (Some i))) to (class, item)).state)
        (sym same) in_homes

    pub one_homes : AreHomes timers cpus levels may (moved_one s from to (class, item)).state
    one_homes = by_out (oldest_in base.items) refl first

  moved_by : (o : Option (Class × Item)) (m : Moved State) → first_to_move (bases_at s from) ≡ o
      → option_map (moved_one s from to) o ≡ Some m → AreHomes timers cpus levels may m.state
  moved_by None m first none = absurd (none-some m none)
  moved_by (Some (class, item)) m first some =
      let same : moved_one s from to (class, item) ≡ m =
      same_Some (moved_one s from to (class, item)) m some in
      subst (AreHomes timers cpus levels may) (ap (λ (x : Moved State). x.state) same)
      (one_homes class item (first_is (bases_at s from) (class, item) first))

  pub moves_homes : (m : Moved State) → moved_first s from to ≡ Some m
      → AreHomes timers cpus levels may m.state
  moves_homes m some = moved_by (first_to_move (bases_at s from)) m refl some
