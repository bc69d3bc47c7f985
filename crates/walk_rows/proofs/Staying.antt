-- a CPU's turn leaves its pass where it was
use Rattle.std.proofs.Common.{◌≡◌, ℕ, ◌+◌, ◌<◌, ◌≤◌, List, length, get_or, set, Result, Ok, Err}
use Rattle.std.proofs.Common.{refl}
use Rattle.std.proofs.Common.{arith, ap, ◌∙◌}
use Rattle.std.specs.Prelude.{IfOk, OnErr, OnOk, option_map}
use Rattle.std.proofs.lemmas.Option.{slice_get-get_or}
use Rattle.atomic_table.specs.Seated.{TableId}
use Rattle.tm_base.specs.declared.faults.OpFault.{OpFault}
use Rattle.core_world.specs.World.{World}
use Rattle.idle_wakeup.specs.shared_rule.declared.parts.PassView.{PassView}
use Rattle.idle_wakeup.specs.shared_rule.Passes.{HeldPass, Seated, knowing, with_pass}
use Rattle.shared_rows.specs.shared_table.Ended.{IsPassAt, PassesFrom}
use Rattle.shared_rows.proofs.shared_table.Passes.{one_changed, one_of}
use Rattle.shared_rows.specs.Looks.{StaysAt}
use Rattle.idle_wakeup.specs.declared.idling.IdleAnswer.{IdleAnswer}
use Rattle.idle_wakeup.specs.declared.idling.IdleAnswer.TheVariants as answers
use Rattle.idle_wakeup.specs.Calls.{Renews, awake}
use Rattle.idle_wakeup.specs.Resting.{IsIdleAnswer, resting_pass}
use Rattle.walk_rows.specs.Standing.{IsOneOf}

module _ (table : TableId) where
  -- a pass that has changed so is that CPU's still, where the change keeps its CPU and its
  -- interrupt
  stays : (f : PassView → PassView) → ((p : PassView) → (f p).cpu ≡ p.cpu)
      → ((p : PassView) → (f p).inside ≡ p.inside) → (old new : HeldPass)
      → new ≡ with_pass f old → StaysAt table old new
  stays f cpus insides old new is k at = record {
    part = f at.part;
    seated =
        ap (λ (held : HeldPass). held.seated) is
        ∙ ap (option_map (λ (s : Seated). record s { pass = f s.pass })) at.seated;
    cpu = cpus at.part ∙ at.cpu;
    outside = insides at.part ∙ at.outside;
  }

  -- it was met by its box, and perhaps changed
  same_stays : (old new : HeldPass) → Renews (λ p. p) old new → StaysAt table old new
  same_stays old new r = stays (knowing r.0) (λ p. refl) (λ p. refl) old new r.2

  rests : (t : ℕ) (old new : HeldPass) → Renews (resting_pass t) old new → StaysAt table old new
  rests t old new r =
      stays (λ p. knowing r.0 (resting_pass t p)) (λ p. refl) (λ p. refl) old new r.2

  wakes : (old new : HeldPass) → Renews awake old new → StaysAt table old new
  wakes old new r = stays (λ p. knowing r.0 (awake p)) (λ p. refl) (λ p. refl) old new r.2

  -- whatever its CPU is answered that is to go idle
  pub rest_stays : (o : World) (old new : HeldPass) (r : Result IdleAnswer OpFault)
      → IfOk r (λ answer. IsIdleAnswer o answer old new) → OnErr r (Renews (λ p. p) old new)
      → StaysAt table old new
  rest_stays o old new (Ok (answers.Until t)) ok err = rests t old new ok.renews
  rest_stays o old new (Ok (answers.Stay t)) ok err = same_stays old new ok.renews
  rest_stays o old new (Err fault) ok err = same_stays old new err

  -- and whatever one is answered that is to wake
  pub wake_stays : {A : Type 0} (old new : HeldPass) (r : Result A OpFault)
      → OnOk r (Renews awake old new) → OnErr r (Renews (λ p. p) old new)
      → StaysAt table old new
  wake_stays old new (Ok done) ok err = wakes old new ok
  wake_stays old new (Err fault) ok err = same_stays old new err

-- PASSES of CPUs that follow one another, and one of them
module _ (table : TableId) (first i : ℕ) (ps : List HeldPass) (d : HeldPass)
    (each : PassesFrom table first ps) (low : i < length ps) where
  there : IsPassAt table (first + i) (get_or ps i d)
  there = one_of table first i ps (get_or ps i d) each (slice_get-get_or ps i d low)

  -- that one has changed, and is its CPU's still
  pub with_one : (p : HeldPass) → StaysAt table (get_or ps i d) p
      → PassesFrom table first (set ps i p)
  with_one p stay = one_changed table first i ps p each (stay (first + i) there)

-- it is that of a CPU of the run
pub one_there : (table : TableId) (o : World) (first i : ℕ) (ps : List HeldPass) (d : HeldPass)
    → PassesFrom table first ps → first + length ps ≤ length o.cpus → i < length ps
    → IsOneOf table o (get_or ps i d)
one_there table o first i ps d each few low = record {
  cpu = first + i;
  low = omega (arith, few, low);
  at = there table first i ps d each low;
}
