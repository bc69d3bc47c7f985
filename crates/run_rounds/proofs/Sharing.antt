-- the lines of a share, one behind the other
use Rattle.std.proofs.Common.{◌≡◌, ℕ, ◌+◌, ◌<◌, ◌≤◌, List, [], ◌++◌, Bool, false, refl, sym}
use Rattle.std.proofs.Common.{ap, ◌∙◌, subst, arith, length}
use Rattle.std.proofs.lemmas.Option.{none-some}
use Rattle.atomic_table.specs.Seated.{TableId}
use Rattle.tm_script.specs.declared.syntax.Op.{Op}
use Rattle.tm_report.specs.declared.lines.Line.{Line}
use Rattle.core_world.specs.World.{World, cpu_of}
use Rattle.run_shares.specs.shared_rule.declared.parts.PassView.{PassView}
use Rattle.run_shares.specs.shared_rule.Passes.{HeldPass, IsPassIn}
use Rattle.run_shares.specs.shared_rule.Starts.{first_pass_of}
use Rattle.run_shares.specs.shared_table.Begun.{begun_pass}
use Rattle.run_shares.specs.shared_table.declared.ready.TheConstants.{MOST_MADE}
use Rattle.remote_expiry.specs.Interrupts.{IsPassAtRest, most_walks}
use Rattle.remote_expiry.proofs.Gaining.{same_pass}
use Rattle.play_rules.specs.Interrupts.{Replies}
use Rattle.run_shares.specs.run_story.Rounds.{standing_at}
use Rattle.run_shares.specs.run_story.Shares.{TellsOps, TellsIfDue}
use Rattle.run_shares.proofs.run_story.Knowing.{due_more}
use Rattle.run_shares.specs.Doing.{HasDone, by_pass}
use Rattle.run_shares.specs.Standing.{PassGrows, HasRun, HaveAnswered, MayAnswer, StandsBy}
use Rattle.run_shares.proofs.Growing.{knows_more}

-- after the interrupt it may answer so many operations
pub may_answer : (table : TableId) (o : World) (now : ℕ) (jobs : Replies) (due : Bool)
    (many : ℕ) (held mid : HeldPass) (before lines : List Line)
    → MayAnswer table o (most_walks + many) held
    → HasRun table o now jobs due held mid before lines → MayAnswer table o many mid
may_answer table o now jobs due many held mid before lines may done =
    let step = done.stepped in
    let same : step.before ≡ may.pass =
    same_pass table held step.before may.pass step.had may.seated in
    let few = may.few in
    let walks = step.grows.few in
    let began = ap (λ (z : PassView). z.walks) same in
    record {
      pass = step.later;
      seated = step.has;
      opening = step.grows.opening ∙ (ap (λ (z : PassView). z.opening) same ∙ may.opening);
      own =
          step.grows.cpu
          ∙ (ap (λ (z : PassView). z.cpu) same ∙ (may.own ∙ sym step.same_cpu));
      low = subst (λ n. n < length o.cpus) (sym step.same_cpu) may.low;
      outside = step.grows.inside ∙ (ap (λ (z : PassView). z.inside) same ∙ may.outside);
      few = omega (arith, few, walks, began);
    }

module _ (table : TableId) (o : World) (held : HeldPass)
    (first : held ≡ begun_pass table o 0 held.cpu) where
  abbrev begun : PassView
  begun = first_pass_of o 0 held.cpu

  had : IsPassIn table held begun
  had = ap (λ (z : HeldPass). z.seated) first

  -- as the round begins the CPU may have its interrupt, and so many operations
  pub may_begin : (walks : ℕ) → held.cpu < length o.cpus
      → (cpu_of o held.cpu).inside ≡ false → walks ≤ MOST_MADE → MayAnswer table o walks held
  may_begin walks low outside few = record {
    pass = begun;
    seated = had;
    opening = refl;
    own = refl;
    low = low;
    outside = outside;
    few = omega (arith, few);
  }

  -- its pass is at rest
  pub at_rest : (cpu_of o held.cpu).inside ≡ false → (p : PassView) → IsPassIn table held p
      → IsPassAtRest o p
  at_rest outside p is =
      subst (IsPassAtRest o) (same_pass table held begun p had is)
      (record { opening = refl; outside = outside; goes_on = refl; marks = refl })

  -- and says that the CPU stands as the moment finds it
  stands : StandsBy begun (standing_at o held.cpu)
  stands = record {
    wrote = refl;
    idle = refl;
    wakeup = refl;
    since = omega arith;
    known = λ i r at own. absurd (none-some r at);
  }

  -- A SHARE is done
  pub share_done : (now : ℕ) (jobs : Replies) (due : Bool) (ops : List Op)
      (mid after : HeldPass) (runs lines : List Line) → now ≡ o.clock
      → (cpu_of o held.cpu).inside ≡ false
      → HasRun table o now jobs due held mid [] runs
      → HaveAnswered table o now ops mid after runs lines
      → HasDone table o jobs due ops held.cpu after lines
  share_done now jobs due ops mid after runs lines is_now outside ran done =
      let p = ran.stepped.before in
      let q = ran.stepped.later in
      let r = done.stepped.later in
      let one : p ≡ begun = same_pass table held p begun ran.stepped.had had in
      let two : done.stepped.before ≡ q =
      same_pass table mid done.stepped.before q done.stepped.had ran.stepped.has in
      let grows : PassGrows (length ops) q r =
      subst (λ (z : PassView). PassGrows (length ops) z r) two done.stepped.grows in
      let s = standing_at o held.cpu in
      let a = ran.stepped.goes s (subst (λ (z : PassView). StandsBy z s) (sym one) stands) in
      let b =
      done.stepped.goes a.0 (subst (λ (z : PassView). StandsBy z a.0) (sym two) a.1) in
      let online = (cpu_of o held.cpu).online in
      record {
        pass = r;
        seated = done.stepped.has;
        cpu_is =
            grows.cpu ∙ (ran.stepped.grows.cpu ∙ ap (λ (z : PassView). z.cpu) one);
        opening =
            grows.opening ∙ (ran.stepped.grows.opening ∙ ap (λ (z : PassView). z.opening) one);
        outside =
            grows.inside
            ∙ (ran.stepped.grows.inside ∙ (ap (λ (z : PassView). z.inside) one ∙ outside));
        last = b.0;
        tells = record {
          mid = a.0;
          runs = ran.told;
          answers = done.told;
          first =
              subst (λ n. TellsIfDue (by_pass o r) n held.cpu due jobs s a.0 ran.told) is_now
              (due_more (by_pass o q) (by_pass o r) now held.cpu
              (knows_more o (length ops) q r grows) due jobs s a.0 ran.told a.2);
          answered =
              subst (λ n. TellsOps (by_pass o r) n held.cpu online ops a.0 b.0 done.told) is_now
              (subst (λ c. TellsOps (by_pass o r) now c (cpu_of o c).online ops a.0 b.0 done.told)
              ran.stepped.same_cpu b.2);
          told_are =
              done.lines_are ∙ ap (λ (x : List Line). x ++ done.told) ran.lines_are;
        };
        wrote = b.1.wrote;
        idle = b.1.idle;
        wakeup = b.1.wakeup;
      }
