-- for crates above: a walk of a CPU ends, and leaves the wakeup that it has found
use Rattle.std.proofs.Common.{◌≡◌, ℕ, ◌^◌, ◌<◌, [], ◌∷◌, Some}
use Rattle.std.proofs.Common.{length, refl, sym, ap, ◌∙◌, subst, arith}
use Rattle.std.specs.Prelude.{option_map}
use Rattle.std.proofs.lemmas.Option.{none-some}
use Rattle.walk_rules.specs.declared.walk.Walk.{Walk}
use Rattle.walk_rules.specs.declared.walk.WalkKind.{WalkKind}
use Rattle.walk_rules.specs.declared.walk.WalkKind.TheVariants as kinds
use Rattle.walk_rules.specs.declared.walk.Stage.TheVariants as stages
use Rattle.walk_rules.specs.Stages.{forget}
use Rattle.core_world.specs.declared.step.Step.TheVariants as steps
use Rattle.core_world.specs.Enabled.{MayGoOn}
use Rattle.core_world.specs.Steps.{finished, walk_made, walked}
use Rattle.core_world.specs.World.{World, CpuRecord, cpu_of, own}
use Rattle.shared_rule.specs.declared.parts.BoxView.{BoxView}
use Rattle.shared_rule.specs.declared.parts.PassView.{PassView}
use Rattle.shared_rule.specs.CoreLaws.{CoreLaws}
use Rattle.shared_rule.specs.Whole.{Whole, box_of, cpu_at, own_word, quiet}
use Rattle.shared_rule.specs.Shows.{FlagsOf, IsShown, is_reeval, reevaluates}
use Rattle.shared_rule.specs.Rule.{Goes, Me, seat_of}
use Rattle.shared_rule.specs.Plays.{Sound, on_both}
use Rattle.shared_rule.specs.Turns.{finish_of, finished_box, found_wakeup, reevaluated_pass}
use Rattle.shared_rule.specs.Turns.{rested_pass}
use Rattle.shared_rule.specs.TurnLaws.{MayFinish, ReevaluateStays, RestStays}
use Rattle.shared_rule.proofs.Fits.{shown_walk}
use Rattle.shared_rule.proofs.Going.{allows}
use Rattle.shared_rule.proofs.Turning.{turns}
use Rattle.shared_rule.specs.Laws.{Stays, walk_always}

-- what is known of a whole where a CPU's walk of a kind ends, with its own pass brought
pub record Ends (o : World) (s : Whole) (b : BoxView) (p : PassView) (sort : WalkKind) (j : Walk)
    (new : ℕ) : Type 0 where
  pub shown : IsShown o s
  pub in_range : b.cpu < length o.cpus
  pub brought : p ≡ s.pass p.cpu
  pub whose : p.cpu ≡ b.cpu
  pub walk : (cpu_of s.world b.cpu).walk ≡ Some j
  pub stage : j.stage ≡ stages.Finish
  pub kind : j.kind ≡ sort
  pub flags : FlagsOf (cpu_of s.world b.cpu) p
  pub word : own_word (finished (quiet (cpu_of s.world b.cpu)) (forget j) sort) ≡ new

-- the seat of such a CPU may store its word, where each such whole goes on
at_end : (law : CoreLaws) (o : World) (slots id : ℕ) (b : BoxView) (p : PassView) (k : Walk)
    (kind : WalkKind) (new : ℕ) (then : BoxView → ℕ → Me → Type 0) → MayFinish o b p k kind new
    → ((s : Whole) (j : Walk) → Ends o s b p kind j new
    → Goes o s (box_of o s b.cpu) (p ∷ []) (cpu_at b.cpu) (λ n. new) (walk_always b.cpu)
    (then (box_of o s b.cpu)))
    → Stays o slots id b (p ∷ []) (cpu_at b.cpu) (λ n. new) (walk_always b.cpu)
    (λ n w. then b n w × Sound w)
at_end law o slots id b p k kind new then may goes =
    allows law o slots id b (p ∷ []) (cpu_at b.cpu) (λ n. new) (walk_always b.cpu) (then b) may.cpu
    (λ s h hc is known fits.
    subst (λ (z : BoxView). Goes o s z (p ∷ []) (cpu_at b.cpu) (λ n. new) (walk_always b.cpu) (then z))
    (sym is)
    (let j = shown_walk _ k (ap (λ (z : BoxView). z.own.walk) (sym is) ∙ may.walk) in
    goes s j.0
    (record {
      shown = h;
      in_range = hc;
      brought = known.0.1;
      whose = may.own;
      walk = j.1;
      stage = ap (λ (z : Walk). z.stage) j.2 ∙ may.stage;
      kind = ap (λ (z : Walk). z.kind) j.2 ∙ may.kind;
      flags =
          subst (FlagsOf (cpu_of s.world b.cpu)) (sym (known.0.1 ∙ ap s.pass may.own))
          (h.flags b.cpu);
      word = (λ i. own_word (finished (sym is i).own (j.2 i) kind)) ∙ sym may.word;
    })))

pub rests : (law : CoreLaws) (o : World) → RestStays o
rests law o slots id b k p new may =
    at_end law o slots id b p k kinds.Deactivate new
    (λ z n v. v ≡ on_both (finished_box kinds.Deactivate) rested_pass (seat_of (z ∷ []) (p ∷ [])))
    may
    (λ s j q.
    let c = b.cpu in
    let w = s.world in
    let h = q.shown in
    let y0 = cpu_of w c in
    let y : CpuRecord = finished y0 j kinds.Deactivate in
    turns law o s h c y p (rested_pass (box_of o s c) p) (s.looked c) (λ n. new)
    (λ n v. v
    ≡ on_both (finished_box kinds.Deactivate) rested_pass (seat_of (box_of o s c ∷ []) (p ∷ [])))
    (record {
      step = steps.Walk (record { 0 = c });
      enabled = record {
        in_range = omega (arith, q.in_range, h.same.cpus);
        made = j;
        walk = q.walk;
        may_go_on = subst (MayGoOn w c j) (sym q.stage) tt;
      };
      is =
          ap (walk_made w c) q.walk
          ∙ (ap (walked w c j) q.stage ∙ ap (λ z. own w c (finished y0 j z)) q.kind);
      plain = record { time = refl; queues = refl; journals = refl; online = refl };
      in_range = q.in_range;
      brought = q.brought;
      whose = q.whose;
      staying = λ z at. absurd (none-some z at);
      reads = λ z at. absurd (none-some z at);
      mark = refl;
      owed = λ m. omega arith;
      few = subst (λ (z : PassView). z.walks < 2 ^ 32) (sym q.brought) (h.few p.cpu);
      opening = refl;
      cpu = refl;
      journal = refl;
      receipts = refl;
      did = refl;
      marks = refl;
      flags = record {
        idle = q.flags.idle;
        inside = q.flags.inside;
        wakeup = ap (λ m. found_wakeup p.wakeup (option_map forget m)) q.walk;
        reeval = q.flags.reeval ∙ (ap reevaluates q.walk ∙ ap is_reeval q.kind);
      };
      word = q.word;
      told = λ i. seat_of (record (box_of o s c) {
        own = finish_of kinds.Deactivate (quiet y0) (option_map forget (sym q.walk i));
      } ∷ []) (rested_pass (box_of o s c) p ∷ []);
    }))

pub reevaluates_own : (law : CoreLaws) (o : World) → ReevaluateStays o
reevaluates_own law o slots id b k p new may =
    at_end law o slots id b p k kinds.Reeval new
    (λ z n v. v ≡ on_both (finished_box kinds.Reeval) reevaluated_pass (seat_of (z ∷ []) (p ∷ [])))
    may
    (λ s j q.
    let c = b.cpu in
    let w = s.world in
    let h = q.shown in
    let y0 = cpu_of w c in
    let y : CpuRecord = finished y0 j kinds.Reeval in
    turns law o s h c y p (reevaluated_pass (box_of o s c) p) (s.looked c) (λ n. new)
    (λ n v. v
    ≡ on_both (finished_box kinds.Reeval) reevaluated_pass (seat_of (box_of o s c ∷ []) (p ∷ [])))
    (record {
      step = steps.Walk (record { 0 = c });
      enabled = record {
        in_range = omega (arith, q.in_range, h.same.cpus);
        made = j;
        walk = q.walk;
        may_go_on = subst (MayGoOn w c j) (sym q.stage) tt;
      };
      is =
          ap (walk_made w c) q.walk
          ∙ (ap (walked w c j) q.stage ∙ ap (λ z. own w c (finished y0 j z)) q.kind);
      plain = record { time = refl; queues = refl; journals = refl; online = refl };
      in_range = q.in_range;
      brought = q.brought;
      whose = q.whose;
      staying = λ z at. absurd (none-some z at);
      reads = λ z at. absurd (none-some z at);
      mark = refl;
      owed = λ m. omega arith;
      few = subst (λ (z : PassView). z.walks < 2 ^ 32) (sym q.brought) (h.few p.cpu);
      opening = refl;
      cpu = refl;
      journal = refl;
      receipts = refl;
      did = refl;
      marks = refl;
      flags = record {
        idle = q.flags.idle;
        inside = refl;
        wakeup = ap (λ m. found_wakeup p.wakeup (option_map forget m)) q.walk;
        reeval = refl;
      };
      word = q.word;
      told = λ i. seat_of (record (box_of o s c) {
        own = finish_of kinds.Reeval (quiet y0) (option_map forget (sym q.walk i));
      } ∷ []) (reevaluated_pass (box_of o s c) p ∷ []);
    }))
