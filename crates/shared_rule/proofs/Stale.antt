-- for crates above: what another walk has read, after an exchange of a group's word
use Rattle.std.proofs.Common.{◌≡◌, ◌≢◌, ℕ, suc, ◌/◌, ◌^◌, ◌≤◌, eqb}
use Rattle.std.proofs.Common.{eq-eqb, ne_eqb, cond, Bool, true, false}
use Rattle.std.proofs.Common.{Option, Some, None, refl, sym, ap, ◌∙◌, subst, inl, inr}
use Rattle.std.proofs.Common.{arith}
use Rattle.std.specs.Prelude.{option_map, ◌&&◌}
use Rattle.std.specs.Option.{option_map_or}
use Rattle.std.proofs.lemmas.Bool.{cases_eq}
use Rattle.std.proofs.lemmas.Option.{none-some, same_Some}
use Rattle.tree_plan.specs.Shape.{Shape}
use Rattle.tree_plan.specs.Paths.{group_at_of}
use Rattle.walk_rules.specs.declared.walk.Walk.{Walk}
use Rattle.core_world.specs.World.{CpuRecord, is_reading, reads_at}
use Rattle.core_world.specs.World.{stale_walk}
use Rattle.core_world.proofs.Moves.{beside}
use Rattle.shared_rule.specs.declared.parts.PassView.{PassView}
use Rattle.shared_rule.specs.Shows.{FlagsOf, reevaluates, ReadsOf}

flags_cond : (b : Bool) (j : Walk) → reevaluates (Some
    (cond b (record j { fresh = false }) j)) ≡ reevaluates (Some j)
flags_cond true j = refl
flags_cond false j = refl

reeval_stale : (t : Shape) (g d : ℕ) (m : Option Walk)
    → reevaluates (option_map (stale_walk t g d) m) ≡ reevaluates m
reeval_stale t g d None = refl
reeval_stale t g d (Some j) = flags_cond (reads_at t g d j) j

pub flags_beside : (t : Shape) (r : Bool) (g d : ℕ) (y : CpuRecord) (p : PassView) → FlagsOf y p
    → FlagsOf (beside t r g d y) p
flags_beside t true g d y p f = record {
  idle = f.idle;
  inside = f.inside;
  wakeup = f.wakeup;
  reeval = f.reeval ∙ sym (reeval_stale t g d y.walk);
}
flags_beside t false g d y p f = f

stage_cond : (b : Bool) (j k : Walk) → cond b (record j { fresh = false }) j ≡ k
    → (j.stage ≡ k.stage) × (j.level ≡ k.level)
stage_cond true j k e = (ap (λ (z : Walk). z.stage) e, ap (λ (z : Walk). z.level) e)
stage_cond false j k e = (ap (λ (z : Walk). z.stage) e, ap (λ (z : Walk). z.level) e)

-- another walk's reading after an exchange of g's word, by which its sequence rose
module _ (t : Shape) (g d : ℕ) (n : ℕ) (word word' seq seq' : ℕ → ℕ)
    (grew : (h : ℕ) → seq h ≤ seq' h) (past : word' g / 2 ^ 16 ≡ suc (seq g)) (else : (h : ℕ)
    → h ≢ g → word' h ≡ word h) where
  pub stale_reads : (m : Option Walk) → ReadsOf t d m n word seq
      → ReadsOf t d (option_map (stale_walk t g d) m) n word' seq'
  stale_reads None was = record {
    fresh = λ k h e. absurd (none-some k e);
    before = λ k h e. absurd (none-some k e);
    good = λ k e. absurd (none-some k e);
  }
  stale_reads (Some j) was = record {
    fresh = λ k h e rd here.
        let is = same_Some _ _ e in
        let st = stage_cond (reads_at t g d j) j k is in
        let rd' : is_reading j.stage ≡ true = ap is_reading st.0 ∙ rd in
        let here' : group_at_of t d j.level ≡ Some h = ap (group_at_of t d) st.1 ∙ here in
        let by : reads_at t g d j ≡ eqb h g = (λ i. rd' i && option_map_or (λ z. eqb z g)
        (here' i) false) in
        elim (cases_eq h g) [
          | inl same ↦
              let yes' : reads_at t g d j ≡ true = by ∙ eq-eqb h g same in
              let low : n / 2 ^ 16 ≤ seq g = subst (λ z. n / 2 ^ 16 ≤ seq z) same
              (was.before j h refl rd' here') in
              let apart : word' h ≢ n = λ z. absurd
              (omega (arith, past, low, ap (λ m. m / 2 ^ 16) (sym (ap word' same) ∙ z))) in
              ap (λ (z : Walk). z.fresh) (sym is) ∙
              (ap (λ b. (cond b (record j { fresh = false }) j).fresh) yes'
              ∙ sym (ne_eqb _ _ apart))
          | inr away ↦
              let not' : reads_at t g d j ≡ false = by ∙ ne_eqb h g away in
              ap (λ (z : Walk). z.fresh) (sym is) ∙
              (ap (λ b. (cond b (record j { fresh = false }) j).fresh) not'
              ∙ (was.fresh j h refl rd' here' ∙ ap (λ m. eqb m n) (sym (else h away))))
        ];
    before = λ k h e rd here.
        let st = stage_cond (reads_at t g d j) j k (same_Some _ _ e) in
        let old = was.before j h refl (ap is_reading st.0 ∙ rd) (ap (group_at_of t d) st.1
        ∙ here) in
        omega (arith, old, grew h);
    good = λ k e rd. was.good j refl (ap is_reading
        (stage_cond (reads_at t g d j) j k (same_Some _ _ e)).0 ∙ rd);
  }
