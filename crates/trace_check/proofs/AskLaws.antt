-- a timer that is looked up in a base
use Rattle.std.proofs.Common.{◌≡◌, ℕ, zero, suc, ◌<◌, Bool, true, false, List, [], ◌∷◌, length}
use Rattle.std.proofs.Common.{Option, Some, None, get_or, refl, sym, ap, ◌∙◌, arith, inl, inr}
use Rattle.std.proofs.Common.{true≢false}
use Rattle.std.specs.Prelude.{◌==◌, not, IfNone, IfSome, Contains}
use Rattle.std.proofs.lemmas.Bool.{cases_Bool, cond-false, cond-true, eq-eqb, eqb-true}
use Rattle.std.proofs.lemmas.List.Elements.{Contains-append_right}
use Rattle.std.proofs.lemmas.Option.{none-some, same_Some}
use Rattle.tm_base.specs.declared.names.Class.TheVariants.{Global}
use Rattle.wheel_core.specs.declared.item.Item.{Item}
use Rattle.wheel_core.specs.PlainBase.{item_of}
use Rattle.wheel_core.proofs.Ids.{item_of_first, item_of_rest}
use Rattle.cpu_bases.specs.CpuBases.{base_of}
use Rattle.core_world.specs.World.{World, cpu_of}
use Rattle.trace_check.specs.Reasons.{HasNoReason, IsAsked}

found_in : (id : ℕ) (items : List Item) (item : Item) → item_of id items ≡ Some item →
    Contains items item × (item.id ≡ id)
found_in id [] item is = absurd (none-some item is)
found_in id (x ∷ xs) item is = elim (cases_Bool (x.id == id)) [
  | inl here ↦
      let same : x ≡ item =
      same_Some x item (sym (cond-true (x.id == id) (Some x) (item_of id xs) here) ∙ is) in (
        (0, omega arith, same),
        ap (λ (y : Item). y.id) (sym same) ∙ eqb-true x.id id here,
      )
  | inr other ↦
      let rest = found_in id xs item
      (sym (cond-false (x.id == id) (Some x) (item_of id xs) other) ∙ is) in
      (Contains-append_right (x ∷ []) xs item rest.0, rest.1)
]

not_at : (id : ℕ) (items : List Item) (item : Item) → item_of id items ≡ None → (k : ℕ) →
    k < length items → get_or items k item ≡ item → item.id ≡ id → ⊥
not_at id [] item none k low is same = omega (arith, low)
not_at id (x ∷ xs) item none zero low is same =
    true≢false (sym (eq-eqb x.id id (ap (λ (y : Item). y.id) is ∙ same))
    ∙ item_of_first id x xs none)
not_at id (x ∷ xs) item none (suc k) low is same =
    not_at id xs item (item_of_rest id x xs none) k (omega (arith, low)) is same

on : (b : Bool) → not b ≡ false → b ≡ true
on true e = refl
on false e = absurd (true≢false e)

module _ (w : World) (c timer : ℕ) (o : Option Item)
    (is : o ≡ item_of timer (base_of Global (cpu_of w c).bases).items) where
  pub asked : not (cpu_of w c).online ≡ false → not (cpu_of w c).idle ≡ false →
      IfSome o (IsAsked w c timer)
  asked online idle = by o refl
    where
      by : (x : Option Item) → o ≡ x → IfSome x (IsAsked w c timer)
      by None e = tt
      by (Some item) e =
          let found = found_in timer (base_of Global (cpu_of w c).bases).items item (sym is ∙ e) in
          record {
            waiting = record {
              online = on (cpu_of w c).online online;
              idle = on (cpu_of w c).idle idle;
              queued = found.0;
            };
            timers = found.1;
          }

  pub not_asked : IfNone o (HasNoReason w c timer)
  not_asked = by o refl
    where
      by : (x : Option Item) → o ≡ x → IfNone x (HasNoReason w c timer)
      by (Some item) e = tt
      by None e = λ item a.
          let at = a.waiting.queued in
          not_at timer (base_of Global (cpu_of w c).bases).items item (sym is ∙ e) at.0 at.1
          at.2 a.timers
