-- timers armed so far
use Rattle.std.proofs.Common.{◌≡◌, ℕ, ◌+◌, ◌≤◌, [], ◌∷◌, None, length, refl, ap, ◌∙◌, sym, arith, length-append}
use Rattle.std.proofs.lemmas.Option.{none-some}
use Rattle.wheel_core.specs.declared.item.Item.{Item}
use Rattle.wheel_core.specs.PlainBase.{NoneBehind, RoomyBase, added, item_of, least, on_plain, item_added}
use Rattle.wheel_core.proofs.Ids.{none_push}

pub record Armed (base : RoomyBase) (i capacity : ℕ) : Type 0 where
  pub clock : base.plain.clock ≡ 1000
  pub capacity_is : base.capacity ≡ capacity
  pub count : length base.plain.items ≡ i
  pub fresh : (id : ℕ) → i ≤ id → item_of id base.plain.items ≡ None
  pub behind : NoneBehind base.plain

pub armed_none : (base : RoomyBase) → base.plain.items ≡ [] → base.plain.clock ≡ 1000 → Armed base 0 base.capacity
armed_none base empty clock = record {
  clock = clock;
  capacity_is = refl;
  count = ap (length {A = Item}) empty;
  fresh = λ id _. ap (item_of id) empty;
  behind = λ wheel is. absurd (none-some wheel (sym (ap least empty) ∙ is));
}

pub armed_more : (base next : RoomyBase) (i capacity id expires job arg : ℕ) → Armed base i capacity → id ≡ i
    → next ≡ on_plain (added id expires job arg) base → NoneBehind next.plain → Armed next (i + 1) capacity
armed_more base next i capacity id expires job arg armed id_is is behind =
    let item = item_added base.plain.clock id expires job arg in
    let count = armed.count in
    let longer = ap (λ (b : RoomyBase). length b.plain.items) is ∙ length-append base.plain.items (item ∷ []) in
    record {
      clock = ap (λ (b : RoomyBase). b.plain.clock) is ∙ armed.clock;
      capacity_is = ap (λ (b : RoomyBase). b.capacity) is ∙ armed.capacity_is;
      count = omega arith;
      fresh = λ other above. ap (λ (b : RoomyBase). item_of other b.plain.items) is
          ∙ none_push other base.plain.items item (armed.fresh other (omega arith)) (λ same. omega arith);
      behind = behind;
    }
