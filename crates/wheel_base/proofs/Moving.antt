-- all items of one store into another
use Rattle.std.proofs.Common.{◌≡◌, ℕ, ◌+◌, ◌<◌, ◌≤◌, ◌^◌, max, List, [], ◌∷◌, ◌++◌, length, Option, Some, None, refl, ap, ◌∙◌, sym, subst, inl, inr, arith, length-append}
use Rattle.std.specs.Prelude.{◌==◌}
use Rattle.std.proofs.lemmas.Bool.{eq-eqb, cond-true}
use Rattle.std.proofs.lemmas.Option.{none-some, same_Some}
use Rattle.std.proofs.lemmas.List.{append-nil, append_assoc, length-map, map-append}
use Rattle.wheel_core.specs.declared.item.Item.{Item}
use Rattle.wheel_core.specs.PlainBase.{IsSound, least, sooner}
use Rattle.wheel_base.specs.Files.{Entry, Files, items_of, first_entry, without_key}
use Rattle.wheel_base.specs.Marks.{Among, AreNear, IsNear}
use Rattle.wheel_base.specs.Wheels.{KeepsWheel}

-- how far the move came
pub record Moved (start : List Entry) (room : ℕ) (from into : Files) : Type 0 where
  pub items : items_of into.filed ++ items_of from.filed ≡ items_of start
  pub room_is : into.room ≡ room
  pub few : length into.filed + length from.filed ≤ room

pub moved_none : (from into : Files) → into.filed ≡ [] → length from.filed ≤ into.room → Moved from.filed into.room from into
moved_none from into empty room = record {
  items = ap (λ filed. items_of filed ++ items_of from.filed) empty;
  room_is = refl;
  few = let none = ap (length {A = Entry}) empty in omega arith;
}

pub first_gone : (filed : List Entry) (key : ℕ) (item : Item) → Some (key, item) ≡ first_entry filed → filed ≡ (key, item) ∷ without_key key filed
first_gone [] key item is = absurd (none-some (key, item) (sym is))
first_gone (first ∷ filed) key item is =
    let same = same_Some (key, item) first is in
    let here = eq-eqb first.0 key (ap (λ (e : Entry). e.0) (sym same)) in
    (λ i. sym same i ∷ filed) ∙ ap (λ (r : List Entry). (key, item) ∷ r) (sym (cond-true (first.0 == key) filed (first ∷ without_key key filed) here))

pub moved_more : (start : List Entry) (room key key_now : ℕ) (item : Item) (from into from_now into_now : Files) → Moved start room from into
    → Some (key, item) ≡ first_entry from.filed → from_now.filed ≡ without_key key from.filed
    → into_now.filed ≡ into.filed ++ (key_now, item) ∷ [] → into_now.room ≡ into.room → Moved start room from_now into_now
moved_more start room key key_now item from into from_now into_now m first gone came rooms =
    let was = first_gone from.filed key item first ∙ ap (λ (r : List Entry). (key, item) ∷ r) (sym gone) in
    let long = ap (length {A = Entry}) was in
    let longer = ap (length {A = Entry}) came ∙ length-append into.filed ((key_now, item) ∷ []) in
    let few = m.few in
    let room_is = m.room_is in
    record {
      items = ap (λ filed. items_of filed ++ items_of from_now.filed) came
          ∙ (ap (λ front. front ++ items_of from_now.filed) (map-append (λ (e : Entry). e.1) into.filed ((key_now, item) ∷ []))
          ∙ (append_assoc (items_of into.filed) (item ∷ []) (items_of from_now.filed)
          ∙ (ap (λ filed. items_of into.filed ++ items_of filed) (sym was) ∙ m.items)));
      room_is = omega arith;
      few = omega arith;
    }

no_first : (filed : List Entry) → None ≡ first_entry filed → filed ≡ []
no_first [] is = refl
no_first (first ∷ filed) is = absurd (none-some first is)

pub moved_all : (start : List Entry) (room : ℕ) (from into : Files) → Moved start room from into → None ≡ first_entry from.filed → items_of into.filed ≡ items_of start
moved_all start room from into m none =
    sym (append-nil (items_of into.filed)) ∙ (ap (λ filed. items_of into.filed ++ items_of filed) (sym (no_first from.filed none)) ∙ m.items)

-- KEYS MAY DIFFER WHERE ITEMS DON'T
head_or : Item → List Item → Item
head_or other [] = other
head_or other (item ∷ items) = item

tail_of : List Item → List Item
tail_of [] = []
tail_of (item ∷ items) = items

among_items : (e : Entry) (new old : List Entry) → items_of new ≡ items_of old → Among e new → (x : Entry) × Among x old × (x.1 ≡ e.1)
unfolding head_or tail_of
among_items e [] old same among = absurd among
among_items e (n ∷ new) [] same among = let long = ap (length {A = Item}) same in absurd (omega arith)
among_items e (n ∷ new) (o ∷ old) same (inl here) =
    (o, inl refl, sym (ap (head_or n.1) same) ∙ ap (λ (x : Entry). x.1) here)
among_items e (n ∷ new) (o ∷ old) same (inr later) =
    let x = among_items e new old (ap tail_of same) later in (x.0, inr x.1, x.2)

near_items : (time : ℕ) (old new : List Entry) → items_of new ≡ items_of old → AreNear time old → AreNear time new
near_items time old new same near e among =
    let x = among_items e new old same among in subst (IsNear time) x.2 (near x.0 x.1)

same_length : (old new : List Entry) → items_of new ≡ items_of old → length new ≡ length old
same_length old new same =
    sym (length-map new (λ (e : Entry). e.1)) ∙ (ap (length {A = Item}) same ∙ length-map old (λ (e : Entry). e.1))

-- more memory
pub keeps_roomy : (files : Files) (clock : ℕ) (first : Option ℕ) (capacity wanted : ℕ) → KeepsWheel files clock first capacity → wanted ≤ files.room
    → KeepsWheel files clock first (max capacity wanted)
keeps_roomy files clock first capacity wanted keeps within =
    let few = keeps.few in
    let room = keeps.room in
    record { known = keeps.known; sound = keeps.sound; near = keeps.near; few = omega arith; room = omega arith; fits = keeps.fits }

pub keeps_moved : (old new : Files) (clock : ℕ) (first : Option ℕ) (capacity wanted : ℕ) → KeepsWheel old clock first capacity
    → items_of new.filed ≡ items_of old.filed → old.room < wanted → wanted ≤ new.room → new.room < 2 ^ 64 → KeepsWheel new clock first wanted
keeps_moved old new clock first capacity wanted keeps same small within fits =
    let long = same_length old.filed new.filed same in
    let few = keeps.few in
    let room = keeps.room in
    record {
      known = keeps.known ∙ ap least (sym same);
      sound = subst IsSound (sym same) keeps.sound;
      near = near_items (sooner clock first) old.filed new.filed same keeps.near;
      few = omega arith;
      room = within;
      fits = fits;
    }
